-- Laws on what is read together.
mod OneByOne
