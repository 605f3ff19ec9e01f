-- What the answers rest on.
pub mod Answered
mod Retaken
