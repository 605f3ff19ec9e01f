-- Laws on what is read, and what is read together.
pub mod PlainLaws
pub mod TogetherLaws
