-- What the choice answers, and what its code holds.
pub mod Answers
pub mod Held
pub mod Kept
