-- What the answers leave no choice in.
pub mod Answered
pub mod Computed
pub mod Tried
