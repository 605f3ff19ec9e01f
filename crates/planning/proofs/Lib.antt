-- What the planner's answers rest on.
pub mod Answered
pub mod Planned
pub mod Questions
pub mod Short
pub mod Once
