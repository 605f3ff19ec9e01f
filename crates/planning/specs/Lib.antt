-- What the planner's entries answer.
pub mod Answers
pub mod Once
