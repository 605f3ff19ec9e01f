-- What the candidate pass asks of subjects, holds on its way, and answers.
pub mod Answers
pub mod Asked
pub mod Seen
pub mod Walk
