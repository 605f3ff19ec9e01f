-- What the writer answers.
pub mod Answers
