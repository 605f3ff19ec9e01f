-- What reading answers, and what its loops have at hand.
pub mod HasVisible
pub mod Answers
