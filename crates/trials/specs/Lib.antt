-- Refusals 1 to 11, in order, what is promised of an accepted file, and a table of verdicts.
pub mod Rules
pub mod Trials
pub mod Small
pub mod Verdicts
pub mod Days
