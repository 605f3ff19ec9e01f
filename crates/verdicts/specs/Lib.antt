-- Refusals 12 to 17, the row of trials of each entry, and the table of verdicts.
pub mod Refusals
pub mod Verdicts
pub mod Fit
pub mod User
pub mod Days
