-- Writing a plan file: the values, their bytes, the refusals in order, that reading gives the values back, and a table of verdicts.
pub mod Values
pub mod Writing
pub mod Back
pub mod Small
pub mod Verdicts
pub mod Days
