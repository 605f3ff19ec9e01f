-- The table of verdicts, computed.
pub mod Computed
pub mod Fit
pub mod User
pub mod Days
