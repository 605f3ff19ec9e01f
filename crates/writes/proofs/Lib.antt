-- The table of verdicts, computed; the laws of what is written.
pub mod Computed
pub mod Counted
mod Sections
pub mod ReadBack
pub mod Judged
pub mod Again
pub mod Days
