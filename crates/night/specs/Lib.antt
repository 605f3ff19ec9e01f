-- A night: the values of one plan file, and what document 01 says of them.
pub mod Versions
pub mod Refusals
pub mod ByVersion
pub mod Night
pub mod Kinds
pub mod Views
pub mod Promised
pub mod Days
pub mod ByDay
