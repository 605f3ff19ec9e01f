-- The run of a plan and its keys, and computed runs. No profile, tied set, least view or candidate stands in this crate or in one below it.
pub mod Linked
pub mod Keys
pub mod Run
pub mod Runs
