-- The computed runs.
pub mod Forms
pub mod Computed
pub mod Pairs
pub mod Harmless
