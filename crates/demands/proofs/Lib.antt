-- The proofs of the statements over bytes.
pub mod SampleVerdicts
pub mod Marked
pub mod Leaves
pub mod Why
pub mod SampleRuns
pub mod Demand3
pub mod User
pub mod Days
