-- The laws that every layer's proofs share.
pub mod Cases
pub mod First
pub mod Search
pub mod Trials
pub mod Computed
pub mod Upwards
pub mod Front
pub mod Parts
pub mod Stored
pub mod InOrder
pub mod BigEndian
pub mod Sums
