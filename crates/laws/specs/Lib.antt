-- What every layer's definitions share.
pub mod Choose
pub mod First
pub mod Trials
pub mod Upwards
pub mod InOrder
pub mod BigEndian
pub mod Sums
