-- What the numbers rest on.
pub mod Coded
pub mod Told
pub mod Once
pub mod Computed
