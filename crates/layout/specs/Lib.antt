-- What is said of a plan file that is read through its header.
pub mod Held
