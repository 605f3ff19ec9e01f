-- The laws of what is stored, and of the values that are handed in.
mod Put
mod Parts
mod Section
pub mod Places
mod Whole
pub mod Encoded
