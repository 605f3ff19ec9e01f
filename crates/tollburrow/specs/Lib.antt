-- What the functions for other languages say.
pub mod Codes
pub mod Once
