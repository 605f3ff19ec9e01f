-- What encoding is handed, and what it makes of it.
pub mod Stored
pub mod Encoded
