-- What the fields of a node say by themselves, where it names no pairs.
pub mod Plain
