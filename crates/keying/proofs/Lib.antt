-- What the keys' loops work out.
pub mod Grouped
