-- How the grants are gone through.
pub mod Stretch
