-- The laws of the layout.
mod Fields
pub mod Over
