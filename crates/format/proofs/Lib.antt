-- The laws of the layout.
pub mod Sections
pub mod Read
pub mod Written
pub mod Computed
