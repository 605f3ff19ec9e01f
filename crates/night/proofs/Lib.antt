-- Laws on nights.
pub mod Computed
pub mod Said
pub mod Children
pub mod Views
pub mod Days
pub mod Visible
pub mod Kept
pub mod Defaults
