-- The plan file's layout, and the night that its bytes hold.
pub mod Layout
pub mod Rising
