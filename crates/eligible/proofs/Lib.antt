-- How tied sets are tied in place, what is asked of subjects, what every subject sees, what the walk leaves, node by node and from the root, why a
-- subject is out, and that each answer is one.
pub mod Asked
pub mod Closed
pub mod Fills
pub mod Once
pub mod Passes
pub mod Questions
pub mod SeenHeld
pub mod SeenOnce
pub mod Tied
pub mod Walks
mod Tying
