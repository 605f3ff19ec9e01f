-- The nodes of a plan as events, and the delivery.
pub mod Nodes
pub mod Parts
