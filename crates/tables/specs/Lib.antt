-- Tables whose tied sets stand in lent room.
pub mod Columns
