-- Rooms that kept what stood in them, and words as numbers.
pub mod Decimal
pub mod Computed
