-- The laws on sets, each once over the count or the width.
pub mod Members
pub mod Words
