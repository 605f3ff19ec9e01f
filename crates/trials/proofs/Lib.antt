-- The table of verdicts, computed; the proof that an accepted file has the promised facts, part by part.
pub mod Computed
pub mod SoundRecords
pub mod SoundNodes
pub mod SoundPrices
pub mod Opened
pub mod Promises
pub mod Days
