-- What the choice rests on.
pub mod Sets
pub mod Held
pub mod Offers
pub mod Answered
mod Users
