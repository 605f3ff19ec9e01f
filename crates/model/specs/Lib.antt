-- Tables, candidates, why a subject is none, the cheapest choice, the built plan, and demand 3 over a night.
pub mod Ties
pub mod Tables
pub mod Candidates
pub mod Reasons
pub mod Standings
pub mod OneTest
pub mod OnePair
pub mod Choice
pub mod Order
pub mod Dp
pub mod Plan
pub mod User
pub mod Demand
pub mod Days
pub mod ByDay
