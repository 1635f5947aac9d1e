-- The readings: each call's list of refusals and its answer.
pub mod Lent
pub mod Rows
pub mod Readings
pub mod Slots
pub mod Handed
pub mod Ready
