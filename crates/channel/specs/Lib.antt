-- Which channel a target addresses.
pub mod Channel
pub mod CornerColours
pub mod Slot
pub mod Within
pub mod Held
pub mod Place
pub mod Animation
