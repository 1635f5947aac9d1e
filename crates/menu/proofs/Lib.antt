-- What a player whose state is not broken allows.
pub mod Sounds
