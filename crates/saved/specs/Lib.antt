-- A sheet written with other keys.
pub mod Saved
