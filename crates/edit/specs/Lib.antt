-- Edits of one key, and the keys of a sheet.
pub mod Keys
pub mod Edit
pub mod Spot
pub mod Put
pub mod Accepted
pub mod Edits
pub mod Over
pub mod Unchanged
