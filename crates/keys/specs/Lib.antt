-- The keys of a sheet: their rules, the ones that a sheet holds, and loading.
pub mod Rules
pub mod Kinds
pub mod Keys
pub mod ByPlace
pub mod Lanes
pub mod Checked
pub mod Alike
pub mod Stored
pub mod Load
pub mod Loading
