-- What differing keys reach.
pub mod Touched
pub mod Calls
pub mod Ready
pub mod Sheets
pub mod Apart
pub mod Law
pub mod OneTrack
pub mod InTime
