-- Document 01's table "What a call declines", over every outward call.
pub mod Outward
pub mod Table
pub mod Given
