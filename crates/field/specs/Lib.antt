-- What fields of a list of bytes hold: numbers, and names of 24 bytes.
pub mod Read
pub mod Name
pub mod Same
pub mod Table
pub mod Word
pub mod Bucket
pub mod Index
pub mod Write
