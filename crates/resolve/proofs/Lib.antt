-- What the two passes of this crate keep; which rows of the cascade differing keys leave as they were.
pub mod Pass
pub mod Down
pub mod Untouched
