-- What a channel reads.
pub mod Active
pub mod Reading
pub mod Overrides
pub mod LastTarget
pub mod Ready
pub mod Plan
pub mod Numbers
pub mod Untouched
