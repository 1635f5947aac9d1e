-- resolving and the cascade.
pub mod Resolve
pub mod Row
pub mod Own
pub mod Cascade
pub mod Tables
pub mod Textures
pub mod Follow
pub mod Untouched
