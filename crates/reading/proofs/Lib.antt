-- What a plan tells, and what the pass over its targets keeps; the last-target rule; what one track's keys leave as it was.
pub mod Planning
pub mod Pass
pub mod Untouched
pub mod LastTarget
