-- What the probes test before they read.
pub mod Readable
