-- What `save` tells of the saved sheet.
pub mod Differing
