-- Document 01, "UVs and corners": the UV block, and the refusals of its call.
pub mod Uvs
pub mod Layers
pub mod Sets
pub mod Declined
pub mod Calls
