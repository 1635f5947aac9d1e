-- The known poses of UVs.
pub mod Known
