-- The known poses of corners.
pub mod Known
