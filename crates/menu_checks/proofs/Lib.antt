-- How a call's rows are asked in parts.
pub mod Behind
