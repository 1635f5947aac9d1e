-- Document 01, "UVs and corners": the corners of a pane, and the refusals of its calls.
pub mod Corners
pub mod Turns
pub mod Declined
pub mod Calls
pub mod Refused
