-- What calls take, and when it is declined; how much a sheet and a book hold.
pub mod Rows
pub mod Lent
pub mod Checks
pub mod Counts
