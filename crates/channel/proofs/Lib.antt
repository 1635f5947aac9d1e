-- Where a channel stands; that it is one of the book's; the corner colours by name and by number.
pub mod Places
pub mod Inside
pub mod Corners
