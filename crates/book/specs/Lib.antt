-- The book: its sizes, its rows, what makes it a book, and what a checked one tells.
pub mod Sizes
pub mod Rows
pub mod Book
pub mod Tested
pub mod Checked
