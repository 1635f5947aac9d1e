-- The rules of a sheet, of a book and of stored keys as lists of tests, and the first that is broken.
pub mod Tests
pub mod Verdict
pub mod Loops
pub mod Sheet
pub mod Keys
pub mod Load
pub mod Names
pub mod Book
