-- The laws that the proofs of this crate cite.
pub mod Order
pub mod Numbers
pub mod Kept
pub mod Exactly
