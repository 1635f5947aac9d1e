-- The laws that the proofs of this crate cite; when an edit is unchanged.
pub mod Unchanged
