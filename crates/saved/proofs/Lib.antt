-- The laws that the proofs of this crate cite; what a written sheet reads back as.
pub mod Laws
pub mod Back
