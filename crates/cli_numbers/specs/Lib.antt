-- What is written of a number. Definitions, which the contracts cite.
pub mod Text
-- A law, which proofs cite.
pub mod Within
