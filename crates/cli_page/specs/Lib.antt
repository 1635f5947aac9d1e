-- What stands on a page. A definition, which the contracts cite.
pub mod Page
-- A law, which proofs of crates above cite.
pub mod Within
