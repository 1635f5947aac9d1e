-- What a lent line leaves of its input. A definition, which the contract cites.
pub mod Left
