-- How a number is written. Definitions, which the contracts cite.
pub mod Numbers
-- Laws on them.
pub mod Grown
