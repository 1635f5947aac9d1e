-- What the calls answer: the definitions of `menu`, `uv` and `corner`, as structs of numbers.
pub mod Answers
pub mod Naming
pub mod Long
