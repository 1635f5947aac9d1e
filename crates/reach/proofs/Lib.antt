-- What the comparison of two sets of keys keeps as it goes, and its laws.
pub mod Laws
pub mod Pass
pub mod Down
pub mod Answers
