-- The plain machine, the calls, their answers, and small sheets and books with known poses.
pub mod Runs
pub mod Asks
pub mod Calls
pub mod Plain
pub mod Moved
pub mod Small
pub mod Computed
pub mod Poses
