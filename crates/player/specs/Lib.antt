-- The player, its journal, its drag and its state.
pub mod Journal
pub mod Drag
pub mod Parts
pub mod Player
pub mod View
pub mod Ticked
pub mod Edited
pub mod Dragged
pub mod Undo
pub mod Counts
pub mod Sound
pub mod Takes
pub mod Room
