-- What a loop that writes f32s keeps.
pub mod Writing
