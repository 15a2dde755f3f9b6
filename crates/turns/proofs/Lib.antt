pub mod Ranges
pub mod Frames
pub mod Plays
pub mod Views
pub mod Answers
pub mod Arms
