pub mod Frames
pub mod ReadFrames
pub mod Crashes
pub mod WordDigests
