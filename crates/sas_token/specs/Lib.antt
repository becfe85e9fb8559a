pub mod TokenReading
pub mod Tokens
