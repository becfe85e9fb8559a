pub mod Base64
