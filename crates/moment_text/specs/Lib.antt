pub mod Civil
pub mod Http
pub mod Iso
pub mod IsoReader
