pub mod Arranged
pub mod Authorizations
pub mod Parameters
pub mod Readings
pub mod Rooms
pub mod Strings
