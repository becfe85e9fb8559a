pub mod JoinedFields
pub mod PublicAccess
