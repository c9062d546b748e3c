pub mod Paging
pub mod Places
pub mod Puts
