pub mod Rows
pub mod Lists
