pub mod StarredNumbers
