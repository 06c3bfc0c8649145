pub mod Answers
pub mod Soundness
pub mod Cut
pub mod Given
pub mod Playing
pub mod Pending
pub mod Numbers
pub mod Checksums
