pub mod Files
pub mod Sizes
pub mod Optional
pub mod Words
pub mod Given
pub mod Explained
