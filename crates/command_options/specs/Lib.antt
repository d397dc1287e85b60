pub mod Given
pub mod Numbers
pub mod Laws
pub mod Words
