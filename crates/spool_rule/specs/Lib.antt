pub mod Laws
pub mod Reply
pub mod Rule
