pub mod Breaking
pub mod Form
pub mod InMemory
pub mod LeftAnew
