pub mod History
pub mod Laws
pub mod Matching
pub mod Numbers
pub mod Transactions
