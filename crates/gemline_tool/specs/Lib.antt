pub mod News
