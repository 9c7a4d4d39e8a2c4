pub mod Answers
pub mod Bodies
pub mod Drafts
pub mod Events
pub mod History
pub mod Laws
pub mod Reporting
pub mod Tables
