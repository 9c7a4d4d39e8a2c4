pub mod Below
pub mod FewCalls
pub mod Run
pub mod Safe
pub mod Worked
