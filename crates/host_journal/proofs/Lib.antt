pub mod OneWork
