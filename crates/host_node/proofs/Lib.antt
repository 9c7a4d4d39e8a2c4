mod Overdue
mod Reading
mod Texts
mod Turned
