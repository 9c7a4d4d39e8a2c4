mod History
mod Spelled
