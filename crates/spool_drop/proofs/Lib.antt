mod Drops
mod Dropped
