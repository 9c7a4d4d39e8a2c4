mod Measured
mod Reading
mod Refusing
