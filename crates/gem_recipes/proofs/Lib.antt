mod Empty
mod Exchanges
mod History
mod Names
mod Numbers
mod Serving
mod Worked
