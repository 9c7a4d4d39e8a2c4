pub mod FirstExchange
