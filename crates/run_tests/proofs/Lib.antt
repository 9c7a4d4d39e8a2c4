mod FirstExchange
