-- The characters and the lengths of the line (SEMI E4).
use Rattle.std.specs.Prelude.{ℕ}

-- the characters of the handshake: a request to send, the grant of it, a good block and a bad one
abbrev pub enq : ℕ
enq = 5

abbrev pub eot : ℕ
eot = 4

abbrev pub ack : ℕ
ack = 6

abbrev pub nak : ℕ
nak = 21

-- how many bytes a header has, and how many a body has at most
abbrev pub header_length : ℕ
header_length = 10

abbrev pub longest_body : ℕ
longest_body = 244

-- the highest length byte: header and longest body
abbrev pub most_counted : ℕ
most_counted = 254

-- how many bytes a frame has, with its length byte and the two of its sum: without a body, and with the longest
abbrev pub shortest_frame : ℕ
shortest_frame = 13

abbrev pub longest_frame : ℕ
longest_frame = 257

-- how many blocks a message has at most, since a block's number has 15 bits, and how many bytes of text these carry
abbrev pub most_blocks : ℕ
most_blocks = 32767

abbrev pub longest_text : ℕ
longest_text = 7995148
