-- The lines that `show` writes of a capture's pieces (this profile).
use Rattle.std.specs.Prelude.{ℕ, ◌+◌, ◌==◌, Bool, List, [], ◌∷◌, ◌++◌, length, codes, decimal, if◌then◌else◌}
use Rattle.std.specs.Int.{w32, to_be_bytes}
use Rattle.hex.specs.Hex.{encode_upper}
use Rattle.block_codec.specs.Block.{BlockView}
use Rattle.block_codec.specs.Protocol.{ack, enq, eot}
use Rattle.block_codec.specs.declared.header.Header.{Header}
use Rattle.message_flow.specs.declared.flow.Flow.{Flow}
use Rattle.message_flow.specs.declared.flow.Flow.TheVariants.{Part, Whole, Duplicate, Foreign, Unexpected, TooLong, Crowded}
use Rattle.message_flow.specs.declared.message.Message.{Message}
use Rattle.short_text.specs.Name.{flag, name_of}
use Rattle.line_show.specs.Bodies.{body_text}
use Rattle.line_show.specs.Capture.{Piece, piece_bytes}
use Rattle.line_show.specs.Messages.{flow_in, with_piece}
use Rattle.line_show.specs.Capture.Piece.{Character, Framed}

-- what follows the place in the line of a block, and in that of a message: from host to equipment, or the other way
abbrev pub block_way : Bool → List ℕ
block_way from_equipment = if from_equipment then codes " BLOCK E>H dev=" else codes " BLOCK H>E dev="

abbrev pub message_way : Bool → List ℕ
message_way from_equipment = if from_equipment then codes " MESSAGE E>H " else codes " MESSAGE H>E "

-- the system bytes as eight digits
abbrev pub system_of : ℕ → List ℕ
system_of system = encode_upper (to_be_bytes w32 system)

-- place, direction, device, name, block number, system bytes, and how many bytes the body has
abbrev pub block_text : ℕ → Header → ℕ → List ℕ
block_text place header size =
    decimal place ++ block_way header.from_equipment ++ decimal header.device
    ++ codes " " ++ name_of header.stream header.function header.wait ++ codes " n=" ++ decimal header.number
    ++ flag header.last (codes " E") ++ codes " sys=" ++ system_of header.system
    ++ codes " bytes=" ++ decimal size ++ codes "\n"

-- place, direction, name and system bytes of a message
abbrev pub message_head : ℕ → Bool → Message → List ℕ
message_head place from_equipment message =
    decimal place ++ message_way from_equipment ++ name_of message.stream message.function message.wait
    ++ codes " sys=" ++ system_of message.system ++ codes " "

-- a message, at the place of its last block
abbrev pub message_text : ℕ → Bool → Message → List ℕ
message_text place from_equipment message =
    message_head place from_equipment message ++ body_text message.body ++ codes "\n"

-- What is written of what a block is. A part says nothing of its own. No block is foreign, since each direction has its
-- receiver.
abbrev pub flow_text : ℕ → Bool → Flow → List ℕ
flow_text place from_equipment Part = []
flow_text place from_equipment (Whole message check) = message_text place from_equipment message
flow_text place from_equipment Duplicate = decimal place ++ codes " duplicate\n"
flow_text place from_equipment (Foreign address) = []
flow_text place from_equipment Unexpected = decimal place ++ codes " unexpected\n"
flow_text place from_equipment TooLong = decimal place ++ codes " too long\n"
flow_text place from_equipment Crowded = decimal place ++ codes " crowded\n"

-- the same up to a message's text, and from there to the end of its line
abbrev pub flow_head : ℕ → Bool → Flow → List ℕ
flow_head place from_equipment Part = []
flow_head place from_equipment (Whole message check) = message_head place from_equipment message
flow_head place from_equipment Duplicate = decimal place ++ codes " duplicate\n"
flow_head place from_equipment (Foreign address) = []
flow_head place from_equipment Unexpected = decimal place ++ codes " unexpected\n"
flow_head place from_equipment TooLong = decimal place ++ codes " too long\n"
flow_head place from_equipment Crowded = decimal place ++ codes " crowded\n"

abbrev pub flow_rest : Flow → List ℕ
flow_rest Part = []
flow_rest (Whole message check) = body_text message.body ++ codes "\n"
flow_rest Duplicate = []
flow_rest (Foreign address) = []
flow_rest Unexpected = []
flow_rest TooLong = []
flow_rest Crowded = []

-- the name of a character; no other byte stands between frames (SEMI E4, handshake)
abbrev pub character_name : ℕ → List ℕ
character_name byte =
    if byte == enq then codes "ENQ" else if byte == eot then codes "EOT"
    else if byte == ack then codes "ACK" else codes "NAK"

abbrev pub character_text : ℕ → ℕ → List ℕ
character_text place byte = decimal place ++ codes " " ++ character_name byte ++ codes "\n"

-- the lines of a block at a place, which is this
abbrev pub block_lines : ℕ → BlockView → Flow → List ℕ
block_lines place block flow =
    block_text place block.header (length block.body) ++ flow_text place block.header.from_equipment flow

-- the same up to a message's text
abbrev pub block_head : ℕ → BlockView → Flow → List ℕ
block_head place block flow =
    block_text place block.header (length block.body) ++ flow_head place block.header.from_equipment flow

-- the lines of a piece at a place, behind these blocks
abbrev pub piece_lines : ℕ → List BlockView → Piece → List ℕ
piece_lines place before (Character byte) = character_text place byte
piece_lines place before (Framed block) = block_lines place block (flow_in before block)

-- the lines of pieces one after another, from a place on, behind these blocks
abbrev pub lines_from : ℕ → List BlockView → List Piece → List ℕ
lines_from place before [] = []
lines_from place before (piece ∷ pieces) =
    piece_lines place before piece ++ lines_from (place + length (piece_bytes piece)) (with_piece before piece) pieces

-- the lines of a capture's pieces
abbrev pub lines_of : List Piece → List ℕ
lines_of pieces = lines_from 0 [] pieces
