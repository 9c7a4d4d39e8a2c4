-- Messages.
use Rattle.std.specs.Prelude.{Bool, ◌%◌, ◌^◌, ◌==◌, ◌<◌, ◌≤◌, length, All}
use Rattle.block_codec.specs.Protocol.{longest_text}
use Rattle.message_flow.specs.declared.message.Message.{Message}

-- the stream has seven bits, and 32,767 blocks of 244 bytes hold the text (SEMI E4, header and block number)
pub record MessageFits (message : Message) : Type 0 where
  pub stream : message.stream < 128
  pub body : length message.body ≤ longest_text

-- it fits, the function is a byte, the system bytes are four, and its text is of bytes (SEMI E4, header)
pub record IsMessage (message : Message) : Type 0 where
  pub fits : MessageFits message
  pub function : message.function < 256
  pub system : message.system < 2 ^ 32
  pub bytes : All (λ byte. byte < 256) message.body

-- the function of a primary message is odd, that of a secondary even (SEMI E5, primary and secondary)
abbrev pub is_primary : Message → Bool
is_primary message = message.function % 2 == 1
