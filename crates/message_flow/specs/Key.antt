-- What tells the blocks of one message from those of others.
use Rattle.std.specs.Prelude.{Bool, false, ◌==◌, ◌&&◌, Option, Some, None}
use Rattle.std.specs.Bool.{beq}
use Rattle.block_codec.specs.declared.header.Header.{Header}

-- two headers have the same key: only their E bits and block numbers may differ (SEMI E4, message identifier)
abbrev pub same_key : Header → Header → Bool
same_key a b =
    beq a.from_equipment b.from_equipment && (a.device == b.device) && (a.stream == b.stream) && beq a.wait b.wait
    && (a.function == b.function) && (a.system == b.system)

-- two headers have the same ten bytes: the same key, E bit and block number (SEMI E4, duplicate block)
abbrev pub same_header : Header → Header → Bool
same_header a b = same_key a b && beq a.last b.last && (a.number == b.number)

-- the block that came last has this header (SEMI E4, duplicate block)
abbrev pub is_given : Option Header → Header → Bool
is_given None header = false
is_given (Some last) header = same_header last header
