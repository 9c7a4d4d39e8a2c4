-- When a secondary answers a primary.
use Rattle.std.specs.Prelude.{◌≡◌, Bool, true, ◌+◌, ◌%◌, ◌==◌, ◌&&◌, ◌||◌, not}
use Rattle.std.specs.Bool.{beq}
use Rattle.block_codec.specs.Header.{Fits}
use Rattle.block_codec.specs.declared.header.Header.{Header}

-- a header is of a primary that awaits a reply: it fits, its function is odd and the W bit is set (SEMI E5,
-- transaction)
pub record AwaitsReply (header : Header) : Type 0 where
  pub fits : Fits header
  pub odd : header.function % 2 ≡ 1
  pub wait : header.wait ≡ true

-- a secondary answers a primary: it has the same system bytes and stream, no W bit and another R bit, and its
-- function is the primary's plus one, or 0, which aborts the transaction (SEMI E5, transaction)
abbrev pub matches : (primary secondary : Header) → Bool
matches primary secondary =
    (secondary.system == primary.system) && (secondary.stream == primary.stream) && not secondary.wait
    && not (beq secondary.from_equipment primary.from_equipment)
    && ((secondary.function == primary.function + 1) || (secondary.function == 0))
