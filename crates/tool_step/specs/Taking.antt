-- The turns of an unload behind the read of the oldest message.
use Rattle.std.specs.Prelude.{ℕ, length, Option, Some, None}
use Rattle.trace_log.specs.Names.{Spooled}
use Rattle.message_end.specs.Core.{EndView}
use Rattle.spool_ledger.specs.Unloading.{taken_up}
use Rattle.tool_step.specs.declared.kind.Kind.{Kind}
use Rattle.tool_step.specs.Own.{OwnView, ToolPart, ToolTurn, quiet_turn, turn_behind, with_ledger}
use Rattle.tool_step.specs.Sent.{grant_item, text_of}
use Rattle.tool_step.specs.Spooling.{dataid_in, inquiry_turn, lines_commands, taking_turn}

-- the oldest message, which was read, is taken up under its number
abbrev pub taking : Option (ℕ × Spooled) → ToolPart
taking None own e = quiet_turn own
taking (Some oldest) own e = taking_turn (Some oldest.0) (Some oldest.1) own e

-- an S6F11 of several blocks is taken up under these system bytes, and waits for a grant
abbrev pub waiting_turn : ℕ → ℕ → Spooled → OwnView → EndView Kind → ToolTurn
waiting_turn number system message own e =
    let booked = taken_up number system (Some message.body) own.ledger in
    turn_behind (lines_commands booked.lines)
    (inquiry_turn (text_of own (grant_item (dataid_in message.body) (length message.body)))
    (with_ledger booked.next own) e)
