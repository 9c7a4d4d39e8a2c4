-- The log of two ends.
use Rattle.std.specs.Prelude.{ℕ, List, [], ◌∷◌, Option, Some, None}
use Rattle.gl_base.specs.declared.side.Side.{Side}
use Rattle.message_end.specs.Doings.{Doing}
use Rattle.message_end.specs.Doings.Doing.{Calls, Does, Gives, Says}
use Rattle.message_end.specs.Own.{Own}
use Rattle.message_end.specs.Own.Own.{ReceivedMessage, SentMessage}
use Rattle.trace_log.specs.Log.{Entry, Happening}
use Rattle.trace_log.specs.Log.Entry.{Noted}
use Rattle.trace_log.specs.Log.Happening.{Received, Sent}
use Rattle.message_end.specs.Moves.{Kind, Move}
use Rattle.message_end.specs.Moves.Kind.{Added, Changed, Did, Lost, Started}

abbrev pub noted_of_own : Own → Option Happening
noted_of_own (SentMessage message) = Some (Sent message)
noted_of_own (ReceivedMessage message) = Some (Received message)
noted_of_own _ = None

-- what an end notes of a doing
abbrev pub noted_of : Doing → Option Happening
noted_of (Does own) = noted_of_own own
noted_of (Gives place number block now) = None
noted_of (Calls call) = None
noted_of (Says what) = Some what

abbrev pub noted_at : Side → Kind → Option Happening
noted_at side (Did doing) = noted_of doing
noted_at side (Started note base) = Some note
noted_at side Lost = None
noted_at side (Changed place byte) = None
noted_at side (Added byte) = None

abbrev pub with_note : ℕ → Side → Option Happening → List Entry → List Entry
with_note moment side None log = log
with_note moment side (Some what) log = Noted moment side what ∷ log

-- what both ends note, the newest first
abbrev pub log_of : List Move → List Entry
log_of [] = []
log_of (move ∷ before) = with_note move.moment move.side (noted_at move.side move.kind) (log_of before)
