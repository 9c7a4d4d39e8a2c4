-- A sink in memory: the calls whose numbers it was given fail, and those whose bytes have no room; no others do (this
-- profile).
use Rattle.std.specs.Prelude.{ℕ, ◌+◌, ◌-◌, Bool, ◌||◌, nat_lt, List, ◌++◌, length, if◌then◌else◌}
use Rattle.gl_base.specs.Calls.{with_call, with_fault, fails_next, is_safe}
use Rattle.gl_base.specs.declared.calls.Calls.{Calls}
use Rattle.gl_base.specs.Sink.{SinkHealth}
use Rattle.gl_base.specs.declared.sink.WriteAnswer.{WriteAnswer}
use Rattle.gl_base.specs.declared.sink.WriteAnswer.TheVariants.{Took, Failed}

-- what was received, for how much there is room, and the calls so far
pub record SinkState : Type 0 where
  pub received : List ℕ
  pub room : ℕ
  pub calls : Calls

-- sure room is only where no call is to fail
abbrev pub sink_health : SinkState → SinkHealth
sink_health s = record { faults = s.calls.faults; room = if is_safe s.calls then s.room - length s.received else 0 }

abbrev pub refuses : List ℕ → SinkState → Bool
refuses bytes s = fails_next s.calls || nat_lt s.room (length s.received + length bytes)

-- what a write answers: it takes all bytes or none
abbrev pub answer_to_write : List ℕ → SinkState → WriteAnswer
answer_to_write bytes s = if refuses bytes s then Failed else Took (length bytes)

-- and the sink after it
abbrev pub after_write : List ℕ → SinkState → SinkState
after_write bytes s =
    if refuses bytes s then record s { calls = with_fault (with_call s.calls) }
    else record s { received = s.received ++ bytes; calls = with_call s.calls }
