-- A source in memory: the calls whose numbers it was given fail, all of them and no others (this profile).
use Rattle.std.specs.Prelude.{ℕ, ◌==◌, min, List, ◌++◌, length, drop, take, if◌then◌else◌}
use Rattle.gl_base.specs.Calls.{with_call, with_fault, fails_next, is_safe}
use Rattle.gl_base.specs.declared.calls.Calls.{Calls}
use Rattle.gl_base.specs.Source.{SourceHealth}
use Rattle.gl_base.specs.declared.source.ReadAnswer.{ReadAnswer}
use Rattle.gl_base.specs.declared.source.ReadAnswer.TheVariants.{Took, End, Failed}

-- the bytes that are left, and the calls so far
pub record SourceState : Type 0 where
  pub left : List ℕ
  pub calls : Calls

abbrev pub source_health : SourceState → SourceHealth
source_health s = record { faults = s.calls.faults; reliable = is_safe s.calls }

-- what a read of up to `room` bytes answers: as many bytes as are left and there is room for
abbrev pub answer_to_read : ℕ → SourceState → ReadAnswer
answer_to_read room s =
    if fails_next s.calls then Failed else if length s.left == 0 then End else Took (min (length s.left) room)

-- the buffer after a read: the bytes that were taken, and behind them what stood there
abbrev pub buffer_after : SourceState → List ℕ → ReadAnswer → List ℕ
buffer_after s into (Took n) = take n s.left ++ drop n into
buffer_after s into End = into
buffer_after s into Failed = into

-- and the source after it
abbrev pub after_read : ℕ → SourceState → SourceState
after_read room s =
    if fails_next s.calls then record s { calls = with_fault (with_call s.calls) }
    else record { left = drop (min (length s.left) room) s.left; calls = with_call s.calls }
