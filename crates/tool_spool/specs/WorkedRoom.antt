-- What is said of a full spool, in examples that can be followed by hand. The newest comes first.
use Rattle.std.specs.Prelude.{List, [], ◌∷◌, Some}
use Rattle.trace_log.specs.declared.names.Cause.TheVariants as cause
use Rattle.trace_log.specs.Log.{Happening}
use Rattle.trace_log.specs.Names.{Spooled, spooled_name}
use Rattle.tool_spool.specs.MadeRoom.{IsRoomUsed, MakesRoomForPuts}

-- the spool holds this under number 7, which is overwritten for a report
abbrev pub overwritten : Spooled → Spooled → List Happening
overwritten oldest report =
    Happening.Gone 7 ∷ Happening.Leaving 7 cause.Overwritten (Some report)
    ∷ Happening.EquipmentStarted ((7, oldest) ∷ []) 0 ∷ []

-- it is put then; or it is discarded
abbrev pub put_over : Spooled → Spooled → List Happening
put_over oldest report = Happening.Stored 8 ∷ Happening.Storing 8 report ∷ overwritten oldest report

abbrev pub discarded_over : Spooled → Spooled → List Happening
discarded_over oldest report = Happening.Discarded (spooled_name report) ∷ overwritten oldest report

-- so it is where something else is noted between
abbrev pub discarded_apart : Spooled → Spooled → List Happening
discarded_apart oldest report =
    Happening.Discarded (spooled_name report) ∷ Happening.Gone 7 ∷ Happening.Event 1 0
    ∷ Happening.Leaving 7 cause.Overwritten (Some report) ∷ Happening.EquipmentStarted ((7, oldest) ∷ []) 0 ∷ []

-- two are overwritten for one report
abbrev pub put_over_two : Spooled → Spooled → Spooled → List Happening
put_over_two oldest second report =
    Happening.Stored 9 ∷ Happening.Storing 9 report ∷ Happening.Gone 8
    ∷ Happening.Leaving 8 cause.Overwritten (Some report) ∷ Happening.Gone 7
    ∷ Happening.Leaving 7 cause.Overwritten (Some report)
    ∷ Happening.EquipmentStarted ((7, oldest) ∷ (8, second) ∷ []) 0 ∷ []

-- one is overwritten for a report, and another message is put
abbrev pub event : Spooled
event = record { stream = 6; function = 11; body = [] }

abbrev pub alarm : Spooled
alarm = record { stream = 5; function = 1; body = [] }

abbrev pub another_over : Spooled → List Happening
another_over oldest = Happening.Storing 8 alarm ∷ overwritten oldest event

pub record RoomIsMadeForPuts : Type 0 where
  pub put : (oldest report : Spooled) → MakesRoomForPuts (put_over oldest report)
  pub used : (oldest report : Spooled) → IsRoomUsed (put_over oldest report)
  pub discarded : (oldest report : Spooled) → MakesRoomForPuts (discarded_over oldest report) → ⊥
  pub apart : (oldest report : Spooled) → MakesRoomForPuts (discarded_apart oldest report) → ⊥
  pub left : (oldest report : Spooled) → IsRoomUsed (overwritten oldest report) → ⊥
  pub two : (oldest second report : Spooled) → MakesRoomForPuts (put_over_two oldest second report)
  pub another : (oldest : Spooled) → MakesRoomForPuts (another_over oldest) → ⊥
