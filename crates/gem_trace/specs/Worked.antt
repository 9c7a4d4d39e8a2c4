-- A trace of two samples, that can be followed by hand.
use Rattle.std.specs.Prelude.{◌≡◌, ℕ, List, [], ◌∷◌, Some, None}
use Rattle.secs_items.specs.declared.item.Item.{Item}
use Rattle.secs_items.specs.declared.item.Item.TheVariants as item
use Rattle.gem_vars.specs.Tables.{VarsTable}
use Rattle.gem_trace.specs.declared.request.TraceRequest.{TraceRequest}
use Rattle.gem_trace.specs.declared.request.Tiaack.TheVariants as tiaack
use Rattle.gem_trace.specs.History.{Look, StandsFor, TraceEntry, bodies_at, traces_at}
use Rattle.gem_trace.specs.History.TraceEntry.{Set, Step}
use Rattle.gem_trace.specs.Period.{period_of}
use Rattle.gem_trace.specs.Settings.{tiaack_of}
use Rattle.gem_trace.specs.Traces.{Running}

-- variable 1 alone, with this value
abbrev pub one_holds : ℕ → VarsTable
one_holds value = record {
  variables = (1, record { name = []; units = []; value = item.U4 (value ∷ []) }) ∷ [];
  constants = [];
}

-- TRID 1, this DSPER, two samples, and of these variables
abbrev pub asks : List ℕ → ℕ → List ℕ → TraceRequest
asks dsper group svids = record { trid = 1; dsper = dsper; total = 2; group = group; svids = svids }

-- 000001 and 000060
abbrev pub each_second : List ℕ
each_second = 48 ∷ 48 ∷ 48 ∷ 48 ∷ 48 ∷ 49 ∷ []

abbrev pub sixty_seconds : List ℕ
sixty_seconds = 48 ∷ 48 ∷ 48 ∷ 48 ∷ 54 ∷ 48 ∷ []

-- 00000009 and 00000010
abbrev pub ninety_ms : List ℕ
ninety_ms = 48 ∷ 48 ∷ 48 ∷ 48 ∷ 48 ∷ 48 ∷ 48 ∷ 57 ∷ []

abbrev pub hundred_ms : List ℕ
hundred_ms = 48 ∷ 48 ∷ 48 ∷ 48 ∷ 48 ∷ 48 ∷ 49 ∷ 48 ∷ []

abbrev pub two_of_one : TraceRequest
two_of_one = asks each_second 2 (1 ∷ [])

abbrev pub at : ℕ → ℕ → Look
at value now = record { vars = one_holds value; now = now }

-- the trace is set at 0, and a step at 1000 takes the first sample
abbrev pub one_sample : List TraceEntry
one_sample = Set two_of_one 0 ∷ Step (at 7 1000) ∷ []

-- TRID 1, SMPLN 2, no STIME, and both values
abbrev pub seven_and_nine : Item
seven_and_nine =
    item.L (item.U4 (1 ∷ []) ∷ item.U4 (2 ∷ []) ∷ item.A []
    ∷ item.L (item.U4 (7 ∷ []) ∷ item.U4 (9 ∷ []) ∷ []) ∷ [])

-- what S2F23 is answered where no trace runs, and what the samples of one trace bring
pub record TwoSamplesAreWorked : Type 0 where
  pub taken : tiaack_of (one_holds 7) [] two_of_one ≡ tiaack.Done
  pub early : bodies_at one_sample (at 9 1999) ≡ []
  pub due : bodies_at one_sample (at 9 2000) ≡ seven_and_nine ∷ []
  pub over : traces_at (Set two_of_one 0 ∷ Step (at 7 1000) ∷ Step (at 9 2000) ∷ []) ≡ []
  pub long : tiaack_of (one_holds 7) [] (asks sixty_seconds 2 (1 ∷ [])) ≡ tiaack.BadPeriod
  pub group : tiaack_of (one_holds 7) [] (asks each_second 3 (1 ∷ [])) ≡ tiaack.BadGroup
  pub unknown : tiaack_of (one_holds 7) [] (asks each_second 2 (99 ∷ [])) ≡ tiaack.Unknown 99
  pub short : period_of ninety_ms ≡ None
  pub shortest : period_of hundred_ms ≡ Some 100

-- a table that keeps the trace behind its last sample doesn't stand for that history
abbrev pub NoTraceOutlivesItsTotal : Type 0
NoTraceOutlivesItsTotal =
    (trace : Running) (more : List Running)
    → StandsFor (trace ∷ more) (Set two_of_one 0 ∷ Step (at 7 1000) ∷ Step (at 9 2000) ∷ []) → ⊥
