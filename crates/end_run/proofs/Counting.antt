-- Counts of faults, one call behind the other.
use Rattle.std.proofs.Common.{◌≡◌, ℕ, Bool, List, [], Option, Some, None, Result, Ok, Err, inl, inr, refl, subst, arith}
use Rattle.gl_base.specs.Sending.{WroteText}
use Rattle.gl_base.specs.Told.{SinkTold}
use Rattle.message_end.specs.declared.end.Stop.{Stop}
use Rattle.message_end.specs.declared.end.Stop.TheVariants as stop
use Rattle.message_end.specs.Core.{Went}
use Rattle.message_end.specs.Ends.{Leaves, Uses, none_asked}
use Rattle.message_flow.specs.declared.step.StepOut.{StepOut}
use Rattle.trace_log.specs.Log.{Happening}
use Rattle.end_run.specs.declared.ending.Ending.{Ending}
use Rattle.end_run.specs.declared.ending.Ending.TheVariants.{Closed, DiskFailed, Full, LinkFailed, NoMemory, NumbersSpent, Stopped, Turns, WriteFailed}
use Rattle.end_run.specs.Calls.{EndsWith, PutsAsCan, PutsStart}
use Rattle.end_run.specs.Counts.{Counted, Counts, CountsNone, Device, DeviceFails, StepCounts, counted_by, no_device}

-- nothing was counted before
pub counts_behind :
    {F : Type 0} (a b c : Counted F) (result : Option Ending) → CountsNone a b → Counts b c result → Counts a c result
counts_behind {F} a b c result none more =
    subst (λ (n : ℕ). Counts (counted_by n a.out a.disk) c result) none.0
    (subst (λ (n : ℕ). Counts (counted_by b.link n a.disk) c result) none.1
    (subst (λ (d : Device F). Counts (counted_by b.link b.out d) c result) none.2 more))

-- a step without a disk
pub counts_no_disk :
    {S : Type 0} (lacks_room : Bool) (went : Went S Happening) (next : S) (out : StepOut)
    (result : Result (Unit {0}) Stop)
    → Leaves [] lacks_room went next out result → StepCounts no_device no_device result
counts_no_disk lacks_room went next out (Ok done) leaves = refl
counts_no_disk lacks_room went next out (Err stop.NumbersSpent) leaves = refl
counts_no_disk lacks_room went next out (Err stop.Full) leaves = refl
counts_no_disk lacks_room went next out (Err stop.NoMemory) leaves = refl
counts_no_disk lacks_room went next out (Err stop.DiskFailed) halt = absurd halt.may

pub uses_no_disk :
    {S : Type 0} (lacks_room : Bool) (went : Went S Happening) (next : S) (out : StepOut)
    (result : Result (Unit {0}) Stop)
    → Leaves [] lacks_room went next out result → Uses none_asked none_asked none_asked result
uses_no_disk lacks_room went next out (Ok done) leaves = record { calls = omega arith; bytes = omega arith }
uses_no_disk lacks_room went next out (Err stop.NumbersSpent) leaves = tt
uses_no_disk lacks_room went next out (Err stop.Full) leaves = tt
uses_no_disk lacks_room went next out (Err stop.NoMemory) leaves = tt
uses_no_disk lacks_room went next out (Err stop.DiskFailed) halt = absurd halt.may

-- nothing but the output was called
abbrev pub before_call : {F : Type 0} → ℕ → Device F → SinkTold → Counted F
before_call link disk out = counted_by link out.health.faults disk

abbrev pub after_call : {F : Type 0} → ℕ → Device F → SinkTold → Counted F
after_call link disk out = counted_by link out.health_after.faults disk

module _ {F : Type 0} (link : ℕ) (disk : Device F) (out : SinkTold) where
  pub wrote_counts :
      (text : List ℕ) → WroteText out text → CountsNone (before_call link disk out) (after_call link disk out)
  wrote_counts text wrote = (refl, wrote.health.same, refl)

  pub ends_count : (text : List ℕ) (how result : Ending) → EndsWith out text how result
      → Counts (before_call link disk out) (after_call link disk out) (Some result)
  ends_count text how Stopped ends = wrote_counts text ends.1
  ends_count text how Closed ends = wrote_counts text ends.1
  ends_count text how Turns ends = wrote_counts text ends.1
  ends_count text how NumbersSpent ends = wrote_counts text ends.1
  ends_count text how Full ends = wrote_counts text ends.1
  ends_count text how DiskFailed ends = absurd ends
  ends_count text how LinkFailed ends = absurd ends
  ends_count text how WriteFailed short = (refl, short.fault.rose, refl)
  ends_count text how NoMemory none = wrote_counts [] none

  -- the disk failed before
  pub puts_count : (failed : Device F) (text : List ℕ) (result : Ending) → result ≡ DiskFailed
      → DeviceFails disk failed → PutsAsCan out text
      → Counts (before_call link disk out) (after_call link failed out) (Some result)
  puts_count failed text DiskFailed is fails (inl all) = (refl, inl all.health.same, fails)
  puts_count failed text DiskFailed is fails (inr (inl short)) = (refl, inr short.fault.rose, fails)
  puts_count failed text DiskFailed is fails (inr (inr none)) = (refl, inl none.health.same, fails)
  puts_count failed text Stopped is fails puts = absurd (cc)
  puts_count failed text Closed is fails puts = absurd (cc)
  puts_count failed text Turns is fails puts = absurd (cc)
  puts_count failed text NumbersSpent is fails puts = absurd (cc)
  puts_count failed text Full is fails puts = absurd (cc)
  puts_count failed text LinkFailed is fails puts = absurd (cc)
  puts_count failed text WriteFailed is fails puts = absurd (cc)
  puts_count failed text NoMemory is fails puts = absurd (cc)

  pub start_counts : (text : List ℕ) (result : Option Ending) → PutsStart out text result
      → Counts (before_call link disk out) (after_call link disk out) result
  start_counts text None wrote = wrote_counts text wrote
  start_counts text (Some WriteFailed) short = (refl, short.fault.rose, refl)
  start_counts text (Some NoMemory) none = wrote_counts [] none
  start_counts text (Some Stopped) puts = absurd puts
  start_counts text (Some Closed) puts = absurd puts
  start_counts text (Some Turns) puts = absurd puts
  start_counts text (Some NumbersSpent) puts = absurd puts
  start_counts text (Some Full) puts = absurd puts
  start_counts text (Some DiskFailed) puts = absurd puts
  start_counts text (Some LinkFailed) puts = absurd puts
