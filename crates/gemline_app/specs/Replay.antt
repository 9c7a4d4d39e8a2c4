-- What `replay` reads and writes (this profile).
use Rattle.std.specs.Prelude.{◌≡◌, ◌⊎◌, ℕ, List, Option, Some, None}
use Rattle.gl_base.specs.Files.{FilesHealth}
use Rattle.gl_base.specs.declared.files.FileAnswer.TheVariants as file
use Rattle.gl_base.specs.declared.files.MemFile.{MemFile}
use Rattle.equipment_tables.specs.declared.plan.Plans.{Plans}
use Rattle.line_schedule.specs.Schedule.{IsJournalSchedule, IsSchedule, OutsideAt, OutsideJournalAt}
use Rattle.line_schedule.specs.declared.schedule.JournalSchedule.{JournalSchedule}
use Rattle.line_schedule.specs.declared.schedule.Schedule.{Schedule}
use Rattle.line_schedule.specs.declared.schedule.ScheduleFault.{ScheduleFault}
use Rattle.line_schedule.specs.declared.schedule.ScheduleFault.TheVariants as schedule_fault
use Rattle.gl_base.specs.Told.{FilesTold, SinkTold}
use Rattle.end_pair.specs.declared.answers.RunEnd.{RunEnd}
use Rattle.end_pair.specs.declared.answers.RunEnd.TheVariants as end
use Rattle.journal_world.specs.Run as journaled
use Rattle.journal_world.specs.Safe as journal_safe
use Rattle.line_world.specs.Run.{Runs, log_of}
use Rattle.line_world.specs.Safe.{IsSafe}
use Rattle.gemline_app.specs.Files.{FileRefuses, PlanRefuses, PlansAre, WasFile}
use Rattle.gemline_app.specs.Written.{IsUntouched}
use Rattle.gemline_app.specs.declared.outcome.FileRole.TheVariants as role
use Rattle.gemline_app.specs.declared.outcome.Outcome.{Outcome}
use Rattle.gemline_app.specs.declared.outcome.Outcome.TheVariants.{Done, BadLine, JournalFull, TurnsSpent, NumbersSpent, Slip, NoMemory, WriteFailed}

-- what the end of a run is an outcome of, where a store that is full is this one
abbrev pub end_with : (full : Outcome) → RunEnd → Outcome
end_with full end.Whole = Done
end_with full end.Slip = Slip
end_with full end.Turns = TurnsSpent
end_with full end.NumbersSpent = NumbersSpent
end_with full end.JournalFull = full
end_with full end.NoMemory = NoMemory
end_with full end.WriteFailed = WriteFailed

-- of two ends that have no store of their own which could be full
abbrev pub outcome_of_end : RunEnd → Outcome
outcome_of_end = end_with NoMemory

-- and of a host with a journal
abbrev pub outcome_of_journal_end : RunEnd → Outcome
outcome_of_journal_end = end_with JournalFull

-- A schedule was carried out over these plans: its trace was written, or a part of it. Its log is safe, losses of power
-- included: each message that it notes as delivered was sent, whole, and once in a start; messages come in order; each
-- report holds what its variables held at its event, or at the answer; and what the equipment spools stands at each of
-- its starts until it leaves with a cause, and is taken by the host in order (SEMI E4, E5, E30; this profile).
pub record WasReplayed (plans : Plans) (schedule : Schedule) (out : SinkTold) (outcome : Outcome) : Type 0 where
  pub ended : RunEnd
  pub outcome_is : outcome ≡ outcome_of_end ended
  pub wrote : Runs out plans schedule ended
  pub safe : IsSafe plans (log_of plans schedule)

-- The same over a host with a journal of so many slots, losses of its power included. What it lists is what the
-- equipment has spooled, in order, and its starts find that.
pub record WasJournaled (plans : Plans) (slots : ℕ) (schedule : JournalSchedule) (out : SinkTold) (outcome : Outcome)
    : Type 0 where
  pub ended : RunEnd
  pub outcome_is : outcome ≡ outcome_of_journal_end ended
  pub wrote : journaled.Runs out plans slots schedule ended
  pub safe : journal_safe.IsSafe plans slots (journaled.log_of plans slots schedule)

-- the refusal of a schedule's text
abbrev pub schedule_refusal : ScheduleFault → Outcome
schedule_refusal (schedule_fault.Line number) = BadLine number
schedule_refusal schedule_fault.NoMemory = NoMemory

-- an outcome comes, or memory ran out and nothing was written
abbrev pub ComesOnly : Outcome → SinkTold → Outcome → Type 0
ComesOnly due out outcome = ((outcome ≡ due) ⊎ (outcome ≡ NoMemory)) × IsUntouched out

-- why a text is refused, whose line of a number is the first outside the grammar where this holds
abbrev pub ScheduleRefuses : (ℕ → Type 0) → SinkTold → ScheduleFault → Type 0
ScheduleRefuses Outside out (schedule_fault.Line number) = Outside number × IsUntouched out
ScheduleRefuses Outside out schedule_fault.NoMemory = IsUntouched out

-- what a text that is to be a schedule came to: it was carried out, or refused; and what it is decides which
pub record ScheduleRuns {S : Type 0} (Is : S → Type 0) (Outside : ℕ → Type 0) (Was : S → Type 0) (out : SinkTold)
    (outcome : Outcome) : Type 0 where
  pub because :
      ((schedule : S) × Is schedule × Was schedule)
      ⊎ ((fault : ScheduleFault) × ScheduleRefuses Outside out fault × (outcome ≡ schedule_refusal fault))
  pub outside : (number : ℕ) → Outside number → ComesOnly (BadLine number) out outcome
  pub only : (schedule : S) → Is schedule → Was schedule ⊎ ((outcome ≡ NoMemory) × IsUntouched out)

-- what it came to over these plans, with a journal of so many slots, or without one
abbrev pub TextRuns : Option ℕ → Plans → List ℕ → SinkTold → Outcome → Type 0
TextRuns None plans text out outcome =
    ScheduleRuns (λ (schedule : Schedule). IsSchedule text schedule.events) (OutsideAt text)
    (λ schedule. WasReplayed plans schedule out outcome) out outcome
TextRuns (Some slots) plans text out outcome =
    ScheduleRuns (λ (schedule : JournalSchedule). IsJournalSchedule text schedule.events) (OutsideJournalAt text)
    (λ schedule. WasJournaled plans slots schedule out outcome) out outcome

-- what `replay` came to from its schedule on
abbrev pub ScheduleComes : Option ℕ → Plans → List ℕ → FilesTold → SinkTold → Outcome → Type 0
ScheduleComes journal plans name files out outcome =
    (FileRefuses role.Schedule name files outcome × IsUntouched out)
    ⊎ ((text : List ℕ) × WasFile role.Schedule name files (file.Whole text)
    × TextRuns journal plans text out outcome)

-- what files told up to a moment, and from then on
abbrev pub files_until : FilesTold → Option (List MemFile) → FilesHealth → FilesTold
files_until files told health =
    record { before = files.before; after = told; health = files.health; health_after = health }

abbrev pub files_since : FilesTold → Option (List MemFile) → FilesHealth → FilesTold
files_since files told health =
    record { before = told; after = files.after; health = health; health_after = files.health_after }

-- the plan's file meant these plans, up to a moment
pub record PlanIsRead (journal : Option ℕ) (plan schedule : List ℕ) (files : FilesTold) (out : SinkTold)
    (outcome : Outcome) : Type 0 where
  pub told : Option (List MemFile)
  pub health : FilesHealth
  pub plans : Plans
  pub are : PlansAre plan (files_until files told health) plans
  pub rest : ScheduleComes journal plans schedule (files_since files told health) out outcome

-- what `replay` came to
abbrev pub ReplayComes : Option ℕ → List ℕ → List ℕ → FilesTold → SinkTold → Outcome → Type 0
ReplayComes journal plan schedule files out outcome =
    (PlanRefuses plan files outcome × IsUntouched out) ⊎ PlanIsRead journal plan schedule files out outcome
