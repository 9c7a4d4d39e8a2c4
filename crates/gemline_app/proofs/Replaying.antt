-- A schedule's text that was read, and what came of it.
use Rattle.std.proofs.Common.{◌≡◌, ℕ, List, Result, Ok, Err, refl, sym, ap, subst, inl, inr}
use Rattle.line_schedule.specs.Lines.{ReadsOnly, RefusesOnly}
use Rattle.line_schedule.specs.declared.event.Event.{Event}
use Rattle.line_schedule.specs.declared.schedule.ScheduleFault.{ScheduleFault}
use Rattle.line_schedule.specs.declared.schedule.ScheduleFault.TheVariants as schedule_fault
use Rattle.gl_base.specs.Told.{SinkTold}
use Rattle.gemline_app.specs.Replay.{ComesOnly, ScheduleRefuses, ScheduleRuns, schedule_refusal}
use Rattle.gemline_app.specs.Written.{IsUntouched}
use Rattle.gemline_app.specs.declared.outcome.Outcome.{Outcome}

-- a schedule is its events, which a text means where this holds, and whose line of a number is the first outside the
-- grammar where that holds
module _ {S : Type 0} (events_of : S → List Event) (alike : (a b : S) → events_of a ≡ events_of b → a ≡ b)
    (Means : List Event → Type 0) (Outside : ℕ → Type 0) (Was : S → Type 0) (out : SinkTold)
  where
    abbrev Is : S → Type 0
    Is schedule = Means (events_of schedule)

    -- what the reading of the text says of its result
    pub record ReadsText (result : Result S ScheduleFault) : Type 0 where
      pub only : (events : List Event) → Means events → ReadsOnly events_of events result
      pub line : (number : ℕ) → result ≡ Err (schedule_fault.Line number) → Outside number
      pub outside : (number : ℕ) → Outside number → RefusesOnly (schedule_fault.Line number) result

    pub runs_schedule :
        (schedule : S) (outcome : Outcome) → ReadsText (Ok schedule) → Is schedule → Was schedule
        → ScheduleRuns Is Outside Was out outcome
    runs_schedule schedule outcome reads is was = record {
      because = inl (schedule, is, was);
      outside = λ number at. absurd (reads.outside number at);
      only = λ other is_other.
          inl (subst Was (alike schedule other (reads.only (events_of other) is_other)) was);
    }

    refuses : (fault : ScheduleFault) → ReadsText (Err fault) → IsUntouched out → ScheduleRefuses Outside out fault
    refuses (schedule_fault.Line number) reads untouched = (reads.line number refl, untouched)
    refuses schedule_fault.NoMemory reads untouched = untouched

    comes_only : (fault named : ScheduleFault) → RefusesOnly {R = S} named (Err fault) → IsUntouched out
        → ComesOnly (schedule_refusal named) out (schedule_refusal fault)
    comes_only fault named (inl same) untouched = (inl (ap schedule_refusal same), untouched)
    comes_only fault named (inr memory) untouched = (inr (ap schedule_refusal memory), untouched)

    pub refuses_text :
        (fault : ScheduleFault) (outcome : Outcome) → ReadsText (Err fault) → IsUntouched out
        → outcome ≡ schedule_refusal fault → ScheduleRuns Is Outside Was out outcome
    refuses_text fault outcome reads untouched is =
        subst (ScheduleRuns Is Outside Was out) (sym is) (record {
          because = inr (fault, refuses fault reads untouched, refl);
          outside = λ number at. comes_only fault (schedule_fault.Line number) (reads.outside number at) untouched;
          only = λ other is_other. inr (ap schedule_refusal (reads.only (events_of other) is_other), untouched);
        })
