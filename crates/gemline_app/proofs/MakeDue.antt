-- Which outcome of `make` is due.
use Rattle.std.proofs.Common.{◌≡◌, ◌∙◌, ℕ, sym, ap, subst, inl, inr}
use Rattle.end_pair.specs.declared.answers.RunEnd.{RunEnd}
use Rattle.end_pair.specs.declared.answers.RunEnd.TheVariants as end
use Rattle.gl_base.specs.Told.{FilesTold, SinkTold, SourceTold}
use Rattle.line_world.specs.Make.{make_schedule}
use Rattle.line_world.specs.Making.{MakesRounds}
use Rattle.line_world.specs.Run.{went_of}
use Rattle.spool_show.specs.Told.{DiskTold}
use Rattle.gemline_app.specs.Laws.{Hinders, IsMakeDue}
use Rattle.gemline_app.specs.LinkTold.{LinkTold}
use Rattle.gemline_app.specs.Make.{MakeComes, made_plans}
use Rattle.gemline_app.specs.Replay.{outcome_of_end}
use Rattle.gemline_app.specs.declared.outcome.Outcome.{Outcome}
use Rattle.gemline_app.specs.declared.outcome.Outcome.TheVariants.{NoMemory}
use Rattle.gemline_app.proofs.ReplayDue.{Comes, hindered, outcome_of_run, schedule-due}

module _ (source : SourceTold) (files : FilesTold) (disk : DiskTold) (link : LinkTold) (out : SinkTold) (rounds : ℕ)
    (outcome due : Outcome)
  where
    is_so : IsMakeDue rounds due → due ≡ outcome_of_run NoMemory (went_of made_plans (make_schedule rounds))
    is_so is_due = schedule-due made_plans (make_schedule rounds) due is_due

    rounds_due : (ended : RunEnd) → outcome ≡ outcome_of_end ended → MakesRounds out made_plans rounds ended
        → IsMakeDue rounds due → Comes source files disk link out outcome due
    rounds_due end.Whole is (at, wrote) is_due = inl (is ∙ sym (is_so is_due ∙ ap (outcome_of_run NoMemory) at))
    rounds_due end.Slip is (at, wrote) is_due = inl (is ∙ sym (is_so is_due ∙ ap (outcome_of_run NoMemory) at))
    rounds_due end.Turns is (at, wrote) is_due = inl (is ∙ sym (is_so is_due ∙ ap (outcome_of_run NoMemory) at))
    rounds_due end.NumbersSpent is (at, wrote) is_due = inl (is ∙ sym (is_so is_due ∙ ap (outcome_of_run NoMemory) at))
    rounds_due end.JournalFull is (at, wrote) is_due = inr (hindered source files disk link out outcome is)
    rounds_due end.NoMemory is wrote is_due = inr (hindered source files disk link out outcome is)
    rounds_due end.WriteFailed is (at, short) is_due =
        inr (subst (Hinders source files disk link out) (sym is) short.fault.rose)

    pub make_due : MakeComes rounds out outcome → IsMakeDue rounds due → Comes source files disk link out outcome due
    make_due (inl (is, untouched)) is_due = inr (hindered source files disk link out outcome is)
    make_due (inr was) is_due = rounds_due was.ended was.outcome_is was.made is_due
