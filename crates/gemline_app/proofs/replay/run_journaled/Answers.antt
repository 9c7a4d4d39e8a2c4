-- The schedule was read and is run, or its fault is told.

use Rattle.std.proofs.Common.{◌≡◌, List, ap, refl}
use Rattle.line_schedule.specs.Schedule.{IsJournalSchedule, OutsideJournalAt}
use Rattle.line_schedule.specs.declared.event.Event.{Event}
use Rattle.line_schedule.specs.declared.schedule.JournalSchedule.{JournalSchedule}
use Rattle.gl_base.specs.Told.{sink_told}
use Rattle.gemline_app.specs.Replay.{WasJournaled}
use Rattle.gemline_app.proofs.Replaying.{refuses_text, runs_schedule}
use Rattle.gemline_app.proofs.replay.run_journaled.Goals as goal

alike : (a b : JournalSchedule) → a.events ≡ b.events → a ≡ b
alike a b same = ap (λ (events : List Event). record { events = events }) same

pub returns-in-Ok : goal.returns-in-Ok
returns-in-Ok g c =
    let reads = c.in-Ok.ensures in
    let run = c.run-end.ensures in
    runs_schedule (λ (s : JournalSchedule). s.events) alike (IsJournalSchedule c.args.text.now) (OutsideJournalAt c.args.text.now)
    (λ s. WasJournaled c.args.plans.now c.args.slots s (sink_told g.W.Sink c.args.out.now c.run-end.new.out) c.outcome_of_journal_end.result)
    (sink_told g.W.Sink c.args.out.now c.run-end.new.out) c.in-Ok.schedule c.outcome_of_journal_end.result
    (record { only = reads.only; line = reads.line; outside = reads.outside }) reads.found
    (record {
      ended = c.run-end.result.0;
      outcome_is = c.outcome_of_journal_end.ensures;
      wrote = run.text;
      safe = run.safe;
    })

pub returns-in-Err : goal.returns-in-Err
returns-in-Err g c =
    let reads = c.in-Err.ensures in
    refuses_text (λ (s : JournalSchedule). s.events) alike (IsJournalSchedule c.args.text.now) (OutsideJournalAt c.args.text.now)
    (λ s. WasJournaled c.args.plans.now c.args.slots s (sink_told g.W.Sink c.args.out.now c.args.out.now) c.schedule_refusal.result)
    (sink_told g.W.Sink c.args.out.now c.args.out.now) c.in-Err.fault c.schedule_refusal.result
    (record { only = reads.only; line = reads.line; outside = reads.outside })
    (record { received = refl; health = refl }) c.schedule_refusal.ensures
