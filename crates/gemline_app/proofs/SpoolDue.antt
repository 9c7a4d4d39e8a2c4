-- Which outcome of `format`, of `spool` and of `drop` is due.
use Rattle.std.proofs.Common.{◌≡◌, ℕ, List, refl, sym, ap, subst, ◌∙◌, inl, inr}
use Rattle.disk_base.specs.Faults.{Rose as RoseOnDisk}
use Rattle.gl_base.specs.Faults.{Rose}
use Rattle.gl_base.specs.Told.{FilesTold, SinkTold, SourceTold}
use Rattle.spool_drop.specs.Dropping.{DropsMessages, DropsOf}
use Rattle.spool_show.specs.Formatting.{FormatsSpool}
use Rattle.spool_show.specs.Showing.{ShowsFile, ShowsSpool}
use Rattle.spool_show.specs.Told.{DiskTold}
use Rattle.spool_show.specs.declared.spool_end.SpoolEnd.{SpoolEnd}
use Rattle.spool_show.specs.declared.spool_end.SpoolEnd.TheVariants as spool
use Rattle.gemline_app.specs.LinkTold.{LinkTold}
use Rattle.gemline_app.specs.Laws.{IsSpoolDue, outcome_of_break}
use Rattle.gemline_app.specs.Spool.{EndedAs, outcome_of_spool}
use Rattle.gemline_app.specs.declared.outcome.Outcome.{Outcome}
use Rattle.gemline_app.specs.declared.outcome.Outcome.TheVariants.{Done}
use Rattle.gemline_app.proofs.ReplayDue.{Comes}

-- a fault that a disk counted
pub rose_of : {before now : ℕ} → RoseOnDisk before now → Rose before now
rose_of rose = record { by_one = rose.by_one; later = rose.later }

module _ (source : SourceTold) (files : FilesTold) (disk : DiskTold) (link : LinkTold) (out : SinkTold) where
  made_due : (name : List ℕ) (slots : ℕ) (ended : SpoolEnd) → FormatsSpool name slots disk out ended
      → Comes source files disk link out (outcome_of_spool ended) Done
  made_due name slots spool.Done was = inl refl
  made_due name slots (spool.NotSpool place) was = absurd was.made.1
  made_due name slots spool.DiskFailed was = inr (rose_of was.cause.rose)
  made_due name slots spool.WriteFailed was = inr was.made.1.fault.rose

  pub formatted_due : (name : List ℕ) (slots : ℕ) (outcome due : Outcome)
      → EndedAs (FormatsSpool name slots disk out) outcome → due ≡ Done
      → Comes source files disk link out outcome due
  formatted_due name slots outcome due was is =
      subst (Comes source files disk link out outcome) (sym is)
      (subst (λ (o : Outcome). Comes source files disk link out o Done) (sym was.outcome_is)
      (made_due name slots was.ended was.ends))

  shown_due : (ended : SpoolEnd) (due : Outcome) → ShowsFile disk out ended → IsSpoolDue disk due
      → Comes source files disk link out (outcome_of_spool ended) due
  shown_due spool.Done due was (s, told, is) = inl (sym (is ∙ ap outcome_of_break (was.written.0 s told)))
  shown_due (spool.NotSpool place) due was (s, told, is) =
      inl (sym (is ∙ ap outcome_of_break (was.written.1 s told).0))
  shown_due spool.DiskFailed due was is = inr (rose_of was.count)
  shown_due spool.WriteFailed due was is = inr was.written.1.1.fault.rose

  pub listed_due : (name : List ℕ) (outcome due : Outcome) → EndedAs (ShowsSpool name disk out) outcome
      → IsSpoolDue disk due
      → Comes source files disk link out outcome due
  listed_due name outcome due was is =
      subst (λ (o : Outcome). Comes source files disk link out o due) (sym was.outcome_is)
      (shown_due was.ended due was.ends.shown is)

  took_due : (count : ℕ) (ended : SpoolEnd) (due : Outcome) → DropsOf count disk out ended → IsSpoolDue disk due
      → Comes source files disk link out (outcome_of_spool ended) due
  took_due count spool.Done due was (s, told, is) = inl (sym (is ∙ ap outcome_of_break (was.left.sound s told)))
  took_due count (spool.NotSpool place) due was (s, told, is) =
      inl (sym (is ∙ ap outcome_of_break (was.left.1 s told).0))
  took_due count spool.DiskFailed due was is = inr (rose_of was.count_is)
  took_due count spool.WriteFailed due was is = inr was.left.written.fault.rose

  pub dropped_due : (name : List ℕ) (count : ℕ) (outcome due : Outcome)
      → EndedAs (DropsMessages name count disk out) outcome → IsSpoolDue disk due
      → Comes source files disk link out outcome due
  dropped_due name count outcome due was is =
      subst (λ (o : Outcome). Comes source files disk link out o due) (sym was.outcome_is)
      (took_due count was.ended due was.ends.dropped is)
