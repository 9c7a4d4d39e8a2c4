use Rattle.std.proofs.Common.{ℕ, List, [], ◌∷◌, ◌++◌, ◌-◌, length, take, ap, subst, sym, ◌∙◌}
use Rattle.std.specs.Prelude.{Err}
use Rattle.gem_spool.specs.Works.{HasCarried, HasUndone}
use Rattle.gem_spool.specs.Standing.{count_of}
use Rattle.host_journal.specs.Fitting.{fit_in}
use Rattle.host_journal.specs.Listing.{Lists, listing_works}
use Rattle.message_flow.specs.declared.step.Note.{Note}
use Rattle.spool_law.specs.Listing.{record_of}
use Rattle.trace_log.specs.Log.Happening.{Listed, Listing}
use Rattle.trace_log.specs.Text.{note_of}
use Rattle.journal_node.proofs.Acting.{no-full, no-spent, spoolable-low, spoolable-odd, take-last}
use Rattle.journal_node.proofs.disk_step.list_fitting.Goals as goal

pub list_entry-requires : goal.list_entry-requires
list_entry-requires g c = record {
  function = spoolable-odd c.args.message.now.stream c.args.message.now.function c.requires.listed;
  stream = spoolable-low c.args.message.now.stream c.args.message.now.function c.requires.listed;
}

pub returns-in-Ok-list_entry-clause-lists : goal.returns-in-Ok-list_entry-clause-lists
returns-in-Ok-list_entry-clause-lists g c = (
  c.requires.fits,
  subst
      (λ (entry : List ℕ).
      HasCarried g.D.Disk c.args.journal
      (listing_works c.args.message.now.stream c.args.message.now.function entry) c.in-Ok-list_entry.journal)
      c.requires.entry c.in-Ok-list_entry.ensures.1,
  c.in-Ok.ensures.notes
      ∙ ap
      (λ (n : ℕ).
      c.args.out.now.notes ++ note_of (Listing n (record_of c.args.message.now))
      ∷ note_of (Listed n (record_of c.args.message.now)) ∷ [])
      c.next-number.ensures,
)

pub returns-in-Ok-list_entry-clause-version : goal.returns-in-Ok-list_entry-clause-version
returns-in-Ok-list_entry-clause-version g c =
    ap (λ n. n.version) c.in-Ok-list_entry.ensures.1.count ∙ c.requires.version

pub returns-in-Ok-list_entry-clause-mark : goal.returns-in-Ok-list_entry-clause-mark
returns-in-Ok-list_entry-clause-mark g c = c.in-Ok-list_entry.ensures.1.mark

pub returns-in-Err-Full-clause-lists : goal.returns-in-Err-Full-clause-lists
returns-in-Err-Full-clause-lists g c = absurd (no-full _
    (ap (λ (entry : List ℕ). fit_in (count_of c.args.journal.spool) (length entry)) (sym c.requires.entry)
    ∙ (subst
    (λ e.
    Lists g.D.Disk c.args.journal c.args.message.now.stream c.args.message.now.function c.args.entry (Err e))
    c.in-Err-Full.field-0-is c.in-Err-Full.ensures).1) c.requires.fits)

pub returns-in-Err-Failed-clause-lists : goal.returns-in-Err-Failed-clause-lists
returns-in-Err-Failed-clause-lists g c = (
  c.requires.fits,
  subst
      (λ (entry : List ℕ).
      HasUndone g.D.Disk c.args.journal
      (listing_works c.args.message.now.stream c.args.message.now.function entry)
      (record { at = 0; spent = c.in-Err-Failed.spent }))
      c.requires.entry (subst
      (λ e.
      Lists g.D.Disk c.args.journal c.args.message.now.stream c.args.message.now.function c.args.entry (Err e))
      c.in-Err-Failed.field-0-is c.in-Err-Failed.ensures).1,
  c.take_back.ensures.notes
      ∙ ap (λ (notes : List Note). take (length notes - 1) notes) c.in-Ok.ensures.notes
      ∙ take-last c.args.out.now.notes _ _
      ∙ ap (λ (n : ℕ). c.args.out.now.notes ++ note_of (Listing n (record_of c.args.message.now)) ∷ [])
      c.next-number.ensures,
)

pub returns-in-Err-NumbersSpent-clause-lists : goal.returns-in-Err-NumbersSpent-clause-lists
returns-in-Err-NumbersSpent-clause-lists g c = absurd (no-spent _
    (ap (λ (entry : List ℕ). fit_in (count_of c.args.journal.spool) (length entry)) (sym c.requires.entry)
    ∙ (subst
    (λ e.
    Lists g.D.Disk c.args.journal c.args.message.now.stream c.args.message.now.function c.args.entry (Err e))
    c.in-Err-NumbersSpent.field-0-is c.in-Err-NumbersSpent.ensures).1) c.requires.fits)
