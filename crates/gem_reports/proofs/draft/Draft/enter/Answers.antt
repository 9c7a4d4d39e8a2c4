-- An entry deletes its report or defines it, and the draft goes on with it.

use Rattle.std.proofs.Common.{◌≡◌, ◌==◌, refl, sym, ◌∙◌, ap, subst, cond, List, ◌∷◌, ℕ, length, nat_eq, Some}
use Rattle.std.specs.List.{list_any}
use Rattle.gem_reports.specs.declared.draft.Draft.{Draft}
use Rattle.gem_reports.specs.Answers.{define_entry}
use Rattle.gem_reports.specs.Drafts.{IsDraft}
use Rattle.gem_reports.specs.Tables.{vids_in}
use Rattle.gem_reports.proofs.Steps.{draft_defines, draft_deletes}
use Rattle.gem_reports.proofs.draft.Draft.enter.Goals as goal
use Rattle.gem_reports.proofs.draft.Draft.enter.Goals.{then-is_empty+in_ok-insert, else-is_empty}

pub returns : goal.returns
returns c = λ value start past draft done.
    let entry = c.args.entry.now in
    let standing = c.args.standing.now in
    let was = c.args.self.now in
    let now = c.if-is_empty.self in
    let changes = c.insert-2.new.self.entries in
    let vids : c.in_ok-of.field-0 ≡ entry.vids = c.in_ok-of.ensures ∙ c.as_slice-vids.ensures in
    let empty = ap (λ (ids : List ℕ). length ids == 0) (sym c.as_slice-vids.ensures) in
    let put : (d : Draft) → now ≡ d → d.changes.entries ≡ was.changes.entries
    → (q : ℕ) → vids_in changes q ≡ cond (nat_eq entry.rptid q) (Some entry.vids) (vids_in was.changes.entries q) =
    λ d is same q. c.in_ok-insert-2.ensures.updates.0 q
    ∙ ap (λ (ids : List ℕ). cond (nat_eq entry.rptid q) (Some ids) (vids_in now.changes.entries q)) vids
    ∙ ap (λ (x : Draft). cond (nat_eq entry.rptid q) (Some entry.vids) (vids_in x.changes.entries q)) is
    ∙ ap (λ (t : List (ℕ × List ℕ)). cond (nat_eq entry.rptid q) (Some entry.vids) (vids_in t q)) same in
    elim c.if-is_empty.branch [
      | then-is_empty+in_ok-insert w ↦
          draft_deletes entry standing was.changes.entries changes was.count now.count was.deleted.keys now.deleted.keys start
          past (empty ∙ sym w.if-is_empty.ensures) draft
          (λ q. ap (λ (x : Draft). list_any (nat_eq q) x.deleted.keys) w.self-is ∙ w.in_ok-insert.ensures.updates.0 q)
          (put _ w.self-is refl)
          (ap (λ (x : Draft). x.count) w.self-is ∙ w.count_without-self.ensures)
      | else-is_empty w ↦
          subst (λ ids. IsDraft standing changes now.count ids start (define_entry entry ∷ past))
          (sym (ap (λ (x : Draft). x.deleted.keys) w.self-is))
          (draft_defines value entry standing was.changes.entries changes was.count now.count was.deleted.keys start past
          (empty ∙ sym w.if-is_empty.ensures) draft done (put _ w.self-is refl)
          (ap (λ (x : Draft). x.count) w.self-is ∙ w.saturating_add-self.ensures))
    ]
