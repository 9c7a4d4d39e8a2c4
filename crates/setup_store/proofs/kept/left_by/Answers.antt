-- Each entry is left or taken out.

use Rattle.std.proofs.Common.{◌∙◌, sym, ap, subst, Bool, List, ℕ, not, arith}
use Rattle.setup_store.specs.Entries.{Entry}
use Rattle.setup_store.specs.Kept.{takes_out}
use Rattle.setup_store.proofs.KeptEntries.{IsAmid, ends, goes_out, stays_on}
use Rattle.setup_store.proofs.kept.left_by.Goals as goal

pub entries-preserved-in_ok-put : goal.entries-preserved-in_ok-put
entries-preserved-in_ok-put c = (
  omega (arith, c.in-Some.ensures.within, c.entries.invariant.0),
  λ entries are.
      let stays : Entry → Bool = λ old. not (takes_out c.args.change.now old) in
      subst (λ (l : List ℕ). IsAmid stays entries l c.in-Some.behind.now) (sym c.in_ok-put.ensures)
      (stays_on stays entries c.entries.left c.entries.rest.now _ _ (c.entries.invariant.1 entries are)
      c.in-Some.ensures.there (ap not (sym c.in_ok-takes_out.ensures ∙ c.if-not-branch.true))),
)

pub entries-preserved : goal.entries-preserved
entries-preserved c = (
  omega (arith, c.in-Some.ensures.within, c.entries.invariant.0),
  λ entries are.
      let stays : Entry → Bool = λ old. not (takes_out c.args.change.now old) in
      goes_out stays entries c.entries.left c.entries.rest.now _ _ (c.entries.invariant.1 entries are)
      c.in-Some.ensures.there (ap not (sym c.in_ok-takes_out.ensures ∙ c.if-not-branch.false)),
)

pub returns : goal.returns
returns c = λ entries are.
    ends (λ old. not (takes_out c.args.change.now old)) entries c.entries.left c.entries.rest.now _
    (c.entries.invariant.1 entries are) (c.first_entry.ensures.none c.in_default.is)
