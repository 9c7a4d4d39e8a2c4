-- The works that a step owes so far, and the pairs of lines that it has noted of them.
use Rattle.std.proofs.Common.{◌≡◌, refl, sym, ap, subst, ◌∙◌, append-nil, ◌+◌, ℕ, List, [], ◌∷◌, ◌++◌}
use Rattle.gem_spool.specs.Works.{count_after, counts_after, list_after, lists_after, next_after}
use Rattle.gem_spool.specs.declared.count.Count.{Count}
use Rattle.gem_spool.specs.declared.works.Work.{Work}
use Rattle.message_end.specs.Course.{noted_behind}
use Rattle.spool_law.specs.Shelf.{Change, change_of}
use Rattle.spool_ledger.specs.Ledger.{IsLedger, LedgerView, next_of, owed, stood_count}
use Rattle.spool_ledger.specs.Ledger.{Numbered}
use Rattle.std.specs.Prelude.{sum}
use Rattle.spool_file.specs.Slot.{Message}
use Rattle.trace_log.specs.Log.{Happening}
use Rattle.tool_step.specs.Equipment.{settled_list}
use Rattle.message_end.proofs.Growing.{behind-both}
use Rattle.tool_law.proofs.CommandWalks.{are-both}
use Rattle.tool_law.proofs.WorkLines.{LeavesStanding}
use Rattle.tool_spool.specs.InPairs.{AreInPairs, TellsOf, changes_in, with_change}
use Rattle.tool_spool.proofs.StillLines.{AreStill, IsStill}

-- ---- lists of changes

with-more : (change : Change) (one two : List Change) → with_change change one ++ two ≡ with_change change (one ++ two)
with-more (Change.Finds found) one two = refl
with-more (Change.Stores number message) one two = refl
with-more (Change.HasStored number) one two = refl
with-more (Change.Leaves number why room_for) one two = refl
with-more (Change.HasGone number) one two = refl
with-more (Change.Tries number system) one two = refl
with-more (Change.Sends message) one two = refl
with-more (Change.Receives message) one two = refl
with-more Change.Other one two = refl

pub changes-both : (one two : List Happening) → changes_in (one ++ two) ≡ changes_in one ++ changes_in two
changes-both [] two = refl
changes-both (what ∷ one) two =
    ap (λ (rest : List Change). with_change (change_of what) rest) (changes-both one two)
    ∙ sym (with-more (change_of what) (changes_in one) (changes_in two))

no-change : (change : Change) → LeavesStanding change → with_change change [] ≡ []
no-change (Change.Tries number system) leaves = refl
no-change (Change.Sends message) leaves = refl
no-change (Change.Receives message) leaves = refl
no-change Change.Other leaves = refl
no-change (Change.Finds found) leaves = absurd leaves
no-change (Change.Stores number message) leaves = absurd leaves
no-change (Change.HasStored number) leaves = absurd leaves
no-change (Change.Leaves number why room_for) leaves = absurd leaves
no-change (Change.HasGone number) leaves = absurd leaves

-- ---- a work more

abbrev nexts_after : ℕ → List Work → ℕ
nexts_after next [] = next
nexts_after next (one ∷ works) = nexts_after (next_after next one) works

nexts-are : (c : Count) (works : List Work) → nexts_after c.next works ≡ (counts_after c works).next
nexts-are c [] = refl
nexts-are c (one ∷ works) = nexts-are (count_after c one) works

pairs-work :
    (works : List Work) (next : ℕ) (list : List Message) (changes : List Change) (one : Work) (before behind : Change)
    → AreInPairs next list works changes
    → TellsOf (nexts_after next works) (lists_after next list works) one before behind
    → AreInPairs next list (works ++ one ∷ []) (changes ++ before ∷ behind ∷ [])
pairs-work [] next list changes one before behind pairs tells =
    subst (λ (cs : List Change). AreInPairs next list (one ∷ []) (cs ++ before ∷ behind ∷ [])) (sym pairs) (tells, refl)
pairs-work (first ∷ works) next list [] one before behind pairs tells = absurd pairs
pairs-work (first ∷ works) next list (b ∷ []) one before behind pairs tells = absurd pairs
pairs-work (first ∷ works) next list (b ∷ h ∷ rest) one before behind pairs tells = (
  pairs.0,
  pairs-work works (next_after next first) (list_after next list first) rest one before behind pairs.1 tells,
)

-- ---- of a ledger

-- behind what was noted before the step, of all that the ledger owes; and none of these lines is of a setup
pub record AreTold (v : LedgerView) (list : List Message) (base notes : List Happening) : Type 0 where
  pub lines : List Happening
  pub noted : notes ≡ noted_behind lines base
  pub pairs : AreInPairs (stood_count v).next list v.works (changes_in lines)
  pub still : AreStill lines

-- nothing is owed, and nothing was noted since
pub told-none : (v : LedgerView) (list : List Message) (notes : List Happening) → v.works ≡ []
    → AreTold v list notes notes
told-none v list notes none = record {
  lines = [];
  noted = refl;
  pairs = subst (λ (works : List Work). AreInPairs (stood_count v).next list works []) (sym none) refl;
  still = tt;
}

-- a note of something else
pub told-more :
    (v : LedgerView) (list : List Message) (base notes : List Happening) (what : Happening)
    → LeavesStanding (change_of what) → IsStill what → AreTold v list base notes → AreTold v list base (what ∷ notes)
told-more v list base notes what leaves still told = record {
  lines = told.lines ++ what ∷ [];
  noted =
      ap (λ (ns : List Happening). what ∷ ns) told.noted ∙ sym (behind-both told.lines (what ∷ []) base);
  pairs =
      subst (AreInPairs (stood_count v).next list v.works)
      (sym
      (changes-both told.lines (what ∷ [])
      ∙ ap (λ (cs : List Change). changes_in told.lines ++ cs) (no-change (change_of what) leaves)
      ∙ append-nil (changes_in told.lines)))
      told.pairs;
  still = are-both IsStill told.lines (what ∷ []) told.still (still, tt);
}

-- a ledger that owes the same
pub told-as :
    (v w : LedgerView) (list : List Message) (base notes : List Happening) → w.stood ≡ v.stood → w.works ≡ v.works
    → AreTold v list base notes → AreTold w list base notes
told-as v w list base notes stood works told = record {
  lines = told.lines;
  noted = told.noted;
  pairs =
      subst (λ (at : Numbered). AreInPairs (at.first + sum at.sizes) list w.works (changes_in told.lines)) (sym stood)
      (subst (λ (ws : List Work). AreInPairs (stood_count v).next list ws (changes_in told.lines)) (sym works)
      told.pairs);
  still = told.still;
}

-- a work more, with the line before it and the one behind it
pub told-work :
    (v w : LedgerView) (list : List Message) (base notes : List Happening) (one : Work) (first last : Happening)
    → IsLedger v → w.stood ≡ v.stood → w.works ≡ owed v one
    → changes_in (first ∷ last ∷ []) ≡ change_of first ∷ change_of last ∷ [] → AreStill (first ∷ last ∷ [])
    → TellsOf (next_of v) (settled_list v list) one (change_of first) (change_of last) → AreTold v list base notes
    → AreTold w list base (last ∷ first ∷ notes)
told-work v w list base notes one first last is stood works both still tells told =
    told-as (record v { works = owed v one }) w list base (last ∷ first ∷ notes) stood works (record {
      lines = told.lines ++ first ∷ last ∷ [];
      noted =
          ap (λ (ns : List Happening). last ∷ first ∷ ns) told.noted
          ∙ sym (behind-both told.lines (first ∷ last ∷ []) base);
      pairs =
          subst (AreInPairs (stood_count v).next list (owed v one))
          (sym
          (changes-both told.lines (first ∷ last ∷ [])
          ∙ ap (λ (cs : List Change). changes_in told.lines ++ cs) both))
          (pairs-work v.works (stood_count v).next list (changes_in told.lines) one (change_of first) (change_of last)
          told.pairs
          (subst (λ (next : ℕ). TellsOf next (settled_list v list) one (change_of first) (change_of last))
          (sym (nexts-are (stood_count v) v.works ∙ ap (λ (c : Count). c.next) is.come_to)) tells));
      still = are-both IsStill told.lines (first ∷ last ∷ []) told.still still;
    })
