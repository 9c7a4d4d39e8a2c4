-- The works that a step owes so far, and the lines that it has noted of them, in step: up to the line before each work
-- the shelf stands as the list that the works before it make.
use Rattle.std.proofs.Common.{◌≡◌, refl, sym, ap, subst, ◌∙◌, append_assoc, append-nil, ◌+◌, Bool, true, false, ℕ, List, [], ◌∷◌, ◌++◌, if◌then◌else◌}
use Rattle.std.specs.Prelude.{sum}
use Rattle.gem_spool.specs.Works.{count_after, counts_after, list_after, lists_after, next_after}
use Rattle.gem_spool.specs.declared.count.Count.{Count}
use Rattle.gem_spool.specs.declared.works.Work.{Work}
use Rattle.message_end.specs.Course.{noted_behind}
use Rattle.message_end.proofs.Growing.{behind-both}
use Rattle.spool_law.specs.Shelf.{Change, Shelf, shelf_of}
use Rattle.spool_ledger.specs.Ledger.{IsLedger, LedgerView, next_of, owed, stood_count}
use Rattle.spool_ledger.specs.Ledger.{Numbered}
use Rattle.spool_file.specs.Slot.{Message}
use Rattle.trace_log.specs.Log.{Happening, is_before_change}
use Rattle.spool_works.specs.DiskWorks.{DiskWork, behind_change, up_to_change}
use Rattle.spool_works.specs.Found.{found_in}
use Rattle.tool_step.specs.Equipment.{settled_list}
use Rattle.spool_works.proofs.EachFront.{split-change}
use Rattle.spool_works.specs.WorkLosses.{MayLeaveAt, storing_at}

-- ---- lines before a change

-- what leaves the messages that stand as they are
abbrev pub LeavesStanding : Change → Type 0
LeavesStanding (Change.Tries number system) = Unit {0}
LeavesStanding (Change.Sends message) = Unit {0}
LeavesStanding (Change.Receives message) = Unit {0}
LeavesStanding Change.Other = Unit {0}
LeavesStanding _ = ⊥

abbrev pub has_change : List Happening → Bool
has_change [] = false
has_change (what ∷ rest) = if is_before_change what then true else has_change rest

-- ---- lines with more behind them

-- where one stands before a change, what is behind the first such is behind it still
abbrev pub GoesOn : List Happening → List Happening → Type 0
GoesOn lines more =
    (has_change (lines ++ more) ≡ true) × (up_to_change (lines ++ more) ≡ up_to_change lines)
    × (behind_change (lines ++ more) ≡ behind_change lines ++ more)

pub goes-on : (lines more : List Happening) → has_change lines ≡ true → GoesOn lines more
goes-on [] more is = absurd (cc)
goes-on (what ∷ lines) more is = go (is_before_change what) is (λ later. goes-on lines more later)
  where
    go : (b : Bool) → (if b then true else has_change lines) ≡ true → (has_change lines ≡ true → GoesOn lines more)
        → ((if b then true else has_change (lines ++ more)) ≡ true)
        × (what ∷ (if b then [] else up_to_change (lines ++ more)) ≡ what ∷ (if b then [] else up_to_change lines))
        × ((if b then lines ++ more else behind_change (lines ++ more))
        ≡ (if b then lines else behind_change lines) ++ more)
    go true is later = (refl, refl, refl)
    go false is later =
        let on = later is in (on.0, ap (λ (ls : List Happening). what ∷ ls) on.1, on.2)

-- where none does, the first one is behind them
abbrev pub ComesLater : List Happening → List Happening → Type 0
ComesLater lines more =
    (has_change (lines ++ more) ≡ has_change more) × (up_to_change (lines ++ more) ≡ lines ++ up_to_change more)
    × (behind_change (lines ++ more) ≡ behind_change more)

pub comes-later : (lines more : List Happening) → has_change lines ≡ false → ComesLater lines more
comes-later [] more none = (refl, refl, refl)
comes-later (what ∷ lines) more none = go (is_before_change what) none (λ later. comes-later lines more later)
  where
    go : (b : Bool) → (if b then true else has_change lines) ≡ false
        → (has_change lines ≡ false → ComesLater lines more)
        → ((if b then true else has_change (lines ++ more)) ≡ has_change more)
        × (what ∷ (if b then [] else up_to_change (lines ++ more)) ≡ what ∷ (lines ++ up_to_change more))
        × ((if b then lines ++ more else behind_change (lines ++ more)) ≡ behind_change more)
    go true none later = absurd (cc)
    go false none later =
        let on = later none in (on.0, ap (λ (ls : List Happening). what ∷ ls) on.1, on.2)

-- what was noted tells the lines
turned-back : (lines base rest : List Happening)
    → noted_behind (noted_behind lines base) rest ≡ noted_behind base (lines ++ rest)
turned-back [] base rest = refl
turned-back (what ∷ lines) base rest = turned-back lines (what ∷ base) rest

same-before : (base one two : List Happening) → noted_behind base one ≡ noted_behind base two → one ≡ two
same-before [] one two same = same
same-before (what ∷ base) one two same = rest (same-before base (what ∷ one) (what ∷ two) same)
  where
    rest : what ∷ one ≡ what ∷ two → one ≡ two
    rest same = cc

pub same-lines : (one two base : List Happening) → noted_behind one base ≡ noted_behind two base → one ≡ two
same-lines one two base same =
    sym (append-nil one)
    ∙ same-before base (one ++ []) (two ++ [])
    (sym (turned-back one base []) ∙ ap (λ (ns : List Happening). noted_behind ns []) same ∙ turned-back two base [])
    ∙ append-nil two

-- ---- works and lines in step

-- the shelf amid a work: what stood, the message that is being stored, and why messages leave
pub record IsAmid (next : ℕ) (list : List Message) (one : Work) (shelf : Shelf) : Type 0 where
  pub stands : shelf.stands ≡ found_in list
  pub storing : shelf.storing ≡ storing_at next (DiskWork.Change one)
  pub leaving : MayLeaveAt (DiskWork.Change one) shelf.leaving

-- behind what was noted before, over a list with this next number
abbrev pub Walks : ℕ → List Message → List Happening → List Work → List Happening → Type 0
Walks next list past [] lines = has_change lines ≡ false
Walks next list past (one ∷ works) lines =
    (has_change lines ≡ true) × IsAmid next list one (shelf_of (noted_behind (up_to_change lines) past))
    × Walks (next_after next one) (list_after next list one) (noted_behind (up_to_change lines) past) works
    (behind_change lines)

abbrev nexts_after : ℕ → List Work → ℕ
nexts_after next [] = next
nexts_after next (one ∷ works) = nexts_after (next_after next one) works

-- the same lines, in another place
moved-walks :
    (next : ℕ) (list : List Message) (past other : List Happening) (works : List Work) (lines same : List Happening)
    → past ≡ other → lines ≡ same → Walks next list past works lines → Walks next list other works same
moved-walks next list past other works lines same is is_lines walks =
    subst (λ (p : List Happening). Walks next list p works same) is
    (subst (λ (ls : List Happening). Walks next list past works ls) is_lines walks)

-- lines more of something else
walks-more :
    (works : List Work) (next : ℕ) (list : List Message) (past lines more : List Happening)
    → has_change more ≡ false → Walks next list past works lines → Walks next list past works (lines ++ more)
walks-more [] next list past lines more none walks = (comes-later lines more walks).0 ∙ none
walks-more (one ∷ works) next list past lines more none walks =
    let on = goes-on lines more walks.0 in (
      on.0,
      subst (λ (ls : List Happening). IsAmid next list one (shelf_of (noted_behind ls past))) (sym on.1) walks.1,
      moved-walks (next_after next one) (list_after next list one) (noted_behind (up_to_change lines) past)
          (noted_behind (up_to_change (lines ++ more)) past) works (behind_change lines ++ more)
          (behind_change (lines ++ more)) (ap (λ (ls : List Happening). noted_behind ls past) (sym on.1)) (sym on.2)
          (walks-more works (next_after next one) (list_after next list one) (noted_behind (up_to_change lines) past)
          (behind_change lines) more none walks.2),
    )

-- a work more, with its line
walks-work :
    (works : List Work) (next : ℕ) (list : List Message) (past lines : List Happening) (one : Work)
    (first : Happening) (rest : List Happening) → is_before_change first ≡ true → has_change rest ≡ false
    → Walks next list past works lines
    → IsAmid (nexts_after next works) (lists_after next list works) one
    (shelf_of (noted_behind (lines ++ first ∷ []) past))
    → Walks next list past (works ++ one ∷ []) (lines ++ first ∷ rest)
walks-work [] next list past lines one first rest is none walks amid =
    let later = comes-later lines (first ∷ rest) walks in
    let has : (if is_before_change first then true else has_change rest) ≡ true =
    ap (λ (b : Bool). if b then true else has_change rest) is in
    let up : lines ++ first ∷ (if is_before_change first then [] else up_to_change rest) ≡ lines ++ first ∷ [] =
    ap (λ (b : Bool). lines ++ first ∷ (if b then [] else up_to_change rest)) is in
    let behind : (if is_before_change first then rest else behind_change rest) ≡ rest =
    ap (λ (b : Bool). if b then rest else behind_change rest) is in (
      later.0 ∙ has,
      subst (λ (ls : List Happening). IsAmid next list one (shelf_of (noted_behind ls past))) (sym (later.1 ∙ up))
          amid,
      ap has_change (later.2 ∙ behind) ∙ none,
    )
walks-work (before ∷ works) next list past lines one first rest is none walks amid =
    let on = goes-on lines (first ∷ rest) walks.0 in (
      on.0,
      subst (λ (ls : List Happening). IsAmid next list before (shelf_of (noted_behind ls past))) (sym on.1) walks.1,
      moved-walks (next_after next before) (list_after next list before) (noted_behind (up_to_change lines) past)
          (noted_behind (up_to_change (lines ++ first ∷ rest)) past) (works ++ one ∷ [])
          (behind_change lines ++ first ∷ rest) (behind_change (lines ++ first ∷ rest))
          (ap (λ (ls : List Happening). noted_behind ls past) (sym on.1)) (sym on.2)
          (walks-work works (next_after next before) (list_after next list before)
          (noted_behind (up_to_change lines) past) (behind_change lines) one first rest is none walks.2
          (subst
          (λ (ns : List Happening).
          IsAmid (nexts_after (next_after next before) works)
          (lists_after (next_after next before) (list_after next list before) works) one (shelf_of ns))
          (ap (λ (ls : List Happening). noted_behind (ls ++ first ∷ []) past) (split-change lines)
          ∙ ap (λ (ls : List Happening). noted_behind ls past)
          (append_assoc (up_to_change lines) (behind_change lines) (first ∷ []))
          ∙ behind-both (up_to_change lines) (behind_change lines ++ first ∷ []) past)
          amid)),
    )

-- ---- of a ledger

-- behind what was noted before the step, of all that the ledger owes
pub record AreLines (v : LedgerView) (list : List Message) (base notes : List Happening) : Type 0 where
  pub lines : List Happening
  pub noted : notes ≡ noted_behind lines base
  pub walks : Walks (stood_count v).next list base v.works lines

-- nothing is owed, and nothing was noted since
pub lines-none : (v : LedgerView) (list : List Message) (notes : List Happening) → v.works ≡ []
    → AreLines v list notes notes
lines-none v list notes none = record {
  lines = [];
  noted = refl;
  walks = subst (λ (works : List Work). Walks (stood_count v).next list notes works []) (sym none) refl;
}

-- a note of something else
pub lines-more :
    (v : LedgerView) (list : List Message) (base notes : List Happening) (what : Happening)
    → is_before_change what ≡ false → AreLines v list base notes → AreLines v list base (what ∷ notes)
lines-more v list base notes what none are = record {
  lines = are.lines ++ what ∷ [];
  noted =
      ap (λ (ns : List Happening). what ∷ ns) are.noted ∙ sym (behind-both are.lines (what ∷ []) base);
  walks =
      walks-more v.works (stood_count v).next list base are.lines (what ∷ [])
      (ap (λ (b : Bool). if b then true else false) none) are.walks;
}

-- a ledger that owes the same
pub lines-as :
    (v w : LedgerView) (list : List Message) (base notes : List Happening) → w.stood ≡ v.stood → w.works ≡ v.works
    → AreLines v list base notes → AreLines w list base notes
lines-as v w list base notes stood works are = record {
  lines = are.lines;
  noted = are.noted;
  walks =
      subst (λ (at : Numbered). Walks (at.first + sum at.sizes) list base w.works are.lines) (sym stood)
      (subst (λ (ws : List Work). Walks (stood_count v).next list base ws are.lines) (sym works) are.walks);
}

nexts-are : (c : Count) (works : List Work) → nexts_after c.next works ≡ (counts_after c works).next
nexts-are c [] = refl
nexts-are c (one ∷ works) = nexts-are (count_after c one) works

-- a work more, with the line before it and the one behind it
pub lines-work :
    (v w : LedgerView) (list : List Message) (base notes : List Happening) (one : Work) (first last : Happening)
    → IsLedger v → w.stood ≡ v.stood → w.works ≡ owed v one → is_before_change first ≡ true
    → is_before_change last ≡ false → IsAmid (next_of v) (settled_list v list) one (shelf_of (first ∷ notes))
    → AreLines v list base notes → AreLines w list base (last ∷ first ∷ notes)
lines-work v w list base notes one first last is stood works before behind amid are =
    lines-as (record v { works = owed v one }) w list base (last ∷ first ∷ notes) stood works (record {
      lines = are.lines ++ first ∷ last ∷ [];
      noted =
          ap (λ (ns : List Happening). last ∷ first ∷ ns) are.noted
          ∙ sym (behind-both are.lines (first ∷ last ∷ []) base);
      walks =
          walks-work v.works (stood_count v).next list base are.lines one first (last ∷ []) before
          (ap (λ (b : Bool). if b then true else false) behind) are.walks
          (subst
          (λ (next : ℕ).
          IsAmid next (settled_list v list) one (shelf_of (noted_behind (are.lines ++ first ∷ []) base)))
          (sym (nexts-are (stood_count v) v.works ∙ ap (λ (c : Count). c.next) is.come_to))
          (subst (λ (ns : List Happening). IsAmid (next_of v) (settled_list v list) one (shelf_of ns))
          (ap (λ (ns : List Happening). first ∷ ns) are.noted ∙ sym (behind-both are.lines (first ∷ []) base)) amid));
    })
