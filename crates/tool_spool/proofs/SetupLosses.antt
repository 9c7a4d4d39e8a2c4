-- What a loss of power leaves of the setup is what a start may find of it, at whichever call of a work it comes.
use Rattle.std.proofs.Common.{◌≡◌, refl, sym, ap, subst, ◌∙◌, inl, inr, ◌⊎◌, Bool, true, false, ℕ, List, [], ◌∷◌, ◌++◌, append-nil, append_assoc, map, Option, Some, None, if◌then◌else◌}
use Rattle.disk_base.specs.declared.cut.CutChoice.{CutChoice}
use Rattle.gem_spool.specs.Standing.{Standing}
use Rattle.gem_spool.specs.Updates.{Left}
use Rattle.gem_spool.specs.Works.{list_after, next_after, standing_after}
use Rattle.gem_spool.specs.declared.works.Work.{Work}
use Rattle.message_flow.specs.declared.message.Message.{Message as Primary}
use Rattle.setup_law.proofs.Notes.{MayStart, Rests, other-rests}
use Rattle.setup_law.specs.Setup.{Due, IsFoundOf, IsNext, KeepsSetup, change_of, due_behind_other, due_in, keeping_in, list_in, with_kept}
use Rattle.setup_law.specs.Setup.Change.{Other}
use Rattle.setup_law.specs.Setup.Due.{Anything, ItsEnd}
use Rattle.setup_store.specs.Entries.{Entry, bytes_of}
use Rattle.setup_store.specs.Laws.{ListsAreReadAsSpelled}
use Rattle.spool_file.specs.File.{SpoolFile}
use Rattle.spool_file.specs.Slot.{Message}
use Rattle.spool_ledger.specs.Sizes.{oldest_of}
use Rattle.spool_works.proofs.EachFront.{split-change}
use Rattle.spool_works.proofs.EachLoss.{each-work}
use Rattle.spool_works.proofs.LossCounts.{Each}
use Rattle.spool_works.specs.DiskWorks.{DiskWork, behind_change, set_up, standing_behind, up_to_change}
use Rattle.spool_works.specs.DiskWorks.DiskWork.{Change, Keep, ReadOldest, Reserve}
use Rattle.spool_works.specs.WorkLosses.{calls_at}
use Rattle.trace_log.specs.Log.{Happening, is_before_change}
use Rattle.message_end.proofs.Growing.{behind-both}
use Rattle.message_end.specs.Core.{Step, Went}
use Rattle.message_end.specs.Core.Went.{Goes, Spent}
use Rattle.message_end.specs.Course.{noted_behind}
use Rattle.equipment_tables.specs.declared.plan.EquipmentPlan.{EquipmentPlan}
use Rattle.tool_step.specs.Disk.{keep_works, read_works, takes_up}
use Rattle.tool_step.specs.Equipment.{EquipmentView}
use Rattle.tool_step.specs.Setup.{setup_in}
use Rattle.tool_step.proofs.LossCalls.{AtEach}
use Rattle.tool_law.proofs.WorkLines.{ComesLater, GoesOn, Walks, comes-later, goes-on, has_change}
use Rattle.tool_spool.proofs.Interrupted.{IsKeptWith, IsTail}
use Rattle.tool_spool.proofs.SetupFiles.{kept-in, kinds-in, kinds-with}
use Rattle.tool_spool.proofs.StillLines.{AreStill, IsStill, keeping-stays, list-stays}

-- ---- lines of works

-- so many lines stand before a change as there are works
abbrev Cuts : List Work → List Happening → Type 0
Cuts [] lines = has_change lines ≡ false
Cuts (one ∷ works) lines = (has_change lines ≡ true) × Cuts works (behind_change lines)

pub cuts-of : (works : List Work) (next : ℕ) (list : List Message) (past lines : List Happening)
    → Walks next list past works lines → Cuts works lines
cuts-of [] next list past lines walks = walks
cuts-of (one ∷ works) next list past lines walks = (
  walks.0,
  cuts-of works (next_after next one) (list_after next list one) (noted_behind (up_to_change lines) past)
      (behind_change lines) walks.2,
)

still-front : (one two : List Happening) → AreStill (one ++ two) → AreStill one
still-front [] two still = tt
still-front (what ∷ one) two still = (still.0, still-front one two still.1)

still-rest : (one two : List Happening) → AreStill (one ++ two) → AreStill two
still-rest [] two still = still
still-rest (what ∷ one) two still = still-rest one two still.1

module _ (plan : EquipmentPlan) (held : Option (List Entry)) where
  -- ---- fronts

  -- the notes before keep the law as well
  pub kept-front : (rest notes : List Happening) → KeepsSetup plan held (noted_behind rest notes)
      → KeepsSetup plan held notes
  kept-front [] notes keeps = keeps
  kept-front (what ∷ rest) notes keeps = (kept-front rest (what ∷ notes) keeps).1

  -- behind a line of another change nothing is due
  other-due : (due : Due) (what : Happening) (notes : List Happening) → change_of what ≡ Other
      → (what ≡ Happening.Power → ⊥) → IsNext plan held notes due what → due_behind_other due ≡ Anything
  other-due (ItsEnd primary) what notes other unlike (inl is) = let kept = ap change_of (sym is) ∙ other in absurd (cc)
  other-due (ItsEnd primary) what notes other unlike (inr is) = absurd (unlike is)
  other-due _ what notes other unlike next = refl

  line-due : (what : Happening) (notes : List Happening) → is_before_change what ≡ true → IsStill what
      → KeepsSetup plan held (what ∷ notes) → due_in plan held (what ∷ notes) ≡ Anything
  line-due (Happening.Storing number message) notes is still keeps =
      other-due (due_in plan held notes) (Happening.Storing number message) notes refl (λ e. absurd (cc)) keeps.0
  line-due (Happening.Leaving number why room_for) notes is still keeps =
      other-due (due_in plan held notes) (Happening.Leaving number why room_for) notes refl (λ e. absurd (cc)) keeps.0
  line-due (Happening.Listing number listed) notes is still keeps =
      other-due (due_in plan held notes) (Happening.Listing number listed) notes refl (λ e. absurd (cc)) keeps.0
  line-due (Happening.Keeping primary) notes is still keeps = absurd still
  line-due what notes is still keeps = absurd (cc)

  up-due :
      (lines past : List Happening) → has_change lines ≡ true → AreStill lines
      → KeepsSetup plan held (noted_behind (up_to_change lines) past)
      → due_in plan held (noted_behind (up_to_change lines) past) ≡ Anything
  up-due [] past has still keeps = absurd (cc)
  up-due (what ∷ lines) past has still keeps =
      go (is_before_change what) refl has keeps
      (λ later kept. up-due lines (what ∷ past) later still.1 kept)
    where
      go : (is : Bool) → is_before_change what ≡ is → (if is then true else has_change lines) ≡ true
          → KeepsSetup plan held (noted_behind (if is then [] else up_to_change lines) (what ∷ past))
          → (has_change lines ≡ true → KeepsSetup plan held (noted_behind (up_to_change lines) (what ∷ past))
          → due_in plan held (noted_behind (up_to_change lines) (what ∷ past)) ≡ Anything)
          → due_in plan held (noted_behind (if is then [] else up_to_change lines) (what ∷ past)) ≡ Anything
      go true is has keeps later = line-due what past is still.0 keeps
      go false is has keeps later = later has keeps

  -- ---- what a start may find

  -- the law holds with a loss of power behind these notes, and a start finds this setup lawfully then
  pub record MayLeave (notes : List Happening) (setup : Option (List Entry)) : Type 0 where
    pub keeps : KeepsSetup plan held (Happening.Power ∷ notes)
    pub may : MayStart plan held (due_in plan held (Happening.Power ∷ notes))
    pub found : IsFoundOf (list_in held notes) (keeping_in notes) setup

  -- at rest it is the list that is kept
  rest-leaves : (list : Option (List Entry)) (notes : List Happening) (setup : Option (List Entry))
      → Rests plan held list notes → setup ≡ list → MayLeave notes setup
  rest-leaves list notes setup at is =
      let lost = other-rests plan held list Happening.Power notes refl at in
      record {
        keeps = lost.keeps;
        may = subst (MayStart plan held) (sym lost.due_is) tt;
        found = record { counted = false; is = is ∙ sym at.list_is };
      }

  -- amid a keep it may be the one behind that
  amid-leaves :
      (primary : Primary) (notes : List Happening) (list setup : Option (List Entry))
      → KeepsSetup plan held (Happening.Keeping primary ∷ notes) → list_in held notes ≡ list
      → (setup ≡ list) ⊎ (setup ≡ with_kept primary list) → MayLeave (Happening.Keeping primary ∷ notes) setup
  amid-leaves primary notes list setup keeps same is = record {
    keeps = (inr refl, keeps);
    may = tt;
    found = found is;
  }
    where
      found : (setup ≡ list) ⊎ (setup ≡ with_kept primary list)
          → IsFoundOf (list_in held notes) (Some primary) setup
      found (inl is) = record { counted = false; is = is ∙ sym same }
      found (inr is) = record { counted = true; is = is ∙ ap (with_kept primary) (sym same) }

  module _ (slots : ℕ) (base : List Happening) where
    -- up to a front behind what was noted before
    abbrev pub LeftAt : List Happening → Left → Type 0
    LeftAt front left = (choice : CutChoice) → MayLeave (noted_behind front base) (setup_in (left choice))

    pub call-leaves :
        (st : Standing) (one : DiskWork) (front : List Happening)
        → MayLeave (noted_behind front base) (setup_in st.file)
        → MayLeave (noted_behind front base) (setup_in (standing_behind st one).file)
        → Each (LeftAt front) (calls_at st one)
    call-leaves st one front is after =
        each-work (λ (file : SpoolFile). MayLeave (noted_behind front base) (setup_in file)) st one is (λ gates. is)
        after

    -- where a step goes on it rests, with this list
    abbrev pub GoesToRest : Went EquipmentView Happening → List Happening → Type 0
    GoesToRest (Goes step) notes = Rests plan held step.next.node.own.setup notes
    GoesToRest (Spent step) notes = Unit {0}

    read-leaves :
        (step : Step EquipmentView Happening) (st : Standing) (front lines : List Happening)
        → Rests plan held step.next.node.own.setup (noted_behind (front ++ lines) base)
        → setup_in st.file ≡ step.next.node.own.setup → AtEach LeftAt st front (read_works (Goes step)) lines
    read-leaves step st front lines rests is = go (takes_up step.next.node.own)
      where
        size : ℕ
        size = oldest_of step.next.node.own.ledger.sizes

        left : MayLeave (noted_behind (front ++ lines) base) (setup_in st.file)
        left = rest-leaves step.next.node.own.setup (noted_behind (front ++ lines) base) (setup_in st.file) rests is

        go : (takes : Bool) → AtEach LeftAt st front (if takes then ReadOldest size ∷ [] else []) lines
        go true = (call-leaves st (ReadOldest size) (front ++ lines) left left, tt)
        go false = tt

    -- the setup is kept behind the lines of the list
    module _ (list : Option (List Entry)) (step : Step EquipmentView Happening) (st : Standing)
        (front lines : List Happening) (none : has_change lines ≡ false) (still : AreStill lines)
        (stood : list_in held (noted_behind front base) ≡ list) (is : setup_in st.file ≡ list) where
      lines-list : list_in held (noted_behind lines (noted_behind front base)) ≡ list
      lines-list = list-stays held lines (noted_behind front base) still ∙ stood

      -- or it isn't
      none-kept : keep_works (Goes step) ≡ []
          → Rests plan held step.next.node.own.setup (noted_behind (front ++ lines) base)
          → AtEach LeftAt st front (keep_works (Goes step) ++ read_works (Goes step)) lines
      none-kept no_works rests =
          subst (λ (works : List DiskWork). AtEach LeftAt st front (works ++ read_works (Goes step)) lines)
          (sym no_works)
          (read-leaves step st front lines rests
          (is ∙ sym lines-list ∙ sym (ap (list_in held) (behind-both front lines base)) ∙ rests.list_is))

      module _ (lists : ListsAreReadAsSpelled) (message : Primary) (kept : IsKeptWith slots base (Goes step) message)
        where
          abbrev two : List Happening
          two = Happening.Keeping message ∷ Happening.Kept message ∷ []

          abbrev all : List Happening
          all = lines ++ two

          abbrev upto : List Happening
          upto = front ++ up_to_change all

          -- the notes behind those lines
          abbrev past : List Happening
          past = noted_behind lines (noted_behind front base)

          later : ComesLater lines two
          later = comes-later lines two none

          amid-is : noted_behind upto base ≡ Happening.Keeping message ∷ past
          amid-is =
              ap (λ (ns : List Happening). noted_behind (front ++ ns) base) later.1
              ∙ behind-both front (lines ++ Happening.Keeping message ∷ []) base
              ∙ behind-both lines (Happening.Keeping message ∷ []) (noted_behind front base)

          all-is : noted_behind (front ++ all) base ≡ Happening.Kept message ∷ Happening.Keeping message ∷ past
          all-is = behind-both front all base ∙ behind-both lines two (noted_behind front base)

          is-kept : Rests plan held step.next.node.own.setup (noted_behind (front ++ all) base)
              → AtEach LeftAt st front (keep_works (Goes step) ++ read_works (Goes step)) all
          is-kept rests =
              subst (λ (works : List DiskWork). AtEach LeftAt st front (works ++ read_works (Goes step)) all)
              (sym kept.works) (
                call-leaves st (Keep (bytes_of kept.list)) upto (left (setup_in st.file) (inl is))
                    (left (setup_in (set_up (bytes_of kept.list) st).file) (inr after)),
                read-leaves step (set_up (bytes_of kept.list) st) upto (behind_change all)
                    (subst (λ (ns : List Happening). Rests plan held step.next.node.own.setup (noted_behind ns base))
                    (ap (λ (ns : List Happening). front ++ ns) (split-change all)
                    ∙ sym (append_assoc front (up_to_change all) (behind_change all))) rests)
                    (after ∙ sym own-is),
              )
            where
              at : Rests plan held step.next.node.own.setup (Happening.Kept message ∷ Happening.Keeping message ∷ past)
              at = subst (Rests plan held step.next.node.own.setup) all-is rests

              own-is : step.next.node.own.setup ≡ with_kept message list
              own-is = sym at.list_is ∙ ap (with_kept message) lines-list

              after : setup_in (set_up (bytes_of kept.list) st).file ≡ with_kept message list
              after =
                  kept-in lists kept.list st.file
                  (kinds-with list message kept.list
                  (λ old same. kinds-in st.file old (is ∙ same)) kept.kind (sym own-is ∙ kept.setup)) kept.room
                  ∙ sym kept.setup ∙ own-is

              left : (setup : Option (List Entry)) → (setup ≡ list) ⊎ (setup ≡ with_kept message list)
                  → MayLeave (noted_behind upto base) setup
              left setup of =
                  subst (λ (ns : List Happening). MayLeave ns setup) (sym amid-is)
                  (amid-leaves message past list setup at.keeps.1 lines-list of)

    keep-leaves :
        (lists : ListsAreReadAsSpelled) (list : Option (List Entry)) (went : Went EquipmentView Happening)
        (st : Standing) (front lines tail : List Happening) → has_change lines ≡ false → AreStill lines
        → IsTail slots base went tail
        → list_in held (noted_behind front base) ≡ list
        → GoesToRest went (noted_behind (front ++ (lines ++ tail)) base) → setup_in st.file ≡ list
        → AtEach LeftAt st front (keep_works went ++ read_works went) (lines ++ tail)
    keep-leaves lists list (Spent step) st front lines tail none still is_tail stood rests is = tt
    keep-leaves lists list (Goes step) st front lines tail none still (inl (no_tail, no_works)) stood rests is =
        subst (λ (ls : List Happening). AtEach LeftAt st front (keep_works (Goes step) ++ read_works (Goes step)) ls)
        (sym same)
        (none-kept list step st front lines none still stood is no_works
        (subst (λ (ls : List Happening). Rests plan held step.next.node.own.setup (noted_behind (front ++ ls) base))
        same rests))
      where
        same : lines ++ tail ≡ lines
        same = ap (λ (t : List Happening). lines ++ t) no_tail ∙ append-nil lines
    keep-leaves lists list (Goes step) st front lines tail none still (inr (message, is_tail, kept)) stood rests is =
        subst
        (λ (t : List Happening).
        AtEach LeftAt st front (keep_works (Goes step) ++ read_works (Goes step)) (lines ++ t)) (sym is_tail)
        (is-kept list step st front lines none still stood is lists message kept
        (subst
        (λ (t : List Happening). Rests plan held step.next.node.own.setup (noted_behind (front ++ (lines ++ t)) base))
        is_tail rests))

    -- ---- all works of a step

    pub works-leave :
        (lists : ListsAreReadAsSpelled) (list : Option (List Entry)) (works : List Work)
        (went : Went EquipmentView Happening) (st : Standing) (front lines tail : List Happening) → Cuts works lines
        → AreStill lines → IsTail slots base went tail
        → list_in held (noted_behind front base) ≡ list → keeping_in (noted_behind front base) ≡ None
        → KeepsSetup plan held (noted_behind (front ++ (lines ++ tail)) base)
        → GoesToRest went (noted_behind (front ++ (lines ++ tail)) base) → setup_in st.file ≡ list
        → AtEach LeftAt st front (map Change works ++ keep_works went ++ read_works went) (lines ++ tail)
    works-leave lists list [] went st front lines tail cuts still is_tail stood keeping keeps rests is =
        keep-leaves lists list went st front lines tail cuts still is_tail stood rests is
    works-leave lists list (one ∷ works) went st front lines tail cuts still is_tail stood keeping keeps rests is =
        subst
        (λ (up : List Happening).
        Each (LeftAt (front ++ up)) (calls_at st (Change one))
        × AtEach LeftAt (standing_after st one) (front ++ up) later (behind_change (lines ++ tail)))
        (sym on.1)
        (subst
        (λ (behind : List Happening).
        Each (LeftAt (front ++ up_to_change lines)) (calls_at st (Change one))
        × AtEach LeftAt (standing_after st one) (front ++ up_to_change lines) later behind)
        (sym on.2) (
          call-leaves st (Change one) (front ++ up_to_change lines) left left,
          works-leave lists list works went (standing_after st one) (front ++ up_to_change lines)
              (behind_change lines) tail cuts.1 still-behind is_tail up-list up-keeping
              (subst (λ (ns : List Happening). KeepsSetup plan held (noted_behind ns base)) whole keeps)
              (subst (λ (ns : List Happening). GoesToRest went (noted_behind ns base)) whole rests) is,
        ))
      where
        later : List DiskWork
        later = map Change works ++ keep_works went ++ read_works went

        on : GoesOn lines tail
        on = goes-on lines tail cuts.0

        here : noted_behind (front ++ up_to_change lines) base
            ≡ noted_behind (up_to_change lines) (noted_behind front base)
        here = behind-both front (up_to_change lines) base

        whole : front ++ (lines ++ tail) ≡ (front ++ up_to_change lines) ++ (behind_change lines ++ tail)
        whole =
            ap (λ (ns : List Happening). front ++ (ns ++ tail)) (split-change lines)
            ∙ ap (λ (ns : List Happening). front ++ ns)
            (append_assoc (up_to_change lines) (behind_change lines) tail)
            ∙ sym (append_assoc front (up_to_change lines) (behind_change lines ++ tail))

        parted : AreStill (up_to_change lines ++ behind_change lines)
        parted = subst AreStill (split-change lines) still

        still-up : AreStill (up_to_change lines)
        still-up = still-front (up_to_change lines) (behind_change lines) parted

        still-behind : AreStill (behind_change lines)
        still-behind = still-rest (up_to_change lines) (behind_change lines) parted

        up-list : list_in held (noted_behind (front ++ up_to_change lines) base) ≡ list
        up-list =
            ap (list_in held) here ∙ list-stays held (up_to_change lines) (noted_behind front base) still-up ∙ stood

        up-keeping : keeping_in (noted_behind (front ++ up_to_change lines) base) ≡ None
        up-keeping =
            ap keeping_in here ∙ keeping-stays (up_to_change lines) (noted_behind front base) still-up ∙ keeping

        up-keeps : KeepsSetup plan held (noted_behind (front ++ up_to_change lines) base)
        up-keeps =
            kept-front (behind_change lines ++ tail) (noted_behind (front ++ up_to_change lines) base)
            (subst (KeepsSetup plan held)
            (ap (λ (ns : List Happening). noted_behind ns base) whole
            ∙ behind-both (front ++ up_to_change lines) (behind_change lines ++ tail) base) keeps)

        left : MayLeave (noted_behind (front ++ up_to_change lines) base) (setup_in st.file)
        left =
            rest-leaves list (noted_behind (front ++ up_to_change lines) base) (setup_in st.file)
            (record {
              keeps = up-keeps;
              due_is =
                  ap (due_in plan held) here
                  ∙ up-due lines (noted_behind front base) cuts.0 still (subst (KeepsSetup plan held) here up-keeps);
              list_is = up-list;
              keeping_is = up-keeping;
            }) is

    -- where system bytes are reserved first
    pub reserve-leaves :
        (list : Option (List Entry)) (st : Standing) (works : List DiskWork) (lines : List Happening)
        → Rests plan held list base → setup_in st.file ≡ list
        → AtEach LeftAt (standing_behind st Reserve) [] works lines → AtEach LeftAt st [] (Reserve ∷ works) lines
    reserve-leaves list st works lines rests is rest =
        let left = rest-leaves list base (setup_in st.file) rests is in (call-leaves st Reserve [] left left, rest)
