-- How the disk stands, and places among the works of a step.
use Rattle.std.proofs.Common.{◌≡◌, refl, sym, ap, subst, ◌∙◌, inl, inr, arith, zero, suc, ◌≤◌, ◌&&◌, not, Bool, true, false, ℕ, List, [], ◌∷◌, ◌++◌, length, map, take, Option, Some, None, if◌then◌else◌}
use Rattle.std.proofs.lemmas.List.Sums.{fold-append}
use Rattle.std.specs.List.{slice_get}
use Rattle.disk_base.specs.Story.{Story}
use Rattle.disk_base.specs.declared.disk.Disk as disk
use Rattle.disk_base.proofs.Moments.{only_now}
use Rattle.gem_spool.specs.declared.count.Count.{Count}
use Rattle.gem_spool.specs.declared.works.Work.{Work}
use Rattle.gem_spool.specs.Standing.{Standing, Stands, count_in}
use Rattle.gem_spool.specs.Works.{counts_after, reserved as marked, standing_after, standings_after}
use Rattle.gem_spool.proofs.Doing.{counts_keep}
use Rattle.spool_file.specs.File.{SpoolFile, StandsFor}
use Rattle.spool_file.specs.Slot.{Message, width}
use Rattle.spool_slots.specs.Spool.{SpoolView}
use Rattle.spool_slots.specs.declared.states.Spent.{Spent as Device}
use Rattle.trace_log.specs.Log.{Happening}
use Rattle.message_end.specs.Core.{Went, at_first}
use Rattle.message_end.specs.Core.Went.{Goes, Spent}
use Rattle.message_end.specs.Own.{Has}
use Rattle.spool_ledger.specs.Ledger.{LedgerView, carried_out, next_of, stood_count}
use Rattle.spool_ledger.specs.Sizes.{all_sizes_after}
use Rattle.equipment_node.specs.Amid.{Keeps, WorksFit, opened}
use Rattle.spool_works.specs.DiskWorks.{DiskWork, fronts_of, standing_behind, standings_behind}
use Rattle.tool_step.specs.Disk.{standing_in}
use Rattle.spool_works.specs.DiskWorks.DiskWork.{Change, Reserve}
use Rattle.tool_step.specs.Equipment.{EquipmentView, is_marked_out, needs_numbers, reserved, reserving, settled_file}
use Rattle.tool_step.specs.Left as left
use Rattle.tool_step.proofs.StepFiles.{lists-behind}
use Rattle.equipment_node.proofs.Sizing.{all-widths-after, sized-of}

-- ---- lists

pub get-has : {X : Type 0} (xs : List X) (at : ℕ) (x : X) → slice_get xs at ≡ Some x → Has xs x
get-has [] at x is = absurd (cc)
get-has (one ∷ xs) zero x is = inl (cc)
get-has (one ∷ xs) (suc at) x is = inr (get-has xs at x is)

pub get-front : {X : Type 0} (xs more : List X) (at : ℕ) (x : X) → slice_get xs at ≡ Some x
    → slice_get (xs ++ more) at ≡ Some x
get-front [] more at x is = absurd (cc)
get-front (one ∷ xs) more zero x is = is
get-front (one ∷ xs) more (suc at) x is = get-front xs more at x is

pub get-behind : {X : Type 0} (xs more : List X) → slice_get (xs ++ more) (length xs) ≡ slice_get more 0
get-behind [] more = refl
get-behind (one ∷ xs) more = get-behind xs more

pub get-changed : (works : List Work) (at : ℕ) (work : Work) → slice_get works at ≡ Some work
    → slice_get (map Change works) at ≡ Some (Change work)
get-changed [] at work is = absurd (cc)
get-changed (one ∷ works) zero work is = ap (λ (x : Option Work). go x) is
  where
    go : Option Work → Option DiskWork
    go None = None
    go (Some x) = Some (Change x)
get-changed (one ∷ works) (suc at) work is = get-changed works at work is

pub map-long : (works : List Work) → length (map Change works) ≡ length works
map-long [] = refl
map-long (one ∷ works) = ap suc (map-long works)

-- ---- how the disk stands

module _ {D : Type 0} (members : disk.Ghosts D) where
  -- whatever a crash leaves of a spool in hand is it
  pub held : (v : SpoolView D) (st : Standing) → Stands members v st → (t : Story) → members.told v.disk ≡ Some t
      → left.Holds st t.now
  held v st stands t told image image_is =
      let file = stands.file t told in
      subst (λ (bytes : List ℕ). StandsFor bytes st.file) (sym (only_now t.now image file.settled image_is)) file.stands

  pub kept-of : (v : SpoolView D) (st : Standing) (spent : Device D) → spent.disk ≡ v.disk → Stands members v st
      → Keeps members spent st
  kept-of v st spent same stands t told =
      held v st stands t (ap (λ (d : D). members.told d) (sym same) ∙ told)

pub take-all : {X : Type 0} (xs : List X) → take (length xs) xs ≡ xs
take-all {X} [] = refl
take-all {X} (x ∷ xs) = ap (λ (rest : List X). x ∷ rest) (take-all xs)

-- behind the works the disk has the file that was decided
module _ (st : Standing) (ledger : LedgerView) (same : count_in st ≡ stood_count ledger)
    (sizes : map width st.file.list ≡ ledger.stood.sizes) (fit : WorksFit ledger)
  where
    counts : count_in (standings_after st ledger.works) ≡ stood_count (carried_out ledger)
    counts =
        sym (counts_keep st ledger.works (sized-of st ledger sizes fit))
        ∙ ap (λ (c : Count). counts_after c ledger.works) same
        ∙ fit.come_to

    pub settled-standing :
        standings_after st ledger.works ≡ record { next = next_of ledger; file = settled_file ledger st.file }
    settled-standing =
        ap (λ (n : ℕ). made n (standings_after st ledger.works).file) (ap (λ (c : Count). c.next) counts)
        ∙ ap (λ (n : ℕ). made (next_of ledger) (standings_after (made n st.file) ledger.works).file)
        (ap (λ (c : Count). c.next) same)
      where
        made : ℕ → SpoolFile → Standing
        made next file = record { next = next; file = file }

    pub settled-sizes : map width (settled_file ledger st.file).list ≡ ledger.sizes
    settled-sizes =
        ap (λ (x : Standing). map width x.file.list) (sym settled-standing)
        ∙ ap (λ (list : List Message). map width list) (lists-behind st ledger.works)
        ∙ all-widths-after st.next st.file.list ledger.works
        ∙ ap (λ (ns : List ℕ). all_sizes_after ns ledger.works) sizes
        ∙ fit.leave

-- ---- places among all works

-- one is reserved first, or none
abbrev pub place_of : Bool → ℕ → ℕ
place_of true at = suc at
place_of false at = at

abbrev pub reserves : Bool → List DiskWork
reserves is = if is then Reserve ∷ [] else []

abbrev pub is_reserving : EquipmentView → Bool
is_reserving s = needs_numbers s && not (is_marked_out s.file.mark.value)

pub placed : (is : Bool) (works : List DiskWork) (at : ℕ)
    → slice_get (reserves is ++ works) (place_of is at) ≡ slice_get works at
placed true works at = refl
placed false works at = refl

pub placed-front : (is : Bool) (works : List DiskWork) (notes : List Happening) (at : ℕ)
    → slice_get (fronts_of [] (reserves is ++ works) notes) (place_of is at) ≡ slice_get (fronts_of [] works notes) at
placed-front true works notes at = refl
placed-front false works notes at = refl

pub standings-change : (st : Standing) (works : List Work) (rest : List DiskWork) (at : ℕ) → at ≤ length works
    → standings_behind st (take at (map Change works ++ rest)) ≡ standings_after st (take at works)
standings-change st works rest zero within = refl
standings-change st [] rest (suc at) within = absurd (omega (arith, within))
standings-change st (one ∷ works) rest (suc at) within =
    standings-change (standing_after st one) works rest at (omega (arith, within))

pub placed-standing : (is : Bool) (st : Standing) (works : List DiskWork) (at : ℕ)
    → standings_behind st (take (place_of is at) (reserves is ++ works))
    ≡ standings_behind (if is then marked st else st) (take at works)
placed-standing true st works at = refl
placed-standing false st works at = refl

pub placed-whole : (is : Bool) (st : Standing) (works : List DiskWork)
    → standings_behind st (reserves is ++ works) ≡ standings_behind (if is then marked st else st) works
placed-whole true st works = refl
placed-whole false st works = refl

-- some works behind others
pub behind-both : (st : Standing) (one two : List DiskWork)
    → standings_behind st (one ++ two) ≡ standings_behind (standings_behind st one) two
behind-both st one two = fold-append standing_behind st one two

-- where it was opened, the disk stands so behind the reserve
abbrev opening : EquipmentView → Bool → Bool → Went EquipmentView Happening
opening s needs out =
    if needs then if out then Spent (at_first s) else Goes (at_first (reserved s)) else Goes (at_first s)

abbrev opened_by : EquipmentView → Bool → EquipmentView
opened_by s needs = if needs then reserved s else s

pub opened-standing : (s : EquipmentView) → reserving s ≡ Goes (at_first (opened s))
    → (if is_reserving s then marked (standing_in s) else standing_in s) ≡ standing_in (opened s)
opened-standing s went = go (needs_numbers s) (is_marked_out s.file.mark.value) went
  where
    go : (needs out : Bool)
        → opening s needs out ≡ Goes (at_first (opened_by s needs))
        → (if needs && not out then marked (standing_in s) else standing_in s) ≡ standing_in (opened_by s needs)
    go true true went = absurd (cc)
    go true false went = refl
    go false out went = refl
