-- What an unload keeps of the spool as it is noted.
use Rattle.std.proofs.Common.{◌≡◌, refl, sym, ap, subst, ◌∙◌, inl, inr, arith, ◌<◌, ◌+◌, ◌==◌, ◌&&◌, nat_lt, Bool, true, false, ℕ, List, [], ◌∷◌, length, not, Option, Some, None, if◌then◌else◌}
use Rattle.std.proofs.lemmas.Bool.Decides.{nat_tests}
use Rattle.message_end.specs.Core.{primary_of}
use Rattle.message_end.specs.Course.{noted_behind}
use Rattle.spool_law.specs.Shelf.{Carries, IsConfirmed, MaySendTried, Told, received_since, shelf_of, told_first, told_with}
use Rattle.std.specs.Option.{option_map}
use Rattle.spool_ledger.specs.declared.unload.Unload.{Unload}
use Rattle.spool_ledger.specs.Activity.{activated, changed, is_done, rested}
use Rattle.spool_ledger.specs.Laws.{Call}
use Rattle.spool_ledger.specs.Ledger.{IsLedger, LedgerView, and_then, quiet, stood_count}
use Rattle.spool_ledger.specs.Ledger.{Numbered, next_of}
use Rattle.std.specs.Prelude.{map, sum}
use Rattle.gem_spool.specs.Works.{lists_after}
use Rattle.gem_spool.specs.declared.works.Work.{Work}
use Rattle.spool_ledger.specs.Storing.{oldest_out}
use Rattle.spool_ledger.proofs.Keeping.{oldest-some}
use Rattle.spool_ledger.specs.Unloading.{confirmed, counted, is_oldest_tried, settled, taken_up, tried_in, tries, with_each}
use Rattle.spool_file.specs.Slot.{Message as Put}
use Rattle.trace_log.specs.Log.{Happening}
use Rattle.trace_log.specs.Log.Happening.{Spool, Try}
use Rattle.trace_log.specs.Names.{Spooled}
use Rattle.trace_log.specs.declared.names.Cause.TheVariants as cause
use Rattle.equipment_tables.specs.declared.plan.EquipmentPlan.{EquipmentPlan}
use Rattle.spool_works.specs.Found.{found_in, spooled_of}
use Rattle.tool_step.specs.Equipment.{settled_list}
use Rattle.tool_step.specs.Spooling.{unloaded}
use Rattle.tool_spool.specs.LeavesInStep.{IsConfirmedInStep}
use Rattle.tool_spool.specs.SpoolKept.{policy_of}
use Rattle.tool_spool.proofs.KeptLedger.{IsKeptBy, one-call}
use Rattle.tool_spool.proofs.PairedLines.{told-as}
use Rattle.spool_file.specs.Run.{IsChainFrom}
use Rattle.spool_file.specs.Slot.{width}
use Rattle.tool_spool.proofs.Shelved.{IsShelved, first-is, noted-shelved, out-shelved, shelved-closed, shelved-for}
use Rattle.tool_law.proofs.WorkLines.{lines-as}

-- ---- what goes out

-- behind a try its own message goes out with its system bytes
pub carries-taken :
    (message : Spooled) (system : ℕ) (told : List Told)
    → MaySendTried (record { system = system; message = message } ∷ told) (primary_of (unloaded message) system)
carries-taken message system told primary other same = go (system == system) (grind (arith, nat_tests)) same
  where
    inj : (x y : Spooled) → Some x ≡ Some y → x ≡ y
    inj x y e = cc

    go : (b : Bool) → b ≡ true → (if b then Some message else told_with system told) ≡ Some other
        → Carries other (primary_of (unloaded message) system)
    go true e same =
        subst (λ (m : Spooled). Carries m (primary_of (unloaded message) system)) (inj message other same)
        (record { stream = refl; function = refl; wait = refl; body = refl })
    go false e same = absurd (grind (arith, e))

-- the reply has come that confirms this one, in this start and in this step
abbrev pub MayConfirm : List Happening → ℕ → Type 0
MayConfirm notes number = IsConfirmed (shelf_of notes) (received_since notes) × IsConfirmedInStep notes number

module _ (plan : EquipmentPlan) (slots : ℕ) (list : List Put) (base : List Happening) where
  -- ---- changes that leave the list as it is

  -- the disk has the same, and is owed the same
  abbrev pub OwesAs : LedgerView → LedgerView → Type 0
  OwesAs v w = (w.stood ≡ v.stood) × (w.works ≡ v.works)

  pub moved-shelved :
      (v w : LedgerView) (notes : List Happening) → w.first ≡ v.first → w.sizes ≡ v.sizes
      → OwesAs v w → IsShelved (policy_of plan slots) v list base notes
      → IsShelved (policy_of plan slots) w list base notes
  moved-shelved v w notes first sizes owes shelved = record {
    kept = shelved.kept;
    rest = shelved.rest;
    stands = shelved.stands ∙ ap found_in (sym same);
    chain =
        subst (λ (n : ℕ). IsChainFrom n (n + sum w.sizes) (settled_list w list)) (sym first)
        (subst (λ (ns : List ℕ). IsChainFrom v.first (v.first + sum ns) (settled_list w list)) (sym sizes)
        (subst (IsChainFrom v.first (next_of v)) (sym same) shelved.chain));
    sizes = ap (map width) same ∙ shelved.sizes ∙ sym sizes;
    lines = lines-as v w list base notes owes.0 owes.1 shelved.lines;
    told = told-as v w list base notes owes.0 owes.1 shelved.told;
    closed = shelved.closed;
  }
    where
      same : settled_list w list ≡ settled_list v list
      same =
          ap (λ (at : Numbered). lists_after (at.first + sum at.sizes) list w.works) owes.0
          ∙ ap (λ (works : List Work). lists_after (stood_count v).next list works) owes.1

  module _ (v : LedgerView) (notes : List Happening) (is : IsLedger v)
      (shelved : IsShelved (policy_of plan slots) v list base notes)
    where
      -- an unload begins, goes on or ends
      pub unload-kept : (w : LedgerView) → IsLedger w → w.slots ≡ v.slots → w.first ≡ v.first → w.sizes ≡ v.sizes
          → OwesAs v w → IsKeptBy plan slots list base v notes w []
      unload-kept w good all first len same = record {
        is = good;
        all = all;
        shelved = moved-shelved v w notes first len same shelved;
        told = refl;
        tables = refl;
        moves = inl (first, refl);
      }

      changed-kept : (active : Bool) → IsLedger (changed active v).next
          → IsKeptBy plan slots list base v notes (changed active v).next (changed active v).lines
      changed-kept active good = record {
        is = good;
        all = refl;
        shelved =
            noted-shelved (policy_of plan slots) (changed active v).next list base notes (Spool active) tt refl tt
            (moved-shelved v (changed active v).next notes refl refl (refl, refl) shelved);
        told = refl;
        tables = refl;
        moves = inl (refl, refl);
      }

      -- the spool becomes active, and spooling ends
      pub activated-kept :
          (enabled : Bool) → IsKeptBy plan slots list base v notes (activated enabled v).next
          (activated enabled v).lines
      activated-kept enabled =
          go (enabled && not v.is_active) (one-call plan slots list base (Call.Activate enabled) v is tt)
        where
          go : (begins : Bool) → IsLedger (if begins then changed true v else quiet v).next
              → IsKeptBy plan slots list base v notes (if begins then changed true v else quiet v).next
              (if begins then changed true v else quiet v).lines
          go true good = changed-kept true good
          go false good = unload-kept v good refl refl refl (refl, refl)

      pub rested-kept :
          (communicating : Bool)
          → IsKeptBy plan slots list base v notes (rested communicating v).next (rested communicating v).lines
      rested-kept communicating =
          go (communicating && v.is_active && is_done v)
          (one-call plan slots list base (Call.Rest communicating) v is tt)
        where
          go : (ends : Bool) → IsLedger (if ends then changed false v else quiet v).next
              → IsKeptBy plan slots list base v notes (if ends then changed false v else quiet v).next
              (if ends then changed false v else quiet v).lines
          go true good = changed-kept false good
          go false good = unload-kept v good refl refl refl (refl, refl)

      -- ---- a message is taken up

      pub taken-shelved :
          (system : ℕ) (waiting : Option (List ℕ)) → 0 < length v.sizes
          → IsShelved (policy_of plan slots) (taken_up v.first system waiting v).next list base
          (Try v.first system ∷ notes)
      taken-shelved system waiting some =
          noted-shelved (policy_of plan slots) (taken_up v.first system waiting v).next list base notes
          (Try v.first system)
          tt refl
          (first-is (policy_of plan slots) v list base notes cause.Confirmed None is
          (shelved-for None (policy_of plan slots) v list base notes shelved) some)
          (moved-shelved v (taken_up v.first system waiting v).next notes refl refl (refl, refl) shelved)

      -- the oldest one is to go out with these system bytes
      pub taken-told :
          (system : ℕ) (oldest : Put) (rest : List Put) → settled_list v list ≡ oldest ∷ rest
          → (shelf_of (Try v.first system ∷ notes)).told
          ≡ record { system = system; message = spooled_of oldest } ∷ (shelf_of notes).told
      taken-told system oldest rest same =
          ap (λ (stands : List (ℕ × Spooled)). told_first stands system (shelf_of notes).told)
          (shelved.stands ∙ ap found_in same)

      -- ---- its reply has come

      pub confirmed-kept :
          (is_oldest_tried v ≡ true → MayConfirm notes v.first)
          → IsKeptBy plan slots list base v notes (confirmed v).next (confirmed v).lines
      confirmed-kept may = go (is_oldest_tried v) refl (one-call plan slots list base Call.Confirm v is tt)
        where
          some : (len : ℕ) (tried : Bool) → (nat_lt 0 len && tried) ≡ true → 0 < len
          some len tried e = grind (arith, nat_tests, e)

          go : (oldest : Bool) → is_oldest_tried v ≡ oldest
              → IsLedger
              (if oldest then and_then (oldest_out cause.Confirmed None v) (λ w. quiet (with_each counted w))
              else quiet (with_each settled v)).next
              → IsKeptBy plan slots list base v notes
              (if oldest then and_then (oldest_out cause.Confirmed None v) (λ w. quiet (with_each counted w))
              else quiet (with_each settled v)).next
              (if oldest then and_then (oldest_out cause.Confirmed None v) (λ w. quiet (with_each counted w))
              else quiet (with_each settled v)).lines
          go true e good = record {
            is = good;
            all = refl;
            shelved =
                moved-shelved (oldest_out cause.Confirmed None v).next
                (with_each counted (oldest_out cause.Confirmed None v).next)
                (noted_behind (oldest_out cause.Confirmed None v).lines notes) refl refl (refl, refl)
                (shelved-closed None (policy_of plan slots) (oldest_out cause.Confirmed None v).next list base
                (noted_behind (oldest_out cause.Confirmed None v).lines notes) refl
                (out-shelved (policy_of plan slots) v list base notes cause.Confirmed None is
                (shelved-for None (policy_of plan slots) v list base notes shelved)
                (some (length v.sizes) (tries v.first v.unload) e) (λ e2. absurd (grind (arith, e2))) ((may e).0, refl) (may e).1));
            told = refl;
            tables = refl;
            moves =
                let one = oldest-some v.sizes is.each (some (length v.sizes) (tries v.first v.unload) e) in
                inr (omega (arith, one));
          }
          go false e good = unload-kept (with_each settled v) good refl refl refl (refl, refl)

-- ---- what they leave of the unload

pub activated-unload : (enabled : Bool) (v : LedgerView) → (activated enabled v).next.unload ≡ v.unload
activated-unload enabled v = go (enabled && not v.is_active)
  where
    go : (begins : Bool) → (if begins then changed true v else quiet v).next.unload ≡ v.unload
    go true = refl
    go false = refl

pub rested-unload : (communicating : Bool) (v : LedgerView) → (rested communicating v).next.unload ≡ v.unload
rested-unload communicating v = go (communicating && v.is_active && is_done v)
  where
    go : (ends : Bool) → (if ends then changed false v else quiet v).next.unload ≡ v.unload
    go true = refl
    go false = refl

-- behind a reply none is under way
pub confirmed-tried : (v : LedgerView) → tried_in (confirmed v).next.unload ≡ None
confirmed-tried v = go (is_oldest_tried v)
  where
    by : (unload : Option Unload) (change : Unload → Unload) → ((u : Unload) → (change u).tried ≡ None)
        → tried_in (option_map change unload) ≡ None
    by None change none = refl
    by (Some u) change none = none u

    go : (oldest : Bool)
        → tried_in
        (if oldest then and_then (oldest_out cause.Confirmed None v) (λ w. quiet (with_each counted w))
        else quiet (with_each settled v)).next.unload
        ≡ None
    go true = by v.unload counted (λ u. refl)
    go false = by v.unload settled (λ u. refl)
