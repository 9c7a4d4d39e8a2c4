-- How a step over a disk in memory ends, and where a planned call has stopped the disk.
use Rattle.std.proofs.Common.{◌≡◌, refl, sym, ap, subst, ◌∙◌, arith, inl, inr, Bool, true, false, ℕ, List, []}
use Rattle.std.proofs.Common.{Option, Some, None, is_some}
use Rattle.std.specs.Prelude.{IfSome, Result, Err}
use Rattle.disk_base.specs.MemDisk.{DiskState, HasFitted, disk_health}
use Rattle.disk_base.specs.contracts.mem_disk.MemDiskDisk.TheImpl.{ghosts}
use Rattle.disk_base.specs.declared.cut.CutChoice.{CutChoice}
use Rattle.message_flow.specs.declared.step.StepOut.{StepOut}
use Rattle.spool_file.specs.File.{SpoolFile}
use Rattle.spool_slots.specs.declared.states.Spent.{Spent as Device}
use Rattle.trace_log.specs.declared.commands.ToolCommand.{ToolCommand}
use Rattle.trace_log.specs.Log.{Happening}
use Rattle.message_end.specs.declared.end.Stop.{Stop}
use Rattle.message_end.specs.declared.end.Stop.TheVariants as stop
use Rattle.message_end.specs.Core.{Went, step_in}
use Rattle.message_end.specs.Ends.{EndsBy, HasLost, Input, IsPassed, Leaves, Loss, Passing, Reach, passing}
use Rattle.message_end.specs.Ends.Passing.{Cuts, Passes as PassesAll}
use Rattle.equipment_tables.specs.declared.plan.EquipmentPlan.{EquipmentPlan}
use Rattle.spool_works.specs.declared.ended.Ended.{Ended}
use Rattle.spool_works.specs.declared.ended.Ended.TheVariants as ended
use Rattle.gem_recipes.specs.contracts.no_recipes.NoRecipesRecipeKeeper.TheImpl.{ghosts as no_keepers}
use Rattle.gem_recipes.specs.declared.no_recipes.NoRecipes.{NoRecipes}
use Rattle.equipment_node.specs.Breaking.{BreaksBy, HasBrokenAt, Passes}
use Rattle.spool_works.specs.Breaking.{IsGoingDisk, LeavesImages}
use Rattle.spool_works.specs.DiskCalls.{HasCalled, HasFailedIn, HasMade, all_disk_calls}
use Rattle.tool_step.specs.Disk.{standing_in, works_of}
use Rattle.equipment_node.specs.DiskCalls.{disk_held}
use Rattle.tool_step.specs.End.{machine}
use Rattle.tool_step.specs.Equipment.{EquipmentView, act, begun_step, restarts, starts}
use Rattle.equipment_node.specs.Held.{HasMoved, Held, view_in}
use Rattle.equipment_node.specs.InMemory.{FitsLeft, HasPower, IsBounded, IsLost, IsStopOf, IsWhole, StopsAs, anew_over}
use Rattle.equipment_node.specs.InMemory.{disk_reach, file_cut, lost_by, lost_if}
use Rattle.equipment_node.specs.Keeping.{ByDisk}
use Rattle.gem_spool.specs.Updates.{Left}
use Rattle.tool_law.proofs.Lawful.{IsGoodView, act-good}
use Rattle.tool_law.proofs.LawfulLosses.{LeavesWell, all-well}
use Rattle.tool_step.proofs.LossCalls.{IsAtCall, at-call}
use Rattle.spool_works.proofs.LossCounts.{has-call}
use Rattle.tool_step.specs.Losses.{left_as, losses}
use Rattle.tool_law.specs.Sound.{AllCanBeSent}
use Rattle.equipment_node.specs.Stepping.{IsMade, stop_by}
use Rattle.equipment_node.proofs.Broken.{passed-by}
use Rattle.equipment_node.proofs.Reaching.{cut-at, lacked, reached}

-- a keeper of no recipes doesn't fail, so it is the disk that has
by-the-disk :
    {D R : Type 0} (before after : NoRecipes) (By : Result R (Ended D) → Type 0) (Unserved : D → Type 0) (end : Ended D)
    → ByDisk no_keepers before after By Unserved (Err end) → By (Err end)
by-the-disk before after By Unserved (ended.NoMemory spent) is = is
by-the-disk before after By Unserved (ended.NumbersSpent spent) is = is
by-the-disk before after By Unserved (ended.DiskFailed spent) (inl is) = is
by-the-disk before after By Unserved (ended.DiskFailed spent) (inr unserved) =
    let rose = unserved.0.by_one in absurd (omega (arith, rose))

module _
    (plan : EquipmentPlan) (h : Held DiskState NoRecipes) (power : HasPower ghosts plan h)
    (input : Input ToolCommand) (now : ℕ) (out : StepOut)
  where
    abbrev held : Held DiskState NoRecipes → DiskState
    held = disk_held

    abbrev s : EquipmentView
    s = view_in ghosts no_keepers h

    abbrev some : List (Loss EquipmentView)
    some = losses s input now

    abbrev call : ℕ
    call = h.spool.spool.disk.plan.stop_in

    abbrev made : IsMade s
    made = power.in_state.on.made

    good : IsGoodView made.plan made.fits s
    good = record { own = made.did.sound.own; list = made.did.sound.list }

    goes : IsGoingDisk (disk_health h.spool.spool.disk)
    goes =
        record { fails_not = power.fails_not; going = record { exact = refl; on = power.going } }

    abbrev disk : DiskState
    disk = h.spool.spool.disk

    -- the bounds of its list stay
    same-bounds : (later : DiskState) → (disk_health later).bounds ≡ (disk_health disk).bounds → IsBounded later
    same-bounds later kept = (
      ap (λ (w : ℕ × ℕ). w.0) kept ∙ power.bounded.0,
      ap (λ (w : ℕ × ℕ). w.1) kept ∙ power.bounded.1,
    )

    -- ---- it goes on

    module _ (k : Held DiskState NoRecipes) (moved : HasMoved ghosts no_keepers h input now out k)
        (passes : Passes ghosts disk some k.spool.spool.disk) (fitted : HasFitted k.spool.spool.disk)
      where
        pub ok-ends :
            (lost : Option DiskState) → lost ≡ None
            → (passing (disk_reach disk) some ≡ PassesAll (disk_reach k.spool.spool.disk)) × (is_some lost ≡ false)
        ok-ends lost none = (
          reached disk k.spool.spool.disk power.fitted fitted power.going passes.are.used.bounds_kept some passes,
          ap (λ (o : Option DiskState). is_some o) none,
        )

        next-is : (step_in (act s input now)).next ≡ view_in ghosts no_keepers k
        next-is =
            ap (λ (went : Went EquipmentView Happening). (step_in went).next) moved.gone.is ∙ moved.gone.next_is

        ok-power : HasPower ghosts plan k
        ok-power =
            let passed = passed-by ghosts disk k.spool.spool.disk some passes goes in
            record {
              in_state = moved.in_state;
              fails_not = passed.on.fails_not;
              going = passed.on.going.on;
              bounded = same-bounds k.spool.spool.disk passes.are.used.bounds_kept;
              fitted = fitted;
              plan_is =
                  ap (λ (x : EquipmentView). x.node.own.plan) (sym next-is)
                  ∙ (act-good made.plan made.fits s input now good).own.plan_is ∙ sym good.own.plan_is ∙ power.plan_is;
            }

        pub ok-whole : (lost : Option DiskState) → lost ≡ None → IsWhole ghosts plan (Some k) lost
        ok-whole lost none =
            subst (λ (o : Option DiskState). IsWhole ghosts plan (Some k) o) (sym none) ok-power

    -- ---- a planned call has stopped its disk

    module _ (lost : DiskState) (at : HasBrokenAt some call lost.story out.notes) where
      abbrev Well : List Happening → Left → Type 0
      Well = LeavesWell s.file (step_in (act s input now)).next.file.mark.value

      at-left : IsAtCall Well s at.loss
      at-left =
          at-call Well s (works_of s input now) (standing_in s) [] (step_in (begun_step s input now)).notes at.loss
          (all-well made.plan made.fits s input now good) (has-call call some at.loss at.is)

      left-is : (choice : CutChoice) → at.loss.left choice ≡ left_as s (at-left.left choice)
      left-is choice = ap (λ (one : Loss EquipmentView). one.left choice) at-left.is

      file-is : (choice : CutChoice) → file_cut lost choice ≡ (at.loss.left choice).file
      file-is choice = sym (at.left choice).is

      can-left : (choice : CutChoice) → AllCanBeSent (at.loss.left choice).file.list
      can-left choice =
          subst (λ (left : EquipmentView). AllCanBeSent left.file.list) (sym (left-is choice)) (at-left.at choice).can

      version-left : (choice : CutChoice) → (at.loss.left choice).file.version ≡ 2
      version-left choice =
          ap (λ (left : EquipmentView). left.file.version) (left-is choice) ∙ (at-left.at choice).version_is
          ∙ power.in_state.on.clear.version_is

      is-lost : IsBounded lost → IsLost lost
      is-lost bounded = record {
        version = λ choice. ap (λ (file : SpoolFile). file.version) (file-is choice) ∙ version-left choice;
        can = λ choice.
            subst (λ (file : SpoolFile). AllCanBeSent file.list) (sym (file-is choice)) (can-left choice);
        bounded = bounded;
      }

      starts-so : (choice : CutChoice) (later : ℕ)
          → anew_over ghosts plan None (Some lost) choice later ≡ restarts (at.loss.left choice) later
      starts-so choice later =
          ap (λ (file : SpoolFile). starts plan file) (file-is choice)
          ∙ ap (λ (p : EquipmentPlan). starts p (at.loss.left choice).file)
          (sym (ap (λ (left : EquipmentView). left.node.own.plan) (left-is choice) ∙ power.plan_is))

      has-lost : passing (disk_reach disk) some ≡ Cuts at.loss
          → HasLost machine (passing (disk_reach disk) some)
          (λ choice later. anew_over ghosts plan None (Some lost) choice later) out
      has-lost cut =
          record { loss = at.loss; is = cut; notes = at.noted; starts = λ choice later. starts-so choice later }

    -- ---- it ends

    abbrev Ends : Option (Held DiskState NoRecipes) → Option DiskState → Reach → Stop → Type 0
    Ends going lost after why =
        EndsBy machine some (disk_reach disk) after (is_some lost)
        (λ choice later. anew_over ghosts plan going lost choice later) out (Err why)

    abbrev Images : Option DiskState → Type 0
    Images lost = IfSome lost (λ (d : DiskState). LeavesImages d.story)

    module _ (spent : Device DiskState)
        (breaks : BreaksBy ghosts held disk some out.notes (Err (ended.DiskFailed spent)))
        (failed : HasFailedIn ghosts disk spent.disk (all_disk_calls (standing_in s) (works_of s input now)))
        (fitted : HasFitted spent.disk)
      where
        broken : spent.disk.plan.stopped ≡ true → LeavesImages spent.disk.story
            → HasBrokenAt some call spent.disk.story out.notes
        broken so images = breaks.0 goes spent.disk.story refl images so

        failed-ends :
            (after : Reach) (is : Bool) → spent.disk.plan.stopped ≡ is → Images (lost_if is spent.disk) → (why : Stop)
            → StopsAs is spent.disk why → Ends None (lost_if is spent.disk) after why
        failed-ends after true so images why stops =
            let at = broken so images in
            subst (λ (w : Stop). Ends None (Some spent.disk) after w) (sym stops)
            (has-lost spent.disk at
            (cut-at disk spent.disk power.fitted fitted power.going failed.fault.bounds_kept some out.notes breaks.1 _ _
            failed.fault goes so at.loss at.is))
        failed-ends after false so images stop.NoMemory stops = tt
        failed-ends after false so images stop.DiskFailed stops = record {
          loss = breaks.1.loss;
          is =
              lacked disk spent.disk power.fitted fitted power.going failed.fault.bounds_kept some out.notes breaks.1
              _ _ failed.fault so stops;
          notes = breaks.1.noted;
        }
        failed-ends after false so images stop.NumbersSpent stops = absurd stops
        failed-ends after false so images stop.Full stops = absurd stops

        failed-whole :
            (is : Bool) → spent.disk.plan.stopped ≡ is → Images (lost_if is spent.disk)
            → IsWhole ghosts plan None (lost_if is spent.disk)
        failed-whole true so images =
            is-lost spent.disk (broken so images) (same-bounds spent.disk failed.fault.bounds_kept)
        failed-whole false so images = tt

    abbrev Breaks : Ended DiskState → Type 0
    Breaks end = BreaksBy ghosts held disk some out.notes (Err end)

    abbrev Called : Ended DiskState → Type 0
    Called end = HasCalled ghosts held disk (standing_in s) (works_of s input now) (Err end)

    ends-at :
        (end : Ended DiskState) (after : Reach) → Images (lost_by end) → Breaks end → Called end → FitsLeft end
        → (why : Stop) → IsStopOf end why → Ends None (lost_by end) after why
    ends-at (ended.NoMemory spent) after images breaks called fitted why is =
        subst (λ (w : Stop). Ends None None after w) (sym is) tt
    ends-at (ended.NumbersSpent spent) after images breaks called fitted why is =
        subst (λ (w : Stop). Ends None None after w) (sym is)
        (subst (λ (passed : Passing EquipmentView). IsPassed passed)
        (sym
        (reached disk spent.disk power.fitted fitted power.going breaks.are.used.bounds_kept some breaks)) tt)
    ends-at (ended.DiskFailed spent) after images breaks called fitted why is =
        failed-ends spent breaks called fitted after spent.disk.plan.stopped refl images why is

    whole-at :
        (end : Ended DiskState) → Images (lost_by end) → Breaks end → Called end → FitsLeft end
        → IsWhole ghosts plan None (lost_by end)
    whole-at (ended.NoMemory spent) images breaks called fitted = tt
    whole-at (ended.NumbersSpent spent) images breaks called fitted = tt
    whole-at (ended.DiskFailed spent) images breaks called fitted =
        failed-whole spent breaks called fitted spent.disk.plan.stopped refl images

    module _ (end : Ended DiskState) (lost : Option DiskState) (lost-is : lost ≡ lost_by end) (images : Images lost)
        (going : Option (Held DiskState NoRecipes)) (gone : going ≡ None) (before after : NoRecipes)
        (broke :
        ByDisk no_keepers before after (BreaksBy ghosts held disk some out.notes) (Passes ghosts disk some)
        (Err end))
        (asked :
        ByDisk no_keepers before after (HasCalled ghosts held disk (standing_in s) (works_of s input now))
        (λ later. HasMade ghosts disk later (all_disk_calls (standing_in s) (works_of s input now))) (Err end))
        (fitted : FitsLeft end)
      where
        breaks : Breaks end
        breaks =
            by-the-disk before after (BreaksBy ghosts held disk some out.notes) (Passes ghosts disk some) end broke

        called : Called end
        called =
            by-the-disk before after (HasCalled ghosts held disk (standing_in s) (works_of s input now))
            (λ later. HasMade ghosts disk later (all_disk_calls (standing_in s) (works_of s input now))) end asked

        images-by : Images (lost_by end)
        images-by = subst Images lost-is images

        pub err-ends : (reach : Reach) (why : Stop) → IsStopOf end why → Ends going lost reach why
        err-ends reach why is =
            subst (λ (o : Option (Held DiskState NoRecipes)). Ends o lost reach why) (sym gone)
            (subst (λ (o : Option DiskState). Ends None o reach why) (sym lost-is)
            (ends-at end reach images-by breaks called fitted why is))

        pub err-whole : IsWhole ghosts plan going lost
        err-whole =
            subst (λ (o : Option (Held DiskState NoRecipes)). IsWhole ghosts plan o lost) (sym gone)
            (subst (λ (o : Option DiskState). IsWhole ghosts plan None o) (sym lost-is)
            (whole-at end images-by breaks called fitted))

-- where it is told as want of memory it sends nothing, either
module _ (fronts : List (List Happening)) (went : Went EquipmentView Happening) (next : EquipmentView) (out : StepOut)
  where
    abbrev LeavesSo : Stop → Type 0
    LeavesSo why = Leaves fronts false went next out (Err why)

    failed-leaves : (disk : DiskState) (is : Bool) (why : Stop) → StopsAs is disk why → LeavesSo stop.DiskFailed
        → LeavesSo why
    failed-leaves disk true why stops leaves = subst LeavesSo (sym stops) leaves
    failed-leaves disk false stop.NoMemory stops leaves = leaves.quiet
    failed-leaves disk false stop.DiskFailed stops leaves = leaves
    failed-leaves disk false stop.NumbersSpent stops leaves = absurd stops
    failed-leaves disk false stop.Full stops leaves = absurd stops

    pub told-leaves : (end : Ended DiskState) (why : Stop) → IsStopOf end why → LeavesSo (stop_by end) → LeavesSo why
    told-leaves (ended.NoMemory spent) why is leaves = subst LeavesSo (sym is) leaves
    told-leaves (ended.NumbersSpent spent) why is leaves = subst LeavesSo (sym is) leaves
    told-leaves (ended.DiskFailed spent) why is leaves =
        failed-leaves spent.disk spent.disk.plan.stopped why is leaves
