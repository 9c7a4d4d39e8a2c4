-- How a step over a disk in memory ends, and where a planned call has stopped the disk.
use Rattle.std.proofs.Common.{◌≡◌, refl, sym, ap, subst, ◌∙◌, Bool, true, false, ℕ, List, Option, Some, None}
use Rattle.std.proofs.Common.{is_some}
use Rattle.std.specs.Prelude.{IfSome, Err}
use Rattle.disk_base.specs.MemDisk.{DiskState, HasFitted, disk_health}
use Rattle.disk_base.specs.contracts.mem_disk.MemDiskDisk.TheImpl.{ghosts}
use Rattle.disk_base.specs.declared.cut.CutChoice.{CutChoice}
use Rattle.message_flow.specs.declared.step.StepOut.{StepOut}
use Rattle.spool_file.specs.File.{SpoolFile}
use Rattle.spool_works.specs.Breaking.{IsGoingDisk, LeavesImages}
use Rattle.spool_works.proofs.BrokenPasses.{used-passes}
use Rattle.spool_file.specs.Logs.{written_by}
use Rattle.trace_log.specs.Log.{Happening}
use Rattle.message_end.specs.declared.end.Stop.{Stop}
use Rattle.message_end.specs.declared.end.Stop.TheVariants as stop
use Rattle.message_end.specs.Core.{Went}
use Rattle.message_end.specs.Ends.{EndsBy, HasLost, Input, IsPassed, Leaves, Loss, Passing, Reach, passing}
use Rattle.message_end.specs.Ends.Passing.{Cuts, Passes as PassesAll}
use Rattle.filed_end.specs.declared.ended.Ended.{Ended}
use Rattle.filed_end.specs.declared.ended.Ended.TheVariants as ended
use Rattle.filed_end.specs.Breaking.{Breaks, HasBrokenAt, HasFailed, HasMoved, Passes, stop_by}
use Rattle.filed_end.specs.Form.{Form, HasPower, IsBounded, disk_reach}
use Rattle.filed_end.specs.InMemory.{FitsLeft, IsLost, IsStopOf, IsWhole, StopsAs, anew_over, file_cut, lost_by}
use Rattle.filed_end.specs.InMemory.{lost_if}
use Rattle.filed_end.proofs.Reaching.{cut-at, lacked, reached}

module _ {N P S C : Type 0} (form : Form N P S C) (CanStep : N → Type 0) (MayHold : SpoolFile → Type 0)
    (restarts : (s : S) (now : ℕ) → form.machine.restart s now ≡ form.starts (form.plan s) (form.file s))
    (plan : P) (h : N) (power : HasPower form CanStep plan h) (input : Input C) (now : ℕ) (out : StepOut)
  where
    abbrev s : S
    s = form.view h

    abbrev some : List (Loss S)
    some = form.machine.losses s input now

    abbrev disk : DiskState
    disk = form.disk h

    abbrev call : ℕ
    call = disk.plan.stop_in

    goes : IsGoingDisk (disk_health disk)
    goes = record { fails_not = power.fails_not; going = record { exact = refl; on = power.going } }

    -- the bounds of its list stay
    same-bounds : (later : DiskState) → (disk_health later).bounds ≡ (disk_health disk).bounds → IsBounded later
    same-bounds later kept = (
      ap (λ (w : ℕ × ℕ). w.0) kept ∙ power.bounded.0,
      ap (λ (w : ℕ × ℕ). w.1) kept ∙ power.bounded.1,
    )

    -- ---- it goes on

    module _ (k : N) (moved : HasMoved form CanStep h input now out k) (passes : Passes ghosts disk some (form.disk k))
      where
        pub ok-ends :
            (lost : Option DiskState) → lost ≡ None
            → (passing (disk_reach disk) some ≡ PassesAll (disk_reach (form.disk k))) × (is_some lost ≡ false)
        ok-ends lost none = (
          reached disk (form.disk k) power.fitted moved.fitted power.going passes.are.used.bounds_kept some passes,
          ap (λ (o : Option DiskState). is_some o) none,
        )

        ok-power : HasPower form CanStep plan k
        ok-power =
            let passed =
            used-passes (disk_health disk) (disk_health (form.disk k)) _ (written_by passes.made) passes.are.used goes
            in
            record {
              can_step = moved.can_step;
              fails_not = passed.on.fails_not;
              going = passed.on.going.on;
              bounded = same-bounds (form.disk k) passes.are.used.bounds_kept;
              fitted = moved.fitted;
              plan_is = moved.plan_is ∙ power.plan_is;
            }

        pub ok-whole : (lost : Option DiskState) → lost ≡ None → IsWhole form CanStep MayHold plan (Some k) lost
        ok-whole lost none =
            subst (λ (o : Option DiskState). IsWhole form CanStep MayHold plan (Some k) o) (sym none) ok-power

    -- ---- a planned call has stopped its disk

    module _ (lost : DiskState) (at : HasBrokenAt form MayHold s some call lost.story out.notes) where
      file-is : (choice : CutChoice) → file_cut lost choice ≡ form.file (at.loss.left choice)
      file-is choice = sym (at.left choice).is

      is-lost : IsBounded lost → IsLost MayHold lost
      is-lost bounded =
          record { may = λ choice. subst MayHold (sym (file-is choice)) (at.over choice).may; bounded = bounded }

      starts-so : (choice : CutChoice) (later : ℕ)
          → anew_over form plan None (Some lost) choice later ≡ form.machine.restart (at.loss.left choice) later
      starts-so choice later =
          ap (λ (file : SpoolFile). form.starts plan file) (file-is choice)
          ∙ ap (λ (p : P). form.starts p (form.file (at.loss.left choice)))
          (sym ((at.over choice).plan_is ∙ power.plan_is))
          ∙ sym (restarts (at.loss.left choice) later)

      has-lost : passing (disk_reach disk) some ≡ Cuts at.loss
          → HasLost form.machine (passing (disk_reach disk) some)
          (λ choice later. anew_over form plan None (Some lost) choice later) out
      has-lost cut =
          record { loss = at.loss; is = cut; notes = at.noted; starts = λ choice later. starts-so choice later }

    -- ---- it ends

    abbrev Ends : Option N → Option DiskState → Reach → Stop → Type 0
    Ends going lost after why =
        EndsBy form.machine some (disk_reach disk) after (is_some lost)
        (λ choice later. anew_over form plan going lost choice later) out (Err why)

    abbrev Images : Option DiskState → Type 0
    Images lost = IfSome lost (λ (d : DiskState). LeavesImages d.story)

    module _ (left : DiskState) (failed : HasFailed form ghosts MayHold h some out.notes left) (fitted : HasFitted left)
      where
        broken : left.plan.stopped ≡ true → LeavesImages left.story
            → HasBrokenAt form MayHold s some call left.story out.notes
        broken so images = failed.breaks goes images so

        failed-ends :
            (after : Reach) (is : Bool) → left.plan.stopped ≡ is → Images (lost_if is left) → (why : Stop)
            → StopsAs is left why → Ends None (lost_if is left) after why
        failed-ends after true so images why stops =
            let at = broken so images in
            subst (λ (w : Stop). Ends None (Some left) after w) (sym stops)
            (has-lost left at
            (cut-at disk left power.fitted fitted power.going failed.failed.fault.bounds_kept some out.notes
            failed.missed _ _ failed.failed.fault goes so at.loss at.is))
        failed-ends after false so images stop.NoMemory stops = tt
        failed-ends after false so images stop.DiskFailed stops = record {
          loss = failed.missed.loss;
          is =
              lacked disk left power.fitted fitted power.going failed.failed.fault.bounds_kept some out.notes
              failed.missed _ _ failed.failed.fault so stops;
          notes = failed.missed.noted;
        }
        failed-ends after false so images stop.NumbersSpent stops = absurd stops
        failed-ends after false so images stop.Full stops = absurd stops

        failed-whole :
            (is : Bool) → left.plan.stopped ≡ is → Images (lost_if is left)
            → IsWhole form CanStep MayHold plan None (lost_if is left)
        failed-whole true so images = is-lost left (broken so images) (same-bounds left failed.failed.fault.bounds_kept)
        failed-whole false so images = tt

    abbrev BreaksSo : Ended DiskState → Type 0
    BreaksSo end = Breaks form ghosts MayHold h some out.notes (Err end)

    passed-ends : (left : DiskState) → Passes ghosts disk some left → HasFitted left
        → IsPassed (passing (disk_reach disk) some)
    passed-ends left passes fitted =
        subst (λ (passed : Passing S). IsPassed passed)
        (sym (reached disk left power.fitted fitted power.going passes.are.used.bounds_kept some passes)) tt

    ends-at :
        (end : Ended DiskState) (after : Reach) → Images (lost_by end) → BreaksSo end → FitsLeft end
        → (why : Stop) → IsStopOf end why → Ends None (lost_by end) after why
    ends-at ended.NoMemory after images breaks fitted why is =
        subst (λ (w : Stop). Ends None None after w) (sym is) tt
    ends-at (ended.NumbersSpent left) after images breaks fitted why is =
        subst (λ (w : Stop). Ends None None after w) (sym is) (passed-ends left breaks fitted)
    ends-at (ended.Full left) after images breaks fitted why is =
        subst (λ (w : Stop). Ends None None after w) (sym is) (passed-ends left breaks fitted)
    ends-at (ended.DiskFailed left) after images breaks fitted why is =
        failed-ends left breaks fitted after left.plan.stopped refl images why is

    whole-at :
        (end : Ended DiskState) → Images (lost_by end) → BreaksSo end → FitsLeft end
        → IsWhole form CanStep MayHold plan None (lost_by end)
    whole-at ended.NoMemory images breaks fitted = tt
    whole-at (ended.NumbersSpent left) images breaks fitted = tt
    whole-at (ended.Full left) images breaks fitted = tt
    whole-at (ended.DiskFailed left) images breaks fitted =
        failed-whole left breaks fitted left.plan.stopped refl images

    module _ (end : Ended DiskState) (lost : Option DiskState) (lost-is : lost ≡ lost_by end) (images : Images lost)
        (going : Option N) (gone : going ≡ None) (breaks : BreaksSo end) (fitted : FitsLeft end)
      where
        images-by : Images (lost_by end)
        images-by = subst Images lost-is images

        pub err-ends : (after : Reach) (why : Stop) → IsStopOf end why → Ends going lost after why
        err-ends after why is =
            subst (λ (o : Option N). Ends o lost after why) (sym gone)
            (subst (λ (o : Option DiskState). Ends None o after why) (sym lost-is)
            (ends-at end after images-by breaks fitted why is))

        pub err-whole : IsWhole form CanStep MayHold plan going lost
        err-whole =
            subst (λ (o : Option N). IsWhole form CanStep MayHold plan o lost) (sym gone)
            (subst (λ (o : Option DiskState). IsWhole form CanStep MayHold plan None o) (sym lost-is)
            (whole-at end images-by breaks fitted))

-- where it is told as want of memory it sends nothing, either
module _ {S : Type 0} (fronts : List (List Happening)) (lacks_room : Bool) (went : Went S Happening) (s next : S)
    (out : StepOut)
  where
    abbrev LeavesSo : Stop → Type 0
    LeavesSo why = Leaves fronts lacks_room went next out (Err why)

    -- of one that stops what it is then is not said
    any-next : (why : Stop) → Leaves fronts lacks_room went s out (Err why) → LeavesSo why
    any-next stop.NoMemory leaves = leaves
    any-next stop.DiskFailed leaves = leaves
    any-next stop.NumbersSpent leaves = leaves
    any-next stop.Full leaves = leaves

    failed-leaves : (left : DiskState) (is : Bool) (why : Stop) → StopsAs is left why → LeavesSo stop.DiskFailed
        → LeavesSo why
    failed-leaves left true why stops leaves = subst LeavesSo (sym stops) leaves
    failed-leaves left false stop.NoMemory stops leaves = leaves.quiet
    failed-leaves left false stop.DiskFailed stops leaves = leaves
    failed-leaves left false stop.NumbersSpent stops leaves = absurd stops
    failed-leaves left false stop.Full stops leaves = absurd stops

    told-so : (end : Ended DiskState) (why : Stop) → IsStopOf end why → LeavesSo (stop_by end) → LeavesSo why
    told-so ended.NoMemory why is leaves = subst LeavesSo (sym is) leaves
    told-so (ended.NumbersSpent left) why is leaves = subst LeavesSo (sym is) leaves
    told-so (ended.Full left) why is leaves = subst LeavesSo (sym is) leaves
    told-so (ended.DiskFailed left) why is leaves = failed-leaves left left.plan.stopped why is leaves

    pub told-leaves :
        (end : Ended DiskState) (why : Stop) → IsStopOf end why
        → Leaves fronts lacks_room went s out (Err (stop_by end)) → LeavesSo why
    told-leaves end why is leaves = told-so end why is (any-next (stop_by end) leaves)
