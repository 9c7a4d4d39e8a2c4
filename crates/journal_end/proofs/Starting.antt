-- A first start over a journal that was just made, and a start anew over what a disk was left with.
use Rattle.std.proofs.Common.{◌≡◌, refl, sym, ap, subst, ◌∙◌, inl, inr, arith, Bool, true, false, ℕ, ◌+◌, ◌==◌, List}
use Rattle.std.proofs.Common.{[], ◌++◌, append-nil, length, if◌then◌else◌}
use Rattle.std.specs.Prelude.{Result, Ok, Err}
use Rattle.disk_base.specs.Calls.{DiskCall, written_of}
use Rattle.disk_base.specs.MemDisk.{DiskState, HasFitted}
use Rattle.disk_base.specs.contracts.mem_disk.MemDiskDisk.TheImpl.{ghosts}
use Rattle.filed_end.specs.Form.{HasPower, IsBounded, disk_reach, making, taking_up}
use Rattle.filed_end.specs.InMemory.{Holds, IsStartable, file_on, starts_over}
use Rattle.filed_end.proofs.Asking.{AsksSo, asks-both, bounded-by, recover-asks, start-reach}
use Rattle.gem_spool.specs.declared.spool.GemSpool.{GemSpool}
use Rattle.journal_end.specs.Filed.{CanStep, IsMade, MayHold, form, stop_at_start}
use Rattle.journal_end.specs.declared.journal_end.JournalOnDisk.{JournalOnDisk}
use Rattle.journal_node.specs.declared.journal_host.JournalStarting.{JournalStarting}
use Rattle.journal_node.specs.declared.journal_host.JournalStarting.TheVariants as starting
use Rattle.journal_node.specs.Amid.{HasUpgraded, StartsOver}
use Rattle.journal_node.specs.End.{machine}
use Rattle.journal_node.specs.Held.{Held, disk_held, view_in}
use Rattle.journal_node.specs.Journal.{JournalView, is_marked_out, standing_of_file, started_on, starts, unstarted}
use Rattle.journal_node.specs.Starting.{Begins, HasBegunOn, IsSureDisk, KeepsSure, UpgradesOnce, reserve_calls}
use Rattle.journal_node.specs.Starting.{start_calls, taking_calls, upgrades}
use Rattle.journal_node.proofs.Starts.{Comes, over-comes, over-sure, stands-up, told-g}
use Rattle.host_node.specs.Host.{end_plan}
use Rattle.journal_node.specs.Law.{DidOf}
use Rattle.journal_node.proofs.Lawful.{journal_lawful}
use Rattle.line_end.specs.Plan.{HostPlanFits}
use Rattle.line_end.specs.declared.plan.HostPlan.{HostPlan}
use Rattle.message_end.specs.Core.{Step, Went, at_first, step_in}
use Rattle.message_end.specs.Core.Went.{Goes, Spent}
use Rattle.message_end.specs.Ends.{HasGone, HasSpent, HasStarted, IsEmpty, IsNotStopped, OnStart, Starts, asked_both}
use Rattle.message_end.specs.Ends.{reach_behind}
use Rattle.message_flow.specs.declared.step.StepOut.{StepOut}
use Rattle.spool_file.specs.File.{SpoolFile}
use Rattle.spool_file.specs.Reads.{recover_calls}
use Rattle.spool_slots.specs.Calls.{upgrade_calls}
use Rattle.spool_slots.specs.Files.{upgraded, with_mark_moved}
use Rattle.spool_slots.specs.Spool.{Rests, SpoolView, known_of}
use Rattle.spool_slots.proofs.Settling.{length_copy}
use Rattle.spool_works.specs.DiskCalls.{HasMade}
use Rattle.spool_works.specs.DiskWorks.{reserve_asks}
use Rattle.spool_works.proofs.Called.{made-same, made-then, mark-made}
use Rattle.trace_log.specs.Log.{Happening}

-- ---- what a start makes of a file

-- it is by its plan
start-plan : (plan : HostPlan) (file : SpoolFile) → (step_in (starts plan file)).next.node.own.plan ≡ plan
start-plan plan file = go (is_marked_out file.mark.value)
  where
    go : (out : Bool)
        → (step_in
        (if out then Spent (at_first (unstarted plan file)) else Goes (started_on plan file))).next.node.own.plan
        ≡ plan
    go true = refl
    go false = refl

-- where it goes on its file is of version 2, and the mark has moved
start-file :
    (plan : HostPlan) (file : SpoolFile) (step : Step JournalView Happening) → starts plan file ≡ Goes step
    → step.next.file ≡ with_mark_moved (upgraded file)
start-file plan file step = go (is_marked_out file.mark.value)
  where
    same-step : {a b : Step JournalView Happening} → Goes a ≡ Goes b → a ≡ b
    same-step same = cc

    go : (out : Bool) → (if out then Spent (at_first (unstarted plan file)) else Goes (started_on plan file))
        ≡ Goes step
        → step.next.file ≡ with_mark_moved (upgraded file)
    go true is = absurd (cc)
    go false is = ap (λ (x : Step JournalView Happening). x.next.file) (sym (same-step is))

-- no system bytes are left
start-spent :
    (plan : HostPlan) (file : SpoolFile) (out : StepOut) → is_marked_out file.mark.value ≡ true → IsEmpty out
    → HasSpent (starts plan file) out
start-spent plan file out marked empty =
    let unmarked : Step JournalView Happening = at_first (unstarted plan file) in
    record {
      step = unmarked;
      is = ap (λ (out : Bool). if out then Spent unmarked else Goes (started_on plan file)) marked;
      notes = empty.notes;
      quiet = empty.line;
    }

-- ---- what it asks of the disk

reserve-asks : (file : SpoolFile) → AsksSo (reserve_calls file) reserve_asks
reserve-asks file = let copy = length_copy (file.mark.value + 4096) in (refl, omega (arith, copy))

-- in version 2 nothing is to be upgraded
no-upgrade : (file : SpoolFile) → file.version ≡ 2 → upgrades file ≡ []
no-upgrade file version = ap (λ (n : ℕ). if n == 1 then upgrade_calls else []) version

start-asks : (file : SpoolFile) → file.version ≡ 2
    → AsksSo (start_calls file) (asked_both (taking_up file.slots) reserve_asks)
start-asks file version =
    asks-both (taking_calls file) (reserve_calls file) (taking_up file.slots) reserve_asks
    (subst (λ (calls : List DiskCall). AsksSo calls (taking_up file.slots)) (sym same) (recover-asks file.slots))
    (reserve-asks file)
  where
    same : taking_calls file ≡ recover_calls 2 file.slots
    same =
        ap (λ (calls : List DiskCall). recover_calls file.version file.slots ++ calls) (no-upgrade file version)
        ∙ append-nil (recover_calls file.version file.slots)
        ∙ ap (λ (n : ℕ). recover_calls n file.slots) version

-- ---- an end that has begun on a file

abbrev HasBegun : HostPlan → SpoolFile → StepOut → Held DiskState → Type 0
HasBegun plan file out h = HasBegunOn ghosts plan file out h

begun-plan : (plan : HostPlan) (file : SpoolFile) (out : StepOut) (h : Held DiskState) → HasBegun plan file out h
    → (view_in ghosts h).node.own.plan ≡ plan
begun-plan plan file out h begun =
    sym
    (ap (λ (went : Went JournalView Happening). (step_in went).next.node.own.plan) begun.gone.is
    ∙ ap (λ (s : JournalView). s.node.own.plan) begun.gone.next_is)
    ∙ start-plan plan file

begun-file : (plan : HostPlan) (file : SpoolFile) (out : StepOut) (h : Held DiskState) → HasBegun plan file out h
    → (view_in ghosts h).file ≡ with_mark_moved (upgraded file)
begun-file plan file out h begun =
    sym (ap (λ (s : JournalView). s.file) begun.gone.next_is) ∙ start-file plan file begun.gone.step begun.gone.is

begun-made :
    (plan : HostPlan) → HostPlanFits plan → (file : SpoolFile) (out : StepOut) (h : Held DiskState)
    → HasBegun plan file out h → IsMade (view_in ghosts h)
begun-made plan fits file out h begun = subst IsMade begun.gone.next_is made
  where
    start : HasStarted (end_plan plan) (DidOf plan) 0 begun.gone.step
    start =
        subst (λ (went : Went JournalView Happening). OnStart (HasStarted (end_plan plan) (DidOf plan) 0) went)
        begun.gone.is (journal_lawful plan file fits).starts

    made : IsMade begun.gone.step.next
    made = record { plan = plan; fits = fits; base = start.base; doings = start.said; did = start.is }

begun-power :
    (plan : HostPlan) → HostPlanFits plan → (file : SpoolFile) (out : StepOut) (end : JournalOnDisk) (d : DiskState)
    (calls : List DiskCall)
    → HasBegun plan file out end.host → HasMade ghosts d (disk_held end.host) calls
    → IsSureDisk (ghosts.health (disk_held end.host)) → HasFitted (disk_held end.host)
    → IsBounded d → HasPower (form ghosts) (CanStep ghosts) plan end
begun-power plan fits file out end d calls begun made sure fitted bounded = record {
  can_step = record { on = begun.in_state; made = begun-made plan fits file out end.host begun };
  fails_not = sure.fails_not;
  going = sure.going;
  bounded = bounded-by d (disk_held end.host) calls made bounded;
  fitted = fitted;
  plan_is = begun-plan plan file out end.host begun;
}

-- ---- over a journal in hand that was just made

module _ (plan : HostPlan) (v : SpoolView DiskState) (rests : Rests v.disk.story (known_of v)) (holds : Holds MayHold v)
    (out : StepOut)
  where
    abbrev file : SpoolFile
    file = file_on v.disk

    version-is : file.version ≡ v.version
    version-is = sym rests.version_is

    comes : (h : Held DiskState) → StartsOver ghosts plan v out (Ok h) → HasBegun plan file out h
    comes h over = over-comes ghosts v.disk.story v refl version-is holds.first plan out (Ok h) over

    -- it is one of version 2 already
    taken : (result : Result (Held DiskState) (JournalStarting DiskState)) (up : HasUpgraded ghosts plan v out result)
        → HasMade ghosts v.disk up.g.spool.disk []
    taken result up =
        made-same ghosts v.disk up.g.spool.disk
        (ap (λ (x : SpoolView DiskState). x.disk) up.made ∙ same up.up)
      where
        same : UpgradesOnce ghosts v (Ok up.w) → up.w.disk ≡ v.disk
        same (inl (two, one)) = ap (λ (x : SpoolView DiskState). x.disk) one
        same (inr (one, ups)) = absurd (let both : 1 ≡ 2 = sym one ∙ sym version-is ∙ holds.may in cc)

    marked : (h : Held DiskState) → StartsOver ghosts plan v out (Ok h)
        → HasMade ghosts v.disk (disk_held h) (reserve_calls file)
    marked h up =
        let tells = told-g ghosts v.disk.story v refl version-is holds.first plan out (Ok h) up in
        made-then ghosts v.disk up.g.spool.disk (disk_held h) [] (reserve_calls file) (taken (Ok h) up)
        (subst
        (λ (x : GemSpool DiskState). HasMade ghosts up.g.spool.disk x.spool.disk (reserve_calls file))
        (sym up.on.starts.0)
        (mark-made ghosts up.g.spool up.on.h.spool.disk (standing_of_file (upgraded file))
        (stands-up ghosts v.disk.story v refl version-is holds.first plan out (Ok h) up) tells.0 tells.1
        up.on.reserve.0.0))

    sure : (h : Held DiskState) → StartsOver ghosts plan v out (Ok h) → IsSureDisk (ghosts.health (disk_held h))
    sure h up =
        over-sure ghosts plan v out h up
        (record { fails_not = holds.sure.fails_not; stops_not = holds.sure.stops_not; going = holds.sure.going })

    module _ (end : JournalOnDisk) (up : StartsOver ghosts plan v out (Ok end.host)) where
      pub first-gone : HasGone (starts_over (form ghosts) plan v.disk) ((form ghosts).view end) out
      first-gone = (comes end.host up).gone

      pub first-power : HostPlanFits plan → HasFitted (disk_held end.host)
          → HasPower (form ghosts) (CanStep ghosts) plan end
      first-power fits fitted =
          begun-power plan fits file out end v.disk (reserve_calls file) (comes end.host up) (marked end.host up)
          (sure end.host up) fitted holds.bounded

      pub first-reach :
          disk_reach (disk_held end.host) ≡ reach_behind (machine.first_use (view_in ghosts end.host))
      first-reach =
          let calls = ap (λ a. a.calls) holds.asked in
          let bytes = ap (λ a. a.bytes) holds.asked in
          let asks = reserve-asks file in
          start-reach v.disk (disk_held end.host) (reserve_calls file)
          (asked_both (making file.slots) reserve_asks)
          (bounded-by v.disk (disk_held end.host) (reserve_calls file) (marked end.host up) holds.bounded)
          (sure end.host up).stops_not (marked end.host up)
          (let long = asks.0 in omega (arith, calls, long)) (let wrote = asks.1 in omega (arith, bytes, wrote))
          ∙ ap (λ (f : SpoolFile). reach_behind (asked_both (making f.slots) reserve_asks))
          (sym (begun-file plan file out end.host (comes end.host up)))

    -- it doesn't start
    pub first-ends :
        (why : JournalStarting DiskState) → StartsOver ghosts plan v out (Err why)
        → Starts {E = JournalOnDisk} machine.start_stops (starts_over (form ghosts) plan v.disk) (form ghosts).view out
        (Err (stop_at_start why))
    first-ends why over = go why (over-comes ghosts v.disk.story v refl version-is holds.first plan out (Err why) over)
      where
        go : (why : JournalStarting DiskState)
            → Comes ghosts v.disk.story v refl version-is holds.first plan out (Err why)
            → Starts {E = JournalOnDisk} machine.start_stops (starts_over (form ghosts) plan v.disk) (form ghosts).view
            out (Err (stop_at_start why))
        go (starting.NoMemory spent) comes = comes.0
        go (starting.NotSpool raw break) comes = absurd comes
        go (starting.DiskFailed spent) comes = comes.0.line
        go (starting.NumbersSpent spent) comes = start-spent plan file out comes.1 comes.0

-- ---- over what a disk was left with

module _ (plan : HostPlan) (disk : DiskState) (is : IsStartable MayHold disk) (out : StepOut) where
  abbrev left : SpoolFile
  left = file_on disk

  module _ (end : JournalOnDisk) (begun : HasBegun plan left out end.host)
      (made : HasMade ghosts disk (disk_held end.host) (start_calls left))
      (keeps : KeepsSure ghosts disk (disk_held end.host))
    where
      still : IsSureDisk (ghosts.health (disk_held end.host))
      still =
          keeps (record { fails_not = is.sure.fails_not; stops_not = is.sure.stops_not; going = is.sure.going })

      pub anew-power : HostPlanFits plan → HasFitted (disk_held end.host)
          → HasPower (form ghosts) (CanStep ghosts) plan end
      anew-power fits fitted =
          begun-power plan fits left out end disk (start_calls left) begun made still fitted is.bounded

      pub anew-reach : disk_reach (disk_held end.host) ≡ reach_behind (machine.anew_use (view_in ghosts end.host))
      anew-reach =
          let asks = start-asks left is.may in
          start-reach disk (disk_held end.host) (start_calls left) (asked_both (taking_up left.slots) reserve_asks)
          (bounded-by disk (disk_held end.host) (start_calls left) made is.bounded) still.stops_not made
          (let none = ap length is.unasked in let long = asks.0 in omega (arith, none, long))
          (let none = ap written_of is.unasked in let wrote = asks.1 in omega (arith, none, wrote))
          ∙ ap
          (λ (f : SpoolFile). reach_behind (asked_both (taking_up f.slots) reserve_asks))
          (sym (begun-file plan left out end.host begun))

  pub anew-ends :
      (why : JournalStarting DiskState) → Begins ghosts plan disk.story out (Err why)
      → Starts {E = JournalOnDisk} machine.start_stops (starts_over (form ghosts) plan disk) (form ghosts).view out
      (Err (stop_at_start why))
  anew-ends (starting.NoMemory spent) begins = begins.0
  anew-ends (starting.NotSpool raw break) begins = begins.0.line
  anew-ends (starting.DiskFailed spent) begins = begins.0.line
  anew-ends (starting.NumbersSpent spent) begins = start-spent plan left out begins.1 begins.0

-- nor does its disk stop it
pub start-whole : {D : Type 0} (R : Type 0) (why : JournalStarting D)
    → IsNotStopped {R = R} (Err (stop_at_start why))
start-whole R (starting.NoMemory spent) = tt
start-whole R (starting.NotSpool raw break) = tt
start-whole R (starting.DiskFailed spent) = tt
start-whole R (starting.NumbersSpent spent) = tt
