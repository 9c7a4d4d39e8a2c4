-- That the calls of the disk in a start are those of its file: a sync, reads, and those that upgrade it and move the
-- mark.
use Rattle.std.proofs.Common.{◌≡◌, sym, ap, subst, ◌∙◌, ◌⊎◌, inl, inr, append_assoc, arith, ℕ, ◌==◌, List, [], ◌∷◌, ◌++◌, Option, Some, None, if◌then◌else◌}
use Rattle.std.specs.Prelude.{Result, Ok, Err}
use Rattle.disk_base.specs.Calls.{DiskCall, Logs, sync_call, with_call}
use Rattle.disk_base.specs.Faults.{DiskHealth, IsLeftOut}
use Rattle.disk_base.specs.Story.{Story, with_sync}
use Rattle.disk_base.specs.declared.disk.Disk as disk
use Rattle.disk_base.specs.declared.disk.DiskAnswer.{DiskAnswer}
use Rattle.disk_base.specs.declared.disk.DiskAnswer.TheVariants.{Failed}
use Rattle.gem_spool.specs.Updates.{syncs}
use Rattle.gem_spool.specs.declared.spool.GemSpool.{GemSpool}
use Rattle.line_end.specs.declared.plan.HostPlan.{HostPlan}
use Rattle.message_flow.specs.declared.step.StepOut.{StepOut}
use Rattle.spool_file.specs.File.{SpoolFile, file_in, spool_break}
use Rattle.spool_file.specs.Reads.{HasRead, most_reads, recover_calls}
use Rattle.spool_slots.specs.Calls.{upgrade_calls}
use Rattle.spool_slots.specs.Changes.{Recovers}
use Rattle.spool_slots.specs.Files.{upgraded}
use Rattle.spool_slots.specs.Spool.{SpoolView}
use Rattle.spool_slots.specs.declared.states.Recovering.{Recovering}
use Rattle.spool_slots.specs.declared.states.Recovering.TheVariants as recovering
use Rattle.spool_slots.specs.declared.states.Spent.{Spent as Device}
use Rattle.spool_works.specs.DiskCalls.{HasFailedIn, HasMade}
use Rattle.spool_works.proofs.Called.{failed-all, failed-before, failed-behind, made-all, made-same, made-then, mark-made, mark-stops, with-both}
use Rattle.journal_node.specs.declared.journal_host.JournalStarting.{JournalStarting}
use Rattle.journal_node.specs.declared.journal_host.JournalStarting.TheVariants as starting
use Rattle.journal_node.specs.Amid.{HasMoved, HasUpgraded, StartsOver}
use Rattle.journal_node.specs.Held.{Held}
use Rattle.journal_node.specs.Journal.{standing_of_file}
use Rattle.journal_node.specs.Starting.{AreLooks, CallsInStart, UpgradesOnce, reserve_calls, start_calls, starting_by, taking_calls, upgrades}
use Rattle.journal_node.proofs.Starts.{now-told, stands-up, told-g, version-is}

-- ---- which they are

looks-of :
    (synced now : DiskHealth) (before after : Option (List DiskCall)) (most : ℕ) (answer : DiskAnswer)
    → HasRead synced now (with_call syncs before) after most answer → AreLooks before after most
looks-of synced now before after most answer read = record {
  looks = read.more;
  are = read.reads;
  few = let short = read.short in let few = read.few in omega (arith, short, few);
  listed = read.calls ∙ with-both (syncs ∷ []) read.more before;
}

module _ {D : Type 0} (members : disk.Ghosts D) (old : D) (s : Story) (told : members.told old ≡ Some s) where
  abbrev here : SpoolFile
  here = file_in s.now.bytes

  looks-or-sync :
      (spent : Device D) → Recovers members old (Err (recovering.Failed spent))
      → Logs sync_call (IsLeftOut (members.health old) (members.health spent.disk) 0 0) (members.calls old)
      (members.calls spent.disk) Failed
      ⊎ AreLooks (members.calls old) (members.calls spent.disk) (most_reads (members.told old) (members.size_is old))
  looks-or-sync spent (inl is, by) = inl is.calls
  looks-or-sync spent (inr is, by) =
      inr (looks-of is.synced (members.health spent.disk) (members.calls old) (members.calls spent.disk) _ _ is.reads)

  abbrev finds : List DiskCall
  finds = recover_calls here.version here.slots

  -- it gives no spool
  pub looked-only :
      (why : Recovering D) → Recovers members old (Err why)
      → CallsInStart members old s.now.bytes (Err (starting_by why))
  looked-only (recovering.NotSpool raw break) is =
      looks-of is.0.synced (members.health raw.disk) (members.calls old) (members.calls raw.disk) _ _ is.0.reads
  looked-only (recovering.Failed spent) is = (
    λ sound.
        subst (λ (calls : List DiskCall). HasFailedIn members old spent.disk calls)
        (sym (append_assoc finds (upgrades here) (reserve_calls here)))
        (failed-before members old spent.disk finds (upgrades here ++ reserve_calls here)
        (failed-all members old spent.disk finds (is.1 s told sound))),
    λ breaks. looks-or-sync spent is,
  )

  module _ (v : SpoolView D) (is : Recovers members old (Ok v)) where
    sound : spool_break s.now.bytes ≡ None
    sound = (is.1 s told).0.sound

    looked : HasMade members old v.disk finds
    looked = made-all members old v.disk finds (is.2 s told sound)

    told-up : members.told v.disk ≡ Some (with_sync s)
    told-up = now-told members old s told v is

    version : here.version ≡ v.version
    version = version-is members old s told v is

    up-made : (w : SpoolView D) → UpgradesOnce members v (Ok w) → HasMade members v.disk w.disk (upgrades here)
    up-made w (inl (two, same)) =
        subst (λ (calls : List DiskCall). HasMade members v.disk w.disk calls)
        (sym (ap (λ (n : ℕ). if n == 1 then upgrade_calls else []) (version ∙ two)))
        (made-same members v.disk w.disk (ap (λ (x : SpoolView D). x.disk) same))
    up-made w (inr (one, ups)) =
        subst (λ (calls : List DiskCall). HasMade members v.disk w.disk calls)
        (sym (ap (λ (n : ℕ). if n == 1 then upgrade_calls else []) (version ∙ one)))
        (made-all members v.disk w.disk upgrade_calls ups.0.made.calls)

    up-stops : (spent : Device D) → UpgradesOnce members v (Err spent)
        → HasFailedIn members v.disk spent.disk (upgrades here)
    up-stops spent (one, ups) =
        subst (λ (calls : List DiskCall). HasFailedIn members v.disk spent.disk calls)
        (sym (ap (λ (n : ℕ). if n == 1 then upgrade_calls else []) (version ∙ one)))
        (failed-all members v.disk spent.disk upgrade_calls ups.0.made.calls)

    -- it was taken up and is one of version 2
    taken : (plan : HostPlan) (out : StepOut) (result : Result (Held D) (JournalStarting D))
        (up : HasUpgraded members plan v out result)
        → HasMade members old up.g.spool.disk (taking_calls here)
    taken plan out result up =
        made-then members old v.disk up.g.spool.disk finds (upgrades here) looked
        (subst (λ (x : SpoolView D). HasMade members v.disk x.disk (upgrades here)) (sym up.made)
        (up-made up.w up.up))

    -- and its mark was moved
    all-made : (plan : HostPlan) (out : StepOut) (result : Result (Held D) (JournalStarting D))
        (up : HasUpgraded members plan v out result) (moved : HasMoved members plan up.g out result)
        → HasMade members old moved.h.spool.disk (start_calls here)
    all-made plan out result up moved =
        let tells = told-g members (with_sync s) v told-up version (is.1 s told).1 plan out result up in
        made-then members old up.g.spool.disk moved.h.spool.disk (taking_calls here) (reserve_calls here)
        (taken plan out result up)
        (mark-made members up.g.spool moved.h.spool.disk (standing_of_file (upgraded here))
        (stands-up members (with_sync s) v told-up version
        (is.1 s told).1 plan out result up) tells.0 tells.1 moved.reserve.0.0)

    pub over-called :
        (plan : HostPlan) (out : StepOut) (result : Result (Held D) (JournalStarting D))
        → StartsOver members plan v out result → CallsInStart members old s.now.bytes result
    over-called plan out (Ok k) up =
        subst (λ (x : GemSpool D). HasMade members old x.spool.disk (start_calls here)) (sym up.on.starts.0)
        (all-made plan out (Ok k) up up.on)
    over-called plan out (Err (starting.NoMemory spent)) up =
        subst (λ (d : D). HasMade members old d (start_calls here)) (sym up.on.starts.0)
        (all-made plan out (Err (starting.NoMemory spent)) up up.on)
    over-called plan out (Err (starting.NumbersSpent spent)) up =
        subst (λ (d : D). HasMade members old d (taking_calls here)) (sym up.on.same_disk)
        (taken plan out (Err (starting.NumbersSpent spent)) up)
    over-called plan out (Err (starting.DiskFailed spent)) (inl up) = (
      λ whole.
          let tells =
          told-g members (with_sync s) v told-up version (is.1 s told).1 plan out (Err (starting.DiskFailed spent)) up
          in
          failed-behind members old up.g.spool.disk spent.disk (taking_calls here) (reserve_calls here)
          (taken plan out (Err (starting.DiskFailed spent)) up)
          (mark-stops members up.g.spool spent.disk (standing_of_file (upgraded here))
          (stands-up members (with_sync s) v told-up version (is.1 s told).1 plan out (Err
          (starting.DiskFailed spent)) up)
          tells.0 tells.1
          up.on.reserve),
      λ breaks. absurd (breaks sound),
    )
    over-called plan out (Err (starting.DiskFailed spent)) (inr failed) = (
      λ whole.
          failed-before members old spent.disk (taking_calls here) (reserve_calls here)
          (failed-behind members old v.disk spent.disk finds (upgrades here) looked (up-stops spent failed.up)),
      λ breaks. absurd (breaks sound),
    )
    over-called plan out (Err (starting.NotSpool raw break)) up = absurd up
