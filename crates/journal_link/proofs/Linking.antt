-- The host with its journal as it is run over a link: its room, its disk, what a step leaves that has stopped it, and
-- what is left behind a run.
use Rattle.std.proofs.Common.{◌≡◌, refl, sym, ap, subst, ◌∙◌, inl, Bool, ℕ, List, Option, Some, None, Result, Ok, Err, arith}
use Rattle.std.specs.Prelude.{is_some}
use Rattle.disk_base.specs.Faults.{Rose as RoseOnDisk}
use Rattle.disk_base.specs.SameDisk.{IsSameDisk}
use Rattle.disk_base.specs.declared.disk.Disk as disk
use Rattle.disk_base.proofs.Moments.{only_now}
use Rattle.end_run.specs.Counts.{Device, DeviceFails, StepCounts}
use Rattle.end_run.specs.Scenes.{IsSo, StopAt}
use Rattle.gl_base.specs.Faults.{Rose}
use Rattle.journal_link.specs.declared.linked.LinkedJournal.{LinkedJournal}
use Rattle.journal_link.specs.Linked.{Fixed, HasLeft, HoldsLeft, HoldsOne, IsGoing, IsKnown, IsLeftSo, LeavesDevice, device_by, device_of, disk_in, linked_view, one_call, spent_by, stop_by}
use Rattle.journal_node.specs.declared.journal_host.JournalEnded.{JournalEnded}
use Rattle.journal_node.specs.declared.journal_host.JournalEnded.TheVariants as ended
use Rattle.journal_node.specs.Held.{Held, Moves, disk_held, view_in}
use Rattle.journal_node.specs.Journal.{JournalView, act, lacks_room}
use Rattle.journal_node.specs.Stepping.{EndsBack}
use Rattle.journal_node.specs.Works.{stops}
use Rattle.message_end.specs.declared.end.Stop.{Stop}
use Rattle.message_end.specs.declared.end.Stop.TheVariants as stop
use Rattle.message_end.specs.Ends.{Input, Leaves, Uses, none_asked}
use Rattle.message_flow.specs.declared.step.StepOut.{StepOut}
use Rattle.spool_file.specs.File.{StandsFor}
use Rattle.spool_slots.specs.declared.states.Spent.{Spent}
use Rattle.spool_works.specs.HandedBack.{HasFailed, IsKept}
use Rattle.trace_log.specs.declared.commands.HostCommand.{HostCommand}

pub uses_one : (result : Result (Unit {0}) Stop) → Uses none_asked one_call none_asked result
uses_one (Ok done) = record { calls = omega arith; bytes = omega arith }
uses_one (Err stop.DiskFailed) = inl (omega arith)
uses_one (Err stop.NumbersSpent) = tt
uses_one (Err stop.Full) = tt
uses_one (Err stop.NoMemory) = tt

some_same : {A : Type 0} (a b : A) → Some a ≡ Some b → a ≡ b
some_same a b same = cc

rose_of : {before now : ℕ} → RoseOnDisk before now → Rose before now
rose_of rose = record { by_one = rose.by_one; later = rose.later }

module _ {D : Type 0} (members : disk.Ghosts D) where
  -- ---- its disk

  abbrev made : ℕ → ℕ → Option (List ℕ) → Bool → Device Fixed
  made faults name file tells = record { faults = faults; fixed = Some (name, file, tells) }

  fixed_same : (old new : D) → IsSameDisk members old new
      → (device_of members new).fixed ≡ (device_of members old).fixed
  fixed_same old new same =
      ap (λ (n : ℕ). (made 0 n (members.file_is new) (is_some (members.told new))).fixed) same.0
      ∙ ap (λ (f : Option (List ℕ)). (made 0 (members.name old) f (is_some (members.told new))).fixed) same.1
      ∙ ap (λ (b : Bool). (made 0 (members.name old) (members.file_is old) b).fixed) same.2

  pub kept_device : (old new : D) → IsKept members old new → device_of members new ≡ device_of members old
  kept_device old new kept =
      ap (λ (n : ℕ). made n (members.name new) (members.file_is new) (is_some (members.told new))) kept.count
      ∙ ap (λ (f : Fixed). record { faults = (members.health old).faults; fixed = f })
      (fixed_same old new kept.same_disk)

  failed_device : (old new : D) → HasFailed members old new
      → DeviceFails (device_of members old) (device_of members new)
  failed_device old new failed =
      record { rose = rose_of failed.rose; fixed = fixed_same old new failed.same_disk }

  ended_device : (old : D) (end : JournalEnded D) → EndsBack members old end
      → StepCounts (device_of members old) (device_of members (spent_by end).disk) (Err (stop_by end))
  ended_device old (ended.NoMemory spent) kept = kept_device old spent.disk kept
  ended_device old (ended.DiskFailed spent) failed = failed_device old spent.disk failed
  ended_device old (ended.NumbersSpent spent) kept = kept_device old spent.disk kept
  ended_device old (ended.JournalFull spent) kept = kept_device old spent.disk kept

  -- ---- a step that has stopped it

  module _ (h : Held D) (input : Input HostCommand) (now : ℕ) (out : StepOut) where
    abbrev s : JournalView
    s = view_in members h

    abbrev Told : JournalView → Stop → Type 0
    Told next why = Leaves (stops s input now) (lacks_room s input now) (act s input now) next out (Err why)

    told_by : (next : JournalView) (end : JournalEnded D) → Moves members h input now out (Err end)
        → Told next (stop_by end)
    told_by next (ended.NoMemory spent) moves = moves.0
    told_by next (ended.DiskFailed spent) moves = moves.0
    told_by next (ended.NumbersSpent spent) moves = (moves.0, moves.1)
    told_by next (ended.JournalFull spent) moves = (moves.0, moves.1)

    left_by : (end : JournalEnded D) → Moves members h input now out (Err end)
        → HasLeft members s input now out (stop_by end) (spent_by end)
    left_by (ended.NoMemory spent) moves = moves.1
    left_by (ended.DiskFailed spent) moves = moves.1
    left_by (ended.NumbersSpent spent) moves = moves.2
    left_by (ended.JournalFull spent) moves = moves.2

    module _ (end : JournalEnded D) (moves : Moves members h input now out (Err end)) (why : Stop)
        (why_is : why ≡ stop_by end)
      where
        pub stopped_leaves : (next : JournalView) → Told next why
        stopped_leaves next = subst (Told next) (sym why_is) (told_by next end moves)

        pub stopped_left : (spent : Option (Spent D)) → spent ≡ Some (spent_by end)
            → IsLeftSo members s input now out why spent
        stopped_left spent spent_is =
            subst (λ (w : Stop). IsLeftSo members s input now out w spent) (sym why_is)
            (subst (λ (o : Option (Spent D)). IsLeftSo members s input now out (stop_by end) o) (sym spent_is)
            (left_by end moves))

  module _ (end : JournalEnded D) (why : Stop) (why_is : why ≡ stop_by end) (spent : Option (Spent D))
      (spent_is : spent ≡ Some (spent_by end)) (going : Option (Held D)) (going_is : going ≡ None)
    where
      pub stopped_device : (old : D) → EndsBack members old end
          → StepCounts (device_of members old) (device_by members (disk_in going spent)) (Err why)
      stopped_device old is =
          subst (λ (w : Stop). StepCounts (device_of members old) (device_by members (disk_in going spent)) (Err w))
          (sym why_is)
          (subst
          (λ (g : Option (Held D)).
          StepCounts (device_of members old) (device_by members (disk_in g spent)) (Err (stop_by end)))
          (sym going_is)
          (subst
          (λ (o : Option (Spent D)).
          StepCounts (device_of members old) (device_by members (disk_in None o)) (Err (stop_by end)))
          (sym spent_is) (ended_device old end is)))

      pub stopped_holds : HoldsOne going spent
      stopped_holds =
          subst (λ (g : Option (Held D)). HoldsOne g spent) (sym going_is)
          (subst (λ (o : Option (Spent D)). HoldsOne {D = D} None o) (sym spent_is) tt)

  -- ---- one that goes on

  pub under :
      (going : Option (Held D)) (h : Held D) (P : Option (Held D) → Type 0) → going ≡ Some h
      → (IsGoing members (Some h) → P (Some h)) → IsGoing members going → P going
  under going h P is over known = subst P (sym is) (over (subst (λ (o : Option (Held D)). IsGoing members o) is known))

  pub not_going : {A : Type 0} (going : Option (Held D)) → going ≡ None → IsGoing members going → A
  not_going going is known = absurd (subst (λ (o : Option (Held D)). IsGoing members o) is known)

  pub alone : (going : Option (Held D)) (h : Held D) (spent : Option (Spent D)) → going ≡ Some h → HoldsOne going spent
      → spent ≡ None
  alone going h spent is holds = go spent (subst (λ (o : Option (Held D)). HoldsOne o spent) is holds)
    where
      go : (left : Option (Spent D)) → HoldsOne (Some h) left → left ≡ None
      go None one = refl
      go (Some found) one = absurd one

  pub none_going : (going : Option (Held D)) (spent : Option (Spent D)) → going ≡ None → HoldsOne going spent
      → HoldsOne {D = D} None spent
  none_going going spent is holds = subst (λ (o : Option (Held D)). HoldsOne o spent) is holds

  -- ---- what is left behind a run

  abbrev linked : Option (Held D) → Option (Spent D) → LinkedJournal D
  linked going spent = record { going = going; spent = spent }

  held_left : (h : Held D) (d : D) → disk_held h ≡ d → IsGoing members (Some h)
      → HoldsLeft (view_in members h) None (members.told d)
  held_left h d is known t told image image_is =
      let file = known.stands.file t (ap (λ (x : D). members.told x) is ∙ told) in
      subst (λ (bytes : List ℕ). StandsFor bytes (view_in members h).file)
      (sym (only_now t.now image file.settled image_is)) file.stands

  -- so it is of the disk that is given back
  pub holds_left :
      (going : Option (Held D)) (spent : Option (Spent D)) (d : D) → HoldsOne going spent
      → disk_in going spent ≡ Some d → (halt : Option (StopAt JournalView HostCommand))
      → IsSo (IsKnown members) (LeavesDevice members) (linked going spent) halt
      → HoldsLeft (linked_view members going) halt (members.told d)
  holds_left None None d one is halt so = absurd one
  holds_left (Some h) (Some spent) d one is halt so = absurd one
  holds_left (Some h) None d one is None so = held_left h d (some_same (disk_held h) d is) so
  holds_left (Some h) None d one is (Some halt) so = absurd so
  holds_left None (Some spent) d one is None so = absurd so
  holds_left None (Some spent) d one is (Some halt) so =
      λ t told. so t (ap (λ (x : D). members.told x) (some_same spent.disk d is) ∙ told)
