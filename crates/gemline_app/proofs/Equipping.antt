-- The equipment as it is run over a link, and what came of it.
use Rattle.std.proofs.Common.{◌≡◌, refl, sym, ap, subst, ◌∙◌, inl, inr, Bool, false, ℕ, List, Option, Some, None, Result, Ok, Err, arith}
use Rattle.std.specs.Prelude.{is_some}
use Rattle.disk_base.specs.SameDisk.{IsSameDisk}
use Rattle.disk_base.specs.Story.{Story}
use Rattle.disk_base.specs.declared.disk.Disk as disk
use Rattle.disk_base.proofs.Moments.{only_now}
use Rattle.gl_base.specs.Told.{SinkTold}
use Rattle.message_flow.specs.declared.step.StepOut.{StepOut}
use Rattle.spool_file.specs.File.{StandsFor}
use Rattle.spool_slots.specs.declared.states.Spent.{Spent}
use Rattle.spool_show.specs.Told.{disk_told}
use Rattle.trace_log.specs.Log.{Happening}
use Rattle.trace_log.specs.declared.commands.ToolCommand.{ToolCommand}
use Rattle.message_end.specs.declared.end.Stop.{Stop}
use Rattle.message_end.specs.declared.end.Stop.TheVariants as stop
use Rattle.message_end.specs.Core.{Step}
use Rattle.message_end.specs.Ends.{Input, Leaves, Uses, none_asked}
use Rattle.message_end.specs.Parts.{Node}
use Rattle.equipment_tables.specs.declared.plan.EquipmentPlan.{EquipmentPlan}
use Rattle.spool_works.specs.declared.ended.Ended.{Ended}
use Rattle.spool_works.specs.declared.ended.Ended.TheVariants as ended
use Rattle.equipment_node.specs.declared.equipment.Starting.{Starting}
use Rattle.equipment_node.specs.declared.equipment.Starting.TheVariants as starting
use Rattle.tool_step.specs.declared.kind.Kind.{Kind}
use Rattle.tool_step.specs.Disk.{stops}
use Rattle.tool_step.specs.Equipment.{EquipmentView, act}
use Rattle.spool_works.specs.HandedBack.{HasFailed, IsEnded, IsKept}
use Rattle.equipment_node.specs.HandedBack.{StartHandsBack}
use Rattle.gem_recipes.specs.declared.no_recipes.NoRecipes.{NoRecipes}
use Rattle.gem_recipes.specs.contracts.no_recipes.NoRecipesRecipeKeeper.TheImpl.{ghosts as keepers}
use Rattle.gl_base.specs.Faults.{Rose}
use Rattle.equipment_node.specs.Held.{Begins, FindsFile, Held}
use Rattle.equipment_node.specs.Keeping.{HandsBoth}
use Rattle.tool_step.specs.Own.{OwnView}
use Rattle.equipment_node.specs.Stepping.{HasLeft, Steps, stop_by}
use Rattle.equipment_node.proofs.Seated.{stops-by}
use Rattle.end_run.specs.Counts.{Counted, Counts, Device, DeviceFails, StepCounts, counted_by}
use Rattle.end_run.specs.Outcome.{ComesOver, RunsOver}
use Rattle.end_run.specs.Scenes.{IsSo, StopAt}
use Rattle.end_run.specs.Script.{ScriptLine}
use Rattle.end_run.specs.declared.ending.Ending.{Ending}
use Rattle.end_run.specs.declared.ending.Ending.TheVariants as ending
use Rattle.gemline_app.specs.declared.equipment.LinkedEquipment.{LinkedEquipment}
use Rattle.gemline_app.specs.Equipment.{HoldsLeft, RunsFrom, StartRefuses, equipment_run, one_call}
use Rattle.gemline_app.specs.Filed.{bytes_told}
use Rattle.gemline_app.specs.LinkTold.{LinkTold}
use Rattle.gemline_app.specs.Linked.{after_run, before_run}
use Rattle.gemline_app.specs.LinkedEquipment.{Fixed, HoldsOne, IsGoing, IsKnown, IsLeftSo, LeavesDevice, device_by, device_of, disk_in, linked_view, outcome_of_start, spent_by, tool_view, unstarted_disk}
use Rattle.gemline_app.specs.declared.outcome.Outcome.{Outcome}
use Rattle.gemline_app.proofs.SpoolDue.{rose_of}
use Rattle.gemline_app.proofs.StartBreaks.{breaks-there}

-- ---- its room, of which nothing is said

pub uses_one : (result : Result (Unit {0}) Stop) → Uses none_asked one_call none_asked result
uses_one (Ok done) = record { calls = omega arith; bytes = omega arith }
uses_one (Err stop.DiskFailed) = inl (omega arith)
uses_one (Err stop.NumbersSpent) = tt
uses_one (Err stop.Full) = tt
uses_one (Err stop.NoMemory) = tt

some_same : {A : Type 0} (a b : A) → Some a ≡ Some b → a ≡ b
some_same a b same = cc

module _ {D : Type 0} (members : disk.Ghosts D) where
  abbrev Tool : Type 0
  Tool = Held D NoRecipes

  -- ---- its disk

  abbrev made : ℕ → ℕ → Option (List ℕ) → Bool → Device Fixed
  made faults name file tells = record { faults = faults; fixed = Some (name, file, tells) }

  fixed_same : (old new : D) → IsSameDisk members old new
      → (device_of members new).fixed ≡ (device_of members old).fixed
  fixed_same old new same =
      ap (λ (n : ℕ). (made 0 n (members.file_is new) (is_some (members.told new))).fixed) same.0
      ∙ ap (λ (f : Option (List ℕ)). (made 0 (members.name old) f (is_some (members.told new))).fixed) same.1
      ∙ ap (λ (b : Bool). (made 0 (members.name old) (members.file_is old) b).fixed) same.2

  pub kept_device : (old new : D) → IsKept members old new → device_of members new ≡ device_of members old
  kept_device old new kept =
      ap (λ (n : ℕ). made n (members.name new) (members.file_is new) (is_some (members.told new))) kept.count
      ∙ ap (λ (f : Fixed). record { faults = (members.health old).faults; fixed = f })
      (fixed_same old new kept.same_disk)

  failed_device : (old new : D) → HasFailed members old new
      → DeviceFails (device_of members old) (device_of members new)
  failed_device old new failed =
      record { rose = rose_of failed.rose; fixed = fixed_same old new failed.same_disk }

  ended_device : (old : D) (end : Ended D) → IsEnded members old end
      → StepCounts (device_of members old) (device_of members (spent_by end).disk) (Err (stop_by end))
  ended_device old (ended.NoMemory spent) kept = kept_device old spent.disk kept
  ended_device old (ended.DiskFailed spent) failed = failed_device old spent.disk failed
  ended_device old (ended.NumbersSpent spent) kept = kept_device old spent.disk kept

  -- where it offers no recipes, its disk alone can fail
  none_rose : Rose 0 0 → ⊥
  none_rose rose = omega (arith, rose.by_one)

  pub by_disk_alone :
      {R : Type 0} (disk_of : R → D) (old : D) (before after : NoRecipes) (end : Ended D)
      → HandsBoth members disk_of old keepers before after (Err end) → IsEnded members old end
  by_disk_alone disk_of old before after (ended.NoMemory spent) back = back.0
  by_disk_alone disk_of old before after (ended.NumbersSpent spent) back = back.0
  by_disk_alone disk_of old before after (ended.DiskFailed spent) (inl failed) = failed.0
  by_disk_alone disk_of old before after (ended.DiskFailed spent) (inr kept) = absurd (none_rose kept.1.cause)

  -- ---- a step that has stopped it

  module _ (end : Ended D) (why : Stop) (why_is : why ≡ stop_by end) where
    pub stopped_leaves :
        (s : EquipmentView) (input : Input ToolCommand) (now : ℕ) (node : Node OwnView Kind) (next : EquipmentView)
        (out : StepOut) → Steps members s input now node out (Err end)
        → Leaves (stops s input now) false (act s input now) next out (Err why)
    stopped_leaves s input now node next out steps =
        subst (λ (w : Stop). Leaves (stops s input now) false (act s input now) next out (Err w)) (sym why_is)
        (stops-by members s input now node next out end steps)

    ended_left :
        (s : EquipmentView) (input : Input ToolCommand) (now : ℕ) (node : Node OwnView Kind) (out : StepOut)
        (other : Ended D) → Steps members s input now node out (Err other)
        → HasLeft members s input now out (spent_by other) (stop_by other)
    ended_left s input now node out (ended.NoMemory spent) steps = steps.1
    ended_left s input now node out (ended.DiskFailed spent) steps = steps.1
    ended_left s input now node out (ended.NumbersSpent spent) steps = steps.1

    module _ (spent : Option (Spent D)) (spent_is : spent ≡ Some (spent_by end)) where
      pub stopped_left :
          (s : EquipmentView) (input : Input ToolCommand) (now : ℕ) (node : Node OwnView Kind) (out : StepOut)
          → Steps members s input now node out (Err end) → IsLeftSo members s input now out why spent
      stopped_left s input now node out steps =
          subst (λ (w : Stop). IsLeftSo members s input now out w spent) (sym why_is)
          (subst (λ (o : Option (Spent D)). IsLeftSo members s input now out (stop_by end) o) (sym spent_is)
          (ended_left s input now node out end steps))

      module _ (going : Option (Tool)) (going_is : going ≡ None) where
        pub stopped_device : (old : D) → IsEnded members old end
            → StepCounts (device_of members old) (device_by members (disk_in going spent)) (Err why)
        stopped_device old is =
            subst (λ (w : Stop). StepCounts (device_of members old) (device_by members (disk_in going spent)) (Err w))
            (sym why_is)
            (subst
            (λ (g : Option (Tool)).
            StepCounts (device_of members old) (device_by members (disk_in g spent)) (Err (stop_by end)))
            (sym going_is)
            (subst
            (λ (o : Option (Spent D)).
            StepCounts (device_of members old) (device_by members (disk_in None o)) (Err (stop_by end)))
            (sym spent_is) (ended_device old end is)))

        pub stopped_holds : HoldsOne going spent
        stopped_holds =
            subst (λ (g : Option (Tool)). HoldsOne g spent) (sym going_is)
            (subst (λ (o : Option (Spent D)). HoldsOne {D = D} None o) (sym spent_is) tt)

  -- ---- one that goes on

  pub under :
      (going : Option (Tool)) (h : Tool) (P : Option (Tool) → Type 0) → going ≡ Some h
      → (IsGoing members (Some h) → P (Some h)) → IsGoing members going → P going
  under going h P is over known = subst P (sym is) (over (subst (λ (o : Option (Tool)). IsGoing members o) is known))

  pub not_going : {A : Type 0} (going : Option (Tool)) → going ≡ None → IsGoing members going → A
  not_going going is known = absurd (subst (λ (o : Option (Tool)). IsGoing members o) is known)

  pub alone : (going : Option (Tool)) (h : Tool) (spent : Option (Spent D)) → going ≡ Some h → HoldsOne going spent
      → spent ≡ None
  alone going h spent is holds = go spent (subst (λ (o : Option (Tool)). HoldsOne o spent) is holds)
    where
      go : (left : Option (Spent D)) → HoldsOne (Some h) left → left ≡ None
      go None one = refl
      go (Some found) one = absurd one

  pub none_going : (going : Option (Tool)) (spent : Option (Spent D)) → going ≡ None → HoldsOne going spent
      → HoldsOne {D = D} None spent
  none_going going spent is holds = subst (λ (o : Option (Tool)). HoldsOne o spent) is holds

  -- ---- what is left behind a run

  abbrev linked : Option (Tool) → Option (Spent D) → LinkedEquipment D
  linked going spent = record { going = going; spent = spent }

  held_left : (h : Tool) (d : D) → h.spool.spool.disk ≡ d → IsGoing members (Some h)
      → HoldsLeft (tool_view members h) None (members.told d)
  held_left h d is known t told image image_is =
      let file = known.on.clear.stands.file t (ap (λ (x : D). members.told x) is ∙ told) in
      subst (λ (bytes : List ℕ). StandsFor bytes (tool_view members h).file)
      (sym (only_now t.now image file.settled image_is)) file.stands

  spent_left : (left : EquipmentView) (halt : StopAt EquipmentView ToolCommand) (spent : Spent D) (d : D)
      → spent.disk ≡ d
      → HasLeft members halt.at.state halt.at.input halt.at.moment halt.out spent halt.why
      → HoldsLeft left (Some halt) (members.told d)
  spent_left left halt spent d is has t told = has t (ap (λ (x : D). members.told x) is ∙ told)

  pub holds_left :
      (going : Option (Tool)) (spent : Option (Spent D)) (d : D) → HoldsOne going spent
      → disk_in going spent ≡ Some d → (halt : Option (StopAt EquipmentView ToolCommand))
      → IsSo (IsKnown members) (LeavesDevice members) (linked going spent) halt
      → HoldsLeft (linked_view members going) halt (members.told d)
  holds_left None None d one is halt so = absurd one
  holds_left (Some h) (Some spent) d one is halt so = absurd one
  holds_left (Some h) None d one is None so = held_left h d (some_same h.spool.spool.disk d is) so
  holds_left (Some h) None d one is (Some halt) so = absurd so
  holds_left None (Some spent) d one is None so = absurd so
  holds_left None (Some spent) d one is (Some halt) so =
      spent_left (linked_view members None) halt spent d (some_same spent.disk d is) so

  -- the run of one that goes on
  pub runs_from :
      (h : Tool) (start : Step EquipmentView Happening) → start.next ≡ tool_view members h
      → (lines : List ScriptLine) (polls : ℕ) (going : Option (Tool)) (spent : Option (Spent D)) (d : D)
      → HoldsOne going spent → disk_in going spent ≡ Some d → (link : LinkTold) (out : SinkTold) (how : Ending)
      → ComesOver (IsKnown members) (LeavesDevice members) (linked going spent)
      (before_run link out (tool_view members h))
      (λ halt. after_run link out (linked_view members going) none_asked halt)
      (equipment_run start lines polls) how
      → RunsFrom start lines polls (members.told d) link out how
  runs_from h start next lines polls going spent d one is link out how (halt, so, over) = record {
    left = linked_view members going;
    room = none_asked;
    stop = halt;
    runs = subst
        (λ (s : EquipmentView). RunsOver (before_run link out s)
        (after_run link out (linked_view members going) none_asked halt) (equipment_run start lines polls) how)
        (sym next) over;
    holds = holds_left going spent d one is halt so;
  }

  -- ---- a start that is refused

  pub start_refuses :
      (plan : EquipmentPlan) (old : D) (out : StepOut) (why : Starting D NoRecipes)
      → ((s : Story) → members.told old ≡ Some s → Begins members keepers plan s out (Err why))
      → ((s : Story) → members.told old ≡ Some s → FindsFile s (Err why)) → StartHandsBack members old (Err why)
      → StartRefuses (bytes_told (disk_told members old (unstarted_disk why))) (outcome_of_start why)
  start_refuses plan old out (starting.NotSpool raw place keeper) begins finds back =
      (back.count, λ s told. (breaks-there s.now.bytes place (begins s told).1, (begins s told).2))
  start_refuses plan old out (starting.NumbersSpent spent keeper) begins finds back =
      (back.count, λ s told. (finds s told, (begins s told).1, (begins s told).2))
  start_refuses plan old out (starting.DiskFailed spent keeper) begins finds back =
      (back.rose, λ s told. (begins s told).1)
  start_refuses plan old out (starting.NoMemory spent keeper) begins finds back =
      (back.count, λ s told. (finds s told, (begins s told).1))

  pub refused_as :
      (old : D) (why : Starting D NoRecipes) (outcome : Outcome) (d : D) → outcome ≡ outcome_of_start why
      → d ≡ unstarted_disk why
      → StartRefuses (bytes_told (disk_told members old (unstarted_disk why))) (outcome_of_start why)
      → StartRefuses (bytes_told (disk_told members old d)) outcome
  refused_as old why outcome d is same refuses =
      subst (λ (o : Outcome). StartRefuses (bytes_told (disk_told members old d)) o) (sym is)
      (subst (λ (x : D). StartRefuses (bytes_told (disk_told members old x)) (outcome_of_start why)) (sym same) refuses)

  start_same : (old : D) (why : Starting D NoRecipes) → StartHandsBack members old (Err why)
      → IsSameDisk members old (unstarted_disk why)
  start_same old (starting.NotSpool raw place keeper) back = back.same_disk
  start_same old (starting.NumbersSpent spent keeper) back = back.same_disk
  start_same old (starting.DiskFailed spent keeper) back = back.same_disk
  start_same old (starting.NoMemory spent keeper) back = back.same_disk

  pub refused_same : (old : D) (why : Starting D NoRecipes) (d : D) → d ≡ unstarted_disk why
      → StartHandsBack members old (Err why) → IsSameDisk members old d
  refused_same old why d same back =
      subst (λ (x : D). IsSameDisk members old x) (sym same) (start_same old why back)

  -- ---- the disk behind a run

  -- what no step changes is as it was, however the run ended
  counts_fixed : {F : Type 0} (a b : Counted F) (result : Ending) → Counts a b (Some result)
      → b.disk.fixed ≡ a.disk.fixed
  counts_fixed {F} a b ending.Stopped counts = ap (λ (x : Device F). x.fixed) counts.2
  counts_fixed {F} a b ending.Closed counts = ap (λ (x : Device F). x.fixed) counts.2
  counts_fixed {F} a b ending.Turns counts = ap (λ (x : Device F). x.fixed) counts.2
  counts_fixed {F} a b ending.NumbersSpent counts = ap (λ (x : Device F). x.fixed) counts.2
  counts_fixed {F} a b ending.Full counts = ap (λ (x : Device F). x.fixed) counts.2
  counts_fixed {F} a b ending.DiskFailed counts = counts.2.fixed
  counts_fixed {F} a b ending.LinkFailed counts = ap (λ (x : Device F). x.fixed) counts.2
  counts_fixed {F} a b ending.WriteFailed counts = ap (λ (x : Device F). x.fixed) counts.2
  counts_fixed {F} a b ending.NoMemory counts = ap (λ (x : Device F). x.fixed) counts.2

  pub run_same :
      (old mid new : D) (link out link' out' : ℕ) (result : Ending) → IsSameDisk members old mid
      → Counts (counted_by link out (device_of members mid)) (counted_by link' out' (device_of members new))
      (Some result) → IsSameDisk members old new
  run_same old mid new link out link' out' result first counts =
      let fixed =
      some_same (members.name new, members.file_is new, is_some (members.told new))
      (members.name mid, members.file_is mid, is_some (members.told mid))
      (counts_fixed (counted_by link out (device_of members mid)) (counted_by link' out' (device_of members new)) result
      counts) in (
        ap (λ (p : ℕ × Option (List ℕ) × Bool). p.0) fixed ∙ first.0,
        ap (λ (p : ℕ × Option (List ℕ) × Bool). p.1) fixed ∙ first.1,
        ap (λ (p : ℕ × Option (List ℕ) × Bool). p.2) fixed ∙ first.2,
      )

  -- of the faults alone
  abbrev faulty : ℕ → Device (Unit {0})
  faulty faults = record { faults = faults; fixed = tt }

  only_faults : {F : Type 0} (a b : Counted F) (result : Ending) → Counts a b (Some result)
      → Counts (counted_by a.link a.out (faulty a.disk.faults)) (counted_by b.link b.out (faulty b.disk.faults))
      (Some result)
  only_faults {F} a b ending.Stopped counts = (counts.0, counts.1, ap (λ (x : Device F). faulty x.faults) counts.2)
  only_faults {F} a b ending.Closed counts = (counts.0, counts.1, ap (λ (x : Device F). faulty x.faults) counts.2)
  only_faults {F} a b ending.Turns counts = (counts.0, counts.1, ap (λ (x : Device F). faulty x.faults) counts.2)
  only_faults {F} a b ending.NumbersSpent counts =
      (counts.0, counts.1, ap (λ (x : Device F). faulty x.faults) counts.2)
  only_faults {F} a b ending.Full counts = (counts.0, counts.1, ap (λ (x : Device F). faulty x.faults) counts.2)
  only_faults {F} a b ending.DiskFailed counts =
      (counts.0, counts.1, record { rose = counts.2.rose; fixed = refl })
  only_faults {F} a b ending.LinkFailed counts = (counts.0, counts.1, ap (λ (x : Device F). faulty x.faults) counts.2)
  only_faults {F} a b ending.WriteFailed counts =
      (counts.0, counts.1, ap (λ (x : Device F). faulty x.faults) counts.2)
  only_faults {F} a b ending.NoMemory counts = (counts.0, counts.1, ap (λ (x : Device F). faulty x.faults) counts.2)

  pub run_counts :
      (old mid new : D) (link out link' out' : ℕ) (result : Ending) → IsKept members old mid
      → Counts (counted_by link out (device_of members mid)) (counted_by link' out' (device_of members new))
      (Some result)
      → Counts (counted_by link out (faulty (members.health old).faults))
      (counted_by link' out' (faulty (members.health new).faults)) (Some result)
  run_counts old mid new link out link' out' result kept counts =
      subst
      (λ (n : ℕ). Counts (counted_by link out (faulty n)) (counted_by link' out' (faulty (members.health new).faults))
      (Some result))
      kept.count
      (only_faults (counted_by link out (device_of members mid)) (counted_by link' out' (device_of members new)) result
      counts)
