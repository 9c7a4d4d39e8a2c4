-- That the equipment in a world goes on with its power, and that a start over what its disk was left with finds what
-- the bytes say.
use Rattle.std.proofs.Common.{◌≡◌, refl, sym, ap, subst, ◌∙◌, arith, zero, suc, Bool, true, false, ℕ, ◌+◌, ◌==◌, List}
use Rattle.std.proofs.Common.{[]}
use Rattle.std.proofs.Common.{◌∷◌, ◌++◌, append-nil, append_assoc, length, length-append, map, Option, Some, None}
use Rattle.std.proofs.Common.{if◌then◌else◌}
use Rattle.std.specs.Option.{option_map_or}
use Rattle.std.specs.Prelude.{Result, Ok, Err}
use Rattle.disk_base.specs.Calls.{DiskCall, read_call, written_of}
use Rattle.disk_base.specs.Cut.{image_of, settled_before, settled_if}
use Rattle.disk_base.specs.MemDisk.{DiskState, HasFitted, after_cut, disk_health}
use Rattle.disk_base.specs.declared.cut.CutChoice.{CutChoice}
use Rattle.disk_base.specs.declared.disk.DiskAnswer.TheVariants.{Done}
use Rattle.disk_base.proofs.Marks.{AreIn, image_is}
use Rattle.disk_base.proofs.Moments.{only_now}
use Rattle.disk_base.specs.contracts.mem_disk.MemDiskDisk.TheImpl.{ghosts}
use Rattle.message_flow.specs.declared.step.StepOut.{StepOut}
use Rattle.gem_spool.proofs.Doing.{same_file}
use Rattle.spool_file.specs.File.{Ends, SpoolFile, file_in}
use Rattle.setup_store.specs.Copies.{cell_look, copy_number, gate_look, kept_length, list_place, load_calls, names_list}
use Rattle.spool_file.specs.Logs.{written_by}
use Rattle.spool_file.specs.Reads.{look_back, looks_at, recover_calls, slot_behind, start_look, start_looks}
use Rattle.spool_file.specs.Slot.{Message, width}
use Rattle.spool_file.proofs.Making.{written_both}
use Rattle.spool_slots.specs.Calls.{upgrade_calls}
use Rattle.spool_slots.specs.Files.{upgraded, with_mark_moved}
use Rattle.spool_slots.proofs.Settling.{length_copy}
use Rattle.trace_log.specs.Log.{Happening}
use Rattle.message_end.specs.declared.end.Stop.{Stop}
use Rattle.message_end.specs.Core.{Step, Went, at_first, step_in}
use Rattle.message_end.specs.Core.Went.{Goes, Spent}
use Rattle.message_end.specs.Ends.{Asked, IsNotStopped, Leaves, asked_both, reach_behind}
use Rattle.equipment_tables.specs.declared.plan.EquipmentPlan.{EquipmentPlan}
use Rattle.gem_recipes.specs.contracts.no_recipes.NoRecipesRecipeKeeper.TheImpl.{ghosts as no_keepers}
use Rattle.gem_recipes.specs.declared.no_recipes.NoRecipes.{NoRecipes}
use Rattle.equipment_node.specs.declared.equipment.Starting.{Starting}
use Rattle.spool_works.specs.DiskWorks.{reserve_asks}
use Rattle.spool_works.specs.Found.{first_in}
use Rattle.tool_step.specs.Disk.{standing_in}
use Rattle.tool_step.specs.End.{machine, making, starting, taking_up}
use Rattle.tool_step.specs.Equipment.{EquipmentView, is_marked_out, started_on, starts, unstarted}
use Rattle.tool_step.specs.Setup.{loading}
use Rattle.equipment_node.specs.Held.{Begins, HasBegunOn, Held, IsIn, view_in}
use Rattle.equipment_node.specs.InMemory.{HasPower, IsBounded, IsLost, IsStartable, IsWhole, StartsAnew, anew_over}
use Rattle.equipment_node.specs.InMemory.{asked_of, disk_of, disk_reach, file_cut, starts_over, state_in, stop_at_start}
use Rattle.equipment_node.specs.InMemory.{with_stop}
use Rattle.tool_core.specs.Node.{node_of}
use Rattle.tool_law.specs.Sound.{AllCanBeSent}
use Rattle.equipment_node.specs.MadeReady.{ready_calls, upgrades}
use Rattle.equipment_node.specs.StartCalls.{reserve_calls, start_calls}
use Rattle.equipment_node.specs.StartOver.{HasStartedOver, IsSureDisk, KeepsSure}
use Rattle.equipment_node.specs.StartSetup.{setup_looks}
use Rattle.equipment_node.specs.StartSizes.{looks_in, size_looks}
use Rattle.spool_works.specs.DiskCalls.{HasMade}
use Rattle.equipment_node.proofs.BrokenSteps.{same-some}
use Rattle.equipment_node.proofs.Reaching.{same-reach, written-behind}
use Rattle.equipment_node.proofs.Seated.{begun-ends, start-whole}
use Rattle.equipment_node.proofs.StartOffering.{offers-none}

-- where another call is planned it is the same equipment
armed-in : (h : Held DiskState NoRecipes) (call : ℕ) → IsIn ghosts no_keepers h
    → IsIn ghosts no_keepers (with_stop call h)
armed-in h call is = record {
  on = record {
    clear = record {
      stands = record {
        count = is.on.clear.stands.count;
        mark = is.on.clear.stands.mark;
        chain = is.on.clear.stands.chain;
        file = λ s told. is.on.clear.stands.file s told;
      };
      owes = is.on.clear.owes;
      sizes_are = is.on.clear.sizes_are;
      slots_are = is.on.clear.slots_are;
      version_is = is.on.clear.version_is;
    };
    made = is.on.made;
  };
  told = is.told;
  kept = is.kept;
}

pub armed-power : (plan : EquipmentPlan) (h : Held DiskState NoRecipes) (call : ℕ) → HasPower ghosts plan h
    → HasPower ghosts plan (with_stop call h)
armed-power plan h call is = record {
  in_state = armed-in h call is.in_state;
  fails_not = is.fails_not;
  going = is.going;
  bounded = is.bounded;
  fitted = record {
    used = is.fitted.used;
    within = is.fitted.within;
    going = λ on. is.fitted.going on;
    stopped = λ stopped. is.fitted.stopped stopped;
  };
  plan_is = is.plan_is;
}

-- ---- what a start asks

-- so many calls, which write so many bytes
abbrev AsksSo : List DiskCall → Asked → Type 0
AsksSo calls all = (length calls ≡ all.calls) × (written_by calls ≡ all.bytes)

asks-both : (xs ys : List DiskCall) (one two : Asked) → AsksSo xs one → AsksSo ys two
    → AsksSo (xs ++ ys) (asked_both one two)
asks-both xs ys one two first later =
    let long = length-append xs ys in
    let wrote = written_both xs ys in
    let calls = first.0 in
    let bytes = first.1 in
    let more = later.0 in
    let longer = later.1 in (omega (arith, long, calls, more), omega (arith, wrote, bytes, longer))

abbrev reading : ℕ → Asked
reading calls = record { calls = calls; bytes = 0 }

-- the starts of slots are read
looks-ask : (slot_of : ℕ → ℕ) (n : ℕ) → AsksSo (looks_at slot_of n) (reading n)
looks-ask slot_of zero = (refl, refl)
looks-ask slot_of (suc n) =
    let less = looks-ask slot_of n in
    let both =
    asks-both (looks_at slot_of n) (start_look (slot_of n)) (reading n) (reading 1) less (refl, refl) in
    let calls = both.0 in
    let bytes = both.1 in (omega (arith, calls), omega (arith, bytes))

recover-asks : (slots : ℕ) → AsksSo (recover_calls 2 slots) (taking_up slots)
recover-asks slots =
    let both =
    asks-both (start_looks slots) (looks_at (slot_behind slots) (slots + look_back slots)) (reading slots)
    (reading (slots + look_back slots)) (looks-ask (λ k. k) slots)
    (looks-ask (slot_behind slots) (slots + look_back slots)) in
    let calls = both.0 in
    let bytes = both.1 in (omega (arith, calls), omega (arith, bytes))

-- and the first slot of each message
sizes-ask : (slots number : ℕ) (list : List Message)
    → AsksSo (size_looks slots number (map width list)) (reading (length list))
sizes-ask slots number [] = (refl, refl)
sizes-ask slots number (m ∷ list) =
    let rest = sizes-ask slots (number + width m) list in
    let calls = rest.0 in
    let bytes = rest.1 in (omega (arith, calls), omega (arith, bytes))

reserve-asks : (file : SpoolFile) → AsksSo (reserve_calls file) reserve_asks
reserve-asks file = let copy = length_copy (file.mark.value + 4096) in (refl, omega (arith, copy))

-- the setup is read before them
looks-write : (good none : Bool) (place long : ℕ)
    → written_by
    (cell_look ++ (if good then (if none then [] else read_call place long Done ∷ []) else gate_look)) ≡ 0
looks-write true true place long = refl
looks-write true false place long = refl
looks-write false none place long = refl

setup-asks : (file : SpoolFile) → AsksSo (setup_looks file) (loading file)
setup-asks file = go file.setup.bytes
  where
    value : ℕ
    value = file.setup.cell.value

    go : (kept : Option (List ℕ))
        → AsksSo (option_map_or (λ (bytes : List ℕ). load_calls file.slots value) kept [])
        (reading (option_map_or (λ (bytes : List ℕ). length (load_calls file.slots value)) kept 0))
    go None = (refl, refl)
    go (Some bytes) = (
      refl,
      looks-write (names_list value) (kept_length value == 0) (list_place file.slots (copy_number value))
          (kept_length value),
    )

-- in version 2 nothing is to be upgraded
ready-asks : (file : SpoolFile) → file.version ≡ 2
    → AsksSo ((setup_looks file ++ ready_calls file) ++ reserve_calls file) (starting file)
ready-asks file version =
    subst (λ (calls : List DiskCall). AsksSo calls (starting file))
    (sym (append_assoc (setup_looks file) (ready_calls file) (reserve_calls file)))
    (asks-both (setup_looks file) (ready_calls file ++ reserve_calls file) (loading file)
    (asked_both (reading (length file.list)) reserve_asks) (setup-asks file)
    (subst
    (λ (calls : List DiskCall).
    AsksSo ((looks_in file ++ calls) ++ reserve_calls file) (asked_both (reading (length file.list)) reserve_asks)) none
    (asks-both (looks_in file ++ []) (reserve_calls file) (reading (length file.list)) reserve_asks
    (subst (λ (calls : List DiskCall). AsksSo calls (reading (length file.list))) (sym (append-nil (looks_in file)))
    (sizes-ask file.slots (first_in file) file.list))
    (reserve-asks file))))
  where
    none : [] ≡ upgrades file
    none = ap (λ (n : ℕ). if n == 1 then upgrade_calls else []) (sym version)

start-asks : (file : SpoolFile) → file.version ≡ 2
    → AsksSo (start_calls file) (asked_both (taking_up file.slots) (starting file))
start-asks file version =
    subst (λ (calls : List DiskCall). AsksSo calls (asked_both (taking_up file.slots) (starting file)))
    (sym
    (append_assoc (recover_calls file.version file.slots) (setup_looks file ++ ready_calls file) (reserve_calls file)))
    (asks-both (recover_calls file.version file.slots)
    ((setup_looks file ++ ready_calls file) ++ reserve_calls file) (taking_up file.slots) (starting file)
    (subst (λ (n : ℕ). AsksSo (recover_calls n file.slots) (taking_up file.slots)) (sym version)
    (recover-asks file.slots))
    (ready-asks file version))

-- ---- a start

-- of a disk that has made some calls more, so that so much was asked of it
start-reach :
    (d e : DiskState) (calls : List DiskCall) (all : Asked) → IsBounded e → e.plan.stop_in ≡ 0
    → HasMade ghosts d e calls → length d.calls + length calls ≡ all.calls
    → written_of d.calls + written_by calls ≡ all.bytes → disk_reach e ≡ reach_behind all
start-reach d e calls all bounded never made many bytes =
    same-reach (disk_reach e) (reach_behind all) never (omega (arith, bounded.0, long, many))
    (omega (arith, bounded.1, wrote, bytes))
  where
    are : e.calls ≡ d.calls ++ calls
    are = same-some e.calls (d.calls ++ calls) made.listed

    long : length e.calls ≡ length d.calls + length calls
    long = ap length are ∙ length-append d.calls calls

    wrote : written_of e.calls ≡ written_of d.calls + written_by calls
    wrote = ap written_of are ∙ written-behind d.calls calls

pub bounded-by : (d e : DiskState) (calls : List DiskCall) → HasMade ghosts d e calls → IsBounded d → IsBounded e
bounded-by d e calls made is =
    let kept = made.used.bounds_kept in
    (ap (λ (w : ℕ × ℕ). w.0) kept ∙ is.0, ap (λ (w : ℕ × ℕ). w.1) kept ∙ is.1)

module _ (h : Held DiskState NoRecipes) (in_state : IsIn ghosts no_keepers h)
    (sure : IsSureDisk (disk_health h.spool.spool.disk)) where
  pub seated-power :
      (plan : EquipmentPlan) → IsBounded h.spool.spool.disk → HasFitted h.spool.spool.disk
      → (node_of h.tool).own.plan ≡ plan → HasPower ghosts plan h
  seated-power plan bounded fitted same = record {
    in_state = in_state;
    fails_not = sure.fails_not;
    going = sure.going;
    bounded = bounded;
    fitted = fitted;
    plan_is = same;
  }

  -- behind a first start, which finds the file made
  pub first-reach :
      (d : DiskState) (file : SpoolFile) → file.version ≡ 2
      → HasMade ghosts d h.spool.spool.disk ((setup_looks file ++ ready_calls file) ++ reserve_calls file)
      → IsBounded d
      → asked_of d ≡ making file.slots → (view_in ghosts no_keepers h).file ≡ with_mark_moved (upgraded file)
      → disk_reach h.spool.spool.disk ≡ reach_behind (machine.first_use (view_in ghosts no_keepers h))
  first-reach d file version made bounded asked file_is =
      let calls = ap (λ (a : Asked). a.calls) asked in
      let bytes = ap (λ (a : Asked). a.bytes) asked in
      let starts = ready-asks file version in
      start-reach d h.spool.spool.disk ((setup_looks file ++ ready_calls file) ++ reserve_calls file)
      (asked_both (making file.slots) (starting file))
      (bounded-by d h.spool.spool.disk ((setup_looks file ++ ready_calls file) ++ reserve_calls file) made bounded) sure.stops_not made
      (let long = starts.0 in omega (arith, calls, long)) (let wrote = starts.1 in omega (arith, bytes, wrote))
      ∙ ap (λ (f : SpoolFile). reach_behind (asked_both (making f.slots) (starting f))) (sym file_is)

-- it is by its plan
start-plan :
    (plan : EquipmentPlan) (file : SpoolFile) → (step_in (starts plan file)).next.node.own.plan ≡ plan
start-plan plan file = go (is_marked_out file.mark.value)
  where
    go : (out : Bool)
        → (step_in
        (if out then Spent (at_first (unstarted plan file)) else Goes (started_on plan file))).next.node.own.plan
        ≡ plan
    go true = refl
    go false = refl

-- where it goes on its file is of version 2, and the mark has moved
start-file :
    (plan : EquipmentPlan) (file : SpoolFile) (step : Step EquipmentView Happening) → starts plan file ≡ Goes step
    → step.next.file ≡ with_mark_moved (upgraded file)
start-file plan file step = go (is_marked_out file.mark.value)
  where
    same-step : {a b : Step EquipmentView Happening} → Goes a ≡ Goes b → a ≡ b
    same-step same = cc

    go : (out : Bool)
        → (if out then Spent (at_first (unstarted plan file)) else Goes (started_on plan file)) ≡ Goes step
        → step.next.file ≡ with_mark_moved (upgraded file)
    go true is = absurd (cc)
    go false is = ap (λ (x : Step EquipmentView Happening). x.next.file) (sym (same-step is))

pub start-file-is :
    (plan : EquipmentPlan) (file : SpoolFile) (h : Held DiskState NoRecipes) (out : StepOut)
    → HasStartedOver ghosts plan file h out
    → (view_in ghosts no_keepers h).file ≡ with_mark_moved (upgraded file)
start-file-is plan file h out is =
    sym
    (same_file ghosts h.spool.spool (standing_in (started_on plan file).next) is.clear.stands
    h.spool.spool.disk.story refl)

-- it doesn't go on
pub not-anew :
    (plan : EquipmentPlan) (went : Went EquipmentView Happening) (going : Option (Held DiskState NoRecipes))
    → going ≡ None
    → (out : StepOut) (why : Stop) → Leaves ([] ∷ []) false went (state_in ghosts plan going) out (Err why)
    → IsNotStopped {R = Unit {0}} (Err why) → (unmet : ℕ) → StartsAnew ghosts plan went going unmet out (Err why)
not-anew plan went going gone out why leaves whole unmet = record {
  start = leaves;
  whole = whole;
  reach = tt;
  sound = subst (λ (o : Option (Held DiskState NoRecipes)). IsWhole ghosts plan o None) (sym gone) tt;
}

module _ (plan : EquipmentPlan) (disk : DiskState) (is : IsStartable disk) (out : StepOut) where
  abbrev file : SpoolFile
  file = file_in disk.story.now.bytes

  pub anew-on :
      (h : Held DiskState NoRecipes) (unmet : ℕ) → HasBegunOn ghosts no_keepers plan disk.story.now.bytes out h
      → HasMade ghosts disk h.spool.spool.disk (start_calls (file_in disk.story.now.bytes))
      → KeepsSure ghosts disk h.spool.spool.disk → HasFitted h.spool.spool.disk
      → StartsAnew ghosts plan (starts_over plan disk) (Some h) unmet out (Ok tt)
  anew-on h unmet begun calls keeps fitted =
      let bounded = bounded-by disk h.spool.spool.disk (start_calls file) calls is.bounded in
      record {
        start = begun.gone;
        whole = tt;
        reach =
            start-reach disk h.spool.spool.disk (start_calls file) (asked_both (taking_up file.slots) (starting file))
            bounded (keeps is.sure).stops_not calls
            (let none = ap length is.unasked in let long = asks.0 in omega (arith, none, long))
            (let none = ap written_of is.unasked in let wrote = asks.1 in omega (arith, none, wrote))
            ∙ ap (λ (f : SpoolFile). reach_behind (asked_both (taking_up f.slots) (starting f)))
            (sym (start-file plan file begun.gone.step begun.gone.is)
            ∙ ap (λ (s : EquipmentView). s.file) begun.gone.next_is);
        sound =
            seated-power h (begun.can_go is.can (offers-none h.keeper)) (keeps is.sure) plan bounded fitted
            (sym (ap (λ (went : Went EquipmentView Happening). (step_in went).next.node.own.plan) begun.gone.is
            ∙ ap (λ (s : EquipmentView). s.node.own.plan) begun.gone.next_is)
            ∙ start-plan plan (file_in disk.story.now.bytes));
      }
    where
      asks : AsksSo (start_calls file) (asked_both (taking_up file.slots) (starting file))
      asks = start-asks file is.version

  pub anew-off :
      (why : Starting DiskState NoRecipes) → Begins ghosts no_keepers plan disk.story out (Err why)
      → (going : Option (Held DiskState NoRecipes))
      → going ≡ None → (told : Stop) → told ≡ stop_at_start why → (unmet : ℕ)
      → StartsAnew ghosts plan (starts_over plan disk) going unmet out (Err told)
  anew-off why begins going gone told told_is unmet =
      subst (λ (e : Stop). StartsAnew ghosts plan (starts_over plan disk) going unmet out (Err e)) (sym told_is)
      (not-anew plan (starts_over plan disk) going gone out (stop_at_start why)
      (begun-ends ghosts plan out disk.story (state_in ghosts plan going) why begins) (start-whole (Unit {0}) why)
      unmet)

-- ---- what a disk is left with

-- of a lost disk, whatever is chosen
pub cut-startable : (lost : DiskState) → IsLost lost → (choice : CutChoice) → IsStartable (after_cut choice lost)
cut-startable lost is choice = record {
  version = is.version choice;
  unasked = refl;
  bounded = is.bounded;
  can = is.can choice;
  sure = record { fails_not = refl; stops_not = refl; going = refl };
}

pub power-in :
    (plan : EquipmentPlan) (going : Option (Held DiskState NoRecipes)) (lost : Option DiskState)
    (h : Held DiskState NoRecipes)
    → going ≡ Some h → IsWhole ghosts plan going lost → HasPower ghosts plan h × (lost ≡ None)
power-in plan going lost h same is =
    go lost (subst (λ (o : Option (Held DiskState NoRecipes)). IsWhole ghosts plan o lost) same is)
  where
    go : (lost : Option DiskState) → IsWhole ghosts plan (Some h) lost → HasPower ghosts plan h × (lost ≡ None)
    go None is = (is, refl)
    go (Some lost) is = absurd is

-- a disk that nothing is asked of keeps its bytes
module _ (plan : EquipmentPlan) (h : Held DiskState NoRecipes) (is : HasPower ghosts plan h) where
  ends : Ends h.spool.spool.disk.story (view_in ghosts no_keepers h).file
  ends = is.in_state.on.clear.stands.file h.spool.spool.disk.story refl

  same-image : (choice : CutChoice) → image_of choice h.spool.spool.disk.story ≡ h.spool.spool.disk.story.now.bytes
  same-image choice =
      let story = h.spool.spool.disk.story in
      only_now story.now (image_of choice story) ends.settled
      (image_is choice story (subst (AreIn (length story.now.bytes)) (sym ends.settled) tt)
      (ap (λ (loose : List (ℕ × ℕ)). length (settled_if loose story.now.bytes (settled_before story.past)))
      ends.settled))

  same-cut : (choice : CutChoice) → file_cut h.spool.spool.disk choice ≡ (view_in ghosts no_keepers h).file
  same-cut choice = ap file_in (same-image choice) ∙ sym ends.stands.is

  power-lost : IsLost h.spool.spool.disk
  power-lost = record {
    version = λ choice. ap (λ (file : SpoolFile). file.version) (same-cut choice) ∙ is.in_state.on.clear.version_is;
    can = λ choice.
        subst (λ (file : SpoolFile). AllCanBeSent file.list) (sym (same-cut choice))
        is.in_state.on.made.did.sound.list;
    bounded = is.bounded;
  }

  power-anew : (choice : CutChoice) (now : ℕ)
      → starts_over plan (after_cut choice h.spool.spool.disk) ≡ anew_over ghosts plan (Some h) None choice now
  power-anew choice now =
      ap (λ (file : SpoolFile). starts plan file) (same-cut choice)
      ∙ ap (λ (p : EquipmentPlan). starts p (view_in ghosts no_keepers h).file) (sym is.plan_is)

-- whichever disk there is, a start anew finds what it is left with
module _ (plan : EquipmentPlan) (disk : DiskState) (choice : CutChoice) (now : ℕ) where
  -- it is lost then, and a start over what it is left with is the start anew
  abbrev IsAnew : DiskState → Option (Held DiskState NoRecipes) → Option DiskState → Type 0
  IsAnew d going lost =
      IsLost d × (starts_over plan (after_cut choice d) ≡ anew_over ghosts plan going lost choice now)

  anew-of : (going : Option (Held DiskState NoRecipes)) (lost : Option DiskState) → IsWhole ghosts plan going lost
      → disk_of lost going ≡ Some disk → IsAnew disk going lost
  anew-of None (Some lost) is same =
      subst (λ (d : DiskState). IsAnew d None (Some lost)) (let one : lost ≡ disk = cc in one) (is, refl)
  anew-of (Some h) (Some lost) is same = absurd is
  anew-of (Some h) None is same =
      subst (λ (d : DiskState). IsAnew d (Some h) None) (let one : h.spool.spool.disk ≡ disk = cc in one)
      (power-lost plan h is, power-anew plan h is choice now)
  anew-of None None is same = absurd (cc)

  -- by what was taken out of it
  pub restarted :
      (going going_taken : Option (Held DiskState NoRecipes)) (lost lost_taken found : Option DiskState)
      → found ≡ disk_of lost_taken going_taken → lost_taken ≡ lost → going_taken ≡ going → found ≡ Some disk
      → IsWhole ghosts plan going lost → (new : EquipmentPlan) (after : Option (Held DiskState NoRecipes)) (unmet : ℕ)
      (out : StepOut) (result : Result (Unit {0}) Stop)
      → (IsLost disk → StartsAnew ghosts new (starts_over plan (after_cut choice disk)) after unmet out result)
      → StartsAnew ghosts new (anew_over ghosts plan going lost choice now) after unmet out result
  restarted going going_taken lost lost_taken found found_is lost_is going_is some is new after unmet out result anew =
      let same =
      sym (found_is ∙ ap (λ (o : Option DiskState). disk_of o going_taken) lost_is
      ∙ ap (λ (o : Option (Held DiskState NoRecipes)). disk_of lost o) going_is) ∙ some in
      let both = anew-of going lost is same in
      subst (λ (went : Went EquipmentView Happening). StartsAnew ghosts new went after unmet out result) both.1
      (anew both.0)
