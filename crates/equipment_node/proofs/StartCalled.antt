-- That the calls of the disk in a start are those of its file: a sync, reads, and those that upgrade it and move the
-- mark.
use Rattle.std.proofs.Common.{◌≡◌, sym, ap, subst, ◌∙◌, ◌⊎◌, inl, inr, append_assoc, append-nil, arith, ℕ, List, []}
use Rattle.std.proofs.Common.{◌∷◌}
use Rattle.std.proofs.Common.{◌++◌, Option, Some, None}
use Rattle.std.specs.Prelude.{Result, Ok, Err}
use Rattle.disk_base.specs.Calls.{DiskCall, Logs, sync_call, with_call}
use Rattle.disk_base.specs.Faults.{DiskHealth, IsLeftOut}
use Rattle.disk_base.specs.Story.{Story}
use Rattle.disk_base.specs.declared.disk.Disk as disk
use Rattle.disk_base.specs.declared.disk.DiskAnswer.{DiskAnswer}
use Rattle.disk_base.specs.declared.disk.DiskAnswer.TheVariants.{Failed}
use Rattle.gem_spool.specs.Updates.{syncs}
use Rattle.gem_spool.specs.declared.spool.GemSpool.{GemSpool}
use Rattle.gem_spool.specs.Spool.{ReservesFrom}
use Rattle.gem_spool.specs.Standing.{Standing, Stands, standing_of}
use Rattle.message_flow.specs.declared.step.StepOut.{StepOut}
use Rattle.setup_store.specs.Entries.{Entry}
use Rattle.spool_file.specs.File.{SpoolFile, file_in, spool_break}
use Rattle.spool_file.specs.Reads.{HasRead, most_reads, recover_calls}
use Rattle.spool_slots.specs.Changes.{Recovers, Reserves}
use Rattle.spool_slots.specs.Spool.{SpoolView}
use Rattle.spool_slots.specs.declared.states.Recovering.{Recovering}
use Rattle.spool_slots.specs.declared.states.Recovering.TheVariants as recovering
use Rattle.spool_slots.specs.declared.states.Reserving.TheVariants as reserving
use Rattle.spool_slots.specs.declared.states.Spent.{Spent as Device}
use Rattle.equipment_tables.specs.declared.plan.EquipmentPlan.{EquipmentPlan}
use Rattle.gem_recipes.specs.declared.no_recipes.NoRecipes.{NoRecipes}
use Rattle.equipment_node.specs.Keeping.{no_keeper}
use Rattle.equipment_node.specs.declared.equipment.Starting.{Starting}
use Rattle.equipment_node.specs.declared.equipment.Starting.TheVariants as starting
use Rattle.spool_works.specs.DiskCalls.{HasFailedIn, HasMade}
use Rattle.equipment_node.specs.Held.{Held, starting_by}
use Rattle.equipment_node.specs.MadeReady.{HasBegun, IsMadeReady, IsUnready, ready_calls}
use Rattle.equipment_node.specs.StartCalls.{AreLooks, CallsInStart, StartAsks, StartMoves, reserve_calls}
use Rattle.equipment_node.specs.StartCalls.{taking_calls}
use Rattle.equipment_node.specs.StartOver.{IsFresh, StartsWith}
use Rattle.equipment_node.specs.StartSetup.{setup_looks}
use Rattle.spool_works.proofs.Called.{failed-all, failed-before, failed-behind, made-all, made-same, made-then}
use Rattle.spool_works.proofs.Called.{mark-made, mark-stops, with-both}
use Rattle.equipment_node.specs.Stepping.{IsTold}
use Rattle.equipment_node.proofs.MadeReady.{begun-before}
use Rattle.equipment_node.proofs.TakenUp.{file-is}

-- ---- which they are

looks-of :
    (synced now : DiskHealth) (before after : Option (List DiskCall)) (most : ℕ) (answer : DiskAnswer)
    → HasRead synced now (with_call syncs before) after most answer → AreLooks before after most
looks-of synced now before after most answer read = record {
  looks = read.more;
  are = read.reads;
  few = let short = read.short in let few = read.few in omega (arith, short, few);
  listed = read.calls ∙ with-both (syncs ∷ []) read.more before;
}

module _ {D : Type 0} (members : disk.Ghosts D) where
  -- ---- over a spool in hand

  module _ (g : GemSpool D) (st : Standing) (stands : Stands members g.spool st)
      (told : IsTold (members.told g.spool.disk))
    where
      pub mark-moved :
          (plan : EquipmentPlan) (h : GemSpool D) (setup : Option (List Entry)) (sizes : List ℕ) (base first : ℕ)
          (out_old out_new : StepOut) (result : Result (Held D NoRecipes) (Starting D NoRecipes))
          → ReservesFrom members g h (Some base)
          → StartsWith plan h setup sizes first out_old out_new result
          → StartMoves members g.spool.disk [] (reserve_calls st.file) result
      mark-moved plan h setup sizes base first out_old out_new (Ok e) done is =
          subst (λ (x : GemSpool D). HasMade members g.spool.disk x.spool.disk (reserve_calls st.file)) (sym is.0)
          (mark-made members g.spool h.spool.disk st stands told.0 told.1 done.0.0)
      mark-moved plan h setup sizes base first out_old out_new (Err (starting.NoMemory spent keeper)) done is = record {
        first = reserve_calls st.file;
        rest = [];
        are = sym (append-nil (reserve_calls st.file));
        made =
            subst (λ (d : D). HasMade members g.spool.disk d (reserve_calls st.file)) (sym is)
            (mark-made members g.spool h.spool.disk st stands told.0 told.1 done.0.0);
      }
      mark-moved plan h setup sizes base first out_old out_new (Err (starting.NumbersSpent spent keeper)) done is =
          absurd is
      mark-moved plan h setup sizes base first out_old out_new (Err (starting.DiskFailed spent keeper)) done is =
          absurd is
      mark-moved plan h setup sizes base first out_old out_new (Err (starting.NotSpool raw break keeper)) done is =
          absurd is

      pub mark-stays :
          (h : GemSpool D) (spent : Device D) → ReservesFrom members g h None → spent.disk ≡ h.spool.disk
          → StartMoves members g.spool.disk [] (reserve_calls st.file) (Err (starting.NumbersSpent spent no_keeper))
      mark-stays h spent done same =
          made-same members g.spool.disk spent.disk (same ∙ ap (λ (x : GemSpool D). x.spool.disk) done.0)

      pub move-stops :
          (spent : Device D) → Reserves members g.spool (Err (reserving.Failed spent))
          → StartMoves members g.spool.disk [] (reserve_calls st.file) (Err (starting.DiskFailed spent no_keeper))
      move-stops spent done = mark-stops members g.spool spent.disk st stands told.0 told.1 done

  -- ---- behind other calls

  -- some first calls of some behind others are some first ones of all
  begun-behind : (a b c : D) (xs ys : List DiskCall) → HasMade members a b xs → HasBegun members b c ys
      → HasBegun members a c (xs ++ ys)
  begun-behind a b c xs ys one two = record {
    first = xs ++ two.first;
    rest = two.rest;
    are = ap (λ (all : List DiskCall). xs ++ all) two.are ∙ sym (append_assoc xs two.first two.rest);
    made = made-then members a b c xs two.first one two.made;
  }

  pub moves-behind :
      (a b : D) (xs ys moves : List DiskCall) → HasMade members a b xs
      → (result : Result (Held D NoRecipes) (Starting D NoRecipes))
      → StartMoves members b ys moves result → StartMoves members a (xs ++ ys) moves result
  moves-behind a b xs ys moves made (Ok h) is =
      subst (λ (calls : List DiskCall). HasMade members a h.spool.spool.disk calls) (sym (append_assoc xs ys moves))
      (made-then members a b h.spool.spool.disk xs (ys ++ moves) made is)
  moves-behind a b xs ys moves made (Err (starting.NoMemory spent keeper)) is =
      subst (λ (calls : List DiskCall). HasBegun members a spent.disk calls) (sym (append_assoc xs ys moves))
      (begun-behind a b spent.disk xs (ys ++ moves) made is)
  moves-behind a b xs ys moves made (Err (starting.NumbersSpent spent keeper)) is =
      made-then members a b spent.disk xs ys made is
  moves-behind a b xs ys moves made (Err (starting.DiskFailed spent keeper)) is =
      subst (λ (calls : List DiskCall). HasFailedIn members a spent.disk calls) (sym (append_assoc xs ys moves))
      (failed-behind members a b spent.disk xs (ys ++ moves) made is)
  moves-behind a b xs ys moves made (Err (starting.NotSpool raw break keeper)) is = absurd is

  -- the spool wasn't made ready
  pub unready-moves :
      (old : D) (file : SpoolFile) (why : Starting D NoRecipes) → IsUnready members old file why
      → StartMoves members old (ready_calls file) (reserve_calls file) (Err why)
  unready-moves old file (starting.NoMemory spent keeper) is =
      begun-before members old spent.disk (ready_calls file) (reserve_calls file) is.0
  unready-moves old file (starting.DiskFailed spent keeper) is =
      failed-before members old spent.disk (ready_calls file) (reserve_calls file) is.0
  unready-moves old file (starting.NumbersSpent spent keeper) is = absurd is
  unready-moves old file (starting.NotSpool raw break keeper) is = absurd is

  -- it was, and the calls behind are those of its file
  pub ready-moves :
      (v : SpoolView D) (g : GemSpool D) (sizes : List ℕ) → IsMadeReady members v g sizes → IsFresh members v
      → (result : Result (Held D NoRecipes) (Starting D NoRecipes))
      → StartMoves members g.spool.disk [] (reserve_calls (standing_of members g.spool).file) result
      → StartMoves members v.disk (ready_calls (standing_of members v).file)
      (reserve_calls (standing_of members v).file) result
  ready-moves v g sizes ready fresh result is =
      let file = (standing_of members v).file in
      subst (λ (calls : List DiskCall). StartMoves members v.disk calls (reserve_calls file) result)
      (append-nil (ready_calls file))
      (moves-behind v.disk g.spool.disk (ready_calls file) [] (reserve_calls file) (ready.made fresh) result
      (subst (λ (f : SpoolFile). StartMoves members g.spool.disk [] (reserve_calls f) result) (ready.file fresh) is))

  -- ---- from a device

  module _ (old : D) (s : Story) (told : members.told old ≡ Some s) where
    abbrev here : SpoolFile
    here = file_in s.now.bytes

    looks-or-sync :
        (spent : Device D) → Recovers members old (Err (recovering.Failed spent))
        → Logs sync_call (IsLeftOut (members.health old) (members.health spent.disk) 0 0) (members.calls old)
        (members.calls spent.disk) Failed
        ⊎ AreLooks (members.calls old) (members.calls spent.disk)
        (most_reads (members.told old) (members.size_is old))
    looks-or-sync spent (inl is, by) = inl is.calls
    looks-or-sync spent (inr is, by) =
        inr
        (looks-of is.synced (members.health spent.disk) (members.calls old) (members.calls spent.disk) _ _ is.reads)

    abbrev finds : List DiskCall
    finds = recover_calls here.version here.slots

    -- it gives no spool
    pub looked-only :
        (why : Recovering D) → Recovers members old (Err why)
        → CallsInStart members old s.now.bytes (Err (starting_by no_keeper why))
    looked-only (recovering.NotSpool raw break) is = (
      λ sound. absurd (both-not (is.1 s told).0 sound),
      λ breaks.
          looks-of is.0.synced (members.health raw.disk) (members.calls old) (members.calls raw.disk) _ _ is.0.reads,
    )
      where
        both-not : {place : Option ℕ} {at : ℕ} → place ≡ Some at → place ≡ None → ⊥
        both-not some none = cc
    looked-only (recovering.Failed spent) is = (
      λ sound.
          subst (λ (calls : List DiskCall). HasFailedIn members old spent.disk calls)
          (sym (append_assoc finds (setup_looks here ++ ready_calls here) (reserve_calls here)))
          (failed-before members old spent.disk finds
          ((setup_looks here ++ ready_calls here) ++ reserve_calls here)
          (failed-all members old spent.disk finds (is.1 s told sound))),
      λ breaks. looks-or-sync spent is,
    )

    module _ (v : SpoolView D) (is : Recovers members old (Ok v)) where
      sound : spool_break s.now.bytes ≡ None
      sound = (is.1 s told).0.sound

      looked : HasMade members old v.disk finds
      looked = made-all members old v.disk finds (is.2 s told sound)

      moved-through :
          (result : Result (Held D NoRecipes) (Starting D NoRecipes))
          → StartMoves members v.disk (setup_looks here ++ ready_calls here) (reserve_calls here) result
          → StartMoves members old (taking_calls here) (reserve_calls here) result
      moved-through result moves =
          moves-behind old v.disk finds (setup_looks here ++ ready_calls here) (reserve_calls here) looked result moves

      pub looked-through :
          (result : Result (Held D NoRecipes) (Starting D NoRecipes))
          → StartAsks members v.disk (standing_of members v).file result
          → CallsInStart members old s.now.bytes result
      looked-through result asks =
          go result
          (subst (λ (file : SpoolFile). StartAsks members v.disk file result) (file-is members old s told v is) asks)
        where
          go : (result : Result (Held D NoRecipes) (Starting D NoRecipes)) → StartAsks members v.disk here result
              → CallsInStart members old s.now.bytes result
          go (Ok h) made = moved-through (Ok h) made
          go (Err (starting.NoMemory spent keeper)) made = moved-through (Err (starting.NoMemory spent keeper)) made
          go (Err (starting.NumbersSpent spent keeper)) made =
              moved-through (Err (starting.NumbersSpent spent keeper)) made
          go (Err (starting.DiskFailed spent keeper)) failed = (
            (λ whole. moved-through (Err (starting.DiskFailed spent keeper)) failed),
            (λ breaks. absurd (breaks sound)),
          )
          go (Err (starting.NotSpool raw break keeper)) made = (
            λ whole. made-then members old v.disk raw.disk finds (setup_looks here) looked made,
            λ breaks. absurd (breaks sound),
          )
