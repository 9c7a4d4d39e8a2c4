-- That reading the setup of a spool file comes to what its bytes hold, by the calls of its file, and that a start goes
-- on so behind it.
use Rattle.std.proofs.Common.{◌≡◌, refl, sym, ap, subst, ◌∙◌, inl, inr, ◌/◌, ◌^◌, Bool, true, false, ℕ, ◌++◌, List, [], length}
use Rattle.std.proofs.Common.{Option, Some, None, Ok, Err}
use Rattle.std.specs.Option.{option_and_then, option_map, option_map_or}
use Rattle.std.specs.Prelude.{Result, IfOk, is_some, if◌then◌else◌}
use Rattle.disk_base.specs.Calls.{DiskCall}
use Rattle.disk_base.specs.Story.{Story, bytes_at}
use Rattle.disk_base.specs.Images.{IsImage}
use Rattle.disk_base.specs.Through.{EachImage}
use Rattle.disk_base.specs.declared.disk.Disk as disk
use Rattle.disk_base.specs.declared.disk.DiskAnswer.TheVariants.{Done, Failed}
use Rattle.gate_cell.specs.Cell.{cell_in}
use Rattle.gem_spool.specs.Standing.{file_told, standing_of}
use Rattle.message_flow.specs.declared.step.StepOut.{StepOut}
use Rattle.setup_store.specs.Copies.{cell_look, copy_number, list_place, load_calls, names_list, value_looks}
use Rattle.setup_store.specs.Entries.{Entry, break_of, entries_in}
use Rattle.setup_store.specs.OnDisk.{HasOnlyRead, HasValue, HoldsKept, IsBadValue, Loads}
use Rattle.setup_store.specs.OnDisk.{behind, has_setup}
use Rattle.setup_store.specs.declared.store.Loading.{Loading}
use Rattle.setup_store.specs.declared.store.Loading.TheVariants as loading
use Rattle.spool_file.specs.File.{SpoolFile, StandsFor, file_in}
use Rattle.spool_file.specs.Logs.{written_by}
use Rattle.spool_file.specs.Setup.{area_of, area_size, has_area, named_in, setup_cell}
use Rattle.spool_file.specs.Slot.{slot_place}
use Rattle.spool_file.specs.declared.reading.NotSpool.{NotSpool}
use Rattle.spool_file.specs.declared.recovery.Known.{Known}
use Rattle.spool_slots.specs.Spool.{Rests, SpoolView, in_hand, known_of}
use Rattle.spool_slots.specs.declared.states.Raw.{Raw}
use Rattle.spool_slots.specs.declared.states.Spent.{Spent}
use Rattle.spool_works.specs.DiskCalls.{HasFailedIn, HasMade}
use Rattle.spool_works.specs.Found.{first_in}
use Rattle.spool_works.specs.HandedBack.{IsKept}
use Rattle.spool_works.proofs.Called.{failed-all, failed-before, made-all, made-same}
use Rattle.gem_recipes.specs.declared.no_recipes.NoRecipes.{NoRecipes}
use Rattle.equipment_node.proofs.HandingBack.{kept-still}
use Rattle.message_end.specs.Ends.{IsEmpty}
use Rattle.equipment_tables.specs.declared.plan.EquipmentPlan.{EquipmentPlan}
use Rattle.tool_step.specs.Setup.{list_of, setup_in}
use Rattle.equipment_node.specs.Keeping.{no_keeper}
use Rattle.equipment_node.specs.FoundSetup.{HasFound, HasNotFound}
use Rattle.equipment_node.specs.HandedBack.{UnstartedBack}
use Rattle.equipment_node.specs.Held.{HasMark, Held}
use Rattle.equipment_node.specs.MadeReady.{HasBegun, ready_calls}
use Rattle.equipment_node.specs.StartCalls.{StartAsks, StartMoves, reserve_calls}
use Rattle.equipment_node.specs.StartOver.{IsFresh, KeepsSure, StartsFrom, StartsOver}
use Rattle.equipment_node.specs.StartSetup.{named_break, setup_break, setup_looks, value_break}
use Rattle.equipment_node.specs.declared.equipment.Starting.{Starting}
use Rattle.equipment_node.specs.declared.equipment.Starting.TheVariants as starting
use Rattle.equipment_node.proofs.MadeReady.{begun-before, same-images, same-story}
use Rattle.equipment_node.proofs.Standings.{used-sure}
use Rattle.equipment_node.proofs.StartCalled.{moves-behind}

-- ---- by the clauses of a load

some-looks : (kept : Option (List ℕ)) (calls : List DiskCall) → is_some kept ≡ true
    → option_map_or (λ (bytes : List ℕ). calls) kept [] ≡ calls
some-looks (Some bytes) calls is = refl
some-looks None calls is = absurd (cc)

-- where something is kept it breaks as that does
some-break : (file : SpoolFile) (kept : Option (List ℕ)) (e : NotSpool) → is_some kept ≡ true
    → names_list file.setup.cell.value ≡ false → value_break file.setup.cell ≡ e
    → option_and_then (named_break file) kept ≡ Some e
some-break file None e some bad is = absurd (cc)
some-break file (Some bytes) e some bad is =
    ap
    (λ (good : Bool).
    if good
    then option_map (behind (list_place file.slots (copy_number file.setup.cell.value))) (break_of (entries_in bytes))
    else Some (value_break file.setup.cell)) bad
    ∙ ap (λ (x : NotSpool). Some x) is

named-so : (file : SpoolFile) (bytes : List ℕ) → names_list file.setup.cell.value ≡ true
    → named_break file bytes
    ≡ option_map (behind (list_place file.slots (copy_number file.setup.cell.value))) (break_of (entries_in bytes))
named-so file bytes good =
    ap
    (λ (good : Bool).
    if good
    then option_map (behind (list_place file.slots (copy_number file.setup.cell.value))) (break_of (entries_in bytes))
    else Some (value_break file.setup.cell)) good

module _ {D : Type 0} (members : disk.Ghosts D) (v : SpoolView D)
    (rests : (s : Story) → members.told v.disk ≡ Some s → Rests s (known_of v))
    (sized : (s : Story) → members.told v.disk ≡ Some s → length s.now.bytes ≡ members.size_is v.disk)
  where
    -- in an area something is kept
    area-keeps :
        has_setup members v ≡ true → (s : Story) → members.told v.disk ≡ Some s
        → is_some (file_in s.now.bytes).setup.bytes ≡ true
    area-keeps has s told =
        ap (λ (n : ℕ). is_some (option_map named (area_of n s.now.bytes))) (sym (rests s told).slots_are)
        ∙ ap (λ (n : ℕ). by (has_area v.slots n)) (sized s told) ∙ ap by has
      where
        named : List ℕ → List ℕ
        named = named_in (cell_in s.now.bytes setup_cell).value

        by : Bool → Bool
        by b = is_some (option_map named (if b then Some (bytes_at s.now.bytes (slot_place v.slots) area_size) else None))

    module _ (has : has_setup members v ≡ true) (value : ℕ) (value_is : HasValue members v value) (s : Story)
        (told : members.told v.disk ≡ Some s)
      where
        abbrev file : SpoolFile
        file = file_in s.now.bytes

        looks-are : load_calls v.slots value ≡ setup_looks file
        looks-are =
            ap (λ (n : ℕ). load_calls n value) (rests s told).slots_are
            ∙ ap (λ (n : ℕ). load_calls file.slots n) (value_is s told)
            ∙ sym (some-looks file.setup.bytes (load_calls file.slots file.setup.cell.value) (area-keeps has s told))

        looks-made :
            (new : D) → HasMade members v.disk new (load_calls v.slots value)
            → HasMade members v.disk new (setup_looks file)
        looks-made new made = subst (λ (calls : List DiskCall). HasMade members v.disk new calls) looks-are made

        looks-fail :
            (new : D) → HasFailedIn members v.disk new (load_calls v.slots value)
            → HasFailedIn members v.disk new (setup_looks file)
        looks-fail new failed = subst (λ (calls : List DiskCall). HasFailedIn members v.disk new calls) looks-are failed

        names : (good : Bool) → names_list value ≡ good → names_list file.setup.cell.value ≡ good
        names good is = ap (λ (n : ℕ). names_list n) (sym (value_is s told)) ∙ is

        place-is : list_place v.slots (copy_number value) ≡ list_place file.slots (copy_number file.setup.cell.value)
        place-is =
            ap (λ (n : ℕ). list_place n (copy_number value)) (rests s told).slots_are
            ∙ ap (λ (n : ℕ). list_place file.slots (copy_number n)) (value_is s told)

        breaks-as : (bytes : List ℕ) (found : Option NotSpool) → names_list value ≡ true
            → file.setup.bytes ≡ Some bytes
            → option_map (behind (list_place v.slots (copy_number value))) (break_of (entries_in bytes)) ≡ found
            → setup_break file ≡ found
        breaks-as bytes found good are breaks =
            ap (λ (o : Option (List ℕ)). option_and_then (named_break file) o) are
            ∙ named-so file bytes (names true good)
            ∙ ap (λ (n : ℕ). option_map (behind n) (break_of (entries_in bytes))) (sym place-is)
            ∙ breaks

        bad-value : (w : SpoolView D) (e : NotSpool) → IsBadValue members v w cell_look value e
            → setup_break file ≡ Some e
        bad-value w e is =
            some-break file file.setup.bytes e (area-keeps has s told) (names false is.bad)
            (same-break e (value_break file.setup.cell) (sym (is.at_is s told))
            (ap (λ (n : ℕ). Some (n / 2 ^ 56)) (sym (value_is s told)) ∙ sym is.got))
          where
            same-break : (e f : NotSpool) → f.at ≡ e.at → f.got ≡ e.got → f ≡ e
            same-break e f at got =
                ap (λ (n : ℕ). record { at = n; got = f.got }) at
                ∙ ap (λ (o : Option ℕ). record { at = e.at; got = o }) got

    -- some reads were made, as far as they went
    read-back : (w : SpoolView D) (looks : List DiskCall) → HasOnlyRead members v w looks Done
        → IsKept members v.disk w.disk
    read-back w looks read =
        record { same_disk = read.made.same_disk; count = read.made.calls.cause.same }

    pub setup-read :
        (w : SpoolView D) (bytes : List ℕ) (list : List Entry) → list ≡ list_of bytes
        → Loads members v w (Ok bytes) → HoldsKept members w → HasFound members v w (Some list)
    setup-read w bytes list list_is (has, (value, value_is, (read, good))) holds = record {
      same = read.reads.same;
      told = read.reads.told;
      is = λ s told.
          ap (λ (l : List Entry). Some l) list_is
          ∙ ap (λ (o : Option (List ℕ)). option_map list_of o) (sym (read.are s told));
      sound = λ s told.
          breaks-as has value value_is s told bytes None read.good (read.are s told)
          (ap (λ (o : Option NotSpool). option_map (behind (list_place v.slots (copy_number value))) o) good);
      made = λ s told.
          looks-made has value value_is s told w.disk
          (made-all members v.disk w.disk (load_calls v.slots value) read.reads.made.calls);
      kept = read-back w (load_calls v.slots value) read.reads;
      sure =
          used-sure (members.health v.disk) (members.health w.disk) (length (load_calls v.slots value))
          (written_by (load_calls v.slots value)) read.reads.made.calls.cause;
      holds = holds;
    }

    -- there is none in a file without an area
    pub setup-wants :
        (w : SpoolView D) (why : Loading) → why ≡ loading.NoArea → Loads members v w (Err why) → HoldsKept members w
        → HasFound members v w None
    setup-wants w why why_is loads holds = by (subst (λ (x : Loading). Loads members v w (Err x)) why_is loads)
      where
        by : Loads members v w (Err loading.NoArea) → HasFound members v w None
        by (without, same) = record {
          same = subst (λ (x : SpoolView D). x ≡ in_hand x.disk (known_of v)) (sym same) refl;
          told = ap (λ (x : SpoolView D). members.told x.disk) same;
          is = λ s told. ap (λ (o : Option (List ℕ)). option_map list_of o) (sym (without.1 s told));
          sound = λ s told.
              ap (λ (o : Option (List ℕ)). option_and_then (named_break (file_in s.now.bytes)) o) (without.1 s told);
          made = λ s told.
              subst (λ (calls : List DiskCall). HasMade members v.disk w.disk calls)
              (sym (ap (λ (o : Option (List ℕ)).
              option_map_or (λ (bytes : List ℕ).
              load_calls (file_in s.now.bytes).slots (file_in s.now.bytes).setup.cell.value) o []) (without.1 s told)))
              (made-same members v.disk w.disk (ap (λ (x : SpoolView D). x.disk) same));
          kept =
              subst (λ (x : SpoolView D). IsKept members v.disk x.disk) (sym same) (kept-still members v.disk);
          sure = subst (λ (x : SpoolView D). KeepsSure members v.disk x.disk) (sym same) (λ sure. sure);
          holds = holds;
        }

    -- ---- or why none was found

    images : (s : Story) → members.told v.disk ≡ Some s
        → EachImage (λ image. StandsFor image (file_in s.now.bytes)) s.now
    images s told = same-images members v rests s told s told

    -- all was read, and it breaks
    found-bad :
        (w : SpoolView D) (raw : Raw D) (e : NotSpool) → raw.disk ≡ w.disk → has_setup members v ≡ true → (value : ℕ)
        → HasValue members v value → HasOnlyRead members v w (load_calls v.slots value) Done
        → ((s : Story) → members.told v.disk ≡ Some s → setup_break (file_in s.now.bytes) ≡ Some e)
        → HasNotFound members v (starting.NotSpool raw e no_keeper)
    found-bad w raw e same has value value_is read breaks = record {
      back = subst (λ (d : D). IsKept members v.disk d) (sym same) (read-back w (load_calls v.slots value) read);
      told = ap (λ (d : D). members.told d) same ∙ read.told;
      looks = λ s told. (
        breaks s told,
        looks-made has value value_is s told raw.disk
            (subst (λ (d : D). HasMade members v.disk d (load_calls v.slots value)) (sym same)
            (made-all members v.disk w.disk (load_calls v.slots value) read.made.calls)),
      );
      stands = images;
    }

    -- the disk failed at one of the reads
    found-none :
        (w : SpoolView D) (spent : Spent D) → spent.disk ≡ w.disk → (looks : List DiskCall)
        → HasOnlyRead members v w looks Failed
        → ((s : Story) → members.told v.disk ≡ Some s
        → HasFailedIn members v.disk w.disk (setup_looks (file_in s.now.bytes)))
        → HasNotFound members v (starting.DiskFailed spent no_keeper)
    found-none w spent same looks read failed = record {
      back =
          subst (λ (d : D). UnstartedBack members v.disk (starting.DiskFailed (record { disk = d }) no_keeper))
          (sym same)
          (record { same_disk = read.made.same_disk; rose = read.made.calls.cause.rose });
      told = ap (λ (d : D). members.told d) same ∙ read.told;
      looks = λ s told.
          subst (λ (d : D). HasFailedIn members v.disk d (setup_looks (file_in s.now.bytes))) (sym same)
          (failed s told);
      stands = images;
    }

    -- at the look at the cell, whatever value that has
    cell-fails : (w : SpoolView D) → has_setup members v ≡ true → HasOnlyRead members v w cell_look Failed → (s : Story)
        → members.told v.disk ≡ Some s → HasFailedIn members v.disk w.disk (setup_looks (file_in s.now.bytes))
    cell-fails w has read s told =
        looks-fail has (cell_in s.now.bytes setup_cell).value
        (λ t there. ap (λ (x : Story). (cell_in x.now.bytes setup_cell).value) (same-story s t (sym told ∙ there))) s
        told w.disk
        (failed-before members v.disk w.disk cell_look (value_looks v.slots (cell_in s.now.bytes setup_cell).value)
        (failed-all members v.disk w.disk cell_look read.made.calls))

    module _ (w : SpoolView D) (why : Loading) (loads : Loads members v w (Err why)) where
      loads-so : (one : Loading) → why ≡ one → Loads members v w (Err one)
      loads-so one is = subst (λ (x : Loading). Loads members v w (Err x)) is loads

      -- it breaks
      pub setup-breaks :
          (raw : Raw D) (e : NotSpool) → raw.disk ≡ w.disk → why ≡ loading.NotSetup e
          → HasNotFound members v (starting.NotSpool raw e no_keeper)
      setup-breaks raw e same is = by (loads-so (loading.NotSetup e) is)
        where
          by : Loads members v w (Err (loading.NotSetup e)) → HasNotFound members v (starting.NotSpool raw e no_keeper)
          by (has, (value, value_is, inl bad)) =
              found-bad w raw e same has value value_is bad.reads
              (λ s told. bad-value has value value_is s told w e bad)
          by (has, (value, value_is, inr bad)) =
              found-bad w raw e same has value value_is bad.read.reads
              (λ s told.
              breaks-as has value value_is s told bad.bytes (Some e) bad.read.good (bad.read.are s told) bad.breaks)

      -- the disk failed
      pub setup-fails :
          (spent : Spent D) → spent.disk ≡ w.disk → why ≡ loading.Failed
          → HasNotFound members v (starting.DiskFailed spent no_keeper)
      setup-fails spent same is = by (loads-so loading.Failed is)
        where
          by : Loads members v w (Err loading.Failed) → HasNotFound members v (starting.DiskFailed spent no_keeper)
          by (inl (has, read)) = found-none w spent same cell_look read (cell-fails w has read)
          by (inr (has, (value, value_is, read))) =
              found-none w spent same (load_calls v.slots value) read
              (λ s told.
              looks-fail has value value_is s told w.disk
              (failed-all members v.disk w.disk (load_calls v.slots value) read.made.calls))

      -- memory was wanting
      pub setup-lacks :
          (spent : Spent D) → spent.disk ≡ w.disk → why ≡ loading.NoMemory
          → HasNotFound members v (starting.NoMemory spent no_keeper)
      setup-lacks spent same is = by (loads-so loading.NoMemory is)
        where
          by : Loads members v w (Err loading.NoMemory) → HasNotFound members v (starting.NoMemory spent no_keeper)
          by (has, (value, value_is, (good, read))) = record {
            back = subst (λ (d : D). IsKept members v.disk d) (sym same) (read-back w cell_look read);
            told = ap (λ (d : D). members.told d) same ∙ read.told;
            looks = λ s told.
                subst (λ (calls : List DiskCall). HasBegun members v.disk spent.disk calls)
                (looks-are has value value_is s told)
                (record {
                  first = cell_look;
                  rest = value_looks v.slots value;
                  are = refl;
                  made =
                      subst (λ (d : D). HasMade members v.disk d cell_look) (sym same)
                      (made-all members v.disk w.disk cell_look read.made.calls);
                });
            stands = images;
          }

-- ---- a start behind it

module _ {D : Type 0} (members : disk.Ghosts D) (plan : EquipmentPlan) (v : SpoolView D)
    (fresh : IsFresh members v) where
  abbrev here : SpoolFile
  here = (standing_of members v).file

  file-is : here ≡ file_in fresh.told.0.now.bytes
  file-is = ap (λ (tells : Option Story). file_told tells (known_of v)) fresh.told.1

  module _ (w : SpoolView D) (setup : Option (List Entry)) (found : HasFound members v w setup) where
    same-file : (standing_of members w).file ≡ here
    same-file =
        ap (λ (tells : Option Story). file_told tells (known_of w)) found.told
        ∙ ap (λ (k : Known). file_told (members.told v.disk) k) (ap (λ (x : SpoolView D). known_of x) found.same)

    pub found-fresh : IsFresh members w
    found-fresh = record {
      told = (fresh.told.0, found.told ∙ fresh.told.1);
      first =
          ap (λ (x : SpoolView D). x.first) found.same ∙ fresh.first
          ∙ ap (λ (f : SpoolFile). first_in f) (sym same-file);
    }

    pub found-is : setup ≡ setup_in (standing_of members w).file
    found-is =
        found.is fresh.told.0 fresh.told.1 ∙ ap (λ (f : SpoolFile). setup_in f) (sym file-is ∙ sym same-file)

    found-sound : setup_break here ≡ None
    found-sound = ap (λ (f : SpoolFile). setup_break f) file-is ∙ found.sound fresh.told.0 fresh.told.1

    found-made : HasMade members v.disk w.disk (setup_looks here)
    found-made =
        subst (λ (f : SpoolFile). HasMade members v.disk w.disk (setup_looks f)) (sym file-is)
        (found.made fresh.told.0 fresh.told.1)

    pub found-over :
        (out : StepOut) (result : Result (Held D NoRecipes) (Starting D NoRecipes))
        → StartsOver members plan (standing_of members w).file out result
        → StartsFrom members plan v.disk here out result
    found-over out result over =
        go result (subst (λ (f : SpoolFile). StartsOver members plan f out result) same-file over)
      where
        go : (result : Result (Held D NoRecipes) (Starting D NoRecipes)) → StartsOver members plan here out result
            → StartsFrom members plan v.disk here out result
        go (Ok h) is = (found-sound, is)
        go (Err (starting.NumbersSpent spent keeper)) is = (found-sound, is)
        go (Err (starting.DiskFailed spent keeper)) is = is
        go (Err (starting.NoMemory spent keeper)) is = is
        go (Err (starting.NotSpool raw break keeper)) is = absurd is

    pub found-asks :
        (result : Result (Held D NoRecipes) (Starting D NoRecipes))
        → StartMoves members w.disk (ready_calls (standing_of members w).file)
        (reserve_calls (standing_of members w).file) result
        → StartAsks members v.disk here result
    found-asks result moves =
        go result
        (moves-behind members v.disk w.disk (setup_looks here) (ready_calls here) (reserve_calls here) found-made result
        (subst (λ (f : SpoolFile). StartMoves members w.disk (ready_calls f) (reserve_calls f) result) same-file moves))
      where
        go : (result : Result (Held D NoRecipes) (Starting D NoRecipes))
            → StartMoves members v.disk (setup_looks here ++ ready_calls here) (reserve_calls here) result
            → StartAsks members v.disk here result
        go (Ok h) is = is
        go (Err (starting.NumbersSpent spent keeper)) is = is
        go (Err (starting.DiskFailed spent keeper)) is = is
        go (Err (starting.NoMemory spent keeper)) is = is
        go (Err (starting.NotSpool raw break keeper)) is = absurd is

  module _ (out : StepOut) (empty : IsEmpty out) where
    left-so : (t : Story) → members.told v.disk ≡ Some t
        → EachImage (λ image. StandsFor image (file_in fresh.told.0.now.bytes)) fresh.told.0.now
        → EachImage (HasMark here) t.now
    left-so t told stands image image_is =
        inl
        (subst (λ (f : SpoolFile). StandsFor image f) (sym file-is)
        (stands image
        (subst (λ (x : Story). IsImage x.now image) (sym (same-story fresh.told.0 t (sym fresh.told.1 ∙ told)))
        image_is)))

    pub unfound-over :
        (why : Starting D NoRecipes) → HasNotFound members v why → StartsFrom members plan v.disk here out (Err why)
    unfound-over (starting.NoMemory spent keeper) is =
        (empty.line, λ t told. left-so t (sym is.told ∙ told) (is.stands fresh.told.0 fresh.told.1))
    unfound-over (starting.DiskFailed spent keeper) is =
        (empty, λ t told. left-so t (sym is.told ∙ told) (is.stands fresh.told.0 fresh.told.1))
    unfound-over (starting.NotSpool raw break keeper) is = (
      empty,
      ap (λ (f : SpoolFile). setup_break f) file-is ∙ (is.looks fresh.told.0 fresh.told.1).0,
      is.told,
    )
    unfound-over (starting.NumbersSpent spent keeper) is = absurd (is.looks fresh.told.0 fresh.told.1)

  pub unfound-asks : (why : Starting D NoRecipes) → HasNotFound members v why → StartAsks members v.disk here (Err why)
  unfound-asks (starting.NoMemory spent keeper) is =
      begun-before members v.disk spent.disk (setup_looks here ++ ready_calls here) (reserve_calls here)
      (begun-before members v.disk spent.disk (setup_looks here) (ready_calls here)
      (subst (λ (f : SpoolFile). HasBegun members v.disk spent.disk (setup_looks f)) (sym file-is)
      (is.looks fresh.told.0 fresh.told.1)))
  unfound-asks (starting.DiskFailed spent keeper) is =
      failed-before members v.disk spent.disk (setup_looks here ++ ready_calls here) (reserve_calls here)
      (failed-before members v.disk spent.disk (setup_looks here) (ready_calls here)
      (subst (λ (f : SpoolFile). HasFailedIn members v.disk spent.disk (setup_looks f)) (sym file-is)
      (is.looks fresh.told.0 fresh.told.1)))
  unfound-asks (starting.NotSpool raw break keeper) is =
      subst (λ (f : SpoolFile). HasMade members v.disk raw.disk (setup_looks f)) (sym file-is)
      (is.looks fresh.told.0 fresh.told.1).1
  unfound-asks (starting.NumbersSpent spent keeper) is = absurd (is.looks fresh.told.0 fresh.told.1)

-- a disk of which no call is to fail stays such in what comes behind
pub found-sure :
    {D : Type 0} (members : disk.Ghosts D) (v w : SpoolView D) (setup : Option (List Entry))
    → HasFound members v w setup → (result : Result (Held D NoRecipes) (Starting D NoRecipes))
    → IfOk result (λ (h : Held D NoRecipes). KeepsSure members w.disk h.spool.spool.disk)
    → IfOk result (λ (h : Held D NoRecipes). KeepsSure members v.disk h.spool.spool.disk)
found-sure members v w setup found (Err why) keeps = tt
found-sure members v w setup found (Ok h) keeps = λ sure. keeps (found.sure sure)
