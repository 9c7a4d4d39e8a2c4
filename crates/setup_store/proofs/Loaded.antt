-- What was read of a setup: looks one behind the other, and the bytes that a value of the cell names.
use Rattle.std.proofs.Common.{◌≡◌, ◌+◌, ◌*◌, ◌==◌, ℕ, Bool, true, false, if◌then◌else◌, List, []}
use Rattle.std.proofs.Common.{◌∷◌, ◌++◌, length, take, drop, Option, Some, Result, Ok, Err, ap, subst, sym, refl}
use Rattle.std.proofs.Common.{◌∙◌, arith, inl, inr}
use Rattle.std.proofs.lemmas.Bool.Decides.{nat_tests}
use Rattle.std.specs.Option.{option_map}
use Rattle.disk_base.specs.Calls.{DiskCall, read_call}
use Rattle.disk_base.specs.Story.{Story}
use Rattle.disk_base.specs.declared.disk.Disk as disk
use Rattle.disk_base.specs.declared.disk.DiskAnswer.{DiskAnswer}
use Rattle.disk_base.specs.declared.disk.DiskAnswer.TheVariants.{Done, Failed}
use Rattle.gate_cell.specs.declared.cell.CellAnswer.TheVariants.{Value}
use Rattle.spool_file.specs.Setup.{area_in, copy_size, has_area, named_in, setup_cell, setup_in}
use Rattle.spool_slots.specs.Changes.{HasSeen}
use Rattle.spool_slots.specs.Setup.{ReadsArea, ReadsCell}
use Rattle.spool_slots.specs.Spool.{Rests, SpoolView, in_hand, known_of}
use Rattle.spool_slots.proofs.Carrying.{carries_none, made_then}
use Rattle.setup_store.specs.Copies.{cell_look, copy_begin, copy_number, gate_look, kept_length, list_look, list_place}
use Rattle.setup_store.specs.Copies.{names_list, value_looks}
use Rattle.setup_store.specs.Entries.{break_of, entries_in, has_room}
use Rattle.setup_store.specs.OnDisk.{HasOnlyRead, HasReadList, HasValue, Loads, LoadsFrom}
use Rattle.setup_store.specs.OnDisk.{LoadsNamed, NamesList, ReadsList, behind, has_setup, looks_behind}
use Rattle.setup_store.specs.declared.store.Loading.{Loading}
use Rattle.setup_store.specs.declared.store.Loading.TheVariants as loading
use Rattle.setup_store.proofs.Named.{area, area_is, good_is}

-- the looks behind the cell, by whether its value is good
pub good_looks : (slots value : ℕ) → names_list value ≡ true → value_looks slots value ≡ list_look slots value
good_looks slots value is = ap (λ (b : Bool). if b then list_look slots value else gate_look) is

pub bad_looks : (slots value : ℕ) → names_list value ≡ false → value_looks slots value ≡ gate_look
bad_looks slots value is = ap (λ (b : Bool). if b then list_look slots value else gate_look) is

module _ {D : Type 0} (members : disk.Ghosts D) (v : SpoolView D) where
  pub seen_read : (w : SpoolView D) (at n : ℕ) (answer : DiskAnswer) → HasSeen members v w at n answer →
      HasOnlyRead members v w (read_call at n Done ∷ []) answer
  seen_read w at n answer seen = record { same = seen.same; told = seen.told; made = seen.made }

  pub read_none : HasOnlyRead members v v [] Done
  read_none = record { same = refl; told = refl; made = (carries_none members v.disk).made }

  pub read_then : (u w : SpoolView D) (xs ys : List DiskCall) (answer : DiskAnswer) → HasOnlyRead members v u xs Done →
      HasOnlyRead members u w ys answer → HasOnlyRead members v w (xs ++ ys) answer
  read_then u w xs ys answer one two = record {
    same = two.same ∙ ap (λ (x : SpoolView D). in_hand w.disk (known_of x)) one.same;
    told = two.told ∙ one.told;
    made = made_then members v.disk u.disk w.disk xs ys answer one.made two.made;
  }

  -- what is known of a spool is known behind a look
  module _ (w : SpoolView D) (at n : ℕ) (answer : DiskAnswer) (seen : HasSeen members v w at n answer) where
    pub seen_has : has_setup members v ≡ true → has_setup members w ≡ true
    seen_has has =
        ap (λ (x : SpoolView D). has_area x.slots (members.size_is w.disk)) seen.same
        ∙ ap (λ (size : ℕ). has_area v.slots size) seen.made.size
        ∙ has

    pub seen_rests : ((s : Story) → members.told v.disk ≡ Some s → Rests s (known_of v)) →
        (s : Story) → members.told w.disk ≡ Some s → Rests s (known_of w)
    seen_rests rests s told =
        subst (λ (x : SpoolView D). Rests s (known_of x)) (sym seen.same) (rests s (sym seen.told ∙ told))

  pub seen_value : (w : SpoolView D) (value : ℕ) → ReadsCell members v w (Value value) → HasValue members w value
  seen_value w value looks s told = looks.1 s (sym looks.0.told ∙ told)

  -- ---- a value

  module _ (w : SpoolView D) (value : ℕ) where
    -- that is bad
    pub bad_read : (answer : DiskAnswer) → names_list value ≡ false → HasSeen members v w (setup_cell + 16) 1 answer →
        HasOnlyRead members v w (looks_behind [] v.slots value) answer
    bad_read answer bad seen =
        subst (λ (looks : List DiskCall). HasOnlyRead members v w looks answer) (sym (bad_looks v.slots value bad))
        (seen_read w (setup_cell + 16) 1 answer seen)

    -- that is good, and names some bytes
    some_look : (n : ℕ) → n ≡ kept_length value → (n == 0) ≡ false → names_list value ≡ true →
        read_call (list_place v.slots (copy_number value)) n Done ∷ [] ≡ value_looks v.slots value
    some_look n is some good =
        ap (λ (m : ℕ). read_call (list_place v.slots (copy_number value)) m Done ∷ []) is
        ∙ sym (ap (λ (b : Bool). if b then []
        else read_call (list_place v.slots (copy_number value)) (kept_length value) Done ∷ [])
        (ap (λ (m : ℕ). m == 0) (sym is) ∙ some))
        ∙ sym (good_looks v.slots value good)

    pub some_read : (n : ℕ) (answer : DiskAnswer) → n ≡ kept_length value → (n == 0) ≡ false →
        names_list value ≡ true → HasSeen members v w (list_place v.slots (copy_number value)) n answer →
        HasOnlyRead members v w (looks_behind [] v.slots value) answer
    some_read n answer is some good seen =
        subst (λ (looks : List DiskCall). HasOnlyRead members v w looks answer) (some_look n is some good)
        (seen_read w (list_place v.slots (copy_number value)) n answer seen)

    module _ (rests : (s : Story) → members.told v.disk ≡ Some s → Rests s (known_of v))
        (sized : (s : Story) → members.told v.disk ≡ Some s → length s.now.bytes ≡ members.size_is v.disk)
        (has : has_setup members v ≡ true) (value_is : HasValue members v value) (good : names_list value ≡ true) where
      module _ (s : Story) (told : members.told v.disk ≡ Some s) where
        has_told : has_area v.slots (length s.now.bytes) ≡ true
        has_told = ap (λ (n : ℕ). has_area v.slots n) (sized s told) ∙ has

        here : area_in s.now.bytes ≡ Some (area s (known_of v) (rests s told) has_told)
        here = area_is s (known_of v) (rests s told) has_told

        named : (setup_in s.now.bytes).bytes ≡ Some (named_in value (area s (known_of v) (rests s told) has_told))
        named =
            ap (λ (n : ℕ). option_map (named_in n) (area_in s.now.bytes)) (sym (value_is s told))
            ∙ ap (λ (told : Option (List ℕ)). option_map (named_in value) told) here

      read_room : (bytes : List ℕ) → length bytes ≡ kept_length value → has_room bytes ≡ true
      read_room bytes long = let short = (good_is value good).short in grind (arith, nat_tests, long, short)

      -- nothing was to be read
      pub none_read : (bytes : List ℕ) → length bytes ≡ 0 → kept_length value ≡ 0 → w ≡ v →
          HasReadList members v w [] value bytes
      none_read bytes none empty same = record {
        good = good;
        long = none ∙ sym empty;
        room = read_room bytes (none ∙ sym empty);
        are = λ s told.
            named s told
            ∙ ap (λ (n : ℕ). Some (take n (drop (copy_size * copy_number value)
            (area s (known_of v) (rests s told) (has_told s told))))) empty
            ∙ ap (λ (xs : List ℕ). Some xs) (sym (empty_is bytes none));
        reads = subst (λ (x : SpoolView D). HasOnlyRead members v x (looks_behind [] v.slots value) Done) (sym same)
            (subst (λ (looks : List DiskCall). HasOnlyRead members v v looks Done)
            (sym (good_looks v.slots value good
            ∙ ap (λ (n : ℕ). if n == 0 then []
            else read_call (list_place v.slots (copy_number value)) n Done ∷ []) empty)) read_none);
      } where
        empty_is : (xs : List ℕ) → length xs ≡ 0 → xs ≡ []
        empty_is [] is = refl
        empty_is (x ∷ xs) is = absurd (omega (arith, is))

      -- it was read
      pub list_read : (bytes : List ℕ) → length bytes ≡ kept_length value → (length bytes == 0) ≡ false →
          ReadsArea members v w (copy_begin (copy_number value)) bytes Done → HasReadList members v w [] value bytes
      list_read bytes long some reads = record {
        good = good;
        long = long;
        room = read_room bytes long;
        are = λ s told.
            named s told
            ∙ ap (λ (n : ℕ). Some (take n (drop (copy_size * copy_number value)
            (area s (known_of v) (rests s told) (has_told s told))))) (sym long)
            ∙ ap (λ (xs : List ℕ). Some xs) (sym (reads.1 s told (area s (known_of v) (rests s told) (has_told s told))
            (here s told)));
        reads = some_read (length bytes) Done long some good reads.0;
      }

  -- ---- behind the look at the cell

  module _ (u w : SpoolView D) (value : ℕ) (looks : ReadsCell members v u (Value value)) where
    behind_cell : (answer : DiskAnswer) → HasOnlyRead members u w (looks_behind [] u.slots value) answer →
        HasOnlyRead members v w (looks_behind cell_look v.slots value) answer
    behind_cell answer reads =
        read_then u w cell_look (value_looks v.slots value) answer (seen_read u setup_cell 17 Done looks.0)
        (subst (λ (n : ℕ). HasOnlyRead members u w (value_looks n value) answer)
        (ap (λ (x : SpoolView D). x.slots) looks.0.same) reads)

    list_behind : (bytes : List ℕ) → HasReadList members u w [] value bytes →
        HasReadList members v w cell_look value bytes
    list_behind bytes read = record {
      good = read.good;
      long = read.long;
      room = read.room;
      are = λ s told. read.are s (looks.0.told ∙ told);
      reads = behind_cell Done read.reads;
    }

    pub loads_behind : (said : Result (List ℕ) Loading) → LoadsFrom members u w [] value said →
        LoadsFrom members v w cell_look value said
    loads_behind (Ok bytes) is = (list_behind bytes is.0, is.1)
    loads_behind (Err loading.NoArea) is = is
    loads_behind (Err (loading.NotSetup e)) (inl is) = inl (record {
      bad = is.bad;
      got = is.got;
      at = is.at;
      at_is = λ s told. is.at_is s (looks.0.told ∙ told);
      reads = behind_cell Done is.reads;
    })
    loads_behind (Err (loading.NotSetup e)) (inr is) = inr (record {
      bytes = is.bytes;
      read = list_behind is.bytes is.read;
      breaks =
          ap (λ (n : ℕ). option_map (behind (list_place n (copy_number value))) (break_of (entries_in is.bytes)))
          (sym (ap (λ (x : SpoolView D). x.slots) looks.0.same))
          ∙ is.breaks;
    })
    loads_behind (Err loading.Failed) is = behind_cell Failed is
    loads_behind (Err loading.NoMemory) is =
        (is.0, read_then u w cell_look [] Done (seen_read u setup_cell 17 Done looks.0) is.1)

  -- as the code has it
  pub loads_then : (u w : SpoolView D) (value : ℕ) (said : Result (List ℕ) Loading) → has_setup members v ≡ true →
      ReadsCell members v u (Value value) → LoadsFrom members u w [] value said → Loads members v w said
  loads_then u w value (Ok bytes) has looks is = (has, (value, looks.1, loads_behind u w value looks (Ok bytes) is))
  loads_then u w value (Err loading.NoArea) has looks is = absurd is
  loads_then u w value (Err (loading.NotSetup e)) has looks is =
      (has, (value, looks.1, loads_behind u w value looks (Err (loading.NotSetup e)) is))
  loads_then u w value (Err loading.Failed) has looks is =
      inr (has, (value, looks.1, loads_behind u w value looks (Err loading.Failed) is))
  loads_then u w value (Err loading.NoMemory) has looks is =
      (has, (value, looks.1, loads_behind u w value looks (Err loading.NoMemory) is))

  -- what was loaded is no longer than its copy
  pub load_names : (w : SpoolView D) (bytes : List ℕ) → LoadsNamed members v w (Ok bytes) → NamesList members w
  load_names w bytes is s there =
      let read = is.1.2.0 in
      ap names_list (sym (is.1.1 s (sym read.reads.told ∙ there))) ∙ read.good

  -- the list wasn't read
  pub unread_list : (w : SpoolView D) (value : ℕ) (why : Loading) → ReadsList members v w value (Err why) →
      LoadsFrom members v w [] value (Err why)
  unread_list w value loading.NoArea is = is
  unread_list w value (loading.NotSetup e) is = absurd is
  unread_list w value loading.Failed is = is
  unread_list w value loading.NoMemory is = is
