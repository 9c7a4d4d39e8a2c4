-- A keep whole: the list is written, and then the cell names it. What each loss on the way leaves.
use Rattle.std.proofs.Common.{◌≡◌, ◌+◌, ◌<◌, ◌≤◌, ℕ, true, List, [], ◌∷◌, ◌++◌, length, Some}
use Rattle.std.proofs.Common.{None, Option, Result, Ok, Err, ap, subst, sym, refl, ◌∙◌, arith, inl, inr, ⊎_elim}
use Rattle.std.proofs.lemmas.Bool.Decides.{nat_tests}
use Rattle.disk_base.specs.Calls.{DiskCall}
use Rattle.disk_base.specs.Cut.{image_of}
use Rattle.disk_base.specs.Faults.{DiskHealth, IsUsed}
use Rattle.disk_base.specs.Story.{Story}
use Rattle.disk_base.specs.declared.disk.Disk as disk
use Rattle.disk_base.specs.declared.disk.DiskAnswer.{DiskAnswer}
use Rattle.disk_base.specs.declared.disk.DiskAnswer.TheVariants.{Done, Failed}
use Rattle.disk_base.proofs.Listings.{listed_behind}
use Rattle.disk_base.proofs.Moments.{through_both, through_more}
use Rattle.disk_base.proofs.Told.{told_already}
use Rattle.disk_base.proofs.Stretches.{cause_behind, fault_wider, lists_on, planned_before, planned_behind}
use Rattle.disk_base.proofs.Stretches.{planned_or_left_out, same_then}
use Rattle.gate_cell.specs.Cell.{Cell, cell_in}
use Rattle.gate_cell.specs.declared.cell.CellAnswer.TheVariants.{Value}
use Rattle.spool_file.specs.File.{Ends, SpoolFile, StandsFor, file_in}
use Rattle.spool_file.specs.Logs.{MakesAll, written_by}
use Rattle.spool_file.specs.Setup.{copy_size, has_area, setup_cell}
use Rattle.spool_file.proofs.Making.{makes_then}
use Rattle.spool_slots.specs.Changes.{HasMade, HasMoved, HoldsThrough, IsSame, IsSameOr, Moves}
use Rattle.spool_slots.specs.Files.{set_in}
use Rattle.spool_slots.specs.Losses.{file_left, gate_counts, names_spare}
use Rattle.spool_slots.specs.Setup.{ReadsCell, SetsCell}
use Rattle.spool_slots.specs.Spool.{Rests, SpoolView, in_hand, known_of}
use Rattle.spool_slots.specs.declared.states.Spent.{Spent}
use Rattle.spool_slots.proofs.Carrying.{made_before}
use Rattle.spool_slots.proofs.Lost.{planned_wider, sure_behind}
use Rattle.spool_slots.proofs.Settling.{makes_moved}
use Rattle.setup_store.specs.Copies.{copy_begin, keep_calls, kept_in, list_calls, many_bytes}
use Rattle.setup_store.specs.Copies.{many_calls, many_early, names_list, spare_number, value_calls, value_with}
use Rattle.setup_store.specs.OnDisk.{HasKept, HasLostKeep, HasValue, Keeps, KeepsList, NamesList, WritesAndNames}
use Rattle.setup_store.specs.OnDisk.{HoldsKept, WritesCopy, has_setup}
use Rattle.setup_store.specs.declared.store.Keeping.TheVariants as keeping
use Rattle.setup_store.specs.Entries.{has_room}
use Rattle.setup_store.proofs.Named.{kept_there, names_with}
use Rattle.setup_store.proofs.Copied.{HasCopied, HasWrittenList, IsCopied, copy_done, copy_failed, set_is, unread}

-- ---- how many

pub early_count : (slots value : ℕ) (bytes : List ℕ) → length (list_calls slots value bytes) + 3 ≡ many_early bytes
early_count slots value [] = refl
early_count slots value (byte ∷ more) = refl

pub early_bytes : (slots value : ℕ) (bytes : List ℕ) → written_by (list_calls slots value bytes) ≡ length bytes
early_bytes slots value [] = refl
early_bytes slots value (byte ∷ more) = omega arith

module _ {D : Type 0} (members : disk.Ghosts D) (v : SpoolView D) (bytes : List ℕ) where
  abbrev health : DiskHealth
  health = members.health v.disk

  -- ---- the list wasn't written

  -- some first calls were made, of which one failed, and the file is as it was
  module _ (after : D) (row : List DiskCall)
      (images : HoldsThrough (members.told v.disk) (members.told after) IsSame)
      (made : HasMade members v.disk after row Failed) (few : length row ≤ many_early bytes)
      (short : written_by row ≤ many_bytes bytes)
      (first : (s : Story) → members.told v.disk ≡ Some s → (rest : List DiskCall)
      × (keep_calls v.slots (cell_in s.now.bytes setup_cell) bytes ≡ row ++ rest)) where
    pub early_kept : HasKept members v after bytes Failed
    early_kept = record {
      images = λ s told.
          let goes = images s told in (
            goes.0,
            goes.1,
            through_more s goes.0 (IsSame s.now.bytes) (IsSameOr (kept_in bytes) s.now.bytes) (λ image is. inl is) goes.2,
          );
      size = made.size;
      calls = λ s told.
          let more = first s told in
          subst (λ (calls : List DiskCall). MakesAll health (members.health after) (members.calls v.disk)
          (members.calls after) calls Failed) (sym more.1) (made_before members v.disk after row more.0 made).calls;
      listed = made.listed;
      cause = fault_wider health (members.health after) (length row) (many_calls bytes) (health.room < written_by row)
          (health.room < many_bytes bytes) (omega (arith, few)) (λ less. omega (arith, less, short)) made.calls.cause;
      same_disk = made.same_disk;
    }

    pub early_lost : HasLostKeep members v after bytes
    early_lost = record {
      early = λ planned. images;
      late = λ sure unplanned s t told told' choice. absurd (⊎_elim
          (λ planned. unplanned (planned_wider health (length row) (many_early bytes) few planned))
          (λ out. sure.listed made.calls.cause.made (written_by row)
          (let less = made.calls.cause.few in omega (arith, less, few)) short out)
          (planned_or_left_out health (members.health after) (length row) (written_by row) sure.going.on
          made.calls.cause));
    }

  -- ---- it was, and the cell was to name it

  module _ (rests : (s : Story) → members.told v.disk ≡ Some s → Rests s (known_of v)) (value : ℕ)
      (value_is : HasValue members v value) (mid after : D) (copied : HasCopied members v rests mid value bytes) where
    abbrev new : ℕ
    new = value_with value bytes

    abbrev row : List DiskCall
    row = list_calls v.slots value bytes

    used : IsUsed health (members.health mid) (length row) (written_by row)
    used = copied.written.made.calls.cause

    count : length row + 3 ≡ many_early bytes
    count = early_count v.slots value bytes

    wrote : written_by row ≡ length bytes
    wrote = early_bytes v.slots value bytes

    module _ (s u : Story) (told : members.told v.disk ≡ Some s) (told_u : members.told mid ≡ Some u) where
      abbrev here : IsCopied value bytes s u
      here = copied.copied s u told told_u

      pub cell_same : cell_in u.now.bytes setup_cell ≡ cell_in s.now.bytes setup_cell
      cell_same = ap (λ (f : SpoolFile). f.setup.cell) here.same

      pub kept_is : set_in new u.now.bytes ≡ kept_in bytes s.now.bytes
      kept_is = set_is value bytes s u here (value_is s told)

      calls_are : row ++ value_calls setup_cell (cell_in u.now.bytes setup_cell) new
          ≡ keep_calls v.slots (cell_in s.now.bytes setup_cell) bytes
      calls_are =
          ap (λ (c : Cell). row ++ value_calls setup_cell c new) cell_same
          ∙ ap (λ (n : ℕ). list_calls v.slots n bytes
          ++ value_calls setup_cell (cell_in s.now.bytes setup_cell) (value_with n bytes)) (value_is s told)

    -- both stretches in a row
    then_images : (P : List ℕ → List ℕ → Type 0) (Q : List ℕ → List ℕ → Type 0) →
        HoldsThrough (members.told mid) (members.told after) P →
        ((s u : Story) → members.told v.disk ≡ Some s → members.told mid ≡ Some u → (image : List ℕ) →
        P u.now.bytes image → Q s.now.bytes image) →
        ((s : Story) (image : List ℕ) → IsSame s.now.bytes image → Q s.now.bytes image) →
        HoldsThrough (members.told v.disk) (members.told after) Q
    then_images P Q second later same s told =
        let one = copied.written.images s told in
        let two = second one.0 one.1 in (
          two.0,
          two.1,
          through_both s one.0 two.0 (Q s.now.bytes)
              (through_more s one.0 (IsSame s.now.bytes) (Q s.now.bytes) (same s) one.2)
              (through_more one.0 two.0 (P one.0.now.bytes) (Q s.now.bytes) (later s one.0 told one.1) two.2),
        )

    pub late_kept : (answer : DiskAnswer) → HasMoved members mid after setup_cell new (set_in new) answer →
        HasKept members v after bytes answer
    late_kept answer moved = record {
      images = then_images (IsSameOr (set_in new)) (IsSameOr (kept_in bytes)) moved.images
          (λ s u told told_u image. ⊎_elim
          (λ same. inl (subst (λ (f : SpoolFile). StandsFor image f) (here s u told told_u).same same))
          (λ set. inr (subst (λ (f : SpoolFile). StandsFor image f) (kept_is s u told told_u) set)))
          (λ s image same. inl same);
      size = moved.size ∙ copied.written.made.size;
      calls = λ s told.
          let one = copied.written.images s told in
          subst (λ (calls : List DiskCall). MakesAll health (members.health after) (members.calls v.disk)
          (members.calls after) calls answer) (calls_are s one.0 told one.1)
          (makes_then health (members.health mid) (members.health after) (members.calls v.disk) (members.calls mid)
          (members.calls after) row (value_calls setup_cell (cell_in one.0.now.bytes setup_cell) new) answer
          copied.written.made.calls
          (makes_moved members mid after setup_cell new (set_in new) answer moved one.0 one.1));
      listed = λ going. listed_behind (copied.written.made.listed going)
          (moved.listed (lists_on health (members.health mid) (length row) (written_by row) used going));
      cause = cause_behind health (members.health mid) (length row) (written_by row) used (members.health after) 5 9
          (many_calls bytes) (many_bytes bytes) ((members.health mid).room < 9) (health.room < many_bytes bytes) answer
          (omega (arith, count)) (omega (arith, wrote))
          (λ less. let left = used.room_left in omega (arith, less, left, wrote)) moved.cause;
      same_disk = same_then copied.written.made.same_disk moved.same_disk;
    }

    pub late_lost : Moves members mid after setup_cell new (set_in new) Failed → HasLostKeep members v after bytes
    late_lost moves = record {
      early = λ planned. then_images IsSame IsSame
          (moves.1.early (planned_behind health (members.health mid) (length row) (written_by row) used 3
          (many_early bytes) count planned))
          (λ s u told told_u image same. subst (λ (f : SpoolFile). StandsFor image f) (here s u told told_u).same same)
          (λ s image same. same);
      late = λ sure unplanned s t told told' choice.
          let one = copied.written.images s told in
          let left = moves.1.late
          (sure_behind health (members.health mid) (members.health after) (length row) (written_by row) used 5 9
          (many_calls bytes) (many_bytes bytes) (omega (arith, count)) (omega (arith, wrote)) sure)
          (λ planned. unplanned (planned_before health (members.health mid) (length row) (written_by row) used 3
          (many_early bytes) (omega (arith, count)) planned)) one.0 t one.1 told' choice in
          subst (λ (c : Cell). StandsFor (image_of choice t)
          (file_left (gate_counts choice (names_spare c)) (kept_in bytes s.now.bytes) (file_in s.now.bytes)))
          (cell_same s one.0 told one.1)
          (subst (λ (f : SpoolFile). StandsFor (image_of choice t)
          (file_left (gate_counts choice (names_spare (cell_in one.0.now.bytes setup_cell))) (kept_in bytes s.now.bytes)
          f)) (here s one.0 told one.1).same
          (subst (λ (f : SpoolFile). StandsFor (image_of choice t)
          (file_left (gate_counts choice (names_spare (cell_in one.0.now.bytes setup_cell))) f (file_in one.0.now.bytes)))
          (kept_is s one.0 told one.1) left));
    }

    pub late_ends : Moves members mid after setup_cell new (set_in new) Done → (s t : Story) →
        members.told v.disk ≡ Some s → members.told after ≡ Some t → Ends t (kept_in bytes s.now.bytes)
    late_ends moves s t told told' =
        let one = copied.written.images s told in
        subst (λ (f : SpoolFile). Ends t f) (kept_is s one.0 told one.1) (moves.1 one.0 t one.1 told')

-- ---- all of it

module _ {D : Type 0} (members : disk.Ghosts D) (v : SpoolView D) (bytes : List ℕ)
    (rests : (s : Story) → members.told v.disk ≡ Some s → Rests s (known_of v))
    (sized : (s : Story) → members.told v.disk ≡ Some s → length s.now.bytes ≡ members.size_is v.disk)
    (has : has_setup members v ≡ true) (names : NamesList members v) (short : length bytes ≤ copy_size)
    (room : has_room bytes ≡ true) where
  pub keep_done : (w : SpoolView D) → KeepsList members v bytes (Ok w) → Keeps members v bytes (Ok w)
  keep_done w is =
      let writes = is.writes in
      let copy = copy_done members v rests sized has names is.seen is.value is.looks writes.0 bytes short writes.1 in
      let sets = writes.2 in (
        has,
        room,
        late_kept members v bytes rests is.value is.looks.1 writes.0.disk w.disk copy.0 Done sets.0.0,
        sets.1 ∙ ap (λ (u : SpoolView D). in_hand w.disk (known_of u)) copy.1,
        late_ends members v bytes rests is.value is.looks.1 writes.0.disk w.disk copy.0 sets.0,
      )

  -- what is kept then is no longer than its copy
  pub keep_names : (w : SpoolView D) → Keeps members v bytes (Ok w) → NamesList members w
  keep_names w keeps t there =
      let told = told_already (members.told v.disk) (members.told w.disk) t keeps.2.same_disk.2 there in
      ap (λ (f : SpoolFile). names_list f.setup.cell.value) (sym (keeps.4 told.0 t told.1 there).stands.is)
      ∙ names_with (cell_in told.0.now.bytes setup_cell).value bytes short

  -- the list wasn't written, by a value of the cell or without
  unwritten : (spent : Spent D) (value : ℕ) →
      ((s : Story) → members.told v.disk ≡ Some s → value ≡ (cell_in s.now.bytes setup_cell).value) →
      HasWrittenList members v rests spent.disk value bytes Failed → Keeps members v bytes (Err (keeping.Failed spent))
  unwritten spent value value_is failed =
      let row = list_calls v.slots value bytes in
      let count = early_count v.slots value bytes in
      let wrote = early_bytes v.slots value bytes in
      let first : (s : Story) → members.told v.disk ≡ Some s → (rest : List DiskCall)
      × (keep_calls v.slots (cell_in s.now.bytes setup_cell) bytes ≡ row ++ rest) =
      λ s told. (
        value_calls setup_cell (cell_in s.now.bytes setup_cell) (value_with value bytes),
        ap (λ (n : ℕ). list_calls v.slots n bytes
            ++ value_calls setup_cell (cell_in s.now.bytes setup_cell) (value_with n bytes)) (sym (value_is s told)),
      ) in (
        has,
        room,
        early_kept members v bytes spent.disk row failed.images failed.made (omega (arith, count))
            (omega (arith, wrote)) first,
        early_lost members v bytes spent.disk row failed.images failed.made (omega (arith, count))
            (omega (arith, wrote)) first,
      )

  -- the cell's own value, where it is told
  abbrev value_told : Option Story → ℕ
  value_told None = 0
  value_told (Some s) = (cell_in s.now.bytes setup_cell).value

  pub keep_failed : (spent : Spent D) → KeepsList members v bytes (Err spent) →
      Keeps members v bytes (Err (keeping.Failed spent))
  keep_failed spent (inl (seen, looks, same)) =
      subst (λ (d : D). Keeps members v bytes (Err (keeping.Failed (record { disk = d })))) (sym same)
      (unwritten (record { disk = seen.disk }) (value_told (members.told v.disk))
      (λ s told. ap value_told told)
      (unread members v rests seen (value_told (members.told v.disk)) bytes looks))
  keep_failed spent (inr is) = go is.writes
    where
      go : WritesAndNames members is.seen is.value bytes (Err spent) → Keeps members v bytes (Err (keeping.Failed spent))
      go (inl copy) =
          unwritten spent is.value is.looks.1
          (copy_failed members v rests sized has names is.seen is.value is.looks spent bytes short copy)
      go (inr (u, copy, sets)) =
          let done = copy_done members v rests sized has names is.seen is.value is.looks u bytes short copy in (
            has,
            room,
            late_kept members v bytes rests is.value is.looks.1 u.disk spent.disk done.0 Failed sets.0,
            late_lost members v bytes rests is.value is.looks.1 u.disk spent.disk done.0 sets,
          )

-- ---- as the code has it

module _ {D : Type 0} (members : disk.Ghosts D) (v : SpoolView D) where
  pub names_then : (u : SpoolView D) (value number next : ℕ) (bytes : List ℕ) (done : Result (SpoolView D) (Spent D)) →
      number ≡ spare_number value → next ≡ value_with value bytes →
      WritesCopy members v (copy_begin number) bytes (Ok u) → SetsCell members u next done →
      WritesAndNames members v value bytes done
  names_then u value number next bytes (Ok w) spare is copy sets = (
    u,
    subst (λ (n : ℕ). WritesCopy members v (copy_begin n) bytes (Ok u)) spare copy,
    subst (λ (n : ℕ). SetsCell members u n (Ok w)) is sets,
  )
  names_then u value number next bytes (Err spent) spare is copy sets = inr (
    u,
    subst (λ (n : ℕ). WritesCopy members v (copy_begin n) bytes (Ok u)) spare copy,
    subst (λ (n : ℕ). SetsCell members u n (Err spent)) is sets,
  )

  pub looks_then : (seen : SpoolView D) (value : ℕ) (bytes : List ℕ) (done : Result (SpoolView D) (Spent D)) →
      ReadsCell members v seen (Value value) → WritesAndNames members seen value bytes done →
      KeepsList members v bytes done
  looks_then seen value bytes (Ok w) looks writes =
      record { seen = seen; value = value; looks = looks; writes = writes }
  looks_then seen value bytes (Err spent) looks writes =
      inr (record { seen = seen; value = value; looks = looks; writes = writes })

  module _ (bytes : List ℕ) (rests : (s : Story) → members.told v.disk ≡ Some s → Rests s (known_of v))
      (sized : (s : Story) → members.told v.disk ≡ Some s → length s.now.bytes ≡ members.size_is v.disk)
      (has : has_setup members v ≡ true) (holds : HoldsKept members v) (room : has_room bytes ≡ true) where
    names : NamesList members v
    names s told =
        holds s told
        (kept_there s (known_of v) (rests s told) (ap (λ (n : ℕ). has_area v.slots n) (sized s told) ∙ has))

    short : length bytes ≤ copy_size
    short = grind (arith, nat_tests, room)

    pub kept_so : (w : SpoolView D) → KeepsList members v bytes (Ok w) → Keeps members v bytes (Ok w)
    kept_so = keep_done members v bytes rests sized has names short room

    pub kept_holds : (w : SpoolView D) → KeepsList members v bytes (Ok w) → HoldsKept members w
    kept_holds w is t there some =
        keep_names members v bytes rests sized has names short room w (kept_so w is) t there

    pub kept_not : (spent : Spent D) → KeepsList members v bytes (Err spent) →
        Keeps members v bytes (Err (keeping.Failed spent))
    kept_not = keep_failed members v bytes rests sized has names short room
