-- What a write in the area makes of a spool, and another value of the setup's cell.
use Rattle.std.proofs.Common.{◌≡◌, ◌⊎◌, ℕ, ◌+◌, ◌-◌, ◌<◌, ◌≤◌, Bool, true, if◌then◌else◌, List, [], ◌∷◌, length, take, drop, slice_index, Option, Some, None, Ok, refl, sym, ap}
use Rattle.std.proofs.Common.{subst, ◌∙◌, arith, inl, inr, get_or, length-drop}
use Rattle.std.proofs.lemmas.Bool.{cases_lt}
use Rattle.std.proofs.lemmas.Bool.Decides.{nat_tests}
use Rattle.std.proofs.lemmas.List.{drop-drop, ext_get_or, get_or-drop, get_or-take, length-take-le}
use Rattle.std.specs.Option.{option_map}
use Rattle.disk_base.specs.Calls.{read_call}
use Rattle.disk_base.specs.Disk.{Reads}
use Rattle.disk_base.specs.Story.{Story, bytes_at, with_part, with_sync, with_write}
use Rattle.disk_base.specs.declared.disk.Disk as disk
use Rattle.disk_base.specs.declared.disk.DiskAnswer.{DiskAnswer}
use Rattle.disk_base.specs.declared.disk.DiskAnswer.TheVariants.{Done, Failed}
use Rattle.disk_base.proofs.Marks.{length-part, outside_part}
use Rattle.gate_cell.specs.Cell.{Cell, cell_in, cell_of, copy_place, names_second, with_value}
use Rattle.gate_cell.specs.Holds.{Holds}
use Rattle.spool_file.specs.File.{Ends, StandsFor, slots_in}
use Rattle.spool_file.specs.Front.{slots_of}
use Rattle.spool_file.specs.Setup.{area_end, area_in, area_of, area_size, has_area, setup_cell, setup_of}
use Rattle.spool_file.specs.Slot.{slot_place}
use Rattle.spool_file.specs.declared.recovery.Known.{Known}
use Rattle.spool_file.proofs.Fronts.{bytes_taken}
use Rattle.spool_file.proofs.Written.{at-taken, bytes_beside, front_beside, part_at, slot_beside}
use Rattle.spool_slots.specs.Carried.{CarriesOut}
use Rattle.spool_slots.specs.Changes.{HasSettled, HasValue, IsSame}
use Rattle.spool_slots.specs.Files.{area_written, set_in, written_in}
use Rattle.spool_slots.specs.Setup.{HasWritten, IsWritten, ReadsArea, WritesArea}
use Rattle.spool_slots.specs.Spool.{IsSpool, Rests, SpoolView, in_hand}
use Rattle.spool_slots.proofs.Celled.{set_anew, set_as_it_was}
use Rattle.spool_slots.proofs.Lasting.{after_settle, done_at, frame, frame_is, lasts, rests_for, rests_now}
use Rattle.spool_slots.proofs.Looking.{first_byte, seen}
use Rattle.spool_slots.proofs.Marks.{rests_moved}
use Rattle.spool_slots.proofs.Moves.{setup_stands}

pub has_is : (slots size : ℕ) → has_area slots size ≡ true → area_end slots ≤ size
has_is slots size is = grind (arith, nat_tests, is)

-- a part among some bytes
module _ (bytes part : List ℕ) (from size at : ℕ) (within : from + size ≤ length bytes)
    (among : at + length part ≤ size) where
  abbrev here : List ℕ
  here = bytes_at bytes from size

  abbrev changed : List ℕ
  changed = with_part bytes (from + at) part

  wide : from + at + length part ≤ length bytes
  wide = omega (arith, within, among)

  here_long : length here ≡ size
  here_long = length-take-le size (drop from bytes) (omega (arith, within, length-drop from bytes))

  changed_long : length (bytes_at changed from size) ≡ size
  changed_long = length-take-le size (drop from changed)
      (omega (arith, within, length-drop from changed, length-part bytes part (from + at) wide))

  inner : at + length part ≤ length here
  inner = omega (arith, among, here_long)

  by_side : (place : ℕ) → place < size → (place < at) ⊎ (at ≤ place) →
      (place < at + length part) ⊎ (at + length part ≤ place) →
      get_or changed (from + place) 0 ≡ get_or (with_part here at part) place 0
  by_side place less (inl before) side =
      outside_part bytes part (from + at) (from + place) 0 wide (inl (omega (arith, before)))
      ∙ sym (at-taken bytes from size place 0 less)
      ∙ sym (outside_part here part at place 0 inner (inl before))
  by_side place less (inr behind) (inl to) =
      let p = place - at in
      ap (λ (q : ℕ). get_or changed q 0) (omega (arith, behind))
      ∙ part_at bytes part (from + at) wide p 0 (omega (arith, behind, to))
      ∙ sym (part_at here part at inner p 0 (omega (arith, behind, to)))
      ∙ ap (λ (q : ℕ). get_or (with_part here at part) q 0) (omega (arith, behind))
  by_side place less (inr behind) (inr over) =
      outside_part bytes part (from + at) (from + place) 0 wide (inr (omega (arith, over)))
      ∙ sym (at-taken bytes from size place 0 less)
      ∙ sym (outside_part here part at place 0 inner (inr over))

  part_among : bytes_at changed from size ≡ with_part here at part
  part_among =
      ext_get_or 0 (bytes_at changed from size) (with_part here at part)
      (changed_long ∙ sym (length-part here part at inner ∙ here_long))
      (λ place below.
      let less : place < size = omega (arith, below, changed_long) in
      at-taken changed from size place 0 less
      ∙ by_side place less (cases_lt place at) (cases_lt place (at + length part)))

-- ---- bytes of the area

module _ (s : Story) (k : Known) (is : Rests s k) (room : k.next ≤ k.first + k.slots) (part : List ℕ) (at : ℕ)
    (within : at + length part ≤ area_size) (has : has_area k.slots (length s.now.bytes) ≡ true) where
  abbrev bytes : List ℕ
  bytes = s.now.bytes

  abbrev place : ℕ
  place = slot_place k.slots + at

  abbrev now : List ℕ
  now = with_part bytes place part

  pub area_fits : area_end k.slots ≤ length bytes
  area_fits = has_is k.slots (length bytes) has

  pub area_inside : place + length part ≤ length bytes
  area_inside = omega (arith, area_fits, within)

  count : slots_in now ≡ slots_in bytes
  count = ap slots_of (front_beside bytes part place area_inside (omega arith))

  -- the area, by the number of slots that is known
  by_known : (xs : List ℕ) → slots_in xs ≡ k.slots → length xs ≡ length bytes →
      area_in xs ≡ Some (bytes_at xs (slot_place k.slots) area_size)
  by_known xs slots long =
      ap (λ (n : ℕ). area_of n xs) slots
      ∙ ap (λ (size : ℕ). if has_area k.slots size then Some (bytes_at xs (slot_place k.slots) area_size) else None) long
      ∙ ap (λ (b : Bool). if b then Some (bytes_at xs (slot_place k.slots) area_size) else None) has

  pub area_now : area_in now ≡ area_written at part bytes
  area_now =
      by_known now (count ∙ sym is.slots_are) (length-part bytes part place area_inside)
      ∙ ap (λ (area : List ℕ). Some area)
      (part_among bytes part (slot_place k.slots) area_size at (omega (arith, area_fits)) within)
      ∙ sym (ap (option_map (λ area. with_part area at part)) (by_known bytes (sym is.slots_are) refl))

  pub area_stands : StandsFor now (written_in at part bytes)
  area_stands =
      setup_stands bytes (frame s k is room) (frame_is s k is room) k.first k.next is.sound is.low is.chain room now
      (setup_of (cell_in bytes setup_cell) (area_written at part bytes))
      (front_beside bytes part place area_inside (omega arith)) (length-part bytes part place area_inside)
      (ap (λ (c : Cell). setup_of c (area_in now))
      (ap cell_of (bytes_beside bytes part place area_inside setup_cell 17 (inl (omega arith))))
      ∙ ap (λ (area : Option (List ℕ)). setup_of (cell_in bytes setup_cell) area) area_now)
      (λ j below. slot_beside bytes part place j area_inside (inl (omega (arith, below))))

-- ---- what was read of the area

-- the area of a file that has one
pub area_is : (s : Story) (k : Known) → Rests s k → has_area k.slots (length s.now.bytes) ≡ true →
    area_in s.now.bytes ≡ Some (bytes_at s.now.bytes (slot_place k.slots) area_size)
area_is s k is has =
    let area = bytes_at s.now.bytes (slot_place k.slots) area_size in
    ap (λ (n : ℕ). area_of n s.now.bytes) (sym is.slots_are)
    ∙ ap (λ (b : Bool). if b then Some area else None) has

area_or : Option (List ℕ) → List ℕ
area_or None = []
area_or (Some area) = area

pub area_read : (s : Story) (k : Known) (at from : ℕ) (into area : List ℕ) → Rests s k →
    has_area k.slots (length s.now.bytes) ≡ true → from ≡ slot_place k.slots + at → at + length into ≤ area_size →
    into ≡ bytes_at s.now.bytes from (length into) → area_in s.now.bytes ≡ Some area →
    into ≡ bytes_at area at (length into)
unfolding area_or
area_read s k at from into area is has there within read told =
    let n = length into in
    let rest = drop (slot_place k.slots) s.now.bytes in
    let same : bytes_at s.now.bytes (slot_place k.slots) area_size ≡ area =
    ap area_or (sym (area_is s k is has) ∙ told) in
    read
    ∙ ap (λ (p : ℕ). bytes_at s.now.bytes p n) there
    ∙ ap (λ (xs : List ℕ). take n xs) (sym (drop-drop at (slot_place k.slots) s.now.bytes))
    ∙ sym (bytes_taken at n area_size rest within)
    ∙ ap (λ (xs : List ℕ). bytes_at xs at n) same

-- the place of the copy that the cell's gate names
pub named_place : (bytes into : List ℕ) (at : ℕ) → length into ≡ 1 →
    into ≡ bytes_at bytes (setup_cell + 16) (length into) →
    at ≡ setup_cell + copy_place (names_second (slice_index into 0)) →
    at ≡ setup_cell + copy_place (cell_in bytes setup_cell).second
named_place bytes into at long read is =
    let gate : slice_index into 0 ≡ slice_index bytes (setup_cell + 16) =
    first_byte bytes into (setup_cell + 16) (setup_cell + 16) refl read (omega (arith, long)) in
    is
    ∙ ap (λ (byte : ℕ). setup_cell + copy_place (names_second byte))
    (gate
    ∙ sym (get_or-drop setup_cell bytes 16 0)
    ∙ sym (get_or-take 17 (drop setup_cell bytes) 16 0 (omega arith)))

-- whether there is an area, by what is known
pub has_known : {D : Type 0} (members : disk.Ghosts D) (v : SpoolView D) (d : D) (k : Known) → in_hand d k ≡ v →
    has_area v.slots (members.size_is v.disk) ≡ true → has_area k.slots (members.size_is d) ≡ true
has_known members v d k is = subst (λ w. has_area w.slots (members.size_is w.disk) ≡ true) (sym is)

-- ---- of a spool

module _ {D : Type 0} (members : disk.Ghosts D) (d d' : D) (k : Known) (is : IsSpool members (in_hand d k)) where
  -- a change of the setup alone leaves what is known
  pub setup_spool : members.size_is d' ≡ members.size_is d →
      ((t : Story) → members.told d' ≡ Some t → Rests t k) → IsSpool members (in_hand d' k)
  setup_spool size rests = record {
    version = is.version;
    some = is.some;
    most = is.most;
    fits = subst (λ n. slot_place k.slots ≤ n) (sym size) is.fits;
    from = is.from;
    none = is.none;
    even = is.even;
    room = is.room;
    numbers = is.numbers;
    mark_most = is.mark_most;
    rests = rests;
  }

  -- bytes of the area were read
  pub reads_area : ((s : Story) → members.told d ≡ Some s → length s.now.bytes ≡ members.size_is d) →
      has_area k.slots (members.size_is d) ≡ true → (at from long : ℕ) (into : List ℕ) (answer : DiskAnswer) →
      from ≡ slot_place k.slots + at → long ≡ length into → at + length into ≤ area_size →
      members.told d' ≡ members.told d → Reads (members.told d) from into answer →
      CarriesOut members d d' (read_call from long Done ∷ []) answer →
      ReadsArea members (in_hand d k) (in_hand d' k) at into answer
  reads_area sized has at from long into Done there size within told read row = (
    seen members d d' k from (slot_place k.slots + at) long (length into) Done there size told row,
    λ s told area. area_read s k at from into area (is.rests s told)
        (ap (λ (n : ℕ). has_area k.slots n) (sized s told) ∙ has) there within (read s told),
  )
  reads_area sized has at from long into Failed there size within told read row =
      seen members d d' k from (slot_place k.slots + at) long (length into) Failed there size told row

  -- bytes of the area were written
  module _ (sized : (s : Story) → members.told d ≡ Some s → length s.now.bytes ≡ members.size_is d)
      (has : has_area k.slots (members.size_is d) ≡ true) (at : ℕ) (bytes : List ℕ)
      (within : at + length bytes ≤ area_size) where
    abbrev place_in : ℕ
    place_in = slot_place k.slots + at

    has_told : (s : Story) → members.told d ≡ Some s → has_area k.slots (length s.now.bytes) ≡ true
    has_told s told = ap (λ (n : ℕ). has_area k.slots n) (sized s told) ∙ has

    stands_at : (s : Story) → members.told d ≡ Some s → (part : List ℕ) → length part ≡ length bytes →
        StandsFor (with_part s.now.bytes place_in part) (written_in at part s.now.bytes)
    stands_at s told part long =
        area_stands s k (is.rests s told) is.room part at (omega (arith, within, long)) (has_told s told)

    inside_at : (s : Story) → members.told d ≡ Some s → place_in + length bytes ≤ length s.now.bytes
    inside_at s told = area_inside s k (is.rests s told) is.room bytes at within (has_told s told)

    pub written : (answer : DiskAnswer) → HasSettled members d d' place_in bytes answer →
        HasWritten members (in_hand d k) d' at bytes answer
    written answer done = record {
      images = lasts (members.told d) (members.told d') place_in bytes answer (IsWritten at (length bytes))
          (λ s told. (is.rests s told).settled) inside_at
          (λ s told part long. (part, long, stands_at s told part long)) done.told;
      disk = done;
    }

    written_rests : (s : Story) → members.told d ≡ Some s → Rests (with_sync (with_write place_in bytes s)) k
    written_rests s told =
        let r = is.rests s told in
        rests_now s place_in bytes (written_in at bytes s.now.bytes) k (inside_at s told) r.inside
        (stands_at s told bytes refl) r.version_is r.slots_are r.mark_is r.low r.chain r.count

    pub written_spool : HasSettled members d d' place_in bytes Done → IsSpool members (in_hand d' k)
    written_spool done = setup_spool done.size
        (after_settle (members.told d) (members.told d') place_in bytes (λ t. Rests t k) written_rests done.told)

    pub writes : HasSettled members d d' place_in bytes Done →
        WritesArea members (in_hand d k) at bytes (Ok (in_hand d' k))
    writes done = (
      written Done done,
      refl,
      λ s t told told'. subst (λ t. Ends t (written_in at bytes s.now.bytes)
          × (area_in t.now.bytes ≡ area_written at bytes s.now.bytes))
          (done_at (members.told d) (members.told d') place_in bytes s t done.told told told') (
            record { settled = refl; stands = stands_at s told bytes refl },
            area_now s k (is.rests s told) is.room bytes at within (has_told s told),
          ),
    )

  -- the cell got another value
  pub same_set : (s : Story) → members.told d ≡ Some s → (image : List ℕ) →
      Holds s.now setup_cell (cell_in s.now.bytes setup_cell) image → IsSame s.now.bytes image
  same_set s told = set_as_it_was s k (is.rests s told) is.room

  pub new_set : (value : ℕ) (s : Story) → members.told d ≡ Some s → (image : List ℕ) →
      Holds s.now setup_cell (with_value value (cell_in s.now.bytes setup_cell)) image →
      StandsFor image (set_in value s.now.bytes)
  new_set value s told = set_anew s k (is.rests s told) is.room value

  module _ (value : ℕ) (values : (s : Story) → members.told d ≡ Some s → HasValue s setup_cell value (members.told d'))
    where
      set_rests : (s t : Story) → members.told d ≡ Some s → members.told d' ≡ Some t → Rests t k
      set_rests s t told told' =
          let r = is.rests s told in
          let there = values s told t told' in
          rests_for t (set_in value s.now.bytes) k there.0 (omega (arith, r.inside, there.1.others.long))
          (new_set value s told t.now.bytes there.1) r.version_is r.slots_are r.mark_is r.low r.chain r.count

      pub set_spool : members.size_is d' ≡ members.size_is d → (members.told d ≡ None → members.told d' ≡ None) →
          IsSpool members (in_hand d' k)
      set_spool size untold = setup_spool size
          (rests_moved (members.told d) (members.told d') setup_cell value (set_in value) same_set (new_set value) k
          set_rests untold)
