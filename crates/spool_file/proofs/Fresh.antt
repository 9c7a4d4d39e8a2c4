-- What a new file stands for.
use Rattle.std.proofs.Common.{◌≡◌, ◌⊎◌, inl, inr, ℕ, ◌+◌, ◌^◌, ◌<◌, ◌≤◌, ◌==◌, nat_lt, Bool, true, false, if◌then◌else◌, List}
use Rattle.std.proofs.Common.{[], ◌∷◌, ◌++◌, append_assoc, length, length-append, take, drop, get_or, replicate, Option, Some, None, Result}
use Rattle.std.proofs.Common.{Ok, refl, sym, ap, subst, ◌∙◌, arith}
use Rattle.std.proofs.lemmas.Bool.{cases_eq}
use Rattle.std.proofs.lemmas.Bool.Decides.{nat_tests}
use Rattle.std.proofs.lemmas.List.{drop-append-le, drop-drop, drop-take, drop_all, drop_at, get_or-drop, length-replicate}
use Rattle.std.proofs.lemmas.List.{take-append-le, take-take, take_all}
use Rattle.std.proofs.lemmas.Nat.{from_be_bytes-to_be_bytes_4}
use Rattle.std.specs.Int.{w32, from_be_bytes, to_be_bytes}
use Rattle.std.specs.Option.{option_map}
use Rattle.std.specs.Result.{OnOk}
use Rattle.disk_base.specs.Story.{Story, bytes_at, with_part, with_write}
use Rattle.disk_base.proofs.Marks.{length-part}
use Rattle.gate_cell.specs.Cell.{Cell, cell_in, cell_of, copy_of, names_second}
use Rattle.spool_file.specs.Breaks.{list_below}
use Rattle.spool_file.specs.File.{SpoolFile, StandsFor, floor_in, frame_in, gates_below, slots_in, version_in}
use Rattle.spool_file.specs.Format.{ClosesTo, IsClosedTo, empty_file, first_page, new_magic}
use Rattle.spool_file.specs.Front.{floor_cell, front_break, front_in, front_size, magic, magic_break, mark_cell}
use Rattle.spool_file.specs.Front.{magic_of, slots_of, unlike_at, version_of}
use Rattle.spool_file.specs.Setup.{Setup, area_end, area_in, area_of, area_size, has_area, setup_cell, setup_in, setup_of}
use Rattle.spool_file.specs.Slot.{Message, is_open, slot_in, slot_place, stands_on}
use Rattle.spool_file.specs.declared.slot.Frame.{Frame}
use Rattle.spool_file.proofs.Fronts.{front_cell, made_frame, of_front, unlike_front}
use Rattle.spool_file.proofs.Gates.{closed_absent, shut_gates}
use Rattle.spool_file.proofs.Sound.{none_held}
use Rattle.spool_file.proofs.Wholes.{full_in, none_break, spool_sound}
use Rattle.spool_file.proofs.Written.{bytes_beside, front_beside, gate_written, others_stay}

-- what stands in the first page behind the number of slots
abbrev early : List ℕ
early = replicate 34 0

abbrev named : List ℕ
named = 1 ∷ []

abbrev late : List ℕ
late = replicate 4049 0

abbrev rest : List ℕ
rest = early ++ named ++ late

rest_long : length rest ≡ 4084
rest_long =
    let first : length early ≡ 34 = length-replicate {A = ℕ} 34 0 in
    let one : length named ≡ 1 = refl in
    let last : length late ≡ 4049 = length-replicate {A = ℕ} 4049 0 in
    omega (arith, length-append (early ++ named) late, length-append early named, first, one, last)

-- the first page
module _ (slots : ℕ) where
  abbrev count : List ℕ
  count = to_be_bytes w32 slots

  abbrev head : List ℕ
  head = new_magic ++ count

  count_long : length count ≡ 4
  count_long = refl

  head_long : length head ≡ 12
  head_long = omega (arith, length-append new_magic count, count_long)

  pub page_parts : first_page slots ≡ head ++ replicate 34 0 ++ (1 ∷ []) ++ replicate 4049 0
  unfolding first_page
  page_parts = refl

  pub page_is : first_page slots ≡ head ++ rest
  page_is =
      page_parts
      ∙ ap (λ (xs : List ℕ). xs ++ replicate 4049 0) (append_assoc head (replicate 34 0) (1 ∷ []))
      ∙ append_assoc head (replicate 34 0 ++ (1 ∷ [])) (replicate 4049 0)

  pub page_long : length (first_page slots) ≡ 4096
  page_long = ap length page_is ∙ omega (arith, length-append head rest, head_long, rest_long)

  abbrev front : List ℕ
  front = take 47 (head ++ rest)

  twelve : take 12 front ≡ head
  twelve = take-take 12 47 (head ++ rest) (omega arith) ∙ take-append-le 12 head rest (omega (arith, head_long))
      ∙ take_all 12 head (omega (arith, head_long))

  pub slots_are : slots < 2 ^ 32 → slots_of front ≡ slots
  slots_are low =
      ap (λ (xs : List ℕ). from_be_bytes w32 xs) (sym (drop-take 8 4 front) ∙ ap (λ (xs : List ℕ). drop 8 xs) twelve)
      ∙ from_be_bytes-to_be_bytes_4 slots low

  behind : drop 12 (head ++ rest) ≡ rest
  behind = drop-append-le 12 head rest (omega (arith, head_long))
      ∙ ap (λ (xs : List ℕ). xs ++ rest) (drop_all 12 head (omega (arith, head_long)))

  cells : drop 12 front ≡ take 35 rest
  cells = drop-take 12 35 (head ++ rest) ∙ ap (λ (xs : List ℕ). take 35 xs) behind

  pub version_is : version_of front ≡ 2
  version_is = ap (λ (gate : ℕ). if names_second gate then 2 else 1)
      (sym (get_or-drop 12 front 34 1) ∙ ap (λ (xs : List ℕ). get_or xs 34 1) cells)

  magic_none : magic_break front ≡ None
  unfolding magic_break
  magic_none =
      ap (λ (v : ℕ). unlike_at 0 (magic_of v) front) version_is
      ∙ sym (unlike_front 0 12 (take 7 magic) front (omega arith))
      ∙ ap (λ (xs : List ℕ). unlike_at 0 (take 7 magic) xs) twelve

  pub zero_mark : cell_in front mark_cell ≡ record { value = 0; second = false }
  unfolding copy_of
  zero_mark = ap (λ (xs : List ℕ). cell_of (take 17 xs)) cells

  pub zero_floor : cell_in front floor_cell ≡ record { value = 0; second = false }
  unfolding copy_of
  zero_floor = ap (λ (xs : List ℕ). cell_of (take 17 xs))
      (sym (drop-drop 17 12 front) ∙ ap (λ (xs : List ℕ). drop 17 xs) cells)

  pub zero_setup : cell_in (first_page slots) setup_cell ≡ record { value = 0; second = false }
  unfolding copy_of
  zero_setup =
      let first : length early ≡ 34 = length-replicate {A = ℕ} 34 0 in
      let one : length named ≡ 1 = refl in
      ap (λ (xs : List ℕ). cell_of (bytes_at xs 47 17)) page_parts
      ∙ ap (λ (xs : List ℕ). cell_of (take 17 xs))
      (drop_at (head ++ early ++ named) late 47
      (omega (arith, head_long, length-append (head ++ early) named, length-append head early, first, one)))

  pub front_none : (size : ℕ) → 1 ≤ slots → slots ≤ 65535 → slot_place slots ≤ size → front_break front size ≡ None
  front_none size some most fits = of_front front size (record {
    name = magic_none;
    slots = slots_none (slots_of front) (slots_are (omega (arith, most)));
    mark = subst (λ (c : Cell). c.value ≤ 2 ^ 32) (sym zero_mark) (omega arith);
    floor = subst (λ (c : Cell). c.value ≤ 2 ^ 63) (sym zero_floor) (omega arith);
  })
    where
      slots_none : (n : ℕ) → n ≡ slots →
          (if nat_lt size 12 then Some size else
          (if n == 0 then Some 8 else
          (if nat_lt 65535 n then Some 8 else (if nat_lt size (slot_place n) then Some size else None)))) ≡ None
      slots_none n is = grind (arith, nat_tests, is, some, most, fits)

-- a file of these parts
abbrev pub made_file : Setup → (version slots : ℕ) → List Bool → (mark floor : Cell) → List Message → SpoolFile
made_file setup version slots gates mark floor list = record {
  version = version;
  slots = slots;
  gates = gates;
  mark = mark;
  floor = floor;
  setup = setup;
  list = list;
}

-- an empty file
pub empty_stands : (bytes : List ℕ) (slots : ℕ) → front_in bytes ≡ take 47 (first_page slots) → 1 ≤ slots →
    slots ≤ 65535 →
    area_end slots ≤ length bytes → ((k : ℕ) → k < slots → is_open (slot_in bytes k) ≡ false) →
    cell_in bytes setup_cell ≡ record { value = 0; second = false } → StandsFor bytes (empty_file slots)
empty_stands bytes slots is some most room closed cell =
    let fits : slot_place slots ≤ length bytes = omega (arith, room) in
    let front : front_in bytes ≡ take 47 ((new_magic ++ to_be_bytes w32 slots) ++ rest) =
    is ∙ ap (λ (xs : List ℕ). take 47 xs) (page_is slots) in
    let version : version_in bytes ≡ 2 = ap version_of front ∙ version_is slots in
    let count : slots_in bytes ≡ slots = ap slots_of front ∙ slots_are slots (omega (arith, most)) in
    let slot = slot_in bytes in
    let frame = made_frame 2 slots 0 in
    let absent : (k : ℕ) → k < slots → stands_on 0 (slot k) ≡ false =
    λ k below. closed_absent 0 (slot k) (closed k below) in
    let m = cell_in bytes mark_cell in
    let f = cell_in bytes floor_cell in
    let mark = front_cell mark_cell front_size bytes (omega arith) ∙ ap (λ (f : List ℕ). cell_in f mark_cell) front
    ∙ zero_mark slots in
    let floor = front_cell floor_cell front_size bytes (omega arith) ∙ ap (λ (f : List ℕ). cell_in f floor_cell) front
    ∙ zero_floor slots in
    let setup = setup_in bytes in
    let has : has_area slots (length bytes) ≡ true = grind (arith, nat_tests, room) in
    let setup_is : setup ≡ setup_of zeroed (Some (bytes_at bytes (slot_place slots) area_size)) =
    ap (λ (c : Cell). setup_of c (area_in bytes)) cell
    ∙ ap (λ (n : ℕ). setup_of zeroed (area_of n bytes)) count
    ∙ ap (λ (b : Bool). setup_of zeroed (if b then Some (bytes_at bytes (slot_place slots) area_size) else None))
    has in
    let frame_is : frame_in bytes ≡ frame =
    ap (λ (v : ℕ). made_frame v (slots_in bytes) (floor_in bytes)) version
    ∙ ap (λ (n : ℕ). made_frame 2 n (floor_in bytes)) count ∙ ap (λ (c : Cell). made_frame 2 slots c.value) floor in
    record {
      sound = spool_sound bytes frame
          (ap (λ (f : List ℕ). front_break f (length bytes)) front ∙ front_none slots (length bytes) some most fits)
          (sym frame_is) (none_break frame slot (inr refl) (full_in bytes slots fits) some absent);
      is = sym (
          ap (λ (v : ℕ). made_file setup v (slots_in bytes) (gates_below slot (slots_in bytes)) m f
          (list_below (frame_in bytes) slot (slots_in bytes))) version
          ∙ ap (λ (n : ℕ). made_file setup 2 n (gates_below slot n) m f (list_below (frame_in bytes) slot n)) count
          ∙ ap (λ (gates : List Bool). made_file setup 2 slots gates m f (list_below (frame_in bytes) slot slots))
          (shut_gates slot slots closed)
          ∙ ap (λ (fr : Frame). made_file setup 2 slots (replicate slots false) m f (list_below fr slot slots)) frame_is
          ∙ ap (λ (list : List Message). made_file setup 2 slots (replicate slots false) m f list)
          (none_held frame slot absent)
          ∙ ap (λ (c : Cell). made_file setup 2 slots (replicate slots false) c f []) mark
          ∙ ap (λ (c : Cell). made_file setup 2 slots (replicate slots false) zeroed c []) floor
          ∙ ap (λ (u : Setup). made_file u 2 slots (replicate slots false) zeroed zeroed []) setup_is);
    } where
      zeroed : Cell
      zeroed = record { value = 0; second = false }

-- what holds of a result that is `Ok`
pub from_ok : {T E P : Type 0} (r : Result T E) (x : T) → r ≡ Ok x → OnOk r P → P
from_ok {T} {E} {P} r x is holds = subst (λ (s : Result T E). OnOk s P) is holds

-- what was told before
pub back : (before after : Option Story) (f : Story → Story) (t : Story) → after ≡ option_map f before →
    after ≡ Some t →
    (s : Story) × (before ≡ Some s) × (t ≡ f s)
back None after f t is told = absurd (grind (arith, is, told))
back (Some s) after f t is told = (s, refl, ap (λ (o : Option Story). story_or t o) (sym told ∙ is)) where
  story_or : Story → Option Story → Story
  story_or other None = other
  story_or other (Some s) = s

-- one gate more was closed
module _ (s t : Story) (k slots : ℕ) (is : IsClosedTo s t k) (below : k < slots)
    (fits : slot_place slots ≤ length s.now.bytes) where
  within : slot_place k + 4096 ≤ length t.now.bytes
  within = omega (arith, below, fits, is.long)

  abbrev now : List ℕ
  now = with_part t.now.bytes (slot_place k) (0 ∷ [])

  shut : (j : ℕ) → j < k + 1 → (j ≡ k) ⊎ (j ≡ k → ⊥) → is_open (slot_in now j) ≡ false
  shut j less (inl same) = ap (λ (n : ℕ). is_open (slot_in now n)) same
      ∙ ap is_open (gate_written t.now.bytes k 0 within)
  shut j less (inr other) =
      ap is_open (others_stay t.now.bytes (0 ∷ []) k j (slot_place k) 0 (omega arith) (omega (arith, within))
      (omega arith) other)
      ∙ is.closed j (grind (arith, less, other))

  pub one_closed : IsClosedTo s (with_write (slot_place k) (0 ∷ []) t) (k + 1)
  one_closed = record {
    cell = ap cell_of (bytes_beside t.now.bytes (0 ∷ []) (slot_place k) (omega (arith, within)) setup_cell 17
        (inl (omega arith))) ∙ is.cell;
    long = length-part t.now.bytes (0 ∷ []) (slot_place k) (omega (arith, within)) ∙ is.long;
    front = front_beside t.now.bytes (0 ∷ []) (slot_place k) (omega (arith, within)) (omega arith) ∙ is.front;
    closed = λ j less. shut j less (cases_eq j k);
  }

pub none_closed : (s : Story) → IsClosedTo s s 0
none_closed s = record { long = refl; front = refl; cell = refl; closed = λ k below. absurd (omega (arith, below)) }

pub closes_more : (o p q : Option Story) (k slots size : ℕ) → ((s : Story) → o ≡ Some s → length s.now.bytes ≡ size) →
    k < slots → slot_place slots ≤ size →
    ClosesTo o p k → q ≡ option_map (with_write (slot_place k) (0 ∷ [])) p → ClosesTo o q (k + 1)
closes_more o p q k slots size sized below fits so_far is t told =
    let before = back p q (with_write (slot_place k) (0 ∷ [])) t is told in
    let first = so_far before.0 before.1 in (
      first.0,
      first.1,
      subst (λ (u : Story). IsClosedTo first.0 u (k + 1)) (sym before.2)
          (one_closed first.0 before.0 k slots first.2 below (omega (arith, fits, sized first.0 first.1))),
    )
