-- The oldest message is taken off the list: how many slots it takes, and what a crash finds.
use Rattle.std.proofs.Common.{◌≡◌, ℕ, ◌+◌, ◌-◌, ◌%◌, ◌<◌, ◌≤◌, ◌==◌, min, Bool, true, false, if◌then◌else◌}
use Rattle.std.proofs.Common.{List, [], ◌∷◌, ◌++◌, length, length-append, take, drop, Option, Some, None, Ok, length-drop}
use Rattle.std.proofs.Common.{refl, sym, ap, subst, ◌∙◌, arith, inl, inr}
use Rattle.std.proofs.lemmas.Bool.Decides.{nat_tests}
use Rattle.std.proofs.lemmas.List.{drop-drop, drop-take, take-take}
use Rattle.std.proofs.lemmas.Nat.{mod_below}
use Rattle.std.specs.Int.{w32, from_be_bytes}
use Rattle.std.specs.List.{slice_get}
use Rattle.std.specs.Option.{option_map}
use Rattle.disk_base.specs.Calls.{DiskCall, read_call}
use Rattle.disk_base.specs.Faults.{IsPlanned}
use Rattle.disk_base.specs.Settle.{Settles}
use Rattle.disk_base.specs.Story.{Story, bytes_at, with_sync, with_write}
use Rattle.disk_base.specs.declared.disk.Disk as disk
use Rattle.disk_base.specs.declared.disk.DiskAnswer.{DiskAnswer}
use Rattle.disk_base.specs.declared.disk.DiskAnswer.TheVariants.{Done, Failed}
use Rattle.disk_base.proofs.Moments.{only_now, starts}
use Rattle.spool_file.specs.File.{Ends, StandsFor, file_in}
use Rattle.spool_file.specs.Logs.{written_by}
use Rattle.spool_file.specs.Run.{IsChainFrom}
use Rattle.spool_file.specs.Sizes.{slots_for}
use Rattle.spool_file.specs.Slot.{Message, slot_in, slot_message, slot_place, width}
use Rattle.spool_file.specs.declared.recovery.Known.{Known}
use Rattle.spool_file.proofs.Runs.{chain_up}
use Rattle.spool_file.proofs.Sound.{width_is}
use Rattle.spool_slots.specs.Calls.{byte_calls, drop_calls}
use Rattle.spool_slots.specs.Carried.{CarriesOut, FailsBy, story_behind}
use Rattle.spool_slots.specs.Changes.{Drops, DropsSized, HasDropped, HasLostDrop, HasMade, HoldsThrough, IsFirstSize}
use Rattle.spool_slots.specs.Changes.{IsSame, IsSameOr}
use Rattle.spool_slots.specs.Files.{dropped_in}
use Rattle.spool_slots.specs.Losses.{IsSure}
use Rattle.spool_slots.specs.Spool.{IsSpool, Rests, first_size, in_hand}
use Rattle.spool_slots.specs.Work.{GoesBoth, len_look, len_told}
use Rattle.spool_slots.proofs.Carrying.{made_before, made_then, same_told, sure_less}
use Rattle.spool_slots.proofs.Lasting.{after_settle, done_at, drop_leaves, first_there, frame, frame_is, gate_within}
use Rattle.spool_slots.proofs.Lasting.{lasts, less_chain, less_stands, one_byte, rests_now}
use Rattle.spool_slots.proofs.Lost.{ChosenLaw, drop_loss, sure_behind}
use Rattle.spool_slots.proofs.Moves.{full, some, with_oldest}
use Rattle.spool_slots.proofs.OneByte.{byte_leaves, byte_settles}

-- the length that was read is the head's
pub len_there : (bytes : List ℕ) (j : ℕ) →
    from_be_bytes w32 (bytes_at bytes (slot_place j + 11) 4) ≡ (slot_in bytes j).head.len
len_there bytes j =
    let place : slot_place j + 11 ≡ slot_place j + 1 + 10 = omega arith in
    ap (λ (xs : List ℕ). from_be_bytes w32 xs) (
    ap (λ (p : ℕ). take 4 (drop p bytes)) place
    ∙ ap (λ (xs : List ℕ). take 4 xs) (sym (drop-drop 10 (slot_place j + 1) bytes))
    ∙ sym (take-take 4 4 (drop 10 (drop (slot_place j + 1) bytes)) (omega arith))
    ∙ ap (λ (xs : List ℕ). take 4 xs) (sym (drop-take 10 4 (drop (slot_place j + 1) bytes))))

abbrev first_or : DiskCall → List DiskCall → DiskCall
first_or other [] = other
first_or other (call ∷ calls) = call

abbrev width_or : Message → Option Message → ℕ
width_or x None = width x
width_or x (Some y) = width y

-- a spool with at least one message
module _ (s : Story) (k : Known) (is : Rests s k) (room : k.next ≤ k.first + k.slots) (one : 0 < k.len) where
  abbrev place : ℕ
  place = k.first % k.slots

  abbrev pub oldest : Message
  oldest = slot_message k.slots (slot_in s.now.bytes) place

  pub oldest_number : (slot_in s.now.bytes place).head.number ≡ k.first
  oldest_number = (first_there s k is room one).2

  pub oldest_first : (rest : List Message) × ((file_in s.now.bytes).list ≡ oldest ∷ rest)
  oldest_first =
      let there = first_there s k is room one in (
        _,
        with_oldest s.now.bytes (frame s k is room) (frame_is s k is room) k.first k.next is.sound is.low is.chain room
            place there.0 0 there.1 there.2 refl,
      )

  pub wide : width oldest ≡ slots_for (slot_in s.now.bytes place).head.len
  wide =
      let there = first_there s k is room one in
      width_is (slot_in s.now.bytes) k.slots
      (full s.now.bytes (frame s k is room) (frame_is s k is room) k.first k.next is.sound is.low is.chain room)
      (some s.now.bytes (frame s k is room) (frame_is s k is room) k.first k.next is.sound is.low is.chain room)
      place there.0

  -- the others have a slot each at least, and the last one has all
  sizes : (rest : List Message) → IsChainFrom (k.first + width oldest) k.next rest → k.len ≡ 1 + length rest →
      (k.first + width oldest + (k.len - 1) ≤ k.next) × (k.len ≡ 1 → k.first + width oldest ≡ k.next)
  sizes [] chain count = (omega (arith, chain, count), λ last. chain)
  sizes (x ∷ rest) chain count =
      let up = chain_up (k.first + width oldest) k.next (x ∷ rest) chain in
      (omega (arith, up, count), λ last. absurd (omega (arith, last, count)))

  bounds : (k.first + width oldest + (k.len - 1) ≤ k.next) × (k.len ≡ 1 → k.first + width oldest ≡ k.next)
  bounds =
      let first = oldest_first in
      let chain = subst (IsChainFrom k.first k.next) first.1 is.chain in
      sizes first.0 chain.1 (omega (arith, is.count, ap (length {A = Message}) first.1))

  -- so the size that is gone by is its own
  pub size_is : (len : ℕ) → len ≡ (slot_in s.now.bytes place).head.len → first_size k len ≡ width oldest
  size_is len same = by_test (k.len == 1) refl where
    takes : slots_for len ≡ width oldest
    takes = ap slots_for same ∙ sym wide

    by_test : (b : Bool) → (k.len == 1) ≡ b →
        (if b then k.next - k.first else min (slots_for len) (k.next - k.first - (k.len - 1))) ≡ width oldest
    by_test true last =
        let single : k.len ≡ 1 = grind (arith, nat_tests, last) in omega (arith, bounds.1 single)
    by_test false more = omega (arith, takes, bounds.0)

  pub get_first : (m : Message) → slice_get (file_in s.now.bytes).list 0 ≡ Some m → width oldest ≡ width m
  get_first m got =
      let first = oldest_first in
      let there : slice_get (oldest ∷ first.0) 0 ≡ Some m = subst (λ (l : List Message). slice_get l 0 ≡ Some m) first.1 got in
      ap (λ (o : Option Message). width_or oldest o) there

-- a read that failed has changed nothing, and was to fail where none was left out
module _ {D : Type 0} (members : disk.Ghosts D) (d d' : D) (at : ℕ)
    (row : CarriesOut members d d' (len_look at) Failed) where
  only_one : (before rest : List DiskCall) (call : DiskCall) → len_look at ≡ before ++ call ∷ rest →
      (before ≡ []) × (read_call (at + 11) 4 Done ≡ call)
  only_one [] rest call split = (refl, ap (first_or call) split)
  only_one (b ∷ before) rest call split =
      let none = ap (λ (calls : List DiskCall). length (drop 1 calls)) split in
      absurd (omega (arith, none, length-append before (call ∷ rest)))

  is_it : (row.goes.before ≡ []) × (read_call (at + 11) 4 Done ≡ row.goes.call)
  is_it = only_one row.goes.before row.goes.rest row.goes.call row.goes.split

  pub look_told : members.told d' ≡ members.told d
  look_told =
      subst (λ (c : DiskCall). FailsBy c.kind c.at c.bytes (option_map (story_behind row.goes.before) (members.told d))
      (members.told d')) (sym is_it.1) row.goes.told
      ∙ ap (λ (before : List DiskCall). option_map (story_behind before) (members.told d)) is_it.0
      ∙ same_told (members.told d)

  pub look_planned : IsSure (members.health d) (members.health d') 1 0 → IsPlanned (members.health d) 1
  look_planned sure =
      subst (λ (before : List DiskCall). IsPlanned (members.health d) (length before + 1)) is_it.0
      (row.goes.planned (sure_less (members.health d) (members.health d') (length (len_look at))
      (written_by (len_look at)) 1 0 (omega arith) (omega arith) sure))

-- the gate of its slot was closed
module _ {D : Type 0} (members : disk.Ghosts D) (d d' : D) (k : Known) (is : IsSpool members (in_hand d k))
    (one : 0 < k.len) where
  abbrev drop_place : ℕ
  drop_place = slot_place (k.first % k.slots)

  drop_below : k.first % k.slots < k.slots
  drop_below = mod_below k.first k.slots (omega (arith, is.some))

  pub drop_does : (answer : DiskAnswer) → HasMade members d d' (drop_calls drop_place) answer →
      Settles (members.told d) drop_place (0 ∷ []) (members.told d') answer → HasDropped members (in_hand d k) d' answer
  drop_does answer made settles = record {
    some = one;
    images = lasts (members.told d) (members.told d') drop_place (0 ∷ []) answer (IsSameOr dropped_in)
        (λ s told. (is.rests s told).settled)
        (λ s told. gate_within s k (k.first % k.slots) (is.rests s told) drop_below)
        (λ s told. one_byte s.now.bytes drop_place (IsSameOr dropped_in s.now.bytes)
        (drop_leaves s k (is.rests s told) is.room one))
        settles;
    made = made;
  }

  -- by a size that is its own where the disk tells
  module _ (size : ℕ)
      (told_size : (s : Story) (told : members.told d ≡ Some s) → size ≡ width (oldest s k (is.rests s told) is.room one))
    where
      abbrev pub less : Known
      less = record {
        version = k.version;
        slots = k.slots;
        first = k.first + size;
        next = k.next;
        len = k.len - 1;
        mark = k.mark;
      }

      less_rests : (s : Story) → members.told d ≡ Some s → Rests (with_sync (with_write drop_place (0 ∷ []) s)) less
      less_rests s told =
          let r = is.rests s told in
          rests_now s drop_place (0 ∷ []) (dropped_in s.now.bytes) less
          (gate_within s k (k.first % k.slots) r drop_below) r.inside (less_stands s k r is.room one 0 refl)
          r.version_is r.slots_are r.mark_is (omega (arith, r.low))
          (subst (λ (n : ℕ). IsChainFrom (k.first + n) k.next (dropped_in s.now.bytes).list) (sym (told_size s told))
          (less_chain s k r is.room one))
          (omega (arith, r.count, length-drop 1 (file_in s.now.bytes).list))

      module _ (some_size : 1 ≤ size) (within : k.first + size + (k.len - 1) ≤ k.next)
          (last : k.len ≡ 1 → k.first + size ≡ k.next)
          (made : HasMade members d d' (drop_calls drop_place) Done)
          (settles : Settles (members.told d) drop_place (0 ∷ []) (members.told d') Done) where
        pub drop_spool : IsSpool members (in_hand d' less)
        drop_spool = record {
          version = is.version;
          some = is.some;
          most = is.most;
          fits = subst (λ n. slot_place k.slots ≤ n) (sym made.size) is.fits;
          from = within;
          none = λ empty. last (omega (arith, empty, one));
          even = λ first. let even = is.even first in omega (arith, even, within, some_size, one);
          room = omega (arith, is.room);
          numbers = is.numbers;
          mark_most = is.mark_most;
          rests = after_settle (members.told d) (members.told d') drop_place (0 ∷ []) (λ t. Rests t less) less_rests
              settles;
        }

        pub drops_sized : DropsSized members (in_hand d k) size (Ok (in_hand d' less))
        drops_sized = (
          drop_does Done made settles,
          refl,
          λ s t told told'. subst (λ t. Ends t (dropped_in s.now.bytes))
              (done_at (members.told d) (members.told d') drop_place (0 ∷ []) s t settles told told')
              (record { settled = refl; stands = less_stands s k (is.rests s told) is.room one 0 refl }),
        )

        pub drops : Drops members (in_hand d k) (Ok (in_hand d' less))
        drops = (
          drop_does Done made settles,
          (
            size,
            record {
              some = some_size;
              is = λ s told m got. told_size s told ∙ get_first s k (is.rests s told) is.room one m got;
              within = within;
              last = last;
            },
            refl,
          ),
          drops_sized.2,
        )

  -- the size that is gone by is its own: by the length that was read, and by what is known of it
  pub read_size : (len : ℕ) → len_told (members.told d) drop_place len → (s : Story) (told : members.told d ≡ Some s) →
      first_size k len ≡ width (oldest s k (is.rests s told) is.room one)
  read_size len read s told = size_is s k (is.rests s told) is.room one len
      (read s told ∙ len_there s.now.bytes (k.first % k.slots))

  pub known_size : (size : ℕ) → IsFirstSize members (in_hand d k) size → (s : Story) (told : members.told d ≡ Some s) →
      size ≡ width (oldest s k (is.rests s told) is.room one)
  known_size size first s told =
      let m = oldest s k (is.rests s told) is.room one in
      let there = oldest_first s k (is.rests s told) is.room one in
      first.is s told m (ap (λ (list : List Message). slice_get list 0) there.1)

-- ---- the calls

module _ {D : Type 0} (members : disk.Ghosts D) (d d' : D) (at : ℕ) where
  module _ (answer : DiskAnswer) where
    pub drop_made : GoesBoth members d d' (len_look at) (byte_calls at 0) answer →
        HasMade members d d' (drop_calls at) answer
    drop_made (inl fails) =
        subst (λ (a : DiskAnswer). HasMade members d d' (drop_calls at) a) (sym fails.failed)
        (made_before members d d' (len_look at) (byte_calls at 0) fails.first.made)
    drop_made (inr goes) =
        made_then members d goes.mid d' (len_look at) (byte_calls at 0) answer goes.first.made goes.then_more.made

    pub drop_settles : GoesBoth members d d' (len_look at) (byte_calls at 0) answer →
        Settles (members.told d) at (0 ∷ []) (members.told d') answer
    drop_settles (inl fails) =
        subst (λ (a : DiskAnswer). Settles (members.told d) at (0 ∷ []) (members.told d') a) (sym fails.failed)
        (inl (look_told members d d' at fails.first))
    drop_settles (inr goes) =
        subst (λ (o : Option Story). Settles o at (0 ∷ []) (members.told d') answer)
        (goes.first.goes ∙ same_told (members.told d))
        (byte_settles members goes.mid d' at 0 answer goes.then_more)

-- the bounds of a size, by the word for it
pub sized : (k : Known) (len result : ℕ) → result ≡ first_size k len → 1 ≤ result →
    k.first + result + (k.len - 1) ≤ k.next → (k.len ≡ 1 → k.first + result ≡ k.next) →
    (1 ≤ first_size k len) × (k.first + first_size k len + (k.len - 1) ≤ k.next)
    × (k.len ≡ 1 → k.first + first_size k len ≡ k.next)
sized k len result is some within last = (
  subst (λ (n : ℕ). 1 ≤ n) is some,
  subst (λ (n : ℕ). k.first + n + (k.len - 1) ≤ k.next) is within,
  subst (λ (n : ℕ). k.len ≡ 1 → k.first + n ≡ k.next) is last,
)

-- where it failed, a crash leaves by the call
module _ {D : Type 0} (members : disk.Ghosts D) (d d' : D) (k : Known) (is : IsSpool members (in_hand d k))
    (one : 0 < k.len) where
  abbrev gate_place : ℕ
  gate_place = slot_place (k.first % k.slots)

  untouched : members.told d' ≡ members.told d → HoldsThrough (members.told d) (members.told d') IsSame
  untouched same s told = (
    s,
    same ∙ told,
    starts s (IsSame s.now.bytes) (λ image left.
        subst (λ (i : List ℕ). StandsFor i (file_in s.now.bytes))
        (sym (only_now s.now image (is.rests s told).settled left))
        (record { sound = (is.rests s told).sound; is = refl })),
  )

  pub drop_lost : ChosenLaw → GoesBoth members d d' (len_look gate_place) (byte_calls gate_place 0) Failed →
      HasLostDrop members (in_hand d k) d'
  drop_lost chosen (inl fails) = record {
    early = λ planned. untouched (look_told members d d' gate_place fails.first);
    late = λ sure none. absurd (none (look_planned members d d' gate_place fails.first
        (sure_less (members.health d) (members.health d') 1 0 3 1 (omega arith) (omega arith) sure)));
  }
  drop_lost chosen (inr goes) = record {
    early = λ planned. absurd (goes.first.made.calls.cause.unplanned planned);
    late = λ sure none. drop_loss members d d' k is one (λ s t told told' choice.
        let here = goes.first.goes ∙ same_told (members.told d) in
        byte_leaves members goes.mid d' gate_place 0 goes.then_more
        (sure_behind (members.health d) (members.health goes.mid) (members.health d') 1 0 goes.first.made.calls.cause 2 1 3
        1 (omega arith) (omega arith) sure) chosen
        (λ u told_u. (is.rests u (sym here ∙ told_u)).settled)
        (λ u told_u. let within = gate_within u k (k.first % k.slots) (is.rests u (sym here ∙ told_u))
        (mod_below k.first k.slots (omega (arith, is.some))) in omega (arith, within)) s t (here ∙ told) told' choice);
  }
