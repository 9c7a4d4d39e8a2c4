-- What a change of mark or floor makes of a spool, as far as it goes.
use Rattle.std.proofs.Common.{◌≡◌, ℕ, ◌+◌, ◌^◌, ◌<◌, ◌≤◌, Bool, true, false, List, Option, Some, None, refl, sym, ap}
use Rattle.std.proofs.Common.{subst, arith, inl, inr, ⊎_elim}
use Rattle.disk_base.specs.Cut.{image_of}
use Rattle.disk_base.specs.Story.{Story}
use Rattle.disk_base.specs.Through.{GoesThrough}
use Rattle.disk_base.specs.declared.disk.Disk as disk
use Rattle.disk_base.proofs.Moments.{through_more}
use Rattle.gate_cell.specs.Cell.{cell_in, with_value}
use Rattle.gate_cell.specs.Holds.{Holds, HoldsEither}
use Rattle.spool_file.specs.File.{Ends, SpoolFile, StandsFor, file_in}
use Rattle.spool_file.specs.Front.{floor_cell, mark_cell}
use Rattle.spool_file.specs.Slot.{slot_place}
use Rattle.spool_file.specs.declared.recovery.Known.{Known}
use Rattle.spool_slots.specs.Changes.{HasLostMove, HasValue, HoldsThrough, IsSame, IsSameOr}
use Rattle.spool_slots.specs.Files.{cleared_in, reserved_in}
use Rattle.spool_slots.specs.Losses.{HasLostValue, cell_left, file_left, gate_counts, names_spare}
use Rattle.spool_slots.specs.Spool.{IsSpool, Rests, in_hand}
use Rattle.spool_slots.proofs.Celled.{floored_anew, floored_as_it_was, marked_anew, marked_as_it_was}
use Rattle.spool_slots.proofs.Lasting.{rests_for}

-- a cell that makes one of two files of the bytes, by which of two cells it is
module _ (before after : Option Story) (at value : ℕ) (moved : List ℕ → SpoolFile)
    (old : (s : Story) → before ≡ Some s → (image : List ℕ) → Holds s.now at (cell_in s.now.bytes at) image →
    IsSame s.now.bytes image)
    (new : (s : Story) → before ≡ Some s → (image : List ℕ) →
    Holds s.now at (with_value value (cell_in s.now.bytes at)) image →
    StandsFor image (moved s.now.bytes)) where
  either_file : (s : Story) → before ≡ Some s → (image : List ℕ) →
      HoldsEither s.now at (cell_in s.now.bytes at) (with_value value (cell_in s.now.bytes at)) image →
      IsSameOr moved s.now.bytes image
  either_file s told image holds = ⊎_elim
      (λ is_old. inl (old s told image (record { others = holds.others; held = is_old })))
      (λ is_new. inr (new s told image (record { others = holds.others; held = is_new })))
      holds.held

  pub move_images : ((s : Story) → before ≡ Some s → GoesThrough s after (HoldsEither s.now at (cell_in s.now.bytes at)
      (with_value value (cell_in s.now.bytes at)))) → HoldsThrough before after (IsSameOr moved)
  move_images images s told = let goes = images s told in
      (goes.0, goes.1, through_more s goes.0 _ _ (either_file s told) goes.2)

  pub move_ends : ((s : Story) → before ≡ Some s → HasValue s at value after) → (s t : Story) → before ≡ Some s →
      after ≡ Some t → Ends t (moved s.now.bytes)
  move_ends values s t told told' = let is = values s told t told' in
      record { settled = is.0; stands = new s told t.now.bytes is.1 }

  left_file : (s : Story) → before ≡ Some s → (b : Bool) (image : List ℕ) →
      Holds s.now at (cell_left b (with_value value (cell_in s.now.bytes at)) (cell_in s.now.bytes at)) image →
      StandsFor image (file_left b (moved s.now.bytes) (file_in s.now.bytes))
  left_file s told true image holds = new s told image holds
  left_file s told false image holds = old s told image holds

  -- a disk that tells nothing begins to tell nothing
  pub rests_moved : (k : Known) → ((s t : Story) → before ≡ Some s → after ≡ Some t → Rests t k) →
      (before ≡ None → after ≡ None) →
      (t : Story) → after ≡ Some t → Rests t k
  rests_moved k rests untold t told' = by_story before refl where
    by_story : (o : Option Story) → before ≡ o → Rests t k
    by_story None is = absurd (grind (arith, untold is, told'))
    by_story (Some s) is = rests s t is told'

-- what a crash leaves of it
pub move_lost : {D : Type 0} (members : disk.Ghosts D) (d d' : D) (at value : ℕ) (moved : List ℕ → SpoolFile) →
    ((s : Story) → members.told d ≡ Some s → (image : List ℕ) → Holds s.now at (cell_in s.now.bytes at) image →
    IsSame s.now.bytes image) →
    ((s : Story) → members.told d ≡ Some s → (image : List ℕ) →
    Holds s.now at (with_value value (cell_in s.now.bytes at)) image →
    StandsFor image (moved s.now.bytes)) →
    ((s : Story) → members.told d ≡ Some s → HasLostValue s at value (members.health d) (members.health d')
    (members.told d')) →
    HasLostMove members d d' at moved
move_lost members d d' at value moved old new lost = record {
  early = λ planned s told. let goes = (lost s told).early planned in
      (goes.0, goes.1, through_more s goes.0 _ _ (old s told) goes.2);
  late = λ sure none s t told told' choice. left_file (members.told d) (members.told d') at value moved old new s told
      (gate_counts choice (names_spare (cell_in s.now.bytes at))) (image_of choice t)
      ((lost s told).late sure none t told' choice);
}

-- of a spool
module _ {D : Type 0} (members : disk.Ghosts D) (d d' : D) (k : Known) (is : IsSpool members (in_hand d k)) where
  pub same_marked : (s : Story) → members.told d ≡ Some s → (image : List ℕ) →
      Holds s.now mark_cell (cell_in s.now.bytes mark_cell) image →
      IsSame s.now.bytes image
  same_marked s told = marked_as_it_was s k (is.rests s told) is.room

  pub same_floored : (s : Story) → members.told d ≡ Some s → (image : List ℕ) →
      Holds s.now floor_cell (cell_in s.now.bytes floor_cell) image →
      IsSame s.now.bytes image
  same_floored s told = floored_as_it_was s k (is.rests s told) is.room

  -- the mark was moved on
  module _ (left : k.mark + 4096 ≤ 2 ^ 32) where
    abbrev reserved : Known
    reserved = record { version = k.version; slots = k.slots; first = k.first; next = k.next; len = k.len; mark = k.mark + 4096 }

    pub new_marked : (s : Story) → members.told d ≡ Some s → (image : List ℕ) →
        Holds s.now mark_cell (with_value (k.mark + 4096) (cell_in s.now.bytes mark_cell)) image →
        StandsFor image (reserved_in s.now.bytes)
    new_marked s told = marked_anew s k (is.rests s told) is.room left

    module _ (value : (s : Story) → members.told d ≡ Some s → HasValue s mark_cell (k.mark + 4096) (members.told d'))
      where
        reserved_rests : (s t : Story) → members.told d ≡ Some s → members.told d' ≡ Some t → Rests t reserved
        reserved_rests s t told told' =
            let r = is.rests s told in
            let there = value s told t told' in
            rests_for t (reserved_in s.now.bytes) reserved there.0 (omega (arith, r.inside, there.1.others.long))
            (new_marked s told t.now.bytes there.1) r.version_is r.slots_are
            (ap (λ (m : ℕ). m + 4096) r.mark_is) r.low r.chain r.count

        pub reserve_spool : members.size_is d' ≡ members.size_is d → (members.told d ≡ None → members.told d' ≡ None) →
            IsSpool members (in_hand d' reserved)
        reserve_spool size untold = record {
          version = is.version;
          some = is.some;
          most = is.most;
          fits = subst (λ n. slot_place k.slots ≤ n) (sym size) is.fits;
          from = is.from;
          none = is.none;
          even = is.even;
          room = is.room;
          numbers = is.numbers;
          mark_most = left;
          rests = rests_moved (members.told d) (members.told d') mark_cell (k.mark + 4096) reserved_in same_marked
              new_marked reserved reserved_rests untold;
        }

  -- the floor was moved up to the next number
  module _ (one : 0 < k.len) where
    abbrev cleared : Known
    cleared = record { version = k.version; slots = k.slots; first = k.next; next = k.next; len = 0; mark = k.mark }

    pub new_floored : (s : Story) → members.told d ≡ Some s → (image : List ℕ) →
        Holds s.now floor_cell (with_value k.next (cell_in s.now.bytes floor_cell)) image →
        StandsFor image (cleared_in k.next s.now.bytes)
    new_floored s told = floored_anew s k (is.rests s told) is.room one

    module _ (value : (s : Story) → members.told d ≡ Some s → HasValue s floor_cell k.next (members.told d')) where
      cleared_rests : (s t : Story) → members.told d ≡ Some s → members.told d' ≡ Some t → Rests t cleared
      cleared_rests s t told told' =
          let r = is.rests s told in
          let there = value s told t told' in
          rests_for t (cleared_in k.next s.now.bytes) cleared there.0 (omega (arith, r.inside, there.1.others.long))
          (new_floored s told t.now.bytes there.1) r.version_is r.slots_are r.mark_is
          (omega arith) refl refl

      pub clear_spool : members.size_is d' ≡ members.size_is d → (members.told d ≡ None → members.told d' ≡ None) →
          IsSpool members (in_hand d' cleared)
      clear_spool size untold = record {
        version = is.version;
        some = is.some;
        most = is.most;
        fits = subst (λ n. slot_place k.slots ≤ n) (sym size) is.fits;
        from = omega arith;
        none = λ empty. refl;
        even = λ one. omega arith;
        room = omega arith;
        numbers = is.numbers;
        mark_most = is.mark_most;
        rests = rests_moved (members.told d) (members.told d') floor_cell k.next (cleared_in k.next) same_floored
            new_floored cleared cleared_rests untold;
      }
