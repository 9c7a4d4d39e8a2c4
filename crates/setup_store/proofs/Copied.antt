-- A list that was written in the copy of the area that the cell doesn't name: the file is as it was.
use Rattle.std.proofs.Common.{◌≡◌, ◌+◌, ◌≤◌, ℕ, true, List, [], ◌∷◌, length, Option, Some, Ok, Err, ap}
use Rattle.std.proofs.Common.{subst, sym, refl, ◌∙◌}
use Rattle.std.specs.Option.{option_map}
use Rattle.disk_base.specs.Story.{Story}
use Rattle.disk_base.specs.Through.{EachImage}
use Rattle.disk_base.specs.declared.disk.Disk as disk
use Rattle.disk_base.specs.declared.disk.DiskAnswer.{DiskAnswer}
use Rattle.disk_base.specs.declared.disk.DiskAnswer.TheVariants.{Done, Failed}
use Rattle.disk_base.proofs.Moments.{only_now, starts, through_more}
use Rattle.gate_cell.specs.Cell.{cell_in, with_value}
use Rattle.gate_cell.specs.declared.cell.CellAnswer.TheVariants.{Value}
use Rattle.gate_cell.specs.declared.cell.CellAnswer.TheVariants as cell
use Rattle.spool_file.specs.File.{SpoolFile, StandsFor, file_in}
use Rattle.spool_file.specs.Setup.{area_in, copy_size, has_area, named_in, setup_cell}
use Rattle.spool_file.specs.Slot.{slot_place}
use Rattle.spool_slots.specs.Changes.{HasMade, HoldsThrough, IsSame}
use Rattle.spool_slots.specs.Files.{set_in, with_setup}
use Rattle.spool_slots.specs.Setup.{HasWritten, IsWritten, ReadsCell}
use Rattle.spool_slots.specs.Spool.{Rests, SpoolView, in_hand, known_of}
use Rattle.spool_slots.specs.declared.states.Spent.{Spent}
use Rattle.spool_slots.proofs.Carrying.{made_before, made_then}
use Rattle.spool_slots.proofs.Settling.{makes_settled, settle_calls}
use Rattle.setup_store.specs.Copies.{cell_look, copy_begin, copy_calls, kept_in, list_calls, list_place, names_list}
use Rattle.setup_store.specs.Copies.{spare_number, value_with}
use Rattle.setup_store.specs.OnDisk.{NamesList, WritesCopy, has_setup}
use Rattle.setup_store.proofs.Named.{file_same, names_none, names_written}

-- bytes stand for the same file, whose area has the list where the new value says
pub record IsCopied (value : ℕ) (bytes : List ℕ) (s t : Story) : Type 0 where
  pub same : file_in t.now.bytes ≡ file_in s.now.bytes
  pub names : option_map (named_in (value_with value bytes)) (area_in t.now.bytes) ≡ Some bytes

-- so that the new value keeps it
pub set_is : (value : ℕ) (bytes : List ℕ) (s t : Story) → IsCopied value bytes s t →
    value ≡ (cell_in s.now.bytes setup_cell).value →
    set_in (value_with value bytes) t.now.bytes ≡ kept_in bytes s.now.bytes
set_is value bytes s t copied is =
    let new = value_with value bytes in
    ap (λ (kept : Option (List ℕ)).
    with_setup (record { cell = with_value new (cell_in t.now.bytes setup_cell); bytes = kept }) (file_in t.now.bytes))
    copied.names
    ∙ ap (λ (f : SpoolFile). with_setup (record { cell = with_value new f.setup.cell; bytes = Some bytes }) f) copied.same
    ∙ ap (λ (n : ℕ). with_setup
    (record { cell = with_value (value_with n bytes) (cell_in s.now.bytes setup_cell); bytes = Some bytes })
    (file_in s.now.bytes)) is

-- what rests is all that a crash leaves
rests_each : (s : Story) (rests : s.now.loose ≡ []) → StandsFor s.now.bytes (file_in s.now.bytes) →
    EachImage (IsSame s.now.bytes) s.now
rests_each s rests stands image left =
    subst (λ (i : List ℕ). StandsFor i (file_in s.now.bytes)) (sym (only_now s.now image rests left)) stands

module _ {D : Type 0} (members : disk.Ghosts D) (v : SpoolView D)
    (rests : (s : Story) → members.told v.disk ≡ Some s → Rests s (known_of v)) where
  -- a disk that tells the same leaves the same
  pub same_images : (after : D) → members.told after ≡ members.told v.disk →
      HoldsThrough (members.told v.disk) (members.told after) IsSame
  same_images after same s told =
      let r = rests s told in
      (s, same ∙ told, starts s (IsSame s.now.bytes) (rests_each s r.settled (record { sound = r.sound; is = refl })))

  -- the list was written, as far as that went, and a crash leaves the file as it was
  pub record HasWrittenList (after : D) (value : ℕ) (bytes : List ℕ) (answer : DiskAnswer) : Type 0 where
    pub images : HoldsThrough (members.told v.disk) (members.told after) IsSame
    pub made : HasMade members v.disk after (list_calls v.slots value bytes) answer

  pub record HasCopied (after : D) (value : ℕ) (bytes : List ℕ) : Type 0 where
    pub written : HasWrittenList after value bytes Done
    pub copied : (s t : Story) → members.told v.disk ≡ Some s → members.told after ≡ Some t → IsCopied value bytes s t

  -- the cell wasn't read
  pub unread : (seen : SpoolView D) (value : ℕ) (bytes : List ℕ) → ReadsCell members v seen cell.Failed →
      HasWrittenList seen.disk value bytes Failed
  unread seen value bytes looks = record {
    images = same_images seen.disk looks.told;
    made = made_before members v.disk seen.disk cell_look (copy_calls (list_place v.slots (spare_number value)) bytes)
        looks.made;
  }

  module _ (sized : (s : Story) → members.told v.disk ≡ Some s → length s.now.bytes ≡ members.size_is v.disk)
      (has : has_setup members v ≡ true) (names : NamesList members v) (seen : SpoolView D) (value : ℕ)
      (looks : ReadsCell members v seen (Value value)) where
    has_told : (s : Story) → members.told v.disk ≡ Some s → has_area v.slots (length s.now.bytes) ≡ true
    has_told s told = ap (λ (n : ℕ). has_area v.slots n) (sized s told) ∙ has

    good : (s : Story) → members.told v.disk ≡ Some s → names_list value ≡ true
    good s told = ap names_list (looks.1 s told) ∙ names s told

    slots_are : seen.slots ≡ v.slots
    slots_are = ap (λ (w : SpoolView D). w.slots) looks.0.same

    -- the row of a list that isn't empty
    settled_made : (after : D) (byte : ℕ) (more : List ℕ) (answer : DiskAnswer) →
        HasWritten members seen after (copy_begin (spare_number value)) (byte ∷ more) answer →
        HasMade members v.disk after (list_calls v.slots value (byte ∷ more)) answer
    settled_made after byte more answer done =
        let at = slot_place seen.slots + copy_begin (spare_number value) in
        let bytes = byte ∷ more in
        made_then members v.disk seen.disk after cell_look
        (settle_calls (list_place v.slots (spare_number value)) bytes) answer looks.0.made
        (subst (λ (n : ℕ). HasMade members seen.disk after
        (settle_calls (slot_place n + copy_begin (spare_number value)) bytes) answer) slots_are
        (record {
          size = done.disk.size;
          calls = makes_settled members seen.disk after at bytes answer done.disk;
          listed = done.disk.listed;
          same_disk = done.disk.same_disk;
        }))

    written_images : (after : D) (bytes : List ℕ) (answer : DiskAnswer) → length bytes ≤ copy_size →
        HasWritten members seen after (copy_begin (spare_number value)) bytes answer →
        HoldsThrough (members.told v.disk) (members.told after) IsSame
    written_images after bytes answer short done s told =
        let goes = done.images s (looks.0.told ∙ told) in
        let at = copy_begin (spare_number value) in (
          goes.0,
          goes.1,
          through_more s goes.0 (IsWritten at (length bytes) s.now.bytes) (IsSame s.now.bytes)
              (λ image over. subst (λ (f : SpoolFile). StandsFor image f)
              (file_same s (known_of v) (rests s told) (has_told s told) value bytes short over.0 over.1
              (looks.1 s told) (good s told)) over.2) goes.2,
        )

    pub copy_done : (u : SpoolView D) (bytes : List ℕ) → length bytes ≤ copy_size →
        WritesCopy members seen (copy_begin (spare_number value)) bytes (Ok u) →
        HasCopied u.disk value bytes × (u ≡ in_hand u.disk (known_of v))
    copy_done u [] short same =
        let is : u ≡ seen = cc in
        subst (λ (w : SpoolView D). HasCopied w.disk value [] × (w ≡ in_hand w.disk (known_of v))) (sym is) (
          record {
            written = record { images = same_images seen.disk looks.0.told; made = looks.0.made };
            copied = λ s t told told'.
                subst (λ (x : Story). IsCopied value [] s x) (one s t (sym told ∙ sym looks.0.told ∙ told'))
                (record {
                  same = refl;
                  names = names_none s (known_of v) (rests s told) (has_told s told) value;
                });
          },
          looks.0.same,
        ) where
          one : (s t : Story) → Some s ≡ Some t → s ≡ t
          one s t same = cc
    copy_done u (byte ∷ more) short writes =
        let bytes = byte ∷ more in
        let at = copy_begin (spare_number value) in (
          record {
            written = record {
              images = written_images u.disk bytes Done short writes.0;
              made = settled_made u.disk byte more Done writes.0;
            };
            copied = λ s t told told'.
                let ends = writes.2 s t (looks.0.told ∙ told) told' in
                record {
                  same = sym ends.0.stands.is
                      ∙ file_same s (known_of v) (rests s told) (has_told s told) value bytes short bytes refl
                      (looks.1 s told) (good s told);
                  names = ap (λ (area : Option (List ℕ)). option_map (named_in (value_with value bytes)) area) ends.1
                      ∙ names_written s (known_of v) (rests s told) (has_told s told) value bytes short;
                };
          },
          writes.1 ∙ ap (λ (w : SpoolView D). in_hand u.disk (known_of w)) looks.0.same,
        )

    pub copy_failed : (spent : Spent D) (bytes : List ℕ) → length bytes ≤ copy_size →
        WritesCopy members seen (copy_begin (spare_number value)) bytes (Err spent) →
        HasWrittenList spent.disk value bytes Failed
    copy_failed spent [] short same = absurd (cc)
    copy_failed spent (byte ∷ more) short writes = record {
      images = written_images spent.disk (byte ∷ more) Failed short writes;
      made = settled_made spent.disk byte more Failed writes;
    }
