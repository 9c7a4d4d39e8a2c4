-- That each call makes of the list what it says.
use Rattle.std.proofs.Common.{◌≡◌, inl, inr, ℕ, ◌++◌, ◌∷◌, [], List, length, drop, Some, Ok, sym, ap, ◌∙◌}
use Rattle.disk_base.specs.Story.{Story}
use Rattle.disk_base.specs.declared.disk.Disk as disk
use Rattle.disk_base.specs.declared.disk.DiskAnswer.{DiskAnswer}
use Rattle.disk_base.specs.declared.disk.DiskAnswer.TheVariants.{Done, Failed}
use Rattle.disk_base.proofs.Told.{told_already}
use Rattle.gem_spool.specs.Spool.{HasList, numbered, room_for}
use Rattle.gem_spool.specs.declared.spool.Room.TheVariants.{Fits}
use Rattle.gem_spool.proofs.Putting.{put_ends}
use Rattle.spool_file.specs.File.{Ends, SpoolFile, file_in}
use Rattle.spool_file.specs.Slot.{Message}
use Rattle.spool_slots.specs.Changes.{Clears, HasDropped, LooksFirst, LooksOn, MovesMark, Reserves, Seals, Stages}
use Rattle.spool_slots.specs.Files.{dropped_in}
use Rattle.spool_slots.specs.Spool.{SpoolView, StagedView}
use Rattle.spool_slots.specs.declared.states.OldestAnswer.{OldestAnswer}
use Rattle.spool_slots.specs.declared.states.OldestAnswer.TheVariants as oldest

module _ {D : Type 0} (members : disk.Ghosts D) (v : SpoolView D) where
  -- a disk that tells its bytes told them before
  module _ (w : SpoolView D) (done : HasDropped members v w.disk Done)
      (ends : (s t : Story) → members.told v.disk ≡ Some s → members.told w.disk ≡ Some t →
      Ends t (dropped_in s.now.bytes)) where
    pub drop_told : (t : Story) → members.told w.disk ≡ Some t → (s : Story) × (members.told v.disk ≡ Some s)
    drop_told t told = told_already (members.told v.disk) (members.told w.disk) t done.made.same_disk.2 told

    pub drop_list : (list : List Message) → HasList members v list → HasList members w (drop 1 list)
    drop_list list has = record {
      is = λ t told. let old = drop_told t told in
          sym (ap (λ (f : SpoolFile). f.list) (ends old.0 t old.1 told).stands.is)
          ∙ ap (λ (l : List Message). drop 1 l) (has.is old.0 old.1);
    }

  pub reserve_told : (after : D) → MovesMark members v after Done → (t : Story) → members.told after ≡ Some t →
      (s : Story) × (members.told v.disk ≡ Some s)
  reserve_told after done t told =
      told_already (members.told v.disk) (members.told after) t done.1.0.same_disk.2 told

  pub reserve_list : (w : SpoolView D) (base : ℕ) → Reserves members v (Ok (w, base)) → (list : List Message) →
      HasList members v list → HasList members w list
  reserve_list w base done list has = record {
    is = λ t told. let old = reserve_told w.disk done.0 t told in
        sym (ap (λ (f : SpoolFile). f.list) (done.0.1.1 old.0 t old.1 told).stands.is) ∙ has.is old.0 old.1;
  }

  pub look_list : (w : SpoolView D) (before into : List ℕ) (answer : OldestAnswer) →
      LooksFirst members v w before into answer → (list : List Message) → HasList members v list →
      HasList members w list
  look_list w before into (oldest.Found head) looks list has =
      record { is = λ t told. has.is t (sym looks.0.told ∙ told) }
  look_list w before into oldest.Empty looks list has =
      record { is = λ t told. has.is t (sym (ap (λ (x : SpoolView D). members.told x.disk) looks.0) ∙ told) }
  look_list w before into oldest.Failed looks list has =
      record { is = λ t told. has.is t (sym looks.0.told ∙ told) }

  pub part_list : (w : SpoolView D) (number : ℕ) (into : List ℕ) (answer : DiskAnswer) →
      LooksOn members v w number into answer → (list : List Message) → HasList members v list → HasList members w list
  part_list w number into Done looks list has = record { is = λ t told. has.is t (sym looks.0.told ∙ told) }
  part_list w number into Failed looks list has = record { is = λ t told. has.is t (sym looks.told ∙ told) }

module _ {D : Type 0} (members : disk.Ghosts D) where
  pub put_told : (v : SpoolView D) (stream function : ℕ) (body : List ℕ) (u : StagedView D) (w : SpoolView D) →
      Stages members v stream function body (Ok u) → Seals members u (Ok w) → (t : Story) →
      members.told w.disk ≡ Some t → (s : Story) × (members.told v.disk ≡ Some s)
  put_told v stream function body u w staged sealed t told =
      let mid = told_already (members.told u.spool.disk) (members.told w.disk) t sealed.0.disk.same_disk.2 told in
      told_already (members.told v.disk) (members.told u.spool.disk) mid.0 staged.0.made.same_disk.2 mid.1

  pub put_list : (v : SpoolView D) (stream function : ℕ) (body : List ℕ) → room_for v (length body) ≡ Fits →
      (u : StagedView D) (w : SpoolView D) → Stages members v stream function body (Ok u) → Seals members u (Ok w) →
      (list : List Message) → HasList members v list →
      HasList members w (list ++ numbered v stream function body ∷ [])
  put_list v stream function body fits u w staged sealed list has = record {
    is = λ t told.
        let old = put_told v stream function body u w staged sealed t told in
        sym (ap (λ (f : SpoolFile). f.list)
        (put_ends members v stream function body fits u staged w sealed old.0 t old.1 told).stands.is)
        ∙ ap (λ (l : List Message). l ++ numbered v stream function body ∷ []) (has.is old.0 old.1);
  }

  pub clear_told : (v w : SpoolView D) → Clears members v (Ok w) → (t : Story) → members.told w.disk ≡ Some t →
      (s : Story) × (members.told v.disk ≡ Some s)
  clear_told v w (inl none) t told = (t, sym (ap (λ (x : SpoolView D). members.told x.disk) none.2) ∙ told)
  clear_told v w (inr moved) t told =
      told_already (members.told v.disk) (members.told w.disk) t moved.0.1.0.same_disk.2 told

  pub clear_list : (v w : SpoolView D) → Clears members v (Ok w) → HasList members w []
  clear_list v w done = record { is = go done }
    where
      go : Clears members v (Ok w) → (t : Story) → members.told w.disk ≡ Some t → (file_in t.now.bytes).list ≡ []
      go (inl none) t told = none.3 t (sym (ap (λ (x : SpoolView D). members.told x.disk) none.2) ∙ told)
      go (inr moved) t told =
          let old = clear_told v w (inr moved) t told in
          sym (ap (λ (f : SpoolFile). f.list) (moved.0.1.1 old.0 t old.1 told).stands.is)
