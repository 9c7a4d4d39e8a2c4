-- That a work which is due is answered as done by the call that does it.
use Rattle.std.proofs.Common.{◌≡◌, ℕ, ◌<◌, List, [], ◌∷◌, length, Some, Ok, refl, sym, ap, ◌∙◌, arith}
use Rattle.std.specs.List.{slice_get}
use Rattle.disk_base.specs.Story.{Story}
use Rattle.disk_base.specs.declared.disk.Disk as disk
use Rattle.gem_spool.specs.Spool.{PutsInto, room_for}
use Rattle.gem_spool.specs.Standing.{Standing, Stands, count_of}
use Rattle.gem_spool.specs.Works.{AreSizedOn, Does, IsDue, IsSized, oldest_width}
use Rattle.gem_spool.specs.declared.spool.GemSpool.{GemSpool}
use Rattle.gem_spool.specs.declared.spool.PutAnswer.{PutAnswer}
use Rattle.gem_spool.specs.declared.spool.PutAnswer.TheVariants as answer
use Rattle.gem_spool.specs.declared.spool.Room.TheVariants as room
use Rattle.gem_spool.specs.declared.works.Work.TheVariants as work
use Rattle.gem_spool.proofs.Doing.{len_is, same_file}
use Rattle.spool_file.specs.File.{SpoolFile, file_in}
use Rattle.spool_file.specs.Slot.{Message, width}
use Rattle.spool_slots.specs.Changes.{Drops, IsFirstSize}
use Rattle.spool_slots.specs.Spool.{SpoolView}

module _ {D : Type 0} (members : disk.Ghosts D) (g h : GemSpool D) where
  -- a message for which there is room is stored
  pub stored : (stream function : ℕ) (body : List ℕ) (told : PutAnswer) →
      room_for g.spool (length body) ≡ room.Fits → PutsInto members g stream function body h told →
      Does members g (work.Put stream function body) (Ok h)
  stored stream function body (answer.Stored number) fits put = (put.0, put.1, refl, put.3, put.4)
  stored stream function body answer.Full fits put = absurd (full≢fits (sym put.1 ∙ fits)) where
    full≢fits : room.Full ≡ room.Fits → ⊥
    full≢fits is = cc
  stored stream function body answer.TooLong fits put = absurd (long≢fits (sym put.1 ∙ fits)) where
    long≢fits : room.TooLong ≡ room.Fits → ⊥
    long≢fits is = cc
  stored stream function body answer.NumbersSpent fits put = absurd (spent≢fits (sym put.1 ∙ fits)) where
    spent≢fits : room.NumbersSpent ≡ room.Fits → ⊥
    spent≢fits is = cc

-- ---- the size of the oldest message

first_wide : (list : List Message) (m : Message) → slice_get list 0 ≡ Some m → oldest_width list ≡ width m
first_wide [] m got = absurd (grind (arith, got))
first_wide (x ∷ list) m got = let same : x ≡ m = cc in ap width same

wide_first : (list : List Message) (size : ℕ) → 0 < length list →
    ((m : Message) → slice_get list 0 ≡ Some m → size ≡ width m) → size ≡ oldest_width list
wide_first [] size some is = absurd (omega (arith, some))
wide_first (x ∷ list) size some is = is x refl

module _ {D : Type 0} (members : disk.Ghosts D) (v : SpoolView D) where
  -- what a drop that is due frees is its size
  pub due_size : (slots : ℕ) → IsDue (count_of v) (work.DropOldest slots) →
      AreSizedOn members v (work.DropOldest slots ∷ []) → IsFirstSize members v slots
  due_size slots due sized = record {
    some = due.1;
    is = λ s told m got. (sized s told).0 ∙ first_wide (file_in s.now.bytes).list m got;
    within = omega (arith, due.1, due.2);
    last = λ single. let all = due.3 single in omega (arith, all, due.1);
  }

  -- and what a drop has freed
  pub freed_size : (w : SpoolView D) (done : Drops members v (Ok w)) (st : Standing) → Stands members v st →
      (s : Story) → members.told v.disk ≡ Some s → IsSized st.file.list (work.DropOldest done.1.0)
  freed_size w done st stands s told =
      let same = same_file members v st stands s told in
      let some = done.0.some in
      let count = len_is members v st stands in
      wide_first st.file.list done.1.0 (omega (arith, some, count)) (λ m got.
      done.1.1.is s told m (ap (λ (f : SpoolFile). slice_get f.list 0) (sym same) ∙ got))
