-- What the log of a disk in memory gives for its settled bytes and its marks.
use Rattle.std.proofs.Common.{◌≡◌, ℕ, ◌-◌, ◌+◌, ◌≤◌, List, [], ◌∷◌, length, take, drop, fold, refl, sym, ap, subst, ◌∙◌, arith}
use Rattle.std.proofs.lemmas.List.{length-take, length-take-le, take-take}
use Rattle.std.proofs.lemmas.Slice.{between_is}
use Rattle.disk_base.specs.Calls.{DiskCall}
use Rattle.disk_base.specs.Cut.{image_of, marks_of, settled_bytes}
use Rattle.disk_base.specs.Images.{IsImage}
use Rattle.disk_base.specs.Kept.{IsMemDisk, disk_state}
use Rattle.disk_base.specs.Log.{AreSized, AreWithin, bytes_after, bytes_under, calls_of, loose_behind}
use Rattle.disk_base.specs.MemDisk.{disk_size}
use Rattle.disk_base.specs.declared.cut.CutChoice.{CutChoice}
use Rattle.disk_base.specs.declared.disk.CallKind.{CallKind}
use Rattle.disk_base.specs.declared.disk.CallKind.TheVariants.{Attach, Read, Write, Sync}
use Rattle.disk_base.specs.declared.log.LoggedCall.{LoggedCall}
use Rattle.disk_base.specs.declared.mem_disk.MemDisk.TheInside.{Inside}
use Rattle.disk_base.proofs.Logs.{calls_take, loose_same, sized_drop, sized_of_within, sized_take, within_of_logged, within_take}
use Rattle.disk_base.proofs.Marks.{AreIn, image_is, length-part, loose_in}

-- no call changes how many bytes there are
length-under : (kind : CallKind) (at : ℕ) (part bytes : List ℕ) → at + length part ≤ length bytes →
    length (bytes_under kind at part bytes) ≡ length bytes
length-under Write at part bytes within = length-part bytes part at within
length-under Attach at part bytes within = refl
length-under Read at part bytes within = refl
length-under Sync at part bytes within = refl

length-replayed : (size : ℕ) (entries : List LoggedCall) (written bytes : List ℕ) → length bytes ≡ size →
    AreWithin size entries written → length (fold bytes_after bytes (calls_of entries written)) ≡ size
length-replayed size [] written bytes long are = long
length-replayed size (entry ∷ entries) written bytes long are =
    let part = take entry.count written in
    let next = bytes_under entry.kind entry.at part bytes in
    let count : length part ≡ entry.count = length-take-le entry.count written are.0 in
    let same : length next ≡ length bytes =
    length-under entry.kind entry.at part bytes (omega (arith, long, count, are.1)) in
    length-replayed size entries (drop entry.count written) next (same ∙ long) are.2

module _ (d : Inside) (is : IsMemDisk d) where
  within : AreWithin (length d.bytes.items) d.entries.items d.written.items
  within = within_of_logged (length d.bytes.items) d.entries.items d.written.items is.logged

  size_is : disk_size (disk_state d) ≡ length d.bytes.items
  size_is = ap length is.settled.bytes

  front_within : AreWithin (length d.base.items) (take d.synced d.entries.items) d.written.items
  front_within = subst (λ n. AreWithin n (take d.synced d.entries.items) d.written.items) (sym is.long)
      (within_take d.synced (length d.bytes.items) d.entries.items d.written.items within)

  settled_is : fold bytes_after d.base.items (calls_of (take d.synced d.entries.items) d.written.items) ≡ settled_bytes (disk_state d).story
  settled_is =
      let all = calls_of d.entries.items d.written.items in
      let less : d.synced ≤ d.live = omega (arith, is.settled.within, length-take d.live all) in
      ap (λ (cs : List DiskCall). fold bytes_after d.base.items cs) (calls_take d.synced d.entries.items d.written.items ∙ sym (take-take d.synced d.live all less))
      ∙ is.settled.settled

  loose_entries : take (d.live - d.synced) (drop d.synced d.entries.items) ≡ drop d.synced (take d.live d.entries.items)
  loose_entries = between_is d.entries.items d.synced d.live

  loose_sized : AreSized (length d.bytes.items) (take (d.live - d.synced) (drop d.synced d.entries.items))
  loose_sized =
      let size = length d.bytes.items in
      sized_take (d.live - d.synced) size (drop d.synced d.entries.items)
      (sized_drop d.synced size d.entries.items (sized_of_within size d.entries.items d.written.items within))

  loose_is : fold loose_behind [] (take (d.live - d.synced) (drop d.synced d.entries.items)) ≡ (disk_state d).story.now.loose
  loose_is =
      ap (λ (es : List LoggedCall). fold loose_behind [] es) loose_entries
      ∙ sym (loose_same d.synced d.live (length d.bytes.items) [] d.entries.items d.written.items within)
      ∙ is.settled.loose

  pub ranges_in : AreIn (disk_size (disk_state d)) (disk_state d).story.now.loose
  ranges_in =
      subst (λ n. AreIn n (disk_state d).story.now.loose) (sym size_is)
      (subst (λ loose. AreIn (length d.bytes.items) loose) loose_is
      (loose_in (length d.bytes.items) (take (d.live - d.synced) (drop d.synced d.entries.items)) [] loose_sized tt))

  settled_long : length (settled_bytes (disk_state d).story) ≡ disk_size (disk_state d)
  settled_long =
      sym (ap length settled_is)
      ∙ length-replayed (length d.base.items) (take d.synced d.entries.items) d.written.items d.base.items refl
      front_within
      ∙ is.long
      ∙ sym size_is

  -- whatever is chosen, a crash leaves one of the images
  pub images_are : (choice : CutChoice) → IsImage (disk_state d).story.now (image_of choice (disk_state d).story)
  images_are choice = image_is choice (disk_state d).story ranges_in settled_long

  -- the same of lists that are known to be these
  module _ (base : List ℕ) (entries : List LoggedCall) (written : List ℕ) (a : base ≡ d.base.items) (b : entries ≡ d.entries.items)
      (c : written ≡ d.written.items) where
    pub front_within_of : AreWithin (length base) (take d.synced entries) written
    front_within_of =
        subst (λ (x : List ℕ). AreWithin (length x) (take d.synced entries) written) (sym a)
        (subst (λ (es : List LoggedCall). AreWithin (length d.base.items) (take d.synced es) written) (sym b)
        (subst (λ (w : List ℕ). AreWithin (length d.base.items) (take d.synced d.entries.items) w) (sym c) front_within))

    pub settled_from : fold bytes_after base (calls_of (take d.synced entries) written) ≡ settled_bytes (disk_state d).story
    settled_from =
        ap (λ (x : List ℕ). fold bytes_after x (calls_of (take d.synced entries) written)) a
        ∙ ap (λ (es : List LoggedCall). fold bytes_after d.base.items (calls_of (take d.synced es) written)) b
        ∙ ap (λ (w : List ℕ). fold bytes_after d.base.items (calls_of (take d.synced d.entries.items) w)) c
        ∙ settled_is

  module _ (size : ℕ) (entries : List LoggedCall) (a : size ≡ length d.bytes.items) (b : entries ≡ d.entries.items) where
    pub loose_sized_of : AreSized size (take (d.live - d.synced) (drop d.synced entries))
    loose_sized_of =
        subst (λ (n : ℕ). AreSized n (take (d.live - d.synced) (drop d.synced entries))) (sym a)
        (subst (λ (es : List LoggedCall). AreSized (length d.bytes.items) (take (d.live - d.synced) (drop d.synced es))) (sym b) loose_sized)

    pub marks_from : marks_of size (fold loose_behind [] (take (d.live - d.synced) (drop d.synced entries))) ≡ marks_of (disk_size (disk_state d)) (disk_state d).story.now.loose
    marks_from =
        ap (λ (es : List LoggedCall). marks_of size (fold loose_behind [] (take (d.live - d.synced) (drop d.synced es)))) b
        ∙ ap (λ (loose : List (ℕ × ℕ)). marks_of size loose) loose_is
        ∙ ap (λ (n : ℕ). marks_of n (disk_state d).story.now.loose) (a ∙ sym size_is)
