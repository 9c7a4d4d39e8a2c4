-- That what is read of the oldest message is the first of the list.
use Rattle.std.proofs.Common.{◌≡◌, ℕ, ◌+◌, ◌-◌, ◌*◌, ◌/◌, ◌%◌, ◌<◌, ◌≤◌, ◌==◌, Bool, true, false, if◌then◌else◌, List}
use Rattle.std.proofs.Common.{◌++◌, drop, take, Some, refl, sym, ap, subst, ◌∙◌, arith}
use Rattle.std.proofs.lemmas.Bool.Decides.{nat_tests}
use Rattle.std.proofs.lemmas.List.{drop-drop, drop-take}
use Rattle.std.specs.List.{slice_get}
use Rattle.disk_base.specs.Story.{Story, bytes_at}
use Rattle.disk_base.specs.declared.disk.Disk as disk
use Rattle.disk_base.specs.declared.disk.DiskAnswer.{DiskAnswer}
use Rattle.disk_base.specs.declared.disk.DiskAnswer.TheVariants.{Done, Failed}
use Rattle.gem_spool.specs.Oldest.{known_head, message_in}
use Rattle.gem_spool.specs.Standing.{Standing, Stands, count_of}
use Rattle.spool_file.specs.File.{file_in, slots_in}
use Rattle.spool_file.specs.Sizes.{slots_for}
use Rattle.spool_file.specs.Slot.{Message, areas_from, slot_in, slot_place, width}
use Rattle.spool_file.specs.declared.recovery.Known.{Known}
use Rattle.spool_file.specs.declared.slot.SlotHead.{SlotHead}
use Rattle.spool_file.proofs.Others.{message_from}
use Rattle.spool_slots.specs.Changes.{IsListed, LooksFirst, LooksOn}
use Rattle.spool_slots.specs.Spool.{Rests, SpoolView, in_hand, known_of}
use Rattle.spool_slots.specs.declared.states.OldestAnswer.{OldestAnswer}
use Rattle.spool_slots.specs.declared.states.OldestAnswer.TheVariants as oldest
use Rattle.spool_slots.proofs.Dropped.{oldest as first_message, oldest_first, oldest_number, wide}
use Rattle.gem_spool.proofs.Stays.{same_chain}

-- the body stands behind the head
pub body_of : (bytes : List ℕ) (place : ℕ) → drop 15 (bytes_at bytes place 4096) ≡ bytes_at bytes (place + 15) 4081
body_of bytes place =
    drop-take 15 4081 (drop place bytes) ∙ ap (λ (all : List ℕ). take 4081 all) (drop-drop 15 place bytes)

-- ---- a head by what is known of its message

wide_all : (slots : ℕ) → 1 ≤ slots → slots_for (4081 * slots) ≡ slots
unfolding slots_for
wide_all slots some = by_test (4081 * slots == 0) refl where
  by_test : (b : Bool) → (4081 * slots == 0) ≡ b → (if b then 1 else (4081 * slots + 4080) / 4081) ≡ slots
  by_test true is = let none : 4081 * slots ≡ 0 = grind (arith, nat_tests, is) in absurd (omega (arith, none, some))
  by_test false is = omega arith

-- it takes so many slots in any case
pub known_wide : (head : SlotHead) (number slots : ℕ) → 1 ≤ slots → slots_for (known_head head number slots).len ≡ slots
known_wide head number slots some = by_test (slots_for head.len == slots) refl where
  by_test : (b : Bool) → (slots_for head.len == slots) ≡ b →
      slots_for (if b then head.len else 4081 * slots) ≡ slots
  by_test true is = grind (arith, nat_tests, is)
  by_test false is = wide_all slots some

-- and is as it was where it says so
known_same : (head : SlotHead) (number slots : ℕ) → head.number ≡ number → slots_for head.len ≡ slots →
    known_head head number slots ≡ head
known_same head number slots is wide_is =
    let test : (slots_for head.len == slots) ≡ true = grind (arith, nat_tests, wide_is) in
    ap (λ (b : Bool). record {
      number = number;
      stream = head.stream;
      function = head.function;
      len = if b then head.len else 4081 * slots;
    }) test
    ∙ ap (λ (n : ℕ). record { number = n; stream = head.stream; function = head.function; len = head.len }) (sym is)

-- ---- where the disk tells the message

module _ (s : Story) (k : Known) (rests : Rests s k) (room : k.next ≤ k.first + k.slots) (one : 0 < k.len) (slots : ℕ)
    (sized : (m : Message) → slice_get (file_in s.now.bytes).list 0 ≡ Some m → slots ≡ width m) (head : SlotHead)
    (listed : IsListed s head) (number : head.number ≡ k.first) where
  abbrev bytes : List ℕ
  bytes = s.now.bytes

  abbrev place : ℕ
  place = k.first % k.slots

  abbrev there : SlotHead
  there = (slot_in bytes place).head

  head_there : head ≡ there
  head_there =
      listed.head_is
      ∙ ap (λ (n : ℕ). (slot_in bytes (n % slots_in bytes)).head) number
      ∙ ap (λ (n : ℕ). (slot_in bytes (k.first % n)).head) (sym rests.slots_are)

  first_got : slice_get (file_in bytes).list 0 ≡ Some (first_message s k rests room one)
  first_got = ap (λ (list : List Message). slice_get list 0) (oldest_first s k rests room one).1

  -- it takes so many slots
  pub head_wide : slots_for head.len ≡ slots
  head_wide =
      ap (λ (h : SlotHead). slots_for h.len) head_there ∙ sym (wide s k rests room one)
      ∙ sym (sized (first_message s k rests room one) first_got)

  pub head_known : known_head head k.first slots ≡ head
  head_known = known_same head k.first slots number head_wide

  -- its message, by what its slots have of the body
  pub first_read : (into : List ℕ) → into ≡ bytes_at bytes (slot_place place) 4096 →
      slice_get (file_in bytes).list 0 ≡ Some (message_in k.first (record {
        stream = head.stream;
        function = head.function;
        body = take head.len (drop 15 into ++ areas_from k.slots (slot_in bytes) (k.first + 1) (slots - 1));
      }))
  first_read into is =
      let f = slot_in bytes in
      let further = areas_from k.slots f (k.first + 1) (slots - 1) in
      let area : drop 15 into ≡ (f place).area = ap (λ (all : List ℕ). drop 15 all) is ∙ body_of bytes (slot_place place) in
      let size : slots_for there.len ≡ slots = ap (λ (h : SlotHead). slots_for h.len) (sym head_there) ∙ head_wide in
      first_got
      ∙ ap Some (
      ap (λ (n : ℕ). message_from there (f place).area (areas_from k.slots f (n + 1) (slots_for there.len - 1)))
      (oldest_number s k rests room one)
      ∙ ap (λ (n : ℕ). message_from there (f place).area (areas_from k.slots f (k.first + 1) (n - 1))) size
      ∙ ap (λ (all : List ℕ). message_from there all further) (sym area)
      ∙ ap (λ (h : SlotHead). message_from h (drop 15 into) further) (sym head_there)
      ∙ ap (λ (n : ℕ). record {
        number = n;
        stream = head.stream;
        function = head.function;
        body = take head.len (drop 15 into ++ further);
      }) number)

-- ---- a look leaves all as it is

module _ {D : Type 0} (members : disk.Ghosts D) (v w : SpoolView D) (st : Standing) (stands : Stands members v st) where
  pub same_stands : (w ≡ in_hand w.disk (known_of v)) →
      members.told w.disk ≡ members.told v.disk → Stands members w st
  same_stands same told = record {
    count = ap (λ (x : SpoolView D). count_of x) same ∙ stands.count;
    mark = ap (λ (x : SpoolView D). x.mark) same ∙ stands.mark;
    chain = same_chain members v w v.mark same st stands;
    file = λ t is. stands.file t (sym told ∙ is);
  }

  pub look_stands : (before into : List ℕ) (answer : OldestAnswer) →
      LooksFirst members v w before into answer → Stands members w st
  look_stands before into (oldest.Found head) looks = same_stands looks.0.same looks.0.told
  look_stands before into oldest.Empty looks =
      subst (λ (x : SpoolView D). Stands members x st) (sym looks.0) stands
  look_stands before into oldest.Failed looks = same_stands looks.0.same looks.0.told

  pub part_stands : (number : ℕ) (into : List ℕ) (answer : DiskAnswer) → LooksOn members v w number into answer →
      Stands members w st
  part_stands number into Done looks = same_stands looks.0.same looks.0.told
  part_stands number into Failed looks = same_stands looks.same looks.told
