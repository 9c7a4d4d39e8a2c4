-- Slots of a message in a row, read one after the other.
use Rattle.std.proofs.Common.{◌≡◌, ℕ, zero, suc, ◌+◌, ◌-◌, ◌%◌, ◌<◌, ◌≤◌, List, [], ◌∷◌, ◌++◌, append-nil, append_assoc, drop, Some, ◌∙◌}
use Rattle.std.proofs.Common.{sym, ap, subst, arith}
use Rattle.disk_base.specs.Calls.{DiskCall, read_call}
use Rattle.disk_base.specs.Story.{Story, bytes_at}
use Rattle.disk_base.specs.declared.disk.Disk as disk
use Rattle.disk_base.specs.declared.disk.DiskAnswer.{DiskAnswer}
use Rattle.disk_base.specs.declared.disk.DiskAnswer.TheVariants.{Done, Failed}
use Rattle.gem_spool.specs.Oldest.{HasReadSlots, further_looks, oldest_looks, slot_looks}
use Rattle.gem_spool.proofs.First.{body_of}
use Rattle.spool_file.specs.Slot.{Slot, areas_from, slot_in, slot_place}
use Rattle.spool_slots.specs.Calls.{number_place}
use Rattle.spool_slots.specs.Changes.{HasLooked, HasMade, HasSlot}
use Rattle.spool_file.specs.declared.recovery.Known.{Known}
use Rattle.spool_slots.specs.Spool.{SpoolView, first_slot, in_hand, known_of}
use Rattle.spool_slots.proofs.Carrying.{made_before, made_then}

-- some and then more of them
pub looks_both : (slots number n m : ℕ) →
    slot_looks slots number (n + m) ≡ slot_looks slots number n ++ slot_looks slots (number + n) m
looks_both slots number zero m =
    let here : number ≡ number + 0 = omega arith in
    let all : zero + m ≡ m = omega arith in
    ap (slot_looks slots number) all ∙ ap (λ (x : ℕ). slot_looks slots x m) here
looks_both slots number (suc n) m =
    let next : number + 1 + n ≡ number + suc n = omega arith in
    let all : suc n + m ≡ suc (n + m) = omega arith in
    ap (slot_looks slots number) all
    ∙ ap (λ (row : List DiskCall). read_call (number_place slots number) 4096 Done ∷ row)
    (looks_both slots (number + 1) n m
    ∙ ap (λ (x : ℕ). slot_looks slots (number + 1) n ++ slot_looks slots x m) next)

pub areas_both : (slots : ℕ) (f : ℕ → Slot) (number n m : ℕ) →
    areas_from slots f number (n + m) ≡ areas_from slots f number n ++ areas_from slots f (number + n) m
areas_both slots f number zero m =
    let here : number ≡ number + 0 = omega arith in
    let all : zero + m ≡ m = omega arith in
    ap (areas_from slots f number) all ∙ ap (λ (x : ℕ). areas_from slots f x m) here
areas_both slots f number (suc n) m =
    let next : number + 1 + n ≡ number + suc n = omega arith in
    let all : suc n + m ≡ suc (n + m) = omega arith in
    ap (areas_from slots f number) all
    ∙ ap (λ (rest : List ℕ). (f (number % slots)).area ++ rest)
    (areas_both slots f (number + 1) n m
    ∙ ap (λ (x : ℕ). areas_from slots f (number + 1) n ++ areas_from slots f x m) next)
    ∙ sym (append_assoc (f (number % slots)).area (areas_from slots f (number + 1) n) (areas_from slots f (number + suc n) m))

-- the read of one more
module _ {D : Type 0} (members : disk.Ghosts D) (a b c : D) (slots number n : ℕ)
    (before : HasMade members a b (slot_looks slots number n) Done) where
  abbrev look : DiskCall
  look = read_call (number_place slots (number + n)) 4096 Done

  pub one_more_look : (more : ℕ) → more ≡ n + 1 → HasMade members b c (look ∷ []) Done →
      HasMade members a c (slot_looks slots number more) Done
  one_more_look more is made =
      subst (λ (k : ℕ). HasMade members a c (slot_looks slots number k) Done) (sym is)
      (subst (λ (row : List DiskCall). HasMade members a c row Done) (sym (looks_both slots number n 1))
      (made_then members a b c (slot_looks slots number n) (look ∷ []) Done before made))

  pub look_failed : (all rest : ℕ) → n + suc rest ≡ all → HasMade members b c (look ∷ []) Failed →
      HasMade members a c (slot_looks slots number all) Failed
  look_failed all rest is made =
      subst (λ (k : ℕ). HasMade members a c (slot_looks slots number k) Failed) is
      (subst (λ (row : List DiskCall). HasMade members a c row Failed) (sym (looks_both slots number n (suc rest)))
      (subst (λ (row : List DiskCall). HasMade members a c row Failed)
      (append_assoc (slot_looks slots number n) (look ∷ []) (slot_looks slots (number + n + 1) rest))
      (made_before members a c (slot_looks slots number n ++ look ∷ []) (slot_looks slots (number + n + 1) rest)
      (made_then members a b c (slot_looks slots number n) (look ∷ []) Failed before made))))

-- one more slot of the oldest message, behind the first ones, of which all is as it was
module _ {D : Type 0} (members : disk.Ghosts D) (v u w : SpoolView D) (number part : ℕ) (some : 1 ≤ part)
    (is : number ≡ v.first + part) (same : u ≡ in_hand u.disk (known_of v))
    (told : members.told u.disk ≡ members.told v.disk)
    (before : HasMade members v.disk u.disk (slot_looks v.slots (v.first + 1) (part - 1)) Done) where
  place_is : number_place u.slots number ≡ number_place v.slots (v.first + 1 + (part - 1))
  place_is =
      let at : number ≡ v.first + 1 + (part - 1) = omega (arith, is, some) in
      ap (λ (x : SpoolView D). number_place x.slots number) same ∙ ap (number_place v.slots) at

  pub piece_made : HasLooked members u w (number % u.slots) Done →
      HasMade members v.disk w.disk (slot_looks v.slots (v.first + 1) (part + 1 - 1)) Done
  piece_made looked =
      one_more_look members v.disk u.disk w.disk v.slots (v.first + 1) (part - 1) before (part + 1 - 1)
      (omega (arith, some))
      (subst (λ (at : ℕ). HasMade members u.disk w.disk (read_call at 4096 Done ∷ []) Done) place_is looked.made)

  pub piece_same : (k : ℕ) (looked : HasLooked members u w k Done) → w ≡ in_hand w.disk (known_of v)
  piece_same k looked = looked.same ∙ ap (λ (x : SpoolView D). in_hand w.disk (known_of x)) same

  pub piece_failed : (slots : ℕ) → part < slots → HasLooked members u w (number % u.slots) Failed →
      HasReadSlots members v w (further_looks v slots) Failed
  piece_failed slots below looked = record {
    same = looked.same ∙ ap (λ (x : SpoolView D). in_hand w.disk (known_of x)) same;
    told = looked.told ∙ told;
    made = look_failed members v.disk u.disk w.disk v.slots (v.first + 1) (part - 1) before (slots - 1)
        (slots - 1 - part) (omega (arith, below, some))
        (subst (λ (at : ℕ). HasMade members u.disk w.disk (read_call at 4096 Done ∷ []) Failed) place_is looked.made);
  }

  -- and the body with what it has of it
  pub piece_body : (s : Story) → members.told v.disk ≡ Some s → (into front : List ℕ) →
      HasSlot members u (number % u.slots) into →
      (front ++ areas_from v.slots (slot_in s.now.bytes) (v.first + 1) (part - 1)) ++ drop 15 into
      ≡ front ++ areas_from v.slots (slot_in s.now.bytes) (v.first + 1) (part + 1 - 1)
  piece_body s told_s into front slot =
      let f = slot_in s.now.bytes in
      let so_far = areas_from v.slots f (v.first + 1) (part - 1) in
      let next = v.first + 1 + (part - 1) in
      let place : slot_place (number % u.slots) ≡ slot_place (next % v.slots) = place_is in
      let area : drop 15 into ≡ (f (next % v.slots)).area =
      ap (λ (all : List ℕ). drop 15 all) (slot s (told ∙ told_s) ∙ ap (λ (p : ℕ). bytes_at s.now.bytes p 4096) place)
      ∙ body_of s.now.bytes (slot_place (next % v.slots)) in
      let more : part - 1 + 1 ≡ part + 1 - 1 = omega (arith, some) in
      append_assoc front so_far (drop 15 into)
      ∙ ap (λ (rest : List ℕ). front ++ (so_far ++ rest)) (area ∙ sym (append-nil (f (next % v.slots)).area))
      ∙ ap (λ (all : List ℕ). front ++ all) (sym (areas_both v.slots f (v.first + 1) (part - 1) 1))
      ∙ ap (λ (n : ℕ). front ++ areas_from v.slots f (v.first + 1) n) more

-- the first slot, and then what was read behind it
module _ {D : Type 0} (members : disk.Ghosts D) (v u w : SpoolView D) (looked : HasLooked members v u (first_slot v) Done)
  where
    front_same : known_of u ≡ known_of v
    front_same = ap (λ (x : SpoolView D). known_of x) looked.same

    further_is : (n : ℕ) → slot_looks u.slots (u.first + 1) n ≡ slot_looks v.slots (v.first + 1) n
    further_is n = ap (λ (x : SpoolView D). slot_looks x.slots (x.first + 1) n) looked.same

    -- with so many slots behind it
    pub reads_then : (n : ℕ) (answer : DiskAnswer) →
        HasReadSlots members u w (slot_looks u.slots (u.first + 1) n) answer →
        HasReadSlots members v w (oldest_looks v (suc n)) answer
    reads_then n answer reads = record {
      same = reads.same ∙ ap (λ (k : Known). in_hand w.disk k) front_same;
      told = reads.told ∙ looked.told;
      made = made_then members v.disk u.disk w.disk (read_call (number_place v.slots v.first) 4096 Done ∷ [])
          (slot_looks v.slots (v.first + 1) n) answer looked.made
          (subst (λ (row : List DiskCall). HasMade members u.disk w.disk row answer) (further_is n) reads.made);
    }

-- the first slot alone, where the disk failed
pub first_failed : {D : Type 0} (members : disk.Ghosts D) (v u : SpoolView D) →
    HasLooked members v u (first_slot v) Failed → (n : ℕ) → HasReadSlots members v u (oldest_looks v (suc n)) Failed
first_failed members v u looked n = record {
  same = looked.same;
  told = looked.told;
  made = made_before members v.disk u.disk (read_call (number_place v.slots v.first) 4096 Done ∷ [])
      (slot_looks v.slots (v.first + 1) n) looked.made;
}
