-- The parts of a message, written into the slots of its numbers.
use Rattle.std.proofs.Common.{◌≡◌, ◌⊎◌, inl, inr, ℕ, zero, suc, ◌+◌, ◌-◌, ◌*◌, ◌^◌, ◌%◌, ◌<◌, ◌≤◌, ◌==◌, Bool, true, false}
use Rattle.std.proofs.Common.{if◌then◌else◌, List, [], ◌∷◌, ◌++◌, drop, length, length-drop, take, ◌∙◌, refl, sym, ap}
use Rattle.std.proofs.Common.{subst, arith}
use Rattle.std.proofs.lemmas.Bool.{cases_eq, cases_lt}
use Rattle.std.proofs.lemmas.Bool.Decides.{nat_tests}
use Rattle.std.proofs.lemmas.List.{drop-drop, drop-take, length-take, length-take-le, take-take, take_all}
use Rattle.std.proofs.lemmas.List.Sums.{fold-append}
use Rattle.std.proofs.lemmas.Nat.{from_be_bytes-to_be_bytes_4, from_be_bytes-to_be_bytes_8}
use Rattle.std.specs.Int.{w32, from_be_bytes, to_be_bytes}
use Rattle.disk_base.specs.Calls.{sync_call}
use Rattle.disk_base.specs.Listed.{next_story}
use Rattle.disk_base.specs.Story.{Story, bytes_at, with_part}
use Rattle.disk_base.specs.declared.disk.DiskAnswer.TheVariants.{Done}
use Rattle.disk_base.proofs.Marks.{length-part}
use Rattle.spool_file.specs.Slot.{Message, areas_from, head_of, slot_in, slot_message, slot_place}
use Rattle.spool_file.specs.Sizes.{slots_for}
use Rattle.spool_file.specs.declared.slot.SlotHead.{SlotHead}
use Rattle.spool_file.proofs.BodySizes.{slots_hold, some_slots}
use Rattle.spool_file.proofs.Others.{message_from}
use Rattle.spool_file.proofs.Written.{bytes_beside, bytes_inside}
use Rattle.spool_slots.specs.Calls.{number_place, part_bytes, part_place, part_write, part_writes, parts_of}
use Rattle.spool_slots.specs.Calls.{piece_of}
use Rattle.spool_slots.specs.Carried.{story_behind}
use Rattle.spool_slots.specs.Put.{DifferInRow, IsBehindGate}
use Rattle.spool_slots.proofs.Going.{IsBut, KeepsEach, but_keeps, keeps_below, keeps_both}
use Rattle.spool_slots.proofs.Joined.{joined}

-- ---- where they stand

length-parts : (number stream function : ℕ) (body : List ℕ) →
    length (parts_of number stream function body) ≡ 14 + length (take 4081 body)
length-parts number stream function body = omega arith

pub some_place : (p : ℕ) → 1 ≤ part_place p
some_place p = by_test (p == 0) where
  by_test : (b : Bool) → 1 ≤ (if b then 1 else 15)
  by_test true = omega arith
  by_test false = omega arith

pub part_fits : (number stream function : ℕ) (body : List ℕ) (p : ℕ) →
    part_place p + length (part_bytes number stream function body p) ≤ 4096
part_fits number stream function body p = by_test (p == 0) where
  by_test : (b : Bool) →
      (if b then 1 else 15) + length (if b then parts_of number stream function body else piece_of body p) ≤ 4096
  by_test true = omega (arith, length-parts number stream function body, length-take 4081 body)
  by_test false = omega (arith, length-take 4081 (drop (4081 * p) body))

module _ (u : Story) (slots number stream function : ℕ) (body : List ℕ) (n : ℕ)
    (fits : (p : ℕ) → number_place slots (number + p) + 4096 ≤ length u.now.bytes) where
  abbrev bytes : List ℕ
  bytes = u.now.bytes

  abbrev at : ℕ → ℕ
  at p = number_place slots (number + p) + part_place p

  abbrev part : ℕ → List ℕ
  part p = part_bytes number stream function body p

  part_within : (p : ℕ) → at p + length (part p) ≤ length bytes
  part_within p = omega (arith, fits p, part_fits number stream function body p)

  -- at other places than behind the gates they change nothing
  part_keeps : (p : ℕ) → p < n →
      KeepsEach (IsBut (IsBehindGate slots number n) bytes) (length bytes) (part_write slots number stream function body p)
  part_keeps p below = (
    but_keeps (IsBehindGate slots number n) bytes (part p) (at p) (length bytes) refl (part_within p)
        (λ place from to. (
          p,
          below,
          omega (arith, from, some_place p),
          omega (arith, to, part_fits number stream function body p),
        )),
    tt,
  )

  pub parts_keep : KeepsEach (IsBut (IsBehindGate slots number n) bytes) (length bytes)
      (part_writes slots number stream function body n ++ sync_call Done ∷ [])
  parts_keep =
      keeps_both (IsBut (IsBehindGate slots number n) bytes) (length bytes)
      (part_writes slots number stream function body n) (sync_call Done ∷ [])
      (keeps_below (IsBut (IsBehindGate slots number n) bytes) (length bytes)
      (part_write slots number stream function body) n part_keeps) (tt, tt)

  -- the first k of them are there
  module _ (differ : DifferInRow slots number n) where
    abbrev There : (k : ℕ) → Story → Type 0
    There k t = (length t.now.bytes ≡ length bytes)
        × ((p : ℕ) → p < k → bytes_at t.now.bytes (at p) (length (part p)) ≡ part p)

    module _ (k : ℕ) (below : k < n) (t : Story) (is : There k t) where
      abbrev now : List ℕ
      now = with_part t.now.bytes (at k) (part k)

      within : at k + length (part k) ≤ length t.now.bytes
      within = omega (arith, part_within k, is.0)

      here : bytes_at now (at k) (length (part k)) ≡ part k
      here =
          let place : at k ≡ at k + 0 = omega arith in
          ap (λ (q : ℕ). bytes_at now q (length (part k))) place
          ∙ bytes_inside t.now.bytes (part k) (at k) within 0 (length (part k)) (omega arith)
          ∙ take_all (length (part k)) (part k) (omega arith)

      -- two parts of different slots lie apart
      apart : (p : ℕ) → p < n → (p ≡ k → ⊥) → ((number + p) % slots < (number + k) % slots)
          ⊎ ((number + k) % slots ≤ (number + p) % slots) →
          (at p + length (part p) ≤ at k) ⊎ (at k + length (part k) ≤ at p)
      apart p less other (inl before) = inl (omega (arith, before, part_fits number stream function body p))
      apart p less other (inr behind) =
          by_slot (cases_eq ((number + p) % slots) ((number + k) % slots)) where
            by_slot : ((number + p) % slots ≡ (number + k) % slots)
                ⊎ ((number + p) % slots ≡ (number + k) % slots → ⊥) →
                (at p + length (part p) ≤ at k) ⊎ (at k + length (part k) ≤ at p)
            by_slot (inl same) = absurd (other (differ p k less below same))
            by_slot (inr differs) =
                let after : (number + k) % slots < (number + p) % slots = grind (arith, behind, differs) in
                inr (omega (arith, after, part_fits number stream function body k))

      there_by : (p : ℕ) → p < suc k → (p ≡ k) ⊎ (p ≡ k → ⊥) → bytes_at now (at p) (length (part p)) ≡ part p
      there_by p less (inl last) = subst (λ (q : ℕ). bytes_at now (at q) (length (part q)) ≡ part q) (sym last) here
      there_by p less (inr other) =
          let before : p < k = grind (arith, less, other) in
          bytes_beside t.now.bytes (part k) (at k) within (at p) (length (part p))
          (apart p (omega (arith, before, below)) other (cases_lt ((number + p) % slots) ((number + k) % slots)))
          ∙ is.1 p before

      there_on : There (suc k) (story_behind (part_write slots number stream function body k) t)
      there_on = (length-part t.now.bytes (part k) (at k) within ∙ is.0, λ p less. there_by p less (cases_eq p k))

    pub there_to : (k : ℕ) → k ≤ n → There k (story_behind (part_writes slots number stream function body k) u)
    there_to zero within = (refl, λ p below. absurd (omega (arith, below)))
    there_to (suc k) within =
        subst (There (suc k))
        (sym (fold-append next_story u (part_writes slots number stream function body k)
        (part_write slots number stream function body k)))
        (there_on k (omega (arith, within)) (story_behind (part_writes slots number stream function body k) u)
        (there_to k (omega (arith, within))))

-- ---- what they say

abbrev pub head_with : (number stream function len : ℕ) → SlotHead
head_with number stream function len =
    record { number = number; stream = stream; function = function; len = len }

abbrev pub message_with : (number stream function : ℕ) → List ℕ → Message
message_with number stream function body =
    record { number = number; stream = stream; function = function; body = body }

head_parts : (number stream function : ℕ) (body : List ℕ) → number < 2 ^ 64 → stream < 128 → length body < 2 ^ 32 →
    head_of (take 14 (parts_of number stream function body)) ≡ head_with number stream function (length body)
head_parts number stream function body low few short =
    let s : (128 + stream) % 128 ≡ stream = omega (arith, few) in
    let len = from_be_bytes w32 (to_be_bytes w32 (length body)) in
    ap (λ (x : ℕ). head_with x ((128 + stream) % 128) function len) (from_be_bytes-to_be_bytes_8 number low)
    ∙ ap (λ (x : ℕ). head_with number x function len) s
    ∙ ap (λ (x : ℕ). head_with number stream function x) (from_be_bytes-to_be_bytes_4 (length body) short)

-- in bytes in which they stand
module _ (t : List ℕ) (slots number stream function : ℕ) (body : List ℕ) (low : number < 2 ^ 64) (few : stream < 128)
    (short : length body < 2 ^ 32) (some : 1 ≤ slots)
    (fits : (p : ℕ) → number_place slots (number + p) + 4096 ≤ length t)
    (there : (p : ℕ) → p < slots_for (length body) →
    bytes_at t (number_place slots (number + p) + part_place p) (length (part_bytes number stream function body p))
    ≡ part_bytes number stream function body p) where
  abbrev slot : ℕ
  slot = number % slots

  abbrev first : List ℕ
  first = parts_of number stream function body

  first_there : bytes_at t (slot_place slot + 1) (length first) ≡ first
  first_there =
      let here : number + 0 ≡ number = omega arith in
      subst (λ (x : ℕ). bytes_at t (number_place slots x + 1) (length first) ≡ first) here
      (there 0 (omega (arith, some_slots (length body))))

  first_long : length first ≡ 14 + length (take 4081 body)
  first_long = length-parts number stream function body

  pub head_now : (slot_in t slot).head ≡ head_with number stream function (length body)
  head_now =
      ap head_of (
      sym (take-take 14 (length first) (drop (slot_place slot + 1) t) (omega (arith, first_long)))
      ∙ ap (λ (xs : List ℕ). take 14 xs) first_there)
      ∙ head_parts number stream function body low few short

  -- each piece stands in the area of its slot
  area_long : (p : ℕ) → length (slot_in t ((number + p) % slots)).area ≡ 4081
  area_long p = length-take-le 4081 (drop (number_place slots (number + p) + 15) t)
      (omega (arith, fits p, length-drop (number_place slots (number + p) + 15) t))

  first_piece : take (length (piece_of body 0)) (slot_in t slot).area ≡ piece_of body 0
  first_piece =
      let m = length (take 4081 body) in
      let place : slot_place slot + 15 ≡ slot_place slot + 1 + 14 = omega arith in
      take-take m 4081 (drop (slot_place slot + 15) t) (omega (arith, length-take 4081 body))
      ∙ ap (λ (q : ℕ). take m (drop q t)) place
      ∙ ap (λ (xs : List ℕ). take m xs) (sym (drop-drop 14 (slot_place slot + 1) t))
      ∙ sym (drop-take 14 m (drop (slot_place slot + 1) t))
      ∙ ap (λ (n : ℕ). drop 14 (bytes_at t (slot_place slot + 1) n)) (sym first_long)
      ∙ ap (λ (xs : List ℕ). drop 14 xs) first_there

  piece_by : (p : ℕ) → (p ≡ 0) ⊎ (p ≡ 0 → ⊥) → p < slots_for (length body) →
      take (length (piece_of body p)) (slot_in t ((number + p) % slots)).area ≡ piece_of body p
  piece_by p (inl none) below =
      let here : number ≡ number + p = omega (arith, none) in
      subst (λ (q : ℕ). take (length (piece_of body q)) (slot_in t ((number + p) % slots)).area ≡ piece_of body q)
      (sym none)
      (subst (λ (x : ℕ). take (length (piece_of body 0)) (slot_in t (x % slots)).area ≡ piece_of body 0) here first_piece)
  piece_by p (inr more) below =
      let test : (p == 0) ≡ false = grind (arith, nat_tests, more) in
      let is : bytes_at t (number_place slots (number + p) + 15) (length (piece_of body p)) ≡ piece_of body p =
      subst (λ (b : Bool). bytes_at t (number_place slots (number + p) + (if b then 1 else 15))
      (length (if b then parts_of number stream function body else piece_of body p))
      ≡ (if b then parts_of number stream function body else piece_of body p)) test (there p below) in
      take-take (length (piece_of body p)) 4081 (drop (number_place slots (number + p) + 15) t)
      (omega (arith, length-take 4081 (drop (4081 * p) body))) ∙ is

  -- so the message that stands there is this one
  pub message_now : slot_message slots (slot_in t) slot ≡ message_with number stream function body
  message_now =
      let f = slot_in t in
      let size = slots_for (length body) in
      let least = some_slots (length body) in
      let hold = slots_hold (length body) in
      ap (λ (h : SlotHead). message_from h (f slot).area (areas_from slots f (h.number + 1) (slots_for h.len - 1))) head_now
      ∙ ap (λ (b : List ℕ). message_with number stream function b)
      (joined f slots number (suc (size - 1)) body (omega (arith, least, hold))
      (λ p below. area_long p)
      (λ p below. piece_by p (cases_eq p 0) (omega (arith, below, least))))
