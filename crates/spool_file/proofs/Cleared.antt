-- The area is filled with zeros, part by part; all before it stays.
use Rattle.std.proofs.Common.{◌≡◌, ℕ, ◌+◌, ◌*◌, ◌<◌, ◌≤◌, ◌==◌, false, List, ◌++◌, length, take, drop, get_or, replicate, Option, Some}
use Rattle.std.proofs.Common.{refl, sym, ap, subst, ◌∙◌, arith, inl}
use Rattle.std.proofs.Math.Seq.{take-add}
use Rattle.std.proofs.lemmas.List.{drop-drop, get_or-take, length-replicate, replicate-append-replicate, take_all}
use Rattle.std.specs.Option.{option_map}
use Rattle.disk_base.specs.Story.{Story, bytes_at, with_part, with_write}
use Rattle.disk_base.proofs.Marks.{length-part}
use Rattle.spool_file.specs.Format.{ClearsTo, IsClearedTo}
use Rattle.spool_file.specs.Setup.{area_end}
use Rattle.spool_file.specs.Slot.{is_open, slot_in, slot_place}
use Rattle.spool_file.proofs.Fresh.{back}
use Rattle.spool_file.proofs.Fronts.{bytes_taken}
use Rattle.spool_file.proofs.Written.{bytes_beside, bytes_inside}

-- bytes before a place that are the same
module _ (xs ys : List ℕ) (n : ℕ) (same : take n xs ≡ take n ys) where
  pub bytes_before : (from long : ℕ) → from + long ≤ n → bytes_at xs from long ≡ bytes_at ys from long
  bytes_before from long within =
      sym (bytes_taken from long n xs within)
      ∙ ap (λ (zs : List ℕ). bytes_at zs from long) same
      ∙ bytes_taken from long n ys within

  pub closed_before : (k : ℕ) → slot_place k < n → is_open (slot_in ys k) ≡ false → is_open (slot_in xs k) ≡ false
  closed_before k below closed =
      ap (λ (gate : ℕ). gate == 90)
      (sym (get_or-take n xs (slot_place k) 0 below)
      ∙ ap (λ (zs : List ℕ). get_or zs (slot_place k) 0) same
      ∙ get_or-take n ys (slot_place k) 0 below)
      ∙ closed

-- one part more
module _ (slots : ℕ) (s t : Story) (k : ℕ) (part : List ℕ) (part_is : part ≡ replicate 16384 0)
    (is : IsClearedTo slots s t k) (below : k < 32) (fits : area_end slots ≤ length s.now.bytes) where
  abbrev begin : ℕ
  begin = slot_place slots

  abbrev place : ℕ
  place = begin + 16384 * k

  abbrev now : List ℕ
  now = with_part t.now.bytes place part

  part_long : length part ≡ 16384
  part_long = ap length part_is ∙ length-replicate {A = ℕ} 16384 0

  within : place + length part ≤ length t.now.bytes
  within = omega (arith, part_long, below, fits, is.long)

  here : take 16384 (drop (16384 * k) (drop begin now)) ≡ replicate 16384 0
  here =
      ap (λ (xs : List ℕ). take 16384 xs) (drop-drop (16384 * k) begin now)
      ∙ ap (λ (p : ℕ). bytes_at now p 16384) (omega arith)
      ∙ bytes_inside t.now.bytes part place within 0 16384 (omega (arith, part_long))
      ∙ take_all 16384 part (omega (arith, part_long))
      ∙ part_is

  pub one_cleared : IsClearedTo slots s (with_write place part t) (k + 1)
  one_cleared = record {
    long = length-part t.now.bytes part place within ∙ is.long;
    front = bytes_beside t.now.bytes part place within 0 begin (inl (omega arith)) ∙ is.front;
    zeros =
        ap (λ (n : ℕ). take n (drop begin now)) (omega arith)
        ∙ take-add (16384 * k) 16384 (drop begin now)
        ∙ ap (λ (xs : List ℕ). xs ++ take 16384 (drop (16384 * k) (drop begin now)))
        (bytes_beside t.now.bytes part place within begin (16384 * k) (inl (omega arith)) ∙ is.zeros)
        ∙ ap (λ (xs : List ℕ). replicate (16384 * k) 0 ++ xs) here
        ∙ replicate-append-replicate (16384 * k) 16384 0
        ∙ ap (λ (n : ℕ). replicate n 0) (omega arith);
  }

pub none_cleared : (slots : ℕ) (s : Story) → IsClearedTo slots s s 0
none_cleared slots s = record { long = refl; front = refl; zeros = refl }

pub clears_more : (o p q : Option Story) (slots k size : ℕ) (part : List ℕ) → part ≡ replicate 16384 0 →
    ((s : Story) → o ≡ Some s → length s.now.bytes ≡ size) → k < 32 → area_end slots ≤ size → ClearsTo o p slots k →
    q ≡ option_map (with_write (slot_place slots + 16384 * k) part) p → ClearsTo o q slots (k + 1)
clears_more o p q slots k size part part_is sized below fits so_far is t told =
    let before = back p q (with_write (slot_place slots + 16384 * k) part) t is told in
    let first = so_far before.0 before.1 in (
      first.0,
      first.1,
      subst (λ (u : Story). IsClearedTo slots first.0 u (k + 1)) (sym before.2)
          (one_cleared slots first.0 before.0 k part part_is first.2 below (omega (arith, fits, sized first.0 first.1))),
    )
