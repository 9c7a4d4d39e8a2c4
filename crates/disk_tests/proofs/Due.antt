-- That works with short messages have their turn in a list of messages of one slot.
use Rattle.std.proofs.Common.{◌≡◌, refl, ap, ◌∙◌, arith, ◌+◌, ◌^◌, ◌≤◌, ◌||◌, ◌==◌, nat_lt, Bool, true, false, ℕ, List}
use Rattle.std.proofs.Common.{[], ◌∷◌, length, None, Some, if◌then◌else◌}
use Rattle.std.proofs.lemmas.Bool.Decides.{nat_tests}
use Rattle.gem_spool.specs.Spool.{room_by, room_in}
use Rattle.gem_spool.specs.Works.{AreDue, count_after}
use Rattle.gem_spool.specs.declared.count.Count.{Count}
use Rattle.gem_spool.specs.declared.spool.Room.TheVariants.{Fits, Full, NumbersSpent}
use Rattle.gem_spool.specs.declared.works.Work.TheVariants.{DropOldest, Purge, Put}
use Rattle.spool_file.specs.Sizes.{is_too_long, slots_for}
use Rattle.spool_file.proofs.BodySizes.{one_slot}

-- a body of one slot finds room in any file
fits : (c : Count) (long : ℕ) → long ≤ 4081 → c.next + 1 ≤ 2 ^ 63 → c.used + 1 ≤ c.slots → room_in c long ≡ Fits
fits c long short numbers free =
    let one = one_slot long short in
    let spent : nat_lt (2 ^ 63) (c.next + slots_for long) ≡ false = grind (arith, nat_tests, one, numbers) in
    let full : nat_lt c.slots (c.used + slots_for long) ≡ false = grind (arith, nat_tests, one, free) in
    ap (λ (too : Bool). room_by c (if too then None else Some (slots_for long))) (narrow (c.version == 1))
    ∙ ap (λ (b : Bool). if b then NumbersSpent else (if nat_lt c.slots (c.used + slots_for long) then Full else Fits)) spent
    ∙ ap (λ (b : Bool). if b then Full else Fits) full
  where
    within : nat_lt c.slots (slots_for long) ≡ false
    within = let one = one_slot long short in grind (arith, nat_tests, one, free)

    narrow : (first : Bool) → (nat_lt (if first then 4081 else 1048576) long || nat_lt c.slots (slots_for long)) ≡ false
    narrow true =
        let most : nat_lt 4081 long ≡ false = grind (arith, nat_tests, short) in
        ap (λ (b : Bool). b || nat_lt c.slots (slots_for long)) most ∙ within
    narrow false =
        let most : nat_lt 1048576 long ≡ false = grind (arith, nat_tests, short) in
        ap (λ (b : Bool). b || nat_lt c.slots (slots_for long)) most ∙ within

module _ (c : Count) (body last : List ℕ) (short : length body ≡ 2) (brief : length last ≡ 2) (next : c.next ≤ 100)
  where
    one : slots_for (length body) ≡ 1
    one = one_slot (length body) (omega (arith, short))

    -- a put, a drop and a purge, and a put
    pub put-first : c.len ≡ 2 → c.used ≡ 2 → c.used ≤ c.slots → room_in c (length body) ≡ Fits
        → AreDue c (Put 6 11 body ∷ DropOldest 1 ∷ Purge ∷ Put 5 1 last ∷ [])
    put-first len used room fit =
        let more = count_after (count_after (count_after c (Put 6 11 body)) (DropOldest 1)) Purge in
        let last_fits = fits more (length last) (omega (arith, brief)) (omega (arith, next, one)) (omega (arith, used, room)) in (
          (refl, omega arith, fit),
          (
            (omega (arith, len), omega arith, omega (arith, len, used, one), λ none. absurd (omega (arith, len, none))),
            (tt, ((refl, omega arith, last_fits), tt)),
          ),
        )

    -- a drop and a put, a purge, and a put
    pub drop-first : c.len ≡ 1 → c.used ≡ 1 → c.used ≤ c.slots
        → AreDue c (DropOldest 1 ∷ Put 6 11 body ∷ Purge ∷ Put 5 1 last ∷ [])
    drop-first len used room =
        let dropped = count_after c (DropOldest 1) in
        let more = count_after (count_after dropped (Put 6 11 body)) Purge in
        let first_fits =
        fits dropped (length body) (omega (arith, short)) (omega (arith, next)) (omega (arith, used, room)) in
        let last_fits = fits more (length last) (omega (arith, brief)) (omega (arith, next, one)) (omega (arith, used, room)) in (
          (omega (arith, len), omega arith, omega (arith, len, used), λ single. omega (arith, used)),
          ((refl, omega arith, first_fits), (tt, ((refl, omega arith, last_fits), tt))),
        )
