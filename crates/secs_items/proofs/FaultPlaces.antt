-- Where the first fault of a whole input stands.
use Rattle.std.proofs.Common.{◌≡◌, ◌≢◌, ℕ, suc, ◌+◌, ◌-◌, ◌%◌, List, [], ◌∷◌, ◌++◌, length, take, drop, Option, Some, None, Result, Ok, Err, refl, sym, ap, subst, ◌∙◌, append_assoc, length-append, length-drop, arith}
use Rattle.std.specs.Prelude.{slice_index}
use Rattle.std.proofs.Math.Seq.{get_or-append_seam}
use Rattle.std.proofs.lemmas.List.{append-nil, take-append-drop, take_at}
use Rattle.secs_items.specs.declared.item.Item.{Item}
use Rattle.secs_items.specs.declared.item_fault.ItemFault.{ItemFault}
use Rattle.secs_items.specs.declared.item_fault.ItemFault.TheVariants as fault
use Rattle.secs_items.specs.Faults.{Begins, BreaksAt, EndsAt, FaultStands, IsCutShort}
use Rattle.secs_items.specs.Reading.{after_item, fault_after, first_fault, item_at}
use Rattle.secs_items.specs.Spelling.{Spells}
use Rattle.secs_items.proofs.Faults.{item_rest, read_trailing, rest_of}
use Rattle.secs_items.proofs.HeadStops.{item_stops}
use Rattle.secs_items.proofs.ItemLaws.{item_takes}
use Rattle.secs_items.proofs.Numbers.{bytes_fit}
use Rattle.secs_items.proofs.SpellLaws.{no_prefix, none_spells, spells_front, spells_read}
use Rattle.secs_items.proofs.Stops.{AllBytes, Goes, Stops, StopsAt}
use Rattle.secs_items.proofs.Viewing.{from_rest}

-- ---- spelled and read as a whole

spelled_passes : (item : Item) (bytes : List ℕ) → Spells item bytes → after_item 0 64 bytes ≡ Ok []
spelled_passes item bytes s = item_rest 0 64 bytes ∙ ap rest_of (spells_read 0 item bytes s)

-- what is read up to a rest is spelled by what stands before it
front_spelled : (total : ℕ) (bytes rest : List ℕ) → AllBytes bytes → after_item total 64 bytes ≡ Ok rest
    → (item : Item) × (front : List ℕ) × (bytes ≡ front ++ rest) × Spells item front
unfolding Spells
front_spelled total bytes rest fit e =
    let r = from_rest (item_at total 64 bytes) rest (sym (item_rest total 64 bytes) ∙ e) in
    let t = item_takes total 64 bytes (r.0, rest) (bytes_fit bytes fit) r.1 in
    (r.0, t.front, t.parts, t.spelled)

goes_spelled : (front : List ℕ) → Goes (after_item 0 64) front → Begins front
goes_spelled front g =
    let s = front_spelled 0 (front ++ g.0) [] g.1 g.2 in
    (g.0, s.0, subst (Spells s.0) (sym (s.2 ∙ append-nil s.1)) s.3)

never_both : (r : Result (List ℕ) ItemFault) (rest : List ℕ) (e : ItemFault) → r ≡ Ok rest → r ≡ Err e → ⊥
never_both r rest e good bad = cc

-- ---- each fault where it stands

breaks : (bytes : List ℕ) (at n : ℕ) (count : ℕ → ℕ) (s : StopsAt (after_item 0 64) (length bytes) bytes at count) → count s.format ≡ n
    → BreaksAt at (1 + n) bytes
breaks bytes at n count s same =
    let head = s.format ∷ s.lengths in
    let here : length s.before ≡ at = omega (arith, s.place) in
    let parts : bytes ≡ (s.before ++ head) ++ s.rest = s.parts ∙ sym (append_assoc s.before head s.rest) in
    let long : length (s.before ++ head) ≡ at + (1 + n) = omega (arith, length-append s.before head, s.counted, same, here) in
    let front : take at bytes ≡ s.before = ap (take at) s.parts ∙ take_at s.before (s.format ∷ (s.lengths ++ s.rest)) at here in
    let broken : take (at + (1 + n)) bytes ≡ s.before ++ head =
    ap (take (at + (1 + n))) parts ∙ take_at (s.before ++ head) s.rest (at + (1 + n)) long in
    record {
      within = omega (arith, ap length parts, length-append (s.before ++ head) s.rest, long);
      front = subst Begins (sym front) (goes_spelled s.before s.goes);
      broken =
          λ b. let begun = subst Begins broken b in
          let bad = s.never begun.0 in
          let spelled = subst (Spells begun.1) (append_assoc s.before head begun.0) begun.2 in
          never_both (after_item 0 64 (s.before ++ s.format ∷ (s.lengths ++ begun.0))) [] bad.0 (spelled_passes begun.1 (s.before ++ s.format ∷ (s.lengths ++ begun.0)) spelled) bad.1;
    }

uneven_breaks : (bytes : List ℕ) (at : ℕ) → StopsAt (after_item 0 64) (length bytes) bytes at (λ f. f % 4)
    → BreaksAt at (1 + slice_index bytes at % 4) bytes
uneven_breaks bytes at s =
    let here : at ≡ length s.before = omega (arith, s.place) in
    let format : slice_index bytes at ≡ s.format = rw (s.parts, here) (get_or-append_seam s.before s.format (s.lengths ++ s.rest) 0) in
    breaks bytes at (slice_index bytes at % 4) (λ f. f % 4) s (ap (λ (f : ℕ). f % 4) (sym format))

cut_short : (bytes : List ℕ) (e : ItemFault) → AllBytes bytes → after_item (length bytes) 64 bytes ≡ Err e → Goes (after_item 0 64) bytes
    → IsCutShort bytes
cut_short bytes e fit bad g =
    let b = goes_spelled bytes g in
    (b.0, b.1, (λ none. whole b.1 (subst (λ (more : List ℕ). Spells b.1 (bytes ++ more)) none b.2)), b.2)
  where
    whole : (item : Item) → Spells item (bytes ++ []) → ⊥
    whole item s =
        let read = item_rest (length bytes) 64 bytes ∙ ap rest_of (spells_read (length bytes) item bytes (subst (Spells item) (append-nil bytes) s)) in
        never_both (after_item (length bytes) 64 bytes) [] e read bad

places : (bytes : List ℕ) (e : ItemFault) → AllBytes bytes → after_item (length bytes) 64 bytes ≡ Err e
    → Stops (after_item 0 64) (length bytes) bytes e → FaultStands bytes e
places bytes (fault.Short at) fit bad s = (s.0, cut_short bytes (fault.Short at) fit bad s.1)
places bytes (fault.BadCode at) fit bad s = breaks bytes at 0 (λ f. 0) s refl
places bytes (fault.NoLengthBytes at) fit bad s = breaks bytes at 0 (λ f. 0) s refl
places bytes (fault.TooDeep at) fit bad s = breaks bytes at 0 (λ f. 0) s refl
places bytes (fault.Uneven at) fit bad s = uneven_breaks bytes at s
places bytes (fault.Trailing at) fit bad s = absurd s
places bytes fault.NoMemory fit bad s = absurd s

ends_at : (bytes rest : List ℕ) (b : ℕ) → AllBytes bytes → after_item (length bytes) 64 bytes ≡ Ok (b ∷ rest)
    → EndsAt (length bytes - suc (length rest)) bytes
ends_at bytes rest b fit e =
    let s = front_spelled (length bytes) bytes (b ∷ rest) fit e in
    let front = s.1 in
    let here : length front ≡ length bytes - suc (length rest) = omega (arith, ap length s.2, length-append front (b ∷ rest)) in
    record {
      item = s.0;
      spelled = subst (Spells s.0) (sym (ap (take (length bytes - suc (length rest))) s.2 ∙ take_at front (b ∷ rest) (length bytes - suc (length rest)) here)) s.3;
      further = omega (arith, ap length s.2, length-append front (b ∷ rest));
    }

stands_by : (bytes : List ℕ) (e : ItemFault) (r : Result (List ℕ) ItemFault) → AllBytes bytes → after_item (length bytes) 64 bytes ≡ r
    → fault_after (length bytes) r ≡ Some e → FaultStands bytes e
stands_by bytes e (Err d) fit read h =
    let same : d ≡ e = cc in
    let bad = read ∙ ap Err same in
    places bytes e fit bad (item_stops 64 (length bytes) bytes e fit (omega arith) bad)
stands_by bytes e (Ok []) fit read h = absurd cc
stands_by bytes e (Ok (b ∷ rest)) fit read h =
    let same : fault.Trailing (length bytes - suc (length rest)) ≡ e = cc in subst (FaultStands bytes) same (ends_at bytes rest b fit read)

pub fault_stands : (bytes : List ℕ) (e : ItemFault) → AllBytes bytes → first_fault bytes ≡ Some e → FaultStands bytes e
unfolding first_fault
fault_stands bytes e fit h = stands_by bytes e (after_item (length bytes) 64 bytes) fit refl h

-- ---- and back

pub trailing_is : (bytes : List ℕ) (at : ℕ) → EndsAt at bytes → first_fault bytes ≡ Some (fault.Trailing at)
trailing_is bytes at ends =
    let rest = drop at bytes in
    let read : item_at (length bytes) 64 bytes ≡ Ok (ends.item, rest) =
    ap (item_at (length bytes) 64) (sym (take-append-drop at bytes)) ∙ spells_front (length bytes) ends.item (take at bytes) rest ends.spelled in
    let here : length bytes - length rest ≡ at = omega (arith, length-drop at bytes, ends.further) in
    read_trailing bytes ends.item rest read (λ (none : rest ≡ []). omega (arith, ap length none, length-drop at bytes, ends.further))
    ∙ ap (λ (n : ℕ). Some (fault.Trailing n)) here

-- what breaks at a place isn't cut short
broken_on : (bytes more : List ℕ) (item : Item) (at n : ℕ) → Spells item (bytes ++ more) → BreaksAt at n bytes → ⊥
broken_on bytes more item at n s b =
    let parts : bytes ++ more ≡ take (at + n) bytes ++ (drop (at + n) bytes ++ more) =
    ap (λ (bs : List ℕ). bs ++ more) (sym (take-append-drop (at + n) bytes)) ∙ append_assoc (take (at + n) bytes) (drop (at + n) bytes) more in
    b.broken (drop (at + n) bytes ++ more, item, subst (Spells item) parts s)

ended_on : (bytes more : List ℕ) (item : Item) (at : ℕ) → Spells item (bytes ++ more) → EndsAt at bytes → ⊥
ended_on bytes more item at s ends =
    let rest = drop at bytes in
    let parts : bytes ++ more ≡ take at bytes ++ (rest ++ more) =
    ap (λ (bs : List ℕ). bs ++ more) (sym (take-append-drop at bytes)) ∙ append_assoc (take at bytes) rest more in
    let none = (no_prefix ends.item item (take at bytes) (rest ++ more) ends.spelled (subst (Spells item) parts s)).0 in
    omega (arith, ap length none, length-append rest more, length-drop at bytes, ends.further)

short_by : (bytes more : List ℕ) (item : Item) (found : Option ItemFault) → AllBytes bytes → (more ≢ []) → Spells item (bytes ++ more)
    → first_fault bytes ≡ found → found ≡ Some (fault.Short (length bytes))
short_by bytes more item None fit some s e =
    let i = none_spells bytes fit e in absurd (some (no_prefix i.0 item bytes more i.1 s).0)
short_by bytes more item (Some (fault.Short at)) fit some s e =
    ap (λ (n : ℕ). Some (fault.Short n)) (fault_stands bytes (fault.Short at) fit e).0
short_by bytes more item (Some (fault.BadCode at)) fit some s e =
    absurd (broken_on bytes more item at 1 s (fault_stands bytes (fault.BadCode at) fit e))
short_by bytes more item (Some (fault.NoLengthBytes at)) fit some s e =
    absurd (broken_on bytes more item at 1 s (fault_stands bytes (fault.NoLengthBytes at) fit e))
short_by bytes more item (Some (fault.TooDeep at)) fit some s e =
    absurd (broken_on bytes more item at 1 s (fault_stands bytes (fault.TooDeep at) fit e))
short_by bytes more item (Some (fault.Uneven at)) fit some s e =
    absurd (broken_on bytes more item at (1 + slice_index bytes at % 4) s (fault_stands bytes (fault.Uneven at) fit e))
short_by bytes more item (Some (fault.Trailing at)) fit some s e =
    absurd (ended_on bytes more item at s (fault_stands bytes (fault.Trailing at) fit e))
short_by bytes more item (Some fault.NoMemory) fit some s e = absurd (fault_stands bytes fault.NoMemory fit e)

pub short_is : (bytes : List ℕ) → AllBytes bytes → IsCutShort bytes → first_fault bytes ≡ Some (fault.Short (length bytes))
short_is bytes fit cut = short_by bytes cut.0 cut.1 (first_fault bytes) fit cut.2 cut.3 refl
