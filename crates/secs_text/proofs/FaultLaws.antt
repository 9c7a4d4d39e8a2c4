-- The fault that the reader meets is the one that the grammar's words say.
use Rattle.std.proofs.Common.{◌≡◌, ◌≢◌, ℕ, ◌-◌, ◌+◌, ◌<◌, ◌≤◌, ◌⊎◌, inl, inr, List, [], ◌∷◌, ◌++◌, length, take, drop, Some, Result, Ok, Err, refl, sym, ap, subst, ◌∙◌, append_assoc, length-append, arith}
use Rattle.std.specs.Prelude.{IfErr}
use Rattle.std.proofs.lemmas.Bool.{cases_lt}
use Rattle.std.proofs.lemmas.List.{drop_at, append-nil, length-drop, length-take-le, take_at}
use Rattle.secs_items.specs.declared.item.Item.{Item}
use Rattle.secs_text.specs.declared.text_fault.TextFault.{TextFault}
use Rattle.secs_text.specs.declared.text_fault.TextFault.TheVariants as fault
use Rattle.secs_text.specs.Faults.{Begins, BeginsForm, HasFault, IsBrokenAt, IsOutsideAt, IsTooDeepAt}
use Rattle.secs_text.specs.Grammar.{Kept, Free, IsFormed, IsItemText, ReadsAs}
use Rattle.secs_text.specs.Reading.{FailsOnly, Gives, fault_of, first_text_fault, read_text, read_within}
use Rattle.secs_text.proofs.Blanks.{bind_ok, not_ok}
use Rattle.secs_text.proofs.FaultPlaces.{begins_shorter, forms_shorter, list_end, longer_front, number_end, numeral_ends, numeral_once, one_fault, parts_at}
use Rattle.secs_text.proofs.FrontItems.{kept_front, past_of}
use Rattle.secs_text.proofs.Fronts.{Fronts}
use Rattle.secs_text.proofs.LocalItems.{all_at, local_all}
use Rattle.secs_text.proofs.Locality.{Stuck, Told}
use Rattle.secs_text.proofs.Looser.{Frees, FreesFault}
use Rattle.secs_text.proofs.LooserItems.{deeper}
use Rattle.secs_text.proofs.LooserTexts.{all_err, all_ok, all_same, formed_read, formed_to, looser_all}
use Rattle.secs_text.proofs.TextLaws.{reads_as, reads_as_within}

-- ---- what is known of a fault that was met

kept_told : (text : List ℕ) (e : TextFault) → read_text text ≡ Err e → Told (all_at Kept 64) (length text) text (Err e)
kept_told text e h = subst (Told (all_at Kept 64) (length text) text) (all_err Kept 64 text e h) (local_all Kept 64 (length text) text)

freed : (text : List ℕ) (e : TextFault) (more : ℕ) → read_text text ≡ Err e
    → FreesFault (length text) text e (all_at Free (deeper 64 more) (length text) text)
freed text e more h =
    subst (λ (kept : Result (Item × List ℕ) TextFault). Frees (length text) text kept (all_at Free (deeper 64 more) (length text) text))
    (all_err Kept 64 text e h) (looser_all 64 more (length text) text)

-- what was seen begins no text that reads
begins_none : (text : List ℕ) (e : TextFault) (s : Stuck (all_at Kept 64) (length text) text e) → Begins s.seen → ⊥
unfolding IsItemText
begins_none text e s may = s.never (length (s.seen ++ may.0)) may.0 (may.1, []) (all_ok Kept 64 (s.seen ++ may.0) may.1 may.2)

-- what stands before and behind a place
parted : (text front rest : List ℕ) (at : ℕ) → text ≡ front ++ rest → at ≡ length text - length rest
    → (length front ≡ at) × (take at text ≡ front) × (drop at text ≡ rest)
parted text front rest at split there =
    let long : length front ≡ at = omega (arith, there, ap length split, length-append front rest) in
    (long, ap (take at) split ∙ take_at front rest at long, ap (drop at) split ∙ drop_at front rest at long)

-- ---- Syntax

-- with the byte at the place the text has the form of none
formed_none : (text : List ℕ) (at : ℕ) → ((more : ℕ) → all_at Free (deeper 64 more) (length text) text ≡ Err (fault.Syntax at)) → at < length text
    → BeginsForm (take (at + 1) text) → ⊥
formed_none text at breaks less may =
    of (subst (Told (all_at Free depth) (length text) text) (breaks may.1.0) (local_all Free depth (length text) text)) where
      depth : ℕ
      depth = deeper 64 may.1.0

      of : Told (all_at Free depth) (length text) text (Err (fault.Syntax at)) → ⊥
      of (inl last) = let same : at ≡ length text = cc (last) in omega (arith, same, less)
      of (inr s) =
          let some = s.some in
          let long : length s.seen ≡ at + 1 = omega (arith, s.sees, ap length s.placed, length-append s.seen s.tail, ap length some.2, less) in
          let same : take (at + 1) text ≡ s.seen = ap (take (at + 1)) s.placed ∙ take_at s.seen s.tail (at + 1) long in
          let whole = take (at + 1) text ++ may.0 in
          s.never (length whole) may.0 (may.1.1, []) (ap (λ (front : List ℕ). all_at Free depth (length whole) (front ++ may.0)) (sym same) ∙ formed_read 64 whole may.1)

last_or : ℕ → List ℕ → ℕ
last_or b [] = b
last_or b (c ∷ rest) = last_or c rest

last_is : (b c : ℕ) (front : List ℕ) → last_or b (front ++ c ∷ []) ≡ c
unfolding last_or
last_is b c [] = refl
last_is b c (d ∷ front) = last_is d c front

-- A front that has the form, that begins no text that reads and that doesn't end in a minus: the reader met its limit before.
met_before : (text : List ℕ) (at : ℕ) → Fronts Begins (past_of Kept) (length text) text (fault.Syntax at)
    → (at < length text → BeginsForm (take (at + 1) text) → ⊥)
    → (seen tail : List ℕ) → seen ++ tail ≡ text → BeginsForm seen → (Begins seen → ⊥) → ((stem : List ℕ) → seen ≡ stem ++ 45 ∷ [] → ⊥) → ⊥
met_before text at f byte seen tail split formed none unsigned = of f.stands where
  long : length f.front ≡ at
  long = (parted text f.front f.tail at f.placed f.there).0

  same : seen ++ tail ≡ f.front ++ f.tail
  same = split ∙ f.placed

  beyond : at < length seen → ⊥
  beyond less =
      let within : at < length text = omega (arith, ap length split, length-append seen tail, less) in
      let next : length (take (at + 1) text) ≡ at + 1 = length-take-le (at + 1) text (omega (arith, within)) in
      byte within (forms_shorter (take (at + 1) text) (drop (at + 1) text) seen tail (parts_at (at + 1) text ∙ sym split) (omega (arith, next, less)) formed)

  of : Begins f.front ⊎ ((stem : List ℕ) × (f.front ≡ stem ++ 45 ∷ []) × Begins stem × Unit {0}) → ⊥
  of (inl may) = elim (cases_lt (length f.front) (length seen)) [
    | inl less ↦ beyond (omega (arith, long, less))
    | inr le ↦ none (begins_shorter seen tail f.front f.tail same le may)
  ]
  of (inr s) =
      let size : length f.front ≡ length s.0 + 1 = ap length s.1 ∙ length-append s.0 (45 ∷ []) in
      let stem : seen ++ tail ≡ s.0 ++ 45 ∷ f.tail = same ∙ ap (λ (t : List ℕ). t ++ f.tail) s.1 ∙ append_assoc s.0 (45 ∷ []) f.tail in
      elim (cases_lt (length s.0) (length seen)) [
        | inr le ↦ none (begins_shorter seen tail s.0 (45 ∷ f.tail) stem le s.2)
        | inl more ↦ elim (cases_lt (length f.front) (length seen)) [
          | inl less ↦ beyond (omega (arith, long, less))
          | inr le ↦
              let m = longer_front seen tail f.front f.tail same le in
              let none_left : length m.0 ≡ 0 = omega (arith, ap length m.1, length-append seen m.0, size, more, le) in
              unsigned s.0 (whole seen m.0 none_left ∙ sym m.1 ∙ s.1)
        ]
      ] where
        whole : (front rest : List ℕ) → length rest ≡ 0 → front ≡ front ++ rest
        whole front [] e = sym (append-nil front)
        whole front (b ∷ rest) e = absurd (omega (arith, e))

list_ends : (front stem : List ℕ) → front ++ 60 ∷ 76 ∷ [] ≡ stem ++ 45 ∷ [] → ⊥
list_ends front stem same =
    let ends : 76 ≡ 45 = sym (last_is 0 76 (front ++ 60 ∷ [])) ∙ ap (last_or 0) (append_assoc front (60 ∷ []) (76 ∷ []) ∙ same) ∙ last_is 0 45 stem in
    cc (ends)

broken_at : (text : List ℕ) (at : ℕ) → read_text text ≡ Err (fault.Syntax at) → IsBrokenAt at text
broken_at text at h =
    let f = kept_front text (fault.Syntax at) h in
    let breaks : (more : ℕ) → all_at Free (deeper 64 more) (length text) text ≡ Err (fault.Syntax at) = λ more. freed text (fault.Syntax at) more h in
    let byte = formed_none text at breaks in
    let within : at ≤ length text = omega (arith, f.there) in
    let tail : length (drop at text) ≡ length text - at = length-drop at text in
    record {
      breaks = record {
        within = within;
        front = formed_to (deeper 64 0) text (take at text) (drop at text) (sym (parts_at at text)) (rw (breaks 0) (omega (arith, within, tail)));
        byte = byte;
        unfinished = λ formed. not_ok (fault.Syntax at) (formed.1, []) (sym (breaks formed.0) ∙ formed_read 64 text formed);
      };
      numbers = λ place o. met_before text at f byte (take place text ++ o.number) o.rest (number_end place text o) o.formed o.outside (numeral_ends (take place text) o.number o.numeral);
      lists = λ place d. met_before text at f byte (take place text ++ 60 ∷ 76 ∷ []) d.rest (list_end place text d) d.formed d.deep (list_ends (take place text));
    }

-- ---- Range

outside_at : (text : List ℕ) (at : ℕ) → read_text text ≡ Err (fault.Range at) → IsOutsideAt at text
outside_at text at h = of (kept_told text (fault.Range at) h) (kept_front text (fault.Range at) h) (freed text (fault.Range at) 0 h) where
  of : Told (all_at Kept 64) (length text) text (Err (fault.Range at)) → Fronts Begins (past_of Kept) (length text) text (fault.Range at)
      → FreesFault (length text) text (fault.Range at) (all_at Free (deeper 64 0) (length text) text) → IsOutsideAt at text
  of (inl last) f l = absurd (cc (last))
  of (inr s) f l =
      let n = s.sees in
      let here = parted text f.front f.tail at f.placed f.there in
      let split : text ≡ n.0 ++ (n.1 ++ s.tail) = s.placed ∙ ap (λ (t : List ℕ). t ++ s.tail) n.2 ∙ append_assoc n.0 n.1 s.tail in
      let seen = parted text n.0 (n.1 ++ s.tail) at split n.3 in
      let free = parted text l.0 (l.1 ++ l.2) at l.3 l.4 in
      let number : n.1 ≡ l.1 = numeral_once n.1 l.1 s.tail l.2 n.4 l.5 n.5 l.6 (sym seen.2 ∙ free.2) in
      let stuck : take at text ++ l.1 ≡ s.seen = ap (λ (t : List ℕ). t ++ l.1) seen.1 ∙ ap (λ (t : List ℕ). n.0 ++ t) (sym number) ∙ sym n.2 in
      let freed_front : text ≡ (take at text ++ l.1) ++ l.2 =
      l.3 ∙ ap (λ (t : List ℕ). t ++ (l.1 ++ l.2)) (sym free.1) ∙ sym (append_assoc (take at text) l.1 l.2) in
      record {
        number = l.1;
        rest = l.2;
        stands = free.2;
        parted = (f.stands.1.0, f.stands.1.1, here.1 ∙ f.stands.1.2, f.stands.1.3);
        numeral = l.5;
        last = l.6;
        formed = formed_to (deeper 64 0) text (take at text ++ l.1) l.2 freed_front l.7;
        front = subst Begins (sym here.1) f.stands.0;
        outside = λ begun. begins_none text (fault.Range at) s (subst Begins stuck begun);
      }

-- ---- TooDeep

deep_at : (text : List ℕ) (at : ℕ) → read_text text ≡ Err (fault.TooDeep at) → IsTooDeepAt at text
deep_at text at h = of (kept_told text (fault.TooDeep at) h) (kept_front text (fault.TooDeep at) h) (freed text (fault.TooDeep at) 0 h) where
  of : Told (all_at Kept 64) (length text) text (Err (fault.TooDeep at)) → Fronts Begins (past_of Kept) (length text) text (fault.TooDeep at)
      → FreesFault (length text) text (fault.TooDeep at) (all_at Free (deeper 64 0) (length text) text) → IsTooDeepAt at text
  of (inl last) f l = absurd (cc (last))
  of (inr s) f l =
      let n = s.sees in
      let here = parted text f.front f.tail at f.placed f.there in
      let split : text ≡ n.0 ++ 60 ∷ 76 ∷ s.tail = s.placed ∙ ap (λ (t : List ℕ). t ++ s.tail) n.1 ∙ append_assoc n.0 (60 ∷ 76 ∷ []) s.tail in
      let seen = parted text n.0 (60 ∷ 76 ∷ s.tail) at split n.2 in
      let free = parted text l.0 (60 ∷ 76 ∷ l.1) at l.2 l.3 in
      let stuck : take at text ++ 60 ∷ 76 ∷ [] ≡ s.seen = ap (λ (t : List ℕ). t ++ 60 ∷ 76 ∷ []) seen.1 ∙ sym n.1 in
      let freed_front : text ≡ (take at text ++ 60 ∷ 76 ∷ []) ++ l.1 =
      l.2 ∙ ap (λ (t : List ℕ). t ++ 60 ∷ 76 ∷ l.1) (sym free.1) ∙ sym (append_assoc (take at text) (60 ∷ 76 ∷ []) l.1) in
      record {
        rest = l.1;
        stands = free.2;
        formed = formed_to (deeper 64 0) text (take at text ++ 60 ∷ 76 ∷ []) l.1 freed_front l.4;
        front = subst (λ (t : List ℕ). Begins (t ++ 60 ∷ [])) (sym here.1) f.stands.0;
        deep = λ begun. begins_none text (fault.TooDeep at) s (subst Begins stuck begun);
      }

-- ---- the fault

pub has_fault : (text : List ℕ) (e : TextFault) → read_text text ≡ Err e → HasFault text e
has_fault text (fault.Syntax at) h = broken_at text at h
has_fault text (fault.Range at) h = outside_at text at h
has_fault text (fault.TooDeep at) h = deep_at text at h
has_fault text fault.NoMemory h = (kept_front text fault.NoMemory h).stands

-- a text that reads has the form
read_formed : (text : List ℕ) (item : Item) → ReadsAs text item → IsFormed text
unfolding IsItemText
read_formed text item reads =
    let depth = deeper 64 0 in
    let free =
    subst (λ (kept : Result (Item × List ℕ) TextFault). Frees (length text) text kept (all_at Free depth (length text) text))
    (all_ok Kept 64 text item reads) (looser_all 64 0 (length text) text) in
    let whole = bind_ok (read_within Free depth text) (λ v. Ok (v, [])) (free.0, []) (sym (all_same Free depth text) ∙ free.1) in
    (depth, whole.0, reads_as_within Free depth text whole.0 whole.1)

-- a text that reads has no fault
pub no_fault_read : (text : List ℕ) (item : Item) (e : TextFault) → ReadsAs text item → HasFault text e → ⊥
no_fault_read text item (fault.Syntax at) reads has = has.breaks.unfinished (read_formed text item reads)
no_fault_read text item (fault.Range at) reads has =
    has.outside (has.rest, item, subst (λ (s : List ℕ). ReadsAs s item) (sym (number_end at text has)) reads)
no_fault_read text item (fault.TooDeep at) reads has =
    has.deep (has.rest, item, subst (λ (s : List ℕ). ReadsAs s item) (sym (list_end at text has)) reads)
no_fault_read text item fault.NoMemory reads has = has

either : (text : List ℕ) (read : Result Item TextFault) → read_text text ≡ read
    → ((item : Item) × ReadsAs text item) ⊎ ((e : TextFault) × HasFault text e)
either text (Ok item) h = inl (item, reads_as text item h)
either text (Err e) h = inr (e, has_fault text e h)

pub fault_or_item : (text : List ℕ) → ((item : Item) × ReadsAs text item) ⊎ ((e : TextFault) × HasFault text e)
fault_or_item text = either text (read_text text) refl

met : (text : List ℕ) (e : TextFault) (read : Result Item TextFault) → read_text text ≡ read → HasFault text e → fault_of read ≡ Some e
met text e (Ok item) h has = absurd (no_fault_read text item e (reads_as text item h) has)
met text e (Err d) h has = ap (λ (f : TextFault). Some f) (one_fault text d e (has_fault text d h) has)

pub met_fault : (text : List ℕ) (e : TextFault) → HasFault text e → first_text_fault text ≡ Some e
met_fault text e has = met text e (read_text text) refl has

-- ---- what reading answers

pub answers_fault : (text : List ℕ) (result : Result Item TextFault) → Gives (λ item. item) result (read_text text)
    → IfErr result (λ e. e ≢ fault.NoMemory → HasFault text e)
answers_fault text (Ok item) gives = tt
answers_fault text (Err e) gives = λ named. has_fault text e (gives named)

fails_only : (text : List ℕ) (e d : TextFault) → (d ≢ fault.NoMemory → read_text text ≡ Err d) → HasFault text e → (d ≡ e) ⊎ (d ≡ fault.NoMemory)
fails_only text e (fault.Syntax at) gives has =
    inl (one_fault text (fault.Syntax at) e (has_fault text (fault.Syntax at) (gives (λ (m : fault.Syntax at ≡ fault.NoMemory). cc))) has)
fails_only text e (fault.Range at) gives has =
    inl (one_fault text (fault.Range at) e (has_fault text (fault.Range at) (gives (λ (m : fault.Range at ≡ fault.NoMemory). cc))) has)
fails_only text e (fault.TooDeep at) gives has =
    inl (one_fault text (fault.TooDeep at) e (has_fault text (fault.TooDeep at) (gives (λ (m : fault.TooDeep at ≡ fault.NoMemory). cc))) has)
fails_only text e fault.NoMemory gives has = inr refl

pub answers_named : (text : List ℕ) (result : Result Item TextFault) → Gives (λ item. item) result (read_text text) → (e : TextFault)
    → HasFault text e → FailsOnly e result
answers_named text (Ok item) gives e has = no_fault_read text item e (reads_as text item gives) has
answers_named text (Err d) gives e has = fails_only text e d gives has
