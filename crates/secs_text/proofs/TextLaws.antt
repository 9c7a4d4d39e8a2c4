-- Whole texts: what a text is read as is what it reads as.
use Rattle.std.proofs.Common.{◌≡◌, ◌≢◌, ℕ, eqb, List, [], ◌∷◌, ◌++◌, length, None, Result, Ok, Err, refl, sym, ap, subst, ◌∙◌, inl, inr}
use Rattle.std.specs.Prelude.{IfOk}
use Rattle.std.proofs.lemmas.Bool.{eqb-true}
use Rattle.std.proofs.lemmas.List.{append-nil, nil_from_length}
use Rattle.secs_items.specs.declared.item.Item.{Item}
use Rattle.secs_text.specs.declared.text_fault.TextFault.{TextFault}
use Rattle.secs_text.specs.declared.text_fault.TextFault.TheVariants as fault
use Rattle.secs_text.specs.Grammar.{Bounds, InBlanks, IsItemText, Kept, ReadsAs, ReadsWithin}
use Rattle.secs_text.specs.Reading.{Gives, ReadsOnly, after_blanks, syntax_fault, fault_of, first_text_fault, item_at, read_text, read_within, whole}
use Rattle.secs_text.proofs.Blanks.{bind_ok, blanks_alone, blanks_found, blanks_skipped, chosen, stays}
use Rattle.secs_text.proofs.Elements.{stops_only}
use Rattle.secs_text.proofs.Items.{item_form}

all_read : (total : ℕ) (x : Item × List ℕ) (item : Item) → whole total x ≡ Ok item → (x.0 ≡ item) × (after_blanks x.1 ≡ [])
all_read total x item e =
    elim (chosen (eqb (length (after_blanks x.1)) 0) (Ok x.0) (syntax_fault total (after_blanks x.1)) item e) [
      | inl h ↦ (cc (h.1), nil_from_length (after_blanks x.1) (eqb-true (length (after_blanks x.1)) 0 h.0))
      | inr h ↦ absurd (cc (h.1))
    ]

pub reads_as_within : (bounds : Bounds) (depth : ℕ) (text : List ℕ) (item : Item) → read_within bounds depth text ≡ Ok item
    → InBlanks (ReadsWithin bounds depth) text item
unfolding read_within
reads_as_within bounds depth text item e =
    let a = bind_ok (item_at bounds depth (length text) (after_blanks text)) (whole (length text)) item e in
    let f = (item_form bounds depth).takes (length text) (after_blanks text) a.0 a.1 in
    let w = all_read (length text) a.0 item a.2 in
    let before = blanks_found text in
    let after = blanks_found a.0.1 in
    let ended : a.0.1 ≡ after.0 = after.2 ∙ ap (λ (s : List ℕ). after.0 ++ s) w.1 ∙ append-nil after.0 in
    record {
      before = before.0;
      inner = f.0;
      after = after.0;
      begins = before.1;
      reads = subst (λ (i : Item). ReadsWithin bounds depth i f.0) w.0 f.1;
      ends = after.1;
      placed = before.2 ∙ ap (λ (s : List ℕ). before.0 ++ s) (f.2 ∙ ap (λ (s : List ℕ). f.0 ++ s) ended);
    }

pub as_read_within : (bounds : Bounds) (depth : ℕ) (text : List ℕ) (item : Item) → InBlanks (ReadsWithin bounds depth) text item
    → read_within bounds depth text ≡ Ok item
unfolding read_within
as_read_within bounds depth text item r =
    let form = item_form bounds depth in
    let s = form.solid item r.inner r.reads in
    let opened : r.inner ++ r.after ≡ s.0 ∷ (s.1 ++ r.after) = ap (λ (t : List ℕ). t ++ r.after) s.2 in
    let skipped : after_blanks text ≡ r.inner ++ r.after =
    ap after_blanks r.placed ∙ blanks_skipped r.before (r.inner ++ r.after) r.begins ∙ ap after_blanks opened ∙ stays s.0 (s.1 ++ r.after) s.3 ∙ sym opened in
    let one : item_at bounds depth (length text) (after_blanks text) ≡ Ok (item, r.after) =
    ap (item_at bounds depth (length text)) skipped ∙ form.again (length text) item r.inner r.after r.reads (stops_only r.after r.ends) in
    rw (one, blanks_alone r.after r.ends) refl

pub reads_as : (text : List ℕ) (item : Item) → read_text text ≡ Ok item → ReadsAs text item
unfolding IsItemText
reads_as = reads_as_within Kept 64

pub as_read : (text : List ℕ) (item : Item) → ReadsAs text item → read_text text ≡ Ok item
unfolding IsItemText
as_read = as_read_within Kept 64

pub one_value : (text : List ℕ) (first second : Item) → ReadsAs text first → ReadsAs text second → first ≡ second
one_value text first second r s = let e : ◌≡◌ {A = Result Item TextFault} (Ok first) (Ok second) = sym (as_read text first r) ∙ as_read text second s in cc

-- ---- what reading answers

pub answers_found : (text : List ℕ) (result : Result Item TextFault) → Gives (λ item. item) result (read_text text)
    → IfOk result (λ item. ReadsAs text item)
answers_found text (Ok item) gives = reads_as text item gives
answers_found text (Err e) gives = tt

-- a fault that is not named is want of memory
memory : (e : TextFault) → ((e ≢ fault.NoMemory) → ⊥) → e ≡ fault.NoMemory
memory (fault.Syntax at) h = absurd (h (λ (e : fault.Syntax at ≡ fault.NoMemory). cc))
memory (fault.Range at) h = absurd (h (λ (e : fault.Range at ≡ fault.NoMemory). cc))
memory (fault.TooDeep at) h = absurd (h (λ (e : fault.TooDeep at ≡ fault.NoMemory). cc))
memory fault.NoMemory h = refl

not_both : (item : Item) (e : TextFault) → ◌≡◌ {A = Result Item TextFault} (Ok item) (Err e) → ⊥
not_both item e h = cc

pub answers_only : (text : List ℕ) (result : Result Item TextFault) → Gives (λ item. item) result (read_text text) → (item : Item) → ReadsAs text item
    → ReadsOnly item result
answers_only text (Ok read) gives item r = one_value text read item (reads_as text read gives) r
answers_only text (Err e) gives item r = memory e (λ named. not_both item e (sym (as_read text item r) ∙ gives named))

-- ---- faults

pub no_fault : (text : List ℕ) (item : Item) → ReadsAs text item → first_text_fault text ≡ None
no_fault text item r = ap fault_of (as_read text item r)
