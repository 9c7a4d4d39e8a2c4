-- A whole text, read for its form in lists that may nest deeper.
use Rattle.std.proofs.Common.{◌≡◌, ℕ, zero, suc, ◌-◌, ◌≤◌, Bool, true, false, cond, eqb, inl, inr, List, [], ◌∷◌, ◌++◌, length, Result, Ok, Err, refl, sym, ap, subst, ◌∙◌, length-append, arith}
use Rattle.secs_items.specs.declared.item.Item.{Item, out-Item}
use Rattle.secs_items.specs.declared.item.Item.TheOpen.{Item-F}
use Rattle.secs_text.specs.declared.text_fault.TextFault.{TextFault}
use Rattle.secs_text.specs.declared.text_fault.TextFault.TheVariants as fault
use Rattle.secs_text.specs.Faults.{BeginsForm}
use Rattle.secs_text.specs.Grammar.{AfterBlanks, Bounds, Kept, Free, HasElements, InBlanks, InTurn, IsFormed, IsText, ReadsWithin}
use Rattle.secs_text.specs.Reading.{◌>>=◌, after_blanks, syntax_fault, item_at, read_within, whole}
use Rattle.secs_text.proofs.Blanks.{blanks_found}
use Rattle.secs_text.proofs.FaultPlaces.{forms_front, forms_shorter}
use Rattle.secs_text.proofs.FrontItems.{Starts, past_of, text_front}
use Rattle.secs_text.proofs.Fronts.{Stands, place}
use Rattle.secs_text.proofs.LocalItems.{all_at}
use Rattle.secs_text.proofs.LocalRuns.{leading, local_trailing, trailing}
use Rattle.secs_text.proofs.Locality.{behind}
use Rattle.secs_text.proofs.Looser.{Frees, Looser, Passes, frees_behind, frees_bind, moves}
use Rattle.secs_text.proofs.LooserItems.{deeper, looser_item}
use Rattle.secs_text.proofs.TextLaws.{as_read_within, reads_as_within}

-- ---- the reader of a whole text

pub all_same : (bounds : Bounds) (depth : ℕ) (text : List ℕ)
    → all_at bounds depth (length text) text ≡ (read_within bounds depth text >>= λ v. Ok (v, []))
unfolding all_at read_within leading trailing behind
all_same bounds depth text = of (item_at bounds depth (length text) (after_blanks text)) where
  chosen : (x : Item × List ℕ) (b : Bool)
      → ◌≡◌ {A = Result (Item × List ℕ) TextFault} (cond b (Ok (x.0, [])) (syntax_fault (length text) (after_blanks x.1))) ((cond b (Ok x.0) (syntax_fault {A = Item} (length text) (after_blanks x.1))) >>= λ v. Ok (v, []))
  chosen x true = refl
  chosen x false = refl

  of : (read : Result (Item × List ℕ) TextFault)
      → ◌≡◌ {A = Result (Item × List ℕ) TextFault} (read >>= λ x. trailing x.0 (length text) x.1) ((read >>= whole (length text)) >>= λ v. Ok (v, []))
  of (Err e) = refl
  of (Ok x) = chosen x (eqb (length (after_blanks x.1)) 0)

pub all_err : (bounds : Bounds) (depth : ℕ) (text : List ℕ) (e : TextFault) → read_within bounds depth text ≡ Err e
    → all_at bounds depth (length text) text ≡ Err e
all_err bounds depth text e h = all_same bounds depth text ∙ rw h refl

pub all_ok : (bounds : Bounds) (depth : ℕ) (text : List ℕ) (item : Item) → InBlanks (ReadsWithin bounds depth) text item
    → all_at bounds depth (length text) text ≡ Ok (item, [])
all_ok bounds depth text item reads = all_same bounds depth text ∙ rw (as_read_within bounds depth text item reads) refl

trailing_freed : (total : ℕ) (bytes : List ℕ) (x y : Item) (rest : List ℕ) → Frees total bytes (trailing x total rest) (trailing y total rest)
unfolding trailing
trailing_freed total bytes x y rest = of (eqb (length (after_blanks rest)) 0) where
  of : (b : Bool)
      → Frees {T = Item} total bytes (cond b (Ok (x, [])) (syntax_fault total (after_blanks rest))) (cond b (Ok (y, [])) (syntax_fault total (after_blanks rest)))
  of true = (y, refl)
  of false = refl

pub looser_all : (depth more : ℕ) → Looser (all_at Kept depth) (all_at Free (deeper depth more))
unfolding all_at leading behind
looser_all depth more total bytes =
    let before = blanks_found bytes in
    let after = after_blanks bytes in
    frees_behind total before.0 bytes after _ _ before.2
    (frees_bind total after (item_at Kept depth total after) (item_at Free (deeper depth more) total after) (λ x. trailing x.0 total x.1) (λ x. trailing x.0 total x.1) (looser_item depth more total after) (λ x y _. trailing_freed total after x.0 y x.1) (λ y. moves (trailing y.0) (local_trailing y.0) total y.1))

-- ---- what nests in some lists nests in more

elements_map : (bounds : Bounds) (Items Also : List Item → List ℕ → Type 0) (x : Item-F Item) (text : List ℕ)
    → ((ys : List Item) → Items ys text → Also ys text) → HasElements bounds Items x text → HasElements bounds Also x text
elements_map bounds Items Also (Item-F.L ys) text map has = map ys has
elements_map bounds Items Also (Item-F.B ys) text map has = has
elements_map bounds Items Also (Item-F.Bool ys) text map has = has
elements_map bounds Items Also (Item-F.A ys) text map has = has
elements_map bounds Items Also (Item-F.J ys) text map has = has
elements_map bounds Items Also (Item-F.I1 ys) text map has = has
elements_map bounds Items Also (Item-F.I2 ys) text map has = has
elements_map bounds Items Also (Item-F.I4 ys) text map has = has
elements_map bounds Items Also (Item-F.I8 ys) text map has = has
elements_map bounds Items Also (Item-F.U1 ys) text map has = has
elements_map bounds Items Also (Item-F.U2 ys) text map has = has
elements_map bounds Items Also (Item-F.U4 ys) text map has = has
elements_map bounds Items Also (Item-F.U8 ys) text map has = has
elements_map bounds Items Also (Item-F.F4 ys) text map has = has
elements_map bounds Items Also (Item-F.F8 ys) text map has = has

text_map : (bounds : Bounds) (Items Also : List Item → List ℕ → Type 0) (x : Item-F Item) (text : List ℕ)
    → ((ys : List Item) (text : List ℕ) → Items ys text → Also ys text) → IsText bounds Items x text → IsText bounds Also x text
text_map bounds Items Also x text map t =
    record {
      elements = t.elements;
      blanks = t.blanks;
      holds = elements_map bounds Items Also x t.elements (λ ys. map ys t.elements) t.holds;
      ends = t.ends;
      placed = t.placed;
    }

turn_map : (Is Also : Item → List ℕ → Type 0) → ((i : Item) (text : List ℕ) → Is i text → Also i text) → (items : List Item) (text : List ℕ)
    → InTurn (AfterBlanks Is) items text → InTurn (AfterBlanks Also) items text
turn_map Is Also map [] text t = t
turn_map Is Also map (i ∷ items) text t = let a = t.3 in (t.0, t.1, t.2, (a.0, a.1, a.2, a.3, a.4, map i a.1 a.5), turn_map Is Also map items t.1 t.4)

one_more : (bounds : Bounds) (depth : ℕ) (i : Item) (text : List ℕ) → ReadsWithin bounds depth i text → ReadsWithin bounds (suc depth) i text
one_more bounds zero i text t = text_map bounds (λ _ _. ⊥) (InTurn (AfterBlanks (ReadsWithin bounds zero))) (out-Item i) text (λ ys s no. absurd no) t
one_more bounds (suc depth) i text t =
    text_map bounds (InTurn (AfterBlanks (ReadsWithin bounds depth))) (InTurn (AfterBlanks (ReadsWithin bounds (suc depth)))) (out-Item i) text (turn_map (ReadsWithin bounds depth) (ReadsWithin bounds (suc depth)) (one_more bounds depth)) t

deepened : (bounds : Bounds) (depth more : ℕ) (i : Item) (text : List ℕ) → ReadsWithin bounds more i text
    → ReadsWithin bounds (deeper depth more) i text
deepened bounds zero more i text t = one_more bounds more i text t
deepened bounds (suc depth) more i text t = one_more bounds (deeper depth more) i text (deepened bounds depth more i text t)

-- a text of the form is read in more lists than these
pub formed_read : (depth : ℕ) (text : List ℕ) (f : IsFormed text) → all_at Free (deeper depth f.0) (length text) text ≡ Ok (f.1, [])
formed_read depth text f =
    let w = f.2 in
    all_ok Free (deeper depth f.0) text f.1 (record { before = w.before; inner = w.inner; after = w.after; begins = w.begins; reads = deepened Free depth f.0 f.1 w.inner w.reads; ends = w.ends; placed = w.placed })

-- ---- how far a text has the form

starts_form : (depth : ℕ) (front : List ℕ) → Starts Free depth front → BeginsForm front
starts_form depth front s = (s.0, (depth, s.1, s.2))

stands_form : (depth : ℕ) (e : TextFault) (front : List ℕ) → Stands (Starts Free depth) (past_of Free) e front → BeginsForm front
stands_form depth (fault.Syntax at) front (inl s) = starts_form depth front s
stands_form depth (fault.Syntax at) front (inr s) = absurd s.3
stands_form depth (fault.Range at) front s = absurd s.1
stands_form depth (fault.TooDeep at) front s = forms_front front (60 ∷ []) (starts_form depth (front ++ 60 ∷ []) s.0)
stands_form depth fault.NoMemory front s = absurd s

-- what the reader has passed is a front of the form
pub formed_to : (depth : ℕ) (text seen tail : List ℕ) → text ≡ seen ++ tail → Passes (length text) tail (all_at Free depth (length text) text)
    → BeginsForm seen
formed_to depth text seen tail split passes = of (read_within Free depth text) refl where
  of : (read : Result Item TextFault) → read_within Free depth text ≡ read → BeginsForm seen
  of (Ok item) h =
      (tail, (depth, item, subst (λ (s : List ℕ). InBlanks (ReadsWithin Free depth) s item) split (reads_as_within Free depth text item h)))
  of (Err e) h =
      let f = text_front Free depth text e h in
      let far : length text - length tail ≤ place e = subst (Passes (length text) tail) (all_err Free depth text e h) passes in
      let long : length seen ≤ length f.front =
      omega (arith, far, f.there, ap length split, ap length f.placed, length-append seen tail, length-append f.front f.tail) in
      forms_shorter seen tail f.front f.tail (sym split ∙ f.placed) long (stands_form depth e f.front f.stands)
