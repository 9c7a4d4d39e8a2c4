-- What the reader of items answers depends on the bytes that it has seen.
use Rattle.std.proofs.Common.{◌≡◌, ℕ, zero, suc, ◌-◌, Bool, true, false, cond, inl, inr, lit<, List, [], ◌∷◌, ◌++◌, length, Result, Ok, Err, refl, sym, ap, subst, ◌∙◌}
use Rattle.std.proofs.lemmas.Bool.{cases_Bool}
use Rattle.secs_items.specs.declared.item.Item.{Item}
use Rattle.secs_items.specs.declared.item.Item.TheVariants as item
use Rattle.secs_items.specs.declared.kind.Kind.{Kind}
use Rattle.secs_items.specs.declared.kind.Kind.TheVariants as kind
use Rattle.secs_items.specs.Kinds.{is_list}
use Rattle.secs_text.specs.declared.text_fault.TextFault.{TextFault}
use Rattle.secs_text.specs.declared.text_fault.TextFault.TheVariants as fault
use Rattle.secs_text.specs.Grammar.{Bounds, IsHexByte, ReadsWithin}
use Rattle.secs_text.specs.Names.{name_of}
use Rattle.secs_text.specs.Reading.{◌>>=◌, Reader, syntax_fault, elements_at, elements_of, hex_byte_at, hex_bytes_at, item_at, item_of, kind_at, name_at, shallow_at, text_at}
use Rattle.secs_text.proofs.Blanks.{not_ok}
use Rattle.secs_text.proofs.Elements.{hex_byte_form, hex_bytes_form}
use Rattle.secs_text.proofs.Items.{item_form, signed_form_8, signed_form_16, signed_form_32, signed_form_64, unsigned_form_8, unsigned_form_16, unsigned_form_32, unsigned_form_64}
use Rattle.secs_text.proofs.KindNames.{kind_takes}
use Rattle.secs_text.proofs.Locality.{At, Local, at_behind, at_same, behind, local_behind, local_pure, pure}
use Rattle.secs_text.proofs.LocalNumbers.{local_signed, local_unsigned}
use Rattle.secs_text.proofs.LocalRuns.{leading, local_elements, local_leading, local_text, local_trailing, trailing}
use Rattle.secs_text.proofs.LocalWords.{local_hex_byte, local_hex_bytes, local_kind, local_then}

-- ---- behind a name

local_made : {T : Type 0} (make : T → Item) (r : Reader T) → Local r → Local (λ total bytes. item_of make (r total bytes))
unfolding behind pure
local_made make r rs total bytes =
    at_same (behind r (λ x. pure (make x))) (λ total bytes. item_of make (r total bytes)) total bytes (λ total bytes. refl)
    (local_behind r (λ x. pure (make x)) rs (λ x. local_pure (make x)) total bytes)

local_hex : (make : List ℕ → Item) → Local (λ total bytes. item_of make (elements_at hex_byte_at total bytes))
local_hex make = local_made make (elements_at hex_byte_at) (local_elements hex_byte_at IsHexByte hex_byte_form local_hex_byte)

pub local_elements_of : (bounds : Bounds) (one : Reader Item) (k : Kind) → (is_list k ≡ true → Local (elements_at one))
    → Local (elements_of bounds one k)
unfolding elements_of
local_elements_of bounds one kind.L lists = local_made item.L (elements_at one) (lists refl)
local_elements_of bounds one kind.B lists = local_hex item.B
local_elements_of bounds one kind.Bool lists = local_hex item.Bool
local_elements_of bounds one kind.A lists = local_made item.A text_at local_text
local_elements_of bounds one kind.J lists = local_hex item.J
local_elements_of bounds one kind.I1 lists = local_made item.I1 _ (local_elements _ _ (signed_form_8 bounds) (local_signed bounds 8 (lit< tt)))
local_elements_of bounds one kind.I2 lists = local_made item.I2 _ (local_elements _ _ (signed_form_16 bounds) (local_signed bounds 16 (lit< tt)))
local_elements_of bounds one kind.I4 lists = local_made item.I4 _ (local_elements _ _ (signed_form_32 bounds) (local_signed bounds 32 (lit< tt)))
local_elements_of bounds one kind.I8 lists = local_made item.I8 _ (local_elements _ _ (signed_form_64 bounds) (local_signed bounds 64 (lit< tt)))
local_elements_of bounds one kind.U1 lists = local_made item.U1 _ (local_elements _ _ (unsigned_form_8 bounds) (local_unsigned bounds 8 (lit< tt)))
local_elements_of bounds one kind.U2 lists = local_made item.U2 _ (local_elements _ _ (unsigned_form_16 bounds) (local_unsigned bounds 16 (lit< tt)))
local_elements_of bounds one kind.U4 lists = local_made item.U4 _ (local_elements _ _ (unsigned_form_32 bounds) (local_unsigned bounds 32 (lit< tt)))
local_elements_of bounds one kind.U8 lists = local_made item.U8 _ (local_elements _ _ (unsigned_form_64 bounds) (local_unsigned bounds 64 (lit< tt)))
local_elements_of bounds one kind.F4 lists =
    local_made item.F4 (elements_at (hex_bytes_at 4)) (local_elements (hex_bytes_at 4) _ (hex_bytes_form 4 (lit< tt)) (local_hex_bytes 4))
local_elements_of bounds one kind.F8 lists =
    local_made item.F8 (elements_at (hex_bytes_at 8)) (local_elements (hex_bytes_at 8) _ (hex_bytes_form 8 (lit< tt)) (local_hex_bytes 8))

-- ---- where no list may stand

deep : Reader Item
deep total rest = Err (fault.TooDeep (total - length (60 ∷ 76 ∷ rest)))

no_items : Reader Item
no_items total bytes = syntax_fault total bytes

shallow : Bounds → Kind → Reader Item
shallow bounds k = cond (is_list k) deep (elements_of bounds no_items k)

is_l : (k : Kind) → is_list k ≡ true → k ≡ kind.L
is_l kind.L h = refl
is_l kind.B h = absurd cc
is_l kind.Bool h = absurd cc
is_l kind.A h = absurd cc
is_l kind.J h = absurd cc
is_l kind.I1 h = absurd cc
is_l kind.I2 h = absurd cc
is_l kind.I4 h = absurd cc
is_l kind.I8 h = absurd cc
is_l kind.U1 h = absurd cc
is_l kind.U2 h = absurd cc
is_l kind.U4 h = absurd cc
is_l kind.U8 h = absurd cc
is_l kind.F4 h = absurd cc
is_l kind.F8 h = absurd cc

pub list_there : (total : ℕ) (bytes : List ℕ) (k : Kind × List ℕ) → kind_at total bytes ≡ Ok k → is_list k.0 ≡ true → bytes ≡ 60 ∷ 76 ∷ k.1
list_there total bytes k e listed = kind_takes total bytes k e ∙ ap (λ (n : Kind). 60 ∷ name_of n ++ k.1) (is_l k.0 listed)

shallow_same : (bounds : Bounds) (total : ℕ) (bytes : List ℕ) → item_at bounds 0 total bytes ≡ behind kind_at (shallow bounds) total bytes
unfolding item_at behind shallow deep no_items
shallow_same bounds total bytes = of (kind_at total bytes) refl where
  chosen : (k : Kind × List ℕ) (b : Bool) → is_list k.0 ≡ b → kind_at total bytes ≡ Ok k
      → cond b (Err (fault.TooDeep (total - length bytes))) (elements_of bounds no_items k.0 total k.1) ≡ (cond b deep (elements_of bounds no_items k.0)) total k.1
  chosen k true h e = ap (λ (s : List ℕ). Err (fault.TooDeep (total - length s))) (list_there total bytes k e h)
  chosen k false h e = refl

  of : (result : Result (Kind × List ℕ) TextFault) → kind_at total bytes ≡ result
      → (result >>= shallow_at bounds total bytes) ≡ (result >>= λ x. shallow bounds x.0 total x.1)
  of (Err d) e = refl
  of (Ok k) e = chosen k (is_list k.0) refl e

-- `<L` where no list may stand
deep_at : (bounds : Bounds) (total : ℕ) (rest : List ℕ) → At (item_at bounds 0) total (60 ∷ 76 ∷ rest)
unfolding item_at kind_at name_at
deep_at bounds total rest =
    inr (record {
      seen = 60 ∷ 76 ∷ [];
      tail = rest;
      placed = refl;
      some = (60, 76 ∷ [], refl);
      sees = ([], refl, refl);
      never = λ total' tail' x read. not_ok (fault.TooDeep (total' - length (60 ∷ 76 ∷ tail'))) x read;
    })

local_leaf : (bounds : Bounds) → Local (item_at bounds 0)
unfolding shallow
local_leaf bounds total bytes = of (kind_at total bytes) refl where
  of : (result : Result (Kind × List ℕ) TextFault) → kind_at total bytes ≡ result → At (item_at bounds 0) total bytes
  of (Err d) e =
      at_same (behind kind_at (shallow bounds)) (item_at bounds 0) total bytes (shallow_same bounds)
      (at_behind kind_at (shallow bounds) total bytes (local_kind total bytes) (λ x h. let no : ◌≡◌ {A = Result (Kind × List ℕ) TextFault} (Err d) (Ok x) = sym e ∙ h in absurd cc))
  of (Ok k) e =
      elim (cases_Bool (is_list k.0)) [
        | inl listed ↦ subst (At (item_at bounds 0) total) (sym (list_there total bytes k e listed)) (deep_at bounds total k.1)
        | inr leaf ↦ at_same (behind kind_at (shallow bounds)) (item_at bounds 0) total bytes (shallow_same bounds) (at_behind kind_at (shallow bounds) total bytes (local_kind total bytes) (λ x h.
            let both : ◌≡◌ {A = Result (Kind × List ℕ) TextFault} (Ok k) (Ok x) = sym e ∙ h in
            let same : k ≡ x = cc (both) in
            let leafy : is_list x.0 ≡ false = ap (λ (y : Kind × List ℕ). is_list y.0) (sym same) ∙ leaf in
            subst (λ (b : Bool). At (cond b deep (elements_of bounds no_items x.0)) total x.1) (sym leafy) (local_elements_of bounds no_items x.0 (λ (listed : is_list x.0 ≡ true). absurd (cc (listed, leafy))) total x.1)))
      ]

pub local_item : (bounds : Bounds) (depth : ℕ) → Local (item_at bounds depth)
unfolding item_at behind
local_item bounds zero total bytes = local_leaf bounds total bytes
local_item bounds (suc depth) total bytes =
    let one = item_at bounds depth in
    let each = local_elements one (ReadsWithin bounds depth) (item_form bounds depth) (local_item bounds depth) in
    at_same (behind kind_at (elements_of bounds one)) (item_at bounds (suc depth)) total bytes (λ total bytes. refl)
    (local_behind kind_at (elements_of bounds one) local_kind (λ k. local_elements_of bounds one k (λ _. each)) total bytes)

-- ---- a whole text

-- one item, and blanks at both ends
unfoldable pub all_at : Bounds → ℕ → Reader Item
all_at bounds depth total bytes = leading total bytes >>= behind (item_at bounds depth) trailing total

pub local_all : (bounds : Bounds) (depth : ℕ) → Local (all_at bounds depth)
unfolding all_at
local_all bounds depth =
    local_then leading (behind (item_at bounds depth) trailing) (all_at bounds depth) (λ total bytes. refl) local_leading (local_behind (item_at bounds depth) trailing (local_item bounds depth) local_trailing)
