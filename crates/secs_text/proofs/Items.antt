-- Items: what is read stands in the text, and what stands there is read.
use Rattle.std.proofs.Common.{◌≡◌, ◌≢◌, ℕ, zero, suc, ◌-◌, ◌^◌, ◌≤◌, ◌<◌, ℤ, pos, negsuc, Bool, true, false, cond, eqb, lit<, lit≤, List, [], ◌∷◌, ◌++◌, length, Result, Ok, Err, refl, sym, ap, subst, ◌∙◌, append_assoc, arith}
use Rattle.std.specs.Prelude.{decimal, FitsSigned}
use Rattle.std.specs.Fmt.{signed_decimal}
use Rattle.std.specs.Int.{Width, w8, w16, w32, w64}
use Rattle.std.proofs.lemmas.Bool.{lt-ltb, ltb-true, ne_eqb}
use Rattle.std.proofs.lemmas.Fmt.{decimal_nonempty, digits_decimal}
use Rattle.secs_items.specs.declared.item.Item.{Item, out-Item}
use Rattle.secs_items.specs.declared.item.Item.TheOpen.{Item-F}
use Rattle.secs_items.specs.declared.item.Item.TheViews.{roll-Item, roll-out-Item, out-roll-Item}
use Rattle.secs_items.specs.declared.item.Item.TheVariants as item
use Rattle.secs_items.specs.declared.item.Item.TheVariants.{rolls-L, rolls-B, rolls-Bool, rolls-A, rolls-J, rolls-I1, rolls-I2, rolls-I4, rolls-I8, rolls-U1, rolls-U2, rolls-U4, rolls-U8, rolls-F4, rolls-F8}
use Rattle.secs_items.specs.declared.kind.Kind.{Kind}
use Rattle.secs_items.specs.declared.kind.Kind.TheVariants as kind
use Rattle.secs_items.specs.Kinds.{is_list}
use Rattle.secs_items.specs.Layers.{kind_of}
use Rattle.secs_text.specs.declared.text_fault.TextFault.{TextFault}
use Rattle.secs_text.specs.declared.text_fault.TextFault.TheVariants as fault
use Rattle.secs_text.specs.Grammar.{Bounds, Kept, Free, AfterBlanks, AreBlanks, HasElements, InTurn, IsHexByte, IsHexBytes, IsQuoted, IsSigned, IsText, IsUnsigned, ReadsWithin}
use Rattle.secs_text.specs.Names.{is_blank, name_of}
use Rattle.secs_text.specs.Reading.{Reader, begins, syntax_fault, elements_at, elements_of, hex_byte_at, hex_bytes_at, is_within, item_at, item_of, kind_at, shallow_at, signed_at, signed_of, text_at, unsigned_at, unsigned_of}
use Rattle.secs_text.proofs.Blanks.{bind_ok}
use Rattle.secs_text.proofs.Elements.{IsForm, Solid, blank_low, elements_again, elements_takes, hex_byte_form, hex_bytes_form}
use Rattle.secs_text.proofs.FreeNumbers.{digit_solid, free_form}
use Rattle.secs_text.proofs.KindNames.{kind_again, kind_takes}
use Rattle.secs_text.proofs.Numerals.{own, signed_again, signed_takes, unsigned_again, unsigned_takes}
use Rattle.secs_text.proofs.Quotes.{text_again, text_takes}

-- ---- numbers as elements

decimal_solid : (n : ℕ) → n < 2 ^ 64 → Solid (decimal n)
decimal_solid n small = digit_solid (decimal n) (decimal_nonempty n small) (digits_decimal own n small)

pub unsigned_form : (bounds : Bounds) (bits : ℕ) → 2 ^ bits ≤ 2 ^ 64 → IsForm (unsigned_of bounds bits) (IsUnsigned bounds (2 ^ bits))
unsigned_form Kept bits le = record {
  takes = λ total bytes x e. let u = unsigned_takes (2 ^ bits) total bytes x e in (decimal x.0, (u.0, refl), u.1);
  again = λ total n front rest is stops. ap (λ (s : List ℕ). unsigned_at bits total (s ++ rest)) is.1 ∙ unsigned_again (2 ^ bits) total n rest le is.0 stops;
  solid = λ n front is. subst Solid (sym is.1) (decimal_solid n (omega (arith, is.0, le)));
}
unsigned_form Free bits le = free_form 0

signed_solid : (half : ℕ) (z : ℤ) → half ≤ 2 ^ 63 → is_within half z ≡ true → Solid (signed_decimal z)
signed_solid half (pos n) le h = decimal_solid n (omega (arith, ltb-true n half h))
signed_solid half (negsuc n) le h = (45, decimal (suc n), refl, refl, refl)

-- the sign and the width say together how far a number may go
abbrev IsHalf : Width → ℕ → Type 0
IsHalf w bits = (z : ℤ) → (FitsSigned w z → is_within (2 ^ (bits - 1)) z ≡ true) × (is_within (2 ^ (bits - 1)) z ≡ true → FitsSigned w z)

pub signed_form : (bounds : Bounds) (w : Width) (bits : ℕ) → IsHalf w bits → 2 ^ (bits - 1) ≤ 2 ^ 63
    → IsForm (signed_of bounds bits) (IsSigned bounds w)
signed_form Kept w bits half le = record {
  takes = λ total bytes x e. let s = signed_takes (2 ^ (bits - 1)) total bytes x e in (signed_decimal x.0, ((half x.0).1 s.0, refl), s.1);
  again = λ total z front rest is stops. ap (λ (s : List ℕ). signed_at bits total (s ++ rest)) is.1 ∙ signed_again (2 ^ (bits - 1)) total z rest le ((half z).0 is.0) stops;
  solid = λ z front is. subst Solid (sym is.1) (signed_solid (2 ^ (bits - 1)) z le ((half z).0 is.0));
}
signed_form Free w bits half le = free_form (pos 0)

half_8 : IsHalf w8 8
half_8 (pos n) = (λ fits. lt-ltb n (2 ^ 7) fits.sfits, λ h. record { sfits = ltb-true n (2 ^ 7) h })
half_8 (negsuc n) = (λ fits. lt-ltb n (2 ^ 7) fits.sfits, λ h. record { sfits = ltb-true n (2 ^ 7) h })

half_16 : IsHalf w16 16
half_16 (pos n) = (λ fits. lt-ltb n (2 ^ 15) fits.sfits, λ h. record { sfits = ltb-true n (2 ^ 15) h })
half_16 (negsuc n) = (λ fits. lt-ltb n (2 ^ 15) fits.sfits, λ h. record { sfits = ltb-true n (2 ^ 15) h })

half_32 : IsHalf w32 32
half_32 (pos n) = (λ fits. lt-ltb n (2 ^ 31) fits.sfits, λ h. record { sfits = ltb-true n (2 ^ 31) h })
half_32 (negsuc n) = (λ fits. lt-ltb n (2 ^ 31) fits.sfits, λ h. record { sfits = ltb-true n (2 ^ 31) h })

half_64 : IsHalf w64 64
half_64 (pos n) = (λ fits. lt-ltb n (2 ^ 63) fits.sfits, λ h. record { sfits = ltb-true n (2 ^ 63) h })
half_64 (negsuc n) = (λ fits. lt-ltb n (2 ^ 63) fits.sfits, λ h. record { sfits = ltb-true n (2 ^ 63) h })

pub signed_form_8 : (bounds : Bounds) → IsForm (signed_of bounds 8) (IsSigned bounds w8)
signed_form_8 bounds = signed_form bounds w8 8 half_8 (lit≤ tt)

pub unsigned_form_8 : (bounds : Bounds) → IsForm (unsigned_of bounds 8) (IsUnsigned bounds (2 ^ 8))
unsigned_form_8 bounds = unsigned_form bounds 8 (lit≤ tt)

pub signed_form_16 : (bounds : Bounds) → IsForm (signed_of bounds 16) (IsSigned bounds w16)
signed_form_16 bounds = signed_form bounds w16 16 half_16 (lit≤ tt)

pub unsigned_form_16 : (bounds : Bounds) → IsForm (unsigned_of bounds 16) (IsUnsigned bounds (2 ^ 16))
unsigned_form_16 bounds = unsigned_form bounds 16 (lit≤ tt)

pub signed_form_32 : (bounds : Bounds) → IsForm (signed_of bounds 32) (IsSigned bounds w32)
signed_form_32 bounds = signed_form bounds w32 32 half_32 (lit≤ tt)

pub unsigned_form_32 : (bounds : Bounds) → IsForm (unsigned_of bounds 32) (IsUnsigned bounds (2 ^ 32))
unsigned_form_32 bounds = unsigned_form bounds 32 (lit≤ tt)

pub signed_form_64 : (bounds : Bounds) → IsForm (signed_of bounds 64) (IsSigned bounds w64)
signed_form_64 bounds = signed_form bounds w64 64 half_64 (lit≤ tt)

pub unsigned_form_64 : (bounds : Bounds) → IsForm (unsigned_of bounds 64) (IsUnsigned bounds (2 ^ 64))
unsigned_form_64 bounds = unsigned_form bounds 64 (lit≤ tt)

-- ---- behind a name

-- the elements of an item, and its end
abbrev pub Behind : Bounds → (List Item → List ℕ → Type 0) → Item-F Item → List ℕ → List ℕ → Type 0
Behind bounds Items x bytes rest =
    (elements : List ℕ) × (blanks : List ℕ) × HasElements bounds Items x elements × AreBlanks blanks × (bytes ≡ elements ++ (blanks ++ 62 ∷ rest))

abbrev IsItem : Bounds → (List Item → List ℕ → Type 0) → Kind → List ℕ → Item × List ℕ → Type 0
IsItem bounds Items k bytes x = (kind_of (out-Item x.0) ≡ k) × Behind bounds Items (out-Item x.0) bytes x.1

made : {T : Type 0} (bounds : Bounds) (Items : List Item → List ℕ → Type 0) (make : T → Item) (shape : T → Item-F Item) (k : Kind)
    → ((y : T) → roll-Item (shape y) ≡ make y) → ((y : T) → kind_of (shape y) ≡ k)
    → (read : Result (T × List ℕ) TextFault) (bytes : List ℕ) (x : Item × List ℕ) → item_of make read ≡ Ok x
    → ((y : T × List ℕ) → read ≡ Ok y → Behind bounds Items (shape y.0) bytes y.1) → IsItem bounds Items k bytes x
made {T} bounds Items make shape k rolls same read bytes x e behind =
    let a = bind_ok read (λ (y : T × List ℕ). Ok (make y.0, y.1)) x e in
    let made : ◌≡◌ {A = Item × List ℕ} (make a.0.0, a.0.1) x = cc (a.2) in
    let outs : out-Item (make a.0.0) ≡ shape a.0.0 = ap out-Item (sym (rolls a.0.0)) ∙ out-roll-Item (shape a.0.0) in
    let b = behind a.0 a.1 in
    subst (IsItem bounds Items k bytes) made
    (ap kind_of outs ∙ same a.0.0, subst (λ (y : Item-F Item). Behind bounds Items y bytes a.0.1) (sym outs) b)

behind_takes : (bounds : Bounds) (Items : List Item → List ℕ → Type 0) (one : Reader Item) (k : Kind) (total : ℕ) (bytes : List ℕ) (x : Item × List ℕ)
    → (is_list k ≡ true → (y : List Item × List ℕ) → elements_at one total bytes ≡ Ok y → Behind bounds Items (Item-F.L y.0) bytes y.1)
    → elements_of bounds one k total bytes ≡ Ok x → IsItem bounds Items k bytes x
unfolding elements_of
behind_takes bounds Items one kind.L total bytes x lists e =
    made bounds Items item.L (λ y. Item-F.L y) kind.L rolls-L (λ y. refl) (elements_at one total bytes) bytes x e (lists refl)
behind_takes bounds Items one kind.B total bytes x lists e =
    made bounds Items item.B (λ y. Item-F.B y) kind.B rolls-B (λ y. refl) (elements_at hex_byte_at total bytes) bytes x e
    (elements_takes hex_byte_at IsHexByte hex_byte_form total bytes)
behind_takes bounds Items one kind.Bool total bytes x lists e =
    made bounds Items item.Bool (λ y. Item-F.Bool y) kind.Bool rolls-Bool (λ y. refl) (elements_at hex_byte_at total bytes) bytes x e
    (elements_takes hex_byte_at IsHexByte hex_byte_form total bytes)
behind_takes bounds Items one kind.A total bytes x lists e =
    made bounds Items item.A (λ y. Item-F.A y) kind.A rolls-A (λ y. refl) (text_at total bytes) bytes x e (text_takes total bytes)
behind_takes bounds Items one kind.J total bytes x lists e =
    made bounds Items item.J (λ y. Item-F.J y) kind.J rolls-J (λ y. refl) (elements_at hex_byte_at total bytes) bytes x e
    (elements_takes hex_byte_at IsHexByte hex_byte_form total bytes)
behind_takes bounds Items one kind.I1 total bytes x lists e =
    made bounds Items item.I1 (λ y. Item-F.I1 y) kind.I1 rolls-I1 (λ y. refl) _ bytes x e (elements_takes _ _ (signed_form_8 bounds) total bytes)
behind_takes bounds Items one kind.I2 total bytes x lists e =
    made bounds Items item.I2 (λ y. Item-F.I2 y) kind.I2 rolls-I2 (λ y. refl) _ bytes x e (elements_takes _ _ (signed_form_16 bounds) total bytes)
behind_takes bounds Items one kind.I4 total bytes x lists e =
    made bounds Items item.I4 (λ y. Item-F.I4 y) kind.I4 rolls-I4 (λ y. refl) _ bytes x e (elements_takes _ _ (signed_form_32 bounds) total bytes)
behind_takes bounds Items one kind.I8 total bytes x lists e =
    made bounds Items item.I8 (λ y. Item-F.I8 y) kind.I8 rolls-I8 (λ y. refl) _ bytes x e (elements_takes _ _ (signed_form_64 bounds) total bytes)
behind_takes bounds Items one kind.U1 total bytes x lists e =
    made bounds Items item.U1 (λ y. Item-F.U1 y) kind.U1 rolls-U1 (λ y. refl) _ bytes x e (elements_takes _ _ (unsigned_form_8 bounds) total bytes)
behind_takes bounds Items one kind.U2 total bytes x lists e =
    made bounds Items item.U2 (λ y. Item-F.U2 y) kind.U2 rolls-U2 (λ y. refl) _ bytes x e (elements_takes _ _ (unsigned_form_16 bounds) total bytes)
behind_takes bounds Items one kind.U4 total bytes x lists e =
    made bounds Items item.U4 (λ y. Item-F.U4 y) kind.U4 rolls-U4 (λ y. refl) _ bytes x e (elements_takes _ _ (unsigned_form_32 bounds) total bytes)
behind_takes bounds Items one kind.U8 total bytes x lists e =
    made bounds Items item.U8 (λ y. Item-F.U8 y) kind.U8 rolls-U8 (λ y. refl) _ bytes x e (elements_takes _ _ (unsigned_form_64 bounds) total bytes)
behind_takes bounds Items one kind.F4 total bytes x lists e =
    made bounds Items item.F4 (λ y. Item-F.F4 y) kind.F4 rolls-F4 (λ y. refl) (elements_at (hex_bytes_at 4) total bytes) bytes x e
    (elements_takes (hex_bytes_at 4) (IsHexBytes 4) (hex_bytes_form 4 (lit< tt)) total bytes)
behind_takes bounds Items one kind.F8 total bytes x lists e =
    made bounds Items item.F8 (λ y. Item-F.F8 y) kind.F8 rolls-F8 (λ y. refl) (elements_at (hex_bytes_at 8) total bytes) bytes x e
    (elements_takes (hex_bytes_at 8) (IsHexBytes 8) (hex_bytes_form 8 (lit< tt)) total bytes)

again : {T : Type 0} (make : T → Item) (y : T) (i : Item) (rest : List ℕ) (read : Result (T × List ℕ) TextFault) → make y ≡ i → read ≡ Ok (y, rest)
    → item_of make read ≡ Ok (i, rest)
again make y i rest read same e = rw e (ap (λ (j : Item). Ok (j, rest)) same)

behind_again : (bounds : Bounds) (Items : List Item → List ℕ → Type 0) (one : Reader Item) (total : ℕ) (x : Item-F Item) (i : Item) (elements blanks rest : List ℕ)
    → roll-Item x ≡ i
    → ((ys : List Item) → Items ys elements → elements_at one total (elements ++ (blanks ++ 62 ∷ rest)) ≡ Ok (ys, rest))
    → HasElements bounds Items x elements → AreBlanks blanks
    → elements_of bounds one (kind_of x) total (elements ++ (blanks ++ 62 ∷ rest)) ≡ Ok (i, rest)
unfolding elements_of
behind_again bounds Items one total (Item-F.L ys) i elements blanks rest rolls lists has h =
    again item.L ys i rest _ (sym (rolls-L ys) ∙ rolls) (lists ys has)
behind_again bounds Items one total (Item-F.B ys) i elements blanks rest rolls lists has h =
    again item.B ys i rest _ (sym (rolls-B ys) ∙ rolls) (elements_again hex_byte_at IsHexByte hex_byte_form total ys elements blanks rest has h)
behind_again bounds Items one total (Item-F.Bool ys) i elements blanks rest rolls lists has h =
    again item.Bool ys i rest _ (sym (rolls-Bool ys) ∙ rolls) (elements_again hex_byte_at IsHexByte hex_byte_form total ys elements blanks rest has h)
behind_again bounds Items one total (Item-F.A ys) i elements blanks rest rolls lists has h =
    again item.A ys i rest _ (sym (rolls-A ys) ∙ rolls) (text_again total ys elements blanks rest has h)
behind_again bounds Items one total (Item-F.J ys) i elements blanks rest rolls lists has h =
    again item.J ys i rest _ (sym (rolls-J ys) ∙ rolls) (elements_again hex_byte_at IsHexByte hex_byte_form total ys elements blanks rest has h)
behind_again bounds Items one total (Item-F.I1 ys) i elements blanks rest rolls lists has h =
    again item.I1 ys i rest _ (sym (rolls-I1 ys) ∙ rolls) (elements_again _ _ (signed_form_8 bounds) total ys elements blanks rest has h)
behind_again bounds Items one total (Item-F.I2 ys) i elements blanks rest rolls lists has h =
    again item.I2 ys i rest _ (sym (rolls-I2 ys) ∙ rolls) (elements_again _ _ (signed_form_16 bounds) total ys elements blanks rest has h)
behind_again bounds Items one total (Item-F.I4 ys) i elements blanks rest rolls lists has h =
    again item.I4 ys i rest _ (sym (rolls-I4 ys) ∙ rolls) (elements_again _ _ (signed_form_32 bounds) total ys elements blanks rest has h)
behind_again bounds Items one total (Item-F.I8 ys) i elements blanks rest rolls lists has h =
    again item.I8 ys i rest _ (sym (rolls-I8 ys) ∙ rolls) (elements_again _ _ (signed_form_64 bounds) total ys elements blanks rest has h)
behind_again bounds Items one total (Item-F.U1 ys) i elements blanks rest rolls lists has h =
    again item.U1 ys i rest _ (sym (rolls-U1 ys) ∙ rolls) (elements_again _ _ (unsigned_form_8 bounds) total ys elements blanks rest has h)
behind_again bounds Items one total (Item-F.U2 ys) i elements blanks rest rolls lists has h =
    again item.U2 ys i rest _ (sym (rolls-U2 ys) ∙ rolls) (elements_again _ _ (unsigned_form_16 bounds) total ys elements blanks rest has h)
behind_again bounds Items one total (Item-F.U4 ys) i elements blanks rest rolls lists has h =
    again item.U4 ys i rest _ (sym (rolls-U4 ys) ∙ rolls) (elements_again _ _ (unsigned_form_32 bounds) total ys elements blanks rest has h)
behind_again bounds Items one total (Item-F.U8 ys) i elements blanks rest rolls lists has h =
    again item.U8 ys i rest _ (sym (rolls-U8 ys) ∙ rolls) (elements_again _ _ (unsigned_form_64 bounds) total ys elements blanks rest has h)
behind_again bounds Items one total (Item-F.F4 ys) i elements blanks rest rolls lists has h =
    again item.F4 ys i rest _ (sym (rolls-F4 ys) ∙ rolls)
    (elements_again (hex_bytes_at 4) (IsHexBytes 4) (hex_bytes_form 4 (lit< tt)) total ys elements blanks rest has h)
behind_again bounds Items one total (Item-F.F8 ys) i elements blanks rest rolls lists has h =
    again item.F8 ys i rest _ (sym (rolls-F8 ys) ∙ rolls)
    (elements_again (hex_bytes_at 8) (IsHexBytes 8) (hex_bytes_form 8 (lit< tt)) total ys elements blanks rest has h)

-- ---- what stands behind a name isn't the O of BOOLEAN

blank_other : (b : ℕ) → is_blank b ≡ true → eqb b 79 ≡ false
blank_other b h = ne_eqb b 79 (λ (e : b ≡ 79). omega (arith, blank_low b h))

end_other : (blanks rest : List ℕ) → AreBlanks blanks → begins 79 (blanks ++ 62 ∷ rest) ≡ false
end_other [] rest h = refl
end_other (b ∷ blanks) rest h = blank_other b h.0

space_other : (blanks rest : List ℕ) → AreBlanks blanks → blanks ≢ [] → begins 79 (blanks ++ rest) ≡ false
space_other [] rest h some = absurd (some refl)
space_other (b ∷ blanks) rest h some = blank_other b h.0

after_other : {T : Type 0} (Is : T → List ℕ → Type 0) (x : T) (text rest : List ℕ) → AfterBlanks Is x text → begins 79 (text ++ rest) ≡ false
after_other Is x text rest t = ap (begins 79) (ap (λ (s : List ℕ). s ++ rest) t.2 ∙ append_assoc t.0 t.1 rest) ∙ space_other t.0 (t.1 ++ rest) t.3 t.4

pub turn_other : {T : Type 0} (Is : T → List ℕ → Type 0) (xs : List T) (text blanks rest : List ℕ) → AreBlanks blanks
    → InTurn (AfterBlanks Is) xs text → begins 79 (text ++ (blanks ++ 62 ∷ rest)) ≡ false
turn_other Is [] text blanks rest h t = ap (λ (s : List ℕ). begins 79 (s ++ (blanks ++ 62 ∷ rest))) t ∙ end_other blanks rest h
turn_other Is (x ∷ xs) text blanks rest h t =
    ap (begins 79) (ap (λ (s : List ℕ). s ++ (blanks ++ 62 ∷ rest)) t.2 ∙ append_assoc t.0 t.1 (blanks ++ 62 ∷ rest))
    ∙ after_other Is x t.0 (t.1 ++ (blanks ++ 62 ∷ rest)) t.3

elements_other : (bounds : Bounds) (Items : List Item → List ℕ → Type 0) (x : Item-F Item) (elements blanks rest : List ℕ)
    → ((ys : List Item) → Items ys elements → begins 79 (elements ++ (blanks ++ 62 ∷ rest)) ≡ false)
    → HasElements bounds Items x elements → AreBlanks blanks → begins 79 (elements ++ (blanks ++ 62 ∷ rest)) ≡ false
elements_other bounds Items (Item-F.L ys) elements blanks rest lists has h = lists ys has
elements_other bounds Items (Item-F.B ys) elements blanks rest lists has h = turn_other IsHexByte ys elements blanks rest h has
elements_other bounds Items (Item-F.Bool ys) elements blanks rest lists has h = turn_other IsHexByte ys elements blanks rest h has
elements_other bounds Items (Item-F.A ys) elements blanks rest lists has h = after_other IsQuoted ys elements (blanks ++ 62 ∷ rest) has
elements_other bounds Items (Item-F.J ys) elements blanks rest lists has h = turn_other IsHexByte ys elements blanks rest h has
elements_other bounds Items (Item-F.I1 ys) elements blanks rest lists has h = turn_other (IsSigned bounds w8) ys elements blanks rest h has
elements_other bounds Items (Item-F.I2 ys) elements blanks rest lists has h = turn_other (IsSigned bounds w16) ys elements blanks rest h has
elements_other bounds Items (Item-F.I4 ys) elements blanks rest lists has h = turn_other (IsSigned bounds w32) ys elements blanks rest h has
elements_other bounds Items (Item-F.I8 ys) elements blanks rest lists has h = turn_other (IsSigned bounds w64) ys elements blanks rest h has
elements_other bounds Items (Item-F.U1 ys) elements blanks rest lists has h = turn_other (IsUnsigned bounds (2 ^ 8)) ys elements blanks rest h has
elements_other bounds Items (Item-F.U2 ys) elements blanks rest lists has h = turn_other (IsUnsigned bounds (2 ^ 16)) ys elements blanks rest h has
elements_other bounds Items (Item-F.U4 ys) elements blanks rest lists has h = turn_other (IsUnsigned bounds (2 ^ 32)) ys elements blanks rest h has
elements_other bounds Items (Item-F.U8 ys) elements blanks rest lists has h = turn_other (IsUnsigned bounds (2 ^ 64)) ys elements blanks rest h has
elements_other bounds Items (Item-F.F4 ys) elements blanks rest lists has h = turn_other (IsHexBytes 4) ys elements blanks rest h has
elements_other bounds Items (Item-F.F8 ys) elements blanks rest lists has h = turn_other (IsHexBytes 8) ys elements blanks rest h has

-- ---- one item

-- an item at the front, and the bytes after it
abbrev Front : Bounds → (List Item → List ℕ → Type 0) → List ℕ → Item × List ℕ → Type 0
Front bounds Items bytes x = (front : List ℕ) × IsText bounds Items (out-Item x.0) front × (bytes ≡ front ++ x.1)

closed : (elements blanks rest : List ℕ) → elements ++ (blanks ++ 62 ∷ rest) ≡ (elements ++ (blanks ++ 62 ∷ [])) ++ rest
closed elements blanks rest = simp append_assoc

front_takes : (bounds : Bounds) (Items : List Item → List ℕ → Type 0) (total : ℕ) (bytes : List ℕ) (k : Kind × List ℕ) (x : Item × List ℕ)
    → kind_at total bytes ≡ Ok k → IsItem bounds Items k.0 k.1 x → Front bounds Items bytes x
front_takes bounds Items total bytes k x e is =
    let b = is.1 in
    let name = name_of (kind_of (out-Item x.0)) in
    let inner = b.0 ++ (b.1 ++ 62 ∷ []) in
    let whole : bytes ≡ (60 ∷ name ++ inner) ++ x.1 =
    kind_takes total bytes k e ∙ ap (λ (n : List ℕ). 60 ∷ n ++ k.1) (ap name_of (sym is.0)) ∙ ap (λ (s : List ℕ). 60 ∷ name ++ s) (b.4 ∙ closed b.0 b.1 x.1) ∙ sym (append_assoc (60 ∷ name) inner x.1) in
    (60 ∷ name ++ inner, record { elements = b.0; blanks = b.1; holds = b.2; ends = b.3; placed = refl }, whole)

front_again : (bounds : Bounds) (Items : List Item → List ℕ → Type 0) (one : Reader Item) (total : ℕ) (i : Item) (front rest : List ℕ) (t : IsText bounds Items (out-Item i) front)
    → ((ys : List Item) → Items ys t.elements → elements_at one total (t.elements ++ (t.blanks ++ 62 ∷ rest)) ≡ Ok (ys, rest))
    → ((ys : List Item) → Items ys t.elements → begins 79 (t.elements ++ (t.blanks ++ 62 ∷ rest)) ≡ false)
    → (kind_at total (front ++ rest) ≡ Ok (kind_of (out-Item i), t.elements ++ (t.blanks ++ 62 ∷ rest))) × (elements_of bounds one (kind_of (out-Item i)) total (t.elements ++ (t.blanks ++ 62 ∷ rest)) ≡ Ok (i, rest))
front_again bounds Items one total i front rest t lists others =
    let x = out-Item i in
    let behind = t.elements ++ (t.blanks ++ 62 ∷ rest) in
    let inner = t.elements ++ (t.blanks ++ 62 ∷ []) in
    let regrouped : front ++ rest ≡ 60 ∷ name_of (kind_of x) ++ behind = ap (λ (s : List ℕ). s ++ rest) t.placed ∙ append_assoc (60 ∷ name_of (kind_of x)) inner rest ∙ ap (λ (s : List ℕ). 60 ∷ name_of (kind_of x) ++ s) (sym (closed t.elements t.blanks rest)) in (
      ap (kind_at total) regrouped ∙ kind_again total (kind_of x) behind (elements_other bounds Items x t.elements t.blanks rest others t.holds t.ends),
      behind_again bounds Items one total x i t.elements t.blanks rest (roll-out-Item i) lists t.holds t.ends,
    )

front_solid : (bounds : Bounds) (Items : List Item → List ℕ → Type 0) (x : Item-F Item) (front : List ℕ) → IsText bounds Items x front → Solid front
front_solid bounds Items x front t = (60, name_of (kind_of x) ++ (t.elements ++ (t.blanks ++ 62 ∷ [])), t.placed, refl, refl)

-- where no list may stand
shallow_takes : (bounds : Bounds) (total : ℕ) (bytes : List ℕ) (k : Kind × List ℕ) (x : Item × List ℕ) (b : Bool) → is_list k.0 ≡ b
    → cond b (Err (fault.TooDeep (total - length bytes))) (elements_of bounds (λ total bytes. syntax_fault total bytes) k.0 total k.1) ≡ Ok x
    → IsItem bounds (λ _ _. ⊥) k.0 k.1 x
shallow_takes bounds total bytes k x true h e = absurd cc
shallow_takes bounds total bytes k x false h e =
    behind_takes bounds (λ _ _. ⊥) (λ total bytes. syntax_fault total bytes) k.0 total k.1 x (λ (listed : is_list k.0 ≡ true). absurd (cc)) e

no_list : (bounds : Bounds) (x : Item-F Item) (elements : List ℕ) → HasElements bounds (λ _ _. ⊥) x elements → is_list (kind_of x) ≡ false
no_list bounds (Item-F.L ys) elements has = absurd has
no_list bounds (Item-F.B ys) elements has = refl
no_list bounds (Item-F.Bool ys) elements has = refl
no_list bounds (Item-F.A ys) elements has = refl
no_list bounds (Item-F.J ys) elements has = refl
no_list bounds (Item-F.I1 ys) elements has = refl
no_list bounds (Item-F.I2 ys) elements has = refl
no_list bounds (Item-F.I4 ys) elements has = refl
no_list bounds (Item-F.I8 ys) elements has = refl
no_list bounds (Item-F.U1 ys) elements has = refl
no_list bounds (Item-F.U2 ys) elements has = refl
no_list bounds (Item-F.U4 ys) elements has = refl
no_list bounds (Item-F.U8 ys) elements has = refl
no_list bounds (Item-F.F4 ys) elements has = refl
no_list bounds (Item-F.F8 ys) elements has = refl

leaf_form : (bounds : Bounds) → IsForm (item_at bounds 0) (ReadsWithin bounds 0)
unfolding item_at
leaf_form bounds = record {
  takes = λ total bytes x e.
      let a = bind_ok (kind_at total bytes) (shallow_at bounds total bytes) x e in
      front_takes bounds (λ _ _. ⊥) total bytes a.0 x a.1 (shallow_takes bounds total bytes a.0 x (is_list a.0.0) refl a.2);
  again = λ total i front rest t stops.
      let r = front_again bounds (λ _ _. ⊥) (λ total bytes. syntax_fault total bytes) total i front rest t (λ ys no. absurd no) (λ ys no. absurd no) in
      rw (r.0, no_list bounds (out-Item i) t.elements t.holds) r.1;
  solid = λ i front t. front_solid bounds (λ _ _. ⊥) (out-Item i) front t;
}

deeper : (bounds : Bounds) (depth : ℕ) → IsForm (item_at bounds depth) (ReadsWithin bounds depth)
    → IsForm (item_at bounds (suc depth)) (ReadsWithin bounds (suc depth))
unfolding item_at
deeper bounds depth form = record {
  takes = λ total bytes x e.
      let a = bind_ok (kind_at total bytes) (λ (k : Kind × List ℕ). elements_of bounds (item_at bounds depth) k.0 total k.1) x e in
      let Items : List Item → List ℕ → Type 0 = InTurn (AfterBlanks (ReadsWithin bounds depth)) in
      front_takes bounds Items total bytes a.0 x a.1 (behind_takes bounds Items (item_at bounds depth) a.0.0 total a.0.1 x (λ _. elements_takes (item_at bounds depth) (ReadsWithin bounds depth) form total a.0.1) a.2);
  again = λ total i front rest t stops.
      let Items : List Item → List ℕ → Type 0 = InTurn (AfterBlanks (ReadsWithin bounds depth)) in
      let r =
      front_again bounds Items (item_at bounds depth) total i front rest t
      (λ ys each. elements_again (item_at bounds depth) (ReadsWithin bounds depth) form total ys t.elements t.blanks rest each t.ends)
      (λ ys each. turn_other (ReadsWithin bounds depth) ys t.elements t.blanks rest t.ends each) in
      rw r.0 r.1;
  solid = λ i front t. front_solid bounds (InTurn (AfterBlanks (ReadsWithin bounds depth))) (out-Item i) front t;
}

pub item_form : (bounds : Bounds) (depth : ℕ) → IsForm (item_at bounds depth) (ReadsWithin bounds depth)
item_form bounds zero = leaf_form bounds
item_form bounds (suc depth) = deeper bounds depth (item_form bounds depth)
