-- Items that are no lists, and their content: each from the other.
use Rattle.std.proofs.Common.{◌≡◌, ℕ, ◌/◌, ◌%◌, false, List, length, refl, sym, ap, subst, ◌∙◌, arith}
use Rattle.std.specs.Int.{w8, w16, w32, w64, from_be_bytes}
use Rattle.secs_items.specs.declared.item.Item.{Item, out-Item}
use Rattle.secs_items.specs.declared.item.Item.TheOpen.{Item-F}
use Rattle.secs_items.specs.declared.item.Item.TheViews.{roll-Item}
use Rattle.secs_items.specs.declared.item.Item.TheVariants as item
use Rattle.secs_items.specs.declared.item.Item.TheVariants.{rolls-B, rolls-Bool, rolls-A, rolls-J, rolls-I1, rolls-I2, rolls-I4, rolls-I8, rolls-U1, rolls-U2, rolls-U4, rolls-U8, rolls-F4, rolls-F8}
use Rattle.secs_items.specs.declared.kind.Kind.{Kind}
use Rattle.secs_items.specs.declared.kind.Kind.TheVariants as kind
use Rattle.secs_items.specs.Elements.{elements_at, signed_at}
use Rattle.secs_items.specs.Kinds.{is_list, unit_of}
use Rattle.secs_items.specs.Layers.{kind_of, length_of}
use Rattle.secs_items.specs.Reading.{leaf_of}
use Rattle.secs_items.specs.Spelling.{HasContent}
use Rattle.secs_items.proofs.Layers.{out_B, out_Bool, out_A, out_J, out_I1, out_I2, out_I4, out_I8, out_U1, out_U2, out_U4, out_U8, out_F4, out_F8}
use Rattle.secs_items.proofs.Numbers.{IsBytes, content_long, each_byte, elements_back, form_8, form_16, form_32, form_64, raw_form, read_again, signed_form}

-- an item of the kind that has the content
pub record IsLeaf (InTurn : List Item → List ℕ → Type 0) (kind : Kind) (content : List ℕ) (x : Item-F Item) : Type 0 where
  pub same : kind_of x ≡ kind
  pub long : length_of x ≡ length content
  pub holds : HasContent InTurn x content

pub leaf_takes : (InTurn : List Item → List ℕ → Type 0) (kind : Kind) (content : List ℕ) → is_list kind ≡ false → IsBytes content
    → length content % unit_of kind ≡ 0 → IsLeaf InTurn kind content (out-Item (leaf_of kind content))
leaf_takes InTurn kind.L content leaf fits even = absurd cc
leaf_takes InTurn kind.B content leaf fits even =
    subst (IsLeaf InTurn kind.B content) (sym (out_B content)) (record { same = refl; long = omega arith; holds = record { fit = each_byte content fits; placed = refl } })
leaf_takes InTurn kind.Bool content leaf fits even =
    subst (IsLeaf InTurn kind.Bool content) (sym (out_Bool content)) (record { same = refl; long = omega arith; holds = record { fit = each_byte content fits; placed = refl } })
leaf_takes InTurn kind.A content leaf fits even =
    subst (IsLeaf InTurn kind.A content) (sym (out_A content)) (record { same = refl; long = omega arith; holds = record { fit = each_byte content fits; placed = refl } })
leaf_takes InTurn kind.J content leaf fits even =
    subst (IsLeaf InTurn kind.J content) (sym (out_J content)) (record { same = refl; long = omega arith; holds = record { fit = each_byte content fits; placed = refl } })
leaf_takes InTurn kind.I1 content leaf fits even =
    let e = elements_back (signed_form w8 1 form_8) (length content / 1) content (omega (arith, even)) fits in
    subst (IsLeaf InTurn kind.I1 content) (sym (out_I1 (elements_at (signed_at w8) 1 (length content / 1) content))) (record { same = refl; long = omega (arith, e.2, even); holds = record { fit = e.1; placed = e.0 } })
leaf_takes InTurn kind.I2 content leaf fits even =
    let e = elements_back (signed_form w16 2 form_16) (length content / 2) content (omega (arith, even)) fits in
    subst (IsLeaf InTurn kind.I2 content) (sym (out_I2 (elements_at (signed_at w16) 2 (length content / 2) content))) (record { same = refl; long = omega (arith, e.2, even); holds = record { fit = e.1; placed = e.0 } })
leaf_takes InTurn kind.I4 content leaf fits even =
    let e = elements_back (signed_form w32 4 form_32) (length content / 4) content (omega (arith, even)) fits in
    subst (IsLeaf InTurn kind.I4 content) (sym (out_I4 (elements_at (signed_at w32) 4 (length content / 4) content))) (record { same = refl; long = omega (arith, e.2, even); holds = record { fit = e.1; placed = e.0 } })
leaf_takes InTurn kind.I8 content leaf fits even =
    let e = elements_back (signed_form w64 8 form_64) (length content / 8) content (omega (arith, even)) fits in
    subst (IsLeaf InTurn kind.I8 content) (sym (out_I8 (elements_at (signed_at w64) 8 (length content / 8) content))) (record { same = refl; long = omega (arith, e.2, even); holds = record { fit = e.1; placed = e.0 } })
leaf_takes InTurn kind.U1 content leaf fits even =
    subst (IsLeaf InTurn kind.U1 content) (sym (out_U1 content)) (record { same = refl; long = omega arith; holds = record { fit = each_byte content fits; placed = refl } })
leaf_takes InTurn kind.U2 content leaf fits even =
    let e = elements_back form_16 (length content / 2) content (omega (arith, even)) fits in
    subst (IsLeaf InTurn kind.U2 content) (sym (out_U2 (elements_at (from_be_bytes w16) 2 (length content / 2) content))) (record { same = refl; long = omega (arith, e.2, even); holds = record { fit = e.1; placed = e.0 } })
leaf_takes InTurn kind.U4 content leaf fits even =
    let e = elements_back form_32 (length content / 4) content (omega (arith, even)) fits in
    subst (IsLeaf InTurn kind.U4 content) (sym (out_U4 (elements_at (from_be_bytes w32) 4 (length content / 4) content))) (record { same = refl; long = omega (arith, e.2, even); holds = record { fit = e.1; placed = e.0 } })
leaf_takes InTurn kind.U8 content leaf fits even =
    let e = elements_back form_64 (length content / 8) content (omega (arith, even)) fits in
    subst (IsLeaf InTurn kind.U8 content) (sym (out_U8 (elements_at (from_be_bytes w64) 8 (length content / 8) content))) (record { same = refl; long = omega (arith, e.2, even); holds = record { fit = e.1; placed = e.0 } })
leaf_takes InTurn kind.F4 content leaf fits even =
    let e = elements_back (raw_form 4) (length content / 4) content (omega (arith, even)) fits in
    subst (IsLeaf InTurn kind.F4 content) (sym (out_F4 (elements_at (λ raw. raw) 4 (length content / 4) content))) (record { same = refl; long = omega (arith, e.2, even); holds = record { fit = e.1; placed = e.0 } })
leaf_takes InTurn kind.F8 content leaf fits even =
    let e = elements_back (raw_form 8) (length content / 8) content (omega (arith, even)) fits in
    subst (IsLeaf InTurn kind.F8 content) (sym (out_F8 (elements_at (λ raw. raw) 8 (length content / 8) content))) (record { same = refl; long = omega (arith, e.2, even); holds = record { fit = e.1; placed = e.0 } })

pub leaf_again : (InTurn : List Item → List ℕ → Type 0) (x : Item-F Item) (i : Item) (content : List ℕ) → roll-Item x ≡ i
    → is_list (kind_of x) ≡ false → HasContent InTurn x content → (leaf_of (kind_of x) content ≡ i) × (length content ≡ length_of x)
leaf_again InTurn (Item-F.L items) i content rolls leaf holds = absurd cc
leaf_again InTurn (Item-F.B bytes) i content rolls leaf holds =
    (ap item.B holds.placed ∙ sym (rolls-B bytes) ∙ rolls, omega (arith, ap length holds.placed))
leaf_again InTurn (Item-F.Bool bytes) i content rolls leaf holds =
    (ap item.Bool holds.placed ∙ sym (rolls-Bool bytes) ∙ rolls, omega (arith, ap length holds.placed))
leaf_again InTurn (Item-F.A bytes) i content rolls leaf holds =
    (ap item.A holds.placed ∙ sym (rolls-A bytes) ∙ rolls, omega (arith, ap length holds.placed))
leaf_again InTurn (Item-F.J bytes) i content rolls leaf holds =
    (ap item.J holds.placed ∙ sym (rolls-J bytes) ∙ rolls, omega (arith, ap length holds.placed))
leaf_again InTurn (Item-F.I1 xs) i content rolls leaf holds =
    let long = content_long (signed_form w8 1 form_8) xs content holds.fit holds.placed in
    (ap item.I1 (read_again (signed_form w8 1 form_8) xs content (length content / 1) holds.fit holds.placed (omega (arith, long))) ∙ sym (rolls-I1 xs) ∙ rolls, long)
leaf_again InTurn (Item-F.I2 xs) i content rolls leaf holds =
    let long = content_long (signed_form w16 2 form_16) xs content holds.fit holds.placed in
    (ap item.I2 (read_again (signed_form w16 2 form_16) xs content (length content / 2) holds.fit holds.placed (omega (arith, long))) ∙ sym (rolls-I2 xs) ∙ rolls, long)
leaf_again InTurn (Item-F.I4 xs) i content rolls leaf holds =
    let long = content_long (signed_form w32 4 form_32) xs content holds.fit holds.placed in
    (ap item.I4 (read_again (signed_form w32 4 form_32) xs content (length content / 4) holds.fit holds.placed (omega (arith, long))) ∙ sym (rolls-I4 xs) ∙ rolls, long)
leaf_again InTurn (Item-F.I8 xs) i content rolls leaf holds =
    let long = content_long (signed_form w64 8 form_64) xs content holds.fit holds.placed in
    (ap item.I8 (read_again (signed_form w64 8 form_64) xs content (length content / 8) holds.fit holds.placed (omega (arith, long))) ∙ sym (rolls-I8 xs) ∙ rolls, long)
leaf_again InTurn (Item-F.U1 bytes) i content rolls leaf holds =
    (ap item.U1 holds.placed ∙ sym (rolls-U1 bytes) ∙ rolls, omega (arith, ap length holds.placed))
leaf_again InTurn (Item-F.U2 xs) i content rolls leaf holds =
    let long = content_long form_16 xs content holds.fit holds.placed in
    (ap item.U2 (read_again form_16 xs content (length content / 2) holds.fit holds.placed (omega (arith, long))) ∙ sym (rolls-U2 xs) ∙ rolls, long)
leaf_again InTurn (Item-F.U4 xs) i content rolls leaf holds =
    let long = content_long form_32 xs content holds.fit holds.placed in
    (ap item.U4 (read_again form_32 xs content (length content / 4) holds.fit holds.placed (omega (arith, long))) ∙ sym (rolls-U4 xs) ∙ rolls, long)
leaf_again InTurn (Item-F.U8 xs) i content rolls leaf holds =
    let long = content_long form_64 xs content holds.fit holds.placed in
    (ap item.U8 (read_again form_64 xs content (length content / 8) holds.fit holds.placed (omega (arith, long))) ∙ sym (rolls-U8 xs) ∙ rolls, long)
leaf_again InTurn (Item-F.F4 xs) i content rolls leaf holds =
    let long = content_long (raw_form 4) xs content holds.fit holds.placed in
    (ap item.F4 (read_again (raw_form 4) xs content (length content / 4) holds.fit holds.placed (omega (arith, long))) ∙ sym (rolls-F4 xs) ∙ rolls, long)
leaf_again InTurn (Item-F.F8 xs) i content rolls leaf holds =
    let long = content_long (raw_form 8) xs content holds.fit holds.placed in
    (ap item.F8 (read_again (raw_form 8) xs content (length content / 8) holds.fit holds.placed (omega (arith, long))) ∙ sym (rolls-F8 xs) ∙ rolls, long)
