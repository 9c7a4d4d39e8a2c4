-- What stands in an item of each kind.
use Rattle.std.proofs.Common.{◌≡◌, ℕ, ℤ, List, ap, ◌∙◌, sym}
use Rattle.secs_items.specs.declared.item.Item.{Item, out-Item}
use Rattle.secs_items.specs.declared.item.Item.TheOpen.{Item-F}
use Rattle.secs_items.specs.declared.item.Item.TheViews.{roll-Item, out-roll-Item}
use Rattle.secs_items.specs.declared.item.Item.TheVariants as item
use Rattle.secs_items.specs.declared.item.Item.TheVariants.{rolls-L, rolls-B, rolls-Bool, rolls-A, rolls-J, rolls-I1, rolls-I2, rolls-I4, rolls-I8, rolls-U1, rolls-U2, rolls-U4, rolls-U8, rolls-F4, rolls-F8}

pub opened : (x : Item-F Item) (i : Item) → roll-Item x ≡ i → out-Item i ≡ x
opened x i rolls = ap out-Item (sym rolls) ∙ out-roll-Item x

pub out_L : (xs : List Item) → out-Item (item.L xs) ≡ Item-F.L xs
out_L xs = opened (Item-F.L xs) (item.L xs) (rolls-L xs)

pub out_B : (xs : List ℕ) → out-Item (item.B xs) ≡ Item-F.B xs
out_B xs = opened (Item-F.B xs) (item.B xs) (rolls-B xs)

pub out_Bool : (xs : List ℕ) → out-Item (item.Bool xs) ≡ Item-F.Bool xs
out_Bool xs = opened (Item-F.Bool xs) (item.Bool xs) (rolls-Bool xs)

pub out_A : (xs : List ℕ) → out-Item (item.A xs) ≡ Item-F.A xs
out_A xs = opened (Item-F.A xs) (item.A xs) (rolls-A xs)

pub out_J : (xs : List ℕ) → out-Item (item.J xs) ≡ Item-F.J xs
out_J xs = opened (Item-F.J xs) (item.J xs) (rolls-J xs)

pub out_I1 : (xs : List ℤ) → out-Item (item.I1 xs) ≡ Item-F.I1 xs
out_I1 xs = opened (Item-F.I1 xs) (item.I1 xs) (rolls-I1 xs)

pub out_I2 : (xs : List ℤ) → out-Item (item.I2 xs) ≡ Item-F.I2 xs
out_I2 xs = opened (Item-F.I2 xs) (item.I2 xs) (rolls-I2 xs)

pub out_I4 : (xs : List ℤ) → out-Item (item.I4 xs) ≡ Item-F.I4 xs
out_I4 xs = opened (Item-F.I4 xs) (item.I4 xs) (rolls-I4 xs)

pub out_I8 : (xs : List ℤ) → out-Item (item.I8 xs) ≡ Item-F.I8 xs
out_I8 xs = opened (Item-F.I8 xs) (item.I8 xs) (rolls-I8 xs)

pub out_U1 : (xs : List ℕ) → out-Item (item.U1 xs) ≡ Item-F.U1 xs
out_U1 xs = opened (Item-F.U1 xs) (item.U1 xs) (rolls-U1 xs)

pub out_U2 : (xs : List ℕ) → out-Item (item.U2 xs) ≡ Item-F.U2 xs
out_U2 xs = opened (Item-F.U2 xs) (item.U2 xs) (rolls-U2 xs)

pub out_U4 : (xs : List ℕ) → out-Item (item.U4 xs) ≡ Item-F.U4 xs
out_U4 xs = opened (Item-F.U4 xs) (item.U4 xs) (rolls-U4 xs)

pub out_U8 : (xs : List ℕ) → out-Item (item.U8 xs) ≡ Item-F.U8 xs
out_U8 xs = opened (Item-F.U8 xs) (item.U8 xs) (rolls-U8 xs)

pub out_F4 : (xs : List (List ℕ)) → out-Item (item.F4 xs) ≡ Item-F.F4 xs
out_F4 xs = opened (Item-F.F4 xs) (item.F4 xs) (rolls-F4 xs)

pub out_F8 : (xs : List (List ℕ)) → out-Item (item.F8 xs) ≡ Item-F.F8 xs
out_F8 xs = opened (Item-F.F8 xs) (item.F8 xs) (rolls-F8 xs)
