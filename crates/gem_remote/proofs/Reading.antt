-- What is read as the parameters of a command.
use Rattle.std.proofs.Common.{◌≡◌, refl, sym, ◌∙◌, ap, ℕ, List, [], ◌∷◌, map, Option, Some, None}
use Rattle.std.specs.Option.{option_and_then, option_map, option_zip}
use Rattle.secs_items.specs.declared.item.Item.{Item, out-Item}
use Rattle.secs_items.specs.declared.item.Item.TheOpen.{Item-F}
use Rattle.secs_items.specs.declared.item.Item.TheViews.{out-roll-Item, roll-Item, roll-out-Item}
use Rattle.secs_items.specs.declared.item.Item.TheVariants as item
use Rattle.secs_items.specs.declared.item.Item.TheVariants.{rolls-A, rolls-L}
use Rattle.gem_shapes.specs.Answers.{pair_item}
use Rattle.gem_shapes.specs.Elements.{all_of, anything, both, list_of, text, text_of, two_of}
use Rattle.gem_shapes.specs.Requests.{parameters}
use Rattle.gem_remote.specs.Commands.{Param, param_item, params_item}

opened_L : (items : List Item) → out-Item (item.L items) ≡ Item-F.L items
opened_L items = ap out-Item (sym (rolls-L items)) ∙ out-roll-Item (Item-F.L items)

opened_A : (characters : List ℕ) → out-Item (item.A characters) ≡ Item-F.A characters
opened_A characters = ap out-Item (sym (rolls-A characters)) ∙ out-roll-Item (Item-F.A characters)

-- what a list, or a text, is found in
record IsFoundIn (x : Item-F Item) : Type 0 where
  list : (items : List Item) → list_of x ≡ Some items → x ≡ Item-F.L items
  text : (characters : List ℕ) → text_of x ≡ Some characters → x ≡ Item-F.A characters

same_list : (xs ys : List Item) → Some xs ≡ Some ys → Item-F.L xs ≡ Item-F.L ys
same_list xs ys is = let same : xs ≡ ys = cc in ap (λ (items : List Item). Item-F.L items) same

abbrev layer_A : List ℕ → Item-F Item
layer_A characters = Item-F.A characters

same_text : (xs ys : List ℕ) → Some xs ≡ Some ys → layer_A xs ≡ layer_A ys
same_text xs ys is = let same : xs ≡ ys = cc in ap layer_A same

found_in : (x : Item-F Item) → IsFoundIn x
found_in (Item-F.L xs) = record { list = λ items is. same_list xs items is; text = λ t is. absurd (cc) }
found_in (Item-F.A xs) = record { list = λ items is. absurd (cc); text = λ t is. same_text xs t is }
found_in (Item-F.B xs) = record { list = λ items is. absurd (cc); text = λ t is. absurd (cc) }
found_in (Item-F.Bool xs) = record { list = λ items is. absurd (cc); text = λ t is. absurd (cc) }
found_in (Item-F.J xs) = record { list = λ items is. absurd (cc); text = λ t is. absurd (cc) }
found_in (Item-F.I1 xs) = record { list = λ items is. absurd (cc); text = λ t is. absurd (cc) }
found_in (Item-F.I2 xs) = record { list = λ items is. absurd (cc); text = λ t is. absurd (cc) }
found_in (Item-F.I4 xs) = record { list = λ items is. absurd (cc); text = λ t is. absurd (cc) }
found_in (Item-F.I8 xs) = record { list = λ items is. absurd (cc); text = λ t is. absurd (cc) }
found_in (Item-F.U1 xs) = record { list = λ items is. absurd (cc); text = λ t is. absurd (cc) }
found_in (Item-F.U2 xs) = record { list = λ items is. absurd (cc); text = λ t is. absurd (cc) }
found_in (Item-F.U4 xs) = record { list = λ items is. absurd (cc); text = λ t is. absurd (cc) }
found_in (Item-F.U8 xs) = record { list = λ items is. absurd (cc); text = λ t is. absurd (cc) }
found_in (Item-F.F4 xs) = record { list = λ items is. absurd (cc); text = λ t is. absurd (cc) }
found_in (Item-F.F8 xs) = record { list = λ items is. absurd (cc); text = λ t is. absurd (cc) }

is_list : (i : Item) (items : List Item) → list_of (out-Item i) ≡ Some items → i ≡ item.L items
is_list i items is =
    sym (roll-out-Item i) ∙ ap roll-Item ((found_in (out-Item i)).list items is) ∙ rolls-L items

is_text : (i : Item) (characters : List ℕ) → text i ≡ Some characters → i ≡ item.A characters
is_text i characters is =
    sym (roll-out-Item i) ∙ ap roll-Item ((found_in (out-Item i)).text characters is) ∙ rolls-A characters

abbrev Read : Type 0
Read = List ℕ × Unit {0}

-- the name of a pair
named : (i : Item) (x : Read) (o : Option (List ℕ)) → text i ≡ o → option_zip o (Some tt) ≡ Some x → i ≡ item.A x.0
named i x None is read = absurd (cc)
named i x (Some name) is read =
    let whole : (name, tt) ≡ x = cc in is_text i name is ∙ ap item.A (ap (λ (p : Read). p.0) whole)

-- one parameter
pair_read :
    (i : Item) (x : Read) (o : Option (List Item)) → list_of (out-Item i) ≡ o
    → option_and_then (λ items. option_zip (text items.0) (anything items.1)) (option_and_then two_of o) ≡ Some x
    → (value : Item) × (i ≡ pair_item (item.A x.0) value)
pair_read i x None is read = absurd (cc)
pair_read i x (Some []) is read = absurd (cc)
pair_read i x (Some (a ∷ [])) is read = absurd (cc)
pair_read i x (Some (a ∷ b ∷ c ∷ more)) is read = absurd (cc)
pair_read i x (Some (a ∷ b ∷ [])) is read =
    (b, is_list i (a ∷ b ∷ []) is ∙ ap (λ name. pair_item name b) (named a x (text a) refl read))

abbrev Listed : List Item → Type 0
Listed items = (all : List Param) × (items ≡ map param_item all)

-- each of them
each_read : (items : List Item) (xs : List Read) → all_of (map (both text anything) items) ≡ Some xs → Listed items
each_read [] xs read = ([], refl)
each_read (i ∷ items) xs read =
    go (both text anything i) refl (all_of (map (both text anything) items)) refl read (each_read items)
  where
    go : (o : Option Read) → both text anything i ≡ o
        → (r : Option (List Read)) → all_of (map (both text anything) items) ≡ r
        → all_of (o ∷ map (both text anything) items) ≡ Some xs
        → ((ys : List Read) → all_of (map (both text anything) items) ≡ Some ys → Listed items)
        → Listed (i ∷ items)
    go None is r rest whole others = absurd (cc)
    go (Some x) is None rest whole others =
        let none : None ≡ Some xs = sym (ap (option_map (λ (ys : List Read). x ∷ ys)) rest) ∙ whole in absurd (cc)
    go (Some x) is (Some ys) rest whole others =
        let one = pair_read i x (list_of (out-Item i)) refl is in
        let more = others ys rest in
        let p : Param = record { name = x.0; value = one.0 } in
        (p ∷ more.0, ap (λ j. j ∷ items) one.1 ∙ ap (λ js. param_item p ∷ js) more.1)

pub listed : (i given : Item) → parameters i ≡ Some given → (all : List Param) × (given ≡ params_item all)
listed i given is = go (list_of (out-Item i)) refl is
  where
    read : List Item → Option (List Read)
    read items = all_of (map (both text anything) items)

    go_each : (items : List Item) → i ≡ item.L items → (r : Option (List Read)) → read items ≡ r
        → option_map (λ (_ : List Read). i) r ≡ Some given → (all : List Param) × (given ≡ params_item all)
    go_each items whole None rest here = absurd (cc)
    go_each items whole (Some xs) rest here =
        let same : i ≡ given = cc in
        let all = each_read items xs rest in
        (all.0, sym same ∙ whole ∙ ap item.L all.1)

    go : (o : Option (List Item)) → list_of (out-Item i) ≡ o
        → option_map (λ (_ : List Read). i) (option_and_then read o) ≡ Some given
        → (all : List Param) × (given ≡ params_item all)
    go None found here = absurd (cc)
    go (Some items) found here = go_each items (is_list i items found) (read items) refl here

one_read : (p : Param) → both text anything (param_item p) ≡ Some (p.name, tt)
one_read p =
    ap (λ x. option_and_then (λ items. option_zip (text items.0) (anything items.1))
    (option_and_then two_of (list_of x)))
    (opened_L (item.A p.name ∷ p.value ∷ []))
    ∙ ap (λ x. option_zip (text_of x) (Some tt)) (opened_A p.name)

all_read :
    (all : List Param) → all_of (map (both text anything) (map param_item all)) ≡ Some (map (λ p. (p.name, tt)) all)
all_read [] = refl
all_read (p ∷ all) =
    ap (λ o. all_of (o ∷ map (both text anything) (map param_item all))) (one_read p)
    ∙ ap (option_map (λ (ys : List Read). (p.name, tt) ∷ ys)) (all_read all)

pub read : (all : List Param) → parameters (params_item all) ≡ Some (params_item all)
read all =
    ap (λ x. option_map (λ (_ : List Read). params_item all)
    (option_and_then (λ items. all_of (map (both text anything) items)) (list_of x)))
    (opened_L (map param_item all))
    ∙ ap (option_map (λ (_ : List Read). params_item all)) (all_read all)
