-- How long the items of variables and constants are.
use Rattle.std.proofs.Common.{◌≡◌, ℕ, ◌+◌, ◌*◌, List, [], ◌∷◌, length, arith}
use Rattle.secs_items.specs.declared.item.Item.{Item}
use Rattle.secs_items.specs.declared.item.Item.TheVariants as item
use Rattle.secs_items.specs.Items.{number_item}
use Rattle.secs_items.specs.Spelling.{shortest_spelling}
use Rattle.secs_items.proofs.SpelledLengths.{length-list, length-number, length-text, together, together-cons}
use Rattle.gem_vars.specs.Listing.{constant_row}

abbrev long : Item → ℕ
long i = length (shortest_spelling i)

pub empty_long : long (item.L []) ≡ 2
empty_long = length-list []

empty_text_long : long (item.A []) ≡ 2
empty_text_long = length-text []

-- SVID, SVNAME and UNITS
abbrev pub name_parts : ℕ → List ℕ → List ℕ → List Item
name_parts vid name units = number_item vid ∷ item.A name ∷ item.A units ∷ []

pub names_together :
    (vid : ℕ) (name units : List ℕ)
    → together (name_parts vid name units) ≡ 6 + long (item.A name) + long (item.A units)
names_together vid name units =
    let a = together-cons (number_item vid) (item.A name ∷ item.A units ∷ []) in
    let b = together-cons (item.A name) (item.A units ∷ []) in
    let c = together-cons (item.A units) [] in
    omega (arith, a, b, c, length-number vid)

-- ECID, ECNAME, ECMIN, ECMAX, ECDEF and UNITS
abbrev pub limit_parts : ℕ → List ℕ → Item → Item → Item → List ℕ → List Item
limit_parts ecid name min max default units =
    number_item ecid ∷ item.A name ∷ min ∷ max ∷ default ∷ item.A units ∷ []

-- limits with so many bytes each
limits_together :
    (ecid : ℕ) (name : List ℕ) (min max default : Item) (units : List ℕ) (n : ℕ)
    → long min ≡ n → long max ≡ n → long default ≡ n
    → together (limit_parts ecid name min max default units)
    ≡ 6 + 3 * n + long (item.A name) + long (item.A units)
limits_together ecid name min max default units n min_is max_is default_is =
    let d : List Item = default ∷ item.A units ∷ [] in
    let a = together-cons (number_item ecid) (item.A name ∷ min ∷ max ∷ d) in
    let b = together-cons (item.A name) (min ∷ max ∷ d) in
    let e = together-cons min (max ∷ d) in
    let f = together-cons max d in
    let g = together-cons default (item.A units ∷ []) in
    let h = together-cons (item.A units) [] in
    omega (arith, a, b, e, f, g, h, length-number ecid, min_is, max_is, default_is)

pub known_limits_together :
    (ecid : ℕ) (name : List ℕ) (min max default : ℕ) (units : List ℕ)
    → together (limit_parts ecid name (number_item min) (number_item max) (number_item default) units)
    ≡ 24 + long (item.A name) + long (item.A units)
known_limits_together ecid name min max default units =
    limits_together ecid name (number_item min) (number_item max) (number_item default) units 6 (length-number min)
    (length-number max) (length-number default)

pub unknown_limits_long :
    (ecid : ℕ) → long (constant_row ecid [] (item.A []) (item.A []) (item.A []) []) ≡ 18
unknown_limits_long ecid =
    let no : Item = item.A [] in
    let parts = limit_parts ecid [] no no no [] in
    let all : together parts ≡ 12 + long no + long no =
    limits_together ecid [] no no no [] 2 empty_text_long empty_text_long empty_text_long in
    let whole : long (item.L parts) ≡ 2 + together parts = length-list parts in
    omega (arith, all, whole, empty_text_long)

pub unknown_names_long : (vid : ℕ) → long (item.L (name_parts vid [] [])) ≡ 12
unknown_names_long vid =
    let parts = name_parts vid [] [] in
    let whole : long (item.L parts) ≡ 2 + together parts = length-list parts in
    omega (arith, whole, names_together vid [] [], empty_text_long)
