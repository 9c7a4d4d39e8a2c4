-- How long the items of alarms are.
use Rattle.std.proofs.Common.{◌≡◌, ℕ, ◌+◌, ◌^◌, ◌<◌, List, [], ◌∷◌, filter, length, suc, true, false, not, ◌==◌, map, refl, sym, arith}
use Rattle.std.proofs.lemmas.List.{length-map}
use Rattle.std.proofs.lemmas.List.Filters.{length-filter_both}
use Rattle.std.proofs.lemmas.Bool.{eqb-true}
use Rattle.secs_items.specs.declared.item.Item.{Item}
use Rattle.secs_items.specs.declared.item.Item.TheVariants as item
use Rattle.secs_items.specs.Items.{number_item}
use Rattle.secs_items.specs.Measures.{capped}
use Rattle.secs_items.specs.Spelling.{shortest_spelling}
use Rattle.secs_items.proofs.SpelledLengths.{length-list, length-no_bytes, length-number, length-text, together, together-cons}
use Rattle.gem_alarms.specs.declared.alarm.Alarm.{Alarm}
use Rattle.gem_alarms.specs.Alarms.{AlarmTable, body_of, enabled_items, entry_item, items_of, triple}

-- ALCD, ALID and ALTX
abbrev pub parts : List ℕ → ℕ → List ℕ → List Item
parts alcd alid altx = item.B alcd ∷ number_item alid ∷ item.A altx ∷ []

pub parts_together :
    (alcd : List ℕ) (alid : ℕ) (altx : List ℕ)
    → together (parts alcd alid altx)
    ≡ length (shortest_spelling (item.B alcd)) + 6 + length (shortest_spelling (item.A altx))
parts_together alcd alid altx =
    let a = together-cons (item.B alcd) (number_item alid ∷ item.A altx ∷ []) in
    let b = together-cons (number_item alid) (item.A altx ∷ []) in
    let c = together-cons (item.A altx) [] in
    omega (arith, a, b, c, length-number alid)

pub unknown_long : (alid : ℕ) → length (shortest_spelling (triple [] alid [])) ≡ 12
unknown_long alid =
    let whole : length (shortest_spelling (triple [] alid [])) ≡ 2 + together (parts [] alid []) =
    length-list (parts [] alid []) in
    let text : length (shortest_spelling (item.A [])) ≡ 2 = length-text [] in
    omega (arith, whole, text, length-no_bytes, parts_together [] alid [])

-- the length of a list whose items were measured one by one, when none is left
pub measured :
    (len : ℕ) (left : AlarmTable) (f : AlarmTable → List Item) (all : ℕ) → f [] ≡ [] → len < 2 ^ 64 → left ≡ []
    → capped (len + together (f left)) ≡ capped all → len ≡ capped all
measured len left f all empty fits none is =
    let rest : together (f left) ≡ 0 = rw (none, empty) refl in
    omega (arith, rest, is)

-- one enabled alarm more can be counted
pub counted_more :
    (count : ℕ) (table left rest : AlarmTable) (e : ℕ × Alarm) → length table < 2 ^ 63
    → count + length (enabled_items left) ≡ length (enabled_items table)
    → left ≡ e ∷ rest → e.1.is_enabled ≡ true → count + 1 < 2 ^ 64
counted_more count table left rest e short is at on =
    let items : length (enabled_items left) ≡ suc (length (enabled_items rest)) = rw (at, on) refl in
    let some = length-map (filter (λ (a : ℕ × Alarm). a.1.is_enabled) table) entry_item in
    let fewer =
    length-filter_both (λ (a : ℕ × Alarm). a.1.is_enabled) (λ a. not a.1.is_enabled) (λ a. refl) table in
    omega (arith, items, some, fewer, is)

-- where none is asked for all are listed, and otherwise those
pub all_listed :
    (table : AlarmTable) (ids : List ℕ) → true ≡ (length ids == 0) → items_of table ids ≡ map entry_item table
all_listed table [] is = refl
all_listed table (alid ∷ ids) is = let none = eqb-true (length (alid ∷ ids)) 0 (sym is) in absurd (omega arith)

pub some_listed :
    (table : AlarmTable) (ids : List ℕ) → false ≡ (length ids == 0) → items_of table ids ≡ map (body_of table) ids
some_listed table [] is = absurd (cc)
some_listed table (alid ∷ ids) is = refl
