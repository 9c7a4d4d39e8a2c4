-- Of which function an entry is, by what it changes; so what leaves is of the function of the change that takes it out.
use Rattle.std.proofs.Common.{◌≡◌, refl, sym, ◌∙◌, ap, Bool, true, false, cond, ◌&&◌, ◌||◌, ◌==◌, ℕ, List, [], ◌∷◌, map, length, Option, Some, None}
use Rattle.std.proofs.lemmas.Bool.{and_parts, eqb-true}
use Rattle.std.proofs.lemmas.Cmp.{nat_eq_equiv}
use Rattle.std.specs.Option.{option_and_then, option_map}
use Rattle.secs_items.specs.declared.item.Item.{Item}
use Rattle.gem_shapes.specs.declared.primary.Primary.{Primary}
use Rattle.gem_shapes.specs.declared.primary.Primary.TheVariants as primary
use Rattle.gem_shapes.specs.declared.request.Request.{Request}
use Rattle.gem_shapes.specs.declared.request.Request.TheVariants as request
use Rattle.gem_shapes.specs.declared.request.RecipesRequest.{RecipesRequest}
use Rattle.gem_shapes.specs.declared.request.RecipesRequest.TheVariants as recipes_request
use Rattle.gem_shapes.specs.declared.request.TablesRequest.{TablesRequest}
use Rattle.gem_shapes.specs.declared.request.TablesRequest.TheVariants as tables_request
use Rattle.gem_shapes.specs.Asked.{asked_by, is_nothing, item_in}
use Rattle.gem_shapes.specs.Elements.{anything, both, code, each, five, flag, identifier, identifier_or_all, identifiers, ppid, setting, small_number, text}
use Rattle.gem_shapes.specs.Primaries.{primary_with, stream_and_function}
use Rattle.gem_shapes.specs.Requests.{behind_first, definition, enables, item_shape, linking, parameters, recipes_shape, rule_entry, shape_of, spool_request, trace_request}
use Rattle.gem_shapes.specs.Requests.Shape.{Nothing}
use Rattle.gem_shapes.proofs.Primaries.{found_has}
use Rattle.setup_store.specs.declared.change.Change.{Change}
use Rattle.setup_store.specs.declared.change.Change.TheVariants as change
use Rattle.setup_store.specs.Entries.{Entry}
use Rattle.setup_store.specs.Kept.{alids_of, are_among, change_by, change_in, change_of, covers, is_of, named_by, takes_out}

-- stream and function of the six; no two have the same function
abbrev pub place_of : Change → ℕ × ℕ
place_of (change.Constants list) = (2, 15)
place_of (change.Definitions list) = (2, 33)
place_of (change.Linkings list) = (2, 35)
place_of (change.Events on ceids) = (2, 37)
place_of (change.Rule list) = (2, 43)
place_of (change.Alarms on alid) = (5, 3)

abbrev pub number_of : Change → ℕ
number_of c = (place_of c).1

same_place : (c d : Change) → ◌≡◌ {A = Option Change} (Some c) (Some d) → place_of c ≡ place_of d
same_place c d is = let same : c ≡ d = cc in ap place_of same

-- what is made of an item
item_made :
    {T : Type 0} (make : T → TablesRequest) (read : Item → Option T) (body : List ℕ) (d : Change) (place : ℕ × ℕ)
    → ((t : T) → change_of (make t) ≡ Some d → place ≡ place_of d)
    → option_and_then change_in (asked_by (item_shape make read) body) ≡ Some d → place ≡ place_of d
item_made {T} make read body d place made is = go (item_in body) is
  where
    of_value :
        (o : Option T) → option_and_then change_in (option_map (λ t. request.OfTables (make t)) o) ≡ Some d
        → place ≡ place_of d
    of_value None here = absurd (cc)
    of_value (Some t) here = made t here

    go : (o : Option Item)
        → option_and_then change_in
        (option_and_then (λ item. option_map (λ t. request.OfTables (make t)) (read item)) o) ≡ Some d
        → place ≡ place_of d
    go None here = absurd (cc)
    go (Some item) here = of_value (read item) here

-- and nothing is made of one where the request changes nothing
no_change : (d : Change) (place : ℕ × ℕ) → ◌≡◌ {A = Option Change} None (Some d) → place ≡ place_of d
no_change d place is = absurd (cc)

nothing :
    (asked : Request) → change_in asked ≡ None → (body : List ℕ) (d : Change) (place : ℕ × ℕ)
    → option_and_then change_in (asked_by (Nothing asked) body) ≡ Some d → place ≡ place_of d
nothing asked none body d place is = go (is_nothing body) is
  where
    go : (b : Bool) → option_and_then change_in (cond b (Some asked) None) ≡ Some d → place ≡ place_of d
    go true here = no_change d place (sym none ∙ here)
    go false here = no_change d place here

-- what is asked of the recipes changes nothing of the tables
recipes_apart :
    {A : Type 0} (make : A → RecipesRequest) (read : Item → Option A) (body : List ℕ) (d : Change) (place : ℕ × ℕ)
    → option_and_then change_in (asked_by (recipes_shape make read) body) ≡ Some d → place ≡ place_of d
recipes_apart {A} make read body d place is = go (item_in body) is
  where
    of_read : (o : Option A)
        → option_and_then change_in (option_map (λ x. request.OfRecipes (make x)) o) ≡ Some d → place ≡ place_of d
    of_read None here = no_change d place here
    of_read (Some x) here = no_change d place here

    go : (o : Option Item)
        → option_and_then change_in
        (option_and_then (λ item. option_map (λ x. request.OfRecipes (make x)) (read item)) o) ≡ Some d
        → place ≡ place_of d
    go None here = no_change d place here
    go (Some item) here = of_read (read item) here

of_primary :
    (p : Primary) (body : List ℕ) (d : Change)
    → option_and_then change_in (asked_by (shape_of p) body) ≡ Some d → stream_and_function p ≡ place_of d
of_primary primary.S2F15 body d is =
    item_made tables_request.SetConstants (each (both identifier setting)) body d (2, 15)
    (λ t here. same_place (change.Constants t) d here) is
of_primary primary.S2F33 body d is =
    item_made (λ x. tables_request.Define x.0 x.1) (both identifier (each definition)) body d (2, 33)
    (λ t here. same_place (change.Definitions t.1) d here) is
of_primary primary.S2F35 body d is =
    item_made (λ x. tables_request.Link x.0 x.1) (both identifier (each linking)) body d (2, 35)
    (λ t here. same_place (change.Linkings t.1) d here) is
of_primary primary.S2F37 body d is =
    item_made (λ x. tables_request.EnableEvents x.0 x.1) (both flag (each identifier)) body d (2, 37)
    (λ t here. same_place (change.Events t.0 t.1) d here) is
of_primary primary.S2F43 body d is =
    item_made tables_request.ReplaceRule (each rule_entry) body d (2, 43)
    (λ t here. same_place (change.Rule t) d here) is
of_primary primary.S5F3 body d is =
    item_made (λ x. tables_request.EnableAlarms (enables x.0) x.1) (both code identifier_or_all) body d (5, 3)
    (λ t here. same_place (change.Alarms (enables t.0) t.1) d here) is
of_primary primary.S1F1 body d is = nothing (request.OfTables tables_request.AreYouThere) refl body d (1, 1) is
of_primary primary.S1F3 body d is =
    item_made tables_request.StatusValues (each identifier) body d (1, 3) (λ t here. no_change d (1, 3) here) is
of_primary primary.S1F11 body d is =
    item_made tables_request.StatusNames (each identifier) body d (1, 11) (λ t here. no_change d (1, 11) here) is
of_primary primary.S1F13 body d is = absurd (cc)
of_primary primary.S1F15 body d is = nothing request.GoOffline refl body d (1, 15) is
of_primary primary.S1F17 body d is = nothing request.GoOnline refl body d (1, 17) is
of_primary primary.S2F13 body d is =
    item_made tables_request.ConstantValues (each identifier) body d (2, 13) (λ t here. no_change d (2, 13) here) is
of_primary primary.S2F23 body d is = traced (item_in body) is
  where
    of_trace :
        (o : Option (ℕ × List ℕ × ℕ × ℕ × List ℕ))
        → option_and_then change_in (option_map (λ x. request.Trace x.0 x.1 x.2 x.3 x.4) o) ≡ Some d
        → (2, 23) ≡ place_of d
    of_trace None here = absurd (cc)
    of_trace (Some x) here = absurd (cc)

    traced : (o : Option Item)
        → option_and_then change_in (option_and_then trace_request o) ≡ Some d → (2, 23) ≡ place_of d
    traced None here = absurd (cc)
    traced (Some item) here = of_trace (five identifier text identifier identifier (each identifier) item) here
of_primary primary.S2F29 body d is =
    item_made tables_request.ConstantNames (each identifier) body d (2, 29) (λ t here. no_change d (2, 29) here) is
of_primary primary.S2F39 body d is =
    item_made (λ x. tables_request.Announce x.0 x.1) (both identifier identifier) body d (2, 39)
    (λ t here. no_change d (2, 39) here) is
of_primary primary.S2F41 body d is =
    item_made (λ x. tables_request.Command x.0 x.1) (both text parameters) body d (2, 41)
    (λ t here. no_change d (2, 41) here) is
of_primary primary.S5F5 body d is =
    item_made tables_request.Alarms identifiers body d (5, 5) (λ t here. no_change d (5, 5) here) is
of_primary primary.S5F7 body d is = nothing (request.OfTables tables_request.EnabledAlarms) refl body d (5, 7) is
of_primary primary.S6F15 body d is =
    item_made tables_request.EventReport identifier body d (6, 15) (λ t here. no_change d (6, 15) here) is
of_primary primary.S6F19 body d is =
    item_made tables_request.Report identifier body d (6, 19) (λ t here. no_change d (6, 19) here) is
of_primary primary.S6F23 body d is = spooled (item_in body) is
  where
    of_number : (b c : Bool)
        → option_and_then change_in (cond b (Some request.TransmitSpool) (cond c (Some request.PurgeSpool) None))
        ≡ Some d → (6, 23) ≡ place_of d
    of_number true c here = absurd (cc)
    of_number false true here = absurd (cc)
    of_number false false here = absurd (cc)

    of_rsdc : (o : Option ℕ)
        → option_and_then change_in (option_and_then spool_request o) ≡ Some d → (6, 23) ≡ place_of d
    of_rsdc None here = absurd (cc)
    of_rsdc (Some n) here = of_number (n == 0) (n == 1) here

    spooled : (o : Option Item)
        → option_and_then change_in
        (option_and_then (λ item. option_and_then spool_request (small_number item)) o) ≡ Some d
        → (6, 23) ≡ place_of d
    spooled None here = absurd (cc)
    spooled (Some item) here = of_rsdc (small_number item) here
of_primary primary.S7F1 body d is =
    recipes_apart (λ x. recipes_request.Inquire x.0 x.1) (both ppid identifier) body d (7, 1) is
of_primary primary.S7F3 body d is =
    recipes_apart (λ x. recipes_request.Send x.0 (behind_first body)) (both ppid anything) body d (7, 3) is
of_primary primary.S7F5 body d is = recipes_apart recipes_request.Ask ppid body d (7, 5) is
of_primary primary.S7F17 body d is = recipes_apart recipes_request.Delete (each ppid) body d (7, 17) is
of_primary primary.S7F19 body d is = nothing (request.OfRecipes recipes_request.List) refl body d (7, 19) is
of_primary primary.S10F3 body d is =
    item_made (λ x. tables_request.Display x.0 x.1) (both code text) body d (10, 3)
    (λ t here. no_change d (10, 3) here) is
of_primary primary.S10F5 body d is =
    item_made (λ x. tables_request.DisplayLines x.0 x.1) (both code (each text)) body d (10, 5)
    (λ t here. no_change d (10, 5) here) is

-- an entry that changes something is of its function
pub placed :
    (x : Entry) (d : Change) → change_by x ≡ Some d
    → (x.stream ≡ (place_of d).0) × (x.function ≡ (place_of d).1)
placed x d is = go (primary_with x.stream x.function) refl is
  where
    go : (o : Option Primary) → primary_with x.stream x.function ≡ o
        → option_and_then change_in (option_and_then (λ p. asked_by (shape_of p) x.body) o) ≡ Some d
        → (x.stream ≡ (place_of d).0) × (x.function ≡ (place_of d).1)
    go None found here = absurd (cc)
    go (Some p) found here =
        let place = of_primary p x.body d here in
        let has = found_has x.stream x.function p found in
        (has.0 ∙ ap (λ (q : ℕ × ℕ). q.0) place, has.1 ∙ ap (λ (q : ℕ × ℕ). q.1) place)

equal : (n : ℕ) → (n == n) ≡ true
equal n = nat_eq_equiv.refl n

-- an entry of a function, by its number
numbered :
    (stream function : ℕ) (x : Entry) (d : Change) → is_of stream function x ≡ true → change_by x ≡ Some d
    → (number_of d == function) ≡ true
numbered stream function x d of is =
    let both = and_parts (x.stream == stream) (x.function == function) of in
    ap (λ n. n == function) (sym (placed x d is).1 ∙ eqb-true x.function function both.1) ∙ equal function

-- and one that changes something is of its function
pub of_place : (x : Entry) (d : Change) → change_by x ≡ Some d → is_of (place_of d).0 (place_of d).1 x ≡ true
of_place x d is =
    let place = placed x d is in
    ap (λ n. n == (place_of d).0 && x.function == (place_of d).1) place.0
    ∙ ap (λ b. b && x.function == (place_of d).1) (equal (place_of d).0)
    ∙ ap (λ n. n == (place_of d).1) place.1 ∙ equal (place_of d).1

-- which changes one takes out
abbrev pub kin : Change → Change → Bool
kin (change.Constants list) d = number_of d == 15
kin (change.Definitions list) d = number_of d == 33 || number_of d == 35
kin (change.Linkings list) d = false
kin (change.Events on ceids) d = number_of d == 37
kin (change.Rule list) d = number_of d == 43
kin (change.Alarms on alid) d = number_of d == 3

or_first : (a b : Bool) → a ≡ true → (a || b) ≡ true
or_first true b is = refl
or_first false b is = absurd (cc)

or_second : (a b : Bool) → b ≡ true → (a || b) ≡ true
or_second true b is = refl
or_second false b is = is

pub taken_is_kin :
    (c d : Change) (x : Entry) → takes_out c x ≡ true → change_by x ≡ Some d → kin c d ≡ true
taken_is_kin (change.Constants list) d x out is =
    numbered 2 15 x d
    (and_parts (is_of 2 15 x) (are_among (map (λ e. e.0) list) (named_by x)) out).0 is
taken_is_kin (change.Definitions list) d x out is =
    go (is_of 2 33 x) refl (and_parts (length list == 0) (is_of 2 33 x || is_of 2 35 x) out).1
  where
    go : (b : Bool) → is_of 2 33 x ≡ b → (b || is_of 2 35 x) ≡ true
        → (number_of d == 33 || number_of d == 35) ≡ true
    go true of either = or_first (number_of d == 33) (number_of d == 35) (numbered 2 33 x d of is)
    go false of either =
        or_second (number_of d == 33) (number_of d == 35) (numbered 2 35 x d either is)
taken_is_kin (change.Linkings list) d x out is = absurd (cc)
taken_is_kin (change.Events on ceids) d x out is =
    numbered 2 37 x d (and_parts (is_of 2 37 x) (covers ceids x) out).0 is
taken_is_kin (change.Rule list) d x out is = numbered 2 43 x d out is
taken_is_kin (change.Alarms on alid) d x out is =
    numbered 5 3 x d (and_parts (is_of 5 3 x) (covers (alids_of alid) x) out).0 is
