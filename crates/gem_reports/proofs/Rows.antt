-- The events as a table, and changes of it.
use Rattle.std.proofs.Common.{◌≡◌, refl, sym, ◌∙◌, ap, subst, Bool, true, false, cond, ◌==◌, ◌&&◌, ◌||◌, ℕ, ◌<◌, ◌+◌, List, [], ◌∷◌, ◌++◌, length, take, get_or, nat_eq, Option, Some, None, is_some, not}
use Rattle.std.proofs.lemmas.Bool.{eqb-true}
use Rattle.std.proofs.lemmas.List.{take_more}
use Rattle.std.proofs.lemmas.List.Folds.{list_any_more}
use Rattle.std.proofs.lemmas.List.Sums.{fold-append}
use Rattle.std.proofs.lemmas.Map.Keys.{IsDistinct-head, IsDistinct-tail}
use Rattle.std.specs.List.{AllByRecursion, IsDistinct, find, list_any}
use Rattle.std.specs.Map.{keys_of, lookup, set_value}
use Rattle.std.specs.Option.{option_map_or}
use Rattle.indexmap.specs.IndexMap.{insert_entry}
use Rattle.gem_tables.specs.Rows.{rows_of, with_each, with_row}
use Rattle.gem_reports.specs.declared.event.Event.{Event}
use Rattle.gem_reports.specs.Events.{EventTable, enabled_by, event_after, events_at, with_enabled}
use Rattle.gem_reports.specs.History.{ReportEntry, each_once, is_event, with_number}
use Rattle.gem_reports.proofs.Members.{among_each_once, same_test}

-- a change of the event of one CEID
abbrev pub at_event : ℕ → (Event → Event) → ℕ → Event → Event
at_event ceid change other event = cond (nat_eq ceid other) (change event) event

-- the rows of some events after a history
abbrev pub event_rows : List ReportEntry → List ℕ → EventTable
event_rows past ceids = rows_of (λ ceid. ceid) (event_after past) ceids

rows_after :
    (f : ℕ → Event → Event) (past after : List ReportEntry)
    → ((ceid : ℕ) → f ceid (event_after past ceid) ≡ event_after after ceid)
    → (ceids : List ℕ) → with_each f (event_rows past ceids) ≡ event_rows after ceids
rows_after f past after each [] = refl
rows_after f past after each (k ∷ ks) =
    ap (λ e. (k, e) ∷ with_each f (event_rows past ks)) (each k)
    ∙ ap (λ t. (k, event_after after k) ∷ t) (rows_after f past after each ks)

-- a change of each event that leads from a history to another
pub each_after :
    (f : ℕ → Event → Event) (events : List ℕ) (past after : List ReportEntry)
    → ((ceid : ℕ) → f ceid (event_after past ceid) ≡ event_after after ceid)
    → with_each f (events_at events past) ≡ events_at events after
each_after f events past after each = rows_after f past after each (each_once events)

found_row :
    (past : List ReportEntry) (ceid : ℕ) (ks : List ℕ)
    → lookup (nat_eq ceid) (event_rows past ks) ≡ cond (list_any (nat_eq ceid) ks) (Some (event_after past ceid)) None
found_row past ceid [] = refl
found_row past ceid (k ∷ ks) = go (nat_eq ceid k) refl (found_row past ceid ks)
  where
    go : (b : Bool) → nat_eq ceid k ≡ b
        → lookup (nat_eq ceid) (event_rows past ks)
        ≡ cond (list_any (nat_eq ceid) ks) (Some (event_after past ceid)) None
        → cond b (Some (event_after past k)) (lookup (nat_eq ceid) (event_rows past ks))
        ≡ cond (b || list_any (nat_eq ceid) ks) (Some (event_after past ceid)) None
    go true same rest = ap (λ n. Some (event_after past n)) (sym (eqb-true ceid k same))
    go false other rest = rest

-- what the table has at a CEID
pub looked_up :
    (events : List ℕ) (past : List ReportEntry) (ceid : ℕ)
    → lookup (nat_eq ceid) (events_at events past) ≡ cond (is_event events ceid) (Some (event_after past ceid)) None
looked_up events past ceid =
    found_row past ceid (each_once events)
    ∙ ap (λ b. cond b (Some (event_after past ceid)) None) (among_each_once events ceid)

is_there : (b : Bool) (e : Event) → is_some (cond b (Some e) None) ≡ b
is_there true e = refl
is_there false e = refl

-- it has the events of the plan
pub is_known :
    (events : List ℕ) (past : List ReportEntry) (ceid : ℕ)
    → is_some (lookup (nat_eq ceid) (events_at events past)) ≡ is_event events ceid
is_known events past ceid =
    ap (λ o. is_some o) (looked_up events past ceid) ∙ is_there (is_event events ceid) (event_after past ceid)

-- and the first that it doesn't have is the first that isn't the plan's
pub first_unknown :
    (events : List ℕ) (past : List ReportEntry) (table : EventTable) (ceids : List ℕ)
    → table ≡ events_at events past
    → find (λ ceid. not (is_some (lookup (nat_eq ceid) table))) ceids ≡ find (λ ceid. not (is_event events ceid)) ceids
first_unknown events past table ceids is =
    ap (λ t. find (λ ceid. not (is_some (lookup (nat_eq ceid) t))) ceids) is
    ∙ ap (λ test. find test ceids) (λ j ceid. not (is_known events past ceid j))

-- no row has the CEID
apart_row :
    (ceid : ℕ) (change : Event → Event) (table : EventTable)
    → AllByRecursion (λ other. nat_eq ceid other ≡ false) (keys_of table)
    → table ≡ with_each (at_event ceid change) table
apart_row ceid change [] all = refl
apart_row ceid change (e ∷ es) all =
    ap (λ b. (e.0, cond b (change e.1) e.1) ∷ es) (sym all.0)
    ∙ ap (λ t. (e.0, at_event ceid change e.0 e.1) ∷ t) (apart_row ceid change es all.1)

-- a row is set
pub set_row :
    (ceid : ℕ) (change : Event → Event) (table : EventTable) (event : Event) → IsDistinct nat_eq (keys_of table)
    → lookup (nat_eq ceid) table ≡ Some event
    → set_value (nat_eq ceid) table (change event) ≡ with_each (at_event ceid change) table
set_row ceid change [] event distinct found = absurd (cc)
set_row ceid change (e ∷ es) event distinct found =
    go (nat_eq ceid e.0) refl (set_row ceid change es event (IsDistinct-tail nat_eq e.0 (keys_of es) distinct)) found
  where
    go : (b : Bool) → nat_eq ceid e.0 ≡ b
        → (lookup (nat_eq ceid) es ≡ Some event
        → set_value (nat_eq ceid) es (change event) ≡ with_each (at_event ceid change) es)
        → cond b (Some e.1) (lookup (nat_eq ceid) es) ≡ Some event
        → cond b ((e.0, change event) ∷ es) (e ∷ set_value (nat_eq ceid) es (change event))
        ≡ (e.0, cond (nat_eq ceid e.0) (change e.1) e.1) ∷ with_each (at_event ceid change) es
    go true same rest is =
        let here : e.1 ≡ event = cc in
        let apart = IsDistinct-head nat_eq e.0 (keys_of es) distinct in
        let others : es ≡ with_each (at_event ceid change) es =
        apart_row ceid change es
        (subst (λ n. AllByRecursion (λ other. nat_eq n other ≡ false) (keys_of es)) (sym (eqb-true ceid e.0 same)) apart) in
        ap (λ x. (e.0, change x) ∷ es) (sym here) ∙ ap (λ t. (e.0, change e.1) ∷ t) others
        ∙ ap (λ b. (e.0, cond b (change e.1) e.1) ∷ with_each (at_event ceid change) es) (sym same)
    go false other rest is =
        ap (λ t. e ∷ t) (rest is)
        ∙ ap (λ b. (e.0, cond b (change e.1) e.1) ∷ with_each (at_event ceid change) es) (sym other)

pub no_row :
    (ceid : ℕ) (change : Event → Event) (table : EventTable) → lookup (nat_eq ceid) table ≡ None
    → table ≡ with_each (at_event ceid change) table
no_row ceid change [] none = refl
no_row ceid change (e ∷ es) none = go (nat_eq ceid e.0) refl (no_row ceid change es) none
  where
    go : (b : Bool) → nat_eq ceid e.0 ≡ b
        → (lookup (nat_eq ceid) es ≡ None → es ≡ with_each (at_event ceid change) es)
        → cond b (Some e.1) (lookup (nat_eq ceid) es) ≡ None
        → e ∷ es ≡ (e.0, cond (nat_eq ceid e.0) (change e.1) e.1) ∷ with_each (at_event ceid change) es
    go true same rest is = absurd (cc)
    go false other rest is =
        ap (λ t. e ∷ t) (rest is)
        ∙ ap (λ b. (e.0, cond b (change e.1) e.1) ∷ with_each (at_event ceid change) es) (sym other)

-- a change of one row
pub event_row :
    (ceid : ℕ) (change : Event → Event) (table : EventTable) → IsDistinct nat_eq (keys_of table)
    → with_row ceid change table ≡ with_each (at_event ceid change) table
event_row ceid change table distinct = go (lookup (nat_eq ceid) table) refl
  where
    go : (o : Option Event) → lookup (nat_eq ceid) table ≡ o
        → option_map_or (λ event. set_value (nat_eq ceid) table (change event)) o table
        ≡ with_each (at_event ceid change) table
    go None is = no_row ceid change table is
    go (Some event) is = set_row ceid change table event distinct is

with_each_twice :
    (f g : ℕ → Event → Event) (table : EventTable)
    → with_each g (with_each f table) ≡ with_each (λ ceid event. g ceid (f ceid event)) table
with_each_twice f g [] = refl
with_each_twice f g (e ∷ es) = ap (λ t. (e.0, g e.0 (f e.0 e.1)) ∷ t) (with_each_twice f g es)

with_each_same :
    (f g : ℕ → Event → Event) → ((ceid : ℕ) (event : Event) → f ceid event ≡ g ceid event) → (table : EventTable)
    → with_each f table ≡ with_each g table
with_each_same f g same table = ap (λ h. with_each h table) (λ j ceid event. same ceid event j)

-- those that were named so far are enabled, or disabled
abbrev pub enabled_so_far : Bool → List ℕ → ℕ → Event → Event
enabled_so_far on ceids ceid event = cond (list_any (nat_eq ceid) ceids) (with_enabled on event) event

enabled_once :
    (on : Bool) (event : Event) (b c : Bool)
    → cond c (with_enabled on (cond b (with_enabled on event) event)) (cond b (with_enabled on event) event)
    ≡ cond (b || c) (with_enabled on event) event
enabled_once on event true true = refl
enabled_once on event true false = refl
enabled_once on event false true = refl
enabled_once on event false false = refl

pub none_enabled : (on : Bool) (table : EventTable) → table ≡ with_each (enabled_so_far on []) table
none_enabled on [] = refl
none_enabled on (e ∷ es) = ap (λ t. e ∷ t) (none_enabled on es)

-- one named event more
pub enabled_more :
    (on : Bool) (ceids : List ℕ) (i d : ℕ) (table now : EventTable) → i < length ceids
    → now ≡ with_each (enabled_so_far on (take i ceids)) table
    → with_each (at_event (get_or ceids i d) (with_enabled on)) now
    ≡ with_each (enabled_so_far on (take (i + 1) ceids)) table
enabled_more on ceids i d table now within is =
    let c = get_or ceids i d in
    ap (with_each (at_event c (with_enabled on))) is
    ∙ with_each_twice (enabled_so_far on (take i ceids)) (at_event c (with_enabled on)) table
    ∙ with_each_same (λ k e. at_event c (with_enabled on) k (enabled_so_far on (take i ceids) k e))
    (enabled_so_far on (take (i + 1) ceids))
    (λ k e. ap (λ b. cond b (with_enabled on (enabled_so_far on (take i ceids) k e)) (enabled_so_far on (take i ceids) k e)) (same_test c k)
    ∙ enabled_once on e (list_any (nat_eq k) (take i ceids)) (nat_eq k c)
    ∙ ap (λ b. cond b (with_enabled on e) e) (sym (list_any_more (nat_eq k) ceids i d within))) table

-- where some are named, these are all
pub enabled_named :
    (on : Bool) (ceids : List ℕ) (table : EventTable) → (length ceids == 0) ≡ false
    → with_each (enabled_so_far on ceids) table ≡ with_each (enabled_by on ceids) table
enabled_named on ceids table some =
    with_each_same (enabled_so_far on ceids) (enabled_by on ceids)
    (λ k e. ap (λ b. cond (b || list_any (nat_eq k) ceids) (with_enabled on e) e) (sym some)) table

-- where none is named, all are
pub enabled_all :
    (on : Bool) (ceids : List ℕ) (table : EventTable) → (length ceids == 0) ≡ true
    → with_each (enabled_by on []) table ≡ with_each (enabled_by on ceids) table
enabled_all on ceids table none =
    with_each_same (enabled_by on []) (enabled_by on ceids)
    (λ k e. ap (λ b. cond (b || list_any (nat_eq k) ceids) (with_enabled on e) e) (sym none)) table

planted_behind :
    (x k : ℕ) (xs : List ℕ) (b : Bool)
    → (x, event_after [] x) ∷ event_rows [] (cond b xs (xs ++ k ∷ []))
    ≡ event_rows [] (cond b (x ∷ xs) (x ∷ xs ++ k ∷ []))
planted_behind x k xs true = refl
planted_behind x k xs false = refl

planted :
    (ks : List ℕ) (k : ℕ)
    → insert_entry nat_eq (event_rows [] ks) k (event_after [] k) ≡ event_rows [] (with_number ks k)
planted [] k = refl
planted (x ∷ xs) k = go (nat_eq k x) (planted xs k)
  where
    go : (b : Bool) → insert_entry nat_eq (event_rows [] xs) k (event_after [] k) ≡ event_rows [] (with_number xs k)
        → cond b ((x, event_after [] k) ∷ event_rows [] xs)
        ((x, event_after [] x) ∷ insert_entry nat_eq (event_rows [] xs) k (event_after [] k))
        ≡ event_rows [] (cond (b || list_any (nat_eq k) xs) (x ∷ xs) (x ∷ xs ++ k ∷ []))
    go true rest = refl
    go false rest =
        ap (λ t. (x, event_after [] x) ∷ t) rest ∙ planted_behind x k xs (list_any (nat_eq k) xs)

-- one event more of the plan
pub planted_more :
    (ceids : List ℕ) (i d : ℕ) (table now : EventTable) → i < length ceids → table ≡ events_at (take i ceids) []
    → now ≡ insert_entry nat_eq table (get_or ceids i d) (event_after [] (get_or ceids i d))
    → now ≡ events_at (take (i + 1) ceids) []
planted_more ceids i d table now within so_far inserted =
    let k = get_or ceids i d in
    inserted
    ∙ ap (λ t. insert_entry nat_eq t k (event_after [] k)) so_far
    ∙ planted (each_once (take i ceids)) k
    ∙ ap (event_rows []) (sym (fold-append with_number [] (take i ceids) (k ∷ [])))
    ∙ ap (λ ks. event_rows [] (each_once ks)) (sym (take_more ceids i d within))

pub enabled_known : (b : Bool) (e there : Event) → Some e ≡ cond b (Some there) None → e.is_enabled ≡ (b && there.is_enabled)
enabled_known true e there is = let same : e ≡ there = cc in ap (λ (x : Event). x.is_enabled) same
enabled_known false e there is = absurd (cc)

pub enabled_unknown : (b : Bool) (there : Event) → None ≡ cond b (Some there) None → false ≡ (b && there.is_enabled)
enabled_unknown true there is = absurd (cc)
enabled_unknown false there is = refl
