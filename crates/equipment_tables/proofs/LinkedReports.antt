-- Reports with their links, whether events are enabled or not, go by S2F33 and S2F35 alone, and nothing is left of
-- those before an S2F33 without entries.
use Rattle.std.proofs.Common.{◌≡◌, refl, sym, ◌∙◌, ap, Bool, true, false, cond, not, ◌==◌, ℕ, ◌+◌, List, [], ◌∷◌, length, fold, nat_eq, nat_lt, Option, Some, is_some}
use Rattle.std.specs.List.{find}
use Rattle.std.specs.Map.{lookup}
use Rattle.std.specs.Option.{option_map, option_map_or}
use Rattle.secs_items.specs.declared.item.Item.{Item}
use Rattle.gem_reports.specs.declared.answers.Drack.TheVariants as drack
use Rattle.gem_reports.specs.declared.event.Event.{Event}
use Rattle.gem_reports.specs.Answers.{define_entry, drack_by, first_drack, first_lrack, link_entry, lrack_by}
use Rattle.gem_reports.specs.Events.{EventTable, enabled_by, event_after, links_in, rptids_in, with_enabled, with_links, with_no_links, without}
use Rattle.gem_reports.specs.History.{ReportEntry, each_once, enabled_at, is_named}
use Rattle.gem_reports.specs.History.ReportEntry.{Define, Delete, DeleteAll, Enable, Link, Unlink}
use Rattle.gem_reports.specs.Reporting.{Reporting, after_entry, drack_in, lrack_in, relinked, reporting_at, with_definitions, with_linkings}
use Rattle.gem_shapes.specs.declared.entries.Definition.{Definition}
use Rattle.gem_shapes.specs.declared.entries.Linking.{Linking}
use Rattle.gem_tables.specs.Rows.{rows_of, with_each}

-- no event is enabled
abbrev pub disabled : ℕ → Event → Event
disabled ceid event = with_enabled false event

abbrev pub bare : Reporting → Reporting
bare r = record r { events = with_each disabled r.events }

-- these are
abbrev pub enabled_as : (ℕ → Bool) → Reporting → Reporting
enabled_as is_enabled r = record r { events = with_each (λ ceid. with_enabled (is_enabled ceid)) r.events }

-- ---- each entry of S2F33 and S2F35 does the same to both

swap :
    (f g : ℕ → Event → Event) → ((ceid : ℕ) (event : Event) → f ceid (g ceid event) ≡ g ceid (f ceid event))
    → (t : EventTable) → with_each f (with_each g t) ≡ with_each g (with_each f t)
swap f g same [] = refl
swap f g same (x ∷ t) =
    ap (λ event. (x.0, event) ∷ with_each f (with_each g t)) (same x.0 x.1)
    ∙ ap (λ (rows : EventTable). (x.0, g x.0 (f x.0 x.1)) ∷ rows) (swap f g same t)

-- other events
abbrev over : Reporting → EventTable → Reporting
over r events = record r { events = events }

relink_same :
    (ceid : ℕ) (rptids : List ℕ) (n : ℕ) (event : Event)
    → disabled n (relinked ceid rptids n event) ≡ relinked ceid rptids n (disabled n event)
relink_same ceid rptids n event = go (nat_eq ceid n)
  where
    go : (b : Bool)
        → with_enabled false (cond b (with_links rptids event) event)
        ≡ cond b (with_links rptids (with_enabled false event)) (with_enabled false event)
    go true = refl
    go false = refl

define_same :
    (d : Definition) (r : Reporting) → bare (after_entry r (define_entry d)) ≡ after_entry (bare r) (define_entry d)
define_same d r = go (length d.vids == 0)
  where
    go : (b : Bool)
        → bare (after_entry r (cond b (Delete d.rptid) (Define d.rptid d.vids)))
        ≡ after_entry (bare r) (cond b (Delete d.rptid) (Define d.rptid d.vids))
    go true =
        ap (over (after_entry r (Delete d.rptid)))
        (swap disabled (without (d.rptid ∷ [])) (λ ceid event. refl) r.events)
    go false = refl

link_same : (l : Linking) (r : Reporting) → bare (after_entry r (link_entry l)) ≡ after_entry (bare r) (link_entry l)
link_same l r = go (length l.rptids == 0)
  where
    go : (b : Bool)
        → bare (after_entry r (cond b (Unlink l.ceid) (Link l.ceid l.rptids)))
        ≡ after_entry (bare r) (cond b (Unlink l.ceid) (Link l.ceid l.rptids))
    go true = ap (over r) (swap disabled (relinked l.ceid []) (relink_same l.ceid []) r.events)
    go false = ap (over r) (swap disabled (relinked l.ceid l.rptids) (relink_same l.ceid l.rptids) r.events)

each_same :
    {E : Type 0} (entry_of : E → ReportEntry)
    → ((x : E) (r : Reporting) → bare (after_entry r (entry_of x)) ≡ after_entry (bare r) (entry_of x))
    → (list : List E) (r : Reporting)
    → bare (fold (λ so_far x. after_entry so_far (entry_of x)) r list)
    ≡ fold (λ so_far x. after_entry so_far (entry_of x)) (bare r) list
each_same entry_of one [] r = refl
each_same entry_of one (x ∷ list) r =
    each_same entry_of one list (after_entry r (entry_of x))
    ∙ ap (λ (s : Reporting). fold (λ so_far y. after_entry so_far (entry_of y)) s list) (one x r)

pub defined_bare :
    (list : List Definition) (r : Reporting) → bare (with_definitions list r) ≡ with_definitions list (bare r)
defined_bare list r = go (length list == 0)
  where
    go : (b : Bool)
        → bare (cond b (after_entry r DeleteAll) (fold (λ so_far d. after_entry so_far (define_entry d)) r list))
        ≡ cond b (after_entry (bare r) DeleteAll)
        (fold (λ so_far d. after_entry so_far (define_entry d)) (bare r) list)
    go true =
        ap (over (after_entry r DeleteAll)) (swap disabled with_no_links (λ ceid event. refl) r.events)
    go false = each_same define_entry define_same list r

pub linked_bare :
    (list : List Linking) (r : Reporting) → bare (with_linkings list r) ≡ with_linkings list (bare r)
linked_bare list r = each_same link_entry link_same list r

-- and S2F37 does nothing
pub enabled_bare :
    (on : Bool) (ceids : List ℕ) (r : Reporting) → bare (after_entry r (Enable on ceids)) ≡ bare r
enabled_bare on ceids r = ap (over r) (go r.events)
  where
    row : (b : Bool) (event : Event)
        → with_enabled false (cond b (with_enabled on event) event) ≡ with_enabled false event
    row true event = refl
    row false event = refl

    go : (t : EventTable) → with_each disabled (with_each (enabled_by on ceids) t) ≡ with_each disabled t
    go [] = refl
    go (x ∷ t) =
        ap (λ event. (x.0, event) ∷ with_each disabled (with_each (enabled_by on ceids) t))
        (row (is_named ceids x.0) x.1)
        ∙ ap (λ (rows : EventTable). (x.0, disabled x.0 x.1) ∷ rows) (go t)

-- ---- each request is answered the same

pub drack_bare :
    (value : ℕ → Option Item) (list : List Definition) (r : Reporting)
    → drack_in value (bare r) list ≡ drack_in value r list
drack_bare value [] r = refl
drack_bare value (d ∷ list) r =
    ap (first_drack (drack_by value (r.report d.rptid) r.count d))
    (ap (λ (s : Reporting). drack_in value s list) (sym (define_same d r))
    ∙ drack_bare value list (after_entry r (define_entry d)))

-- whatever the values are
pub drack_valued :
    (value other : ℕ → Option Item) → ((vid : ℕ) → is_some (value vid) ≡ is_some (other vid))
    → (list : List Definition) (r : Reporting) → drack_in value r list ≡ drack_in other r list
drack_valued value other same [] r = refl
drack_valued value other same (d ∷ list) r =
    ap (λ test. first_drack
    (cond (length d.vids == 0) drack.Done
    (cond (is_some (r.report d.rptid)) (drack.Defined d.rptid)
    (option_map_or drack.UnknownVid (find test d.vids) (cond (nat_lt r.count 1024) drack.Done drack.NoSpace))))
    (drack_in value (after_entry r (define_entry d)) list)) (λ j vid. not (same vid j))
    ∙ ap (first_drack (drack_by other (r.report d.rptid) r.count d))
    (drack_valued value other same list (after_entry r (define_entry d)))

rptids_bare :
    (t : EventTable) (ceid : ℕ) → rptids_in (with_each disabled t) ceid ≡ rptids_in t ceid
rptids_bare [] ceid = refl
rptids_bare (x ∷ t) ceid = go (rptids_bare t ceid) (nat_eq ceid x.0)
  where
    go : rptids_in (with_each disabled t) ceid ≡ rptids_in t ceid → (b : Bool)
        → option_map (λ (event : Event). event.rptids)
        (cond b (Some (disabled x.0 x.1)) (lookup (nat_eq ceid) (with_each disabled t)))
        ≡ option_map (λ (event : Event). event.rptids) (cond b (Some x.1) (lookup (nat_eq ceid) t))
    go next true = refl
    go next false = next

links_from :
    (n : ℕ) (t : EventTable)
    → fold (λ so_far (e : ℕ × Event). so_far + length e.1.rptids) n (with_each disabled t)
    ≡ fold (λ so_far (e : ℕ × Event). so_far + length e.1.rptids) n t
links_from n [] = refl
links_from n (x ∷ t) = links_from (n + length x.1.rptids) t

links_bare : (t : EventTable) → links_in (with_each disabled t) ≡ links_in t
links_bare t = links_from 0 t

pub lrack_bare : (list : List Linking) (r : Reporting) → lrack_in (bare r) list ≡ lrack_in r list
lrack_bare [] r = refl
lrack_bare (l ∷ list) r =
    let rest = lrack_in (after_entry (bare r) (link_entry l)) list in
    ap (λ links. first_lrack (lrack_by links r.report (links_in (bare r).events) l) rest) (rptids_bare r.events l.ceid)
    ∙ ap (λ n. first_lrack (lrack_by (rptids_in r.events l.ceid) r.report n l) rest) (links_bare r.events)
    ∙ ap (first_lrack (lrack_by (rptids_in r.events l.ceid) r.report (links_in r.events) l))
    (ap (λ (s : Reporting). lrack_in s list) (sym (link_same l r)) ∙ lrack_bare list (after_entry r (link_entry l)))

-- ---- after a history

rows_as :
    (past : List ReportEntry) (ceids : List ℕ)
    → rows_of (λ ceid. ceid) (event_after past) ceids
    ≡ with_each (λ ceid. with_enabled (enabled_at past ceid))
    (with_each disabled (rows_of (λ ceid. ceid) (event_after past) ceids))
rows_as past [] = refl
rows_as past (k ∷ ceids) =
    ap (λ (rows : EventTable). (k, event_after past k) ∷ rows) (rows_as past ceids)

-- what stands, of its parts
pub parted :
    (events : List ℕ) (past : List ReportEntry)
    → reporting_at events past ≡ enabled_as (enabled_at past) (bare (reporting_at events past))
parted events past = ap (over (reporting_at events past)) (rows_as past (each_once events))

rows_deleted :
    (past : List ReportEntry) (ceids : List ℕ)
    → with_each with_no_links (with_each disabled (rows_of (λ ceid. ceid) (event_after past) ceids))
    ≡ with_each disabled (rows_of (λ ceid. ceid) (event_after []) ceids)
rows_deleted past [] = refl
rows_deleted past (k ∷ ceids) =
    ap (λ (rows : EventTable). (k, disabled k (event_after [] k)) ∷ rows) (rows_deleted past ceids)

-- where all are deleted nothing is left
pub deleted_bare :
    (events : List ℕ) (past : List ReportEntry)
    → after_entry (bare (reporting_at events past)) DeleteAll ≡ bare (reporting_at events [])
deleted_bare events past =
    ap (over (bare (reporting_at events []))) (rows_deleted past (each_once events))
