-- What stands after a history goes by what stood before its last entry.
use Rattle.std.proofs.Common.{◌≡◌, refl, sym, ◌∙◌, ap, Bool, true, false, cond, ◌&&◌, ◌||◌, ◌==◌, ℕ, ◌+◌, ◌-◌, List, [], ◌∷◌, ◌++◌, length, length-append, fold, nat_eq, Option, Some, None, is_some, arith}
use Rattle.std.proofs.lemmas.Bool.{eqb-true}
use Rattle.std.specs.List.{list_any}
use Rattle.std.specs.Option.{option_map_or}
use Rattle.secs_items.specs.declared.item.Item.{Item}
use Rattle.gem_shapes.specs.declared.entries.Definition.{Definition}
use Rattle.gem_shapes.specs.declared.entries.Linking.{Linking}
use Rattle.gem_reports.specs.declared.answers.Erack.TheVariants as erack
use Rattle.gem_reports.specs.declared.event.Event.{Event}
use Rattle.gem_reports.specs.Answers.{define_entry, drack_at, drack_of, erack_of, first_drack, first_lrack, link_entry, lrack_by, lrack_of, past_after_define, past_after_link, past_with_definitions}
use Rattle.gem_reports.specs.Bodies.{event_body_at, event_body_of}
use Rattle.gem_reports.specs.Events.{EventTable, enabled_by, event_after, events_at, links_in, rptids_in, with_no_links, without}
use Rattle.gem_reports.specs.History.{ReportEntry, each_once, enabled_at, is_event, link_count, report_at, report_count, standing_at, with_number}
use Rattle.gem_reports.specs.History.ReportEntry.{Define, Delete, DeleteAll, Link, Unlink, Enable}
use Rattle.gem_reports.specs.Reporting.{Reporting, after_entry, drack_in, erack_in, event_body_in, is_enabled_in, is_planned, lrack_in, relinked, reporting_at, reporting_of, with_definitions, with_linkings}
use Rattle.gem_reports.specs.Tables.{ReportsView, StandsFor}
use Rattle.gem_reports.proofs.Counted.{count_defined, count_deleted, counted, put_report, removed_report}
use Rattle.gem_reports.proofs.Entering.{count_is, links_of_rows, table_links}
use Rattle.gem_reports.proofs.Members.{none_distinct, same_test}
use Rattle.gem_reports.proofs.Rows.{each_after, first_unknown, is_known, looked_up}
use Rattle.gem_reports.proofs.Steps.{deleted_row, enabled_row, link_row, unlink_row, without_none}

-- equal parts
same_parts :
    {e f : EventTable} {r s : ℕ → Option (List ℕ)} {n m : ℕ} → e ≡ f → ((q : ℕ) → r q ≡ s q) → n ≡ m
    → ◌≡◌ {A = Reporting} (record { events = e; report = r; count = n }) (record { events = f; report = s; count = m })
same_parts events reports counts = λ j. record { events = events j; report = λ q. reports q j; count = counts j }

-- ---- one entry more

only_one : (r q : ℕ) → list_any (nat_eq q) (r ∷ []) ≡ cond (nat_eq r q) true (list_any (nat_eq q) [])
only_one r q = go (nat_eq r q) (same_test q r)
  where
    go : (b : Bool) → nat_eq q r ≡ b → (nat_eq q r || false) ≡ cond b true false
    go true same = ap (λ c. c || false) same
    go false same = ap (λ c. c || false) same

pub entry_more :
    (events : List ℕ) (past : List ReportEntry) (entry : ReportEntry)
    → reporting_at events (entry ∷ past) ≡ after_entry (reporting_at events past) entry
entry_more events past (Define r vids) =
    same_parts refl (λ q. sym (put_report (nat_eq r q) vids (report_at past q))) (count_defined past r vids)
entry_more events past (Delete r) =
    same_parts
    (sym (each_after (without (r ∷ [])) events past (Delete r ∷ past)
    (λ ceid. deleted_row r [] (r ∷ []) past past ceid (only_one r) (without_none past ceid))))
    (λ q. sym (removed_report (nat_eq r q) (report_at past q))) (count_deleted past r)
entry_more events past DeleteAll =
    same_parts (sym (each_after with_no_links events past (DeleteAll ∷ past) (λ ceid. refl))) (λ q. refl)
    (sym (counted (DeleteAll ∷ past) [] none_distinct (λ q. refl)))
entry_more events past (Link ceid rptids) =
    same_parts
    (sym (each_after (relinked ceid rptids) events past (Link ceid rptids ∷ past) (link_row ceid rptids past)))
    (λ q. refl) refl
entry_more events past (Unlink ceid) =
    same_parts (sym (each_after (relinked ceid []) events past (Unlink ceid ∷ past) (unlink_row ceid past)))
    (λ q. refl) refl
entry_more events past (Enable on ceids) =
    same_parts
    (sym (each_after (enabled_by on ceids) events past (Enable on ceids ∷ past) (enabled_row on ceids past)))
    (λ q. refl) refl

pub stands_at :
    (view : ReportsView) (events : List ℕ) (past : List ReportEntry) → StandsFor view events past
    → reporting_of view ≡ reporting_at events past
stands_at view events past stands =
    same_parts stands.rows (λ q. stands.standing.each q) (count_is view.reports past stands.standing)

-- ---- requests

pub drack_same :
    (value : ℕ → Option Item) (events : List ℕ) (past : List ReportEntry) (list : List Definition)
    → drack_of value past list ≡ drack_in value (reporting_at events past) list
drack_same value events past [] = refl
drack_same value events past (entry ∷ list) =
    ap (first_drack (drack_at value past entry))
    (drack_same value events (define_entry entry ∷ past) list
    ∙ ap (λ r. drack_in value r list) (entry_more events past (define_entry entry)))

-- what some entries leave, one after another
each_left :
    {E : Type 0} (entry_of : E → ReportEntry) (events : List ℕ) (past : List ReportEntry) (list : List E)
    → reporting_at events (fold (λ so_far entry. entry_of entry ∷ so_far) past list)
    ≡ fold (λ so_far entry. after_entry so_far (entry_of entry)) (reporting_at events past) list
each_left entry_of events past [] = refl
each_left entry_of events past (entry ∷ list) =
    each_left entry_of events (entry_of entry ∷ past) list
    ∙ ap (λ r. fold (λ so_far e. after_entry so_far (entry_of e)) r list) (entry_more events past (entry_of entry))

pub defined_same :
    (events : List ℕ) (past : List ReportEntry) (list : List Definition)
    → reporting_at events (past_after_define past list) ≡ with_definitions list (reporting_at events past)
defined_same events past list = go (length list == 0)
  where
    go : (b : Bool)
        → reporting_at events (cond b (DeleteAll ∷ past) (past_with_definitions past list))
        ≡ cond b (after_entry (reporting_at events past) DeleteAll)
        (fold (λ so_far entry. after_entry so_far (define_entry entry)) (reporting_at events past) list)
    go true = entry_more events past DeleteAll
    go false = each_left define_entry events past list

pub linked_same :
    (events : List ℕ) (past : List ReportEntry) (list : List Linking)
    → reporting_at events (past_after_link past list) ≡ with_linkings list (reporting_at events past)
linked_same events past list = each_left link_entry events past list

pub lrack_same :
    (events : List ℕ) (past : List ReportEntry) (list : List Linking)
    → lrack_of events past list ≡ lrack_in (reporting_at events past) list
lrack_same events past [] = refl
lrack_same events past (entry ∷ list) =
    let rows = events_at events past in
    let rest = lrack_of events (link_entry entry ∷ past) list in
    ap (λ links. first_lrack (lrack_by links (report_at past) (link_count events past) entry) rest)
    (sym (table_links rows events past entry.ceid refl))
    ∙ ap (λ n. first_lrack (lrack_by (rptids_in rows entry.ceid) (report_at past) n entry) rest)
    (sym (links_of_rows past (each_once events)))
    ∙ ap (first_lrack (lrack_by (rptids_in rows entry.ceid) (report_at past) (links_in rows) entry))
    (lrack_same events (link_entry entry ∷ past) list
    ∙ ap (λ r. lrack_in r list) (entry_more events past (link_entry entry)))

pub erack_same :
    (events : List ℕ) (past : List ReportEntry) (ceids : List ℕ)
    → erack_of events ceids ≡ erack_in (reporting_at events past) ceids
erack_same events past ceids =
    ap (λ o. option_map_or erack.Unknown o erack.Done)
    (sym (first_unknown events past (events_at events past) ceids refl))

pub known_same :
    (events : List ℕ) (past : List ReportEntry) (ceid : ℕ)
    → is_event events ceid ≡ is_planned (reporting_at events past) ceid
known_same events past ceid = sym (is_known events past ceid)

pub enabled_same :
    (events : List ℕ) (past : List ReportEntry) (ceid : ℕ)
    → (is_event events ceid && enabled_at past ceid) ≡ is_enabled_in (reporting_at events past) ceid
enabled_same events past ceid =
    go (is_event events ceid)
    ∙ ap (λ o. option_map_or (λ (event : Event). event.is_enabled) o false) (sym (looked_up events past ceid))
  where
    go : (b : Bool)
        → (b && enabled_at past ceid)
        ≡ option_map_or (λ (event : Event). event.is_enabled) (cond b (Some (event_after past ceid)) None) false
    go true = refl
    go false = refl

pub event_same :
    (value : ℕ → Option Item) (events : List ℕ) (past : List ReportEntry) (ceid dataid : ℕ)
    → event_body_at value events past ceid dataid ≡ event_body_in value (reporting_at events past) ceid dataid
event_same value events past ceid dataid =
    ap (λ links. event_body_of value (report_at past) links ceid dataid)
    (sym (table_links (events_at events past) events past ceid refl))
