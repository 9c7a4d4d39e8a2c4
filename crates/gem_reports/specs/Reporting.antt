-- What requests are answered and leave, by what stands alone. In which order the reports are kept is nobody's affair,
-- so they are a function here.
use Rattle.std.specs.Prelude.{ℕ, ◌+◌, ◌-◌, ◌==◌, not, false, List, [], ◌∷◌, length, fold, nat_eq, Bool, Option, Some, None, is_some, if◌then◌else◌}
use Rattle.std.specs.List.{find}
use Rattle.std.specs.Map.{lookup}
use Rattle.std.specs.Option.{option_map_or}
use Rattle.secs_items.specs.declared.item.Item.{Item}
use Rattle.gem_shapes.specs.declared.entries.Definition.{Definition}
use Rattle.gem_shapes.specs.declared.entries.Linking.{Linking}
use Rattle.gem_tables.specs.Rows.{with_each}
use Rattle.gem_reports.specs.declared.answers.Drack.{Drack}
use Rattle.gem_reports.specs.declared.answers.Drack.TheVariants as drack
use Rattle.gem_reports.specs.declared.answers.Lrack.{Lrack}
use Rattle.gem_reports.specs.declared.answers.Lrack.TheVariants as lrack
use Rattle.gem_reports.specs.declared.answers.Erack.{Erack}
use Rattle.gem_reports.specs.declared.answers.Erack.TheVariants as erack
use Rattle.gem_reports.specs.declared.event.Event.{Event}
use Rattle.gem_reports.specs.Answers.{define_entry, drack_by, first_drack, first_lrack, link_entry, lrack_by}
use Rattle.gem_reports.specs.Bodies.{event_body_of, report_body_of}
use Rattle.gem_reports.specs.Events.{EventTable, enabled_by, events_at, links_in, rptids_in, with_links, with_no_links, without}
use Rattle.gem_reports.specs.History.{ReportEntry, report_at, report_count}
use Rattle.gem_reports.specs.History.ReportEntry.{Define, Delete, DeleteAll, Link, Unlink, Enable}
use Rattle.gem_reports.specs.Tables.{ReportsView, vids_in}

-- the plan's events, the VIDs of each report that stands, and how many stand
pub record Reporting : Type 0 where
  pub events : EventTable
  pub report : ℕ → Option (List ℕ)
  pub count : ℕ

abbrev pub reporting_of : ReportsView → Reporting
reporting_of view = record { events = view.events; report = vids_in view.reports; count = length view.reports }

-- the same after a history, looked back for
abbrev pub reporting_at : List ℕ → List ReportEntry → Reporting
reporting_at events past =
    record { events = events_at events past; report = report_at past; count = report_count past }

abbrev pub with_report : ℕ → List ℕ → Reporting → Reporting
with_report rptid vids r = record {
  events = r.events;
  report = λ other. if nat_eq rptid other then Some vids else r.report other;
  count = if is_some (r.report rptid) then r.count else r.count + 1;
}

-- a report is deleted with the links to it
abbrev pub without_report : ℕ → Reporting → Reporting
without_report rptid r = record {
  events = with_each (without (rptid ∷ [])) r.events;
  report = λ other. if nat_eq rptid other then None else r.report other;
  count = if is_some (r.report rptid) then r.count - 1 else r.count;
}

-- the event of one CEID with other links
abbrev pub relinked : ℕ → List ℕ → ℕ → Event → Event
relinked ceid rptids other event = if nat_eq ceid other then with_links rptids event else event

abbrev pub with_events : (ℕ → Event → Event) → Reporting → Reporting
with_events change r = record r { events = with_each change r.events }

-- what an entry leaves (SEMI E5, S2F33, S2F35 and S2F37)
abbrev pub after_entry : Reporting → ReportEntry → Reporting
after_entry r (Define rptid vids) = with_report rptid vids r
after_entry r (Delete rptid) = without_report rptid r
after_entry r DeleteAll = record { events = with_each with_no_links r.events; report = λ other. None; count = 0 }
after_entry r (Link ceid rptids) = with_events (relinked ceid rptids) r
after_entry r (Unlink ceid) = with_events (relinked ceid []) r
after_entry r (Enable is_enabled ceids) = with_events (enabled_by is_enabled ceids) r

-- what S2F33 is answered; an entry counts for those behind it (SEMI E30, event data collection)
abbrev pub drack_in : (ℕ → Option Item) → Reporting → List Definition → Drack
drack_in value r [] = drack.Done
drack_in value r (entry ∷ entries) =
    first_drack (drack_by value (r.report entry.rptid) r.count entry)
    (drack_in value (after_entry r (define_entry entry)) entries)

-- what an accepted S2F33 leaves; without entries it deletes all
abbrev pub with_definitions : List Definition → Reporting → Reporting
with_definitions entries r =
    if length entries == 0 then after_entry r DeleteAll
    else fold (λ so_far entry. after_entry so_far (define_entry entry)) r entries

-- what S2F35 is answered
abbrev pub lrack_in : Reporting → List Linking → Lrack
lrack_in r [] = lrack.Done
lrack_in r (entry ∷ entries) =
    first_lrack (lrack_by (rptids_in r.events entry.ceid) r.report (links_in r.events) entry)
    (lrack_in (after_entry r (link_entry entry)) entries)

-- what an accepted S2F35 leaves
abbrev pub with_linkings : List Linking → Reporting → Reporting
with_linkings entries r = fold (λ so_far entry. after_entry so_far (link_entry entry)) r entries

abbrev pub is_planned : Reporting → ℕ → Bool
is_planned r ceid = is_some (lookup (nat_eq ceid) r.events)

-- what S2F37 is answered
abbrev pub erack_in : Reporting → List ℕ → Erack
erack_in r ceids = option_map_or erack.Unknown (find (λ ceid. not (is_planned r ceid)) ceids) erack.Done

abbrev pub is_enabled_in : Reporting → ℕ → Bool
is_enabled_in r ceid = option_map_or (λ event. event.is_enabled) (lookup (nat_eq ceid) r.events) false

-- the bodies of S6F11 and S6F16, and of S6F20
abbrev pub event_body_in : (ℕ → Option Item) → Reporting → ℕ → ℕ → Item
event_body_in value r ceid dataid = event_body_of value r.report (rptids_in r.events ceid) ceid dataid

abbrev pub report_body_in : (ℕ → Option Item) → Reporting → ℕ → Item
report_body_in value r rptid = report_body_of value (r.report rptid)
