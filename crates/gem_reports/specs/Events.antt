-- The plan's events as a table.
use Rattle.std.specs.Prelude.{ℕ, Bool, not, List, [], length, filter, nat_eq, sum_by, Option, if◌then◌else◌}
use Rattle.std.specs.List.{list_any}
use Rattle.std.specs.Map.{lookup}
use Rattle.std.specs.Option.{option_map, unwrap_or}
use Rattle.gem_tables.specs.Rows.{rows_of, with_row}
use Rattle.gem_reports.specs.declared.event.Event.{Event}
use Rattle.gem_reports.specs.History.{ReportEntry, each_once, enabled_at, links_at, is_named}

-- the events with their CEIDs, in the plan's order
abbrev pub EventTable : Type 0
EventTable = List (ℕ × Event)

abbrev pub with_links : List ℕ → Event → Event
with_links rptids event = record event { rptids = rptids }

abbrev pub with_enabled : Bool → Event → Event
with_enabled is_enabled event = record event { is_enabled = is_enabled }

-- how many links they have together
abbrev pub links_in : EventTable → ℕ
links_in table = sum_by (λ e. length e.1.rptids) table

-- the RPTIDs that are kept of an event, if it is there
abbrev pub rptids_in : EventTable → ℕ → Option (List ℕ)
rptids_in table ceid = option_map (λ event. event.rptids) (lookup (nat_eq ceid) table)

-- the same, and none where it isn't there
abbrev pub links_in_table : EventTable → ℕ → List ℕ
links_in_table table ceid = unwrap_or (rptids_in table ceid) []

-- the table with other links of one event
abbrev pub with_links_of : ℕ → List ℕ → EventTable → EventTable
with_links_of ceid rptids table = with_row ceid (with_links rptids) table

-- no event has links
abbrev pub with_no_links : ℕ → Event → Event
with_no_links ceid event = with_links [] event

-- no event has links to these reports
abbrev pub without : List ℕ → ℕ → Event → Event
without rptids ceid event = with_links (filter (λ rptid. not (list_any (nat_eq rptid) rptids)) event.rptids) event

-- those that are named are enabled, or disabled
abbrev pub enabled_by : Bool → List ℕ → ℕ → Event → Event
enabled_by is_enabled ceids ceid event = if is_named ceids ceid then with_enabled is_enabled event else event

-- an event after a history
abbrev pub event_after : List ReportEntry → ℕ → Event
event_after past ceid = record { is_enabled = enabled_at past ceid; rptids = links_at past ceid }

-- the plan's events after a history
abbrev pub events_at : List ℕ → List ReportEntry → EventTable
events_at events past = rows_of (λ ceid. ceid) (event_after past) (each_once events)
