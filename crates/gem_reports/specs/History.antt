-- What holds of reports, links and enables after a history, looked back for. The newest entry stands first.
use Rattle.std.specs.Prelude.{ℕ, Bool, false, not, ◌||◌, ◌==◌, List, [], ◌∷◌, ◌++◌, length, filter, fold, nat_eq, sum_by, Option, Some, None, is_some, if◌then◌else◌}
use Rattle.std.specs.List.{filter_map, list_any}
use Rattle.std.specs.Set.{distinct_count}
use Rattle.gem_tables.specs.History.{newest}

-- An entry of an accepted S2F33, which defines a report, deletes one with its links, or all; an entry of an accepted
-- S2F35, which links an event or unlinks it; and an accepted S2F37, which names some events, or all by naming none
-- (SEMI E5; SEMI E30, event data collection).
pub data ReportEntry : Type 0 where
  Define : (rptid : ℕ) (vids : List ℕ) → ReportEntry
  Delete : (rptid : ℕ) → ReportEntry
  DeleteAll : ReportEntry
  Link : (ceid : ℕ) (rptids : List ℕ) → ReportEntry
  Unlink : (ceid : ℕ) → ReportEntry
  Enable : (is_enabled : Bool) (ceids : List ℕ) → ReportEntry

-- what an entry says of a report, if anything: its VIDs, or that there is none
abbrev pub report_in : ℕ → ReportEntry → Option (Option (List ℕ))
report_in rptid (Define other vids) = if nat_eq other rptid then Some (Some vids) else None
report_in rptid (Delete other) = if nat_eq other rptid then Some None else None
report_in rptid DeleteAll = Some None
report_in rptid (Link ceid rptids) = None
report_in rptid (Unlink ceid) = None
report_in rptid (Enable is_enabled ceids) = None

-- the VIDs of a report, if it stands
abbrev pub report_at : List ReportEntry → ℕ → Option (List ℕ)
report_at past rptid = newest (report_in rptid) None past

-- the RPTIDs that an entry links to an event, if it says which
abbrev pub link_in : ℕ → ReportEntry → Option (List ℕ)
link_in ceid (Define rptid vids) = None
link_in ceid (Delete rptid) = None
link_in ceid DeleteAll = Some []
link_in ceid (Link other rptids) = if nat_eq other ceid then Some rptids else None
link_in ceid (Unlink other) = if nat_eq other ceid then Some [] else None
link_in ceid (Enable is_enabled ceids) = None

-- the entries since the newest that says which RPTIDs are linked to the event
abbrev pub since_link : List ReportEntry → ℕ → List ReportEntry
since_link [] ceid = []
since_link (entry ∷ past) ceid = if is_some (link_in ceid entry) then [] else entry ∷ since_link past ceid

abbrev pub is_deletion : ℕ → ReportEntry → Bool
is_deletion rptid (Delete other) = nat_eq other rptid
is_deletion rptid _ = false

-- the RPTIDs that are linked to an event: those of its newest link, in their order, without each that was deleted since
abbrev pub links_at : List ReportEntry → ℕ → List ℕ
links_at past ceid =
    filter (λ rptid. not (list_any (is_deletion rptid) (since_link past ceid))) (newest (link_in ceid) [] past)

-- a list of CEIDs names its own, or all where it is empty (SEMI E5, S2F37)
abbrev pub is_named : List ℕ → ℕ → Bool
is_named ceids ceid = (length ceids == 0) || list_any (nat_eq ceid) ceids

abbrev pub enable_in : ℕ → ReportEntry → Option Bool
enable_in ceid (Enable is_enabled ceids) = if is_named ceids ceid then Some is_enabled else None
enable_in ceid _ = None

-- whether an event is enabled; none is at first
abbrev pub enabled_at : List ReportEntry → ℕ → Bool
enabled_at past ceid = newest (enable_in ceid) false past

-- the numbers with this one, which goes last where it isn't among them
abbrev pub with_number : List ℕ → ℕ → List ℕ
with_number numbers n = if list_any (nat_eq n) numbers then numbers else numbers ++ n ∷ []

-- the numbers, each once, where it first stands
abbrev pub each_once : List ℕ → List ℕ
each_once numbers = fold with_number [] numbers

abbrev pub defined_in : ReportEntry → Option ℕ
defined_in (Define rptid vids) = Some rptid
defined_in _ = None

-- the RPTIDs of the reports that stand, each once or more
abbrev pub standing_at : List ReportEntry → List ℕ
standing_at past = filter (λ rptid. is_some (report_at past rptid)) (filter_map defined_in past)

-- how many reports stand
abbrev pub report_count : List ReportEntry → ℕ
report_count past = distinct_count nat_eq (standing_at past)

-- how many links the plan's events have, as pairs of an event and a report
abbrev pub link_count : List ℕ → List ReportEntry → ℕ
link_count events past = sum_by (λ ceid. length (links_at past ceid)) (each_once events)

abbrev pub is_event : List ℕ → ℕ → Bool
is_event events ceid = list_any (nat_eq ceid) events

-- the RPTIDs that are linked to an event of the plan
abbrev pub links_of : List ℕ → List ReportEntry → ℕ → Option (List ℕ)
links_of events past ceid = if is_event events ceid then Some (links_at past ceid) else None
