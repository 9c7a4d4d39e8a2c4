-- What holds of every history.
use Rattle.std.specs.Prelude.{◌≡◌, ◌&&◌, ℕ, Bool, List, [], ◌∷◌, nat_eq, is_some, IsTrue, length, Option, Some}
use Rattle.std.specs.List.{IsDistinct, list_all, list_any}
use Rattle.secs_items.specs.declared.item.Item.{Item}
use Rattle.gem_reports.specs.declared.answers.Drack.TheVariants as drack
use Rattle.gem_shapes.specs.declared.entries.Definition.{Definition}
use Rattle.gem_shapes.specs.declared.entries.Linking.{Linking}
use Rattle.gem_reports.specs.Answers.{drack_at, drack_of, erack_of, lrack_of, past_after_define, past_after_link}
use Rattle.gem_reports.specs.Bodies.{event_body_at}
use Rattle.gem_reports.specs.History.{ReportEntry, enabled_at, is_event, report_at, report_count}
use Rattle.gem_reports.specs.History.ReportEntry.{Define}
use Rattle.gem_reports.specs.Reporting.{after_entry, drack_in, erack_in, event_body_in, is_enabled_in, is_planned, lrack_in, reporting_at, reporting_of, with_definitions, with_linkings}
use Rattle.gem_reports.specs.Tables.{ReportsView, StandsFor}

-- the number of reports is that of any list of RPTIDs that has each report that stands, and each once
abbrev pub ReportsAreCounted : Type 0
ReportsAreCounted =
    (past : List ReportEntry) (rptids : List ℕ) → IsDistinct nat_eq rptids
    → ((rptid : ℕ) → list_any (nat_eq rptid) rptids ≡ is_some (report_at past rptid))
    → length rptids ≡ report_count past

-- the variables have these VIDs, whatever their values are at the moment
abbrev pub HasVids : (ℕ → Bool) → (ℕ → Option Item) → Type 0
HasVids is_vid value = (vid : ℕ) → is_some (value vid) ≡ is_vid vid

-- a definition was accepted after the history before it, with the values of that moment
abbrev pub IsAccepted : (ℕ → Bool) → List ReportEntry → ReportEntry → Type 0
IsAccepted is_vid past (Define rptid vids) =
    (value : ℕ → Option Item) × HasVids is_vid value
    × (drack_at value past (record { rptid = rptid; vids = vids }) ≡ drack.Done)
IsAccepted is_vid past _ = Unit {0}

abbrev pub AreAccepted : (ℕ → Bool) → List ReportEntry → Type 0
AreAccepted is_vid [] = Unit {0}
AreAccepted is_vid (entry ∷ past) = IsAccepted is_vid past entry × AreAccepted is_vid past

-- after accepted definitions each VID of a report that stands is a variable's
abbrev pub ReportsHaveVariables : Type 0
ReportsHaveVariables =
    (is_vid : ℕ → Bool) (past : List ReportEntry) (rptid : ℕ) (vids : List ℕ) → AreAccepted is_vid past
    → report_at past rptid ≡ Some vids → IsTrue (list_all is_vid vids)

-- the value stands for the plan's events and some history
abbrev pub HasPast : ReportsView → Type 0
HasPast view = (events : List ℕ) × (past : List ReportEntry) × StandsFor view events past

-- After each history one entry more leaves what it leaves of what stands; and where a value stands for a history, so
-- much is what it has of it. So requests are answered by what stands, and leave a function of it.
pub record ReportsGoByWhatStands : Type 0 where
  pub next :
      (events : List ℕ) (past : List ReportEntry) (entry : ReportEntry)
      → reporting_at events (entry ∷ past) ≡ after_entry (reporting_at events past) entry
  pub at :
      (view : ReportsView) (events : List ℕ) (past : List ReportEntry) → StandsFor view events past
      → reporting_of view ≡ reporting_at events past
  pub drack :
      (value : ℕ → Option Item) (events : List ℕ) (past : List ReportEntry) (list : List Definition)
      → drack_of value past list ≡ drack_in value (reporting_at events past) list
  pub defined :
      (events : List ℕ) (past : List ReportEntry) (list : List Definition)
      → reporting_at events (past_after_define past list) ≡ with_definitions list (reporting_at events past)
  pub lrack :
      (events : List ℕ) (past : List ReportEntry) (list : List Linking)
      → lrack_of events past list ≡ lrack_in (reporting_at events past) list
  pub linked :
      (events : List ℕ) (past : List ReportEntry) (list : List Linking)
      → reporting_at events (past_after_link past list) ≡ with_linkings list (reporting_at events past)
  pub erack :
      (events : List ℕ) (past : List ReportEntry) (ceids : List ℕ)
      → erack_of events ceids ≡ erack_in (reporting_at events past) ceids
  pub known :
      (events : List ℕ) (past : List ReportEntry) (ceid : ℕ)
      → is_event events ceid ≡ is_planned (reporting_at events past) ceid
  pub enabled :
      (events : List ℕ) (past : List ReportEntry) (ceid : ℕ)
      → (is_event events ceid && enabled_at past ceid) ≡ is_enabled_in (reporting_at events past) ceid
  pub event :
      (value : ℕ → Option Item) (events : List ℕ) (past : List ReportEntry) (ceid dataid : ℕ)
      → event_body_at value events past ceid dataid ≡ event_body_in value (reporting_at events past) ceid dataid
