-- The items that reports and events give.
use Rattle.std.specs.Prelude.{ℕ, List, [], ◌∷◌, map, Option}
use Rattle.std.specs.List.{filter_map}
use Rattle.std.specs.Option.{unwrap_or}
use Rattle.secs_items.specs.declared.item.Item.{Item}
use Rattle.secs_items.specs.declared.item.Item.TheVariants as item
use Rattle.secs_items.specs.Items.{number_item}
use Rattle.gem_reports.specs.History.{ReportEntry, links_of, report_at}

-- the values of variables in their order, by what they have at the moment
abbrev pub values_item : (ℕ → Option Item) → List ℕ → Item
values_item value vids = item.L (filter_map value vids)

-- the values of a report's variables; of a report that doesn't stand none (SEMI E5, S6F20)
abbrev pub report_body_of : (ℕ → Option Item) → Option (List ℕ) → Item
report_body_of value report = values_item value (unwrap_or report [])

-- a report in an event's body: its RPTID and its values (SEMI E5, S6F11)
abbrev pub report_item : (ℕ → Option Item) → (ℕ → Option (List ℕ)) → ℕ → Item
report_item value report rptid = item.L (number_item rptid ∷ report_body_of value (report rptid) ∷ [])

-- DATAID, CEID and the linked reports in their order; of an event without links, or that isn't there, no reports
-- (SEMI E5, S6F11 and S6F16)
abbrev pub event_body_of : (ℕ → Option Item) → (ℕ → Option (List ℕ)) → Option (List ℕ) → ℕ → ℕ → Item
event_body_of value report links ceid dataid =
    item.L (number_item dataid ∷ number_item ceid ∷ item.L (map (report_item value report) (unwrap_or links [])) ∷ [])

-- the bodies after a history
abbrev pub report_body_at : (ℕ → Option Item) → List ReportEntry → ℕ → Item
report_body_at value past rptid = report_body_of value (report_at past rptid)

abbrev pub event_body_at : (ℕ → Option Item) → List ℕ → List ReportEntry → ℕ → ℕ → Item
event_body_at value events past ceid dataid =
    event_body_of value (report_at past) (links_of events past ceid) ceid dataid
