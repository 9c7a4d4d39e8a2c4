-- What the requests are answered, entry by entry, and the history that an accepted one leaves.
use Rattle.std.specs.Prelude.{ℕ, not, ◌+◌, ◌==◌, List, [], ◌∷◌, length, fold, nat_lt, Option, Some, None, is_some, if◌then◌else◌}
use Rattle.std.specs.List.{find}
use Rattle.std.specs.Option.{option_map_or}
use Rattle.secs_items.specs.declared.item.Item.{Item}
use Rattle.gem_shapes.specs.declared.entries.Definition.{Definition}
use Rattle.gem_shapes.specs.declared.entries.Linking.{Linking}
use Rattle.gem_reports.specs.declared.answers.Drack.{Drack}
use Rattle.gem_reports.specs.declared.answers.Drack.TheVariants as drack
use Rattle.gem_reports.specs.declared.answers.Lrack.{Lrack}
use Rattle.gem_reports.specs.declared.answers.Lrack.TheVariants as lrack
use Rattle.gem_reports.specs.declared.answers.Erack.{Erack}
use Rattle.gem_reports.specs.declared.answers.Erack.TheVariants as erack
use Rattle.gem_reports.specs.History.{ReportEntry, is_event, link_count, links_of, report_at, report_count}
use Rattle.gem_reports.specs.History.ReportEntry.{Define, Delete, DeleteAll, Link, Unlink}

-- Parameters: the values of the variables, by VID; whether the report stands; how many stand. An entry without VIDs is
-- never refused. Otherwise the first that applies: the report stands already, a VID is no variable, 1,024 reports stand
-- (SEMI E5, DRACK; the number is of this profile).
abbrev pub drack_by : (ℕ → Option Item) → Option (List ℕ) → ℕ → Definition → Drack
drack_by value standing count entry =
    if length entry.vids == 0 then drack.Done
    else if is_some standing then drack.Defined entry.rptid
    else option_map_or drack.UnknownVid (find (λ vid. not (is_some (value vid))) entry.vids)
    (if nat_lt count 1024 then drack.Done else drack.NoSpace)

-- an entry of S2F33, judged by the history before it
abbrev pub drack_at : (ℕ → Option Item) → List ReportEntry → Definition → Drack
drack_at value past entry = drack_by value (report_at past entry.rptid) (report_count past) entry

-- an entry of an accepted S2F33; without VIDs it deletes the report
abbrev pub define_entry : Definition → ReportEntry
define_entry entry = if length entry.vids == 0 then Delete entry.rptid else Define entry.rptid entry.vids

-- what a first answer and that to the rest are together: the first that refuses decides
abbrev pub first_drack : Drack → Drack → Drack
first_drack drack.Done rest = rest
first_drack drack.NoSpace rest = drack.NoSpace
first_drack (drack.Defined rptid) rest = drack.Defined rptid
first_drack (drack.UnknownVid vid) rest = drack.UnknownVid vid

-- what S2F33 is answered; an entry counts for those behind it (SEMI E30, event data collection)
abbrev pub drack_of : (ℕ → Option Item) → List ReportEntry → List Definition → Drack
drack_of value past [] = drack.Done
drack_of value past (entry ∷ entries) =
    first_drack (drack_at value past entry) (drack_of value (define_entry entry ∷ past) entries)

abbrev pub past_with_definitions : List ReportEntry → List Definition → List ReportEntry
past_with_definitions past entries = fold (λ so_far entry. define_entry entry ∷ so_far) past entries

-- the history with an accepted S2F33; without entries it deletes all
abbrev pub past_after_define : List ReportEntry → List Definition → List ReportEntry
past_after_define past entries = if length entries == 0 then DeleteAll ∷ past else past_with_definitions past entries

-- Parameters: the event's links, if the plan has it; the reports that stand; how many links there are. The first that
-- applies: no such event; an entry without RPTIDs, which is never refused; the event has links already, a report
-- doesn't stand, there would be more than 4,096 links (SEMI E5, LRACK; the number is of this profile).
abbrev pub lrack_by : Option (List ℕ) → (ℕ → Option (List ℕ)) → ℕ → Linking → Lrack
lrack_by None report count entry = lrack.UnknownCeid entry.ceid
lrack_by (Some links) report count entry =
    if length entry.rptids == 0 then lrack.Done
    else if length links == 0 then
    option_map_or lrack.UnknownRptid (find (λ rptid. not (is_some (report rptid))) entry.rptids)
    (if nat_lt 4096 (count + length entry.rptids) then lrack.NoSpace else lrack.Done)
    else lrack.Linked entry.ceid

-- an entry of S2F35, judged by the history before it
abbrev pub lrack_at : List ℕ → List ReportEntry → Linking → Lrack
lrack_at events past entry =
    lrack_by (links_of events past entry.ceid) (report_at past) (link_count events past) entry

-- an entry of an accepted S2F35; without RPTIDs it unlinks the event
abbrev pub link_entry : Linking → ReportEntry
link_entry entry = if length entry.rptids == 0 then Unlink entry.ceid else Link entry.ceid entry.rptids

abbrev pub first_lrack : Lrack → Lrack → Lrack
first_lrack lrack.Done rest = rest
first_lrack lrack.NoSpace rest = lrack.NoSpace
first_lrack (lrack.Linked ceid) rest = lrack.Linked ceid
first_lrack (lrack.UnknownCeid ceid) rest = lrack.UnknownCeid ceid
first_lrack (lrack.UnknownRptid rptid) rest = lrack.UnknownRptid rptid

-- what S2F35 is answered; an entry counts for those behind it (SEMI E30, event data collection)
abbrev pub lrack_of : List ℕ → List ReportEntry → List Linking → Lrack
lrack_of events past [] = lrack.Done
lrack_of events past (entry ∷ entries) =
    first_lrack (lrack_at events past entry) (lrack_of events (link_entry entry ∷ past) entries)

-- the history with an accepted S2F35
abbrev pub past_after_link : List ReportEntry → List Linking → List ReportEntry
past_after_link past entries = fold (λ so_far entry. link_entry entry ∷ so_far) past entries

-- S2F37 is refused at the first CEID that the plan doesn't have (SEMI E5, ERACK)
abbrev pub erack_of : List ℕ → List ℕ → Erack
erack_of events ceids = option_map_or erack.Unknown (find (λ ceid. not (is_event events ceid)) ceids) erack.Done
