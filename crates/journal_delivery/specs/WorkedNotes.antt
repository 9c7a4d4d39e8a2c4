-- What a host notes of its journal, in examples that can be followed by hand. The newest comes first.
use Rattle.std.specs.Prelude.{nat_lt, ℕ, List, [], ◌∷◌, length, Some, None}
use Rattle.trace_log.specs.Log.{Happening}
use Rattle.trace_log.specs.Log.Happening.{HostStarted, Listed, Listing, Power}
use Rattle.trace_log.specs.Names.{Record, Spooled}
use Rattle.spool_law.specs.Journal.{KeepsJournal, Room, entry_of}
use Rattle.spool_law.specs.Listing.{record_of}
use Rattle.spool_delivery.specs.Worked.{report}
use Rattle.journal_delivery.specs.Worked.{listed_report, second_report}

abbrev pub second_record : Record
second_record = record_of second_report

-- what the journal's file has of them
abbrev pub first_entry : ℕ × Spooled
first_entry = (0, entry_of listed_report)

abbrev pub second_entry : ℕ × Spooled
second_entry = (1, entry_of second_record)

abbrev pub starts_over : List (ℕ × Spooled) → List Happening → List Happening
starts_over found before = HostStarted (Some (record { found = found; base = 0 })) ∷ before

abbrev pub lists : ℕ → Record → List Happening → List Happening
lists number listed before = Listed number listed ∷ Listing number listed ∷ before

-- a report is listed, and the next one is being listed as power is lost
abbrev pub listed_first : List Happening
listed_first = lists 0 listed_report (starts_over [] [])

abbrev pub cut_second : List Happening
cut_second = Power ∷ Listing 1 second_record ∷ listed_first

-- a message of another origin, shorter than system bytes are
abbrev pub short_entry : ℕ × Spooled
short_entry = (5, report (65 ∷ []))

-- the file has three slots, one for each of these messages
abbrev pub three_slots : Room
three_slots stands message = nat_lt (length stands) 3

-- the start finds both reports, and the first one is listed again
abbrev pub filled : List Happening
filled = lists 2 listed_report (starts_over (first_entry ∷ second_entry ∷ []) cut_second)

-- the start finds the first report, and the second one behind it or not; and numbers go on behind those that it finds,
-- whatever the file held before
pub record FindsWhatIsListed : Type 0 where
  pub both : KeepsJournal three_slots [] filled
  pub first : KeepsJournal three_slots [] (lists 1 second_record (starts_over (first_entry ∷ []) cut_second))
  pub short :
      KeepsJournal three_slots (short_entry ∷ []) (lists 6 listed_report (starts_over (short_entry ∷ []) []))

-- it finds no report, by its journal or without one, the two in another order, one that wasn't listed, or one without
-- its system bytes; its numbers begin anew; two are listed at a time, or one into a full file; or its first start finds
-- what nobody has put there
pub record FindsNothingElse : Type 0 where
  pub none : KeepsJournal three_slots [] (starts_over [] cut_second) → ⊥
  pub without : KeepsJournal three_slots [] (HostStarted None ∷ cut_second) → ⊥
  pub turned : KeepsJournal three_slots [] (starts_over (second_entry ∷ first_entry ∷ []) cut_second) → ⊥
  pub unlisted :
      KeepsJournal three_slots [] (starts_over (first_entry ∷ second_entry ∷ []) (Power ∷ listed_first)) → ⊥
  pub bare : KeepsJournal three_slots [] (starts_over ((0, report (65 ∷ [])) ∷ []) cut_second) → ⊥
  pub anew : KeepsJournal three_slots [] (lists 0 second_record (starts_over (first_entry ∷ []) cut_second)) → ⊥
  pub at_once : KeepsJournal three_slots [] (Listing 2 listed_report ∷ Listing 1 second_record ∷ listed_first) → ⊥
  pub full : KeepsJournal three_slots [] (Listing 3 second_record ∷ filled) → ⊥
  pub unheld : KeepsJournal three_slots [] (starts_over (first_entry ∷ []) []) → ⊥
