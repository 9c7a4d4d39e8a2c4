-- How the lines of a trace are counted as they come.
use Rattle.std.specs.Prelude.{◌+◌, ℕ, Bool, List, [], ◌∷◌, if◌then◌else◌}
use Rattle.line_schedule.specs.Lines.{lines_of}
use Rattle.line_world.specs.Make.{is_equipment_received, is_gone, is_host_received, is_report, is_start, is_stored}
use Rattle.line_world.specs.declared.counting.Counts.{Counts}

abbrev pub no_lines : Counts
no_lines = record { equipment_received = 0; host_received = 0; reports = 0; stored = 0; gone = 0; starts = 0 }

abbrev pub one_more : Bool → ℕ → ℕ
one_more is count = count + (if is then 1 else 0)

abbrev pub with_line : Counts → List ℕ → Counts
with_line counts line = record {
  equipment_received = one_more (is_equipment_received line) counts.equipment_received;
  host_received = one_more (is_host_received line) counts.host_received;
  reports = one_more (is_report line) counts.reports;
  stored = one_more (is_stored line) counts.stored;
  gone = one_more (is_gone line) counts.gone;
  starts = one_more (is_start line) counts.starts;
}

abbrev pub with_lines : Counts → List (List ℕ) → Counts
with_lines counts [] = counts
with_lines counts (line ∷ lines) = with_lines (with_line counts line) lines

-- of all lines of a text
abbrev pub counts_of : List ℕ → Counts
counts_of text = with_lines no_lines (lines_of text)
