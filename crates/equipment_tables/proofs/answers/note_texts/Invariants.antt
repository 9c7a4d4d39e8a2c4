-- The texts so far are noted.

use Rattle.std.proofs.Common.{◌≡◌, ◌++◌, map, take}
use Rattle.std.specs.List.{filter_map}
use Rattle.trace_log.specs.Log.Happening.{Display}
use Rattle.trace_log.specs.Text.{printed_note}
use Rattle.equipment_tables.proofs.answers.note_texts.Given as goal

abbrev pub invariant-loop-text : goal.invariant-loop-text
invariant-loop-text l =
    l.notes ≡ l.fn.notes ++ filter_map printed_note (map (Display l.tid) (take l.text-index l.texts))
