-- What holds of all logs.
use Rattle.std.specs.Prelude.{◌≡◌, ℕ, List, [], ◌∷◌, ◌++◌}
use Rattle.std.specs.List.{filter_map, flat_map}
use Rattle.gl_base.specs.declared.side.Side.{Side}
use Rattle.trace_log.specs.Log.{Entry, Happening}
use Rattle.trace_log.specs.Log.Entry.{Noted}
use Rattle.trace_log.specs.Text.{note_line, printed_note, text_of}

-- the log after an end has noted these, the oldest first, at one moment
abbrev pub log_with : ℕ → Side → List Happening → List Entry → List Entry
log_with moment side [] log = log
log_with moment side (what ∷ rest) log = log_with moment side rest (Noted moment side what ∷ log)

-- the lines of what an end has noted are those of its notes, one after another, whatever is recorded between them
abbrev pub NotesAreLines : Type 0
NotesAreLines =
    (moment : ℕ) (side : Side) (noted : List Happening) (log : List Entry)
    → text_of (log_with moment side noted log)
    ≡ text_of log ++ flat_map (note_line moment side) (filter_map printed_note noted)
