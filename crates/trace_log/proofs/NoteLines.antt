-- The lines of what an end has noted.
use Rattle.std.proofs.Common.{◌≡◌, ℕ, List, [], ◌∷◌, ◌++◌, Option, Some, None, sym, refl, ap, ◌∙◌, append_assoc, append-nil}
use Rattle.std.specs.List.{cons_option, filter_map, flat_map}
use Rattle.std.specs.Option.{option_map_or}
use Rattle.gl_base.specs.declared.side.Side.{Side}
use Rattle.message_flow.specs.declared.step.Note.{Note}
use Rattle.trace_log.specs.Log.Entry.{Noted}
use Rattle.trace_log.specs.Laws.{NotesAreLines}
use Rattle.trace_log.specs.Text.{entry_text, note_line, printed_note, text_of}

-- the line of one thing noted, and those of the notes behind it
one_more : (moment : ℕ) (side : Side) (note : Option Note) (rest : List Note)
    → option_map_or (note_line moment side) note [] ++ flat_map (note_line moment side) rest
    ≡ flat_map (note_line moment side) (cons_option note rest)
one_more moment side None rest = refl
one_more moment side (Some note) rest = refl

pub notes_are_lines : NotesAreLines
notes_are_lines moment side [] log = sym (append-nil (text_of log))
notes_are_lines moment side (what ∷ rest) log =
    let lines : List ℕ = flat_map (note_line moment side) (filter_map printed_note rest) in
    notes_are_lines moment side rest (Noted moment side what ∷ log)
    ∙ append_assoc (text_of log) (entry_text (Noted moment side what)) lines
    ∙ ap (λ (t : List ℕ). text_of log ++ t) (one_more moment side (printed_note what) (filter_map printed_note rest))
