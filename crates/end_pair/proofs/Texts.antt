-- The text of a step.
use Rattle.std.proofs.Common.{◌≡◌, ℕ, List, [], ◌++◌, take, drop, Result, Ok, Err, OnErr, sym, ap, ◌∙◌}
use Rattle.std.specs.List.{flat_map}
use Rattle.std.proofs.lemmas.Grind.{flat_map-append}
use Rattle.std.proofs.lemmas.List.{take-append-drop}
use Rattle.std.proofs.lemmas.List.Elements.{filter_map-append}
use Rattle.gl_base.specs.declared.side.Side.{Side}
use Rattle.gl_base.specs.declared.side.Side.TheVariants.{Equipment, Host}
use Rattle.message_flow.specs.declared.step.Note.{Note}
use Rattle.message_end.specs.Ends.{printed, wrote}
use Rattle.trace_log.specs.Laws.{NotesAreLines, log_with}
use Rattle.trace_log.specs.Log.{Happening}
use Rattle.trace_log.specs.Text.{note_line, printed_note, text_of}
use Rattle.end_pair.specs.Kept.{PutPart}
use Rattle.end_pair.specs.Steps.{entries_of}
use Rattle.end_pair.proofs.DoingMoves.{log_with-behind}
use Rattle.message_end.proofs.LogText.{text_of-append}

-- the lines of notes are those of the entries
pub noted_text : NotesAreLines → (side : Side) (now : ℕ) (noted : List Happening)
    → text_of (entries_of side now noted) ≡ flat_map (note_line now side) (printed noted)
noted_text law side now noted = law now side noted []

-- so are those of notes and characters
pub step_text : NotesAreLines → (side : Side) (now : ℕ) (noted : List Happening) (written : List ℕ)
    → text_of (entries_of side now (noted ++ wrote written))
    ≡ flat_map (note_line now side) (printed noted) ++ flat_map (note_line now side) (printed (wrote written))
step_text law side now noted written =
    noted_text law side now (noted ++ wrote written)
    ∙ ap (flat_map (note_line now side)) (filter_map-append printed_note noted (wrote written))
    ∙ flat_map-append (note_line now side) (printed noted) (printed (wrote written))

pub on_err : {A E P : Type 0} (result : Result A E) → P → OnErr result P
on_err (Ok value) holds = tt
on_err (Err error) holds = holds

-- so many notes are a part
pub notes_part : (side : Side) (now : ℕ) (notes : List Note) (i : ℕ) (old lines : List ℕ)
    → lines ≡ old ++ flat_map (note_line now side) (take i notes)
    → PutPart (flat_map (note_line now side) notes) old lines
notes_part side now notes i old lines is = record {
  front = flat_map (note_line now side) (take i notes);
  rest = flat_map (note_line now side) (drop i notes);
  whole =
      ap (flat_map (note_line now side)) (sym (take-append-drop i notes))
      ∙ flat_map-append (note_line now side) (take i notes) (drop i notes);
  lines = is;
}

-- the text of both starts
pub start_text : (equipment host : List Happening)
    → text_of (log_with 0 Host host (log_with 0 Equipment equipment []))
    ≡ text_of (entries_of Equipment 0 equipment) ++ text_of (entries_of Host 0 host)
start_text equipment host =
    ap text_of (log_with-behind 0 Host host [] (log_with 0 Equipment equipment []))
    ∙ text_of-append (entries_of Host 0 host) (entries_of Equipment 0 equipment)
