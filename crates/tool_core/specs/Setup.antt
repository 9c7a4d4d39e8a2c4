-- What the code says of the setup that it keeps.
use Rattle.std.specs.Prelude.{◌≡◌, Bool, true, false, List, [], ◌∷◌, Option, Some, None, if◌then◌else◌}
use Rattle.message_flow.specs.declared.step.Note.{Note}
use Rattle.trace_log.specs.Log.Happening.{Refused}
use Rattle.trace_log.specs.Text.{note_of}
use Rattle.setup_store.specs.Entries.{Entry, bytes_of, has_room}
use Rattle.tool_core.specs.declared.setup.NextSetup.{NextSetup}
use Rattle.tool_core.specs.declared.setup.NextSetup.TheVariants as next

-- what is to be kept behind a request: nothing else than before, a list, or one for which there is no room
abbrev pub IsNext : Option (List Entry) → NextSetup → Type 0
IsNext list next.Same = list ≡ None
IsNext list (next.Kept kept) = (list ≡ Some kept) × (has_room (bytes_of kept) ≡ true)
IsNext list next.Over = (over : List Entry) × (list ≡ Some over) × (has_room (bytes_of over) ≡ false)

-- what is printed of an entry that is carried out, or refused
abbrev pub refused_notes : Bool → List Note
refused_notes accepted = if accepted then [] else note_of Refused ∷ []
