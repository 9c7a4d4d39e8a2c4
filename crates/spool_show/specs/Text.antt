-- What is written about a spool file (this profile).
use Rattle.std.specs.Prelude.{ℕ, true, List, ◌++◌, length, take, drop, codes, decimal}
use Rattle.std.specs.List.{flat_map}
use Rattle.short_text.specs.Name.{name_of}
use Rattle.spool_file.specs.File.{SpoolFile}
use Rattle.spool_file.specs.Setup.{area_end}
use Rattle.spool_file.specs.Slot.{Message}
use Rattle.spool_file.specs.declared.slot.SlotHead.{SlotHead}
use Rattle.trace_log.specs.Text.{body_text}

-- a word, and a number behind it
abbrev pub count_text : List ℕ → ℕ → List ℕ
count_text word number = word ++ decimal number

-- how many slots there are, the mark, and how many messages
abbrev pub head_line : ℕ → ℕ → ℕ → List ℕ
head_line slots mark len =
    count_text (codes "spool slots=") slots ++ count_text (codes " mark=") mark ++ count_text (codes " len=") len
    ++ codes "\n"

-- a message of the list: its number, its name, whose W bit counts as set, and its body as in a trace
abbrev pub message_line : Message → List ℕ
message_line message =
    decimal message.number ++ codes " " ++ name_of message.stream message.function true ++ codes " "
    ++ body_text message.body ++ codes "\n"

-- of the bytes of a slot, those of a body of which so many bytes are left
abbrev pub piece_in : (left : ℕ) → List ℕ → List ℕ
piece_in left slot = take left (drop 15 slot)

-- the line of a message up to where its body goes on in further slots, by its head and the bytes of its first slot
abbrev pub start_text : SlotHead → List ℕ → List ℕ
start_text head slot =
    decimal head.number ++ codes " " ++ name_of head.stream head.function true ++ codes " "
    ++ body_text (piece_in head.len slot)

abbrev pub message_lines : List Message → List ℕ
message_lines = flat_map message_line

-- what is written of a file
abbrev pub file_text : SpoolFile → List ℕ
file_text file = head_line file.slots file.mark.value (length file.list) ++ message_lines file.list

-- what is written of a new file: how many slots and bytes it takes
abbrev pub formatted_line : ℕ → List ℕ
formatted_line slots =
    count_text (codes "formatted slots=") slots ++ count_text (codes " bytes=") (area_end slots) ++ codes "\n"
