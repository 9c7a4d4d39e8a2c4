-- What a start finds in a file: its messages, each with its number.
use Rattle.std.specs.Prelude.{ℕ, List, map}
use Rattle.spool_file.specs.Area.{first_of}
use Rattle.spool_file.specs.File.{SpoolFile}
use Rattle.spool_file.specs.Slot.{Message}
use Rattle.trace_log.specs.Names.{Spooled}

-- a message of the file
abbrev pub spooled_of : Message → Spooled
spooled_of message = record { stream = message.stream; function = message.function; body = message.body }

-- the number of the oldest message; where there is none, the floor, which is the next number then
abbrev pub first_in : SpoolFile → ℕ
first_in file = first_of file.floor.value file.list

-- what is found, each message with its number
abbrev pub found_in : List Message → List (ℕ × Spooled)
found_in list = map (λ message. (message.number, spooled_of message)) list
