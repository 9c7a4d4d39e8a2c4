-- What the words after the program's name ask for.
use Rattle.std.specs.Prelude.{◌≤◌, ℕ, List}
use Rattle.command_words.specs.declared.command.Command.{Command}
use Rattle.command_words.specs.declared.command.Command.TheVariants as command

-- a command, with the texts that it needs of its words
pub data Asked : Type 0 where
  Show : Asked
  Spell : Asked
  SpellHex : Asked
  Replay : (plan schedule : List ℕ) → Asked
  JournalReplay : (plan schedule : List ℕ) (slots : ℕ) → Asked
  Equipment : (plan address spool : List ℕ) (polls : ℕ) → Asked
  Host : (plan address : List ℕ) (polls : ℕ) → Asked
  JournalHost : (plan address journal : List ℕ) (polls : ℕ) → Asked
  Format : (spool : List ℕ) (slots : ℕ) → Asked
  Spool : (spool : List ℕ) → Asked
  Drop : (spool : List ℕ) (count : ℕ) → Asked
  Make : (rounds : ℕ) → Asked

-- what a command asks for
abbrev pub asked_by : Command → Asked
asked_by command.Show = Show
asked_by command.Spell = Spell
asked_by command.SpellHex = SpellHex
asked_by (command.Replay plan schedule) = Replay plan.now schedule.now
asked_by (command.JournalReplay plan schedule slots) = JournalReplay plan.now schedule.now slots
asked_by (command.Equipment plan address spool polls) = Equipment plan.now address.now spool.now polls
asked_by (command.Host plan address polls) = Host plan.now address.now polls
asked_by (command.JournalHost plan address journal polls) = JournalHost plan.now address.now journal.now polls
asked_by (command.Format spool slots) = Format spool.now slots
asked_by (command.Spool spool) = Spool spool.now
asked_by (command.Drop spool count) = Drop spool.now count
asked_by (command.Make rounds) = Make rounds

-- the numbers of a command are in their ranges
abbrev pub IsInRange : Asked → Type 0
IsInRange (JournalReplay plan schedule slots) = (1 ≤ slots) × (slots ≤ 1024)
IsInRange (Equipment plan address spool polls) = (1 ≤ polls) × (polls ≤ 4294967295)
IsInRange (Host plan address polls) = (1 ≤ polls) × (polls ≤ 4294967295)
IsInRange (JournalHost plan address journal polls) = (1 ≤ polls) × (polls ≤ 4294967295)
IsInRange (Format spool slots) = (1 ≤ slots) × (slots ≤ 65535)
IsInRange (Drop spool count) = (1 ≤ count) × (count ≤ 65535)
IsInRange (Make rounds) = (1 ≤ rounds) × (rounds ≤ 10000)
IsInRange _ = Unit {0}
