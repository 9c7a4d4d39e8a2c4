-- Which command the words after the program's name are (this profile).
use Rattle.std.specs.Prelude.{ℕ, ◌≡◌, ◌≢◌, Bool, false, List, [], ◌∷◌, codes, bytes_eq, Option, Some, None, Result, Ok, Err, if◌then◌else◌}
use Rattle.std.specs.Option.{option_and_then, option_map, option_map_or, option_zip}
use Rattle.clap.specs.Walk.{is_empty, rows_of}
use Rattle.clap.specs.Words.{Kinds, Row, Text, fault_of, first_of, found_of, matches_of}
use Rattle.clap.specs.declared.parser.matches.ArgMatches.{ArgMatches}
use Rattle.command_words.specs.Asked.{Asked, asked_by, Drop as AskedDrop, Equipment as AskedEquipment, Format as AskedFormat, Host as AskedHost, JournalHost, JournalReplay, Make as AskedMake, Replay as AskedReplay, Show as AskedShow, Spell as AskedSpell, SpellHex as AskedSpellHex, Spool as AskedSpool}
use Rattle.command_words.specs.Forms.{app_for}
use Rattle.command_words.specs.Numbers.{number_in}
use Rattle.command_words.specs.declared.command.Command.{Command}
use Rattle.command_words.specs.declared.command.WordsFault.{WordsFault}
use Rattle.command_words.specs.declared.command.WordsFault.TheVariants.{Usage, NoMemory}
use Rattle.command_words.specs.declared.names.Name.{Name}
use Rattle.command_words.specs.declared.names.Name.TheVariants.{Show, Spell, Replay, Equipment, Host, Format, Spool, Drop, Make}

-- the name that a word is, spelled exactly so
abbrev pub name_of : Text → Option Name
name_of word =
    if bytes_eq word (codes "show") then Some Show
    else if bytes_eq word (codes "spell") then Some Spell
    else if bytes_eq word (codes "replay") then Some Replay
    else if bytes_eq word (codes "equipment") then Some Equipment
    else if bytes_eq word (codes "host") then Some Host
    else if bytes_eq word (codes "format") then Some Format
    else if bytes_eq word (codes "spool") then Some Spool
    else if bytes_eq word (codes "drop") then Some Drop
    else if bytes_eq word (codes "make") then Some Make else None

-- why `clap` refuses the words behind a name: nothing, where it takes them
unfoldable pub refusals : Name → List Text → Kinds
refusals name words = fault_of (app_for name) words

-- what `clap` finds in them
unfoldable pub found_in : Name → List Text → List Row
found_in name words = matches_of (app_for name) words

abbrev pub is_set : Text → List Row → Bool
is_set id rows = option_map_or (λ text. bytes_eq text (codes "true")) (first_of id rows) false

-- how many polls are made at most: 1,000,000 where nothing is said of it
abbrev pub polls_in : List Row → Option ℕ
polls_in rows = option_map_or (number_in 1 4294967295) (first_of (codes "polls") rows) (Some 1000000)

-- a replay, over a journal of so many slots where they are said; none where that number is out of its range
abbrev pub replay_of : Text → Text → Option Text → Option Asked
replay_of plan schedule None = Some (AskedReplay plan schedule)
replay_of plan schedule (Some slots) = option_map (JournalReplay plan schedule) (number_in 1 1024 slots)

-- a host, with a journal where its file is said
abbrev pub host_of : Text → Text → ℕ → Option Text → Asked
host_of plan address polls None = AskedHost plan address polls
host_of plan address polls (Some journal) = JournalHost plan address journal polls

-- the command that a name is with what was found; none where a number is out of its range
abbrev pub meant_by : Name → List Row → Option Asked
meant_by Show rows = Some AskedShow
meant_by Spell rows = Some (if is_set (codes "hex") rows then AskedSpellHex else AskedSpell)
meant_by Replay rows =
    option_and_then (λ files. replay_of files.0 files.1 (first_of (codes "journal") rows))
    (option_zip (first_of (codes "PLAN") rows) (first_of (codes "SCHEDULE") rows))
meant_by Equipment rows =
    option_map (λ parts. AskedEquipment parts.0 parts.1.0 parts.1.1.0 parts.1.1.1)
    (option_zip (first_of (codes "PLAN") rows) (option_zip (first_of (codes "ADDRESS") rows)
    (option_zip (first_of (codes "SPOOL") rows) (polls_in rows))))
meant_by Host rows =
    option_map (λ parts. host_of parts.0 parts.1.0 parts.1.1 (first_of (codes "journal") rows))
    (option_zip (first_of (codes "PLAN") rows) (option_zip (first_of (codes "ADDRESS") rows) (polls_in rows)))
meant_by Format rows =
    option_map (λ parts. AskedFormat parts.0 parts.1)
    (option_zip (first_of (codes "SPOOL") rows)
    (option_and_then (number_in 1 65535) (first_of (codes "SLOTS") rows)))
meant_by Spool rows = option_map AskedSpool (first_of (codes "SPOOL") rows)
meant_by Drop rows =
    option_map (λ parts. AskedDrop parts.0 parts.1)
    (option_zip (first_of (codes "SPOOL") rows)
    (option_and_then (number_in 1 65535) (first_of (codes "N") rows)))
meant_by Make rows = option_map AskedMake (option_and_then (number_in 1 10000) (first_of (codes "N") rows))

-- the command of a name and the words behind it
abbrev pub asked_behind : Name → List Text → Option Asked
asked_behind name words = if is_empty (refusals name words) then meant_by name (found_in name words) else None

-- the command of all words: the first is a name, and the rest goes to the simple `clap` command of that name
abbrev pub asked_of : List Text → Option Asked
asked_of [] = None
asked_of (word ∷ words) = option_and_then (λ name. asked_behind name words) (name_of word)

-- what is answered of words: their command, usage exactly where they are none's, or memory ran out
abbrev pub Answers : Option Asked → Result Command WordsFault → Type 0
Answers asked (Ok command) = asked ≡ Some (asked_by command)
Answers asked (Err Usage) = asked ≡ None
Answers asked (Err NoMemory) = Unit {0}

-- what a parse answers, of a command that refuses by these kinds and else finds these rows
abbrev pub IsParse : Kinds → List Row → Result ArgMatches WordsFault → Type 0
IsParse kinds rows (Ok matches) = (kinds ≡ []) × (rows_of (found_of matches) ≡ rows)
IsParse kinds rows (Err Usage) = kinds ≢ []
IsParse kinds rows (Err NoMemory) = Unit {0}
