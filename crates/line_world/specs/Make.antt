-- The schedule that is made of so many rounds, and the summary of its trace (this profile).
use Rattle.std.specs.Prelude.{◌+◌, ◌*◌, ◌/◌, ◌%◌, ◌^◌, ◌==◌, ◌&&◌, zero, suc, ℕ, Bool, true, List, [], ◌∷◌, ◌++◌, take, drop, bytes_eq, codes, decimal, count_by, Option, Some, None, if◌then◌else◌}
use Rattle.std.specs.List.{position}
use Rattle.disk_base.specs.declared.cut.CutChoice.TheVariants.{Old}
use Rattle.gl_base.specs.declared.side.Side.TheVariants.{Host}
use Rattle.line_schedule.specs.declared.event.Event.{Event}
use Rattle.line_schedule.specs.declared.event.Event.TheVariants as event
use Rattle.line_schedule.specs.declared.schedule.Schedule.{Schedule}
use Rattle.line_schedule.specs.Lines.{lines_of}
use Rattle.secs_items.specs.declared.item.Item.{Item}
use Rattle.secs_items.specs.declared.item.Item.TheVariants as item
use Rattle.secs_items.specs.Spelling.{shortest_spelling}
use Rattle.trace_log.specs.declared.commands.HostCommand.TheVariants as host
use Rattle.trace_log.specs.declared.commands.ToolCommand.TheVariants as tool

-- ---- the numbers of the rounds

-- each is made of the one before it, the first one of how many rounds there are
abbrev pub next_number : ℕ → ℕ
next_number x = (1103515245 * x + 12345) % 2 ^ 31

abbrev pub kind_of_round : ℕ → ℕ
kind_of_round x = (x / 65536) % 8

-- so many, the first one first
abbrev pub numbers_behind : ℕ → ℕ → List ℕ
numbers_behind zero x = []
numbers_behind (suc n) x = next_number x ∷ numbers_behind n (next_number x)

-- ---- the lines

-- the host asks this of a stream, and all settles
abbrev pub asks_for : (stream function : ℕ) → Item → List Event
asks_for stream function body =
    event.Host (host.Send stream function true (shortest_spelling body)) ∷ event.Settle ∷ []

abbrev pub one_u4 : ℕ → Item
one_u4 x = item.U4 (x ∷ [])

-- a list of one list of a number and a list of another: report 10 holds variable 1, event 1 has report 10
abbrev pub pairs_of : (dataid one other : ℕ) → Item
pairs_of dataid one other =
    item.L (one_u4 dataid ∷ item.L (item.L (one_u4 one ∷ item.L (one_u4 other ∷ []) ∷ []) ∷ []) ∷ [])

-- all events are enabled; all of the spool is to be sent
abbrev pub enables_all : Item
enables_all = item.L (item.Bool (1 ∷ []) ∷ item.L [] ∷ [])

abbrev pub sends_all : Item
sends_all = item.U1 (0 ∷ [])

-- S2F33, S2F35 and S2F37 (SEMI E30, event data collection)
abbrev pub defines_its_report : List Event
defines_its_report =
    asks_for 2 33 (pairs_of 1 10 1) ++ asks_for 2 35 (pairs_of 2 1 10)
    ++ asks_for 2 37 enables_all

abbrev pub has_event : Event
has_event = event.Tool (tool.Event 1)

-- a try of the line that finds nobody
abbrev pub unheard : List Event
unheard = event.Lose Host 64 ∷ event.Wait 10000 ∷ []

abbrev pub sets_and_tells : ℕ → List Event
sets_and_tells x = event.Tool (tool.Set 1 (one_u4 x)) ∷ has_event ∷ event.Settle ∷ []

abbrev pub loses_one : List Event
loses_one = has_event ∷ event.Lose Host 1 ∷ event.Wait 10000 ∷ event.Settle ∷ []

abbrev pub finds_nobody : List Event
finds_nobody = (has_event ∷ unheard) ++ unheard ++ unheard ++ unheard ++ event.Settle ∷ []

-- power is lost behind the event, whose report is on its way
abbrev pub loses_power : List Event
loses_power = (has_event ∷ event.Cut 1 Old ∷ event.Wait 0 ∷ event.Settle ∷ []) ++ defines_its_report

abbrev pub unloads : List Event
unloads = asks_for 6 23 sends_all

abbrev pub round_by : ℕ → ℕ → List Event
round_by x kind =
    if kind == 4 then loses_one
    else if kind == 5 then finds_nobody
    else if kind == 6 then loses_power
    else if kind == 7 then unloads else sets_and_tells x

abbrev pub round_of : ℕ → List Event
round_of x = round_by x (kind_of_round x)

abbrev pub rounds_of : List ℕ → List Event
rounds_of [] = []
rounds_of (x ∷ numbers) = round_of x ++ rounds_of numbers

-- of so many rounds
abbrev pub first_events : List Event
first_events = event.Settle ∷ defines_its_report

abbrev pub make_events : ℕ → List Event
make_events rounds = first_events ++ rounds_of (numbers_behind rounds rounds)

abbrev pub make_schedule : ℕ → Schedule
make_schedule rounds = record { events = make_events rounds }

-- ---- the lines of a trace

-- what stands in a line before its first blank, and behind that
abbrev pub blank_in : List ℕ → Option ℕ
blank_in = position (λ b. b == 32)

abbrev pub before_place : Option ℕ → List ℕ → List ℕ
before_place (Some at) line = take at line
before_place None line = line

abbrev pub behind_place : Option ℕ → List ℕ → List ℕ
behind_place (Some at) line = drop (at + 1) line
behind_place None line = []

abbrev pub first_word : List ℕ → List ℕ
first_word line = before_place (blank_in line) line

abbrev pub behind_word : List ℕ → List ℕ
behind_word line = behind_place (blank_in line) line

-- its words are told from 0 on: the moment, the end, and what that has noted
abbrev pub word_at : ℕ → List ℕ → List ℕ
word_at zero line = first_word line
word_at (suc n) line = word_at n (behind_word line)

abbrev pub is_noted : (end what : List ℕ) → List ℕ → Bool
is_noted end what line = bytes_eq (word_at 1 line) end && bytes_eq (word_at 2 line) what

abbrev pub is_equipment_received : List ℕ → Bool
is_equipment_received = is_noted (codes "E") (codes "rx")

abbrev pub is_host_received : List ℕ → Bool
is_host_received = is_noted (codes "H") (codes "rx")

-- an S6F11 that the host receives
abbrev pub is_report : List ℕ → Bool
is_report line = is_host_received line && bytes_eq (word_at 3 line) (codes "S6F11")

abbrev pub is_stored : List ℕ → Bool
is_stored = is_noted (codes "E") (codes "stored")

abbrev pub is_gone : List ℕ → Bool
is_gone = is_noted (codes "E") (codes "gone")

-- a start of the equipment: the host's starts don't count
abbrev pub is_start : List ℕ → Bool
is_start = is_noted (codes "E") (codes "start")

-- ---- the summary

-- how many lines of a text are such
abbrev pub count_of : (List ℕ → Bool) → List ℕ → ℕ
count_of is text = count_by is (lines_of text)

abbrev pub counted : List ℕ → ℕ → List ℕ
counted name count = name ++ decimal count

-- what is written of so many rounds with this trace
abbrev pub summary_of : ℕ → List ℕ → List ℕ
summary_of rounds text =
    counted (codes "rounds ") rounds
    ++ counted (codes "\nrx E ") (count_of is_equipment_received text)
    ++ counted (codes " H ") (count_of is_host_received text)
    ++ counted (codes "\nreports ") (count_of is_report text)
    ++ counted (codes "\nstored ") (count_of is_stored text)
    ++ counted (codes "\ngone ") (count_of is_gone text)
    ++ counted (codes "\nstarts ") (count_of is_start text)
    ++ codes "\n"
