-- The events that lines of a schedule tell, found by functions that compute; their ranges (this profile).
use Rattle.std.specs.Prelude.{◌≡◌, ℕ, ◌-◌, ◌^◌, ◌<◌, ◌≤◌, Bool, true, List, codes, Option}
use Rattle.std.specs.Option.{option_map, option_or}
use Rattle.disk_base.specs.declared.cut.CutChoice.{CutChoice}
use Rattle.disk_base.specs.declared.cut.CutChoice.TheVariants as choice
use Rattle.trace_log.specs.Commands.{HostCommandFits, ToolCommandFits}
use Rattle.line_schedule.specs.declared.event.Event.{Event}
use Rattle.line_schedule.specs.declared.event.Event.TheVariants as event
use Rattle.line_schedule.specs.Commands.{host_command_in, tool_command_in}
use Rattle.line_schedule.specs.Words.{any_number_in, byte_in, number_in, read_after, read_side, read_split, word_in}

-- ---- the line and the clock

abbrev pub to_in : List ℕ → Option Event
to_in line = option_map (λ x. event.To x.0 x.1) (read_after (codes "to ") (read_side any_number_in) line)

abbrev pub lose_in : List ℕ → Option Event
lose_in line = option_map (λ x. event.Lose x.0 x.1) (read_after (codes "lose ") (read_side any_number_in) line)

abbrev pub change_in : List ℕ → Option Event
change_in line =
    option_map (λ x. event.Change x.0 x.1.0 x.1.1)
    (read_after (codes "change ") (read_side (read_split 32 any_number_in byte_in)) line)

abbrev pub add_in : List ℕ → Option Event
add_in line = option_map (λ x. event.Add x.0 x.1) (read_after (codes "add ") (read_side byte_in) line)

abbrev pub settle_in : List ℕ → Option Event
settle_in = word_in (codes "settle") event.Settle

abbrev pub wait_in : List ℕ → Option Event
wait_in line = option_map (λ ms. event.Wait ms) (read_after (codes "wait ") (number_in 0 1000000) line)

-- ---- the power

abbrev pub fill_in : List ℕ → Option CutChoice
fill_in text = option_map (λ byte. choice.Fill byte) (read_after (codes "fill ") byte_in text)

abbrev pub first_in : List ℕ → Option CutChoice
first_in text = option_map (λ n. choice.First n) (read_after (codes "first ") any_number_in text)

-- what becomes of the disk
abbrev pub choice_in : List ℕ → Option CutChoice
choice_in text =
    option_or (word_in (codes "old") choice.Old text)
    (option_or (word_in (codes "new") choice.New text) (option_or (fill_in text) (first_in text)))

-- the disk call at which power goes, and what that leaves
abbrev pub loss_in : List ℕ → Option (ℕ × CutChoice)
loss_in = read_split 32 (number_in 1 (2 ^ 32 - 1)) choice_in

abbrev pub cut_in : List ℕ → Option Event
cut_in line = option_map (λ x. event.Cut x.0 x.1) (read_after (codes "cut ") loss_in line)

abbrev pub host_cut_in : List ℕ → Option Event
host_cut_in line = option_map (λ x. event.HostCut x.0 x.1) (read_after (codes "hcut ") loss_in line)

-- an event that is no command of an end
abbrev pub line_event_in : List ℕ → Option Event
line_event_in line =
    option_or (to_in line) (option_or (settle_in line) (option_or (wait_in line)
    (option_or (lose_in line) (option_or (change_in line) (option_or (add_in line)
    (option_or (cut_in line) (host_cut_in line)))))))

-- ---- the ends

abbrev pub tool_in : List ℕ → Option Event
tool_in line = option_map (λ command. event.Tool command) (read_after (codes "tool ") tool_command_in line)

abbrev pub host_in : List ℕ → Option Event
host_in line = option_map (λ command. event.Host command) (read_after (codes "host ") host_command_in line)

-- the event that a line tells
abbrev pub event_in : List ℕ → Option Event
event_in line = option_or (line_event_in line) (option_or (tool_in line) (host_in line))

-- ---- ranges

-- so many of the written places, where the disk keeps what was written there
abbrev pub ChoiceFits : CutChoice → Type 0
ChoiceFits (choice.First n) = n ≤ 2 ^ 32 - 1
ChoiceFits _ = Unit {0}

-- the clock moves by 1,000 seconds at most, characters are bytes, and disk calls are counted from 1
abbrev pub EventFits : Event → Type 0
EventFits (event.Change side place byte) = byte < 256
EventFits (event.Add side byte) = byte < 256
EventFits (event.Wait ms) = ms ≤ 1000000
EventFits (event.Tool command) = ToolCommandFits command
EventFits (event.Host command) = HostCommandFits command
EventFits (event.Cut call choice) = (1 ≤ call) × ChoiceFits choice
EventFits (event.HostCut call choice) = (1 ≤ call) × ChoiceFits choice
EventFits _ = Unit {0}

-- ---- whose power may be lost

-- the equipment's always, the host's where it has a disk of its own
abbrev pub may_stand : (host_loses : Bool) → Event → Bool
may_stand host_loses (event.HostCut call choice) = host_loses
may_stand host_loses _ = true

abbrev pub EventFitsIn : (host_loses : Bool) → Event → Type 0
EventFitsIn host_loses event = (may_stand host_loses event ≡ true) × EventFits event
