-- The commands of both ends, found by functions that compute (this profile).
use Rattle.std.specs.Prelude.{ℕ, ◌%◌, ◌==◌, Bool, true, false, List, codes, Option, Some, None, if◌then◌else◌}
use Rattle.std.specs.Option.{option_and_then, option_map, option_or}
use Rattle.trace_log.specs.declared.commands.HostCommand.{HostCommand}
use Rattle.trace_log.specs.declared.commands.HostCommand.TheVariants as host
use Rattle.trace_log.specs.declared.commands.ToolCommand.{ToolCommand}
use Rattle.trace_log.specs.declared.commands.ToolCommand.TheVariants as tool
use Rattle.line_schedule.specs.Items.{body_in, item_in, text_in}
use Rattle.line_schedule.specs.Words.{any_number_in, number_in, read_after, read_split, word_in}

-- ---- the tool

abbrev pub bare_tool_command_in : List ℕ → Option ToolCommand
bare_tool_command_in text =
    option_or (word_in (codes "enable") tool.Enable text)
    (option_or (word_in (codes "disable") tool.Disable text)
    (option_or (word_in (codes "online") tool.Online text)
    (option_or (word_in (codes "offline") tool.Offline text)
    (option_or (word_in (codes "local") tool.Local text) (word_in (codes "remote") tool.Remote text)))))

abbrev pub tool_event_in : List ℕ → Option ToolCommand
tool_event_in text = option_map (λ ceid. tool.Event ceid) (read_after (codes "event ") any_number_in text)

-- whether an alarm is set
abbrev pub alarm_state_in : List ℕ → Option Bool
alarm_state_in text = option_or (word_in (codes "set") true text) (word_in (codes "clear") false text)

abbrev pub alarm_in : List ℕ → Option ToolCommand
alarm_in text =
    option_map (λ x. tool.Alarm x.0 x.1)
    (read_after (codes "alarm ") (read_split 32 any_number_in alarm_state_in) text)

abbrev pub setting_in : List ℕ → Option ToolCommand
setting_in text =
    option_map (λ x. tool.Set x.0 x.1) (read_after (codes "set ") (read_split 32 any_number_in item_in) text)

abbrev pub terminal_in : List ℕ → Option ToolCommand
terminal_in text =
    option_map (λ x. tool.Terminal x.0 x.1)
    (read_after (codes "terminal ") (read_split 32 (number_in 0 255) text_in) text)

-- a command without an item
abbrev pub plain_tool_command_in : List ℕ → Option ToolCommand
plain_tool_command_in text =
    option_or (bare_tool_command_in text) (option_or (tool_event_in text) (alarm_in text))

abbrev pub tool_command_in : List ℕ → Option ToolCommand
tool_command_in text =
    option_or (plain_tool_command_in text) (option_or (setting_in text) (terminal_in text))

-- ---- the host

-- an odd number, as those of primary messages are
abbrev pub if_odd : ℕ → Option ℕ
if_odd n = if n % 2 == 1 then Some n else None

abbrev pub function_in : List ℕ → Option ℕ
function_in text = option_and_then if_odd (number_in 0 255 text)

-- stream and function of SxFy
abbrev pub message_name_in : List ℕ → Option (ℕ × ℕ)
message_name_in = read_after (codes "S") (read_split 70 (number_in 1 127) function_in)

-- whether the W bit is set, and the body
abbrev pub wait_and_body_in : List ℕ → Option (Bool × List ℕ)
wait_and_body_in text =
    option_or (option_map (λ body. (false, body)) (body_in text))
    (option_map (λ body. (true, body)) (read_after (codes "W ") body_in text))

abbrev pub sending_in : List ℕ → Option HostCommand
sending_in text =
    option_map (λ x. host.Send x.0.0 x.0.1 x.1.0 x.1.1)
    (read_after (codes "send ") (read_split 32 message_name_in wait_and_body_in) text)

abbrev pub host_command_in : List ℕ → Option HostCommand
host_command_in text =
    option_or (word_in (codes "enable") host.Enable text)
    (option_or (word_in (codes "disable") host.Disable text) (sending_in text))
