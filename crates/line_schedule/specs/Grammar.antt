-- Which line means what (this profile).
use Rattle.std.specs.Prelude.{◌≡◌, ◌⊎◌, ℕ, ◌+◌, ◌*◌, ◌-◌, ◌^◌, ◌%◌, ◌≤◌, Bool, true, false, List, [], ◌∷◌, ◌++◌, length, codes, Some, None}
use Rattle.std.specs.Char.{is_ascii_digit}
use Rattle.std.specs.List.{list_all}
use Rattle.disk_base.specs.declared.cut.CutChoice.{CutChoice}
use Rattle.disk_base.specs.declared.cut.CutChoice.TheVariants as choice
use Rattle.gl_base.specs.declared.side.Side.{Side}
use Rattle.gl_base.specs.declared.side.Side.TheVariants as side
use Rattle.gl_base.specs.Side.{side_letter}
use Rattle.hex.specs.Hex.{hex_digit_value}
use Rattle.secs_items.specs.declared.item.Item.{Item}
use Rattle.secs_items.specs.declared.item.Item.TheVariants as item
use Rattle.secs_items.specs.Encoding.{encode_fault}
use Rattle.secs_items.specs.Spelling.{shortest_spelling}
use Rattle.secs_text.specs.Grammar.{ReadsAs}
use Rattle.trace_log.specs.declared.commands.HostCommand.{HostCommand}
use Rattle.trace_log.specs.declared.commands.HostCommand.TheVariants as host
use Rattle.trace_log.specs.declared.commands.ToolCommand.{ToolCommand}
use Rattle.trace_log.specs.declared.commands.ToolCommand.TheVariants as tool
use Rattle.line_schedule.specs.declared.event.Event.{Event}
use Rattle.line_schedule.specs.declared.event.Event.TheVariants as event
use Rattle.line_schedule.specs.declared.script.ScriptStep.{ScriptStep}
use Rattle.line_schedule.specs.declared.script.ScriptStep.TheVariants as step
use Rattle.line_schedule.specs.Words.{value_of}

-- ---- texts

-- these bytes, and then a text of its own kind
abbrev pub After : List ℕ → (List ℕ → Type 0) → List ℕ → Type 0
After front Is text = (rest : List ℕ) × (text ≡ front ++ rest) × Is rest

-- two texts, each of its own kind, with one byte between them
abbrev pub Split : ℕ → (List ℕ → Type 0) → (List ℕ → Type 0) → List ℕ → Type 0
Split separator First Second text =
    (first : List ℕ) × (second : List ℕ) × (text ≡ first ++ separator ∷ second) × First first × Second second

-- with one space between them
abbrev pub Spaced : (List ℕ → Type 0) → (List ℕ → Type 0) → List ℕ → Type 0
Spaced = Split 32

-- this word
abbrev pub IsWord : List ℕ → List ℕ → Type 0
IsWord word text = text ≡ word

-- one to ten decimal digits, which mean a number in a range
pub record IsNumber (least most n : ℕ) (text : List ℕ) : Type 0 where
  pub some : 1 ≤ length text
  pub few : length text ≤ 10
  pub digits : list_all is_ascii_digit text ≡ true
  pub value : value_of text ≡ n
  pub at_least : least ≤ n
  pub at_most : n ≤ most

-- a number of 32 bits
abbrev pub IsAnyNumber : ℕ → List ℕ → Type 0
IsAnyNumber = IsNumber 0 (2 ^ 32 - 1)

-- two hex digits in either case, which mean a byte
pub record IsHexByte (byte : ℕ) (text : List ℕ) : Type 0 where
  pub first : ℕ
  pub second : ℕ
  pub high : ℕ
  pub low : ℕ
  pub digits : text ≡ first ∷ second ∷ []
  pub high_is : hex_digit_value first ≡ Some high
  pub low_is : hex_digit_value second ≡ Some low
  pub value : byte ≡ 16 * high + low

-- the letter of an end, a space, and then a text of its own kind
abbrev pub AfterSide : Side → (List ℕ → Type 0) → List ℕ → Type 0
AfterSide side = After (side_letter side ∷ 32 ∷ [])

-- a text that reads as an item
abbrev pub IsItem : Item → List ℕ → Type 0
IsItem item text = ReadsAs text item

-- a hyphen for no bytes, or an item, whose shortest spelling the bytes are; one too long to be spelled is no body
abbrev pub IsBody : List ℕ → List ℕ → Type 0
IsBody body text =
    ((text ≡ codes "-") × (body ≡ []))
    ⊎ ((item : Item) × IsItem item text × (encode_fault item ≡ None) × (body ≡ shortest_spelling item))

-- ---- commands of the tool

-- `set` or `clear`
abbrev pub IsAlarmState : Bool → List ℕ → Type 0
IsAlarmState true = IsWord (codes "set")
IsAlarmState false = IsWord (codes "clear")

-- `set VID ITEM`, `event CEID`, `alarm ALID set`, `alarm ALID clear`, `terminal TID ITEM` with an A, or one word
abbrev pub IsToolCommand : ToolCommand → List ℕ → Type 0
IsToolCommand (tool.Set vid value) = After (codes "set ") (Spaced (IsAnyNumber vid) (IsItem value))
IsToolCommand (tool.Event ceid) = After (codes "event ") (IsAnyNumber ceid)
IsToolCommand (tool.Alarm alid is_set) = After (codes "alarm ") (Spaced (IsAnyNumber alid) (IsAlarmState is_set))
IsToolCommand tool.Enable = IsWord (codes "enable")
IsToolCommand tool.Disable = IsWord (codes "disable")
IsToolCommand tool.Online = IsWord (codes "online")
IsToolCommand tool.Offline = IsWord (codes "offline")
IsToolCommand tool.Local = IsWord (codes "local")
IsToolCommand tool.Remote = IsWord (codes "remote")
IsToolCommand (tool.Terminal tid text) =
    After (codes "terminal ") (Spaced (IsNumber 0 255 tid) (IsItem (item.A text)))

-- ---- commands of the host

-- the function of a primary message
abbrev pub IsFunction : ℕ → List ℕ → Type 0
IsFunction function text = IsNumber 0 255 function text × (function % 2 ≡ 1)

-- SxFy
abbrev pub IsMessageName : ℕ → ℕ → List ℕ → Type 0
IsMessageName stream function = After (codes "S") (Split 70 (IsNumber 1 127 stream) (IsFunction function))

-- a body, with `W ` in front where the message waits for a reply
abbrev pub IsWaitAndBody : Bool → List ℕ → List ℕ → Type 0
IsWaitAndBody true body = After (codes "W ") (IsBody body)
IsWaitAndBody false body = IsBody body

-- `send SxFy W BODY`, `send SxFy BODY`, or one word
abbrev pub IsHostCommand : HostCommand → List ℕ → Type 0
IsHostCommand (host.Send stream function wait body) =
    After (codes "send ") (Spaced (IsMessageName stream function) (IsWaitAndBody wait body))
IsHostCommand host.Enable = IsWord (codes "enable")
IsHostCommand host.Disable = IsWord (codes "disable")

-- ---- lines of a schedule

-- `old`, `new`, `fill b` or `first n`
abbrev pub IsChoice : CutChoice → List ℕ → Type 0
IsChoice choice.Old = IsWord (codes "old")
IsChoice choice.New = IsWord (codes "new")
IsChoice (choice.Fill byte) = After (codes "fill ") (IsHexByte byte)
IsChoice (choice.First n) = After (codes "first ") (IsAnyNumber n)

-- `k choice`
abbrev pub IsLoss : ℕ → CutChoice → List ℕ → Type 0
IsLoss call choice = Spaced (IsNumber 1 (2 ^ 32 - 1) call) (IsChoice choice)

-- `to X n`, `lose X n`, `change X p b`, `add X b`, `settle`, `wait ms`, `tool C`, `host C`, `cut k choice` or
-- `hcut k choice`
abbrev pub IsEventLine : Event → List ℕ → Type 0
IsEventLine (event.To side n) = After (codes "to ") (AfterSide side (IsAnyNumber n))
IsEventLine (event.Lose side n) = After (codes "lose ") (AfterSide side (IsAnyNumber n))
IsEventLine (event.Change side place byte) =
    After (codes "change ") (AfterSide side (Spaced (IsAnyNumber place) (IsHexByte byte)))
IsEventLine (event.Add side byte) = After (codes "add ") (AfterSide side (IsHexByte byte))
IsEventLine event.Settle = IsWord (codes "settle")
IsEventLine (event.Wait ms) = After (codes "wait ") (IsNumber 0 1000000 ms)
IsEventLine (event.Tool command) = After (codes "tool ") (IsToolCommand command)
IsEventLine (event.Host command) = After (codes "host ") (IsHostCommand command)
IsEventLine (event.Cut call choice) = After (codes "cut ") (IsLoss call choice)
IsEventLine (event.HostCut call choice) = After (codes "hcut ") (IsLoss call choice)

-- ---- lines of a script

-- a command of this end, or `stop`
abbrev pub IsStep : Side → ScriptStep → List ℕ → Type 0
IsStep side.Equipment (step.Tool command) = IsToolCommand command
IsStep side.Host (step.Host command) = IsHostCommand command
IsStep _ step.Stop = IsWord (codes "stop")
IsStep _ _ = λ text. ⊥

-- a moment in milliseconds, and what is to happen then
abbrev pub IsScriptLine : Side → ℕ × ScriptStep → List ℕ → Type 0
IsScriptLine side (moment, step) = Spaced (IsAnyNumber moment) (IsStep side step)

-- ---- all lines

-- an empty line or a comment, which is passed over
abbrev pub IsPassedOver : List ℕ → Type 0
IsPassedOver line = (line ≡ []) ⊎ ((rest : List ℕ) × (line ≡ 35 ∷ rest))
