-- Lines that can be followed by hand: what each asks for, or where it breaks; and a row that comes in parts.
use Rattle.std.specs.Prelude.{◌≡◌, ◌<◌, ℕ, false, List, [], ◌∷◌, ◌++◌, codes, length}
use Rattle.secs_items.specs.declared.item.Item.TheVariants as item
use Rattle.trace_log.specs.declared.commands.ToolCommand.TheVariants as tool
use Rattle.live_commands.specs.declared.asks.Asks.TheVariants.{Command, Nothing, Stop}
use Rattle.live_commands.specs.Coming.{asked_in_parts, asked_with, at_start}
use Rattle.live_commands.specs.Commands.{asked_by, line_limit}

-- a text in quotes
abbrev pub quoted : List ℕ → List ℕ
quoted text = 34 ∷ text ++ 34 ∷ []

pub record WorkedLines : Type 0 where
  pub setting : asked_by (codes "set 1 <U4 6>") ≡ Command (tool.Set 1 (item.U4 (6 ∷ [])))
  pub blanks : asked_by (codes "set 1 <U4 6> ") ≡ Command (tool.Set 1 (item.U4 (6 ∷ [])))
  pub event : asked_by (codes "event 0000000001") ≡ Command (tool.Event 1)
  pub alarm : asked_by (codes "alarm 7 clear") ≡ Command (tool.Alarm 7 false)
  pub terminal :
      asked_by (codes "terminal 255 <A " ++ quoted (codes "x") ++ codes ">")
      ≡ Command (tool.Terminal 255 (codes "x"))
  pub stop : asked_by (codes "stop") ≡ Stop

-- with the byte at the place no command goes on
pub record WorkedBreaks : Type 0 where
  pub moment : asked_by (codes "0 stop") ≡ Nothing 0
  pub word : asked_by (codes "sett 1") ≡ Nothing 3
  pub longer_word : asked_by (codes "stopped") ≡ Nothing 4
  pub no_number : asked_by (codes "event x") ≡ Nothing 6
  pub behind_number : asked_by (codes "event 12 ") ≡ Nothing 8
  pub eleventh_digit : asked_by (codes "event 00000000001") ≡ Nothing 16
  pub large_number : asked_by (codes "event 4294967296") ≡ Nothing 15
  pub terminal : asked_by (codes "terminal 256 ") ≡ Nothing 11
  pub no_item : asked_by (codes "set 1 <U4 x>") ≡ Nothing 10
  pub large_item : asked_by (codes "set 1 <U1 300>") ≡ Nothing 12
  pub low_item : asked_by (codes "set 1 <I1 1 -129>") ≡ Nothing 15
  pub minus : asked_by (codes "set 1 <U1 -1>") ≡ Nothing 10
  pub minus_alone : asked_by (codes "set 1 <U8 2 -") ≡ Nothing 12
  pub quoted_minus : asked_by (codes "set 1 <A " ++ 34 ∷ codes "<U1 -") ≡ Nothing 15
  pub more : asked_by (codes "set 1 <L> <L>") ≡ Nothing 10
  pub no_text : asked_by (codes "terminal 0 <L>") ≡ Nothing 12
  -- the line ends too soon
  pub no_line : asked_by [] ≡ Nothing 0
  pub short_word : asked_by (codes "enabl") ≡ Nothing 5
  pub short_number : asked_by (codes "event ") ≡ Nothing 6
  pub short_state : asked_by (codes "alarm 7 ") ≡ Nothing 8
  pub no_item_yet : asked_by (codes "set 1  ") ≡ Nothing 7
  pub short_item : asked_by (codes "set 1 <U4 6") ≡ Nothing 11
  pub short_text : asked_by (codes "terminal 0 <") ≡ Nothing 12
  pub long_line : (line : List ℕ) → line_limit < length line → asked_by line ≡ Nothing line_limit

pub record WorkedParts : Type 0 where
  -- a comment, an empty line and a command, of which the last byte is to come
  pub no_end : asked_with at_start (codes "# stop\n\nstop") ≡ []
  -- then its end, and a line that lacks it
  pub whole :
      asked_in_parts at_start (codes "# stop\n\nst" ∷ [] ∷ codes "op\nev" ∷ codes "ent 1" ∷ [])
      ≡ (1, Stop) ∷ (2, Command (tool.Event 1)) ∷ []
  -- a line that breaks counts, and the one behind it is read
  pub broken : asked_with at_start (codes "x\nstop\n") ≡ (1, Nothing 0) ∷ (2, Stop) ∷ []
