-- The worked lines and rows.
use Rattle.std.proofs.Common.{◌≡◌, ℕ, List, [], ◌++◌, codes, Option, Some, None, refl, sym, ap, ◌∙◌}
use Rattle.std.specs.Option.{option_map, option_or, option_zip}
use Rattle.secs_items.specs.declared.item.Item.{out-Item}
use Rattle.secs_items.specs.declared.item.Item.TheOpen.{Item-F}
use Rattle.secs_items.specs.declared.item.Item.TheVariants as item
use Rattle.secs_items.specs.declared.item.Item.TheVariants.{rolls-A, rolls-L}
use Rattle.secs_items.specs.declared.item.Item.TheViews.{out-roll-Item}
use Rattle.secs_text.specs.Reading.{element_next, elements_of, item_at, kind_at, magnitude_at, name_at, number_at, quoted_at, read_within, shown_at, shown_next, text_at}
use Rattle.trace_log.specs.declared.commands.ToolCommand.TheVariants as tool
use Rattle.line_schedule.specs.Items.{bytes_of, bytes_of_layer}
use Rattle.line_schedule.specs.declared.script.ScriptStep.TheVariants as step
use Rattle.live_commands.specs.declared.asks.Asks.{Asks}
use Rattle.live_commands.specs.Commands.{asked_by_step}
use Rattle.live_commands.specs.Places.{command_goes}
use Rattle.live_commands.specs.Worked.{WorkedBreaks, WorkedLines, WorkedParts, quoted}
use Rattle.live_commands.proofs.Kept.{too_long}

-- ---- the bytes of an item, which is opened by its view

text_bytes : (bytes : List ℕ) → bytes_of (item.A bytes) ≡ Some bytes
text_bytes bytes = ap bytes_of_layer (ap out-Item (sym (rolls-A bytes)) ∙ out-roll-Item (Item-F.A bytes))

list_bytes : bytes_of (item.L []) ≡ None
list_bytes = ap bytes_of_layer (ap out-Item (sym (rolls-L [])) ∙ out-roll-Item (Item-F.L []))

-- what a line asks for that names a terminal and an item with these bytes
abbrev asked_terminal : ℕ → List ℕ → Option (List ℕ) → Asks
asked_terminal tid line bytes =
    asked_by_step
    (option_or
    (option_map (λ c. step.Tool c)
    (option_map (λ (x : ℕ × List ℕ). tool.Terminal x.0 x.1) (option_zip (Some tid) bytes))) None)
    (command_goes line)

-- ---- the lines

pub lines_are : WorkedLines
unfolding read_within item_at kind_at name_at elements_of element_next number_at magnitude_at text_at quoted_at shown_next shown_at
lines_are = record {
  setting = refl;
  blanks = refl;
  event = refl;
  alarm = refl;
  terminal = ap (asked_terminal 255 (codes "terminal 255 <A " ++ quoted (codes "x") ++ codes ">"))
      (text_bytes (codes "x"));
  stop = refl;
}

pub breaks_are : WorkedBreaks
unfolding read_within item_at kind_at name_at elements_of element_next number_at magnitude_at text_at quoted_at shown_next shown_at
breaks_are = record {
  moment = refl;
  word = refl;
  longer_word = refl;
  no_number = refl;
  behind_number = refl;
  eleventh_digit = refl;
  large_number = refl;
  terminal = refl;
  no_item = refl;
  large_item = refl;
  low_item = refl;
  minus = refl;
  minus_alone = refl;
  quoted_minus = refl;
  more = refl;
  no_text = ap (asked_terminal 0 (codes "terminal 0 <L>")) list_bytes;
  no_line = refl;
  short_word = refl;
  short_number = refl;
  short_state = refl;
  no_item_yet = refl;
  short_item = refl;
  short_text = refl;
  long_line = too_long;
}

pub parts_are : WorkedParts
parts_are = record { no_end = refl; whole = refl; broken = refl }
