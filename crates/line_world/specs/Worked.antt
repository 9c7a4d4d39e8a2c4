-- Rounds and a summary that can be followed by hand.
use Rattle.std.specs.Prelude.{◌≡◌, true, false, ℕ, [], ◌∷◌, codes, map}
use Rattle.disk_base.specs.declared.cut.CutChoice.TheVariants.{Old}
use Rattle.gl_base.specs.declared.side.Side.TheVariants.{Host}
use Rattle.line_schedule.specs.declared.event.Event.{Event}
use Rattle.line_schedule.specs.declared.event.Event.TheVariants as event
use Rattle.secs_items.specs.declared.item.Item.{Item}
use Rattle.secs_items.specs.declared.item.Item.TheVariants as item
use Rattle.secs_items.specs.Spelling.{shortest_spelling}
use Rattle.trace_log.specs.declared.commands.HostCommand.TheVariants as host
use Rattle.trace_log.specs.declared.commands.ToolCommand.TheVariants as tool
use Rattle.line_world.specs.Make.{count_of, enables_all, is_equipment_received, is_gone, is_report, is_start, is_stored, kind_of_round, make_events, numbers_behind, pairs_of, round_of, sends_all}

-- S2F33, S2F35, S2F37 and S6F23, byte by byte
pub record SpellsBodies : Type 0 where
  pub s2f33 :
      shortest_spelling (pairs_of 1 10 1)
      ≡ 1 ∷ 2 ∷ 177 ∷ 4 ∷ 0 ∷ 0 ∷ 0 ∷ 1 ∷ 1 ∷ 1 ∷ 1 ∷ 2 ∷ 177 ∷ 4 ∷ 0 ∷ 0 ∷ 0 ∷ 10 ∷ 1 ∷ 1 ∷ 177 ∷ 4 ∷ 0 ∷ 0 ∷ 0
      ∷ 1 ∷ []
  pub s2f35 :
      shortest_spelling (pairs_of 2 1 10)
      ≡ 1 ∷ 2 ∷ 177 ∷ 4 ∷ 0 ∷ 0 ∷ 0 ∷ 2 ∷ 1 ∷ 1 ∷ 1 ∷ 2 ∷ 177 ∷ 4 ∷ 0 ∷ 0 ∷ 0 ∷ 1 ∷ 1 ∷ 1 ∷ 177 ∷ 4 ∷ 0 ∷ 0 ∷ 0
      ∷ 10 ∷ []
  pub s2f37 : shortest_spelling enables_all ≡ 1 ∷ 2 ∷ 37 ∷ 1 ∷ 1 ∷ 1 ∷ 0 ∷ []
  pub s6f23 : shortest_spelling sends_all ≡ 165 ∷ 1 ∷ 0 ∷ []

abbrev pub asks : (stream function : ℕ) → Item → Event
asks stream function body = event.Host (host.Send stream function true (shortest_spelling body))

-- one round is of kind 6, and two are of kinds 4 and 1, of which the second sets the variable to 1,495,354,192
pub record AreRounds : Type 0 where
  pub one : map kind_of_round (numbers_behind 1 1) ≡ 6 ∷ []
  pub two : map kind_of_round (numbers_behind 2 2) ≡ 4 ∷ 1 ∷ []
  pub second : numbers_behind 2 2 ≡ 59559187 ∷ 1495354192 ∷ []
  pub events_of_one :
      make_events 1
      ≡ event.Settle ∷ asks 2 33 (pairs_of 1 10 1) ∷ event.Settle ∷ asks 2 35 (pairs_of 2 1 10) ∷ event.Settle
      ∷ asks 2 37 enables_all ∷ event.Settle
      ∷ event.Tool (tool.Event 1) ∷ event.Cut 1 Old ∷ event.Wait 0 ∷ event.Settle
      ∷ asks 2 33 (pairs_of 1 10 1) ∷ event.Settle ∷ asks 2 35 (pairs_of 2 1 10) ∷ event.Settle
      ∷ asks 2 37 enables_all ∷ event.Settle ∷ []
  pub a_lost_character :
      round_of 59559187
      ≡ event.Tool (tool.Event 1) ∷ event.Lose Host 1 ∷ event.Wait 10000 ∷ event.Settle ∷ []
  pub a_report :
      round_of 1495354192
      ≡ event.Tool (tool.Set 1 (item.U4 (1495354192 ∷ []))) ∷ event.Tool (tool.Event 1) ∷ event.Settle ∷ []
  pub nobody :
      round_of 327680
      ≡ event.Tool (tool.Event 1) ∷ event.Lose Host 64 ∷ event.Wait 10000 ∷ event.Lose Host 64 ∷ event.Wait 10000
      ∷ event.Lose Host 64 ∷ event.Wait 10000 ∷ event.Lose Host 64 ∷ event.Wait 10000 ∷ event.Settle ∷ []
  pub an_unload : round_of 458752 ≡ asks 6 23 sends_all ∷ event.Settle ∷ []

-- ---- lines

-- which lines a summary counts
pub record CountsLines : Type 0 where
  pub report : is_report (codes "5 H rx S6F11 W 00000007 0100") ≡ true
  pub other : is_report (codes "5 H rx S6F12 00000007 -") ≡ false
  pub received : is_equipment_received (codes "12 E rx S6F12 00000007 -") ≡ true
  pub stored : is_stored (codes "0 E stored 0") ≡ true
  pub storing : is_stored (codes "0 E storing 0 S6F11 W") ≡ false
  pub gone : is_gone (codes "5 E gone 0") ≡ true
  -- the host's start isn't counted
  pub starts : count_of is_start (codes "0 E start len=0 base=0\n0 H start\n5 E power\n5 E start len=0 base=4096\n") ≡ 2

pub record WorkedRounds : Type 0 where
  pub makes : AreRounds
  pub spells : SpellsBodies
  pub counts : CountsLines
