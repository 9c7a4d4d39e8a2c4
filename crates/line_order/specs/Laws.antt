-- The order of arrival.
use Rattle.std.specs.Prelude.{◌≡◌, ◌<◌, ◌≤◌, List, map, Some, All}
use Rattle.std.specs.List.{AllPairs}
use Rattle.block_codec.specs.Block.{BlockView}
use Rattle.gl_base.specs.declared.side.Side.TheVariants.{Equipment, Host}
use Rattle.line_end.specs.declared.plan.Times.{Times}
use Rattle.line_end.specs.Plan.{TimesFit}
use Rattle.line_order.specs.Acts.{Deed, HasNoSlip, IsRun, blocks_told, line_after}
use Rattle.line_order.specs.Line.{Arrival, given_at, new_line}

-- of two arrivals the newer one has no lower place among the blocks that were given, and a later frame (SEMI E4,
-- duplicate blocks; this profile)
pub record IsNewer (newer older : Arrival) : Type 0 where
  pub place : older.frame.place ≤ newer.frame.place
  pub number : older.frame.number < newer.frame.number

-- it is the block that was given at its place; no end lost power between the writing of its frame and its arrival (this
-- profile)
pub record IsGiven (given : List BlockView) (arrival : Arrival) : Type 0 where
  pub block : given_at arrival.frame.place given ≡ Some arrival.block
  pub since : arrival.lost ≤ arrival.frame.number

-- what arrived at one end, of what the other was given: its places never fall, and each block is unchanged
pub record ComesInOrder (given : List BlockView) (arrived : List Arrival) : Type 0 where
  pub order : AllPairs IsNewer arrived
  pub blocks : All (IsGiven given) arrived

-- from the first start of both ends on, whatever the layers above decide and whatever becomes of characters and power,
-- the blocks of both directions that arrive in whole frames do so in the order in which they were given (this profile)
pub record ArrivesInOrder (equipment host : Times) (deeds : List Deed) : Type 0 where
  pub to_host :
      let line = line_after (new_line equipment host) deeds in ComesInOrder line.equipment.given line.host.arrived
  pub to_equipment :
      let line = line_after (new_line equipment host) deeds in ComesInOrder line.host.given line.equipment.arrived

abbrev pub BlocksArriveInOrder : Type 0
BlocksArriveInOrder =
    (equipment host : Times) (deeds : List Deed)
    → TimesFit equipment → TimesFit host → IsRun (new_line equipment host) deeds
    → ArrivesInOrder equipment host deeds

-- the blocks that have arrived
abbrev pub blocks_of : List Arrival → List BlockView
blocks_of arrived = map (λ arrival. arrival.block) arrived

-- up to the first slip these are all blocks of which an end has told that they arrived (this profile)
abbrev pub TellsArrivals : Type 0
TellsArrivals =
    (equipment host : Times) (deeds : List Deed) → let start = new_line equipment host in
    HasNoSlip start deeds
    → (blocks_of (line_after start deeds).equipment.arrived ≡ blocks_told Equipment start deeds)
    × (blocks_of (line_after start deeds).host.arrived ≡ blocks_told Host start deeds)
