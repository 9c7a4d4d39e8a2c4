-- One step of an end on the line (this profile).
use Rattle.std.specs.Prelude.{◌&&◌, ℕ, Bool, true, false, List, [], ◌∷◌, ◌++◌, if◌then◌else◌}
use Rattle.disk_base.specs.declared.cut.CutChoice.{CutChoice}
use Rattle.gl_base.specs.declared.side.Side.{Side}
use Rattle.line_end.specs.Step.{is_due}
use Rattle.line_way.specs.Kept.{direction_to, gathered_with_next, makes_slip_in, ways_after}
use Rattle.line_way.specs.Slip.{first_frame}
use Rattle.line_way.specs.Ways.{Ways, bytes_of, characters_of}
use Rattle.message_end.specs.Core.{Went}
use Rattle.message_end.specs.Core.Went.{Goes, Spent}
use Rattle.message_end.specs.Ends.{Input, Loss, Machine, Passing, Reach, none_asked, passing, wrote}
use Rattle.message_end.specs.Ends.Input.{Char, Command, Time}
use Rattle.message_end.specs.Ends.Passing.{Cuts, Lacks, Passes}
use Rattle.trace_log.specs.Laws.{log_with}
use Rattle.trace_log.specs.Log.{Entry, Happening}
use Rattle.trace_log.specs.Log.Entry.{Slipped}
use Rattle.end_pair.specs.declared.answers.WorldStep.{WorldStep}
use Rattle.end_pair.specs.declared.answers.WorldStep.TheVariants as answer

-- what a step leaves: the end, both directions of the line, the entries that were made, the newest first, how it went,
-- and how far the end's disk goes on
pub record Stepped (S : Type 0) : Type 0 where
  pub end : S
  pub ways : Ways
  pub entries : List Entry
  pub went : WorldStep
  pub reach : Reach

-- the end is given the next character on its way
abbrev pub gives : {C : Type 0} → Input C → Bool
gives (Char byte) = true
gives Time = false
gives (Command command) = false

-- that character completes a block whose characters are no frame's: this is decided before the end takes it, from the
-- phase of its line, whether T1 has run out since the last character, and what it has gathered
abbrev pub slips : {S C : Type 0} → Machine S C → Side → ℕ → Input C → S → Ways → Bool
slips machine side now input s ways =
    gives input
    && makes_slip_in (machine.line s).phase (is_due (machine.line s).deadline now) (direction_to side ways)

-- the number of the frame of the first character, and all characters
abbrev pub slip_of : Side → ℕ → Ways → Entry
slip_of side now ways =
    let characters = characters_of (gathered_with_next (direction_to side ways)) in
    Slipped now side (first_frame characters) (bytes_of characters)

-- what a step has noted, as entries
abbrev pub entries_of : Side → ℕ → List Happening → List Entry
entries_of side now noted = log_with now side noted []

-- what ends a step early: it lacks room in the end's own store, or else numbers
abbrev pub spent_for : (lacks_room : Bool) → WorldStep
spent_for true = answer.JournalFull
spent_for false = answer.NumbersSpent

-- the step goes on, or ends early and nothing is sent; all its calls of the disk are made
abbrev pub made :
    {S C : Type 0} → Machine S C → Side → ℕ → Reach → Input C → S → Ways → Went S Happening → Stepped S
made machine side now left input s ways (Goes step) = record {
  end = step.next;
  ways = ways_after side (gives input) (machine.line step.next).phase step.written ways;
  entries = entries_of side now (step.notes ++ wrote step.written);
  went = answer.Went;
  reach = left;
}
made machine side now left input s ways (Spent step) = record {
  end = step.next;
  ways = ways;
  entries = entries_of side now step.notes;
  went = spent_for (machine.lacks_room s input now);
  reach = left;
}

-- a slip's entry stands for the whole step, and the disk isn't asked
abbrev pub slipped : {S : Type 0} → Side → ℕ → Reach → S → Ways → Stepped S
slipped side now reach s ways = record {
  end = s;
  ways = ways;
  entries = slip_of side now ways ∷ [];
  went = answer.Slip;
  reach = reach;
}

-- a disk that has stopped goes no further
abbrev pub no_reach : Reach
no_reach = record { cut = 0; room = none_asked }

-- or its disk stops at a call: what was noted by then stands, and nothing is sent
abbrev pub stopped_at : {S : Type 0} → Side → ℕ → CutChoice → Ways → WorldStep → Loss S → Stepped S
stopped_at side now choice ways went loss = record {
  end = loss.left choice;
  ways = ways;
  entries = entries_of side now loss.front;
  went = went;
  reach = no_reach;
}

-- its power is lost there, or there is no room for the call
abbrev pub stopped_for : Side → (is_lost : Bool) → WorldStep
stopped_for side true = answer.PowerLost side
stopped_for side false = answer.Turns

abbrev pub made_by :
    {S C : Type 0} → Machine S C → Side → ℕ → CutChoice → Input C → S → Ways → Passing S → Stepped S
made_by machine side now choice input s ways (Passes left) =
    made machine side now left input s ways (machine.act s input now)
made_by machine side now choice input s ways (Cuts loss) = stopped_at side now choice ways (stopped_for side true) loss
made_by machine side now choice input s ways (Lacks loss) =
    stopped_at side now choice ways (stopped_for side false) loss

-- one step of an end whose disk goes so far
abbrev pub stepped :
    {S C : Type 0} → Machine S C → Side → ℕ → Reach → CutChoice → Input C → S → Ways → Stepped S
stepped machine side now reach choice input s ways =
    if slips machine side now input s ways then slipped side now reach s ways
    else made_by machine side now choice input s ways (passing reach (machine.losses s input now))
