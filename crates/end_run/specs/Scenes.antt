-- What link and output tell at one moment of a run, what the end means then, whether a step has stopped it, and what
-- room its disk has (this profile).
use Rattle.std.specs.Prelude.{ℕ, List, Option, None, Some, Result, Ok, Err}
use Rattle.gl_base.specs.Link.{LinkContents, LinkHealth}
use Rattle.gl_base.specs.Sink.{SinkHealth}
use Rattle.gl_base.specs.Told.{SinkTold}
use Rattle.gl_base.specs.declared.link.Link as link
use Rattle.gl_base.specs.declared.sink.Sink as sink
use Rattle.message_end.specs.declared.end.Stop.{Stop}
use Rattle.message_end.specs.Ends.{Asked, Input}
use Rattle.message_flow.specs.declared.step.StepOut.{StepOut}
use Rattle.end_run.specs.Acts.{StepAt}

-- a step that has stopped its end: why, and what it had noted by then
pub record StopAt (S C : Type 0) : Type 0 where
  pub at : StepAt S C
  pub out : StepOut
  pub why : Stop

-- the link's list with its answers to come, the moment of its last answer, and its faults; the bytes that the output
-- has received, and its faults; the end, for how much its disk has sure room, and the step that has stopped it, where
-- one has
pub record Scene (S C : Type 0) : Type 0 where
  pub contents : Option LinkContents
  pub moment : ℕ
  pub link : LinkHealth
  pub received : Option (List ℕ)
  pub out : SinkHealth
  pub end : S
  pub room : Asked
  pub stop : Option (StopAt S C)

-- a link beside an output that has received this
abbrev pub beside :
    {L S C : Type 0} → link.Ghosts L → Option (List ℕ) → SinkHealth → S → Asked → Option (StopAt S C) → L → Scene S C
beside members received health end room stop link = record {
  contents = members.told link;
  moment = members.moment link;
  link = members.health link;
  received = received;
  out = health;
  end = end;
  room = room;
  stop = stop;
}

abbrev pub scene :
    {L W S C : Type 0} → link.Ghosts L → sink.Ghosts W → L → W → S → Asked → Option (StopAt S C) → Scene S C
scene links sinks link out end room stop =
    beside links (sinks.received out) (sinks.health out) end room stop link

-- an end that is on its way is known; of one that a step has stopped this is left
abbrev pub IsSo :
    {E S C : Type 0} → (E → Type 0) → (S → Input C → ℕ → StepOut → Stop → E → Type 0) → E → Option (StopAt S C)
    → Type 0
IsSo known left end None = known end
IsSo known left end (Some stop) = left stop.at.state stop.at.input stop.at.moment stop.out stop.why end

-- the same of a step from this state, by what it came to
abbrev pub Stays :
    {E S C : Type 0} → (E → Type 0) → (S → Input C → ℕ → StepOut → Stop → E → Type 0) → S → Input C → ℕ → StepOut → E
    → Result (Unit {0}) Stop → Type 0
Stays known left s input now out end (Ok done) = known end
Stays known left s input now out end (Err why) = left s input now out why end

-- of an end that is always known nothing is left to tell where a step stops it
abbrev pub Always : {E : Type 0} → E → Type 0
Always end = Unit {0}

abbrev pub NothingLeft : {E S C : Type 0} → S → Input C → ℕ → StepOut → Stop → E → Type 0
NothingLeft s input now out why end = Unit {0}

-- what the output told before and after
abbrev pub written : {S C : Type 0} → Scene S C → Scene S C → SinkTold
written a b = record { before = a.received; after = b.received; health = a.out; health_after = b.out }
