-- How what the code keeps is what the definitions speak of.
use Rattle.std.specs.Prelude.{◌≡◌, ℕ, ◌≤◌, List, ◌++◌, Result, Ok, Err}
use Rattle.disk_base.specs.declared.cut.CutChoice.{CutChoice}
use Rattle.gl_base.specs.declared.side.Side.{Side}
use Rattle.gl_base.specs.declared.side.Side.TheVariants.{Equipment, Host}
use Rattle.line_schedule.specs.declared.event.Event.{Event}
use Rattle.line_schedule.specs.declared.event.Event.TheVariants as event
use Rattle.message_end.specs.Core.{Went as WentTo}
use Rattle.message_end.specs.Core.Went.{Goes, Spent}
use Rattle.message_end.specs.Ends.{Machine, Reach}
use Rattle.trace_log.specs.Log.{Happening}
use Rattle.trace_log.specs.Text.{text_of}
use Rattle.trace_log.specs.declared.commands.HostCommand.{HostCommand}
use Rattle.trace_log.specs.declared.commands.ToolCommand.{ToolCommand}
use Rattle.end_pair.specs.declared.answers.WorldStep.{WorldStep}
use Rattle.end_pair.specs.declared.answers.WorldStep.TheVariants.{Went, Slip, Turns, NumbersSpent, JournalFull, PowerLost, NoMemory}
use Rattle.end_pair.specs.World.{Piece, World}

-- the world of the ends' values as one of their states
abbrev pub seen : {E H S T : Type 0} → (E → S) → (H → T) → World E H → World S T
seen equipment host world = record {
  equipment = equipment world.equipment;
  host = host world.host;
  ways = world.ways;
  moment = world.moment;
  steps = world.steps;
  cut = world.cut;
  reach = world.reach;
  host_reach = world.host_reach;
  choice = world.choice;
}

-- an end is what it was in a world
pub record IsAsBefore {V S : Type 0} (means : V → S) (now : V) (reach : Reach) (end : S) (left : Reach) : Type 0
  where
    pub end_is : means now ≡ end
    pub reach_is : reach ≡ left

-- a start anew makes of an end's value now what it makes of the end
abbrev pub StartsAlike :
    {V S : Type 0} → (V → CutChoice → ℕ → WentTo S Happening) → (S → ℕ → WentTo S Happening) → CutChoice → V → S
    → Type 0
StartsAlike anew restart choice now end = (moment : ℕ) → anew now choice moment ≡ restart end moment

-- what the code keeps of an end: the state that its value stands for, what a start anew would make of it without power,
-- and the end's machine
pub record KeptEnd (V S C : Type 0) : Type 0 where
  pub means : V → S
  pub anew : V → CutChoice → ℕ → WentTo S Happening
  pub machine : Machine S C

abbrev pub kept :
    {V S C : Type 0} → (V → S) → (V → CutChoice → ℕ → WentTo S Happening) → Machine S C → KeptEnd V S C
kept means anew machine = record { means = means; anew = anew; machine = machine }

module _ {E H S T : Type 0} (e : KeptEnd E S ToolCommand) (h : KeptEnd H T HostCommand) where
  -- the end of this side has lost its power, and the other one is what it was
  abbrev pub HasOnePower : Side → World E H → World S T → Type 0
  HasOnePower Equipment now left =
      StartsAlike e.anew e.machine.restart now.choice now.equipment left.equipment
      × IsAsBefore h.means now.host now.host_reach left.host left.host_reach
  HasOnePower Host now left =
      StartsAlike h.anew h.machine.restart now.choice now.host left.host
      × IsAsBefore e.means now.equipment now.reach left.equipment left.reach

  -- and all else is as in this world
  pub record IsDark (side : Side) (now : World E H) (left : World S T) : Type 0 where
    pub ends : HasOnePower side now left
    pub ways : now.ways ≡ left.ways
    pub moment : now.moment ≡ left.moment
    pub steps : now.steps ≡ left.steps
    pub cut : now.cut ≡ left.cut
    pub choice : now.choice ≡ left.choice

-- some of a text was put at the end
pub record PutPart (text old new : List ℕ) : Type 0 where
  pub front : List ℕ
  pub rest : List ℕ
  pub whole : text ≡ front ++ rest
  pub lines : new ≡ old ++ front

-- a text was put at the end, and it went on so; or memory ran out, and a part was put
abbrev pub Puts : WorldStep → List ℕ → List ℕ → List ℕ → WorldStep → Type 0
Puts how text old new NoMemory = PutPart text old new
Puts how text old new Went = (how ≡ Went) × (new ≡ old ++ text)
Puts how text old new Slip = (how ≡ Slip) × (new ≡ old ++ text)
Puts how text old new Turns = (how ≡ Turns) × (new ≡ old ++ text)
Puts how text old new NumbersSpent = (how ≡ NumbersSpent) × (new ≡ old ++ text)
Puts how text old new JournalFull = (how ≡ JournalFull) × (new ≡ old ++ text)
Puts how text old new (PowerLost side) = (how ≡ PowerLost side) × (new ≡ old ++ text)

-- where a call went on
abbrev pub IfWent : WorldStep → Type 0 → Type 0
IfWent Went P = P
IfWent Slip P = Unit {0}
IfWent Turns P = Unit {0}
IfWent NumbersSpent P = Unit {0}
IfWent JournalFull P = Unit {0}
IfWent (PowerLost side) P = Unit {0}
IfWent NoMemory P = Unit {0}

-- where it went on, or an end has lost its power
abbrev pub IfLeft : WorldStep → Type 0 → (Side → Type 0) → Type 0
IfLeft Went P Lost = P
IfLeft (PowerLost side) P Lost = Lost side
IfLeft Slip P Lost = Unit {0}
IfLeft Turns P Lost = Unit {0}
IfLeft NumbersSpent P Lost = Unit {0}
IfLeft JournalFull P Lost = Unit {0}
IfLeft NoMemory P Lost = Unit {0}

-- how a start went
abbrev pub gone : {S : Type 0} → WentTo S Happening → WorldStep
gone (Goes step) = Went
gone (Spent step) = NumbersSpent

-- how a world has begun
abbrev pub begun_by : {V : Type 0} → Result V WorldStep → WorldStep
begun_by (Ok world) = Went
begun_by (Err stop) = stop

-- what a call has made of a world and of the lines is this piece; where an end has lost its power, the world is dark
-- there
pub record Comes {V S T : Type 0}
    (see : V → World S T) (Dark : Side → V → World S T → Type 0) (piece : Piece S T) (now : V) (old lines : List ℕ)
    (answer : WorldStep) : Type 0 where
  pub puts : Puts piece.went (text_of piece.entries) old lines answer
  pub world : IfLeft answer (see now ≡ piece.world) (λ side. Dark side now piece.world)

-- of a world of the ends' values
abbrev pub Makes :
    {E H S T : Type 0} → KeptEnd E S ToolCommand → KeptEnd H T HostCommand → Piece S T → World E H → List ℕ → List ℕ
    → WorldStep → Type 0
Makes e h = Comes (seen e.means h.means) (IsDark e h)

-- no event leaves an end without power
abbrev pub IsPowered : WorldStep → Type 0
IsPowered (PowerLost side) = ⊥
IsPowered Went = Unit {0}
IsPowered Slip = Unit {0}
IsPowered Turns = Unit {0}
IsPowered NumbersSpent = Unit {0}
IsPowered JournalFull = Unit {0}
IsPowered NoMemory = Unit {0}

-- an end that has a disk may lose its power
abbrev pub MayLose : (loses host_loses : Type 0) → Side → Type 0
MayLose loses host_loses Equipment = loses
MayLose loses host_loses Host = host_loses

-- a wait of 1,000 seconds at most, commands that the ends take, and losses of power of an end that may have some
abbrev pub MayHappen :
    (ToolCommand → Type 0) → (HostCommand → Type 0) → (loses host_loses : Type 0) → Event → Type 0
MayHappen tool host loses host_loses (event.Wait ms) = ms ≤ 1000000
MayHappen tool host loses host_loses (event.Tool command) = tool command
MayHappen tool host loses host_loses (event.Host command) = host command
MayHappen tool host loses host_loses (event.To side n) = Unit {0}
MayHappen tool host loses host_loses (event.Lose side n) = Unit {0}
MayHappen tool host loses host_loses (event.Change side place byte) = Unit {0}
MayHappen tool host loses host_loses (event.Add side byte) = Unit {0}
MayHappen tool host loses host_loses event.Settle = Unit {0}
MayHappen tool host loses host_loses (event.Cut call choice) = loses
MayHappen tool host loses host_loses (event.HostCut call choice) = host_loses
