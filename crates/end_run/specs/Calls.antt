-- What single calls of a run leave.
use Rattle.std.specs.Prelude.{◌≡◌, ◌≢◌, ◌⊎◌, ◌<◌, ℕ, drop, List, [], ◌∷◌, Option, Some, None}
use Rattle.gl_base.specs.Connections.{connected_as}
use Rattle.gl_base.specs.Events.{moment_after}
use Rattle.gl_base.specs.Link.{IsToldAnswer, LinkFault}
use Rattle.gl_base.specs.Sending.{WroteShort, WroteText}
use Rattle.gl_base.specs.Told.{SinkTold}
use Rattle.gl_base.specs.declared.link.Link as trait
use Rattle.gl_base.specs.declared.link.LinkIn.{LinkIn}
use Rattle.gl_base.specs.declared.link.LinkIn.TheVariants as link
use Rattle.gl_base.specs.declared.side.Side.{Side}
use Rattle.message_end.specs.declared.end.Stop.{Stop}
use Rattle.message_end.specs.Ends.{Input, Machine}
use Rattle.message_end.specs.Ends.Input.{Char, Command, Time}
use Rattle.message_flow.specs.declared.step.StepOut.{StepOut}
use Rattle.end_run.specs.declared.ending.Ending.{Ending}
use Rattle.end_run.specs.declared.ending.Ending.TheVariants.{Closed, DiskFailed, Full, LinkFailed, NoMemory, NumbersSpent, Stopped, Turns, WriteFailed}
use Rattle.end_run.specs.declared.polls.Place.{Place}
use Rattle.end_run.specs.Commands.{Commands, Telling, as_it_comes}
use Rattle.end_run.specs.Outcome.{Comes, IfOn}
use Rattle.end_run.specs.Run.{turned}
use Rattle.end_run.specs.Scenes.{Scene, StopAt}
use Rattle.end_run.specs.Script.{ScriptLine}
use Rattle.end_run.specs.Told.{Brings}

-- ---- the connection

-- a run has made no call of its link, or asked it once for a connection, as this side and with this address
abbrev pub HasConnected : {L : Type 0} → Side → List ℕ → trait.Ghosts L → L → L → Type 0
HasConnected side address members before after =
    (after ≡ before) ⊎ (members.connected after ≡ connected_as side address (members.connected before))

-- ---- lines that are written

-- an ending that neither memory nor link nor output nor a disk has brought
abbrev pub IsExact : Ending → Type 0
IsExact Stopped = Unit {0}
IsExact Closed = Unit {0}
IsExact Turns = Unit {0}
IsExact NumbersSpent = Unit {0}
IsExact Full = Unit {0}
IsExact DiskFailed = ⊥
IsExact LinkFailed = ⊥
IsExact WriteFailed = ⊥
IsExact NoMemory = ⊥

-- the lines of a start were to be written, and the run to go on
abbrev pub StopsAtStart : SinkTold → List ℕ → Ending → Type 0
StopsAtStart out text WriteFailed = WroteShort out text
StopsAtStart out text NoMemory = WroteText out []
StopsAtStart out text _ = ⊥

abbrev pub PutsStart : SinkTold → List ℕ → Option Ending → Type 0
PutsStart out text None = WroteText out text
PutsStart out text (Some how) = StopsAtStart out text how

-- a text was to be written, with which a run ends so
abbrev pub EndsWith : SinkTold → List ℕ → Ending → Ending → Type 0
EndsWith out text how WriteFailed = WroteShort out text
EndsWith out text how NoMemory = WroteText out []
EndsWith out text how Stopped = (how ≡ Stopped) × WroteText out text
EndsWith out text how Closed = (how ≡ Closed) × WroteText out text
EndsWith out text how Turns = (how ≡ Turns) × WroteText out text
EndsWith out text how NumbersSpent = (how ≡ NumbersSpent) × WroteText out text
EndsWith out text how Full = (how ≡ Full) × WroteText out text
EndsWith out text how DiskFailed = ⊥
EndsWith out text how LinkFailed = ⊥

-- a text was to be written as far as memory and the output let it
abbrev pub PutsAsCan : SinkTold → List ℕ → Type 0
PutsAsCan out text = WroteText out text ⊎ (WroteShort out text ⊎ WroteText out [])

-- ---- what an end is given

-- a character, or time
abbrev pub plain_input : {C : Type 0} → Option ℕ → Input C
plain_input (Some byte) = Char byte
plain_input None = Time

abbrev pub IsPlainInput : {C : Type 0} → Input C → Type 0
IsPlainInput (Char byte) = byte < 256
IsPlainInput Time = Unit {0}
IsPlainInput (Command command) = ⊥

-- ---- polls

-- an end on its way: its state, what is still to come of its commands, and the moment of the last answer that had one
pub record Left (S Q : Type 0) : Type 0 where
  pub end : S
  pub coming : Q
  pub moment : ℕ

abbrev pub left_of : {S : Type 0} → S → List ScriptLine → Place → Left S (List ScriptLine)
left_of end lines place = record { end = end; coming = drop place.given lines; moment = place.now }

-- a poll failed, and nothing else was done
pub record PollFails {S C : Type 0} (a b : Scene S C) (result : Option Ending) : Type 0 where
  pub is : result ≡ Some LinkFailed
  pub contents : b.contents ≡ a.contents
  pub moment : b.moment ≡ a.moment
  pub fault : LinkFault a.link b.link 1
  pub received : b.received ≡ a.received
  pub out : b.out ≡ a.out
  pub end : b.end ≡ a.end
  pub stop : b.stop ≡ a.stop

module _
    {E S C Q : Type 0} (known : E → Type 0) (left : S → Input C → ℕ → StepOut → Stop → E → Type 0) (end : E)
    (machine : Machine S C) (due : S → Option ℕ) (commands : Commands Q C) (side : Side)
  where
    -- a poll came to this answer, which was the next to come, and what follows from it was done
    pub record Turned (a : Scene S C) (b : Option (StopAt S C) → Scene S C) (before after : Left S Q)
        (result : Option Ending) (answer : LinkIn)
        : Type 0 where
      pub next : IsToldAnswer a.contents answer
      pub other : answer ≢ link.Failed
      pub runs :
          Comes known left end a b (turned machine due commands side before.coming before.moment answer before.end) result
      pub moment : after.moment ≡ moment_after before.moment answer
      pub coming : IfOn result (after.coming ≡ commands.later after.moment before.coming)

    -- a poll came to some answer, or failed
    abbrev pub HasTurned :
        Scene S C → (Option (StopAt S C) → Scene S C) → Left S Q → Left S Q → Option Ending → Type 0
    HasTurned a b before after result =
        (PollFails a (b None) result × known end) ⊎ ((answer : LinkIn) × Turned a b before after result answer)

-- a poll by what comes beside the link: so much has come, and whatever comes behind it, the poll is one of the run by
-- all of that
pub record TurnedTold {E S C : Type 0} (known : E → Type 0)
    (left : S → Input C → ℕ → StepOut → Stop → E → Type 0) (end : E) (machine : Machine S C) (due : S → Option ℕ)
    (side : Side) (a : Scene S C) (b : Option (StopAt S C) → Scene S C) (before after : S) (moment now : ℕ)
    (told told_after : Option (List (List (Telling C)))) (result : Option Ending) : Type 0 where
  pub here : List (Telling C)
  pub brings : Brings told here told_after
  pub turned :
      (later : List (List (Telling C)))
      → HasTurned known left end machine due as_it_comes side a b
      (record { end = before; coming = here ∷ later; moment = moment })
      (record { end = after; coming = later; moment = now })
      result
