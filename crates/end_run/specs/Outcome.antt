-- What a run has made of its link, its output and its end, by how it ended (this profile).
use Rattle.std.specs.Prelude.{◌≡◌, ◌⊎◌, ℕ, ◌<◌, Bool, true, false, List, [], ◌∷◌, ◌++◌, length, take, Option, Some, None}
use Rattle.gl_base.specs.Link.{IsCarriedOn, LinkContents, LinkFault}
use Rattle.gl_base.specs.Sending.{WroteText}
use Rattle.gl_base.specs.Sink.{WriteFault, with_bytes}
use Rattle.gl_base.specs.declared.link.LinkIn.{LinkIn}
use Rattle.message_end.specs.declared.end.Stop.{Stop}
use Rattle.message_end.specs.declared.end.Stop.TheVariants as stop
use Rattle.message_end.specs.Ends.{Asked, Input, IsLeft as LeavesRoom, IsShort, asked_both, printed}
use Rattle.message_end.specs.Own.{Has}
use Rattle.message_flow.specs.declared.step.StepOut.{StepOut}
use Rattle.trace_log.specs.Log.{Entry, Happening}
use Rattle.trace_log.specs.Text.{text_of}
use Rattle.end_run.specs.declared.ending.Ending.{Ending}
use Rattle.end_run.specs.declared.ending.Ending.TheVariants.{Closed, DiskFailed, Full, LinkFailed, NoMemory, NumbersSpent, Stopped, Turns, WriteFailed}
use Rattle.end_run.specs.Acts.{Act, StepAt, AreTimely, asked_by, end_by, lines_of, list_of, listed, moment_by, taken_of}
use Rattle.end_run.specs.Acts.Act.{Connects, Polls, Sends, Stands, Writes}
use Rattle.end_run.specs.Commands.{Telling}
use Rattle.end_run.specs.Pieces.{Piece}
use Rattle.end_run.specs.Scenes.{IsSo, Scene, StopAt, written}
use Rattle.end_run.specs.Steps.{entries_at, spent_for}
use Rattle.end_run.specs.Told.{MayCome}

-- ---- what was done

-- the link's list has these acts behind what it had, and their answers were the first of those to come
pub record HasListed {S C : Type 0} (before : LinkContents) (acts : List (Act S C)) (now : LinkContents) : Type 0 where
  pub entries : now.entries ≡ before.entries ++ list_of acts
  pub left : before.left ≡ taken_of acts ++ now.left

-- the same where a link tells it; it goes on to tell
abbrev pub Lists : {S C : Type 0} → Option LinkContents → List (Act S C) → Option LinkContents → Type 0
Lists None acts after = after ≡ None
Lists (Some before) acts None = ⊥
Lists (Some before) acts (Some now) = HasListed before acts now

-- the link has what is of these acts, its clock went by them, and their answers could come
pub record Linked {S C : Type 0} (a b : Scene S C) (acts : List (Act S C)) : Type 0 where
  pub listed : Lists a.contents acts b.contents
  pub clock : b.moment ≡ moment_by a.moment acts
  pub timely : AreTimely a.moment acts

-- these acts were done: link and output have what is of each, and counted no fault
pub record Made {S C : Type 0} (a b : Scene S C) (acts : List (Act S C)) : Type 0 where
  pub linked : Linked a b acts
  pub carried : IsCarriedOn a.link b.link (length (list_of acts))
  pub wrote : WroteText (written a b) (lines_of acts)

-- the end is what is left: a step in which its numbers were spent leaves nothing to go on with
abbrev pub IsLeft : {S : Type 0} → Option S → S → Type 0
IsLeft None end = ⊥
IsLeft (Some left) end = end ≡ left

-- these acts were done, and the end is what its last step has left, and on its way as before; its disk has room left
-- for what they didn't ask
pub record Did {S C : Type 0} (a b : Scene S C) (acts : List (Act S C)) : Type 0 where
  pub made : Made a b acts
  pub end : IsLeft (end_by (Some a.end) acts) b.end
  pub room : LeavesRoom a.room (asked_by acts) b.room
  pub stop : b.stop ≡ a.stop

-- ---- how an end stands that doesn't make all of a run

-- it is what the last step of these acts has left, and on its way as before
pub record GoesOn {S C : Type 0} (a b : Scene S C) (done : List (Act S C)) : Type 0 where
  pub end : IsLeft (end_by (Some a.end) done) b.end
  pub stop : b.stop ≡ a.stop

-- what has ended a step early
abbrev pub stop_for : (lacks_room : Bool) → Stop
stop_for true = stop.Full
stop_for false = stop.NumbersSpent

-- one of these acts ended early, from the state that the acts before have left: it lacked room in the end's own store,
-- or else numbers, and with that all that was to be done ends
pub record IsSpent {S C : Type 0} (how : Option Ending) (a b : Scene S C) (acts : List (Act S C)) : Type 0 where
  pub first : List (Act S C)
  pub at : StepAt S C
  pub stops : List (List Entry)
  pub asked : Asked
  pub later : List (Act S C)
  pub whole : acts ≡ first ++ Stands at stops asked None ∷ later
  pub before : IsLeft (end_by (Some a.end) first) at.state
  pub out : StepOut
  pub lacks_room : Bool
  pub ended : how ≡ Some (spent_for lacks_room)
  pub stop : b.stop ≡ Some (record { at = at; out = out; why = stop_for lacks_room })

-- memory ran out in the step that was next, from the state that these acts have left
pub record LacksMemory {S C : Type 0} (a b : Scene S C) (done later : List (Act S C)) : Type 0 where
  pub at : StepAt S C
  pub stops : List (List Entry)
  pub asked : Asked
  pub end : Option S
  pub more : List (Act S C)
  pub whole : later ≡ Stands at stops asked end ∷ more
  pub before : IsLeft (end_by (Some a.end) done) at.state
  pub out : StepOut
  pub stop : b.stop ≡ Some (record { at = at; out = out; why = stop.NoMemory })

-- ---- where a run ends on its way

-- what is of an act of the link where its call fails: a connection begins the clock anew all the same, and of the
-- characters that were to be sent some from their front are sent
abbrev pub IsCutShort : {S C : Type 0} → Act S C → List (Act S C) → Type 0
IsCutShort (Stands at stops asked end) part = ⊥
IsCutShort Connects part = part ≡ Connects ∷ []
IsCutShort (Polls until answer early) part = part ≡ []
IsCutShort (Writes entries text) part = ⊥
IsCutShort (Sends characters) part = (n : ℕ) × (n < length characters) × (part ≡ Sends (take n characters) ∷ [])

-- a call of the link failed: all that stands before it was done, and all lines before it were written
pub record LinkFails {S C : Type 0} (a b : Scene S C) (acts : List (Act S C)) : Type 0 where
  pub done : List (Act S C)
  pub failed : Act S C
  pub later : List (Act S C)
  pub whole : acts ≡ done ++ failed ∷ later
  pub part : List (Act S C)
  pub cut : IsCutShort failed part
  pub linked : Linked a b (done ++ part)
  pub fault : LinkFault a.link b.link (length (list_of done ++ listed failed))
  pub wrote : WroteText (written a b) (lines_of done)
  pub end : GoesOn a b done

-- a write failed: all that stands before it was done, and only some of its lines, from their front, were written. They
-- may be those of a step that ended early
pub record WriteFails {S C : Type 0} (how : Option Ending) (a b : Scene S C) (acts : List (Act S C)) : Type 0 where
  pub done : List (Act S C)
  pub entries : List Entry
  pub text : List ℕ
  pub later : List (Act S C)
  pub whole : acts ≡ done ++ Writes entries text ∷ later
  pub linked : Linked a b done
  pub carried : IsCarriedOn a.link b.link (length (list_of done))
  pub count : ℕ
  pub short : count < length text
  pub received : b.received ≡ with_bytes a.received (lines_of done ++ take count text)
  pub fault : WriteFault a.out b.out (length (lines_of done ++ text))
  pub end : GoesOn a b done ⊎ IsSpent how a b done

-- of a text behind these lines a part from the front was written, since the output failed
pub record PutsShort {S C : Type 0} (a b : Scene S C) (lines text : List ℕ) : Type 0 where
  pub count : ℕ
  pub short : count < length text
  pub received : b.received ≡ with_bytes a.received (lines ++ take count text)
  pub fault : WriteFault a.out b.out (length (lines ++ text))

-- all of it was written, or that, or nothing of it for want of memory
abbrev pub PutsLast : {S C : Type 0} → Scene S C → Scene S C → List ℕ → List ℕ → Type 0
PutsLast a b lines text =
    WroteText (written a b) (lines ++ text) ⊎ (PutsShort a b lines text ⊎ WroteText (written a b) lines)

-- its disk failed in a step, from the state that all that stands before that has left. The step had made these entries
-- by then, of what it had noted: its first ones, and some with which its disk may stop it. They were put, and nothing
-- of it was sent. The disk had no room for all that it was asked from the first of these acts on
pub record DiskFails {S C : Type 0} (a b : Scene S C) (acts : List (Act S C)) : Type 0 where
  pub done : List (Act S C)
  pub at : StepAt S C
  pub stops : List (List Entry)
  pub asked : Asked
  pub end : Option S
  pub newer : List Entry
  pub entries : List Entry
  pub text : List ℕ
  pub later : List (Act S C)
  pub whole : acts ≡ done ++ Stands at stops asked end ∷ Writes (newer ++ entries) text ∷ later
  pub before : IsLeft (end_by (Some a.end) done) at.state
  pub front : List Happening
  pub noted : entries ≡ entries_at at.side at.moment front
  pub out : StepOut
  pub notes : out.notes ≡ printed front
  pub stop : b.stop ≡ Some (record { at = at; out = out; why = stop.DiskFailed })
  pub may : Has stops entries
  pub linked : Linked a b done
  pub carried : IsCarriedOn a.link b.link (length (list_of done))
  pub put : PutsLast a b (lines_of done) (text_of entries)
  pub short : IsShort a.room (asked_both (asked_by done) asked)

-- memory ran out: some of the acts, from their front, were done. It ran out behind a step, in one that ended early, or
-- in the next step
pub record MadePart {S C : Type 0} (how : Option Ending) (a b : Scene S C) (acts : List (Act S C)) : Type 0 where
  pub done : List (Act S C)
  pub later : List (Act S C)
  pub whole : acts ≡ done ++ later
  pub made : Made a b done
  pub end : GoesOn a b done ⊎ (IsSpent how a b done ⊎ LacksMemory a b done later)

-- ---- all of a run

-- these acts were to be done, and with them a run to go on or to end
abbrev pub Does : {S C : Type 0} → Scene S C → Scene S C → Option Ending → List (Act S C) → Option Ending → Type 0
Does a b how acts None = (how ≡ None) × Did a b acts
Does a b how acts (Some Stopped) = (how ≡ Some Stopped) × Did a b acts
Does a b how acts (Some Closed) = (how ≡ Some Closed) × Did a b acts
Does a b how acts (Some Turns) = (how ≡ Some Turns) × Did a b acts
Does a b how acts (Some NumbersSpent) = (how ≡ Some NumbersSpent) × Made a b acts × IsSpent how a b acts
Does a b how acts (Some Full) = (how ≡ Some Full) × Made a b acts × IsSpent how a b acts
Does a b how acts (Some DiskFailed) = DiskFails a b acts
Does a b how acts (Some LinkFailed) = LinkFails a b acts
Does a b how acts (Some WriteFailed) = WriteFails how a b acts
Does a b how acts (Some NoMemory) = MadePart how a b acts

-- the same of a piece of a run
abbrev pub Runs : {S C : Type 0} → Scene S C → Scene S C → Piece S C → Option Ending → Type 0
Runs a b piece result = Does a b piece.ended piece.acts result

-- where a run goes on
abbrev pub IfOn : Option Ending → Type 0 → Type 0
IfOn None P = P
IfOn (Some how) P = Unit {0}

-- a link that tells its answers to come has these to come
abbrev pub AreToCome : Option LinkContents → List LinkIn → Type 0
AreToCome None answers = Unit {0}
AreToCome (Some contents) answers = contents.left ≡ answers

-- the run is that of some answers, those that were to come where the link tells them: it has done all that these bring,
-- or has come as far as memory, link, output and its disk let it
pub record RunsOver {S C : Type 0} (a b : Scene S C) (run : List LinkIn → Piece S C) (result : Ending) : Type 0 where
  pub answers : List LinkIn
  pub to_come : AreToCome a.contents answers
  pub runs : Runs a b (run answers) (Some result)

-- ---- what is known of the end

-- a part of a run over an end of which `known` says that what it means is told, and `left` what stands behind a step
-- that has stopped it: the end is known where the run goes on. `b` is what is seen behind it, by the step that has
-- stopped the end, where one has
module _ {E S C : Type 0} (known : E → Type 0) (left : S → Input C → ℕ → StepOut → Stop → E → Type 0) (end : E)
    (a : Scene S C) (b : Option (StopAt S C) → Scene S C) where
  abbrev pub Comes : Piece S C → Option Ending → Type 0
  Comes piece None = Runs a (b None) piece None × known end × ((b None).end ≡ piece.end)
  Comes piece (Some how) =
      (stop : Option (StopAt S C)) × IsSo known left end stop × Runs a (b stop) piece (Some how)

  -- all of a run
  abbrev pub ComesOver : (List LinkIn → Piece S C) → Ending → Type 0
  ComesOver run result = (stop : Option (StopAt S C)) × IsSo known left end stop × RunsOver a (b stop) run result

-- the same by what comes beside the link: by something that may come, which is what is told where it is told
abbrev pub ByWhatComes :
    {C : Type 0} → Option (List (List (Telling C))) → (List (List (Telling C)) → Type 0) → Type 0
ByWhatComes {C} told Over = (coming : List (List (Telling C))) × MayCome told coming × Over coming
