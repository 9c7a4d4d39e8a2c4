-- What a run of an end does, in its order, and what each act brings (this profile).
use Rattle.std.specs.Prelude.{ℕ, Bool, true, false, List, [], ◌∷◌, ◌++◌, Option}
use Rattle.gl_base.specs.Events.{IsMomentFrom, moment_after}
use Rattle.gl_base.specs.Link.{IsTimely, entries_of}
use Rattle.gl_base.specs.declared.link.LinkEntry.{LinkEntry}
use Rattle.gl_base.specs.declared.link.LinkEntry.TheVariants.{Polled}
use Rattle.gl_base.specs.declared.link.LinkIn.{LinkIn}
use Rattle.gl_base.specs.declared.link.LinkIn.TheVariants.{Char, Quiet, Closed, Failed}
use Rattle.gl_base.specs.declared.side.Side.{Side}
use Rattle.message_end.specs.Ends.{Asked, Input, asked_both, none_asked}
use Rattle.trace_log.specs.Log.{Entry}

-- a step: of which side, at which moment, from which state, and what it was given
pub record StepAt (S C : Type 0) : Type 0 where
  pub side : Side
  pub moment : ℕ
  pub state : S
  pub input : Input C

-- it makes a step: its disk is asked for so much, and may stop it with these entries, one list for each piece of work;
-- the end is this behind it, of which nothing is said where it ended early. It connects. It waits up to a moment, and is
-- answered so, perhaps early, for what has come to command the end. It writes a text, in which these entries have their
-- lines, the newest entry first. It sends characters
pub data Act (S C : Type 0) : Type 0 where
  Stands : (at : StepAt S C) (stops : List (List Entry)) (asked : Asked) (end : Option S) → Act S C
  Connects : Act S C
  Polls : (until : ℕ) (answer : LinkIn) (early : Bool) → Act S C
  Writes : (entries : List Entry) (text : List ℕ) → Act S C
  Sends : (characters : List ℕ) → Act S C

-- ---- the link

-- what its list has of an act, and of all acts
abbrev pub listed : {S C : Type 0} → Act S C → List LinkEntry
listed (Stands at stops asked end) = []
listed Connects = []
listed (Polls until answer early) = Polled until answer ∷ []
listed (Writes entries text) = []
listed (Sends characters) = entries_of characters

abbrev pub list_of : {S C : Type 0} → List (Act S C) → List LinkEntry
list_of [] = []
list_of (act ∷ acts) = listed act ++ list_of acts

-- the answer that a poll took from those to come: Closed comes where none is left
abbrev pub taken_by : LinkIn → List LinkIn
taken_by (Char byte moment) = Char byte moment ∷ []
taken_by (Quiet moment) = Quiet moment ∷ []
taken_by Closed = []
taken_by Failed = []

abbrev pub taken : {S C : Type 0} → Act S C → List LinkIn
taken (Stands at stops asked end) = []
taken Connects = []
taken (Polls until answer early) = taken_by answer
taken (Writes entries text) = []
taken (Sends characters) = []

abbrev pub taken_of : {S C : Type 0} → List (Act S C) → List LinkIn
taken_of [] = []
taken_of (act ∷ acts) = taken act ++ taken_of acts

-- the moment of its last answer behind an act, and behind all acts: a connection begins its clock anew
abbrev pub moment_with : {S C : Type 0} → ℕ → Act S C → ℕ
moment_with before (Stands at stops asked end) = before
moment_with before Connects = 0
moment_with before (Polls until answer early) = moment_after before answer
moment_with before (Writes entries text) = before
moment_with before (Sends characters) = before

abbrev pub moment_by : {S C : Type 0} → ℕ → List (Act S C) → ℕ
moment_by before [] = before
moment_by before (act ∷ acts) = moment_by (moment_with before act) acts

-- an answer to a wait that ends early may be of the moment before
abbrev pub IsEarly : ℕ → LinkIn → Type 0
IsEarly before (Char byte moment) = IsMomentFrom before moment
IsEarly before (Quiet moment) = IsMomentFrom before moment
IsEarly before Closed = Unit {0}
IsEarly before Failed = Unit {0}

abbrev pub MayAnswer : (early : Bool) → ℕ → ℕ → LinkIn → Type 0
MayAnswer true until before answer = IsEarly before answer
MayAnswer false until before answer = IsTimely until before answer

-- each answer may come where the last one before it was of this moment
abbrev pub IsTimelyAct : {S C : Type 0} → ℕ → Act S C → Type 0
IsTimelyAct before (Stands at stops asked end) = Unit {0}
IsTimelyAct before Connects = Unit {0}
IsTimelyAct before (Polls until answer early) = MayAnswer early until before answer
IsTimelyAct before (Writes entries text) = Unit {0}
IsTimelyAct before (Sends characters) = Unit {0}

abbrev pub AreTimely : {S C : Type 0} → ℕ → List (Act S C) → Type 0
AreTimely before [] = Unit {0}
AreTimely before (act ∷ acts) = IsTimelyAct before act × AreTimely (moment_with before act) acts

-- ---- the output

-- the log of all acts, the newest entry first
abbrev pub noted : {S C : Type 0} → Act S C → List Entry
noted (Stands at stops asked end) = []
noted Connects = []
noted (Polls until answer early) = []
noted (Writes entries text) = entries
noted (Sends characters) = []

abbrev pub log_of : {S C : Type 0} → List (Act S C) → List Entry
log_of [] = []
log_of (act ∷ acts) = log_of acts ++ noted act

-- what an act writes, and all acts
abbrev pub written_in : {S C : Type 0} → Act S C → List ℕ
written_in (Stands at stops asked end) = []
written_in Connects = []
written_in (Polls until answer early) = []
written_in (Writes entries text) = text
written_in (Sends characters) = []

abbrev pub lines_of : {S C : Type 0} → List (Act S C) → List ℕ
lines_of [] = []
lines_of (act ∷ acts) = written_in act ++ lines_of acts

-- ---- the end

-- what is said of it behind an act, and behind all acts: what its last step left
abbrev pub end_with : {S C : Type 0} → Option S → Act S C → Option S
end_with before (Stands at stops asked end) = end
end_with before Connects = before
end_with before (Polls until answer early) = before
end_with before (Writes entries text) = before
end_with before (Sends characters) = before

abbrev pub end_by : {S C : Type 0} → Option S → List (Act S C) → Option S
end_by before [] = before
end_by before (act ∷ acts) = end_by (end_with before act) acts

-- ---- its disk

-- what an act asks of it, and all acts
abbrev pub asked_in : {S C : Type 0} → Act S C → Asked
asked_in (Stands at stops asked end) = asked
asked_in Connects = none_asked
asked_in (Polls until answer early) = none_asked
asked_in (Writes entries text) = none_asked
asked_in (Sends characters) = none_asked

abbrev pub asked_by : {S C : Type 0} → List (Act S C) → Asked
asked_by [] = none_asked
asked_by (act ∷ acts) = asked_both (asked_in act) (asked_by acts)
