-- The run of a schedule, and what it writes (this profile).
use Rattle.std.specs.Prelude.{◌≡◌, ℕ, List, [], ◌∷◌, ◌++◌, Option, Some, None}
use Rattle.gl_base.specs.Sending.{WrotePart, WroteShort, WroteText}
use Rattle.gl_base.specs.Told.{SinkTold}
use Rattle.line_schedule.specs.declared.event.Event.{Event}
use Rattle.message_end.specs.Core.{Step}
use Rattle.message_end.specs.Ends.{Machine}
use Rattle.trace_log.specs.Log.{Entry, Happening}
use Rattle.trace_log.specs.Log.Entry.{Ended}
use Rattle.trace_log.specs.Text.{text_of}
use Rattle.trace_log.specs.declared.commands.HostCommand.{HostCommand}
use Rattle.trace_log.specs.declared.commands.ToolCommand.{ToolCommand}
use Rattle.end_pair.specs.declared.answers.RunEnd.{RunEnd}
use Rattle.end_pair.specs.declared.answers.RunEnd.TheVariants as end
use Rattle.end_pair.specs.declared.answers.WorldStep.{WorldStep}
use Rattle.end_pair.specs.declared.answers.WorldStep.TheVariants.{Went, Slip, Turns, NumbersSpent, JournalFull, PowerLost, NoMemory}
use Rattle.end_pair.specs.World.{Piece, after_events, and_more, begun}

-- a log that nothing has cut short ends with the end
abbrev pub closing : WorldStep → ℕ → List Entry
closing Went now = Ended now ∷ []
closing Slip now = []
closing Turns now = []
closing NumbersSpent now = []
closing JournalFull now = []
closing (PowerLost side) now = []
closing NoMemory now = []

abbrev pub whole_log : {E H : Type 0} → Piece E H → List Entry
whole_log piece = closing piece.went piece.world.moment ++ piece.entries

-- the whole text is written, and the run went so; or a part of the text is
abbrev pub Runs : SinkTold → List ℕ → WorldStep → RunEnd → Type 0
Runs out text how end.Whole = (how ≡ Went) × WroteText out text
Runs out text how end.Slip = (how ≡ Slip) × WroteText out text
Runs out text how end.Turns = (how ≡ Turns) × WroteText out text
Runs out text how end.NumbersSpent = (how ≡ NumbersSpent) × WroteText out text
Runs out text how end.JournalFull = (how ≡ JournalFull) × WroteText out text
Runs out text how end.NoMemory = WrotePart out text
Runs out text how end.WriteFailed = WroteShort out text

-- this text, the last of a run that went on so far, was to go out
abbrev pub Ends : SinkTold → List ℕ → WorldStep → RunEnd → Type 0
Ends out text how end.Whole = (how ≡ Went) × WroteText out text
Ends out text how end.Slip = (how ≡ Slip) × WroteText out text
Ends out text how end.Turns = (how ≡ Turns) × WroteText out text
Ends out text how end.NumbersSpent = (how ≡ NumbersSpent) × WroteText out text
Ends out text how end.JournalFull = (how ≡ JournalFull) × WroteText out text
Ends out text how end.NoMemory = (how ≡ NoMemory) × WroteText out text
Ends out text how end.WriteFailed = WroteShort out text

-- how a run ends where all of its text went out. None ends without power
abbrev pub end_of : WorldStep → RunEnd
end_of Went = end.Whole
end_of (PowerLost side) = end.NoMemory
end_of Slip = end.Slip
end_of Turns = end.Turns
end_of NumbersSpent = end.NumbersSpent
end_of JournalFull = end.JournalFull
end_of NoMemory = end.NoMemory

-- the world is handed back exactly where the run was whole, and is this one
abbrev pub HandsBack : {W V : Type 0} → (W → V) → V → RunEnd → Option W → Type 0
HandsBack seen world end.Whole (Some handed) = seen handed ≡ world
HandsBack seen world end.Whole None = ⊥
HandsBack seen world _ (Some handed) = ⊥
HandsBack seen world _ None = Unit {0}

module _ {E H : Type 0}
    (e : Machine E ToolCommand) (h : Machine H HostCommand) (equipment : Step E Happening) (host : Step H Happening)
  where
    -- all of the run: as far as the schedule goes, or to the step that has ended it
    abbrev pub piece_of : List Event → Piece E H
    piece_of events = and_more (begun e h equipment host) (after_events e h events)

    -- how far it went, and the log and its text
    abbrev pub went_of : List Event → WorldStep
    went_of events = (piece_of events).went

    abbrev pub log_of : List Event → List Entry
    log_of events = whole_log (piece_of events)

    abbrev pub trace_text : List Event → List ℕ
    trace_text events = text_of (log_of events)
