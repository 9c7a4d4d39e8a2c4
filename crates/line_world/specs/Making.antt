-- The run of made rounds, as its lines are counted.
use Rattle.std.specs.Prelude.{◌≡◌, ◌++◌, ℕ, List, [], codes, Result, Ok, Err}
use Rattle.end_pair.specs.Kept.{Comes, IfWent, IsPowered}
use Rattle.end_pair.specs.Run.{whole_log}
use Rattle.end_pair.specs.World.{Piece, World}
use Rattle.end_pair.specs.declared.answers.RunEnd.{RunEnd}
use Rattle.end_pair.specs.declared.answers.RunEnd.TheVariants as end
use Rattle.end_pair.specs.declared.answers.WorldStep.{WorldStep}
use Rattle.end_pair.specs.declared.answers.WorldStep.TheVariants as went
use Rattle.equipment_tables.specs.declared.plan.Plans.{Plans}
use Rattle.gl_base.specs.Sending.{WroteShort, WroteText}
use Rattle.gl_base.specs.Told.{SinkTold}
use Rattle.line_schedule.specs.Lines.{lines_of}
use Rattle.trace_log.specs.Log.Entry.{Ended}
use Rattle.trace_log.specs.Text.{entry_text, text_of}
use Rattle.line_world.specs.Counting.{counts_of, with_lines}
use Rattle.line_world.specs.Make.{counted, make_schedule, summary_of}
use Rattle.line_world.specs.Run.{trace_text, went_of}
use Rattle.line_world.specs.declared.counting.Counts.{Counts}

-- what a call has made of a world and of what was counted is this piece, with this text of its lines
pub record Makes {S T : Type 0}
    (piece : Piece S T) (now : World S T) (before after : Counts) (answer : WorldStep) : Type 0 where
  pub text : List ℕ
  pub comes : Comes (λ (world : World S T). world) (λ side now left. Unit {0}) piece now [] text answer
  pub counted : IfWent answer (after ≡ with_lines before (lines_of text))
  pub powered : IsPowered answer

-- whatever comes of what is left of a run, comes of the whole
abbrev pub Leads : {S T : Type 0} → (left : Piece S T) → Counts → (whole : Piece S T) → Counts → Type 0
Leads {S} {T} left counted whole before =
    (new : World S T) (after : Counts) (answer : WorldStep) → Makes left new counted after answer
    → Makes whole new before after answer

-- what was carried out leads on to what is left of the run, or has ended it
abbrev pub CarriesOn : {S T : Type 0} → WorldStep → (left whole : Piece S T) → World S T → (before after : Counts)
    → Type 0
CarriesOn went.Went left whole now before after = Leads left after whole before
CarriesOn went.Slip left whole now before after = Makes whole now before after went.Slip
CarriesOn went.Turns left whole now before after = Makes whole now before after went.Turns
CarriesOn went.NumbersSpent left whole now before after = Makes whole now before after went.NumbersSpent
CarriesOn went.JournalFull left whole now before after = Makes whole now before after went.JournalFull
CarriesOn (went.PowerLost side) left whole now before after = Makes whole now before after (went.PowerLost side)
CarriesOn went.NoMemory left whole now before after = Makes whole now before after went.NoMemory

-- the line of the end was counted, or memory ran out
abbrev pub Closes : ℕ → Counts → Result Counts WorldStep → Type 0
Closes moment before (Ok after) = after ≡ with_lines before (lines_of (entry_text (Ended moment)))
Closes moment before (Err went.NoMemory) = Unit {0}
Closes moment before (Err _) = ⊥

-- all lines of a run are counted, or it has ended on the way
abbrev pub Counted : {S T : Type 0} → Piece S T → Result Counts WorldStep → Type 0
Counted piece (Ok counts) = (piece.went ≡ went.Went) × (counts ≡ counts_of (text_of (whole_log piece)))
Counted piece (Err went.Went) = ⊥
Counted piece (Err went.Slip) = piece.went ≡ went.Slip
Counted piece (Err went.Turns) = piece.went ≡ went.Turns
Counted piece (Err went.NumbersSpent) = piece.went ≡ went.NumbersSpent
Counted piece (Err went.JournalFull) = piece.went ≡ went.JournalFull
Counted piece (Err (went.PowerLost side)) = ⊥
Counted piece (Err went.NoMemory) = Unit {0}

-- the summary of what was counted
abbrev pub summary_text : ℕ → Counts → List ℕ
summary_text rounds counts =
    counted (codes "rounds ") rounds
    ++ counted (codes "\nrx E ") counts.equipment_received
    ++ counted (codes " H ") counts.host_received
    ++ counted (codes "\nreports ") counts.reports
    ++ counted (codes "\nstored ") counts.stored
    ++ counted (codes "\ngone ") counts.gone
    ++ counted (codes "\nstarts ") counts.starts
    ++ codes "\n"

-- ---- what is written

-- the summary was to go out
abbrev pub SummaryEnds : SinkTold → List ℕ → RunEnd → Type 0
SummaryEnds out text end.Whole = WroteText out text
SummaryEnds out text end.WriteFailed = WroteShort out text
SummaryEnds out text _ = ⊥

-- what the end of a run is called that has ended on the way
abbrev pub end_made : WorldStep → RunEnd
end_made went.Slip = end.Slip
end_made went.Turns = end.Turns
end_made went.NumbersSpent = end.NumbersSpent
end_made went.Went = end.NoMemory
end_made went.JournalFull = end.JournalFull
end_made (went.PowerLost side) = end.NoMemory
end_made went.NoMemory = end.NoMemory

-- the summary of the trace of so many rounds is written where they were carried out whole, and nothing else
abbrev pub MakesRounds : SinkTold → Plans → ℕ → RunEnd → Type 0
MakesRounds out plans rounds end.Whole =
    (went_of plans (make_schedule rounds) ≡ went.Went)
    × WroteText out (summary_of rounds (trace_text plans (make_schedule rounds)))
MakesRounds out plans rounds end.Slip = (went_of plans (make_schedule rounds) ≡ went.Slip) × WroteText out []
MakesRounds out plans rounds end.Turns = (went_of plans (make_schedule rounds) ≡ went.Turns) × WroteText out []
MakesRounds out plans rounds end.NumbersSpent =
    (went_of plans (make_schedule rounds) ≡ went.NumbersSpent) × WroteText out []
MakesRounds out plans rounds end.JournalFull =
    (went_of plans (make_schedule rounds) ≡ went.JournalFull) × WroteText out []
MakesRounds out plans rounds end.NoMemory = WroteText out []
MakesRounds out plans rounds end.WriteFailed =
    (went_of plans (make_schedule rounds) ≡ went.Went)
    × WroteShort out (summary_of rounds (trace_text plans (make_schedule rounds)))
