-- That what the steps of a host have written is noted behind the ends of these steps, so that nothing is owed then.
use Rattle.std.specs.Prelude.{List, [], ◌∷◌}
use Rattle.journal_law.specs.Kept.{HasNoGap}
use Rattle.journal_node.specs.End.{machine}
use Rattle.journal_node.specs.Journal.{started_on}
use Rattle.line_end.specs.declared.plan.HostPlan.{HostPlan}
use Rattle.message_end.specs.Course.{Meeting, course_of, notes_of}
use Rattle.spool_file.specs.File.{SpoolFile}
use Rattle.trace_log.specs.declared.commands.HostCommand.{HostCommand}
use Rattle.trace_log.specs.Log.{Happening}
use Rattle.trace_log.specs.Log.Happening.{HostStarted, Power, StepEnded, Wrote}

-- the newest of these notes is a start or the end of a step, but for what the world notes
abbrev pub AreEnded : List Happening → Type 0
AreEnded [] = ⊥
AreEnded (StepEnded ∷ before) = Unit {0}
AreEnded (HostStarted journal ∷ before) = Unit {0}
AreEnded (Wrote characters ∷ before) = AreEnded before
AreEnded (Power ∷ before) = AreEnded before
AreEnded (_ ∷ before) = ⊥

-- so it is wherever characters are noted that a step has written
abbrev pub WriteInTurn : List Happening → Type 0
WriteInTurn [] = Unit {0}
WriteInTurn (Wrote characters ∷ before) = AreEnded before × WriteInTurn before
WriteInTurn (_ ∷ before) = WriteInTurn before

-- whatever the host meets over all its starts (this profile)
abbrev pub JournalsWriteInTurn : Type 0
JournalsWriteInTurn =
    (plan : HostPlan) (file : SpoolFile) → HasNoGap file → (meetings : List (Meeting HostCommand))
    → WriteInTurn (notes_of (course_of (started_on plan file) machine meetings))
