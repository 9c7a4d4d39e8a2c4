-- The notes of a step up to the line of a work of the disk, and what follows from a step's definition for them.
use Rattle.std.specs.Prelude.{ℕ, zero, suc, List, [], ◌∷◌, ◌++◌, if◌then◌else◌}
use Rattle.message_flow.specs.declared.step.Note.{Note}
use Rattle.trace_log.specs.Log.{Happening}
use Rattle.spool_works.specs.DiskWorks.{behind_change, up_to_change}

-- the lines up to the one before a change that has so many of these before it, and all where there are fewer
abbrev pub cut_at : ℕ → List Note → List Note
cut_at at [] = []
cut_at zero (note ∷ notes) = note ∷ (if note.before_change then [] else cut_at zero notes)
cut_at (suc at) (note ∷ notes) = note ∷ (if note.before_change then cut_at at notes else cut_at (suc at) notes)

-- the same of what was noted
abbrev pub noted_to : ℕ → List Happening → List Happening
noted_to zero notes = up_to_change notes
noted_to (suc at) notes = up_to_change notes ++ noted_to at (behind_change notes)
