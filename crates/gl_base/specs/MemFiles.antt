-- Files in memory: the calls whose numbers were given fail, and those for a name that no file has; no others do (this
-- profile).
use Rattle.std.specs.Prelude.{ℕ, nat_le, ◌||◌, List, length, Option, Some, None, is_none, if◌then◌else◌}
use Rattle.gl_base.specs.Calls.{with_call, with_fault, fails_next, is_safe}
use Rattle.gl_base.specs.declared.calls.Calls.{Calls}
use Rattle.gl_base.specs.Files.{FilesHealth, file_named}
use Rattle.gl_base.specs.declared.files.MemFile.{MemFile}
use Rattle.gl_base.specs.declared.files.FileAnswer.{FileAnswer}
use Rattle.gl_base.specs.declared.files.FileAnswer.TheVariants.{Whole, Longer, Failed}

-- the files, and the calls so far
pub record FilesState : Type 0 where
  pub files : List MemFile
  pub calls : Calls

abbrev pub files_health : FilesState → FilesHealth
files_health s = record { faults = s.calls.faults; reliable = is_safe s.calls }

-- a file's bytes up to a limit
abbrev pub answer_up_to : ℕ → Option (List ℕ) → FileAnswer
answer_up_to limit (Some bytes) = if nat_le (length bytes) limit then Whole bytes else Longer
answer_up_to limit None = Failed

-- what a reading answers with ample memory
abbrev pub answer_to_reading : ℕ → List ℕ → FilesState → FileAnswer
answer_to_reading limit name s = if fails_next s.calls then Failed else answer_up_to limit (file_named name s.files)

-- and the files after it
abbrev pub after_reading : List ℕ → FilesState → FilesState
after_reading name s =
    if fails_next s.calls || is_none (file_named name s.files) then record s { calls = with_fault (with_call s.calls) }
    else record s { calls = with_call s.calls }
