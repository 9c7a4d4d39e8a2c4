-- What a reading of a file answers and counts (this profile).
use Rattle.std.specs.Prelude.{◌≡◌, ℕ, ◌<◌, ◌≤◌, Bool, true, List, length, bytes_eq, Option, Some, None}
use Rattle.std.specs.List.{find}
use Rattle.std.specs.Option.{option_map, option_and_then}
use Rattle.gl_base.specs.Faults.{Rose}
use Rattle.gl_base.specs.declared.files.MemFile.{MemFile}
use Rattle.gl_base.specs.declared.files.FileAnswer.{FileAnswer}
use Rattle.gl_base.specs.declared.files.FileAnswer.TheVariants.{Whole, Longer, Failed, NoMemory}

-- the bytes of the first file of this name
abbrev pub file_named : List ℕ → List MemFile → Option (List ℕ)
file_named name files = option_map (λ file. file.bytes) (find (λ file. bytes_eq file.name name) files)

-- the same of files that may not be told
abbrev pub told_file : List ℕ → Option (List MemFile) → Option (List ℕ)
told_file name files = option_and_then (file_named name) files

-- a whole file keeps to the limit
abbrev pub FileIsWithin : ℕ → FileAnswer → Type 0
FileIsWithin limit (Whole bytes) = length bytes ≤ limit
FileIsWithin limit Longer = Unit {0}
FileIsWithin limit Failed = Unit {0}
FileIsWithin limit NoMemory = Unit {0}

-- a file's own bytes, or more of them than the limit
abbrev pub ReadsFileOf : ℕ → Option (List ℕ) → FileAnswer → Type 0
ReadsFileOf limit file (Whole bytes) = (file ≡ Some bytes) × (length bytes ≤ limit)
ReadsFileOf limit file Longer = (bytes : List ℕ) × (file ≡ Some bytes) × (limit < length bytes)
ReadsFileOf limit file Failed = Unit {0}
ReadsFileOf limit file NoMemory = Unit {0}

-- what a reading of the named file gives
abbrev pub ReadsFile : ℕ → List ℕ → Option (List MemFile) → FileAnswer → Type 0
ReadsFile limit name None answer = FileIsWithin limit answer
ReadsFile limit name (Some files) answer = ReadsFileOf limit (file_named name files) answer

-- how many faults were counted, and whether no reading of a file that is there can fail any more
pub record FilesHealth : Type 0 where
  pub faults : ℕ
  pub reliable : Bool

-- one fault was counted, at files that may fail or that don't tell of this one; and files on which one can rely stay so
pub record FileFault (file : Option (List ℕ)) (before now : FilesHealth) : Type 0 where
  pub rose : Rose before.faults now.faults
  pub lacking : before.reliable ≡ true → file ≡ None
  pub relied : before.reliable ≡ true → now.reliable ≡ true

-- the count of faults stands, and files on which one can rely stay so
pub record AreReadOn (before now : FilesHealth) : Type 0 where
  pub same : now.faults ≡ before.faults
  pub relied : before.reliable ≡ true → now.reliable ≡ true

-- a fault is counted where a reading fails, and nowhere else
abbrev pub HasFileCause : Option (List ℕ) → FilesHealth → FilesHealth → FileAnswer → Type 0
HasFileCause file before now Failed = FileFault file before now
HasFileCause file before now (Whole bytes) = AreReadOn before now
HasFileCause file before now Longer = AreReadOn before now
HasFileCause file before now NoMemory = AreReadOn before now
