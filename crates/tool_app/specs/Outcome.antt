-- The line that tells how `gemline_tool` has ended, where the status isn't 0 (this profile).
use Rattle.std.specs.Prelude.{ℕ, List, [], ◌∷◌, ◌++◌, codes, decimal}
use Rattle.gemline_app.specs.Outcome.{what_text}
use Rattle.gemline_app.specs.declared.outcome.Outcome.{Outcome}
use Rattle.gemline_app.specs.declared.outcome.Outcome.TheVariants.{Done, Usage, FileLonger, FileFailed, ReadFailed, NoMemory, WriteFailed, TurnsSpent, NumbersSpent, DiskFailed, NotSpool, BadPlan, LinkFailed}

-- the names of the words
pub record Named : Type 0 where
  pub plan : List ℕ
  pub address : List ℕ
  pub spool : List ℕ

-- what is said first
abbrev pub head_of : Outcome → List ℕ
head_of Done = []
head_of Usage = codes "gemline_tool: 64 usage: gemline_tool PLAN ADDRESS SPOOL, or gemline_tool --help"
head_of (BadPlan key what) = codes "gemline_tool: 65 plan "
head_of (FileLonger which) = codes "gemline_tool: 65 plan "
head_of (FileFailed which) = codes "gemline_tool: 66 plan "
head_of ReadFailed = codes "gemline_tool: 68 input"
head_of LinkFailed = codes "gemline_tool: 69 address "
head_of NoMemory = codes "gemline_tool: 71 memory"
head_of WriteFailed = codes "gemline_tool: 73 output"
head_of DiskFailed = codes "gemline_tool: 74 spool file "
head_of TurnsSpent = codes "gemline_tool: 75 turns"
head_of NumbersSpent = codes "gemline_tool: 77 spool file "
head_of (NotSpool at) = codes "gemline_tool: 78 spool file "
head_of _ = codes "gemline_tool"

-- the file or the address that it is about
abbrev pub name_of : Named → Outcome → List ℕ
name_of names (BadPlan key what) = names.plan
name_of names (FileLonger which) = names.plan
name_of names (FileFailed which) = names.plan
name_of names LinkFailed = names.address
name_of names DiskFailed = names.spool
name_of names NumbersSpent = names.spool
name_of names (NotSpool at) = names.spool
name_of names _ = []

-- what is wrong with it
abbrev pub detail_of : Outcome → List ℕ
detail_of (BadPlan key what) = codes ": " ++ key
detail_of (FileLonger which) = codes ": longer than 1 MiB"
detail_of NumbersSpent = codes ": no system bytes are left"
detail_of (NotSpool at) = codes ": not a spool at " ++ decimal at
detail_of _ = []

-- what the system has said of it
abbrev pub reason_text : List ℕ → List ℕ
reason_text [] = []
reason_text (b ∷ reason) = codes ": " ++ b ∷ reason

-- and the line's end
abbrev pub end_of : Outcome → List ℕ
end_of Done = []
end_of (BadPlan key what) = what_text what
end_of _ = codes "\n"

-- the line, with what the system has said, if anything
abbrev pub line_of : Named → Outcome → List ℕ → List ℕ
line_of names outcome reason =
    head_of outcome ++ (name_of names outcome ++ (detail_of outcome ++ (reason_text reason ++ end_of outcome)))
