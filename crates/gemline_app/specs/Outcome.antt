-- The statuses that the program ends with, and the line that tells of each (this profile).
use Rattle.std.specs.Prelude.{ℕ, List, [], ◌++◌, codes, decimal, Option, Result, Ok, Err}
use Rattle.std.specs.Int.{w16, to_be_bytes}
use Rattle.command_words.specs.Asked.{Asked}
use Rattle.command_words.specs.declared.command.WordsFault.{WordsFault}
use Rattle.command_words.specs.declared.command.WordsFault.TheVariants as words_fault
use Rattle.gem_config.specs.declared.fault.ConfigWhat.{ConfigWhat}
use Rattle.gem_config.specs.declared.fault.ConfigWhat.TheVariants as what_is
use Rattle.hex.specs.Hex.{encode_upper}
use Rattle.line_show.specs.Bodies.{fault_text}
use Rattle.line_show.specs.declared.capture.Break.{Break}
use Rattle.line_show.specs.declared.capture.Break.TheVariants.{Length, Short, Sum}
use Rattle.line_show.specs.declared.capture.Ending.{Ending}
use Rattle.line_show.specs.declared.capture.Ending.TheVariants.{Whole, Broken}
use Rattle.line_show.specs.declared.printer.Stop.{Stop}
use Rattle.line_show.specs.declared.printer.Stop.TheVariants as stop
use Rattle.gemline_app.specs.Words.{name_in}
use Rattle.gemline_app.specs.declared.outcome.Outcome.{Outcome}
use Rattle.gemline_app.specs.declared.outcome.Outcome.TheVariants.{Done, Usage, BadFrame, BadText, BadHex, BadItem, BadLine, Longer, FileLonger, FileFailed, ReadFailed, NoMemory, WriteFailed, TurnsSpent, NumbersSpent, Slip, DiskFailed, NotSpool, BadPlan, BadScript, LinkFailed, JournalFull}

-- what words come to that are no command
abbrev pub refusal_of : WordsFault → Outcome
refusal_of words_fault.Usage = Usage
refusal_of words_fault.NoMemory = NoMemory

-- what showing a capture came to
abbrev pub outcome_of_show : Result Ending Stop → Outcome
outcome_of_show (Ok Whole) = Done
outcome_of_show (Ok (Broken named)) = BadFrame named
outcome_of_show (Err stop.NoMemory) = NoMemory
outcome_of_show (Err stop.WriteFailed) = WriteFailed

abbrev pub status_of : Outcome → ℕ
status_of Done = 0
status_of Usage = 64
status_of (BadFrame named) = 65
status_of (BadText at) = 65
status_of (BadHex at) = 65
status_of (BadItem fault) = 65
status_of (BadPlan key what) = 65
status_of (BadLine number) = 65
status_of Longer = 65
status_of (FileLonger which) = 65
status_of (FileFailed which) = 66
status_of ReadFailed = 68
status_of NoMemory = 71
status_of WriteFailed = 73
status_of TurnsSpent = 75
status_of Slip = 76
status_of NumbersSpent = 77
status_of DiskFailed = 74
status_of (NotSpool at) = 78
status_of (BadScript number) = 65
status_of LinkFailed = 69
status_of JournalFull = 80

-- a checksum, in four hex digits
abbrev pub sum_text : ℕ → List ℕ
sum_text sum = encode_upper (to_be_bytes w16 sum)

-- a broken frame's place, and what is wrong with it
abbrev pub break_text : Break → List ℕ
break_text (Length at n) = decimal at ++ codes ": length " ++ decimal n
break_text (Short at) = decimal at ++ codes ": short"
break_text (Sum at want found) = decimal at ++ codes ": sum " ++ sum_text want ++ codes " found " ++ sum_text found

-- the name of the file or of the key that an outcome speaks of, if it speaks of one
abbrev pub name_of : Option Asked → Outcome → List ℕ
name_of asked (BadPlan key what) = key
name_of asked (FileLonger which) = name_in asked which
name_of asked (FileFailed which) = name_in asked which
name_of asked _ = []

-- what is said before that name, and all where there is none. Nothing is said of work that is done
abbrev pub head_of : Outcome → List ℕ
head_of Done = []
head_of Usage = codes "gemline: 64 usage\n"
head_of (BadFrame named) = codes "gemline: 65 frame at " ++ break_text named ++ codes "\n"
head_of (BadText at) = codes "gemline: 65 text at " ++ decimal at ++ codes "\n"
head_of (BadHex at) = codes "gemline: 65 hex at " ++ decimal at ++ codes "\n"
head_of (BadItem fault) = codes "gemline: 65 item " ++ fault_text fault ++ codes "\n"
head_of (BadPlan key what) = codes "gemline: 65 plan "
head_of (BadLine number) = codes "gemline: 65 schedule line " ++ decimal number ++ codes "\n"
head_of Longer = codes "gemline: 65 input longer\n"
head_of (FileLonger which) = codes "gemline: 65 file "
head_of (FileFailed which) = codes "gemline: 66 file "
head_of ReadFailed = codes "gemline: 68 read\n"
head_of NoMemory = codes "gemline: 71 memory\n"
head_of WriteFailed = codes "gemline: 73 write\n"
head_of TurnsSpent = codes "gemline: 75 turns\n"
head_of Slip = codes "gemline: 76 slip\n"
head_of NumbersSpent = codes "gemline: 77 numbers\n"
head_of DiskFailed = codes "gemline: 74 disk\n"
head_of (NotSpool at) = codes "gemline: 78 not a spool at " ++ decimal at ++ codes "\n"
head_of (BadScript number) = codes "gemline: 65 script line " ++ decimal number ++ codes "\n"
head_of LinkFailed = codes "gemline: 69 link\n"
head_of JournalFull = codes "gemline: 80 journal full\n"

-- what is wrong with a key
abbrev pub what_text : ConfigWhat → List ℕ
what_text what_is.Syntax = codes " Syntax\n"
what_text what_is.Missing = codes " Missing\n"
what_text what_is.Kind = codes " Kind\n"
what_text what_is.Range = codes " Range\n"
what_text what_is.Repeated = codes " Repeated\n"
what_text what_is.Unknown = codes " Unknown\n"

-- and behind it
abbrev pub tail_of : Outcome → List ℕ
tail_of (BadPlan key what) = what_text what
tail_of (FileLonger which) = codes " longer\n"
tail_of (FileFailed which) = codes "\n"
tail_of _ = []

-- the line that tells of an outcome, which speaks of this name if of any
abbrev pub line_of : List ℕ → Outcome → List ℕ
line_of name outcome = head_of outcome ++ (name ++ tail_of outcome)
