-- What commands answer.
use Rattle.std.proofs.Common.{ℕ, List, None, Result, Ok, Err}
use Rattle.gemline_app.specs.Gemline.{HexAnswers, HexRefuses, ItemAnswers, ItemRefuses}
use Rattle.gemline_app.specs.HexInput.{HexMeans}
use Rattle.gemline_app.specs.HexReading.{Gives, bytes_from}
use Rattle.gemline_app.specs.Spelling.{refusal_of}
use Rattle.gemline_app.specs.declared.hex_input.HexFault.{HexFault}
use Rattle.gemline_app.specs.declared.hex_input.HexFault.TheVariants as hex_fault
use Rattle.gemline_app.proofs.HexLaws.{read_break}
use Rattle.gemline_app.specs.declared.outcome.Outcome.{Outcome}
use Rattle.gemline_app.specs.declared.outcome.Outcome.TheVariants.{Done, Usage, BadFrame, BadText, BadHex, BadItem, BadLine, Longer, FileLonger, FileFailed, ReadFailed, NoMemory, WriteFailed, TurnsSpent, NumbersSpent, Slip, DiskFailed, NotSpool, BadPlan, BadScript, LinkFailed, JournalFull}

hex_refuses : (digits bytes : List ℕ) (refusal : Outcome) → HexMeans bytes digits → ItemRefuses bytes refusal
    → HexRefuses digits refusal
hex_refuses digits bytes Done means refuses = absurd refuses
hex_refuses digits bytes Usage means refuses = absurd refuses
hex_refuses digits bytes (BadFrame named) means refuses = absurd refuses
hex_refuses digits bytes (BadText at) means refuses = absurd refuses
hex_refuses digits bytes (BadHex at) means refuses = absurd refuses
hex_refuses digits bytes (BadItem fault) means refuses = (bytes, means, refuses)
hex_refuses digits bytes Longer means refuses = absurd refuses
hex_refuses digits bytes ReadFailed means refuses = absurd refuses
hex_refuses digits bytes NoMemory means refuses = tt
hex_refuses digits bytes WriteFailed means refuses = absurd refuses
hex_refuses digits bytes (BadLine number) means refuses = absurd refuses
hex_refuses digits bytes (FileLonger which) means refuses = absurd refuses
hex_refuses digits bytes (FileFailed which) means refuses = absurd refuses
hex_refuses digits bytes TurnsSpent means refuses = absurd refuses
hex_refuses digits bytes NumbersSpent means refuses = absurd refuses
hex_refuses digits bytes DiskFailed means refuses = absurd refuses
hex_refuses digits bytes (NotSpool at) means refuses = absurd refuses
hex_refuses digits bytes Slip means refuses = absurd refuses
hex_refuses digits bytes (BadPlan key what) means refuses = absurd refuses
hex_refuses digits bytes (BadScript number) means refuses = absurd refuses
hex_refuses digits bytes LinkFailed means refuses = absurd refuses
hex_refuses digits bytes JournalFull means refuses = absurd refuses

-- what bytes give, their hex gives
pub hex_answers : (digits bytes : List ℕ) (answer : Result (List ℕ) Outcome) → HexMeans bytes digits
    → ItemAnswers bytes answer
    → HexAnswers digits answer
hex_answers digits bytes (Ok line) means (item, spelled, is) = (item, (bytes, means, spelled), is)
hex_answers digits bytes (Err refusal) means refuses = hex_refuses digits bytes refusal means refuses

pub hex_refusal : (digits : List ℕ) (fault : HexFault) → Gives (Err fault) (bytes_from None 0 digits)
    → HexRefuses digits (refusal_of fault)
hex_refusal digits (hex_fault.Break at) gives = read_break digits at gives
hex_refusal digits hex_fault.NoMemory gives = tt
