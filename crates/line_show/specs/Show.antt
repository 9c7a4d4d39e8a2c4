-- What `show` writes of a capture (this profile).
use Rattle.std.specs.Prelude.{◌≡◌, ℕ, List, ◌++◌, Result, Ok, Err}
use Rattle.gl_base.specs.Faults.{Rose}
use Rattle.gl_base.specs.Sending.{IsUnderWay, WroteShort, WroteText}
use Rattle.gl_base.specs.Told.{SinkTold}
use Rattle.line_show.specs.Capture.{Piece, Reads}
use Rattle.line_show.specs.Lines.{lines_of}
use Rattle.line_show.specs.declared.capture.Ending.{Ending}
use Rattle.line_show.specs.declared.printer.Stop.{Stop}
use Rattle.line_show.specs.declared.printer.Stop.TheVariants.{NoMemory, WriteFailed}

-- the lines of some of the pieces went out, from the first one on
pub record WroteFirst (out : SinkTold) (pieces : List Piece) : Type 0 where
  pub first : List Piece
  pub rest : List Piece
  pub whole : pieces ≡ first ++ rest
  pub wrote : WroteText out (lines_of first)

-- all lines and the ending; or the lines of some pieces, each of them whole, where memory ran out; or a part of the
-- text
abbrev pub ShowsPieces : SinkTold → List Piece → Ending → Result Ending Stop → Type 0
ShowsPieces out pieces ending (Ok found) = (found ≡ ending) × WroteText out (lines_of pieces)
ShowsPieces out pieces ending (Err NoMemory) = WroteFirst out pieces
ShowsPieces out pieces ending (Err WriteFailed) = WroteShort out (lines_of pieces)

-- whatever pieces and ending the capture is, their lines
abbrev pub Shows : SinkTold → List ℕ → Result Ending Stop → Type 0
Shows out capture result =
    (pieces : List Piece) (ending : Ending) → Reads capture pieces ending → ShowsPieces out pieces ending result

-- a fault is counted where a write fails, and nowhere else, whatever the capture is
abbrev pub HasStopCause : SinkTold → Result Ending Stop → Type 0
HasStopCause out (Ok ending) = out.health_after.faults ≡ out.health.faults
HasStopCause out (Err NoMemory) = out.health_after.faults ≡ out.health.faults
HasStopCause out (Err WriteFailed) = Rose out.health.faults out.health_after.faults

-- lines are put behind what a page holds; none of them where memory runs out
abbrev pub PutsLines : SinkTold → List ℕ → List ℕ → List ℕ → Result (Unit {0}) Stop → Type 0
PutsLines out old lines new (Ok done) = IsUnderWay out (old ++ lines) new
PutsLines out old lines new (Err NoMemory) = IsUnderWay out old new
PutsLines out old lines new (Err WriteFailed) = WroteShort out (old ++ lines)
