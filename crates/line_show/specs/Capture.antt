-- A capture: frames and characters of the handshake one after another, read until a frame is broken (this profile).
use Rattle.std.specs.Prelude.{◌≡◌, ◌≢◌, ◌==◌, ◌||◌, ◌+◌, ℕ, Bool, true, false, List, [], ◌∷◌, ◌++◌, length, take, drop, slice_index, Option, Some, None, Result, Ok, Err}
use Rattle.block_codec.specs.Block.{BlockView, IsBlock}
use Rattle.block_codec.specs.Fault.{fault_of}
use Rattle.block_codec.specs.Frame.{frame_bytes}
use Rattle.block_codec.specs.Protocol.{ack, enq, eot, nak}
use Rattle.block_codec.specs.declared.frame.BlockFault.{BlockFault}
use Rattle.block_codec.specs.declared.frame.BlockFault.TheVariants as fault
use Rattle.line_show.specs.declared.capture.Break.{Break}
use Rattle.line_show.specs.declared.capture.Break.TheVariants as break
use Rattle.line_show.specs.declared.capture.Ending.{Ending}
use Rattle.line_show.specs.declared.capture.Ending.TheVariants.{Whole, Broken}

-- what stands at a place of a capture: a character of the handshake, or the frame of a block
pub data Piece : Type 0 where
  Character : (byte : ℕ) → Piece
  Framed : (block : BlockView) → Piece

-- ENQ, EOT, ACK or NAK, which stand between frames (SEMI E4, handshake)
abbrev pub is_character : ℕ → Bool
is_character byte = byte == enq || byte == eot || byte == ack || byte == nak

-- the bytes that a frame in front has by its length byte, or what there is of them
abbrev pub front_frame : List ℕ → List ℕ
front_frame bytes = take (slice_index bytes 0 + 3) bytes

-- what is in front is no good frame
abbrev pub HasFault : List ℕ → Type 0
HasFault bytes = (fault : BlockFault) × (fault_of (front_frame bytes) ≡ Some fault)

-- what the frame in front was read as
abbrev pub IsRead : List ℕ → Result BlockView BlockFault → Type 0
IsRead bytes (Ok block) = IsBlock block × (front_frame bytes ≡ frame_bytes block)
IsRead bytes (Err fault) = fault_of (front_frame bytes) ≡ Some fault

-- the piece in front by this, where it begins with that byte
abbrev pub piece_of : ℕ → Result BlockView BlockFault → Piece
piece_of first (Ok block) = Piece.Framed block
piece_of first (Err fault) = Piece.Character first

-- the bytes of a piece
abbrev pub piece_bytes : Piece → List ℕ
piece_bytes (Piece.Character byte) = byte ∷ []
piece_bytes (Piece.Framed block) = frame_bytes block

-- A piece may stand in front of these bytes: a block as its frame, and a character where no good frame begins, as one
-- may with 21, which is NAK and a length.
abbrev pub MayStand : Piece → List ℕ → Type 0
MayStand (Piece.Character byte) bytes = (is_character byte ≡ true) × HasFault bytes
MayStand (Piece.Framed block) bytes = IsBlock block

-- a piece in front, and what comes after it
pub record IsFront (bytes : List ℕ) (piece : Piece) (more : List ℕ) : Type 0 where
  pub stands : MayStand piece bytes
  pub whole : bytes ≡ piece_bytes piece ++ more

-- a broken frame, which begins with none of the four characters
pub record HasBreak (bytes : List ℕ) (fault : BlockFault) : Type 0 where
  pub something : bytes ≢ []
  pub no_character : is_character (slice_index bytes 0) ≡ false
  pub broken : fault_of (front_frame bytes) ≡ Some fault

-- the break that a fault of the frame at a place is, where the capture ends at `end`. No frame in front is too long
abbrev pub break_of : ℕ → ℕ → BlockFault → Option Break
break_of place end (fault.Length n) = Some (break.Length place n)
break_of place end (fault.Short came) = Some (break.Short end)
break_of place end (fault.Long came) = None
break_of place end (fault.Sum got want) = Some (break.Sum place want got)

-- what stands at a place ends the reading: nothing, or a broken frame
abbrev pub EndsAs : ℕ → List ℕ → Ending → Type 0
EndsAs place bytes Whole = bytes ≡ []
EndsAs place bytes (Broken named) =
    (fault : BlockFault) × HasBreak bytes fault × (break_of place (place + length bytes) fault ≡ Some named)

-- the pieces stand from a place on, one after another, and then what ends the reading
abbrev pub ReadsFrom : ℕ → List ℕ → List Piece → Ending → Type 0
ReadsFrom place bytes [] ending = EndsAs place bytes ending
ReadsFrom place bytes (piece ∷ pieces) ending =
    (more : List ℕ) × IsFront bytes piece more × ReadsFrom (place + length (piece_bytes piece)) more pieces ending

-- a capture is these pieces and this ending
abbrev pub Reads : List ℕ → List Piece → Ending → Type 0
Reads capture pieces ending = ReadsFrom 0 capture pieces ending

-- a piece is in front at a place of a capture
abbrev pub IsFrontAt : ℕ → List ℕ → Piece → Type 0
IsFrontAt at capture piece = IsFront (drop at capture) piece (drop (at + length (piece_bytes piece)) capture)
