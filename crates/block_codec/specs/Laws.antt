-- What holds of all frames and headers.
use Rattle.std.specs.Prelude.{◌≡◌, ◌<◌, ℕ, ◌+◌, List, ◌++◌, length, take, drop, slice_index, All, None}
use Rattle.block_codec.specs.declared.header.Header.{Header}
use Rattle.block_codec.specs.Block.{BlockView, IsBlock}
use Rattle.block_codec.specs.Fault.{fault_of}
use Rattle.block_codec.specs.Frame.{frame_bytes}
use Rattle.block_codec.specs.Header.{IsHeader, header_bytes}
use Rattle.block_codec.specs.Protocol.{shortest_frame}

-- a frame has no fault (SEMI E4, block)
abbrev pub FramesHaveNoFault : Type 0
FramesHaveNoFault = (block : BlockView) → IsBlock block → fault_of (frame_bytes block) ≡ None

-- no frame is the front of another one, and a frame is of one block (SEMI E4, block)
abbrev pub FramesAreDistinct : Type 0
FramesAreDistinct =
    (a b : BlockView) (after_a after_b : List ℕ) → IsBlock a → IsBlock b
    → frame_bytes a ++ after_a ≡ frame_bytes b ++ after_b → (a ≡ b) × (after_a ≡ after_b)

-- headers with the same bytes are one header (SEMI E4, header)
abbrev pub HeadersAreDistinct : Type 0
HeadersAreDistinct =
    (a b : Header) → IsHeader a → IsHeader b → header_bytes a ≡ header_bytes b → a ≡ b

-- a frame is 13 bytes longer than its body (SEMI E4, block)
abbrev pub FramesAreLonger : Type 0
FramesAreLonger = (block : BlockView) → length (frame_bytes block) ≡ shortest_frame + length block.body

-- where a frame is in front, its first byte and 3 are how many bytes it has (SEMI E4, block)
abbrev pub LengthByteTells : Type 0
LengthByteTells =
    (block : BlockView) (after : List ℕ)
    → let all = frame_bytes block ++ after in
    let end = slice_index all 0 + 3 in
    (take end all ≡ frame_bytes block) × (drop end all ≡ after)

-- bytes with no fault are the frame of a block (SEMI E4, block)
abbrev pub FaultlessBytesAreFrames : Type 0
FaultlessBytesAreFrames =
    (bytes : List ℕ) → All (λ byte. byte < 256) bytes → fault_of bytes ≡ None
    → (block : BlockView) × IsBlock block × (bytes ≡ frame_bytes block)
