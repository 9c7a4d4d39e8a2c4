-- What an end writes.
use Rattle.std.specs.Prelude.{◌≡◌, ℕ, ◌+◌, ◌==◌, ◌&&◌, nat_le, nat_lt, List, [], ◌∷◌, ◌++◌, length, slice_index, Option, Some, None, IfSome, refl}
use Rattle.std.proofs.Common.{sym, ap, ◌∙◌, inl, inr, subst, arith}
use Rattle.block_codec.specs.Block.{BlockView, IsBlock}
use Rattle.block_codec.specs.Frame.{frame_bytes}
use Rattle.block_codec.proofs.Frames.{frame_bytes-same, length-frame_bytes}
use Rattle.gl_base.specs.declared.side.Side.{Side}
use Rattle.gl_base.specs.declared.side.Side.TheVariants.{Equipment, Host}
use Rattle.line_end.specs.declared.event.LineCause.{LineCause}
use Rattle.line_end.specs.declared.event.Phase.{Phase}
use Rattle.line_end.specs.declared.event.Phase.TheVariants.{Idle, AwaitEot, AwaitAck, AwaitLength, Gathering, Settling}
use Rattle.line_end.specs.Frames.{is_frame}
use Rattle.line_end.specs.Laws.{FramesAreOwn, IsOwn}
use Rattle.line_end.specs.State.{LineState}
use Rattle.line_end.specs.Step.{ack, enq, eot, LineCall, Outcome, contends, fails_try, frame_of_held, gathered_in, is_due, line_row, line_step, refuses_at_last}
use Rattle.line_end.specs.Step.LineCall.{Send, Resume, Cancel, Take, Tick}
use Rattle.line_end.specs.Step.LineInput.{Character, Deadline}
use Rattle.line_end.proofs.ByTest.{by_test}

-- what a call of this end writes is its own
abbrev pub WritesOwn : LineState → Outcome → Type 0
WritesOwn s o = IsOwn s.held o.written

pub own-nothing : (s : LineState) → IsOwn s.held []
own-nothing s = inl (omega arith)

pub own-one : (s : LineState) (c : ℕ) → IsOwn s.held (c ∷ [])
own-one s c = inl (omega arith)

pub own-held : (s : LineState) → IsOwn s.held (frame_of_held s.held)
own-held s = go s.held refl
  where
    go : (held : Option BlockView) → s.held ≡ held → IsOwn s.held (frame_of_held held)
    go None is = own-nothing s
    go (Some block) is = inr (block, is, refl)

pub own-fails : (s : LineState) (now : ℕ) → IsOwn s.held (fails_try s now).written
own-fails s now =
    by_test (WritesOwn s) (s.try_number == s.times.rty + 1) (own-nothing s) (own-one s enq)

pub own-contends : (side : Side) (s : LineState) (now : ℕ) → IsOwn s.held (contends side s now).written
own-contends Host s now = own-one s eot
own-contends Equipment s now = own-nothing s

pub own-gathered : (all : List ℕ) (s : LineState) (now : ℕ) → IsOwn s.held (gathered_in all s now).written
own-gathered all s now =
    by_test (WritesOwn s) (nat_lt (length all) (slice_index all 0 + 3)) (own-nothing s)
    (by_test (WritesOwn s) (is_frame all) (own-one s ack) (own-nothing s))

pub own-character :
    (phase : Phase) (s : LineState) (byte now : ℕ)
    → IsOwn s.held (line_row phase (Character byte) s now).written
own-character Idle s byte now = by_test (WritesOwn s) (byte == enq) (own-one s eot) (own-nothing s)
own-character AwaitEot s byte now =
    by_test (WritesOwn s) (byte == eot) (own-held s)
    (by_test (WritesOwn s) (byte == enq) (own-contends s.side s now) (own-nothing s))
own-character AwaitAck s byte now =
    by_test (WritesOwn s) (byte == ack) (own-nothing s) (own-fails s now)
own-character AwaitLength s byte now =
    by_test (WritesOwn s) (nat_le 10 byte && nat_le byte 254) (own-nothing s) (own-nothing s)
own-character Gathering s byte now = own-gathered (s.gathered ++ byte ∷ []) s now
own-character Settling s byte now = own-nothing s

pub own-deadline : (phase : Phase) (s : LineState) (now : ℕ) → IsOwn s.held (line_row phase Deadline s now).written
own-deadline Idle s now = own-nothing s
own-deadline AwaitEot s now = own-fails s now
own-deadline AwaitAck s now = own-fails s now
own-deadline AwaitLength s now = own-one s 21
own-deadline Gathering s now = own-one s 21
own-deadline Settling s now =
    elim s.cause as (λ (cause : Option LineCause). IsOwn s.held (refuses_at_last cause s).written)
    [ None ↦ own-nothing s | Some cause ↦ own-one s 21 ]

pub own-written : (s : LineState) (call : LineCall) → IsOwn s.held (line_step s call).written
own-written s (Send block now) = own-one s enq
own-written s (Resume now) = own-one s enq
own-written s Cancel = own-nothing s
own-written s (Take byte now) = own-character s.phase s byte now
own-written s (Tick now) =
    by_test (WritesOwn s) (is_due s.deadline now) (own-deadline s.phase s now) (own-nothing s)

-- a frame that is written is that of the held block
pub own-frame :
    (s : LineState) (written : List ℕ) → IfSome s.held IsBlock → IsOwn s.held written
    → (block : BlockView) → IsBlock block → written ≡ frame_bytes block → s.held ≡ Some block
own-frame s written in_held (inl short) block in_block is =
    let long = length-frame_bytes block in
    let same = ap length is in
    absurd (omega arith)
own-frame s written in_held (inr (held, holds, frame)) block in_block is =
    let in_own : IsBlock held = subst (λ (o : Option BlockView). IfSome o IsBlock) holds in_held in
    let same =
    frame_bytes-same held block [] [] in_own in_block (ap (λ (front : List ℕ). front ++ []) (sym frame ∙ is))
    in
    holds ∙ ap Some same.0

pub frames_own : FramesAreOwn
frames_own = record {
  written = own-written;
  frame = λ s call block in_held in_block. own-frame s _ in_held (own-written s call) block in_block;
}
