-- A fault shows that the bytes are no block's frame, and a block that is answered is the only one of its frame.

use Rattle.std.proofs.Common.{◌≡◌, Ok, ap}
use Rattle.block_codec.proofs.Frames.{fault_of-no_frame, fault_of-wrong_sum, frame_bytes-from_split, frame_bytes-one}
use Rattle.block_codec.specs.Frame.{frame_bytes}
use Rattle.block_codec.proofs.frame.block_of.Goals as goal

-- the bytes are the frame of the block that is answered
is_frame : (c : goal.After-block_from) → c.args.bytes.now ≡ frame_bytes c.block_from.result
is_frame c =
    frame_bytes-from_split _ _ _ _ c.in_ok-counted.ensures.ok c.block_from.ensures.counted
    (rw (← c.sum_of-want.ensures, ← c.if-got-want.true) c.number_of-got.ensures.bytes)

pub returns-in_err-counted-clause-every : goal.returns-in_err-counted-clause-every
returns-in_err-counted-clause-every c =
    λ block in_block of_block. absurd (fault_of-no_frame _ _ block c.in_err-counted.ensures.fault in_block of_block)

pub returns-then-got-want-clause-ok : goal.returns-then-got-want-clause-ok
returns-then-got-want-clause-ok c = (c.block_from.ensures.is_block, is_frame c)

pub returns-then-got-want-clause-every : goal.returns-then-got-want-clause-every
returns-then-got-want-clause-every c =
    λ block in_block of_block.
    ap Ok (frame_bytes-one _ _ _ c.block_from.ensures.is_block in_block (is_frame c) of_block)

pub returns-else-got-want-clause-every : goal.returns-else-got-want-clause-every
returns-else-got-want-clause-every c =
    let fault = fault_of-wrong_sum _ _ _ c.in_ok-counted.ensures.ok
    (rw (← c.sum_of-want.ensures, ← c.number_of-got.ensures.number) c.if-got-want.false)
    in
    λ block in_block of_block. absurd (fault_of-no_frame _ _ block fault in_block of_block)
