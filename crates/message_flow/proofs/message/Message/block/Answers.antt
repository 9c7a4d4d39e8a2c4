-- The bytes of the block are those at its place in the text.

use Rattle.std.proofs.Common.{◌≡◌, ◌∙◌, ◌-◌, ◌*◌, arith, take, drop}
use Rattle.std.proofs.lemmas.Grind.{common_steps}
use Rattle.std.proofs.lemmas.List.{take_min}
use Rattle.block_codec.proofs.Frames.{block-same}
use Rattle.block_codec.specs.Protocol.{longest_body}
use Rattle.message_flow.specs.Blocks.{numbered_block}
use Rattle.message_flow.proofs.message.Message.block.Goals as goal

pub returns-clause-value : goal.returns-clause-value
returns-clause-value c =
    let made = rw c.unwrap.ensures at c.new.ensures.some in
    let front : c.split_at-2.result.0.now
    ≡ take longest_body (drop (longest_body * (c.args.number - 1)) c.args.self.now.body) =
    grind (arith, common_steps, take_min) in
    block-same c.unwrap.result (numbered_block c.args.side c.args.device c.args.self.now c.args.number)
    (made.0 ∙ c.header.ensures) (made.1 ∙ front)
