-- The message in front leaves, or goes to the end with one block more gone, and the queue stays a queue.

use Rattle.std.proofs.Common.{◌∙◌, ap, ◌<◌, ◌+◌, rules, length}
use Rattle.std.proofs.lemmas.List.Elements.{All-get_or}
use Rattle.block_codec.specs.Block.{BlockView}
use Rattle.block_codec.specs.declared.header.Header.{Header}
use Rattle.message_flow.specs.Waiting.{IsWaiting}
use Rattle.message_flow.proofs.Queue.{front-gone, front-turned, one-more-gone}
use Rattle.message_flow.proofs.outgoing.Outgoing.next_block.Goals as goal

pub invariant_of-self-then-header : goal.invariant_of-self-then-header
invariant_of-self-then-header c =
    let first = c.in_ok-first.first.now in
    front-gone _ _ c.self.inside.waiting.items _ (record { message = first.message; gone = first.gone + 1 })
    c.self.invariant c.pop_front.ensures.rest

pub invariant_of-self-else-header : goal.invariant_of-self-else-header
invariant_of-self-else-header c =
    let first = c.in_ok-first.first.now in
    let short : 0 < length c.self.inside.waiting.items = search rules in
    let is : IsWaiting first =
    rw (c.in_ok-first.ensures.value)
    (All-get_or IsWaiting c.self.inside.waiting.items 0 first short c.self.invariant.waiting) in
    let last = ap (λ (h : Header). h.last)
    (c.header.ensures.value ∙ ap (λ (b : BlockView). b.header) c.block-block.ensures.value) in
    front-turned _ _ c.self.inside.waiting.items _ _ c.self.invariant
    (one-more-gone first _ is last c.if-header.false) c.rotate_left.ensures.items
