-- A message that is opened has room, and its check is that of its block's text.

use Rattle.std.proofs.Common.{◌<◌, arith, length}
use Rattle.std.proofs.lemmas.Bool.Decides.{nat_tests}
use Rattle.message_flow.specs.Assembly.{AssemblyView}
use Rattle.message_flow.proofs.Opening.{opened}
use Rattle.message_flow.proofs.assembly.Assembly.begin.Goals as goal
use Rattle.message_flow.proofs.assembly.Assembly.begin.Goals.{else-not-header-2-via-then-not-header-2+else-len-eq-MOST, else-not-header-2-via-else-not-header-2}

pub invariant_of-self-2 : goal.invariant_of-self-2
invariant_of-self-2 c =
    let s = c.self.inside in
    let before : AssemblyView = record {
      receiver = record { side = s.side; device = s.device; t4 = s.t4; max_body = s.max_body };
      last = s.last;
      partials = s.partials.items;
    } in
    let few = c.self.invariant.few in
    let room : length s.partials.items < 16 =
    elim c.else-not-header-2.branch [
      | else-not-header-2-via-then-not-header-2+else-len-eq-MOST w ↦
          let long = w.len.ensures in
          let other = w.if-len-eq-MOST.false in
          grind (arith, nat_tests)
      | else-not-header-2-via-else-not-header-2 w ↦
          let last = w.if-not-header-2.false in
          let part = c.if-header.false in
          absurd (cc)
    ] in
    rw c.in_ok-push.ensures.items
    (opened before c.in_ok-partial.partial c.args.block.now _ c.self.invariant room c.in_ok-partial.ensures
    c.header-header.ensures.is_block)
