-- A whole message fits, since its receiver and its block do, and its check is that of its text.

use Rattle.std.proofs.Common.{◌∙◌, ap}
use Rattle.message_flow.specs.Assembly.{AssemblyView}
use Rattle.message_flow.specs.Receiver.{IsReceiver}
use Rattle.message_flow.proofs.Fitting.{flow-checked, flow-fits}
use Rattle.message_flow.proofs.assembly.Assembly.accept.Goals as goal

pub returns-clause-whole : goal.returns-clause-whole
returns-clause-whole c =
    let s = c.args.self.now in
    let same = ap (λ (v : AssemblyView). v.receiver) (c.self.view_is ∙ c.in_ok-flow.ensures.partials) in
    let is : IsReceiver s.receiver = rw (← same) c.self.invariant.receiver in
    rw c.in_ok-flow.ensures.flow
    (flow-fits s.receiver s.last s.partials c.args.block.now is c.header.ensures.is_block.header.fits)

pub returns-clause-checked : goal.returns-clause-checked
returns-clause-checked c =
    let s = c.args.self.now in
    rw c.in_ok-flow.ensures.flow (flow-checked s.receiver s.last s.partials c.args.block.now)
