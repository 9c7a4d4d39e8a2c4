-- One parameter more is judged; with all judged the refusals are whole.

use Rattle.std.proofs.Common.{sym, ◌∙◌, ap, List, length, get_or, arith}
use Rattle.secs_items.specs.declared.item.Item.{Item}
use Rattle.gem_remote.proofs.Refusing.{no_param, none_listed, param_at, refusals_more, refusals_whole}
use Rattle.gem_remote.proofs.remote.refusals_of.Goals as goal

pub loop-param-preserved : goal.loop-param-preserved
loop-param-preserved c = λ all same.
    let at =
    param_at all c.in-L.params c.as_slice-param-items.result.now c.loop-param.param-index c.param-item.result
    (sym c.in-L.is ∙ same) c.as_slice-param-items.ensures (omega arith) c.param-item.is in
    refusals_more c.args.command.now.params all c.loop-param.param-index no_param c.loop-param.refusals
    c.put_refusal.new.refusals at.within
    (c.in_ok-put_refusal.ensures (get_or all c.loop-param.param-index no_param) at.is)
    (c.loop-param.invariant all same)

pub returns : goal.returns
returns c = λ all same.
    let long = none_listed c.in-L.params all (sym c.in-L.is ∙ same) in
    let items = ap (λ (xs : List Item). length xs) c.as_slice-param-items.ensures in
    refusals_whole c.args.command.now.params all c.loop-param.param-index c.loop-param.refusals
    (omega (arith, long, items)) (c.loop-param.invariant all same)
