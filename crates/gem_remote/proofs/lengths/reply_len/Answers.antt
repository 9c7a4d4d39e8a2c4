-- The refusals are measured one by one; with all measured the reply is.

use Rattle.std.proofs.Common.{sym, ◌∙◌, ap, List, length, get_or, arith}
use Rattle.secs_items.specs.declared.item.Item.{Item}
use Rattle.gem_remote.proofs.Measured.{measured_more, none_measured, reply_measured}
use Rattle.gem_remote.proofs.Refusing.{no_param, none_listed, param_at, refusals_whole}
use Rattle.gem_remote.proofs.lengths.reply_len.Goals as goal

pub loop-param-init : goal.loop-param-init
loop-param-init c = record {
  few = omega arith;
  sizes = λ all same. none_measured c.args.command.now.params all;
}

pub loop-param-preserved : goal.loop-param-preserved
loop-param-preserved c =
    let few = c.loop-param.invariant.few in
    record {
      few = omega (arith, few, c.refusal_size-one.ensures.few);
      sizes = λ all same.
          let at =
          param_at all c.in-L.params c.as_slice-param-items.result.now c.loop-param.param-index c.param-item.result
          (sym c.in-L.is ∙ same) c.as_slice-param-items.ensures (omega arith) c.param-item.is in
          measured_more c.args.command.now.params all c.loop-param.param-index no_param c.loop-param.count
          c.loop-param.len c.refusal_size-one.result _ at.within
          (c.refusal_size-one.ensures.size (get_or all c.loop-param.param-index no_param) at.is)
          c.saturating_add-len.ensures (c.loop-param.invariant.sizes all same);
    }

pub returns : goal.returns
returns c = λ all answer same answers.
    let sizes = c.loop-param.invariant.sizes all same in
    let long = none_listed c.in-L.params all (sym c.in-L.is ∙ same) in
    let items = ap (λ (xs : List Item). length xs) c.as_slice-param-items.ensures in
    let has =
    refusals_whole c.args.command.now.params all c.loop-param.param-index sizes.items (omega (arith, long, items))
    sizes.completes in
    reply_measured c.args.command.now all answer sizes.items c.bare_reply_len.result has answers
    (λ hcack. c.bare_reply_len.ensures hcack sizes.items (sizes.count_is, sizes.len_is))
