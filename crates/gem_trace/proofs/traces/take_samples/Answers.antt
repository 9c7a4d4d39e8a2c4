-- The two passes, and what goes on behind them.

use Rattle.std.proofs.Common.{◌≡◌, sym, ◌∙◌, ap, arith, subst, rules, filter, length, map}
use Rattle.std.specs.Prelude.{All}
use Rattle.std.proofs.lemmas.Fn.{filter_same}
use Rattle.std.proofs.lemmas.List.{take_at}
use Rattle.gem_trace.specs.Kept.{IsKept, bodies_read, goes_on, seen, settled, with_reading}
use Rattle.gem_trace.proofs.Passes.{all_readings_kept, all_settled_kept, bodies_are_due, passes_all}
use Rattle.gem_trace.proofs.traces.take_samples.Goals as goal

pub returns-clause-ok : goal.returns-clause-ok
returns-clause-ok c =
    let vars = c.args.vars.now in
    let now = c.args.now in
    let traces = c.args.running.now.items in
    let long : length c.read_each.new.running ≡ c.args.running.now.len =
    omega (arith, c.read_each.auto.running, c.as_mut_slice.ensures.len) in
    let long_still : length c.settle_each-bodies.new.running ≡ c.args.running.now.len =
    omega (arith, c.settle_each-bodies.auto.running, c.as_mut_slice-2.ensures.len) in
    let read = c.in_ok-read_each.ensures.ok ∙ ap (map (with_reading vars now)) c.as_mut_slice.ensures.value in
    let is : c.retain.new.self.items ≡ filter goes_on (map (settled now) (map (with_reading vars now) traces)) =
    filter_same _ goes_on _ (λ x b f k. search rules) _ _ c.retain.ensures.filtered
    ∙ ap (filter goes_on)
    (take_at c.settle_each-bodies.new.running _ _ long_still ∙ c.settle_each-bodies.ensures.traces
    ∙ ap (map (settled now))
    (c.as_mut_slice-2.ensures.value ∙ take_at c.read_each.new.running _ _ long ∙ read))
    in
    ap (map seen) is ∙ passes_all vars now traces c.requires.kept

pub returns-clause-keeps : goal.returns-clause-keeps
returns-clause-keeps c =
    let vars = c.args.vars.now in
    let now = c.args.now in
    let traces = c.args.running.now.items in
    let long : length c.read_each.new.running ≡ c.args.running.now.len =
    omega (arith, c.read_each.auto.running, c.as_mut_slice.ensures.len) in
    let long_still : length c.settle_each-bodies.new.running ≡ c.args.running.now.len =
    omega (arith, c.settle_each-bodies.auto.running, c.as_mut_slice-2.ensures.len) in
    let read = c.in_ok-read_each.ensures.ok ∙ ap (map (with_reading vars now)) c.as_mut_slice.ensures.value in
    let is : c.retain.new.self.items ≡ filter goes_on (map (settled now) (map (with_reading vars now) traces)) =
    filter_same _ goes_on _ (λ x b f k. search rules) _ _ c.retain.ensures.filtered
    ∙ ap (filter goes_on)
    (take_at c.settle_each-bodies.new.running _ _ long_still ∙ c.settle_each-bodies.ensures.traces
    ∙ ap (map (settled now))
    (c.as_mut_slice-2.ensures.value ∙ take_at c.read_each.new.running _ _ long ∙ read))
    in
    subst (All IsKept) (sym is)
    (all_settled_kept now (map (with_reading vars now) traces) (all_readings_kept vars now traces c.requires.kept))

pub returns-clause-bodies : goal.returns-clause-bodies
returns-clause-bodies c =
    let vars = c.args.vars.now in
    let now = c.args.now in
    let traces = c.args.running.now.items in
    let long : length c.read_each.new.running ≡ c.args.running.now.len =
    omega (arith, c.read_each.auto.running, c.as_mut_slice.ensures.len) in
    let read = c.in_ok-read_each.ensures.ok ∙ ap (map (with_reading vars now)) c.as_mut_slice.ensures.value in
    c.settle_each-bodies.ensures.bodies
    ∙ ap (bodies_read now) (c.as_mut_slice-2.ensures.value ∙ take_at c.read_each.new.running _ _ long ∙ read)
    ∙ bodies_are_due vars now traces
