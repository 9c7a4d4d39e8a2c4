-- What is kept is what has another TRID.

use Rattle.std.proofs.Common.{◌≡◌, sym, ◌∙◌, ap, subst, rules, filter, map}
use Rattle.std.specs.Prelude.{All}
use Rattle.std.proofs.lemmas.Fn.{filter_same}
use Rattle.std.proofs.lemmas.List.Elements.{All-filter}
use Rattle.gem_trace.specs.Kept.{IsKept, is_other, seen}
use Rattle.gem_trace.proofs.Passes.{others_seen}
use Rattle.gem_trace.proofs.traces.end.Goals as goal

pub returns-clause-seen : goal.returns-clause-seen
returns-clause-seen c =
    let kept : c.retain.new.self.items ≡ filter (is_other c.args.trid) c.args.running.now.items =
    filter_same _ (is_other c.args.trid) _ (λ x b f k. search rules) _ _ c.retain.ensures.filtered in
    ap (map seen) kept ∙ sym (others_seen c.args.trid c.args.running.now.items)

pub returns-clause-keeps : goal.returns-clause-keeps
returns-clause-keeps c =
    let kept : c.retain.new.self.items ≡ filter (is_other c.args.trid) c.args.running.now.items =
    filter_same _ (is_other c.args.trid) _ (λ x b f k. search rules) _ _ c.retain.ensures.filtered in
    subst (All IsKept) (sym kept) (All-filter (is_other c.args.trid) IsKept c.args.running.now.items c.requires)
