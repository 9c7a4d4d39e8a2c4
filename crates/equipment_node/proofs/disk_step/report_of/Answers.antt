use Rattle.std.proofs.Common.{◌≡◌, ap, sym, subst, ◌∙◌, ◌≤◌, ℕ, length, take}
use Rattle.block_codec.specs.Protocol.{longest_text}
use Rattle.equipment_node.proofs.Found.{is-kept, short-enough}
use Rattle.equipment_node.proofs.disk_step.report_of.Goals as goal

pub of_kept-requires-clause-short : goal.of_kept-requires-clause-short
of_kept-requires-clause-short c =
    let cut : c.truncate.new.self ≡ take 1048576 c.args.kept.body =
    c.truncate.ensures ∙ ap (λ (n : ℕ). take n c.args.kept.body) c.body_most.ensures.most in
    subst (λ body. length body ≤ longest_text) (sym cut) (short-enough c.args.kept.body)

pub returns-clause-is : goal.returns-clause-is
returns-clause-is c stream odd short =
    let cut : c.truncate.new.self ≡ take 1048576 c.args.kept.body =
    c.truncate.ensures ∙ ap (λ (n : ℕ). take n c.args.kept.body) c.body_most.ensures.most in
    c.of_kept.ensures c.primary_function.ensures.odd
    ∙ is-kept c.args.kept.stream c.args.kept.function c.primary_function.result c.args.kept.body c.truncate.new.self
    stream (c.primary_function.ensures.same odd) short cut
