-- One value more is measured; with all measured the list is.

use Rattle.std.proofs.Common.{sym, ◌∙◌, ap, List, ℕ, length, arith}
use Rattle.std.proofs.lemmas.List.{take_all}
use Rattle.std.specs.List.{filter_map}
use Rattle.secs_items.specs.Measures.{capped}
use Rattle.secs_items.proofs.SpelledLengths.{together}
use Rattle.gem_vars.specs.Tables.{value_in}
use Rattle.gem_reports.proofs.Spelled.{measured_more}
use Rattle.gem_reports.proofs.lengths.values_len.Goals as goal

pub loop-vid-preserved : goal.loop-vid-preserved
loop-vid-preserved c =
    measured_more (value_in c.args.vars.now) c.args.vids.now c.loop-vid.vid-index 0 c.loop-vid.count c.loop-vid.len
    c.value_size-one.result.0 c.value_size-one.result.1 _ (omega arith) c.value_size-one.ensures.few
    c.value_size-one.ensures.count c.value_size-one.ensures.len c.saturating_add-len.ensures c.loop-vid.invariant

pub returns : goal.returns
returns c =
    let value = value_in c.args.vars.now in
    let all = take_all c.loop-vid.vid-index c.args.vids.now (omega arith) in
    c.list_len.ensures (filter_map value c.args.vids.now)
    (sym (c.loop-vid.invariant.count_is ∙ ap (λ (vids : List ℕ). length (filter_map value vids)) all))
    (c.loop-vid.invariant.len_is ∙ ap (λ (vids : List ℕ). capped (together (filter_map value vids))) all)
