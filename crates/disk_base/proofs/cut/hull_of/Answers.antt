-- The range lies within the disk, and holds all calls.

use Rattle.std.proofs.Common.{◌≤◌, ◌∙◌, List, fold, arith, rules, ap, sym}
use Rattle.std.proofs.lemmas.List.{nil_from_length}
use Rattle.disk_base.specs.Log.{hull_behind}
use Rattle.disk_base.specs.declared.log.LoggedCall.{LoggedCall}
use Rattle.disk_base.proofs.Hulls.{hull_holds, hull_within}
use Rattle.disk_base.proofs.cut.hull_of.Goals as goal

pub returns-clause-within : goal.returns-clause-within
returns-clause-within c =
    let hull = c.loop-entries.hull in
    let none = nil_from_length c.loop-entries.entries.now (omega (arith, c.in_default.len_below)) in
    let is = ap (λ (es : List LoggedCall). fold hull_behind hull es) (sym none) ∙ c.loop-entries.invariant.1 in
    let within = hull_within c.args.size c.args.entries.now (c.args.size, 0) c.requires (omega arith, omega arith) in
    let low : hull.0 ≤ c.args.size = search (rules, within, is) in
    let high : hull.1 ≤ c.args.size = search (rules, within, is) in
    search (rules, low, high)

pub returns-clause-held : goal.returns-clause-held
returns-clause-held c =
    let all = fold hull_behind (c.args.size, 0) c.args.entries.now in
    let hull = c.loop-entries.hull in
    let none = nil_from_length c.loop-entries.entries.now (omega (arith, c.in_default.len_below)) in
    let is = ap (λ (es : List LoggedCall). fold hull_behind hull es) (sym none) ∙ c.loop-entries.invariant.1 in
    let high : all.1 ≤ c.max.result = search (rules, is) in
    let low : hull.0 ≤ all.0 = search (rules, is) in
    (hull_holds c.args.entries.now (c.args.size, 0) hull.0 c.max.result low high).1.1
