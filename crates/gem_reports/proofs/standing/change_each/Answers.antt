-- The last change is made, and the reports are seen behind the others as before.

use Rattle.std.proofs.Common.{true≢false, sym, ◌∙◌, ap, subst, cond, ℕ, ◌+◌, List, ◌++◌, is_some, option_to_list, Option, IsSome, arith}
use Rattle.indexmap.specs.IndexMap.{index_map_len}
use Rattle.gem_reports.specs.Tables.{ReportTable, vids_behind}
use Rattle.gem_reports.proofs.Steps.{last_behind, none_left}
use Rattle.gem_reports.proofs.standing.change_each.Goals as goal

pub change_one-requires : goal.change_one-requires
change_one-requires c =
    let one =
    ap (λ (o : Option (ℕ × List ℕ)). index_map_len c.pop.new.self + cond (is_some o) 1 0) (sym c.in-Some.is)
    ∙ c.pop.ensures.len in
    let room = c.changes.invariant.room in
    omega (arith, one, room)

pub changes-preserved : goal.changes-preserved
changes-preserved c =
    let reports = c.changes.reports.entries in
    let now = c.change_one.new.reports.entries in
    let left = c.pop.new.self.entries in
    let all =
    c.pop.ensures.entries ∙ ap (λ (o : Option (ℕ × List ℕ)). left ++ option_to_list o) c.in-Some.is in
    let one =
    ap (λ (o : Option (ℕ × List ℕ)). index_map_len c.pop.new.self + cond (is_some o) 1 0) (sym c.in-Some.is)
    ∙ c.pop.ensures.len in
    let room = c.changes.invariant.room in
    let spent = c.change_one.ensures.room in
    record {
      each = λ q. last_behind left c.in-Some.rptid c.in-Some.vids reports now q (c.change_one.ensures.each q)
          ∙ ap (λ (t : ReportTable). vids_behind t reports q) (sym all)
          ∙ c.changes.invariant.each q;
      room = omega (arith, one, room, spent);
      distinct = c.change_one.ensures.distinct;
    }

pub changes-smaller : goal.changes-smaller
changes-smaller c =
    let one =
    ap (λ (o : Option (ℕ × List ℕ)). index_map_len c.pop.new.self + cond (is_some o) 1 0) (sym c.in-Some.is)
    ∙ c.pop.ensures.len in
    omega (arith, one)

pub returns-clause-each : goal.returns-clause-each
returns-clause-each c = λ q.
    ap (λ (t : ReportTable). vids_behind t c.changes.reports.entries q)
    (sym (none_left c.changes.changes.entries
    (λ some. true≢false (sym (subst (λ (o : Option (ℕ × List ℕ)). IsSome o) c.in_default.is (c.pop.ensures.found.1 some))))))
    ∙ c.changes.invariant.each q
