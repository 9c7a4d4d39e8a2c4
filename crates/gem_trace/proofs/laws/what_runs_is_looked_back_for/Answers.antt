-- The law, by the lemmas of `History`.

use Rattle.std.proofs.Common.{refl, ◌∙◌, ap}
use Rattle.gem_trace.specs.Laws.{after_entry}
use Rattle.gem_trace.specs.Traces.{bodies_due}
use Rattle.gem_trace.proofs.History.{bodies_are, entry_after}
use Rattle.gem_trace.proofs.laws.what_runs_is_looked_back_for.Goals as goal

pub returns : goal.returns
returns c = record {
  first = refl;
  next = λ running past entry stands. ap (λ ts. after_entry ts entry) stands ∙ entry_after past entry;
  bodies = λ running past look stands. ap (bodies_due look.vars look.now) stands ∙ bodies_are past look;
}
