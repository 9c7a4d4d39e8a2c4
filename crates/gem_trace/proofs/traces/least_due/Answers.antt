-- What the iterator yields are the moments of the traces.

use Rattle.std.proofs.Common.{rules, tests, sym, ◌∙◌, ap}
use Rattle.std.specs.Prelude.{min}
use Rattle.std.specs.List.{reduce}
use Rattle.std.proofs.lemmas.Iterator.{YieldsList-from_map, YieldsList-from_slice}
use Rattle.std.proofs.lemmas.Iterator.Adapters.{option_map_id}
use Rattle.std.proofs.lemmas.Iterator.Consumers.{min_from_yields_List}
use Rattle.gem_trace.specs.declared.trace.Trace.{Trace}
use Rattle.gem_trace.proofs.Passes.{dues_seen}
use Rattle.gem_trace.proofs.traces.least_due.Goals as goal

pub returns : goal.returns
returns c =
    sym (option_map_id _)
    ∙ min_from_yields_List _ _ c.min.ensures.ran
    (YieldsList-from_map _ (λ (t : Trace). t.due) (YieldsList-from_slice c.args.running.now cc) c.map.ensures.closure
    (λ x r q k. search (rules, tests)))
    ∙ ap (reduce min) (sym (dues_seen c.args.running.now))
