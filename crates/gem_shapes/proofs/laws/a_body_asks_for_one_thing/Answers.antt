-- The law, by the lemmas of `Asking`.

use Rattle.gem_shapes.specs.Primaries.{primary_with}
use Rattle.gem_shapes.proofs.Asking.{one_request}
use Rattle.gem_shapes.proofs.laws.a_body_asks_for_one_thing.Goals as goal

pub returns : goal.returns
returns c stream function body request other asks also = one_request (primary_with stream function) body request other asks also
