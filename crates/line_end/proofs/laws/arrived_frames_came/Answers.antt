-- The law, by the lemmas of `Arrivals`.

use Rattle.std.proofs.Common.{refl}
use Rattle.line_end.specs.State.{new_state}
use Rattle.line_end.proofs.Arrivals.{came_whole}
use Rattle.line_end.proofs.laws.arrived_frames_came.Goals as goal

pub returns : goal.returns
returns c = λ side times before call block told. came_whole (new_state side times) refl before call block told
