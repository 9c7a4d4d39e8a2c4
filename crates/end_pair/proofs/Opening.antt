-- Ends that have numbers to start with.
use Rattle.std.proofs.Common.{◌≡◌, refl}
use Rattle.trace_log.specs.Log.{Happening}
use Rattle.message_end.specs.Core.{Went, step_in}
use Rattle.message_end.specs.Core.Went.{Goes, Spent}
use Rattle.message_end.specs.Ends.{Opens}

pub opened : {S : Type 0} (went : Went S Happening) → Opens went → went ≡ Goes (step_in went)
opened (Goes step) opens = refl
opened (Spent step) opens = absurd opens
