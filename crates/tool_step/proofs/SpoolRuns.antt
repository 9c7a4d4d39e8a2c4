-- The worked runs with the spool, computed.
use Rattle.std.specs.Prelude.{refl}
use Rattle.line_end.specs.Frames.{block_in, is_frame, sum_cause}
use Rattle.spool_file.specs.Sizes.{slots_for}
use Rattle.tool_step.specs.Sampling.{sample_parts}
use Rattle.tool_step.specs.Step.{late_parts}
use Rattle.tool_step.specs.WorkedSpool.{FullSpools, LosesInOrder, PutsTheLast, SpoolingBegins, UnloadsInOrder}

pub spooling-begins : SpoolingBegins
unfolding late_parts sample_parts
spooling-begins = refl

pub full-spools : FullSpools
unfolding slots_for
full-spools = record { over = refl; later = refl; discarded = refl; same = refl }

pub loses-in-order : LosesInOrder
unfolding slots_for
loses-in-order = record { ended = refl; then = refl; stands = refl }

pub puts-the-last : PutsTheLast
unfolding late_parts sample_parts slots_for
puts-the-last = record { spent = refl; notes = refl; stands = refl; works = refl }

pub unloads-in-order : UnloadsInOrder
unfolding block_in is_frame sum_cause late_parts sample_parts slots_for
unloads-in-order = record { first = refl; left = refl; second = refl; none = refl; inactive = refl }
