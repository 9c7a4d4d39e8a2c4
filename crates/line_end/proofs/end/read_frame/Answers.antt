-- What reads is the frame of its block, and what doesn't has a wrong sum.

use Rattle.std.proofs.Common.{sym, ap, ◌∙◌}
use Rattle.line_end.specs.Frames.{block_in}
use Rattle.line_end.proofs.Framed.{block_in-frame_bytes, is_frame-frame_bytes, wrong_sum}
use Rattle.line_end.proofs.end.read_frame.Goals as goal

pub returns-in-Ok-clause-ok : goal.returns-in-Ok-clause-ok
returns-in-Ok-clause-ok c =
    let ok = c.in-Ok.ensures.ok in
    (rw ok.1 (is_frame-frame_bytes _ ok.0), sym (ap block_in ok.1 ∙ block_in-frame_bytes _ ok.0))

pub returns-in-Err-Sum-clause-err : goal.returns-in-Err-Sum-clause-err
returns-in-Err-Sum-clause-err c = wrong_sum _ _ _ (record {
  at_least_10 = c.requires.at_least_10;
  at_most_254 = c.requires.at_most_254;
  long = c.requires.whole;
}) (rw c.in-Err-Sum.field-0-is at c.in-Err-Sum.ensures.fault)
