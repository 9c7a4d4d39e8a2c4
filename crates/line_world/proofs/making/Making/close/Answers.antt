-- The line of the end is counted, too.

use Rattle.std.proofs.Common.{◌++◌, List, ℕ, ap, ◌∙◌}
use Rattle.line_schedule.specs.Lines.{lines_of}
use Rattle.trace_log.specs.Log.Entry.{Ended}
use Rattle.trace_log.specs.Text.{entry_text}
use Rattle.line_world.specs.Counting.{with_lines}
use Rattle.line_world.proofs.making.Making.close.Goals as goal

pub returns-in-Ok-count_lines : goal.returns-in-Ok-count_lines
returns-in-Ok-count_lines g c =
    let lines =
    c.as_slice.ensures ∙ c.in-Ok.ensures.ok ∙ ap (λ (t : List ℕ). t ++ entry_text (Ended c.moment.result))
    c.new-lines.ensures
    ∙ ap (λ (m : ℕ). entry_text (Ended m)) c.moment.ensures
    in
    c.in-Ok-count_lines.ensures ∙ ap (λ (t : List ℕ). with_lines c.args.self.counts (lines_of t)) lines
