-- The lines of the block and then the message's text are put, or a write has cut them off.

use Rattle.gl_base.specs.declared.copying.SinkAnswer.TheVariants.{Done, Failed}
use Rattle.gl_base.proofs.Appending.{cut_before}
use Rattle.line_show.proofs.Putting.{lines_put}
use Rattle.line_show.proofs.printer.put_lines.Goals as goal

pub returns-in-Failed : goal.returns-in-Failed
returns-in-Failed g c is_rest = cut_before _ _ c.in-Failed.ensures.passes

pub returns-in-Done-put : goal.returns-in-Done-put
returns-in-Done-put g c is_rest =
    lines_put _ _ _ _ _ _ _ _ _ _ Done is_rest c.in-Done.ensures.passes c.put_block_head.ensures c.in-Done-put.ensures.passes

pub returns-in-Failed-put : goal.returns-in-Failed-put
returns-in-Failed-put g c is_rest =
    lines_put _ _ _ _ _ _ _ _ _ c.put.new.self.bytes.items Failed is_rest c.in-Done.ensures.passes c.put_block_head.ensures c.in-Failed-put.ensures.passes
