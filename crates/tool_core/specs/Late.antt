-- What comes too late, and what is done of one of it.
use Rattle.std.specs.Prelude.{ℕ}
use Rattle.tool_core.specs.declared.replies.Late.{Late}
use Rattle.tool_core.specs.declared.replies.Late.TheVariants.{Block, Reply}
use Rattle.tool_step.specs.Own.{ToolPart}
use Rattle.tool_step.specs.Replies.{block_timer, reply_timer}

abbrev pub late_part : Late → ℕ → ToolPart
late_part Block now = block_timer now
late_part Reply now = reply_timer now
