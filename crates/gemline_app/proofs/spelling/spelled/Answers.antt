-- The item of a text that was read can be spelled.

use Rattle.line_schedule.proofs.TextItems.{text_encodes}
use Rattle.gemline_app.proofs.spelling.spelled.Goals as goal

pub spelling_of-requires : goal.spelling_of-requires
spelling_of-requires c = text_encodes _ _ c.in-Ok.ensures.found c.requires
