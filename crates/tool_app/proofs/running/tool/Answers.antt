-- The plan that was read fits.

use Rattle.gl_base.specs.declared.side.Side.TheVariants as side
use Rattle.gemline_app.proofs.Connecting.{uncalled}
use Rattle.tool_app.proofs.running.tool.Goals as goal

pub run_file-requires-clause-plan : goal.run_file-requires-clause-plan
run_file-requires-clause-plan g c = c.in-Ok.ensures.is.fits.equipment

pub returns-in-Err-clause-connects : goal.returns-in-Err-clause-connects
returns-in-Err-clause-connects g c = uncalled g.L.Link side.Equipment c.args.address.now c.args.link.now
