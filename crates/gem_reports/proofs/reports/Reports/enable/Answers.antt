-- Where each CEID is known the events stand as told.

use Rattle.std.proofs.Common.{sym, subst}
use Rattle.gem_reports.specs.Tables.{StandsFor}
use Rattle.gem_reports.proofs.Entering.{enabled_stands}
use Rattle.gem_reports.proofs.reports.Reports.enable.Goals as goal

pub returns-in-Done-clause-stands : goal.returns-in-Done-clause-stands
returns-in-Done-clause-stands c = λ events past stands done.
    enabled_stands (record { events = c.self.inside.events; reports = c.self.inside.standing }) c.enable.new.self
    c.args.on c.args.list.now events past
    (subst (λ v. StandsFor v events past) (sym c.self.view_is) stands) c.enable.ensures
