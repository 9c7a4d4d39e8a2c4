use Rattle.gem_spool.specs.declared.works.Work.TheVariants.{Put}
use Rattle.host_journal.proofs.OneWork.{first-undone}
use Rattle.host_journal.proofs.listing.put_entry.Goals as goal

pub returns : goal.returns
returns g c = (
  c.requires.fits,
  first-undone g.D.Disk c.args.journal (Put c.args.stream c.args.function c.args.entry) c.in-Err.field-0.at
      c.in-Err.field-0.spent c.in-Err.ensures,
)
