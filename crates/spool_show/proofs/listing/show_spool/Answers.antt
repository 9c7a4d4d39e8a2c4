-- The file was attached and is shown, or it couldn't be attached.

use Rattle.std.proofs.Common.{inl}
use Rattle.spool_show.proofs.SpoolFiles.{attached, has_file, not_attached, shows_before}
use Rattle.spool_show.proofs.listing.show_spool.Goals as goal

pub returns-in-Done : goal.returns-in-Done
returns-in-Done g c = record {
  file = has_file _ _ _ c.in-Done.ensures.file c.show_attached.ensures.file;
  shown = shows_before _ _ (attached c.in-Done.ensures.told) c.in-Done.ensures.cause.same c.show_attached.ensures.shown;
}

pub returns-in-Failed : goal.returns-in-Failed
returns-in-Failed g c = record {
  file = inl c.in-Failed.ensures.file;
  shown = not_attached c.in-Failed.ensures.told c.in-Failed.ensures.cause.rose;
}
