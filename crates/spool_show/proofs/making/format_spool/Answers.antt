-- The file was attached and made, or it couldn't be attached.

use Rattle.std.proofs.Common.{◌∙◌, inl}
use Rattle.disk_base.proofs.Told.{attached_tells}
use Rattle.gl_base.proofs.Appending.{wrote_nothing}
use Rattle.spool_show.proofs.SpoolFiles.{asks_failed, asks_making, cause_behind, has_file, unattached}
use Rattle.spool_show.proofs.making.format_spool.Goals as goal

pub returns-in-Done : goal.returns-in-Done
returns-in-Done g c = record {
  file = has_file _ _ _ c.in-Done.ensures.file c.format_attached.ensures.file;
  made = c.format_attached.ensures.made;
  tells = c.format_attached.ensures.tells ∙ attached_tells _ _ c.in-Done.ensures.told;
  cause = cause_behind _ _ _ c.args.slots _ c.format_attached.result c.in-Done.ensures.cause
      c.format_attached.ensures.cause;
  asks = asks_making c.args.slots c.area_end.ensures.end c.in-Done.ensures.calls c.format_attached.ensures.calls;
}

pub returns-in-Failed : goal.returns-in-Failed
returns-in-Failed g c = record {
  file = inl c.in-Failed.ensures.file;
  made = wrote_nothing;
  tells = attached_tells _ _ c.in-Failed.ensures.told;
  cause = unattached _ _ c.args.slots _ (c.area_end.ensures.end) c.in-Failed.ensures.cause;
  asks = asks_failed c.args.slots c.area_end.ensures.end c.in-Failed.ensures.calls;
}
