-- The file was attached and its first messages are dropped, or it couldn't be attached.

use Rattle.std.proofs.Common.{inl, refl}
use Rattle.spool_drop.proofs.Dropped.{drops-before, not-attached}
use Rattle.spool_show.proofs.SpoolFiles.{attached, has_file}
use Rattle.spool_drop.proofs.dropping.drop_messages.Goals as goal

pub returns-in-Done : goal.returns-in-Done
returns-in-Done g c = record {
  file = has_file _ _ _ c.in-Done.ensures.file c.drop_attached.ensures.file;
  dropped = drops-before _ _ c.args.count _ c.drop_attached.result (attached c.in-Done.ensures.told) refl
      c.in-Done.ensures.cause.same refl c.drop_attached.ensures.dropped;
}

pub returns-in-Failed : goal.returns-in-Failed
returns-in-Failed g c = record {
  file = inl c.in-Failed.ensures.file;
  dropped = not-attached c.args.count c.in-Failed.ensures.told c.in-Failed.ensures.cause.rose;
}
