-- The gate, and the name behind it.

use Rattle.std.proofs.Common.{inl, inr, refl}
use Rattle.spool_slots.proofs.upgrades.write_version.Goals as goal

pub returns-in-Failed : goal.returns-in-Failed
returns-in-Failed g c = inl (record { failed = refl; first = c.in-Failed.ensures })

pub returns : goal.returns
returns g c = inr (record {
  mid = c.settle_byte.new.disk;
  first = c.in-Done.ensures;
  then_more = c.settle_byte-2.ensures;
})
