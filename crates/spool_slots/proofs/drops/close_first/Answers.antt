-- The read, and the gate behind it.

use Rattle.std.proofs.Common.{ℕ, inl, inr, refl, subst}
use Rattle.spool_slots.specs.Work.{HasClosed}
use Rattle.spool_slots.specs.declared.drops.Closing.TheVariants as closing
use Rattle.spool_slots.proofs.drops.close_first.Goals as goal

pub returns-in-Failed : goal.returns-in-Failed
returns-in-Failed g c =
    subst (λ (at : ℕ). HasClosed g.D.Disk c.args.disk.now c.read_len.new.disk at closing.Failed)
    c.number_place-at.ensures.place
    (record { seen = tt; goes = inl (record { failed = refl; first = c.in-Failed.ensures.row }) })

pub returns-in-Done : goal.returns-in-Done
returns-in-Done g c =
    subst (λ (at : ℕ). HasClosed g.D.Disk c.args.disk.now c.settle_byte.new.disk at (closing.Closed c.in-Closed.len))
    c.number_place-at.ensures.place
    (record {
      seen = c.in-Closed.ensures.seen;
      goes = inr (record {
        mid = c.read_len.new.disk;
        first = c.in-Closed.ensures.row;
        then_more = c.in-Done.ensures;
      });
    })

pub returns-in-Failed-settle_byte : goal.returns-in-Failed-settle_byte
returns-in-Failed-settle_byte g c =
    subst (λ (at : ℕ). HasClosed g.D.Disk c.args.disk.now c.settle_byte.new.disk at closing.Failed)
    c.number_place-at.ensures.place
    (record {
      seen = tt;
      goes = inr (record {
        mid = c.read_len.new.disk;
        first = c.in-Closed.ensures.row;
        then_more = c.in-Failed-settle_byte.ensures;
      });
    })
