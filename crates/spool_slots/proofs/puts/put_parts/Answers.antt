-- How far it went: to the looks, the 00s, or the parts.

use Rattle.std.proofs.Common.{inl, inr, refl}
use Rattle.spool_slots.proofs.puts.put_parts.Goals as goal

pub returns-in-Failed : goal.returns-in-Failed
returns-in-Failed g c = record {
  gates = c.look_at_gates.new.gates;
  goes = inl (record { failed = refl; told = c.in-Failed.ensures.told; looks = c.in-Failed.ensures.row });
}

pub returns-in-Failed-shut_gates : goal.returns-in-Failed-shut_gates
returns-in-Failed-shut_gates g c = record {
  gates = c.look_at_gates.new.gates;
  goes = inr (
    c.in-Done.ensures.seen,
    inl (record {
      failed = refl;
      looked = c.look_at_gates.new.disk;
      told = c.in-Done.ensures.told;
      looks = c.in-Done.ensures.row;
      shuts = c.in-Failed-shut_gates.ensures;
    }),
  );
}

pub returns : goal.returns
returns g c = record {
  gates = c.look_at_gates.new.gates;
  goes = inr (
    c.in-Done.ensures.seen,
    inr (record {
      looked = c.look_at_gates.new.disk;
      shut = c.shut_gates.new.disk;
      told = c.in-Done.ensures.told;
      looks = c.in-Done.ensures.row;
      shuts = c.in-Done-shut_gates.ensures;
      parts = c.settle_parts.ensures;
    }),
  );
}
