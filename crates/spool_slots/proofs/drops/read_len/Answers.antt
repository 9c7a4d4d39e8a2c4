-- The length is that of the bytes that were read.

use Rattle.std.proofs.Common.{◌≡◌, ℕ, ◌+◌, ◌∙◌, List, length, ap, arith, rules}
use Rattle.std.specs.Int.{w32, from_be_bytes}
use Rattle.disk_base.specs.Story.{bytes_at}
use Rattle.spool_slots.proofs.drops.read_len.Goals as goal

pub returns-in-Failed : goal.returns-in-Failed
returns-in-Failed g c = record { seen = tt; row = c.in-Failed.ensures.row }

pub returns-in-Done : goal.returns-in-Done
returns-in-Done g c =
    let long : length c.read_at.new.into ≡ 4 = omega (arith, c.read_at.auto.into) in
    let is : c.from_be_bytes.result ≡ from_be_bytes w32 c.read_at.new.into = search rules in
    record {
      seen = λ s told. is ∙ ap (λ (xs : List ℕ). from_be_bytes w32 xs)
          (c.in-Done.ensures.bytes s told ∙ ap (λ (n : ℕ). bytes_at s.now.bytes (c.args.at + 11) n) long);
      row = c.in-Done.ensures.row;
    }
