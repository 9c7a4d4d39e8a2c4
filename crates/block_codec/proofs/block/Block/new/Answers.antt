-- What was passed makes a block: its header fits, and its body is within the limit.

use Rattle.std.proofs.Common.{◌≡◌, ◌≤◌, ◌<◌, length, ℕ, arith, rules}
use Rattle.std.proofs.lemmas.List.Elements.{All-from_get_or}
use Rattle.block_codec.proofs.block.Block.new.Goals as goal

pub invariant_of-result : goal.invariant_of-result
invariant_of-result c =
    let taken : c.try_extend_from_slice.new.self.items ≡ c.args.body.now = search rules in
    let room : length c.args.body.now ≤ 244 = search rules in
    rw taken (record {
      header = record { fits = search rules; function = omega arith; system = omega arith };
      at_most_244 = room;
      bytes = All-from_get_or (λ (byte : ℕ). byte < 256) _ 0 (λ i _. omega (arith, c.type_inv.body i));
    })

pub returns-clause-is_block : goal.returns-clause-is_block
returns-clause-is_block c = invariant_of-result c
