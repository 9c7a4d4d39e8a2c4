-- Two digits more are put; with no byte left all are.

use Rattle.std.proofs.Common.{arith, sym, ◌∙◌}
use Rattle.short_text.proofs.Hex.{encode_upper-done, encode_upper-step}
use Rattle.short_text.proofs.put_hex.Goals as goal

pub loop-byte-preserved : goal.loop-byte-preserved
loop-byte-preserved g c = (
  omega arith,
  encode_upper-step _ _ _ _ _ _ _ _ c.loop-byte-test.true c.hex_digit.ensures c.hex_digit-in-loop-byte.ensures
      c.push.ensures.items c.push-in-loop-byte.ensures.items c.loop-byte.invariant.1,
)

pub returns-clause-items : goal.returns-clause-items
returns-clause-items g c =
    sym (encode_upper-done c.loop-byte.line.items c.args.bytes.now c.loop-byte.byte-index c.loop-byte-test.false) ∙ c.loop-byte.invariant.1
