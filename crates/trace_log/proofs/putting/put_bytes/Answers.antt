-- With all put the digits are those of the bytes.

use Rattle.std.proofs.Common.{List, ℕ, ap, ◌∙◌, ◌++◌}
use Rattle.std.proofs.lemmas.List.{take_all}
use Rattle.std.specs.List.{flat_map}
use Rattle.short_text.proofs.Hex.{each_in_hex}
use Rattle.short_text.specs.Shown.{hex_byte}
use Rattle.trace_log.proofs.putting.put_bytes.Goals as goal

pub returns-clause-ok : goal.returns-clause-ok
returns-clause-ok c =
    c.loop-byte.invariant
    ∙ ap (λ (bytes : List ℕ). c.args.into.now ++ flat_map hex_byte bytes)
    (take_all c.loop-byte.byte-index c.args.bytes.now c.loop-byte-test.false)
    ∙ ap (λ (text : List ℕ). c.args.into.now ++ text) (each_in_hex c.args.bytes.now)
