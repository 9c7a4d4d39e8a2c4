-- The front of the bytes, as far as there are any.

use Rattle.std.proofs.Common.{◌≡◌, ℕ, length, min, take, ◌∙◌, ap, arith, rules}
use Rattle.std.proofs.lemmas.List.{length-take, take_min}
use Rattle.spool_slots.proofs.stored.front_of.Goals as goal

pub returns-clause-front : goal.returns-clause-front
returns-clause-front c =
    let least : c.min.result ≡ min 4081 (length c.args.bytes.now) = search rules in
    c.split_at.ensures.front ∙ ap (λ (n : ℕ). take n c.args.bytes.now) least ∙ take_min 4081 c.args.bytes.now

pub returns-clause-len : goal.returns-clause-len
returns-clause-len c =
    let least : c.min.result ≡ min 4081 (length c.args.bytes.now) = search rules in
    let front = ap (length {A = ℕ}) (c.split_at.ensures.front ∙ ap (λ (n : ℕ). take n c.args.bytes.now) least
    ∙ take_min 4081 c.args.bytes.now) in
    omega (arith, front, length-take 4081 c.args.bytes.now)
