-- The fingerprint of the bytes so far.
use Rattle.std.proofs.Common.{◌≡◌, ◌+◌, ◌*◌, ◌<◌, ◌^◌, ◌%◌, fold, take}
use Rattle.recipe_disk.proofs.hints.fingerprint.Given as goal

abbrev pub invariant-loop-byte : goal.invariant-loop-byte
invariant-loop-byte l =
    (l.print ≡ fold (λ print byte. (print * 16777619 + byte) % 2 ^ 32) 0 (take l.byte-index l.fn.name)) × (l.print < 2 ^ 32)
