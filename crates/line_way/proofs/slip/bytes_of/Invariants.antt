-- The bytes of the characters so far.

use Rattle.std.proofs.Common.{◌≡◌, take}
use Rattle.line_way.specs.Ways.{bytes_of, characters_of}
use Rattle.line_way.proofs.slip.bytes_of.Given as goal

abbrev pub invariant-loop-character : goal.invariant-loop-character
invariant-loop-character l =
    l.bytes.items ≡ bytes_of (characters_of (take l.character-index l.characters))
