-- That the messages for which a file of bytes stands can be sent.
use Rattle.std.proofs.Common.{◌≡◌, ap, arith, ◌<◌, ◌==◌, ℕ, List, [], ◌∷◌, None}
use Rattle.std.proofs.lemmas.List.Elements.{All-cons, All-nil}
use Rattle.std.specs.List.{All}
use Rattle.spool_file.specs.File.{file_in, spool_break}
use Rattle.spool_file.specs.Slot.{Message}
use Rattle.spool_file.proofs.Areas.{Each}
use Rattle.spool_file.proofs.Contents.{IsHeld, IsOfBytes, each_held, each_of_bytes}
use Rattle.spool_works.specs.Found.{spooled_of}
use Rattle.tool_law.specs.Sound.{AllCanBeSent, CanBeSent}

abbrev IsSent : Message → Type 0
IsSent m = CanBeSent (spooled_of m)

held-sent : (m : Message) → IsHeld m → IsOfBytes m → IsSent m
held-sent m held are = record {
  stream = held.stream;
  function = are.function;
  odd = ap (λ (n : ℕ). n == 1) held.odd;
  body = record { short = omega (arith, held.short); bytes = are.body };
}

all-sent : (list : List Message) → Each IsHeld list → Each IsOfBytes list → AllCanBeSent list
all-sent [] held are = All-nil IsSent
all-sent (m ∷ list) held are = All-cons IsSent m list (held-sent m held.0 are.0) (all-sent list held.1 are.1)

pub found-sent : (bytes : List ℕ) → All (λ byte. byte < 256) bytes → spool_break bytes ≡ None
    → AllCanBeSent (file_in bytes).list
found-sent bytes are sound = all-sent (file_in bytes).list (each_held bytes sound) (each_of_bytes bytes are)
