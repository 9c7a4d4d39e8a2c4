-- What code has found at a place in a run of elements.
use Rattle.std.specs.Prelude.{ℕ, List}
use Rattle.secs_text.specs.declared.lexing.Next as code
use Rattle.secs_text.specs.declared.lexing.Next.TheVariants as found
use Rattle.secs_text.specs.Reading.{Next, Ends, Goes}

abbrev pub next_view : code.Next → Next
next_view (found.End rest) = Ends rest.now
next_view (found.Element rest) = Goes rest.now

-- the bytes after what was found, or those of the element
abbrev pub next_rest : code.Next → List ℕ
next_rest (found.End rest) = rest.now
next_rest (found.Element rest) = rest.now
