-- Characters that were read and not handed out yet, and those that are still to come (this profile).
use Rattle.std.specs.Prelude.{◌≡◌, ◌≤◌, ℕ, List, [], ◌∷◌, Option, Some, None}
use Rattle.std.specs.Io.KnownBytes.{Consumes, Keeps}
use Rattle.gl_base.specs.declared.link.LinkIn.{LinkIn}
use Rattle.gl_base.specs.declared.link.LinkIn.TheVariants.{Char, Quiet}

-- the first of the characters, and what is left behind it; there is none where none is left
abbrev pub IsNextOf : List ℕ → Option ℕ → List ℕ → Type 0
IsNextOf before (Some character) after = before ≡ character ∷ after
IsNextOf before None after = (before ≡ []) × (after ≡ before)

-- a character was the first of those to come, where these are told; with any other answer all of them stay
abbrev pub HandsOut : Option (List ℕ) → Option (List ℕ) → LinkIn → Type 0
HandsOut before after (Char character moment) = Consumes before after (character ∷ [])
HandsOut before after answer = Keeps before after

-- and all of them stay where there is no answer yet
abbrev pub LooksOn : Option (List ℕ) → Option (List ℕ) → Option LinkIn → Type 0
LooksOn before after (Some answer) = HandsOut before after answer
LooksOn before after None = Keeps before after

-- a quiet time ends no earlier than at the moment that was asked for
abbrev pub IsDue : ℕ → LinkIn → Type 0
IsDue until (Quiet moment) = until ≤ moment
IsDue until answer = Unit {0}
