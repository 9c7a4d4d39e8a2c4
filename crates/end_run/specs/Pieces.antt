-- Pieces of a run over a link, one after another (this profile).
use Rattle.std.specs.Prelude.{List, [], ◌++◌, Option, Some, None}
use Rattle.end_run.specs.declared.ending.Ending.{Ending}
use Rattle.end_run.specs.Acts.{Act}

-- what some of a run leaves: the end, what was done, and how the run ended, where it did
pub record Piece (S C : Type 0) : Type 0 where
  pub end : S
  pub acts : List (Act S C)
  pub ended : Option Ending

-- nothing is done, and the run goes on or ends
abbrev pub still : {S C : Type 0} → S → Piece S C
still s = record { end = s; acts = []; ended = None }

abbrev pub stops : {S C : Type 0} → Ending → S → Piece S C
stops how s = record { end = s; acts = []; ended = Some how }

-- a piece behind these acts
abbrev pub behind : {S C : Type 0} → List (Act S C) → Piece S C → Piece S C
behind acts piece = record { end = piece.end; acts = acts ++ piece.acts; ended = piece.ended }

-- some of a run, and more of it where that has not ended it
abbrev pub and_on : {S C : Type 0} → Option Ending → Piece S C → (S → Piece S C) → Piece S C
and_on None piece more = behind piece.acts (more piece.end)
and_on (Some how) piece more = piece

abbrev pub and_more : {S C : Type 0} → Piece S C → (S → Piece S C) → Piece S C
and_more piece more = and_on piece.ended piece more
