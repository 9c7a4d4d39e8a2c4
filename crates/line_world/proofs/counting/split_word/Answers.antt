-- The word in front of the first place found, and what is behind it; without such a place it is all.

use Rattle.std.proofs.Common.{ℕ, ◌+◌, Option, ap, sym, ◌∙◌, arith, length-drop}
use Rattle.std.proofs.lemmas.List.{take_all}
use Rattle.line_world.specs.Make.{before_place, behind_place}
use Rattle.line_world.proofs.counting.split_word.Goals as goal

pub returns-in-Some-clause-word : goal.returns-in-Some-clause-word
returns-in-Some-clause-word c =
    ap (λ (place : Option ℕ). before_place place c.args.line.now) (sym c.in-Some.is ∙ c.place_of.ensures.place)

pub returns-in-Some-clause-behind : goal.returns-in-Some-clause-behind
returns-in-Some-clause-behind c =
    take_all _ _ (omega (arith, length-drop (c.in-Some.at + 1) c.args.line.now))
    ∙ ap (λ (place : Option ℕ). behind_place place c.args.line.now) (sym c.in-Some.is ∙ c.place_of.ensures.place)

pub returns-in-None-clause-word : goal.returns-in-None-clause-word
returns-in-None-clause-word c =
    ap (λ (place : Option ℕ). before_place place c.args.line.now) (sym c.in-None.is ∙ c.place_of.ensures.place)

pub returns-in-None-clause-behind : goal.returns-in-None-clause-behind
returns-in-None-clause-behind c =
    ap (λ (place : Option ℕ). behind_place place c.args.line.now) (sym c.in-None.is ∙ c.place_of.ensures.place)
