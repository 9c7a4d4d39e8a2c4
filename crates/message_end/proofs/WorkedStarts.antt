-- The worked starts.
use Rattle.std.proofs.Common.{◌≡◌, ◌∙◌, ap, refl, arith, ℕ, Bool, true, false, List, [], ◌∷◌, ◌++◌}
use Rattle.gl_base.specs.declared.side.Side.TheVariants.{Equipment}
use Rattle.trace_log.specs.Log.{Happening}
use Rattle.trace_log.specs.Log.Happening.{EquipmentStarted, Power, Recorded, Refused, Setup, StepEnded}
use Rattle.trace_log.specs.Names.{KeptPrimary, Spooled}
use Rattle.message_end.specs.Doings.{Doing}
use Rattle.message_end.specs.Doings.Doing.{Calls, Does, Gives, Says}
use Rattle.message_end.specs.History.{noted_in}
use Rattle.message_end.specs.Starts.{AreOfStart, IsEndOf}
use Rattle.message_end.specs.Starts.IsStartOf.{of_equipment}
use Rattle.message_end.specs.WorkedStarts.{StartsNoteSetups, finds}
use Rattle.message_end.proofs.Starts.{AreSaidAtStart, IsSaidAtStart, equipment-start, said-of-start}

-- ---- the last note

abbrev is_end : Happening → Bool
is_end StepEnded = true
is_end _ = false

abbrev ends_last : List Happening → Bool
ends_last [] = true
ends_last (what ∷ []) = is_end what
ends_last (what ∷ next ∷ rest) = ends_last (next ∷ rest)

last-ends : (notes : List Happening) → ends_last (notes ++ StepEnded ∷ []) ≡ true
last-ends [] = refl
last-ends (what ∷ []) = refl
last-ends (what ∷ next ∷ rest) = last-ends (next ∷ rest)

start-ends : (said : List Doing) → AreOfStart said → ends_last (noted_in said) ≡ true
start-ends [] of = refl
start-ends (Says what ∷ said) of = go what of
  where
    go : (what : Happening) → IsEndOf what said → ends_last (noted_in said ++ what ∷ []) ≡ true
    go StepEnded of = last-ends (noted_in said)
    go what of = absurd of
start-ends (Does own ∷ said) of = absurd of
start-ends (Gives place number block now ∷ said) of = absurd of
start-ends (Calls call ∷ said) of = absurd of

-- ---- the first one

abbrev is_said : Happening → Bool
is_said (Setup found) = true
is_said (Recorded past) = true
is_said Refused = true
is_said StepEnded = true
is_said _ = false

said-so : (what : Happening) → IsSaidAtStart what → is_said what ≡ true
said-so (Setup found) is = refl
said-so (Recorded past) is = refl
said-so Refused is = refl
said-so StepEnded is = refl
said-so what is = absurd is

abbrev says_first : List Happening → Bool
says_first [] = true
says_first (what ∷ rest) = is_said what

first-said : (said : List Doing) → AreSaidAtStart said → says_first (noted_in said) ≡ true
first-said [] are = refl
first-said (Says what ∷ said) are = go (noted_in said) (first-said said are.1)
  where
    go : (notes : List Happening) → says_first notes ≡ true → says_first (notes ++ what ∷ []) ≡ true
    go [] first = said-so what are.0
    go (one ∷ notes) first = first
first-said (Does own ∷ said) are = absurd are
first-said (Gives place number block now ∷ said) are = absurd are
first-said (Calls call ∷ said) are = absurd are

-- ---- what is behind the start

rest-of : (one other : Happening) (notes rest : List Happening) → one ∷ notes ≡ other ∷ rest → notes ≡ rest
rest-of one other notes rest same = cc

false-true : false ≡ true → ⊥
false-true is = cc

pub starts-note-setups : StartsNoteSetups
starts-note-setups = record {
  alone = λ line. record {
    base = 0;
    note = EquipmentStarted [] 0;
    said = [];
    is = tt;
    above = omega arith;
    of_side = of_equipment [] 0;
    of_start = tt;
    notes = refl;
    written = refl;
  };
  refused = λ line primary. record {
    base = 0;
    note = EquipmentStarted [] 0;
    said = Says StepEnded ∷ Says Refused ∷ Says (finds primary) ∷ [];
    is = tt;
    above = omega arith;
    of_side = of_equipment [] 0;
    of_start = (tt, (tt, tt));
    notes = refl;
    written = refl;
  };
  unended = λ line primary starts.
      false-true
      (ap ends_last (rest-of (EquipmentStarted [] 0) starts.note (finds primary ∷ []) (noted_in starts.said)
      starts.notes)
      ∙ start-ends starts.said starts.of_start);
  other = λ line starts.
      false-true
      (ap says_first (rest-of (EquipmentStarted [] 0) starts.note (Power ∷ StepEnded ∷ []) (noted_in starts.said)
      starts.notes)
      ∙ first-said starts.said (said-of-start starts.said starts.of_start));
  unstarted = λ line primary starts.
      let start = equipment-start Equipment starts.note starts.base starts.of_side refl in
      no-start primary start.found starts.base (first-of (finds primary) starts.note _ _ starts.notes ∙ start.is);
}
  where
    first-of : (one other : Happening) (notes rest : List Happening) → one ∷ notes ≡ other ∷ rest → one ≡ other
    first-of one other notes rest same = cc

    no-start : (primary : KeptPrimary) (found : List (ℕ × Spooled)) (base : ℕ)
        → finds primary ≡ EquipmentStarted found base → ⊥
    no-start primary found base is = cc
