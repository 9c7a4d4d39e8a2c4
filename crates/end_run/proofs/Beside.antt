-- What comes beside a link, and the polls that it commands.
use Rattle.std.proofs.Common.{◌≡◌, ℕ, zero, suc, Bool, true, false, List, [], ◌∷◌, ◌++◌, Option, Some, None, refl, sym, ap, subst, ◌∙◌, append_assoc}
use Rattle.gl_base.specs.declared.link.LinkIn.{LinkIn}
use Rattle.gl_base.specs.declared.side.Side.{Side}
use Rattle.message_end.specs.declared.end.Stop.{Stop}
use Rattle.message_end.specs.Ends.{Input, Machine}
use Rattle.message_flow.specs.declared.step.StepOut.{StepOut}
use Rattle.end_run.specs.declared.ending.Ending.{Ending}
use Rattle.end_run.specs.declared.ending.Ending.TheVariants as ending
use Rattle.end_run.specs.Calls.{Left, TurnedTold}
use Rattle.end_run.specs.Commands.{IsTaken, Telling, as_it_comes}
use Rattle.end_run.specs.Commands.Telling.{IsOther, Says, Stops, Tells}
use Rattle.end_run.specs.Outcome.{ByWhatComes, ComesOver, Runs}
use Rattle.end_run.specs.Pieces.{Piece, and_more}
use Rattle.end_run.specs.Scenes.{Scene, StopAt}
use Rattle.end_run.specs.Steps.{all_told, tells}
use Rattle.end_run.specs.Told.{Brings, GoesBy, IfNext, IsNext, MayCome}
use Rattle.end_run.proofs.Doing.{Leads, runs_behind}
use Rattle.end_run.proofs.Polling.{IsPolled, polled_on, polled_out, polled_over, polls}
use Rattle.end_run.proofs.Stepping.{part_none}

-- ---- what may come

comes_with :
    {C : Type 0} (told after : Option (List (List (Telling C)))) (here : List (Telling C))
    (later : List (List (Telling C))) → Brings told here after → MayCome after later → MayCome told (here ∷ later)
comes_with None after here later brings may = tt
comes_with (Some []) after here later brings may =
    (brings.0, subst (λ (left : Option (List (List (Telling _)))). MayCome left later) brings.1 may)
comes_with (Some (first ∷ told)) after here later brings may =
    (brings.0, subst (λ (left : Option (List (List (Telling _)))). MayCome left later) brings.1 may)

-- all that is told
abbrev pub rest_told : {C : Type 0} → Option (List (List (Telling C))) → List (List (Telling C))
rest_told None = []
rest_told (Some told) = told

goes_by_itself : {C : Type 0} (told : List (List (Telling C))) → GoesBy told told
goes_by_itself [] = tt
goes_by_itself (first ∷ told) = (refl, goes_by_itself told)

pub rest_may : {C : Type 0} (told : Option (List (List (Telling C)))) → MayCome told (rest_told told)
rest_may None = tt
rest_may (Some told) = goes_by_itself told

-- ---- polls

abbrev pub left_told : {S C : Type 0} → S → List (List (Telling C)) → ℕ → Left S (List (List (Telling C)))
left_told end coming moment = record { end = end; coming = coming; moment = moment }

module _ {S C : Type 0} (machine : Machine S C) (due : S → Option ℕ) (side : Side)
    (told : Option (List (List (Telling C)))) (whole : List (List (Telling C)) → List LinkIn → Piece S C)
    (a : Scene S C) where
  abbrev more_polls : ℕ → S → ℕ → List (List (Telling C)) → List LinkIn → Piece S C
  more_polls n s moment later = polls machine due as_it_comes side n (left_told s later moment)

  -- some polls were made, with which so much has come; and whatever comes behind it, those that are left lead to the
  -- whole
  pub record IsToldSo (b : Scene S C) (now : Option (List (List (Telling C)))) (n : ℕ) (s : S) (moment : ℕ)
      : Type 0 where
    pub came : List (List (Telling C))
    pub may : (later : List (List (Telling C))) → MayCome now later → MayCome told (came ++ later)
    pub polled :
        (later : List (List (Telling C)))
        → IsPolled machine due as_it_comes side a b (whole (came ++ later)) (more_polls n s moment later)

  pub told_as : (b : Scene S C) (now : Option (List (List (Telling C)))) (n m : ℕ) (s : S) (moment : ℕ) → n ≡ m
      → IsToldSo b now n s moment → IsToldSo b now m s moment
  told_as b now n m s moment same so = subst (λ (k : ℕ). IsToldSo b now k s moment) same so

  module _
      {E : Type 0} (known : E → Type 0) (left : S → Input C → ℕ → StepOut → Stop → E → Type 0) (end : E)
      (b : Scene S C) (c : Option (StopAt S C) → Scene S C) (now after : Option (List (List (Telling C)))) (n : ℕ)
      (s : S) (moment then : ℕ) (so : IsToldSo b now (suc n) s moment)
    where
      abbrev turn : Option Ending → Type 0
      turn result = TurnedTold known left end machine due side b c s (c None).end moment then now after result

      pub told_on : turn None → IsToldSo (c None) after n (c None).end then × known end
      told_on turned = (
        record {
          came = so.came ++ turned.here ∷ [];
          may = λ later may.
              subst (MayCome told) (sym (append_assoc so.came (turned.here ∷ []) later))
              (so.may (turned.here ∷ later) (comes_with now after turned.here later turned.brings may));
          polled = λ later.
              subst
              (λ (coming : List (List (Telling C))).
              IsPolled machine due as_it_comes side a (c None) (whole coming) (more_polls n (c None).end then later))
              (sym (append_assoc so.came (turned.here ∷ []) later)) (one later).0;
        },
        (one []).1,
      )
        where
          one : (later : List (List (Telling C)))
              → IsPolled machine due as_it_comes side a (c None) (whole (so.came ++ turned.here ∷ later))
              (more_polls n (c None).end then later) × known end
          one later =
              polled_on machine due as_it_comes side known left end c (whole (so.came ++ turned.here ∷ later)) n
              (left_told s (turned.here ∷ later) moment) (left_told (c None).end later then) refl
              (so.polled (turned.here ∷ later)) (turned.turned later)

      pub told_out : (how : Ending) → turn (Some how)
          → ByWhatComes told (λ coming. ComesOver known left end a c (whole coming) how)
      told_out how turned =
          let later = rest_told after in (
            so.came ++ turned.here ∷ later,
            so.may (turned.here ∷ later) (comes_with now after turned.here later turned.brings (rest_may after)),
            polled_out machine due as_it_comes side known left end c (whole (so.came ++ turned.here ∷ later)) n
                (left_told s (turned.here ∷ later) moment) (left_told (c None).end later then) refl
                (so.polled (turned.here ∷ later)) how (turned.turned later),
          )

  -- no poll is left
  pub told_over :
      {E : Type 0} (known : E → Type 0) (left : S → Input C → ℕ → StepOut → Stop → E → Type 0) (end : E)
      (c : Option (StopAt S C) → Scene S C) (now : Option (List (List (Telling C)))) (s : S) (moment : ℕ)
      → IsToldSo (c None) now zero s moment → known end
      → ByWhatComes told (λ coming. ComesOver known left end a c (whole coming) ending.Turns)
  told_over known left end c now s moment so is =
      let later = rest_told now in (
        so.came ++ later,
        so.may later (rest_may now),
        (
          None,
          is,
          polled_over machine due as_it_comes side a (c None) (whole (so.came ++ later)) (left_told s later moment)
              (so.polled later),
        ),
      )

-- ---- what has come

pub next_is :
    {C : Type 0} {here later : List (Telling C)} {at : Telling C} (more : Bool) → more ≡ true
    → IsNext here at later more → here ≡ at ∷ later
next_is true same is = is
next_is false same is = absurd (cc)

pub if_next : (more : Bool) (P : Type 0) → more ≡ true → IfNext more P → P
if_next true P same holds = holds
if_next false P same holds = absurd (cc)

-- an end takes whatever is told that takes less
pub takes_more :
    {C : Type 0} (few all : C → Type 0) → ((command : C) → few command → all command)
    → (at telling : Telling C) → telling ≡ at → IsTaken few at → IsTaken all telling
takes_more few all each at telling same taken = subst (IsTaken all) (sym same) (go at taken)
  where
    go : (at : Telling _) → IsTaken few at → IsTaken all at
    go (Tells command reply) taken = each command taken
    go (Says text) taken = tt
    go Stops taken = tt
    go IsOther taken = tt

-- what comes next is told first
pub told_first :
    {S C : Type 0} (machine : Machine S C) (side : Side) (now : ℕ) (here later : List (Telling C))
    (at telling : Telling C) (s : S) → telling ≡ at → here ≡ at ∷ later
    → all_told machine side now here s
    ≡ and_more (tells machine side now telling s) (all_told machine side now later)
told_first {S} {C} machine side now here later at telling s same is =
    ap (λ (tellings : List (Telling C)). all_told machine side now tellings s) is
    ∙ ap (λ (first : Telling C). and_more (tells machine side now first s) (all_told machine side now later)) (sym same)

-- memory runs out before what is left
pub leads_part :
    {S C : Type 0} (a b : Scene S C) (whole left : Piece S C) → Leads a b whole left
    → Runs a b whole (Some ending.NoMemory)
leads_part {S} {C} a b whole left here =
    subst (λ (piece : Piece S C). Runs a b piece (Some ending.NoMemory)) (sym here.leads)
    (runs_behind b here.acts here.did left (Some ending.NoMemory) (part_none b left.acts))
