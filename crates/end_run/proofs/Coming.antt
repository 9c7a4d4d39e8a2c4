-- What parts of a run come to, one behind the other, with what is known of the end.
use Rattle.std.proofs.Common.{ℕ, List, Option, Some, None, Result, Ok, Err, sym, subst}
use Rattle.message_end.specs.declared.end.Stop.{Stop}
use Rattle.message_end.specs.Ends.{Input}
use Rattle.message_flow.specs.declared.step.StepOut.{StepOut}
use Rattle.end_run.specs.declared.ending.Ending.{Ending}
use Rattle.end_run.specs.Acts.{Act}
use Rattle.end_run.specs.Outcome.{Comes, Did}
use Rattle.end_run.specs.Pieces.{Piece, and_more, behind}
use Rattle.end_run.specs.Scenes.{Always, NothingLeft, Scene, Stays, StopAt}
use Rattle.end_run.proofs.Doing.{more_on, runs_behind, runs_stop}

-- a step of an end that is always known
pub stays_always :
    {E S C : Type 0} (s : S) (input : Input C) (now : ℕ) (out : StepOut) (end : E) (result : Result (Unit {0}) Stop)
    → Stays Always NothingLeft s input now out end result
stays_always s input now out end (Ok done) = tt
stays_always s input now out end (Err why) = tt

module _ {E S C : Type 0} (known : E → Type 0) (left : S → Input C → ℕ → StepOut → Stop → E → Type 0) (end : E) where
  -- these acts were done first
  pub comes_after :
      {a b : Scene S C} (c : Option (StopAt S C) → Scene S C) (first : List (Act S C)) → Did a b first
      → (piece : Piece S C) (result : Option Ending) → Comes known left end b c piece result
      → Comes known left end a c (behind first piece) result
  comes_after c first one piece None two = (runs_behind (c None) first one piece None two.0, two.1, two.2)
  comes_after c first one piece (Some how) two =
      (two.0, two.1, runs_behind (c two.0) first one piece (Some how) two.2)

  -- the first part ended the run
  pub comes_stop :
      (a : Scene S C) (b : Option (StopAt S C) → Scene S C) (first : Piece S C) (more : S → Piece S C) (how : Ending)
      → Comes known left end a b first (Some how) → Comes known left end a b (and_more first more) (Some how)
  comes_stop a b first more how one = (one.0, one.1, runs_stop a (b one.0) first more how one.2)

  -- it went on
  pub comes_more :
      (mid : E) (a : Scene S C) (b c : Option (StopAt S C) → Scene S C) (first : Piece S C) (more : S → Piece S C)
      (result : Option Ending) → Comes known left mid a b first None
      → Comes known left end (b None) c (more (b None).end) result
      → Comes known left end a c (and_more first more) result
  comes_more mid a b c first more result one two =
      subst (λ (piece : Piece S C). Comes known left end a c piece result) (sym (more_on first more one.0.0))
      (comes_after c first.acts one.0.1 (more first.end) result
      (subst (λ (s : S). Comes known left end (b None) c (more s) result) one.2 two))
