-- Steps of an end whose calls of the line are to be such, as the trait's law asks it.
use Rattle.std.proofs.Common.{◌≡◌, inl, inr, sym, subst, ℕ, ◌<◌, List, [], ◌∷◌, ◌++◌, Option, Some}
use Rattle.block_codec.specs.Block.{BlockView}
use Rattle.line_end.specs.declared.event.Phase.{Phase}
use Rattle.line_end.specs.Plan.{LinePlanFits}
use Rattle.line_end.specs.Step.{LineCall}
use Rattle.line_end.specs.Step.LineCall.{Cancel, Resume, Send}
use Rattle.trace_log.specs.Log.{Happening}
use Rattle.message_end.specs.Core.{Command, EndView, Step, calls, offers, takes}
use Rattle.message_end.specs.Doings.{Doing}
use Rattle.message_end.specs.Ends.{AreDecidedAt}
use Rattle.message_end.specs.LineCalls.{AreCallsOf, IsOffer, calls_in}
use Rattle.message_end.specs.Plan.{EndPlan}
use Rattle.message_end.proofs.CallingLine.{IsDone, offer-made, take-made, tick-made}
use Rattle.message_end.proofs.Steps.{Exactly, IsAt, Laws, at-exactly, at-such}

offer-decided : (now : ℕ) (calls : List LineCall) → IsOffer now calls → AreDecidedAt now calls
offer-decided now [] is = tt
offer-decided now (Resume at ∷ []) is = (is, tt)
offer-decided now (Send block at ∷ []) is = (is, tt)
offer-decided now (Resume at ∷ (call ∷ calls)) is = absurd is
offer-decided now (Send block at ∷ (call ∷ calls)) is = absurd is
offer-decided now (Cancel ∷ calls) is = absurd is
offer-decided now (LineCall.Take byte at ∷ calls) is = absurd is
offer-decided now (LineCall.Tick at ∷ calls) is = absurd is

module _ {K : Type 0} (laws : Laws) (plan : EndPlan) (base : ℕ) (fits : LinePlanFits plan.line) (doings : List Doing)
    (Moment : ℕ → Type 0) (Called : List LineCall → Type 0) where
  pub at-tick :
      (now : ℕ) (step : Step (EndView K) Happening) {Before : List LineCall
      → Type 0} (is : IsAt plan base doings Moment Before step)
      → Called (LineCall.Tick now ∷ calls_in is.done) → IsAt plan base doings Moment Called
      (calls (LineCall.Tick now) step)
  at-tick now step is so =
      at-such Called _ _ so (tick-made laws plan base fits doings Moment (calls_in is.done) now step
      (at-exactly step is))

  pub at-takes :
      (byte now : ℕ) (step : Step (EndView K) Happening) → byte < 256
      → {Before : List LineCall → Type 0} (is : IsAt plan base doings Moment Before step)
      → ((decided : List LineCall) → AreDecidedAt now decided
      → Called (decided ++ LineCall.Take byte now ∷ calls_in is.done))
      → IsAt plan base doings Moment Called (takes Some byte now step)
  at-takes byte now step below is so = go taken.newer taken.are taken.at
    where
      taken : IsDone laws plan base fits doings Moment (calls_in is.done) (Command.Take byte now)
          (takes Some byte now step)
      taken = take-made laws plan base fits doings Moment (calls_in is.done) byte now step below (at-exactly step is)

      go : (newer : List LineCall) → AreCallsOf {K = K} (Command.Take byte now) newer
          → IsAt plan base doings Moment (Exactly (newer ++ calls_in is.done)) (takes Some byte now step)
          → IsAt plan base doings Moment Called (takes Some byte now step)
      go newer (inl alone) at =
          at-such Called _ _
          (subst (λ (made : List LineCall). Called (made ++ calls_in is.done)) (sym alone) (so [] tt)) at
      go newer (inr dropped) at =
          at-such Called _ _
          (subst (λ (made : List LineCall). Called (made ++ calls_in is.done)) (sym dropped) (so (Cancel ∷ [])
          (tt, tt))) at

  pub at-offers :
      (now : ℕ) (step : Step (EndView K) Happening) (phase : Phase) (held : Option BlockView)
      → step.next.line.phase ≡ phase → step.next.line.held ≡ held
      → {Before : List LineCall → Type 0} (is : IsAt plan base doings Moment Before step)
      → ((decided : List LineCall) → AreDecidedAt now decided → Called (decided ++ calls_in is.done))
      → IsAt plan base doings Moment Called (offers phase held now step)
  at-offers now step phase held phase_is held_is is so =
      let offered =
      offer-made laws plan base fits doings Moment (calls_in is.done) now step phase held phase_is held_is
      (at-exactly step is) in
      at-such Called _ _ (so offered.newer (offer-decided now offered.newer offered.are)) offered.at
