-- Two ends on their line with tags that fit, and what each move keeps of that.
use Rattle.std.specs.Prelude.{◌≡◌, ℕ, List, [], ◌∷◌, ◌++◌, Option, refl}
use Rattle.std.specs.List.{Contains}
use Rattle.std.proofs.Common.{sym, ap, ◌∙◌}
use Rattle.block_codec.specs.Block.{BlockView}
use Rattle.line_order.specs.Line.{Arrival, Station, WrittenFrame}
use Rattle.line_order.proofs.Given.{contains-first, contains-more}
use Rattle.message_end.specs.Doings.{own_of}
use Rattle.message_end.specs.Own.{Giving, Has, Own}
use Rattle.message_end.specs.Plan.{EndPlan}
use Rattle.message_end.specs.Moves.{Run, newest_place}
use Rattle.message_flow.specs.declared.message.Message.{Message}
use Rattle.delivery.proofs.Facts.{IsNewest, IsSound, turned}
use Rattle.delivery.proofs.Fitting.{Fits}
use Rattle.delivery.proofs.Tags.{TaggedBlock, TaggedEnd, TaggedHearing}
use Rattle.delivery.proofs.Ties.{IsTied}

-- an end on its line
pub record LineSide : Type 0 where
  pub held : Option BlockView
  pub given : List BlockView
  pub frames : List WrittenFrame
  pub arrived : List Arrival
  pub written : ℕ
  pub lost : ℕ

abbrev pub line_side : Station → ℕ → ℕ → LineSide
line_side station written lost = record {
  held = station.state.held;
  given = station.given;
  frames = station.frames;
  arrived = station.arrived;
  written = written;
  lost = lost;
}

-- and its history
pub record History : Type 0 where
  pub base : ℕ
  pub own : List Own
  pub places : List ℕ
  pub sent_before : List Message
  pub given_before : List Giving
  pub places_before : List ℕ

abbrev pub history_of : EndPlan → Run → History
history_of plan run = record {
  base = run.base;
  own = own_of plan run.doings;
  places = run.places;
  sent_before = run.sent_before;
  given_before = run.given_before;
  places_before = run.places_before;
}

-- ---- what has arrived, and what was heard

pub record HasArrived (arrived : List Arrival) (place : ℕ) : Type 0 where
  pub arrival : Arrival
  pub has : Contains arrived arrival
  pub at : arrival.frame.place ≡ place

-- the newest of each are the same block
abbrev pub NewestFits : List Arrival → List TaggedHearing → Type 0
NewestFits arrived [] = Unit {0}
NewestFits [] (h ∷ before) = ⊥
NewestFits (arrival ∷ arrived) (h ∷ before) = arrival.frame.place ≡ h.block.place

pub arrived-more : (arrival : Arrival) (arrived : List Arrival) (place : ℕ) → HasArrived arrived place
    → HasArrived (arrival ∷ arrived) place
arrived-more arrival arrived place is =
    record { arrival = is.arrival; has = contains-more arrival arrived is.arrival is.has; at = is.at }

pub newest-arrived : (arrived : List Arrival) (heard : List TaggedHearing) (block : TaggedBlock)
    → NewestFits arrived heard → IsNewest heard block
    → (block.place ≡ newest_place arrived) × HasArrived arrived (newest_place arrived)
newest-arrived arrived [] block fits newest = absurd newest
newest-arrived [] (h ∷ before) block fits newest = absurd fits
newest-arrived (arrival ∷ arrived) (h ∷ before) block fits newest = (
  ap (λ (b : TaggedBlock). b.place) (sym newest) ∙ sym fits,
  record { arrival = arrival; has = contains-first arrival arrived; at = refl },
)

-- ---- one end, and both

pub record IsEnd (plan : EndPlan) (part : LineSide) (history : History) (x : TaggedEnd) : Type 0 where
  pub plan_is : x.plan ≡ plan
  pub fits : Fits history.base history.sent_before history.given_before history.places history.own x
  pub tied :
      IsTied x.plan part.held part.given part.frames part.written part.lost x.sent x.given x.frames
  pub met : (h : TaggedHearing) → Has x.heard h → HasArrived part.arrived h.block.place
  pub newest : NewestFits part.arrived x.heard
  pub places_met : (place : ℕ) → Has (history.places ++ history.places_before) place → HasArrived part.arrived place

pub record AreEnds (plan other : EndPlan) (part beside : LineSide) (history theirs : History) : Type 0 where
  pub here : TaggedEnd
  pub there : TaggedEnd
  pub sound : IsSound here there
  pub here_is : IsEnd plan part history here
  pub there_is : IsEnd other beside theirs there

pub turned-ends : (plan other : EndPlan) (part beside : LineSide) (history theirs : History)
    → AreEnds plan other part beside history theirs → AreEnds other plan beside part theirs history
turned-ends plan other part beside history theirs is = record {
  here = is.there;
  there = is.here;
  sound = turned is.here is.there is.sound;
  here_is = is.there_is;
  there_is = is.here_is;
}
