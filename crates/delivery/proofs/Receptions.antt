-- What is known at the moment at which an end sends or receives a message.
use Rattle.std.specs.Prelude.{◌≡◌, ◌≢◌, ◌⊎◌, ◌<◌, ◌≤◌, ℕ, true, List, [], ◌∷◌, ◌++◌, length, map, Some, refl}
use Rattle.std.specs.List.{AllPairs, Contains}
use Rattle.std.proofs.Common.{sym, ap, ◌∙◌, subst, arith, inl, inr}
use Rattle.std.proofs.lemmas.List.{map-append}
use Rattle.line_order.specs.Laws.{IsNewer}
use Rattle.line_order.specs.Line.{Arrival}
use Rattle.line_order.proofs.Given.{contains-cases, contains-none}
use Rattle.message_end.specs.Own.{Giving, Has, MaySend, received_in, sent_at, sent_in, given_in, whole_in}
use Rattle.message_end.specs.Plan.{EndPlan}
use Rattle.message_end.specs.Moves.{behind, newest_place}
use Rattle.message_flow.specs.declared.message.Message.{Message}
use Rattle.message_flow.specs.Blocks.{block_count}
use Rattle.message_flow.specs.Message.{is_primary}
use Rattle.delivery.specs.Order.{giving_at}
use Rattle.delivery.proofs.Ends.{AreEnds, HasArrived, History, LineSide, newest-arrived}
use Rattle.delivery.proofs.Facts.{IsDelivered}
use Rattle.delivery.proofs.Fitting.{Fits, bare, given_place, giving_of, looks-sent, made_of, made_place, may-send, sent_place}
use Rattle.delivery.proofs.Fitting.FitFact.{GivenFit, PlacesFit, ReceivedFit, SentFit}
use Rattle.message_end.proofs.Members.{has-back, has-map, has-mapped}
use Rattle.delivery.proofs.Lists.{LooksUp, first-of-pairs, found-at}
use Rattle.delivery.proofs.Sound.{delivered}
use Rattle.delivery.proofs.Steps.{the-whole}
use Rattle.delivery.proofs.Tags.{TaggedEnd, TaggedWhole}

-- the messages and blocks of all starts
abbrev pub ever_sent : History → List Message
ever_sent history = sent_in history.own ++ history.sent_before

abbrev pub ever_given : History → List Giving
ever_given history =
    map (behind (length history.sent_before)) (given_in history.own) ++ history.given_before

pub ever-are : (history : History) (x : TaggedEnd)
    → Fits history.base history.sent_before history.given_before history.places history.own x
    → map bare x.ever ≡ ever_sent history
ever-are history x is =
    let s = is SentFit in
    ap (map bare) s.ever_is ∙ map-append bare x.sent s.old
    ∙ ap (λ (ms : List Message). ms ++ map bare s.old) s.now_are
    ∙ ap (λ (ms : List Message). sent_in history.own ++ ms) s.old_are

pub given-are : (history : History) (x : TaggedEnd)
    → Fits history.base history.sent_before history.given_before history.places history.own x
    → map giving_of x.given ≡ ever_given history
given-are history x is =
    let g = is GivenFit in
    ap (map giving_of) g.given_is ∙ map-append giving_of g.new g.old
    ∙ ap (λ (gs : List Giving). gs ++ map giving_of g.old) g.new_are
    ∙ ap (λ (gs : List Giving). map (behind (length history.sent_before)) (given_in history.own) ++ gs) g.old_are

-- no arrival has a higher place than the newest
pub newest-highest : (arrived : List Arrival) (place : ℕ) → AllPairs IsNewer arrived → HasArrived arrived place
    → place ≤ newest_place arrived
newest-highest [] place pairs is = absurd (contains-none is.arrival is.has)
newest-highest (arrival ∷ before) place pairs is = go (contains-cases arrival before is.arrival is.has)
  where
    go : (is.arrival ≡ arrival) ⊎ Contains before is.arrival → place ≤ arrival.frame.place
    go (inl same) =
        let at : arrival.frame.place ≡ place = ap (λ (a : Arrival). a.frame.place) (sym same) ∙ is.at in
        omega (arith, at)
    go (inr has) =
        let under = (first-of-pairs IsNewer arrival before is.arrival pairs has).place in
        let at = is.at in
        omega (arith, under, at)

-- the message was sent by the other end, its last block stands at this place, and no message like it was received
-- before
pub record IsReceipt (history theirs : History) (place : ℕ) (message : Message) : Type 0 where
  pub sent : Has (ever_sent theirs) message
  pub once :
      (other : Message) → Has (received_in history.own) other → is_primary other ≡ is_primary message
      → other.system ≡ message.system → ⊥
  pub giving : Giving
  pub given : giving_at place (ever_given theirs) ≡ Some giving
  pub of_sent : sent_at giving.place (ever_sent theirs) ≡ Some message
  pub last : giving.number ≡ block_count message
  pub rises : (other : ℕ) → Has history.places other → other < place
  pub never_falls : (other : ℕ) → Has history.places_before other → other ≤ place

looks-given : LooksUp giving_at
looks-given = record { none = λ place y none. cc; steps = λ place y ys. refl }

module _ (plan other : EndPlan) (part beside : LineSide) (history theirs : History)
    (is : AreEnds plan other part beside history theirs) where
  pub receipt : (message : Message) → whole_in history.own ≡ Some message → AllPairs IsNewer part.arrived
      → IsReceipt history theirs (newest_place part.arrived) message
  receipt message may pairs = record {
    sent =
        subst (λ (ms : List Message). Has ms message) (ever-are theirs is.there is.there_is.fits)
        (subst (λ (m : Message). Has (map bare is.there.ever) m) (sym is_message)
        (has-map bare is.there.ever w.block.of it.sent));
    once = once;
    giving = giving_of w.block;
    given =
        subst (λ (n : ℕ). giving_at n (ever_given theirs) ≡ Some (giving_of w.block)) at
        (ap (giving_at w.block.place) (sym (given-are theirs is.there is.there_is.fits))
        ∙ found-at giving_at looks-given given_place giving_of 0 is.there.given w.block w.block.place
        is.there_is.tied.placed it.given (omega arith));
    of_sent =
        ap (sent_at w.block.of.place) (sym (ever-are theirs is.there is.there_is.fits))
        ∙ found-at sent_at looks-sent sent_place bare 0 is.there.ever w.block.of w.block.of.place
        (is.there_is.fits SentFit).placed it.sent (omega arith)
        ∙ ap (λ (m : Message). Some m) (sym is_message);
    last = it.last ∙ ap block_count (sym is_message);
    rises = rises;
    never_falls = λ place has.
        newest-highest part.arrived place pairs
        (is.here_is.places_met place (has-back history.places history.places_before place has));
  }
    where
      whole : (made : TaggedWhole) × (is.here.whole ≡ Some made) × (made.message ≡ message)
      whole = the-whole plan other part beside history theirs is message may

      w : TaggedWhole
      w = whole.0

      it : IsDelivered is.here is.there w
      it = delivered is.here is.there w is.sound whole.1

      is_message : message ≡ w.block.of.message
      is_message = sym whole.2 ∙ it.message

      at : w.block.place ≡ newest_place part.arrived
      at = (newest-arrived part.arrived is.here.heard w.block is.here_is.newest it.newest).0

      once : (earlier : Message) → Has (received_in history.own) earlier → is_primary earlier ≡ is_primary message
          → earlier.system ≡ message.system → ⊥
      once earlier has parity system =
          let old =
          has-mapped made_of is.here.received earlier
          (subst (λ (ms : List Message). Has ms earlier) (sym (is.here_is.fits ReceivedFit)) has)
          in
          it.once old.0 old.1
          (ap is_primary (sym old.2) ∙ parity ∙ ap is_primary (sym whole.2))
          (ap (λ (m : Message). m.system) (sym old.2) ∙ system ∙ ap (λ (m : Message). m.system) (sym whole.2))

      rises : (place : ℕ) → Has history.places place → place < newest_place part.arrived
      rises place has =
          let old =
          has-mapped made_place is.here.received place
          (subst (λ (ns : List ℕ). Has ns place) (sym (is.here_is.fits PlacesFit)) has)
          in
          let under = it.order old.0 old.1 in
          let place_is : place ≡ old.0.block.place = old.2 in
          omega (arith, under, place_is, at)

  -- a primary has new system bytes
  pub primary-new : (message : Message) → MaySend plan.side history.own message → is_primary message ≡ true
      → (earlier : Message) → Has (ever_sent history) earlier → is_primary earlier ≡ true
      → earlier.system ≢ message.system
  primary-new message may primary earlier has earlier_primary same =
      let old =
      has-mapped bare is.here.ever earlier
      (subst (λ (ms : List Message). Has ms earlier) (sym (ever-are history is.here is.here_is.fits)) has)
      in
      (may-send history.base history.sent_before history.given_before history.places history.own is.here plan.side
      message
      may is.here_is.fits).new primary old.0 old.1 (ap is_primary (sym old.2) ∙ earlier_primary)
      (ap (λ (m : Message). m.system) (sym old.2) ∙ same)
