-- What the equipment has drawn, sent and given over all its starts.
use Rattle.std.specs.Prelude.{◌≡◌, ◌<◌, ◌≤◌, ◌⊎◌, ◌+◌, ℕ, Bool, true, false, List, [], ◌∷◌, map, length, refl}
use Rattle.std.proofs.Common.{sym, ap, ◌∙◌, subst, arith, inl, inr, length-append}
use Rattle.line_end.specs.declared.event.LineEvent.{LineEvent}
use Rattle.line_end.specs.declared.event.LineEvent.TheVariants.{Arrived, Failed, Nothing, Refused, Sent}
use Rattle.line_end.specs.State.{LineState}
use Rattle.line_end.specs.Step.{LineCall, line_step}
use Rattle.line_order.specs.Characters.{Character, writes_frame}
use Rattle.line_order.specs.Line.{Arrival}
use Rattle.message_end.specs.Doings.{line_of, moment_of, own_of, with_call, with_frame, with_frame_of, with_hearing}
use Rattle.message_end.specs.Doings.Doing.{Calls, Does, Gives, Says}
use Rattle.message_end.specs.Own.{Giving, Has, Own, asked_in, drawn_in, given_in, received_in, sent_in}
use Rattle.message_end.specs.Own.Own.{DrewNumber, DroppedMessage, GaveBlock, HeardBlock, ReceivedMessage, SentMessage, WroteFrame}
use Rattle.message_end.specs.Plan.{EndPlan, receiver_of}
use Rattle.message_end.specs.Moves.{Kind, MayMove, Run, all_given, all_sent, behind, run_after}
use Rattle.message_end.specs.Moves.Kind.{Added, Changed, Did, Lost, Started}
use Rattle.message_flow.specs.declared.message.Message.{Message}
use Rattle.message_flow.specs.Message.{is_primary}
use Rattle.message_flow.specs.Receiver.{Receiver}
use Rattle.message_end.proofs.Members.{has-either, has-mapped}
use Rattle.message_end.proofs.Lists.{place-below}

-- ---- what a call of the line leaves as it is

pub record AreSame (now before : List Own) : Type 0 where
  pub drawn : drawn_in now ≡ drawn_in before
  pub sent : sent_in now ≡ sent_in before
  pub given : given_in now ≡ given_in before
  pub received : received_in now ≡ received_in before
  pub asked : asked_in now ≡ asked_in before

frame-same : (writes : Bool) (own : List Own) → AreSame (with_frame writes own) own
frame-same false own = record { drawn = refl; sent = refl; given = refl; received = refl; asked = refl }
frame-same true own = go (given_in own)
  where
    go : (gs : List Giving) → AreSame (with_frame_of gs own) own
    go [] = record { drawn = refl; sent = refl; given = refl; received = refl; asked = refl }
    go (g ∷ before) = record { drawn = refl; sent = refl; given = refl; received = refl; asked = refl }

hearing-same : (receiver : Receiver) (event : LineEvent) (now : ℕ) (own : List Own)
    → AreSame (with_hearing receiver event now own) own
hearing-same receiver (Arrived block) now own =
    record { drawn = refl; sent = refl; given = refl; received = refl; asked = refl }
hearing-same receiver Nothing now own =
    record { drawn = refl; sent = refl; given = refl; received = refl; asked = refl }
hearing-same receiver Sent now own =
    record { drawn = refl; sent = refl; given = refl; received = refl; asked = refl }
hearing-same receiver Failed now own =
    record { drawn = refl; sent = refl; given = refl; received = refl; asked = refl }
hearing-same receiver (Refused cause) now own =
    record { drawn = refl; sent = refl; given = refl; received = refl; asked = refl }

pub call-same : (receiver : Receiver) (call : LineCall) (s : LineState) (own : List Own)
    → AreSame (with_call receiver call s own) own
call-same receiver call s own =
    let frame = frame-same (writes_frame (line_step s call).written) own in
    let hearing =
    hearing-same receiver (line_step s call).event (moment_of call)
    (with_frame (writes_frame (line_step s call).written) own)
    in
    record {
      drawn = hearing.drawn ∙ frame.drawn;
      sent = hearing.sent ∙ frame.sent;
      given = hearing.given ∙ frame.given;
      received = hearing.received ∙ frame.received;
      asked = hearing.asked ∙ frame.asked;
    }

-- ---- numbers and places

-- primaries of earlier starts lie below the base, those of this one have a number that was drawn, none below it; each
-- block that was given is of a message that was sent
pub record AreNumbered
    (base : ℕ) (drawn : List ℕ) (sent : List Message) (given : List Giving) (sent_before : List Message)
    (given_before : List Giving)
    : Type 0 where
  pub least : (n : ℕ) → Has drawn n → base ≤ n
  pub drawn_are : (m : Message) → Has sent m → is_primary m ≡ true → Has drawn m.system
  pub old : (m : Message) → Has sent_before m → is_primary m ≡ true → m.system < base
  pub given_now : (g : Giving) → Has given g → g.place < length sent
  pub given_old : (g : Giving) → Has given_before g → g.place < length sent_before

abbrev pub IsNumbered : EndPlan → Run → Type 0
IsNumbered plan run =
    let own = own_of plan run.doings in
    AreNumbered run.base (drawn_in own) (sent_in own) (given_in own) run.sent_before run.given_before

numbered-started : (plan : EndPlan) (run : Run) (base base_now : ℕ) → IsNumbered plan run → run.base ≤ base_now
    → ((n : ℕ) → Has (drawn_in (own_of plan run.doings)) n → n < base_now)
    → AreNumbered base_now [] [] [] (all_sent plan run) (all_given plan run)
numbered-started plan run base base_now is least above = record {
  least = λ n none. absurd none;
  drawn_are = λ m none. absurd none;
  old = λ m has primary. go m (has-either sent run.sent_before m has) primary;
  given_now = λ g none. absurd none;
  given_old = λ g has. at g (has-either (map (behind (length run.sent_before)) (given_in own)) run.given_before g has);
}
  where
    own : List Own
    own = own_of plan run.doings

    sent : List Message
    sent = sent_in own

    go : (m : Message) → Has sent m ⊎ Has run.sent_before m → is_primary m ≡ true → m.system < base_now
    go m (inl now) primary = above m.system (is.drawn_are m now primary)
    go m (inr old) primary = let under = is.old m old primary in omega (arith, under, least)

    long : length (all_sent plan run) ≡ length sent + length run.sent_before
    long = length-append sent run.sent_before

    at : (g : Giving) → Has (map (behind (length run.sent_before)) (given_in own)) g ⊎ Has run.given_before g
        → g.place < length (all_sent plan run)
    at g (inl now) =
        let it = has-mapped (behind (length run.sent_before)) (given_in own) g now in
        let under = is.given_now it.0 it.1 in
        let here : g.place ≡ length run.sent_before + it.0.place = ap (λ (x : Giving). x.place) it.2 in
        omega (arith, under, here, long)
    at g (inr old) = let under = is.given_old g old in omega (arith, under, long)

pub numbered-after : (plan : EndPlan) (arrived : List Arrival) (way : List Character) (kind : Kind) (run : Run)
    → MayMove plan way run kind → IsNumbered plan run → IsNumbered plan (run_after plan arrived kind run)
numbered-after plan arrived way (Did (Does (DrewNumber number))) run may is = record {
  least = λ n has. go n has;
  drawn_are = λ m has primary. inr (is.drawn_are m has primary);
  old = is.old;
  given_now = is.given_now;
  given_old = is.given_old;
}
  where
    go : (n : ℕ) → Has (number ∷ drawn_in (own_of plan run.doings)) n → run.base ≤ n
    go n (inl same) = let at = may.0.1.least in omega (arith, at, same)
    go n (inr has) = is.least n has
numbered-after plan arrived way (Did (Does (SentMessage message))) run may is = record {
  least = is.least;
  drawn_are = λ m has primary. go m has primary;
  old = is.old;
  given_now = λ g has. let under = is.given_now g has in omega (arith, under);
  given_old = is.given_old;
}
  where
    go : (m : Message) → Has (message ∷ sent_in (own_of plan run.doings)) m → is_primary m ≡ true
        → Has (drawn_in (own_of plan run.doings)) m.system
    go m (inl same) primary =
        subst (λ (w : Message). Has (drawn_in (own_of plan run.doings)) w.system) (sym same)
        (may.0.1.primary (ap is_primary (sym same) ∙ primary)).drawn
    go m (inr has) primary = is.drawn_are m has primary
numbered-after plan arrived way (Did (Does (ReceivedMessage message))) run may is = is
numbered-after plan arrived way (Did (Does (DroppedMessage header now))) run may is = is
numbered-after plan arrived way (Did (Does (GaveBlock place number))) run may is = absurd may.0.1
numbered-after plan arrived way (Did (Does (WroteFrame place number))) run may is = absurd may.0.1
numbered-after plan arrived way (Did (Does (HeardBlock block now flow))) run may is = absurd may.0.1
numbered-after plan arrived way (Did (Gives place number block now)) run may is = record {
  least = is.least;
  drawn_are = is.drawn_are;
  old = is.old;
  given_now = λ g has. go g has;
  given_old = is.given_old;
}
  where
    go : (g : Giving) → Has (record { place = place; number = number } ∷ given_in (own_of plan run.doings)) g
        → g.place < length (sent_in (own_of plan run.doings))
    go g (inl same) =
        let at : g.place ≡ place = ap (λ (x : Giving). x.place) same in
        let under =
        place-below place (sent_in (own_of plan run.doings)) may.0.may.message may.0.may.sent
        in
        omega (arith, at, under)
    go g (inr has) = is.given_now g has
numbered-after plan arrived way (Did (Calls call)) run may is = carried
  where
    own : List Own
    own = own_of plan run.doings

    same : AreSame (with_call (receiver_of plan) call (line_of plan run.doings) own) own
    same = call-same (receiver_of plan) call (line_of plan run.doings) own

    carried : IsNumbered plan (run_after plan arrived (Did (Calls call)) run)
    carried =
        subst
        (λ (d : List ℕ).
        AreNumbered run.base d (sent_in (own_of plan (Calls call ∷ run.doings)))
        (given_in (own_of plan (Calls call ∷ run.doings))) run.sent_before run.given_before) (sym same.drawn)
        (subst
        (λ (s : List Message).
        AreNumbered run.base (drawn_in own) s (given_in (own_of plan (Calls call ∷ run.doings))) run.sent_before
        run.given_before) (sym same.sent)
        (subst
        (λ (g : List Giving). AreNumbered run.base (drawn_in own) (sent_in own) g run.sent_before run.given_before)
        (sym same.given) is))
numbered-after plan arrived way (Did (Says what)) run may is = is
numbered-after plan arrived way (Started note base) run may is =
    numbered-started plan run run.base base is may.1.least may.1.above
numbered-after plan arrived way Lost run may is = is
numbered-after plan arrived way (Changed place byte) run may is = is
numbered-after plan arrived way (Added byte) run may is = is
