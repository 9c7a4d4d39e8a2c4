-- Each doing of an end, and each power loss, keeps what holds of two ends; and what follows for the messages received.
use Rattle.std.proofs.Common.{◌≡◌, sym, ap, ◌∙◌, ℕ, [], length, Some}
use Rattle.block_codec.specs.Block.{BlockView}
use Rattle.block_codec.specs.declared.header.Header.{Header}
use Rattle.gl_base.specs.Side.{other_side}
use Rattle.message_end.specs.Plan.{EndPlan, receiver_of}
use Rattle.message_flow.specs.declared.flow.Flow.{Flow}
use Rattle.message_flow.specs.declared.message.Message.{Message}
use Rattle.message_flow.specs.History.{flow_after, met_of}
use Rattle.message_flow.specs.Laws.{BlocksMakeMessages}
use Rattle.message_flow.specs.Message.{is_primary}
use Rattle.delivery.proofs.Answering.{answering-asked, answering-heard, answering-none, answering-received, answering-restarted, answering-sent, answering-told, answering-unheard, answering-wrote, sent-new}
use Rattle.delivery.proofs.Facts.{AreApart, HoldsOnWay, IsDelivered, IsFrameOf, IsLive, IsSound, WayFact}
use Rattle.delivery.proofs.Facts.Fact.{Back, HereSends, Out, Sides, ThereSends}
use Rattle.delivery.proofs.Facts.IsLive.{past, present}
use Rattle.delivery.proofs.Facts.WayFact.{Answering, Apart, Hearing, Receiving}
use Rattle.delivery.proofs.Hearing.{apart-fewer, apart-sent, hearing-dropped, hearing-gave, hearing-heard, hearing-none, live-heard, live-restarted, live-unheard}
use Rattle.delivery.proofs.Receiving.{made-given, received-once, receiving-heard, receiving-none, receiving-received}
use Rattle.delivery.proofs.Sending.{sending-emptied, sending-gave, sending-none, sending-restarted, sending-sent, sending-wrote}
use Rattle.delivery.proofs.Tags.{Arrives, MayDoOne, MayGiveOne, MaySendOne, MayWriteOne, TaggedBlock, TaggedDoing, TaggedEnd, TaggedMessage, TaggedWhole, done, emptied, new_end, restarted}
use Rattle.delivery.proofs.Tags.TaggedDoing.{DroppedOne, GaveOne, HeardOne, ReceivedOne, SentOne, WroteOne}

-- ---- at the start

apart-none : AreApart [] []
apart-none = λ a b live_a live_b system parity. go a b live_a
  where
    go : (a b : TaggedMessage) → IsLive [] [] a → a ≡ b
    go a b (present has) = absurd has
    go a b (past h has of) = absurd has

way-none : (fact : WayFact) (here there : EndPlan) → HoldsOnWay fact (new_end here) (new_end there)
way-none Hearing here there = hearing-none here [] (receiver_of there)
way-none Apart here there = apart-none
way-none Receiving here there = receiving-none
way-none Answering here there = answering-none here.side []

pub sound-new :
    (here there : EndPlan) → here.side ≡ other_side there.side → IsSound (new_end here) (new_end there)
sound-new here there sides Sides = sides
sound-new here there sides HereSends = sending-none
sound-new here there sides ThereSends = sending-none
sound-new here there sides (Out fact) = way-none fact here there
sound-new here there sides (Back fact) = way-none fact there here

-- ---- each doing: the facts that it changes, and the others as they were. The last line of each is taken apart only
-- where `Out` and `Back` are: so where none of theirs changes, one that stays is named

sound-sent :
    (x y : TaggedEnd) (message : TaggedMessage) → MaySendOne x.plan.side x.ever x.asked message → IsSound x y
    → IsSound (done (SentOne message) x) y
sound-sent x y message may is HereSends =
    sending-sent x.plan.side x.sent x.ever x.given x.frames x.asked message may (is HereSends)
sound-sent x y message may is (Out Apart) =
    apart-sent x.sent y.heard message (sent-new x y message is may) (is (Out Apart))
sound-sent x y message may is (Out Answering) = answering-sent x y message is may
sound-sent x y message may is (Back Answering) = answering-asked x y message is may
sound-sent x y message may is fact = is fact

sound-received :
    (x y : TaggedEnd) (w : TaggedWhole) → x.whole ≡ Some w → IsSound x y → IsSound (done (ReceivedOne w) x) y
sound-received x y w whole is (Out Answering) = answering-received x y w is whole
sound-received x y w whole is (Back Receiving) =
    receiving-received x.heard x.received x.whole w whole (is (Back Receiving))
sound-received x y w whole is fact = is fact

sound-gave :
    (x y : TaggedEnd) (block : TaggedBlock) → MayGiveOne x.sent x.given block → IsSound x y
    → IsSound (done (GaveOne block) x) y
sound-gave x y block may is HereSends = sending-gave x.sent x.ever x.given x.frames block may (is HereSends)
sound-gave x y block may is (Out Hearing) =
    hearing-gave x.plan x.given (receiver_of y.plan) y.heard y.entries block (is (Out Hearing))
sound-gave x y block may is (Back Hearing) = is (Back Hearing)
sound-gave x y block may is fact = is fact

sound-wrote :
    (x y : TaggedEnd) (block : TaggedBlock) → MayWriteOne x.plan.side x.sent x.given x.heard block → IsSound x y
    → IsSound (done (WroteOne block) x) y
sound-wrote x y block may is HereSends =
    sending-wrote x.sent x.ever x.given x.frames block may.is_given may.of_sent (is HereSends)
sound-wrote x y block may is (Back Answering) = answering-wrote x y block is may
sound-wrote x y block may is (Out Hearing) = is (Out Hearing)
sound-wrote x y block may is fact = is fact

sound-heard :
    BlocksMakeMessages → (x y : TaggedEnd) (block : TaggedBlock) (view : BlockView) (now : ℕ) (flow : Flow)
    → Arrives y.plan y.frames x.heard block view
    → flow ≡ flow_after (receiver_of x.plan) (met_of (receiver_of x.plan) x.entries) view
    → IsSound x y → IsSound (done (HeardOne block view now flow) x) y
sound-heard make x y block view now flow arrives flow_is is fact =
    go ((is ThereSends).frames_are block arrives.written) fact
  where
    go : IsFrameOf y.sent y.given block → IsSound (done (HeardOne block view now flow) x) y
    go frame (Out Answering) = answering-heard x y block flow is arrives.written
    go frame (Back Hearing) =
        hearing-heard y.plan y.given y.frames (receiver_of x.plan) x.heard x.entries block view now (length x.ever)
        frame.is_given arrives (is (Back Hearing))
    go frame (Back Apart) =
        apart-fewer y.sent y.sent x.heard _ (live-heard y.sent x.heard _ frame.of_sent) (is (Back Apart))
    go frame (Back Receiving) = receiving-heard make x y block view flow (length x.ever) is arrives flow_is
    go frame (Back Answering) = answering-told x y block view is frame.of_sent
    go frame fact = is fact

sound-dropped :
    (x y : TaggedEnd) (header : Header) (now : ℕ) → IsSound x y → IsSound (done (DroppedOne header now) x) y
sound-dropped x y header now is (Back Hearing) =
    hearing-dropped y.plan y.given (receiver_of x.plan) x.heard x.entries header now (is (Back Hearing))
sound-dropped x y header now is (Out Hearing) = is (Out Hearing)
sound-dropped x y header now is fact = is fact

pub sound-done :
    BlocksMakeMessages → (x y : TaggedEnd) (doing : TaggedDoing) → MayDoOne x y doing → IsSound x y
    → IsSound (done doing x) y
sound-done make x y (SentOne message) may is = sound-sent x y message may is
sound-done make x y (ReceivedOne whole) may is = sound-received x y whole may is
sound-done make x y (GaveOne block) may is = sound-gave x y block may is
sound-done make x y (WroteOne block) may is = sound-wrote x y block may is
sound-done make x y (HeardOne block view now flow) may is =
    sound-heard make x y block view now flow may.0 may.1 is
sound-done make x y (DroppedOne header now) may is = sound-dropped x y header now is

-- ---- the end here loses its power

pub sound-restarted : (x y : TaggedEnd) → IsSound x y → IsSound (restarted x) (emptied y)
sound-restarted x y is HereSends = sending-restarted x.sent x.ever x.given x.frames (is HereSends)
sound-restarted x y is ThereSends = sending-emptied y.sent y.ever y.given y.frames (is ThereSends)
sound-restarted x y is (Out Apart) =
    apart-fewer x.sent [] y.heard y.heard (live-restarted x.sent y.heard) (is (Out Apart))
sound-restarted x y is (Out Answering) = answering-restarted x y is
sound-restarted x y is (Back Hearing) = hearing-none y.plan y.given (receiver_of x.plan)
sound-restarted x y is (Back Apart) =
    apart-fewer y.sent y.sent x.heard [] (live-unheard y.sent x.heard) (is (Back Apart))
sound-restarted x y is (Back Receiving) = receiving-none
sound-restarted x y is (Back Answering) = answering-unheard x y is
sound-restarted x y is fact = is fact

-- ---- what an end receives was sent, and is received once

pub delivered : (x y : TaggedEnd) (w : TaggedWhole) → IsSound x y → x.whole ≡ Some w → IsDelivered x y w
delivered x y w is whole =
    let made = (is (Back Receiving)).whole_is w whole in
    let given = made-given x y w is made in
    record {
      message = made.message;
      sent = ((is ThereSends).given_are w.block given).sent;
      given = given;
      last = made.last;
      newest = (is (Back Receiving)).newest w whole;
      once = λ r has parity system.
          let message = ((is (Back Receiving)).received_are r has).message in
          received-once x y r w is whole has
          (sym (ap (λ (m : Message). m.system) message) ∙ system ∙ ap (λ (m : Message). m.system) made.message)
          (sym (ap is_primary message) ∙ parity ∙ ap is_primary made.message);
      order = λ r has. (is (Back Receiving)).later w whole r has;
    }
