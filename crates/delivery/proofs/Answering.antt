-- What an end answers: each reply has a primary that was received, and is sent once; so what it sends is apart from all
-- that the other end may hear.
use Rattle.std.proofs.Common.{◌≡◌, refl, sym, ap, ◌∙◌, subst, arith, ◌<◌, inl, inr, Bool, true, false, List, [], ◌∷◌, length, Option, Some, None, if◌then◌else◌}
use Rattle.std.proofs.lemmas.Bool.{and_parts, eqb-true}
use Rattle.block_codec.specs.Block.{BlockView}
use Rattle.block_codec.specs.declared.header.Header.{Header}
use Rattle.gl_base.specs.declared.side.Side.{Side}
use Rattle.gl_base.specs.Side.{other_side}
use Rattle.message_end.specs.Own.{Has, IsReplyTo, whole_of}
use Rattle.message_flow.specs.declared.flow.Flow.{Flow}
use Rattle.message_flow.specs.declared.message.Message.{Message}
use Rattle.message_flow.specs.Blocks.{header_of}
use Rattle.message_flow.specs.Message.{is_primary}
use Rattle.delivery.proofs.Facts.{IsAnswering, IsAsked, IsFree, IsLive, IsOfSecondary, IsPending, IsReplied, IsSound}
use Rattle.delivery.proofs.Facts.IsLive.{past, present}
use Rattle.delivery.proofs.Facts.Fact.{Back, HereSends, Out, Sides, ThereSends}
use Rattle.delivery.proofs.Facts.WayFact.{Answering, Hearing, Receiving}
use Rattle.delivery.proofs.Receiving.{made-given, received-once, whole-block}
use Rattle.delivery.proofs.Tags.{AnswersAsked, MaySendOne, MayWriteOne, TaggedBlock, TaggedEnd, TaggedHearing, TaggedMessage, TaggedWhole, with_block}

pub answering-none : (side : Side) (primaries : List TaggedMessage)
    → IsAnswering side [] [] [] None None primaries [] []
answering-none side primaries = record {
  secondaries = λ m has secondary. absurd has;
  replied = λ m has secondary. absurd has;
  pending = λ w e. absurd (cc);
  free_asked = λ w e. absurd (cc);
  free_whole = λ w e. absurd (cc);
  free_frames = λ b has. absurd has;
  after = λ u sent primary h has. absurd has;
}

-- ---- a message more is sent

-- the primary that a reply answers was received, and the other end sent it
record IsReplyFor
    (side : Side) (received : List TaggedWhole) (asked : Option TaggedWhole) (primaries : List TaggedMessage)
    (message : TaggedMessage)
    : Type 0 where
  pub whole : TaggedWhole
  pub is : asked ≡ Some whole
  pub has : Has received whole
  pub sent : Has primaries whole.block.of
  pub primary : is_primary whole.block.of.message ≡ true
  pub system : message.message.system ≡ whole.block.of.message.system
  pub reply : IsReplyTo (other_side side) whole.block.of.message (header_of side 0 message.message 1)

reply-system : (side : Side) (primary : Message) (header : Header) → IsReplyTo side primary header
    → header.system ≡ primary.system
reply-system side primary header is =
    let function = and_parts _ _ is in
    let from = and_parts _ _ function.0 in
    let wait = and_parts _ _ from.0 in
    let stream = and_parts _ _ wait.0 in
    eqb-true _ _ stream.0

reply-for :
    (x y : TaggedEnd) (message : TaggedMessage) → IsSound x y → AnswersAsked x.plan.side x.asked message
    → IsReplyFor x.plan.side x.received x.asked y.ever message
reply-for x y message is answers =
    let pending = (is (Out Answering)).pending answers.whole answers.is in
    let made = (is (Back Receiving)).received_are answers.whole pending.has in
    record {
      whole = answers.whole;
      is = answers.is;
      has = pending.has;
      sent = ((is ThereSends).given_are answers.whole.block (made-given x y answers.whole is made)).sent;
      primary = subst (λ (m : Message). is_primary m ≡ true) made.message answers.primary;
      system =
          reply-system (other_side x.plan.side) answers.whole.message
          (header_of x.plan.side 0 message.message 1) answers.reply
          ∙ ap (λ (m : Message). m.system) made.message;
      reply =
          subst (λ (m : Message). IsReplyTo (other_side x.plan.side) m (header_of x.plan.side 0 message.message 1))
          made.message answers.reply;
    }

-- no live message has the system bytes and the parity of one that may be sent: no primary that was ever sent; no reply
-- sent in this start, and none that the other end has heard
pub sent-new :
    (x y : TaggedEnd) (message : TaggedMessage) → IsSound x y → MaySendOne x.plan.side x.ever x.asked message
    → (m : TaggedMessage) → IsLive x.sent y.heard m → m.message.system ≡ message.message.system
    → is_primary m.message ≡ is_primary message.message → ⊥
sent-new x y message is may m live system parity = go (is_primary message.message) refl live
  where
    answered : is_primary message.message ≡ false → IsReplyFor x.plan.side x.received x.asked y.ever message
    answered secondary = reply-for x y message is (may.reply secondary)

    new_reply : is_primary message.message ≡ false → (n : TaggedMessage) → Has x.sent n → n ≡ m → ⊥
    new_reply secondary n has same =
        let by = answered secondary in
        ((is (Out Answering)).pending by.whole by.is).none by.primary n has
        (ap (λ (t : TaggedMessage). is_primary t.message) same ∙ parity ∙ secondary)
        (ap (λ (t : TaggedMessage). t.message.system) same ∙ system ∙ by.system)

    go : (t : Bool) → is_primary message.message ≡ t → IsLive x.sent y.heard m → ⊥
    go true primary (present has) = may.new primary m ((is HereSends).ever_sent m has) (parity ∙ primary) system
    go true primary (past h has of) =
        let given = ((is (Out Hearing)).heard_are h has).is_given in
        may.new primary m
        (subst (λ (t : TaggedMessage). Has x.ever t) of ((is HereSends).given_are h.block given).sent)
        (parity ∙ primary) system
    go false secondary (present has) = new_reply secondary m has refl
    go false secondary (past h has of) =
        let by = answered secondary in
        new_reply secondary h.block.of
        ((is (Out Answering)).free_asked by.whole by.is by.primary h has (record {
          secondary = ap (λ (t : TaggedMessage). is_primary t.message) of ∙ parity ∙ secondary;
          system = ap (λ (t : TaggedMessage). t.message.system) of ∙ system ∙ by.system;
        })) of

still-asked : (t : Bool) (asked : Option TaggedWhole) (w : TaggedWhole) → (if t then asked else None) ≡ Some w
    → (t ≡ true) × (asked ≡ Some w)
still-asked true asked w e = (refl, e)
still-asked false asked w e = absurd (cc)

pub answering-sent :
    (x y : TaggedEnd) (message : TaggedMessage) → IsSound x y → MaySendOne x.plan.side x.ever x.asked message
    → IsAnswering x.plan.side (message ∷ x.sent) (message ∷ x.ever) x.received x.whole
    (if is_primary message.message then x.asked else None) y.ever y.heard y.frames
answering-sent x y message is may = record {
  secondaries = secondaries;
  replied = replied;
  pending = pending;
  free_asked = λ w e primary h has reply.
      inr (old.free_asked w (still-asked (is_primary message.message) x.asked w e).1 primary h has reply);
  free_whole = λ w e primary h has reply. inr (old.free_whole w e primary h has reply);
  free_frames = λ b written primary h has reply. inr (old.free_frames b written primary h has reply);
  after = old.after;
}
  where
    old : IsAnswering x.plan.side x.sent x.ever x.received x.whole x.asked y.ever y.heard y.frames
    old = is (Out Answering)

    answered : (m : TaggedMessage) → m ≡ message → is_primary m.message ≡ false
        → IsReplyFor x.plan.side x.received x.asked y.ever m
    answered m e secondary =
        rw e (reply-for x y message is
        (may.reply (sym (ap (λ (t : TaggedMessage). is_primary t.message) e) ∙ secondary)))

    secondaries : (m : TaggedMessage) → Has (message ∷ x.ever) m → is_primary m.message ≡ false
        → IsAsked x.plan.side y.ever m
    secondaries m (inl e) secondary =
        let by = answered m e secondary in
        record {
          asker = by.whole.block.of;
          sent = by.sent;
          primary = by.primary;
          system = by.system;
          reply = by.reply;
        }
    secondaries m (inr has) secondary = old.secondaries m has secondary

    replied : (m : TaggedMessage) → Has (message ∷ x.sent) m → is_primary m.message ≡ false
        → IsReplied x.received m
    replied m (inl e) secondary =
        let by = answered m e secondary in
        record { whole = by.whole; has = by.has; primary = by.primary; system = by.system }
    replied m (inr has) secondary = old.replied m has secondary

    pending : (w : TaggedWhole) → (if is_primary message.message then x.asked else None) ≡ Some w
        → IsPending (message ∷ x.sent) x.received w
    pending w e =
        let still = still-asked (is_primary message.message) x.asked w e in
        let before = old.pending w still.1 in
        record { has = before.has; none = λ primary m has. go still.0 (before.none primary) m has }
      where
        go : is_primary message.message ≡ true
            → ((m : TaggedMessage) → Has x.sent m → is_primary m.message ≡ false
            → m.message.system ≡ w.block.of.message.system → ⊥)
            → (m : TaggedMessage) → Has (message ∷ x.sent) m → is_primary m.message ≡ false
            → m.message.system ≡ w.block.of.message.system → ⊥
        go primary none m (inl e) secondary system =
            let parity : is_primary m.message ≡ is_primary message.message =
            ap (λ (t : TaggedMessage). is_primary t.message) e in
            cc
        go primary none m (inr has) secondary system = none m has secondary system

-- the other end answers it: none of its replies with these system bytes was heard
pub answering-asked :
    (x y : TaggedEnd) (message : TaggedMessage) → IsSound x y → MaySendOne x.plan.side x.ever x.asked message
    → IsAnswering y.plan.side y.sent y.ever y.received y.whole y.asked (message ∷ x.ever) x.heard x.frames
answering-asked x y message is may = record {
  secondaries = λ m has secondary.
      let by = old.secondaries m has secondary in
      record {
        asker = by.asker;
        sent = inr by.sent;
        primary = by.primary;
        system = by.system;
        reply = by.reply;
      };
  replied = old.replied;
  pending = old.pending;
  free_asked = old.free_asked;
  free_whole = old.free_whole;
  free_frames = old.free_frames;
  after = after;
}
  where
    old : IsAnswering y.plan.side y.sent y.ever y.received y.whole y.asked x.ever x.heard x.frames
    old = is (Back Answering)

    after : (u : TaggedMessage) → Has (message ∷ x.ever) u → is_primary u.message ≡ true → (h : TaggedHearing)
        → Has x.heard h → IsOfSecondary u h → u.place < h.after
    after u (inl e) primary h has reply =
        let given = ((is (Back Hearing)).heard_are h has).is_given in
        let by = old.secondaries h.block.of ((is ThereSends).given_are h.block given).sent reply.secondary in
        absurd (may.new (sym (ap (λ (t : TaggedMessage). is_primary t.message) e) ∙ primary) by.asker by.sent by.primary
        (sym by.system ∙ reply.system ∙ ap (λ (t : TaggedMessage). t.message.system) e))
    after u (inr sent) primary h has reply = old.after u sent primary h has reply

-- ---- a message is received

pub answering-received :
    (x y : TaggedEnd) (w : TaggedWhole) → IsSound x y → x.whole ≡ Some w
    → IsAnswering x.plan.side x.sent x.ever (w ∷ x.received) None (Some w) y.ever y.heard y.frames
answering-received x y w is whole = record {
  secondaries = old.secondaries;
  replied = λ m has secondary.
      let by = old.replied m has secondary in
      record { whole = by.whole; has = inr by.has; primary = by.primary; system = by.system };
  pending = λ v e.
      let same : w ≡ v = cc in
      subst (λ (t : TaggedWhole). IsPending x.sent (w ∷ x.received) t) same unanswered;
  free_asked = λ v e. old.free_whole v (whole ∙ e);
  free_whole = λ v e. absurd (cc);
  free_frames = old.free_frames;
  after = old.after;
}
  where
    old : IsAnswering x.plan.side x.sent x.ever x.received x.whole x.asked y.ever y.heard y.frames
    old = is (Out Answering)

    unanswered : IsPending x.sent (w ∷ x.received) w
    unanswered = record {
      has = inl refl;
      none = λ primary m has secondary system.
          let by = old.replied m has secondary in
          received-once x y by.whole w is whole by.has (sym by.system ∙ system) (by.primary ∙ sym primary);
    }

-- ---- a frame is written, whose message the other end may answer: no block of a reply to it was heard

pub answering-wrote :
    (x y : TaggedEnd) (block : TaggedBlock) → IsSound x y → MayWriteOne x.plan.side x.sent x.given x.heard block
    → IsAnswering y.plan.side y.sent y.ever y.received y.whole y.asked x.ever x.heard (block ∷ x.frames)
answering-wrote x y block is may = record {
  secondaries = old.secondaries;
  replied = old.replied;
  pending = old.pending;
  free_asked = old.free_asked;
  free_whole = old.free_whole;
  free_frames = free_frames;
  after = old.after;
}
  where
    old : IsAnswering y.plan.side y.sent y.ever y.received y.whole y.asked x.ever x.heard x.frames
    old = is (Back Answering)

    -- what is heard of a secondary with its system bytes is of a reply to it
    matching : is_primary block.of.message ≡ true → (h : TaggedHearing) → Has x.heard h → IsOfSecondary block.of h
        → IsReplyTo x.plan.side block.of.message h.view.header
    matching primary h has reply =
        let heard = (is (Back Hearing)).heard_are h has in
        let header = header_of y.plan.side 0 h.block.of.message 1 in
        let by = old.secondaries h.block.of ((is ThereSends).given_are h.block heard.is_given).sent reply.secondary in
        let same : by.asker ≡ block.of =
        (is HereSends).fresh by.asker block.of by.sent ((is HereSends).ever_sent block.of may.of_sent) by.primary
        primary (sym by.system ∙ reply.system) in
        let here : IsReplyTo x.plan.side by.asker.message header =
        subst (λ (s : Side). IsReplyTo s by.asker.message header) (sym (is Sides)) by.reply in
        subst (λ (v : BlockView). IsReplyTo x.plan.side block.of.message v.header) (sym heard.is)
        (subst (λ (t : TaggedMessage). IsReplyTo x.plan.side t.message header) same here)

    free : IsFree y.sent x.heard block
    free = λ primary h has reply.
        let above = old.after block.of ((is HereSends).ever_sent block.of may.of_sent) primary h has reply in
        let below = may.unanswered primary h has (matching primary h has reply) in
        absurd (omega arith)

    free_frames : (b : TaggedBlock) → Has (block ∷ x.frames) b → IsFree y.sent x.heard b
    free_frames b (inl e) = rw e free
    free_frames b (inr has) = old.free_frames b has

-- ---- a block is heard

-- the message that becomes whole may be answered as the frame of its last block may
pub answering-heard :
    (x y : TaggedEnd) (block : TaggedBlock) (flow : Flow) → IsSound x y → Has y.frames block
    → IsAnswering x.plan.side x.sent x.ever x.received (with_block block
    (whole_of flow)) x.asked y.ever y.heard y.frames
answering-heard x y block flow is written = record {
  secondaries = old.secondaries;
  replied = old.replied;
  pending = old.pending;
  free_asked = old.free_asked;
  free_whole = λ w e.
      subst (λ (b : TaggedBlock). IsFree x.sent y.heard b) (sym (whole-block block flow w e))
      (old.free_frames block written);
  free_frames = old.free_frames;
  after = old.after;
}
  where
    old : IsAnswering x.plan.side x.sent x.ever x.received x.whole x.asked y.ever y.heard y.frames
    old = is (Out Answering)

-- the other end's block is of a message of its present start, and all primaries of this end were sent before
pub answering-told :
    (x y : TaggedEnd) (block : TaggedBlock) (view : BlockView) → IsSound x y → Has y.sent block.of
    → IsAnswering y.plan.side y.sent y.ever y.received y.whole y.asked x.ever
    (record { block = block; view = view; after = length x.ever } ∷ x.heard) x.frames
answering-told x y block view is of_sent = record {
  secondaries = old.secondaries;
  replied = old.replied;
  pending = old.pending;
  free_asked = λ w e. free w.block (old.free_asked w e);
  free_whole = λ w e. free w.block (old.free_whole w e);
  free_frames = λ b has. free b (old.free_frames b has);
  after = after;
}
  where
    old : IsAnswering y.plan.side y.sent y.ever y.received y.whole y.asked x.ever x.heard x.frames
    old = is (Back Answering)

    new : TaggedHearing
    new = record { block = block; view = view; after = length x.ever }

    free : (b : TaggedBlock) → IsFree y.sent x.heard b → IsFree y.sent (new ∷ x.heard) b
    free b is_free primary h (inl e) reply = rw e of_sent
    free b is_free primary h (inr has) reply = is_free primary h has reply

    after : (u : TaggedMessage) → Has x.ever u → is_primary u.message ≡ true → (h : TaggedHearing)
        → Has (new ∷ x.heard) h → IsOfSecondary u h → u.place < h.after
    after u sent primary h (inl e) reply = rw e ((is HereSends).placed u sent)
    after u sent primary h (inr has) reply = old.after u sent primary h has reply

-- ---- losses

-- the end that answers starts anew
pub answering-restarted :
    (x y : TaggedEnd) → IsSound x y → IsAnswering x.plan.side [] x.ever [] None None y.ever y.heard []
answering-restarted x y is = record {
  secondaries = (is (Out Answering)).secondaries;
  replied = λ m has secondary. absurd has;
  pending = λ w e. absurd (cc);
  free_asked = λ w e. absurd (cc);
  free_whole = λ w e. absurd (cc);
  free_frames = λ b has. absurd has;
  after = (is (Out Answering)).after;
}

-- the other one does, and has heard nothing
pub answering-unheard :
    (x y : TaggedEnd) → IsSound x y → IsAnswering y.plan.side y.sent y.ever y.received y.whole y.asked x.ever [] []
answering-unheard x y is = record {
  secondaries = (is (Back Answering)).secondaries;
  replied = (is (Back Answering)).replied;
  pending = (is (Back Answering)).pending;
  free_asked = λ w e primary h has reply. absurd has;
  free_whole = λ w e primary h has reply. absurd has;
  free_frames = λ b written. absurd written;
  after = λ u sent primary h has. absurd has;
}
