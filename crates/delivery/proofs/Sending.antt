-- What an end has sent, given and written.
use Rattle.std.proofs.Common.{◌≡◌, sym, ap, ◌∙◌, arith, ◌<◌, inl, inr, true, List, [], ◌∷◌, length, Option}
use Rattle.gl_base.specs.declared.side.Side.{Side}
use Rattle.message_end.specs.Own.{Has}
use Rattle.message_flow.specs.Message.{is_primary}
use Rattle.delivery.proofs.Facts.{IsFrameOf, IsOfSent, IsSending}
use Rattle.delivery.proofs.Tags.{MayGiveOne, MaySendOne, TaggedBlock, TaggedMessage, TaggedWhole}

pub sending-none : IsSending [] [] [] []
sending-none = record {
  placed = λ m has. absurd has;
  fresh = λ m n has other. absurd has;
  ever_sent = λ m has. absurd has;
  given_are = λ b has. absurd has;
  places = λ b has. absurd has;
  same = λ a b has other. absurd has;
  once = λ a b has other. absurd has;
  frames_are = λ b has. absurd has;
}

primary-as : (m message : TaggedMessage) → m ≡ message → is_primary m.message ≡ true → is_primary message.message ≡ true
primary-as m message e primary = sym (ap (λ (t : TaggedMessage). is_primary t.message) e) ∙ primary

pub sending-sent :
    (side : Side) (sent ever : List TaggedMessage) (given frames : List TaggedBlock) (asked : Option TaggedWhole)
    (message : TaggedMessage) → MaySendOne side ever asked message → IsSending sent ever given frames
    → IsSending (message ∷ sent) (message ∷ ever) given frames
sending-sent side sent ever given frames asked message may is = record {
  placed = placed;
  fresh = fresh;
  ever_sent = ever_sent;
  given_are = λ b has.
      let of = is.given_are b has in record { sent = inr of.sent; first = of.first; last = of.last };
  places = is.places;
  same = is.same;
  once = is.once;
  frames_are = λ b has.
      let of = is.frames_are b has in record { is_given = of.is_given; of_sent = inr of.of_sent };
}
  where
    placed : (m : TaggedMessage) → Has (message ∷ ever) m → m.place < length (message ∷ ever)
    placed m (inl e) =
        let at : m.place ≡ length ever = ap (λ (t : TaggedMessage). t.place) e ∙ may.place in omega arith
    placed m (inr has) = let below = is.placed m has in omega arith

    fresh : (m n : TaggedMessage) → Has (message ∷ ever) m → Has (message ∷ ever) n → is_primary m.message ≡ true
        → is_primary n.message ≡ true → m.message.system ≡ n.message.system → m ≡ n
    fresh m n (inl e) (inl f) primary other system = e ∙ sym f
    fresh m n (inl e) (inr has) primary other system =
        absurd (may.new (primary-as m message e primary) n has other
        (sym system ∙ ap (λ (t : TaggedMessage). t.message.system) e))
    fresh m n (inr has) (inl f) primary other system =
        absurd (may.new (primary-as n message f other) m has primary
        (system ∙ ap (λ (t : TaggedMessage). t.message.system) f))
    fresh m n (inr has) (inr more) primary other system = is.fresh m n has more primary other system

    ever_sent : (m : TaggedMessage) → Has (message ∷ sent) m → Has (message ∷ ever) m
    ever_sent m (inl e) = inl e
    ever_sent m (inr has) = inr (is.ever_sent m has)

pub sending-gave :
    (sent ever : List TaggedMessage) (given frames : List TaggedBlock) (block : TaggedBlock)
    → MayGiveOne sent given block → IsSending sent ever given frames → IsSending sent ever (block ∷ given) frames
sending-gave sent ever given frames block may is = record {
  placed = is.placed;
  fresh = is.fresh;
  ever_sent = is.ever_sent;
  given_are = given_are;
  places = places;
  same = same;
  once = once;
  frames_are = λ b has.
      let of = is.frames_are b has in record { is_given = inr of.is_given; of_sent = of.of_sent };
}
  where
    given_are : (b : TaggedBlock) → Has (block ∷ given) b → IsOfSent ever b
    given_are b (inl e) =
        rw e (record { sent = is.ever_sent block.of may.of_sent; first = may.first; last = may.last })
    given_are b (inr has) = is.given_are b has

    at : (b : TaggedBlock) → b ≡ block → b.place ≡ length given
    at b e = ap (λ (t : TaggedBlock). t.place) e ∙ may.place

    places : (b : TaggedBlock) → Has (block ∷ given) b → b.place < length (block ∷ given)
    places b (inl e) = let last = at b e in omega arith
    places b (inr has) = let below = is.places b has in omega arith

    same : (a b : TaggedBlock) → Has (block ∷ given) a → Has (block ∷ given) b → a.place ≡ b.place → a ≡ b
    same a b (inl e) (inl f) place = e ∙ sym f
    same a b (inl e) (inr other) place = absurd (omega (arith, at a e, is.places b other))
    same a b (inr has) (inl f) place = absurd (omega (arith, at b f, is.places a has))
    same a b (inr has) (inr other) place = is.same a b has other place

    of_same : (a b : TaggedBlock) → a ≡ b → a.of ≡ b.of
    of_same a b e = ap (λ (t : TaggedBlock). t.of) e

    number_same : (a b : TaggedBlock) → a ≡ b → a.number ≡ b.number
    number_same a b e = ap (λ (t : TaggedBlock). t.number) e

    once : (a b : TaggedBlock) → Has (block ∷ given) a → Has (block ∷ given) b → a.of ≡ b.of → a.number ≡ b.number
        → a ≡ b
    once a b (inl e) (inl f) of number = e ∙ sym f
    once a b (inl e) (inr other) of number =
        absurd (may.once b other (sym of ∙ of_same a block e) (sym number ∙ number_same a block e))
    once a b (inr has) (inl f) of number =
        absurd (may.once a has (of ∙ of_same b block f) (number ∙ number_same b block f))
    once a b (inr has) (inr other) of number = is.once a b has other of number

pub sending-wrote :
    (sent ever : List TaggedMessage) (given frames : List TaggedBlock) (block : TaggedBlock) → Has given block
    → Has sent block.of → IsSending sent ever given frames → IsSending sent ever given (block ∷ frames)
sending-wrote sent ever given frames block is_given of_sent is = record {
  placed = is.placed;
  fresh = is.fresh;
  ever_sent = is.ever_sent;
  given_are = is.given_are;
  places = is.places;
  same = is.same;
  once = is.once;
  frames_are = frames_are;
}
  where
    frames_are : (b : TaggedBlock) → Has (block ∷ frames) b → IsFrameOf sent given b
    frames_are b (inl e) = rw e (record { is_given = is_given; of_sent = of_sent })
    frames_are b (inr has) = is.frames_are b has

-- after a loss of the other end no frame counts; after a loss of this one no message either
pub sending-emptied :
    (sent ever : List TaggedMessage) (given frames : List TaggedBlock) → IsSending sent ever given frames
    → IsSending sent ever given []
sending-emptied sent ever given frames is = record {
  placed = is.placed;
  fresh = is.fresh;
  ever_sent = is.ever_sent;
  given_are = is.given_are;
  places = is.places;
  same = is.same;
  once = is.once;
  frames_are = λ b has. absurd has;
}

pub sending-restarted :
    (sent ever : List TaggedMessage) (given frames : List TaggedBlock) → IsSending sent ever given frames
    → IsSending [] ever given []
sending-restarted sent ever given frames is = record {
  placed = is.placed;
  fresh = is.fresh;
  ever_sent = λ m has. absurd has;
  given_are = is.given_are;
  places = is.places;
  same = is.same;
  once = is.once;
  frames_are = λ b has. absurd has;
}
