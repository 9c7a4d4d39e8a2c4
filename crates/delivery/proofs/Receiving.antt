-- What an end receives: the message as the other end sent it, and not twice.
use Rattle.std.proofs.Common.{◌≡◌, refl, sym, ap, ◌∙◌, subst, arith, ◌<◌, ◌≤◌, inl, inr, ℕ, Bool, true, false, ◌==◌, ◌%◌, List, [], ◌∷◌, Option, Some, None}
use Rattle.std.proofs.lemmas.Bool.{eq-eqb, eqb-true}
use Rattle.std.proofs.lemmas.Bool.Decides.{nat_tests}
use Rattle.block_codec.specs.Block.{BlockView}
use Rattle.block_codec.specs.declared.header.Header.{Header}
use Rattle.message_end.specs.Own.{Has, whole_of}
use Rattle.message_end.specs.Plan.{EndPlan, block_of, receiver_of}
use Rattle.message_flow.specs.declared.flow.Flow.{Flow}
use Rattle.message_flow.specs.declared.flow.Flow.TheVariants.{Part, Whole, Duplicate, Foreign, Unexpected, TooLong, Crowded}
use Rattle.message_flow.specs.declared.message.Message.{Message}
use Rattle.message_flow.specs.Arrivals.{IsBlockOf}
use Rattle.message_flow.specs.Blocks.{block_count}
use Rattle.message_flow.specs.Entries.{blocks_in}
use Rattle.message_flow.specs.History.{flow_after, last_given, met_of}
use Rattle.message_flow.specs.Key.{is_given, same_header, same_key}
use Rattle.message_flow.specs.Laws.{BlocksMakeMessages}
use Rattle.message_flow.specs.Message.{is_primary}
use Rattle.message_flow.proofs.Keys.{beq-self, key-same, key-self}
use Rattle.secs_items.specs.Checking.{Checking, check_of}
use Rattle.delivery.proofs.Facts.{IsFrameOf, IsMade, IsNewest, IsReceiving, IsSound, Rise, newest_of}
use Rattle.delivery.proofs.Facts.IsLive.{past, present}
use Rattle.delivery.proofs.Facts.Fact.{Back, ThereSends}
use Rattle.delivery.proofs.Facts.WayFact.{Apart, Hearing, Receiving}
use Rattle.delivery.proofs.Hearing.{all-of}
use Rattle.delivery.proofs.Tags.{Arrives, TaggedBlock, TaggedEnd, TaggedHearing, TaggedMessage, TaggedWhole, view_of, with_block}

-- ---- a block that makes a message whole

record IsWholeBy (block : TaggedBlock) (flow : Flow) (w : TaggedWhole) : Type 0 where
  pub check : Checking
  pub flow_is : flow ≡ Whole w.message check
  pub block_is : w.block ≡ block

abbrev whole-with : TaggedBlock → Message → TaggedWhole
whole-with block message = record { message = message; block = block }

whole-by : (block : TaggedBlock) (flow : Flow) (w : TaggedWhole) → with_block block (whole_of flow) ≡ Some w
    → IsWholeBy block flow w
whole-by block (Whole message check) w e =
    let same : whole-with block message ≡ w = cc in
    record {
      check = check;
      flow_is = ap (λ (t : TaggedWhole). Whole t.message check) same;
      block_is = sym (ap (λ (t : TaggedWhole). t.block) same);
    }
whole-by block Part w e = absurd (cc)
whole-by block Duplicate w e = absurd (cc)
whole-by block (Foreign address) w e = absurd (cc)
whole-by block Unexpected w e = absurd (cc)
whole-by block TooLong w e = absurd (cc)
whole-by block Crowded w e = absurd (cc)

pub whole-block : (block : TaggedBlock) (flow : Flow) (w : TaggedWhole)
    → with_block block (whole_of flow) ≡ Some w → w.block ≡ block
whole-block block flow w e = (whole-by block flow w e).block_is

header-self : (header : Header) → same_header header header ≡ true
header-self header = rw (key-self header, beq-self header.last, eq-eqb header.number header.number refl)

-- a block that isn't the newest heard once more was given after all that were heard
newer :
    (plan : EndPlan) (given : List TaggedBlock) (heard : List TaggedHearing) (block : TaggedBlock) (view : BlockView)
    → ((a b : TaggedBlock) → Has given a → Has given b → a.place ≡ b.place → a ≡ b) → Has given block
    → ((h : TaggedHearing) → Has heard h → Has given h.block)
    → ((h : TaggedHearing) → Has heard h → h.view ≡ view_of plan h.block) → view ≡ view_of plan block
    → Rise heard → ((h : TaggedHearing) → Has heard h → h.block.place ≤ block.place)
    → is_given (newest_of heard) view.header ≡ false
    → (h : TaggedHearing) → Has heard h → h.block.place < block.place
newer plan given [] block view same is_given_block given_are are is rise order new = λ h has. absurd has
newer plan given (n ∷ before) block view same is_given_block given_are are is rise order new =
    λ h has. go h has (below (n.block.place == block.place) refl)
  where
    again : n.block ≡ block → is_given (newest_of (n ∷ before)) view.header ≡ true
    again e =
        let views : n.view ≡ view =
        are n (inl refl) ∙ ap (λ (b : TaggedBlock). view_of plan b) e ∙ sym is in
        ap (λ (v : BlockView). same_header v.header view.header) views ∙ header-self view.header

    below : (t : Bool) → (n.block.place == block.place) ≡ t → n.block.place < block.place
    below true e =
        let twice = again (same n.block block (given_are n (inl refl)) is_given_block (eqb-true _ _ e)) in absurd (cc)
    below false e = let least = order n (inl refl) in grind (arith, nat_tests)

    go : (h : TaggedHearing) → Has (n ∷ before) h → n.block.place < block.place → h.block.place < block.place
    go h (inl e) less = rw e less
    go h (inr has) less = let most = rise.0 h has in omega arith

record IsLastOf (heard : List TaggedHearing) (block : TaggedBlock) (w : TaggedWhole) : Type 0 where
  pub block_is : w.block ≡ block
  pub message : w.message ≡ block.of.message
  pub last : block.number ≡ block_count block.of.message
  pub new : (h : TaggedHearing) → Has heard h → h.block.place < block.place

-- the block is heard by the end here
last-of :
    BlocksMakeMessages → (x y : TaggedEnd) (block : TaggedBlock) (view : BlockView) (flow : Flow) (w : TaggedWhole)
    → IsSound x y → Arrives y.plan y.frames x.heard block view
    → flow ≡ flow_after (receiver_of x.plan) (met_of (receiver_of x.plan) x.entries) view
    → with_block block (whole_of flow) ≡ Some w → IsLastOf x.heard block w
last-of make x y block view flow w is arrives flow_is e = record {
  block_is = by.block_is;
  message = makes.0;
  last = ap (λ (v : BlockView). v.header.number) (sym arrives.is ∙ makes.1);
  new = newer y.plan y.given x.heard block view (is ThereSends).same frame.is_given
      (λ h has. ((is (Back Hearing)).heard_are h has).is_given)
      (λ h has. ((is (Back Hearing)).heard_are h has).is) arrives.is (is (Back Hearing)).rise arrives.order
      (sym (ap (λ (o : Option Header). is_given o view.header) (is (Back Hearing)).last) ∙ makes.2);
}
  where
    by : IsWholeBy block flow w
    by = whole-by block flow w e

    frame : IsFrameOf y.sent y.given block
    frame = (is ThereSends).frames_are block arrives.written

    -- what was heard with its key is of the same message
    of_message : (v : BlockView) → Has (blocks_in x.entries) v → same_key v.header view.header ≡ true
        → IsBlockOf y.plan.side y.plan.line.device block.of.message v
    of_message v has key =
        let seen = (is (Back Hearing)).entered v has in
        let b = seen.hearing.block in
        let heard_is = (is (Back Hearing)).heard_are seen.hearing seen.has in
        let v_is : v ≡ view_of y.plan b = seen.is ∙ heard_is.is in
        let keys = key-same v.header view.header key in
        let system : b.of.message.system ≡ block.of.message.system =
        sym (ap (λ (v : BlockView). v.header.system) v_is) ∙ keys.system
        ∙ ap (λ (v : BlockView). v.header.system) arrives.is in
        let function : b.of.message.function ≡ block.of.message.function =
        sym (ap (λ (v : BlockView). v.header.function) v_is) ∙ keys.function
        ∙ ap (λ (v : BlockView). v.header.function) arrives.is in
        let same : b.of ≡ block.of =
        (is (Back Apart)) b.of block.of (past seen.hearing seen.has refl) (present frame.of_sent) system
        (ap (λ (n : ℕ). n % 2 == 1) function) in
        let of = (is ThereSends).given_are b heard_is.is_given in
        record {
          number = b.number;
          first = of.first;
          last = subst (λ (m : TaggedMessage). b.number ≤ block_count m.message) same of.last;
          is = v_is ∙ ap (λ (m : TaggedMessage). block_of y.plan m.message b.number) same;
        }

    makes : (w.message ≡ block.of.message)
        × (view ≡ block_of y.plan block.of.message (block_count block.of.message))
        × (is_given (last_given (met_of (receiver_of x.plan) x.entries)) view.header ≡ false)
        × (by.check ≡ check_of block.of.message.body)
    makes =
        let of = (is ThereSends).given_are block frame.is_given in
        (make (receiver_of x.plan) x.entries y.plan.side y.plan.line.device block.of.message).whole_is view
        w.message by.check
        (record { number = block.number; first = of.first; last = of.last; is = arrives.is })
        (all-of _ (blocks_in x.entries) of_message) (sym flow_is ∙ by.flow_is)

-- ---- what an end receives

pub receiving-none : IsReceiving [] [] None
receiving-none = record {
  received_are = λ w has. absurd has;
  whole_is = λ w e. absurd (cc);
  newest = λ w e. absurd (cc);
  later = λ w e. absurd (cc);
}

pub receiving-heard :
    BlocksMakeMessages → (x y : TaggedEnd) (block : TaggedBlock) (view : BlockView) (flow : Flow) (after : ℕ)
    → IsSound x y → Arrives y.plan y.frames x.heard block view
    → flow ≡ flow_after (receiver_of x.plan) (met_of (receiver_of x.plan) x.entries) view
    → IsReceiving (record { block = block; view = view; after = after } ∷ x.heard) x.received
    (with_block block (whole_of flow))
receiving-heard make x y block view flow after is arrives flow_is =
    record { received_are = received_are; whole_is = whole_is; newest = newest; later = later }
  where
    new : TaggedHearing
    new = record { block = block; view = view; after = after }

    last : (w : TaggedWhole) → with_block block (whole_of flow) ≡ Some w → IsLastOf x.heard block w
    last w e = last-of make x y block view flow w is arrives flow_is e

    received_are : (w : TaggedWhole) → Has x.received w → IsMade (new ∷ x.heard) w
    received_are w has =
        let made = (is (Back Receiving)).received_are w has in
        record {
          hearing = made.hearing;
          has = inr made.has;
          block = made.block;
          message = made.message;
          last = made.last;
        }

    whole_is : (w : TaggedWhole) → with_block block (whole_of flow) ≡ Some w → IsMade (new ∷ x.heard) w
    whole_is w e =
        let by = last w e in
        record {
          hearing = new;
          has = inl refl;
          block = sym by.block_is;
          message = by.message ∙ ap (λ (b : TaggedBlock). b.of.message) (sym by.block_is);
          last = subst (λ (b : TaggedBlock). b.number ≡ block_count b.of.message) (sym by.block_is) by.last;
        }

    newest : (w : TaggedWhole) → with_block block (whole_of flow) ≡ Some w → IsNewest (new ∷ x.heard) w.block
    newest w e = sym (last w e).block_is

    later : (w : TaggedWhole) → with_block block (whole_of flow) ≡ Some w → (r : TaggedWhole) → Has x.received r
        → r.block.place < w.block.place
    later w e r has =
        let made = (is (Back Receiving)).received_are r has in
        let below = (last w e).new made.hearing made.has in
        let here : made.hearing.block.place ≡ r.block.place = ap (λ (b : TaggedBlock). b.place) made.block in
        let there : w.block.place ≡ block.place = ap (λ (b : TaggedBlock). b.place) (last w e).block_is in
        omega arith

pub receiving-received :
    (heard : List TaggedHearing) (received : List TaggedWhole) (whole : Option TaggedWhole) (w : TaggedWhole)
    → whole ≡ Some w → IsReceiving heard received whole → IsReceiving heard (w ∷ received) None
receiving-received heard received whole w e is = record {
  received_are = received_are;
  whole_is = λ v none. absurd (cc);
  newest = λ v none. absurd (cc);
  later = λ v none. absurd (cc);
}
  where
    received_are : (v : TaggedWhole) → Has (w ∷ received) v → IsMade heard v
    received_are v (inl same) = rw same (is.whole_is w e)
    received_are v (inr has) = is.received_are v has

-- ---- a message that was made was given by the other end, and no block makes it twice

pub made-given : (x y : TaggedEnd) (w : TaggedWhole) → IsSound x y → IsMade x.heard w → Has y.given w.block
made-given x y w is made =
    subst (λ (b : TaggedBlock). Has y.given b) made.block ((is (Back Hearing)).heard_are made.hearing made.has).is_given

pub made-once :
    (x y : TaggedEnd) (v w : TaggedWhole) → IsSound x y → IsMade x.heard v → IsMade x.heard w
    → v.block.of.message.system ≡ w.block.of.message.system
    → is_primary v.block.of.message ≡ is_primary w.block.of.message → v.block ≡ w.block
made-once x y v w is made_v made_w system parity =
    (is ThereSends).once v.block w.block (made-given x y v is made_v) (made-given x y w is made_w) same
    (made_v.last ∙ ap (λ (m : TaggedMessage). block_count m.message) same ∙ sym made_w.last)
  where
    same : v.block.of ≡ w.block.of
    same =
        (is (Back Apart)) v.block.of w.block.of
        (past made_v.hearing made_v.has (ap (λ (b : TaggedBlock). b.of) made_v.block))
        (past made_w.hearing made_w.has (ap (λ (b : TaggedBlock). b.of) made_w.block)) system parity

-- so a whole message isn't one of those received before
pub received-once :
    (x y : TaggedEnd) (r w : TaggedWhole) → IsSound x y → x.whole ≡ Some w → Has x.received r
    → r.block.of.message.system ≡ w.block.of.message.system
    → is_primary r.block.of.message ≡ is_primary w.block.of.message → ⊥
received-once x y r w is whole has system parity =
    let receiving = is (Back Receiving) in
    let same = made-once x y r w is (receiving.received_are r has) (receiving.whole_is w whole) system parity in
    let place : r.block.place ≡ w.block.place = ap (λ (b : TaggedBlock). b.place) same in
    omega (arith, receiving.later w whole r has)
