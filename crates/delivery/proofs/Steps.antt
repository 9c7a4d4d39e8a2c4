-- What each doing of an end, and each loss of power, keeps of two ends on their line.
use Rattle.std.specs.Prelude.{◌≡◌, ◌<◌, ◌≤◌, ◌+◌, ◌-◌, ℕ, Bool, true, false, List, [], ◌∷◌, ◌++◌, length, map, Option, Some, None, if◌then◌else◌, refl}
use Rattle.std.specs.List.{Contains}
use Rattle.std.proofs.Common.{sym, ap, ◌∙◌, subst, arith, inl, inr}
use Rattle.std.proofs.lemmas.Bool.Decides.{nat_tests}
use Rattle.block_codec.specs.Block.{BlockView}
use Rattle.block_codec.specs.declared.header.Header.{Header}
use Rattle.line_end.specs.declared.event.LineEvent.{LineEvent}
use Rattle.line_end.specs.declared.event.LineEvent.TheVariants.{Arrived, Failed, Nothing, Refused, Sent}
use Rattle.line_end.specs.Laws.{IsHeld, IsOwn}
use Rattle.line_end.specs.Step.{LineCall}
use Rattle.line_order.specs.Acts.{arrived_after, is_slip}
use Rattle.line_order.specs.Characters.{writes_frame}
use Rattle.line_order.specs.Laws.{ComesInOrder, IsNewer}
use Rattle.line_order.specs.Line.{Arrival, WrittenFrame, given_at}
use Rattle.line_order.proofs.Given.{contains-first}
use Rattle.message_end.specs.Doings.{IsFrameUnanswered, IsNoSend, MayWriteFrame, with_frame, with_frame_of, with_hearing}
use Rattle.message_end.specs.Own.{Giving, Has, IsReplyTo, IsUnanswered, MayGive, MaySend, Own, drawn_in, entries_in, given_in, sent_at, sent_in, whole_in}
use Rattle.message_end.specs.Own.Own.{DrewNumber, DroppedMessage, GaveBlock, HeardBlock, ReceivedMessage, SentMessage, WroteFrame}
use Rattle.message_end.specs.Plan.{EndPlan, block_of, receiver_of}
use Rattle.message_end.specs.Moves.{behind, newest_place}
use Rattle.message_flow.specs.declared.flow.Flow.{Flow}
use Rattle.message_flow.specs.declared.message.Message.{Message}
use Rattle.message_flow.specs.Entries.{FlowEntry}
use Rattle.message_flow.specs.History.{flow_after, met_of}
use Rattle.message_flow.specs.Laws.{BlocksMakeMessages}
use Rattle.message_flow.specs.Message.{is_primary}
use Rattle.delivery.proofs.Ends.{AreEnds, HasArrived, History, LineSide, arrived-more, newest-arrived}
use Rattle.delivery.proofs.Facts.Fact.{HereSends, ThereSends}
use Rattle.delivery.proofs.Fitting.{Fits, fits-drew, fits-dropped, fits-gave, fits-heard, fits-received, fits-sent, fits-started, fits-wrote, found-sent, given_place, giving_of, may-send, newly, placed-now, sent_place, some-made}
use Rattle.delivery.proofs.Fitting.FitFact.{EntriesFit, GivenFit, HeardFit, SentFit, WholeFit}
use Rattle.delivery.proofs.Lists.{LooksUp, first-of-pairs, found-at, placed-above}
use Rattle.delivery.proofs.Sound.{delivered, sound-done, sound-restarted}
use Rattle.delivery.proofs.Tags.{Arrives, MayWriteOne, TaggedBlock, TaggedHearing, TaggedMessage, TaggedWhole, done, emptied, restarted, view_of}
use Rattle.delivery.proofs.Tags.TaggedDoing.{DroppedOne, GaveOne, HeardOne, ReceivedOne, SentOne, WroteOne}
use Rattle.delivery.proofs.Ties.{IsBlockAt, IsTied, NewestIsOf, tied-gave, tied-held, tied-later, tied-lost, tied-sent, tied-started, tied-wrote}

-- the end with one doing more in its history
abbrev pub with_own : Own → History → History
with_own own history = record history { own = own ∷ history.own }

given-looks : LooksUp given_at
given-looks = record { none = λ place y none. cc; steps = λ place y ys. refl }

never : true ≡ false → ⊥
never is = cc

module _ (plan other : EndPlan) (part beside : LineSide) (history theirs : History)
    (is : AreEnds plan other part beside history theirs) where
  h : History
  h = history

  -- ---- doings that no line has to do with

  pub ends-drew : (number : ℕ) → history.base ≤ number
      → AreEnds plan other part beside (with_own (DrewNumber number) history) theirs
  ends-drew number least = record {
    here = is.here;
    there = is.there;
    sound = is.sound;
    here_is = record {
      plan_is = is.here_is.plan_is;
      fits =
          fits-drew history.base history.sent_before history.given_before history.places history.own is.here number
          least is.here_is.fits;
      tied = is.here_is.tied;
      met = is.here_is.met;
      newest = is.here_is.newest;
      places_met = is.here_is.places_met;
    };
    there_is = is.there_is;
  }

  pub ends-sent : BlocksMakeMessages → (message : Message) → MaySend plan.side history.own message
      → AreEnds plan other part beside (with_own (SentMessage message) history) theirs
  ends-sent make message may = record {
    here = done (SentOne new) is.here;
    there = is.there;
    sound =
        sound-done make is.here is.there (SentOne new)
        (may-send history.base history.sent_before history.given_before history.places history.own is.here
        is.here.plan.side message may_here is.here_is.fits)
        is.sound;
    here_is = record {
      plan_is = is.here_is.plan_is;
      fits =
          fits-sent history.base history.sent_before history.given_before history.places history.own is.here
          is.here.plan.side message may_here is.here_is.fits;
      tied =
          tied-sent is.here.plan part.held part.given part.frames part.written part.lost is.here.sent is.here.given
          is.here.frames new is.here_is.tied;
      met = is.here_is.met;
      newest = is.here_is.newest;
      places_met = is.here_is.places_met;
    };
    there_is = is.there_is;
  }
    where
      new : TaggedMessage
      new = newly history.base history.sent_before history.given_before is.here message

      may_here : MaySend is.here.plan.side history.own message
      may_here = subst (λ (p : EndPlan). MaySend p.side history.own message) (sym is.here_is.plan_is) may

  pub ends-dropped : BlocksMakeMessages → (header : Header) (now : ℕ)
      → AreEnds plan other part beside (with_own (DroppedMessage header now) history) theirs
  ends-dropped make header now = record {
    here = done (DroppedOne header now) is.here;
    there = is.there;
    sound = sound-done make is.here is.there (DroppedOne header now) tt is.sound;
    here_is = record {
      plan_is = is.here_is.plan_is;
      fits =
          fits-dropped history.base history.sent_before history.given_before history.places history.own is.here header
          now is.here_is.fits;
      tied = is.here_is.tied;
      met = is.here_is.met;
      newest = is.here_is.newest;
      places_met = is.here_is.places_met;
    };
    there_is = is.there_is;
  }

  -- the whole message that the end has not received yet
  pub the-whole : (message : Message) → whole_in history.own ≡ Some message
      → (w : TaggedWhole) × (is.here.whole ≡ Some w) × (w.message ≡ message)
  the-whole message may =
      some-made history.base history.sent_before history.given_before is.here.whole message
      ((is.here_is.fits WholeFit) ∙ may)

  pub ends-received : BlocksMakeMessages → (message : Message) → whole_in history.own ≡ Some message
      → AreEnds plan other part beside
      (record history {
        own = ReceivedMessage message ∷ history.own;
        places = newest_place part.arrived ∷ history.places;
      })
      theirs
  ends-received make message may = record {
    here = done (ReceivedOne w) is.here;
    there = is.there;
    sound = sound-done make is.here is.there (ReceivedOne w) whole.1 is.sound;
    here_is = record {
      plan_is = is.here_is.plan_is;
      fits =
          fits-received history.base history.sent_before history.given_before history.places history.own is.here w
          message (newest_place part.arrived) whole.2 newest.0 is.here_is.fits;
      tied = is.here_is.tied;
      met = is.here_is.met;
      newest = is.here_is.newest;
      places_met = places_met;
    };
    there_is = is.there_is;
  }
    where
      whole : (w : TaggedWhole) × (is.here.whole ≡ Some w) × (w.message ≡ message)
      whole = the-whole message may

      w : TaggedWhole
      w = whole.0

      newest : (w.block.place ≡ newest_place part.arrived) × HasArrived part.arrived (newest_place part.arrived)
      newest =
          newest-arrived part.arrived is.here.heard w.block is.here_is.newest
          (delivered is.here is.there w is.sound whole.1).newest

      places_met : (place : ℕ) → Has (newest_place part.arrived ∷ history.places ++ history.places_before) place
          → HasArrived part.arrived place
      places_met place (inl same) = subst (HasArrived part.arrived) (sym same) newest.1
      places_met place (inr has) = is.here_is.places_met place has

  -- ---- a block is given to the line

  pub ends-gave : BlocksMakeMessages → (place number : ℕ) (view : BlockView) → MayGive history.own place number
      → ((message : Message) → sent_at place (sent_in history.own) ≡ Some message → view ≡ block_of plan message number)
      → AreEnds plan other (record part { held = Some view; given = view ∷ part.given }) beside
      (with_own (GaveBlock place number) history) theirs
  ends-gave make place number view may of_message =
      let next =
      fits-gave history.base history.sent_before history.given_before history.places history.own is.here place number
      may
      is.here_is.fits
      in
      let same : view ≡ view_of is.here.plan next.block =
      of_message next.block.of.message next.message_is
      ∙ ap (λ (p : EndPlan). block_of p next.block.of.message number) (sym is.here_is.plan_is)
      ∙ ap (block_of is.here.plan next.block.of.message) (sym next.number_is)
      in
      record {
        here = done (GaveOne next.block) is.here;
        there = is.there;
        sound = sound-done make is.here is.there (GaveOne next.block) next.may is.sound;
        here_is = record {
          plan_is = is.here_is.plan_is;
          fits = next.fits;
          tied =
              tied-gave is.here.plan part.held part.given part.frames part.written part.lost is.here.sent is.here.given
              is.here.frames next.block view next.may.place next.may.of_sent same is.here_is.tied;
          met = is.here_is.met;
          newest = is.here_is.newest;
          places_met = is.here_is.places_met;
        };
        there_is = is.there_is;
      }

  -- ---- the frame of the block that was given last is written

  pub record IsNewestGiving (given : List TaggedBlock) (own : List Own) : Type 0 where
    pub block : TaggedBlock
    pub before : List TaggedBlock
    pub given_is : given ≡ block ∷ before
    pub giving : Giving
    pub rest : List Giving
    pub giving_is : given_in own ≡ giving ∷ rest
    pub same : giving_of block ≡ behind (length history.sent_before) giving
    pub of_sent : Has is.here.sent block.of

  count : ℕ
  count = length history.sent_before

  newest-in :
      (given new old : List TaggedBlock) (now : List Giving) → given ≡ new ++ old
      → map giving_of new ≡ map (behind (length history.sent_before)) now → given_in history.own ≡ now
      → ((b : TaggedBlock) → Has old b → b.of.place < length history.sent_before)
      → NewestIsOf is.here.sent given → IsNewestGiving given history.own
  newest-in [] new old now given_is new_are now_is below newest = absurd newest
  newest-in (block ∷ before) [] old now given_is new_are now_is below newest =
      let has = subst (λ (bs : List TaggedBlock). Has bs block) given_is (inl refl) in
      let under = below block has in
      let s = is.here_is.fits SentFit in
      let over =
      placed-above sent_place (length history.sent_before) is.here.sent block.of
      (placed-now history.base history.sent_before (sent_in history.own) _ is.here.sent is.here.ever s) newest
      in
      absurd (omega (arith, under, over))
  newest-in (block ∷ before) (b ∷ new) old [] given_is new_are now_is below newest = cc
  newest-in (block ∷ before) (b ∷ new) old (g ∷ now) given_is new_are now_is below newest =
      let same : block ≡ b = cc in
      let givings : giving_of b ≡ behind (length history.sent_before) g = cc in
      record {
        block = block;
        before = before;
        given_is = refl;
        giving = g;
        rest = now;
        giving_is = now_is;
        same = ap giving_of same ∙ givings;
        of_sent = newest;
      }

  newest-giving : NewestIsOf is.here.sent is.here.given → IsNewestGiving is.here.given history.own
  newest-giving newest =
      let g = is.here_is.fits GivenFit in
      newest-in is.here.given g.new g.old (given_in history.own) g.given_is g.new_are refl g.below newest

  may-write : (n : IsNewestGiving is.here.given history.own)
      → IsFrameUnanswered plan.side (given_in history.own) history.own
      → MayWriteOne is.here.plan.side is.here.sent is.here.given is.here.heard n.block
  may-write n frame = record {
    is_given = subst (λ (bs : List TaggedBlock). Has bs n.block) (sym n.given_is) (inl refl);
    of_sent = n.of_sent;
    unanswered = unanswered;
  }
    where
      may : IsUnanswered plan.side history.own n.giving.place
      may = subst (λ (gs : List Giving). IsFrameUnanswered plan.side gs history.own) n.giving_is frame

      at : n.block.of.place ≡ length history.sent_before + n.giving.place
      at = ap (λ (g : Giving). g.place) n.same

      unanswered : is_primary n.block.of.message ≡ true → (heard : TaggedHearing) → Has is.here.heard heard
          → IsReplyTo is.here.plan.side n.block.of.message heard.view.header → heard.after ≤ n.block.of.place
      unanswered primary heard has reply =
          let it = (is.here_is.fits HeardFit) heard has in
          let found =
          found-sent history.base history.sent_before (sent_in history.own) _ is.here.sent is.here.ever
          (is.here_is.fits SentFit) n.block.of n.giving.place n.of_sent at
          in
          let of_own =
          subst (λ (header : Header). IsReplyTo plan.side n.block.of.message header) (sym it.header)
          (subst (λ (p : EndPlan). IsReplyTo p.side n.block.of.message heard.view.header) is.here_is.plan_is reply)
          in
          let under = may n.block.of.message found primary it.heard it.has of_own in
          let after = it.after in
          omega (arith, under, after, at)

  -- what a call has written, a frame or not
  abbrev pub part_wrote : Bool → List ℕ → LineSide → LineSide
  part_wrote writes bytes here = record here {
    frames =
        if writes
        then record { number = here.written; place = length here.given - 1; bytes = bytes } ∷ here.frames
        else here.frames;
    written = if writes then here.written + 1 else here.written;
  }

  abbrev pub beside_wrote : Bool → LineSide → LineSide → LineSide
  beside_wrote writes here there = record there { written = if writes then here.written + 1 else there.written }

  ends-wrote-one : BlocksMakeMessages → (bytes : List ℕ) → part.written ≡ beside.written
      → NewestIsOf is.here.sent is.here.given → MayWriteFrame plan.side true history.own
      → AreEnds plan other (part_wrote true bytes part) (beside_wrote true part beside)
      (record history { own = with_frame true history.own }) theirs
  ends-wrote-one make bytes both newest may =
      let n = newest-giving newest in
      let own_is : WroteFrame n.giving.place n.giving.number ∷ history.own ≡ with_frame true history.own =
      ap (λ (gs : List Giving). with_frame_of gs history.own) (sym n.giving_is)
      in
      record {
        here = done (WroteOne n.block) is.here;
        there = is.there;
        sound = sound-done make is.here is.there (WroteOne n.block) (may-write n may) is.sound;
        here_is = record {
          plan_is = is.here_is.plan_is;
          fits =
              subst
              (λ (own : List Own). Fits history.base history.sent_before history.given_before history.places own
              (done (WroteOne n.block) is.here))
              own_is
              (fits-wrote history.base history.sent_before history.given_before history.places history.own is.here
              n.block
              n.giving.place n.giving.number is.here_is.fits);
          tied =
              tied-wrote is.here.plan part.held part.given part.frames part.written part.lost is.here.sent
              is.here.given is.here.frames n.block n.before bytes n.given_is is.here_is.tied;
          met = is.here_is.met;
          newest = is.here_is.newest;
          places_met = is.here_is.places_met;
        };
        there_is = record {
          plan_is = is.there_is.plan_is;
          fits = is.there_is.fits;
          tied =
              tied-later is.there.plan beside.held beside.given beside.frames beside.written beside.lost
              (part.written + 1) is.there.sent is.there.given is.there.frames (omega (arith, both)) is.there_is.tied;
          met = is.there_is.met;
          newest = is.there_is.newest;
          places_met = is.there_is.places_met;
        };
      }

  pub ends-wrote : BlocksMakeMessages → (bytes : List ℕ) → part.written ≡ beside.written → IsOwn part.held bytes
      → MayWriteFrame plan.side (writes_frame bytes) history.own
      → AreEnds plan other (part_wrote (writes_frame bytes) bytes part) (beside_wrote (writes_frame bytes) part beside)
      (record history { own = with_frame (writes_frame bytes) history.own }) theirs
  ends-wrote make bytes both own_is may = go (writes_frame bytes) refl may
    where
      go : (writes : Bool) → writes_frame bytes ≡ writes → MayWriteFrame plan.side writes history.own
          → AreEnds plan other (part_wrote writes bytes part) (beside_wrote writes part beside)
          (record history { own = with_frame writes history.own }) theirs
      go false none allowed = is
      go true one allowed = cases own_is
        where
          cases : IsOwn part.held bytes
              → AreEnds plan other (part_wrote true bytes part) (beside_wrote true part beside)
              (record history { own = with_frame true history.own }) theirs
          cases (inl short) = absurd (grind (arith, nat_tests))
          cases (inr held) = ends-wrote-one make bytes both (is.here_is.tied.held_is held.0 held.1) allowed

  -- ---- the block that is held, after a call

  pub ends-held : (call : LineCall) (next : Option BlockView) → IsNoSend call → IsHeld part.held call next
      → AreEnds plan other (record part { held = next }) beside history theirs
  ends-held call next no_send holds = record {
    here = is.here;
    there = is.there;
    sound = is.sound;
    here_is = record {
      plan_is = is.here_is.plan_is;
      fits = is.here_is.fits;
      tied =
          tied-held is.here.plan part.held part.given part.frames part.written part.lost is.here.sent is.here.given
          is.here.frames call next no_send holds is.here_is.tied;
      met = is.here_is.met;
      newest = is.here_is.newest;
      places_met = is.here_is.places_met;
    };
    there_is = is.there_is;
  }

  -- ---- what a call tells

  -- the block of a frame that has arrived, and its tag
  arrived-one : (block : BlockView) (frame : WrittenFrame) → Contains beside.frames frame
      → beside.lost ≡ part.lost
      → ComesInOrder beside.given (record { block = block; frame = frame; lost = part.lost } ∷ part.arrived)
      → (b : TaggedBlock) × (b.place ≡ frame.place) × Arrives is.there.plan is.there.frames is.here.heard b block
  arrived-one block frame has lost order =
      (at.block, at.at, record { written = at.has; is = is_view; order = in_order })
    where
      newest : Arrival
      newest = record { block = block; frame = frame; lost = part.lost }

      since : part.lost ≤ frame.number
      since = (order.blocks 0 newest (omega arith)).since

      at : IsBlockAt is.there.frames frame.place
      at = (is.there_is.tied.frames_are frame has).present (omega (arith, since, lost))

      found : given_at frame.place beside.given ≡ Some (view_of is.there.plan at.block)
      found =
          ap (given_at frame.place) is.there_is.tied.given_are
          ∙ found-at given_at given-looks given_place (view_of is.there.plan) 0 is.there.given at.block frame.place
          is.there_is.tied.placed ((is.sound ThereSends).frames_are at.block at.has).is_given (omega (arith, at.at))

      is_view : block ≡ view_of is.there.plan at.block
      is_view =
          let told : given_at frame.place beside.given ≡ Some block = (order.blocks 0 newest (omega arith)).block in
          let both : Some block ≡ Some (view_of is.there.plan at.block) = sym told ∙ found in
          cc

      in_order : (heard : TaggedHearing) → Has is.here.heard heard → heard.block.place ≤ at.block.place
      in_order heard met =
          let old = is.here_is.met heard met in
          let under = (first-of-pairs IsNewer newest part.arrived old.arrival order.order old.has).place in
          omega (arith, under, old.at, at.at)

  heard-one : BlocksMakeMessages → (b : TaggedBlock) (block : BlockView) (frame : WrittenFrame) (now : ℕ) (flow : Flow)
      → b.place ≡ frame.place → Arrives is.there.plan is.there.frames is.here.heard b block
      → flow
      ≡ flow_after (receiver_of is.here.plan) (met_of (receiver_of is.here.plan) is.here.entries) block
      → AreEnds plan other
      (record part { arrived = record { block = block; frame = frame; lost = part.lost } ∷ part.arrived }) beside
      (with_own (HeardBlock block now flow) history) theirs
  heard-one make b block frame now flow at arrives flow_is = record {
    here = done (HeardOne b block now flow) is.here;
    there = is.there;
    sound = sound-done make is.here is.there (HeardOne b block now flow) (arrives, flow_is) is.sound;
    here_is = record {
      plan_is = is.here_is.plan_is;
      fits =
          fits-heard history.base history.sent_before history.given_before history.places history.own is.here b block
          now
          flow is.here_is.fits;
      tied = is.here_is.tied;
      met = met;
      newest = sym at;
      places_met = λ place has. arrived-more newest part.arrived place (is.here_is.places_met place has);
    };
    there_is = is.there_is;
  }
    where
      newest : Arrival
      newest = record { block = block; frame = frame; lost = part.lost }

      met : (heard : TaggedHearing) → Has (done (HeardOne b block now flow) is.here).heard heard
          → HasArrived (newest ∷ part.arrived) heard.block.place
      met heard (inl same) = record {
        arrival = newest;
        has = contains-first newest part.arrived;
        at = sym at ∙ ap (λ (k : TaggedHearing). k.block.place) (sym same);
      }
      met heard (inr has) = arrived-more newest part.arrived heard.block.place (is.here_is.met heard has)

  -- it is judged after what the receiver has met
  flow-here : (block : BlockView) (flow : Flow)
      → flow ≡ flow_after (receiver_of plan) (met_of (receiver_of plan) (entries_in history.own)) block
      → flow ≡ flow_after (receiver_of is.here.plan) (met_of (receiver_of is.here.plan) is.here.entries) block
  flow-here block flow flow_is =
      subst (λ (p : EndPlan). flow ≡ flow_after (receiver_of p) (met_of (receiver_of p) is.here.entries) block)
      (sym is.here_is.plan_is)
      (subst
      (λ (entries : List FlowEntry). flow ≡ flow_after (receiver_of plan) (met_of (receiver_of plan) entries) block)
      (sym (is.here_is.fits EntriesFit)) flow_is)

  ends-framed : BlocksMakeMessages → (block : BlockView) (frame : WrittenFrame) (now : ℕ) (flow : Flow)
      → Contains beside.frames frame → beside.lost ≡ part.lost
      → ComesInOrder beside.given (record { block = block; frame = frame; lost = part.lost } ∷ part.arrived)
      → flow ≡ flow_after (receiver_of is.here.plan) (met_of (receiver_of is.here.plan) is.here.entries) block
      → AreEnds plan other
      (record part { arrived = record { block = block; frame = frame; lost = part.lost } ∷ part.arrived }) beside
      (with_own (HeardBlock block now flow) history) theirs
  ends-framed make block frame now flow has lost order flow_is = go (arrived-one block frame has lost order)
    where
      go : (b : TaggedBlock) × (b.place ≡ frame.place) × Arrives is.there.plan is.there.frames is.here.heard b block
          → AreEnds plan other
          (record part { arrived = record { block = block; frame = frame; lost = part.lost } ∷ part.arrived }) beside
          (with_own (HeardBlock block now flow) history) theirs
      go it = heard-one make it.0 block frame now flow it.1 it.2 flow_is

  ends-arrived : BlocksMakeMessages → (block : BlockView) (found : Option WrittenFrame) (now : ℕ) (flow : Flow)
      → is_slip (Arrived block) found ≡ false → ((frame : WrittenFrame) → found ≡ Some frame
      → Contains beside.frames frame)
      → beside.lost ≡ part.lost
      → ComesInOrder beside.given (arrived_after part.lost (Arrived block) found part.arrived)
      → flow ≡ flow_after (receiver_of is.here.plan) (met_of (receiver_of is.here.plan) is.here.entries) block
      → AreEnds plan other (record part { arrived = arrived_after part.lost (Arrived block) found part.arrived }) beside
      (with_own (HeardBlock block now flow) history) theirs
  ends-arrived make block None now flow slip written lost order flow_is = absurd (never slip)
  ends-arrived make block (Some frame) now flow slip written lost order flow_is =
      ends-framed make block frame now flow (written frame refl) lost order flow_is

  pub ends-heard : BlocksMakeMessages → (event : LineEvent) (found : Option WrittenFrame) (now : ℕ)
      → is_slip event found ≡ false → ((frame : WrittenFrame) → found ≡ Some frame → Contains beside.frames frame)
      → beside.lost ≡ part.lost
      → ComesInOrder beside.given (arrived_after part.lost event found part.arrived)
      → AreEnds plan other (record part { arrived = arrived_after part.lost event found part.arrived }) beside
      (record history { own = with_hearing (receiver_of plan) event now history.own }) theirs
  ends-heard make (Arrived block) found now slip written lost order =
      ends-arrived make block found now
      (flow_after (receiver_of plan) (met_of (receiver_of plan) (entries_in history.own)) block) slip written lost order
      (flow-here block (flow_after (receiver_of plan) (met_of (receiver_of plan) (entries_in history.own)) block) refl)
  ends-heard make Nothing found now slip written lost order = is
  ends-heard make Sent found now slip written lost order = is
  ends-heard make Failed found now slip written lost order = is
  ends-heard make (Refused cause) found now slip written lost order = is

  -- ---- the end starts anew, and the line is empty

  pub ends-started : (next : ℕ) → history.base ≤ next → ((n : ℕ) → Has (drawn_in history.own) n → n < next)
      → part.written ≡ beside.written
      → AreEnds plan other (record part { held = None; lost = part.written })
      (record beside { lost = part.written })
      (record {
        base = next;
        own = [];
        places = [];
        sent_before = sent_in history.own ++ history.sent_before;
        given_before = map (behind (length history.sent_before)) (given_in history.own) ++ history.given_before;
        places_before = history.places ++ history.places_before;
      })
      theirs
  ends-started next higher above both = record {
    here = restarted is.here;
    there = emptied is.there;
    sound = sound-restarted is.here is.there is.sound;
    here_is = record {
      plan_is = is.here_is.plan_is;
      fits =
          fits-started history.base history.sent_before history.given_before history.places history.own is.here next
          higher above (λ b has. ((is.sound HereSends).given_are b has).sent) is.here_is.fits;
      tied =
          tied-started is.here.plan part.given part.frames part.written part.written is.here.sent is.here.given []
          part.held
          (tied-lost is.here.plan part.held part.given part.frames part.written part.lost is.here.sent is.here.given
          is.here.frames is.here_is.tied);
      met = λ heard has. absurd has;
      newest = tt;
      places_met = is.here_is.places_met;
    };
    there_is = record {
      plan_is = is.there_is.plan_is;
      fits = fits-emptied;
      tied =
          subst
          (λ (n : ℕ). IsTied is.there.plan beside.held beside.given beside.frames beside.written n is.there.sent
          is.there.given [])
          (sym both)
          (tied-lost is.there.plan beside.held beside.given beside.frames beside.written beside.lost is.there.sent
          is.there.given is.there.frames is.there_is.tied);
      met = is.there_is.met;
      newest = is.there_is.newest;
      places_met = is.there_is.places_met;
    };
  }
    where
      fits-emptied : Fits theirs.base theirs.sent_before theirs.given_before theirs.places theirs.own (emptied is.there)
      fits-emptied SentFit = is.there_is.fits SentFit
      fits-emptied fact = is.there_is.fits fact
