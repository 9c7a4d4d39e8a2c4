-- How what an end has done since its start fits the tagged end: places there go on over all starts.
use Rattle.std.specs.Prelude.{◌≡◌, ◌≢◌, ◌⊎◌, ◌<◌, ◌≤◌, ◌+◌, ℕ, Bool, true, false, List, [], ◌∷◌, ◌++◌, length, map, Option, Some, None, if◌then◌else◌, refl}
use Rattle.std.proofs.Common.{sym, ap, ◌∙◌, subst, arith, inl, inr, length-append}
use Rattle.std.proofs.lemmas.List.{length-map, map-append}
use Rattle.block_codec.specs.Block.{BlockView}
use Rattle.block_codec.specs.declared.header.Header.{Header}
use Rattle.gl_base.specs.declared.side.Side.{Side}
use Rattle.gl_base.specs.Side.{other_side}
use Rattle.message_end.specs.Own.{Giving, Has, Heard, IsReplyTo, MayGive, MaySend, Own, asked_after, asked_in, drawn_in, entries_in, given_in, heard_in, received_in, sent_at, sent_in, whole_in, whole_of}
use Rattle.message_end.specs.Own.Own.{DrewNumber, DroppedMessage, GaveBlock, HeardBlock, ReceivedMessage, SentMessage, WroteFrame}
use Rattle.message_end.specs.Moves.{behind}
use Rattle.message_flow.specs.declared.flow.Flow.{Flow}
use Rattle.message_flow.specs.declared.message.Message.{Message}
use Rattle.message_flow.specs.Blocks.{block_count, header_of}
use Rattle.message_flow.specs.Entries.{FlowEntry}
use Rattle.message_flow.specs.Entries.FlowEntry.{Dropped, Given}
use Rattle.message_flow.specs.Message.{is_primary}
use Rattle.message_end.proofs.Members.{has-either, has-map, has-mapped}
use Rattle.delivery.proofs.Lists.{ArePlaced, LooksUp, found-at, found-from, placed-below, placed-front}
use Rattle.delivery.proofs.Tags.{AnswersAsked, MayGiveOne, MaySendOne, TaggedBlock, TaggedEnd, TaggedHearing, TaggedMessage, TaggedWhole, done, restarted, with_block}
use Rattle.delivery.proofs.Tags.TaggedDoing.{DroppedOne, GaveOne, HeardOne, ReceivedOne, SentOne, WroteOne}

abbrev pub bare : TaggedMessage → Message
bare m = m.message

abbrev pub sent_place : TaggedMessage → ℕ
sent_place m = m.place

abbrev pub given_place : TaggedBlock → ℕ
given_place b = b.place

abbrev pub giving_of : TaggedBlock → Giving
giving_of b = record { place = b.of.place; number = b.number }

abbrev pub made_of : TaggedWhole → Message
made_of w = w.message

abbrev pub made_place : TaggedWhole → ℕ
made_place w = w.block.place

abbrev pub message_in : Option TaggedWhole → Option Message
message_in None = None
message_in (Some w) = Some w.message

-- ---- what fits

-- the messages: of this start, with the numbers drawn, and those before it
pub record FitsSent
    (base : ℕ) (before now : List Message) (drawn : List ℕ) (sent ever : List TaggedMessage)
    : Type 0 where
  pub old : List TaggedMessage
  pub ever_is : ever ≡ sent ++ old
  pub now_are : map bare sent ≡ now
  pub old_are : map bare old ≡ before
  pub placed : ArePlaced sent_place 0 ever
  pub old_primaries : (m : TaggedMessage) → Has old m → is_primary m.message ≡ true → m.message.system < base
  pub least : (number : ℕ) → Has drawn number → base ≤ number
  pub drawn_are : (m : TaggedMessage) → Has sent m → is_primary m.message ≡ true → Has drawn m.message.system

-- the blocks given, where so many messages were sent before this start
pub record FitsGiven (count : ℕ) (before now : List Giving) (given : List TaggedBlock) : Type 0 where
  pub new : List TaggedBlock
  pub old : List TaggedBlock
  pub given_is : given ≡ new ++ old
  pub new_are : map giving_of new ≡ map (behind count) now
  pub old_are : map giving_of old ≡ before
  pub below : (b : TaggedBlock) → Has old b → b.of.place < count

pub record IsHeardIn (count : ℕ) (all : List Heard) (h : TaggedHearing) : Type 0 where
  pub heard : Heard
  pub has : Has all heard
  pub header : heard.header ≡ h.view.header
  pub after : h.after ≡ count + heard.after

pub data FitFact : Type 0 where
  SentFit : FitFact
  GivenFit : FitFact
  HeardFit : FitFact
  WholeFit : FitFact
  AskedFit : FitFact
  EntriesFit : FitFact
  ReceivedFit : FitFact
  PlacesFit : FitFact

abbrev pub FitsIn : FitFact → ℕ → List Message → List Giving → List ℕ → List Own → TaggedEnd → Type 0
FitsIn SentFit base sent_before given_before places own x =
    FitsSent base sent_before (sent_in own) (drawn_in own) x.sent x.ever
FitsIn GivenFit base sent_before given_before places own x =
    FitsGiven (length sent_before) given_before (given_in own) x.given
FitsIn HeardFit base sent_before given_before places own x =
    (h : TaggedHearing) → Has x.heard h → IsHeardIn (length sent_before) (heard_in own) h
FitsIn WholeFit base sent_before given_before places own x = message_in x.whole ≡ whole_in own
FitsIn AskedFit base sent_before given_before places own x = message_in x.asked ≡ asked_in own
FitsIn EntriesFit base sent_before given_before places own x = x.entries ≡ entries_in own
FitsIn ReceivedFit base sent_before given_before places own x = map made_of x.received ≡ received_in own
FitsIn PlacesFit base sent_before given_before places own x = map made_place x.received ≡ places

-- each of them by itself, so that what a doing leaves as it was is passed on in one line
abbrev pub Fits : ℕ → List Message → List Giving → List ℕ → List Own → TaggedEnd → Type 0
Fits base sent_before given_before places own x =
    (fact : FitFact) → FitsIn fact base sent_before given_before places own x

pub count-of : (base : ℕ) (before now : List Message) (drawn : List ℕ) (sent ever : List TaggedMessage)
    → FitsSent base before now drawn sent ever → length ever ≡ length before + length now
count-of base before now drawn sent ever is =
    let both : length ever ≡ length sent + length is.old = ap length is.ever_is ∙ length-append sent is.old in
    let new : length sent ≡ length now = sym (length-map sent bare) ∙ ap length is.now_are in
    let old : length is.old ≡ length before = sym (length-map is.old bare) ∙ ap length is.old_are in
    omega (arith, both, new, old)

pub looks-sent : LooksUp sent_at
looks-sent = record { none = λ place y none. cc; steps = λ place y ys. refl }

pub placed-now : (base : ℕ) (before now : List Message) (drawn : List ℕ) (sent ever : List TaggedMessage)
    → FitsSent base before now drawn sent ever → ArePlaced sent_place (length before) sent
placed-now base before now drawn sent ever is =
    let old : length is.old ≡ length before = sym (length-map is.old bare) ∙ ap length is.old_are in
    subst (λ (n : ℕ). ArePlaced sent_place n sent) old
    (placed-front sent_place sent is.old
    (subst (λ (ms : List TaggedMessage). ArePlaced sent_place 0 ms) is.ever_is is.placed))

-- which message is named by a place of the present start
pub named : (base : ℕ) (before now : List Message) (drawn : List ℕ) (sent ever : List TaggedMessage)
    → FitsSent base before now drawn sent ever → (place : ℕ) (message : Message) → sent_at place now ≡ Some message
    → (m : TaggedMessage) × Has sent m × (message ≡ bare m) × (m.place ≡ length before + place)
named base before now drawn sent ever is place message at =
    let told : sent_at place (map bare sent) ≡ Some message = ap (sent_at place) is.now_are ∙ at in
    found-from sent_at looks-sent sent_place bare (length before) sent place message
    (placed-now base before now drawn sent ever is) told

-- a message of it is found by its place
pub found-sent : (base : ℕ) (before now : List Message) (drawn : List ℕ) (sent ever : List TaggedMessage)
    → FitsSent base before now drawn sent ever → (m : TaggedMessage) (place : ℕ) → Has sent m
    → m.place ≡ length before + place → sent_at place now ≡ Some m.message
found-sent base before now drawn sent ever is m place has at =
    ap (sent_at place) (sym is.now_are)
    ∙ found-at sent_at looks-sent sent_place bare (length before) sent m place
    (placed-now base before now drawn sent ever is) has at

module _ (base : ℕ) (sent_before : List Message) (given_before : List Giving) where
  -- ---- one doing more

  pub fits-drew : (places : List ℕ) (own : List Own) (x : TaggedEnd) (number : ℕ) → base ≤ number
      → Fits base sent_before given_before places own x
      → Fits base sent_before given_before places (DrewNumber number ∷ own) x
  fits-drew places own x number from is SentFit = record {
    old = s.old;
    ever_is = s.ever_is;
    now_are = s.now_are;
    old_are = s.old_are;
    placed = s.placed;
    old_primaries = s.old_primaries;
    least = least;
    drawn_are = λ m has primary. inr (s.drawn_are m has primary);
  }
    where
      s : FitsSent base sent_before (sent_in own) (drawn_in own) x.sent x.ever
      s = is SentFit

      least : (n : ℕ) → Has (drawn_in (DrewNumber number ∷ own)) n → base ≤ n
      least n (inl same) = subst (λ (k : ℕ). base ≤ k) (sym same) from
      least n (inr has) = s.least n has
  fits-drew places own x number from is fact = is fact

  -- a message that is sent has the place behind all others
  abbrev pub newly : TaggedEnd → Message → TaggedMessage
  newly x message = record { place = length x.ever; message = message }

  pub some-made : (w : Option TaggedWhole) (message : Message) → message_in w ≡ Some message
      → (made : TaggedWhole) × (w ≡ Some made) × (made.message ≡ message)
  some-made None message is = cc
  some-made (Some made) message is = (made, refl, cc)

  pub may-send : (places : List ℕ) (own : List Own) (x : TaggedEnd) (side : Side) (message : Message)
      → MaySend side own message
      → Fits base sent_before given_before places own x → MaySendOne side x.ever x.asked (newly x message)
  may-send places own x side message may is = record { place = refl; new = new; reply = reply }
    where
      s : FitsSent base sent_before (sent_in own) (drawn_in own) x.sent x.ever
      s = is SentFit

      new : is_primary message ≡ true → (m : TaggedMessage) → Has x.ever m → is_primary m.message ≡ true
          → m.message.system ≢ message.system
      new primary m has old_primary =
          go (has-either x.sent s.old m (subst (λ (ms : List TaggedMessage). Has ms m) s.ever_is has))
        where
          go : Has x.sent m ⊎ Has s.old m → m.message.system ≢ message.system
          go (inl now) =
              (may.primary primary).new m.message
              (subst (λ (ms : List Message). Has ms m.message) s.now_are (has-map bare x.sent m now)) old_primary
          go (inr before) = λ same.
              let below = s.old_primaries m before old_primary in
              let from = s.least message.system (may.primary primary).drawn in
              absurd (omega (arith, below, from, same))

      reply : is_primary message ≡ false → AnswersAsked side x.asked (newly x message)
      reply secondary =
          let it = may.reply secondary in
          let made = some-made x.asked it.asked (is AskedFit ∙ it.newest) in
          record {
            whole = made.0;
            is = made.1;
            primary = ap is_primary made.2 ∙ it.primary;
            reply =
                subst (λ (m : Message). IsReplyTo (other_side side) m (header_of side 0 message 1)) (sym made.2)
                it.reply;
          }

  pub fits-sent : (places : List ℕ) (own : List Own) (x : TaggedEnd) (side : Side) (message : Message)
      → MaySend side own message
      → Fits base sent_before given_before places own x
      → Fits base sent_before given_before places (SentMessage message ∷ own) (done (SentOne (newly x message)) x)
  fits-sent places own x side message may is SentFit = record {
    old = s.old;
    ever_is = ap (λ (ms : List TaggedMessage). newly x message ∷ ms) s.ever_is;
    now_are = ap (λ (ms : List Message). message ∷ ms) s.now_are;
    old_are = s.old_are;
    placed = (omega arith, s.placed);
    old_primaries = s.old_primaries;
    least = s.least;
    drawn_are = drawn_are;
  }
    where
      s : FitsSent base sent_before (sent_in own) (drawn_in own) x.sent x.ever
      s = is SentFit

      drawn_are : (m : TaggedMessage) → Has (newly x message ∷ x.sent) m → is_primary m.message ≡ true
          → Has (drawn_in own) m.message.system
      drawn_are m (inl same) primary =
          let equal : m.message ≡ message = ap bare same in
          let it = (may.primary (ap is_primary (sym equal) ∙ primary)).drawn in
          subst (λ (w : Message). Has (drawn_in own) w.system) (sym equal) it
      drawn_are m (inr has) primary = s.drawn_are m has primary
  fits-sent places own x side message may is AskedFit = asked (is_primary message)
    where
      asked : (primary : Bool)
          → message_in (if primary then x.asked else None) ≡ asked_after primary (asked_in own)
      asked true = is AskedFit
      asked false = refl
  fits-sent places own x side message may is fact = is fact

  pub fits-received : (places : List ℕ) (own : List Own) (x : TaggedEnd) (w : TaggedWhole) (message : Message) (place
      : ℕ)
      → w.message ≡ message → w.block.place ≡ place
      → Fits base sent_before given_before places own x
      → Fits base sent_before given_before (place ∷ places) (ReceivedMessage message ∷ own) (done (ReceivedOne w) x)
  fits-received places own x w message place same at is WholeFit = refl
  fits-received places own x w message place same at is AskedFit = ap (λ (m : Message). Some m) same
  fits-received places own x w message place same at is ReceivedFit =
      ap (λ (m : Message). m ∷ map made_of x.received) same
      ∙ ap (λ (ms : List Message). message ∷ ms) (is ReceivedFit)
  fits-received places own x w message place same at is PlacesFit =
      ap (λ (n : ℕ). n ∷ map made_place x.received) at ∙ ap (λ (ns : List ℕ). place ∷ ns) (is PlacesFit)
  fits-received places own x w message place same at is fact = is fact

  -- the block of a message that the end gives next
  pub record IsNext (places : List ℕ) (own : List Own) (x : TaggedEnd) (place number : ℕ) : Type 0 where
    pub block : TaggedBlock
    pub number_is : block.number ≡ number
    pub message_is : sent_at place (sent_in own) ≡ Some block.of.message
    pub may : MayGiveOne x.sent x.given block
    pub fits : Fits base sent_before given_before places (GaveBlock place number ∷ own) (done (GaveOne block) x)

  pub fits-gave : (places : List ℕ) (own : List Own) (x : TaggedEnd) (place number : ℕ) → MayGive own place number
      → Fits base sent_before given_before places own x → IsNext places own x place number
  fits-gave places own x place number may is = record {
    block = block;
    number_is = refl;
    message_is = may.sent ∙ ap (λ (w : Message). Some w) it.2;
    may = record {
      place = refl;
      of_sent = it.1;
      first = first;
      last = subst (λ (w : Message). number ≤ block_count w) it.2 may.last;
      once = once;
    };
    fits = fits;
  }
    where
      count : ℕ
      count = length sent_before

      g : FitsGiven (length sent_before) given_before (given_in own) x.given
      g = is GivenFit

      it : (m : TaggedMessage) × Has x.sent m × (may.message ≡ bare m) × (m.place ≡ length sent_before + place)
      it = named base sent_before (sent_in own) (drawn_in own) x.sent x.ever (is SentFit) place may.message may.sent

      block : TaggedBlock
      block = record { place = length x.given; of = it.0; number = number }

      first : 1 ≤ number
      first = let next = may.next in omega (arith, next)

      once : (b : TaggedBlock) → Has x.given b → b.of ≡ it.0 → b.number ≡ number → ⊥
      once b has of_same number_same =
          go (has-either g.new g.old b (subst (λ (bs : List TaggedBlock). Has bs b) g.given_is has))
        where
          at : b.of.place ≡ count + place
          at = ap sent_place of_same ∙ it.3

          go : Has g.new b ⊎ Has g.old b → ⊥
          go (inl now) =
              let own_one =
              has-mapped (behind count) (given_in own) (giving_of b)
              (subst (λ (gs : List Giving). Has gs (giving_of b)) g.new_are (has-map giving_of g.new b now))
              in
              let places_same : b.of.place ≡ count + own_one.0.place = ap (λ (w : Giving). w.place) own_one.2 in
              let numbers_same : b.number ≡ own_one.0.number = ap (λ (w : Giving). w.number) own_one.2 in
              let place_is : own_one.0.place ≡ place = omega (arith, places_same, at) in
              let number_is : own_one.0.number ≡ number = sym numbers_same ∙ number_same in
              let place_there = subst (λ (n : ℕ). Has (given_in own) (record {
                place = n;
                number = own_one.0.number;
              })) place_is
              own_one.1
              in
              may.once
              (subst (λ (n : ℕ). Has (given_in own) (record { place = place; number = n })) number_is place_there)
          go (inr before) = let below = g.below b before in absurd (omega (arith, below, at))

      fits : Fits base sent_before given_before places (GaveBlock place number ∷ own) (done (GaveOne block) x)
      fits GivenFit = record {
        new = block ∷ g.new;
        old = g.old;
        given_is = ap (λ (bs : List TaggedBlock). block ∷ bs) g.given_is;
        new_are =
            ap (λ (n : ℕ). record { place = n; number = number } ∷ map giving_of g.new) it.3
            ∙ ap (λ (gs : List Giving). behind count (record { place = place; number = number }) ∷ gs) g.new_are;
        old_are = g.old_are;
        below = g.below;
      }
      fits fact = is fact

  pub fits-wrote : (places : List ℕ) (own : List Own) (x : TaggedEnd) (block : TaggedBlock) (place number : ℕ)
      → Fits base sent_before given_before places own x
      → Fits base sent_before given_before places (WroteFrame place number ∷ own) (done (WroteOne block) x)
  fits-wrote places own x block place number is SentFit = is SentFit
  fits-wrote places own x block place number is fact = is fact

  pub with-block : (block : TaggedBlock) (message : Option Message) → message_in (with_block block message) ≡ message
  with-block block None = refl
  with-block block (Some message) = refl

  pub fits-heard : (places : List ℕ) (own : List Own) (x : TaggedEnd) (block : TaggedBlock) (view : BlockView) (now : ℕ)
      (flow : Flow)
      → Fits base sent_before given_before places own x
      → Fits base sent_before given_before places (HeardBlock view now flow ∷ own) (done (HeardOne block view now
      flow) x)
  fits-heard places own x block view now flow is WholeFit = with-block block (whole_of flow)
  fits-heard places own x block view now flow is EntriesFit =
      ap (λ (es : List FlowEntry). Given view now ∷ es) (is EntriesFit)
  fits-heard places own x block view now flow is HeardFit = heard_fits
    where
      newest : Heard
      newest = record { header = view.header; after = length (sent_in own) }

      after : (h : TaggedHearing) → h ≡ record { block = block; view = view; after = length x.ever }
          → IsHeardIn (length sent_before) (newest ∷ heard_in own) h
      after h same = record {
        heard = newest;
        has = inl refl;
        header = ap (λ (w : TaggedHearing). w.view.header) (sym same);
        after =
            ap (λ (w : TaggedHearing). w.after) same
            ∙ count-of base sent_before (sent_in own) (drawn_in own) x.sent x.ever (is SentFit);
      }

      later : (h : TaggedHearing) → IsHeardIn (length sent_before) (heard_in own) h
          → IsHeardIn (length sent_before) (newest ∷ heard_in own) h
      later h it = record { heard = it.heard; has = inr it.has; header = it.header; after = it.after }

      heard_fits : (h : TaggedHearing) → Has (done (HeardOne block view now flow) x).heard h
          → IsHeardIn (length sent_before) (newest ∷ heard_in own) h
      heard_fits h (inl same) = after h same
      heard_fits h (inr has) = later h (is HeardFit h has)
  fits-heard places own x block view now flow is fact = is fact

  pub fits-dropped : (places : List ℕ) (own : List Own) (x : TaggedEnd) (header : Header) (now : ℕ)
      → Fits base sent_before given_before places own x
      → Fits base sent_before given_before places (DroppedMessage header now ∷ own) (done (DroppedOne header now) x)
  fits-dropped places own x header now is EntriesFit =
      ap (λ (es : List FlowEntry). Dropped header now ∷ es) (is EntriesFit)
  fits-dropped places own x header now is fact = is fact

  -- ---- a start

  pub fits-started : (places : List ℕ) (own : List Own) (x : TaggedEnd) (next : ℕ)
      → base ≤ next → ((number : ℕ) → Has (drawn_in own) number → number < next)
      → ((b : TaggedBlock) → Has x.given b → Has x.ever b.of)
      → Fits base sent_before given_before places own x
      → Fits next (sent_in own ++ sent_before) (map (behind (length sent_before)) (given_in own) ++ given_before) [] []
      (restarted x)
  fits-started places own x next higher above of_ever is = go
    where
      s : FitsSent base sent_before (sent_in own) (drawn_in own) x.sent x.ever
      s = is SentFit

      g : FitsGiven (length sent_before) given_before (given_in own) x.given
      g = is GivenFit

      messages : map bare x.ever ≡ sent_in own ++ sent_before
      messages =
          ap (map bare) s.ever_is ∙ map-append bare x.sent s.old
          ∙ ap (λ (ms : List Message). ms ++ map bare s.old) s.now_are
          ∙ ap (λ (ms : List Message). sent_in own ++ ms) s.old_are

      primaries : (m : TaggedMessage) → Has x.ever m → is_primary m.message ≡ true → m.message.system < next
      primaries m has primary =
          go (has-either x.sent s.old m (subst (λ (ms : List TaggedMessage). Has ms m) s.ever_is has))
        where
          go : Has x.sent m ⊎ Has s.old m → m.message.system < next
          go (inl now) = above m.message.system (s.drawn_are m now primary)
          go (inr before) = let below = s.old_primaries m before primary in omega (arith, below, higher)

      below : (b : TaggedBlock) → Has x.given b → b.of.place < length (sent_in own ++ sent_before)
      below b has =
          let at = placed-below sent_place 0 x.ever b.of s.placed (of_ever b has) in
          let long : length x.ever ≡ length (sent_in own ++ sent_before) =
          sym (length-map x.ever bare) ∙ ap length messages
          in
          omega (arith, at, long)

      go : Fits next (sent_in own ++ sent_before) (map (behind (length sent_before)) (given_in own) ++ given_before)
          [] [] (restarted x)
      go SentFit = record {
        old = x.ever;
        ever_is = refl;
        now_are = refl;
        old_are = messages;
        placed = s.placed;
        old_primaries = primaries;
        least = λ number has. absurd has;
        drawn_are = λ m has. absurd has;
      }
      go GivenFit = record {
        new = [];
        old = x.given;
        given_is = refl;
        new_are = refl;
        old_are =
            ap (map giving_of) g.given_is ∙ map-append giving_of g.new g.old
            ∙ ap (λ (gs : List Giving). gs ++ map giving_of g.old) g.new_are
            ∙ ap (λ (gs : List Giving). map (behind (length sent_before)) (given_in own) ++ gs) g.old_are;
        below = below;
      }
      go HeardFit = λ h has. absurd has
      go fact = refl
