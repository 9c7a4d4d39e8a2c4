-- Tests of what an end may do, for worked runs.
use Rattle.std.specs.Prelude.{◌≡◌, ◌≢◌, ◌≤◌, ◌<◌, ◌==◌, ◌⊎◌, ◌&&◌, ◌||◌, ◌+◌, ◌^◌, nat_le, nat_lt, not, ℕ, Bool, true, false, List, [], ◌∷◌, length, Option, Some, None, All, IsSome, refl}
use Rattle.std.specs.Bool.{beq}
use Rattle.std.proofs.Common.{sym, ap, ◌∙◌, subst, arith, inl, inr}
use Rattle.std.proofs.lemmas.Bool.Decides.{nat_tests}
use Rattle.std.proofs.lemmas.List.Elements.{All-cons, All-nil}
use Rattle.block_codec.specs.Block.{BlockView}
use Rattle.block_codec.specs.Protocol.{longest_text}
use Rattle.gl_base.specs.declared.side.Side.{Side}
use Rattle.gl_base.specs.Side.{other_side}
use Rattle.line_end.specs.declared.event.Phase.{Phase}
use Rattle.line_end.specs.declared.event.Phase.TheVariants.{Idle, AwaitEot, AwaitAck, AwaitLength, Gathering, Settling}
use Rattle.line_end.specs.Runs.{CanCall}
use Rattle.line_end.specs.State.{HoldsIdle, LineState}
use Rattle.line_end.specs.Step.{LineCall, line_step}
use Rattle.line_end.specs.Step.LineCall.{Cancel, Resume, Send, Take, Tick}
use Rattle.line_order.specs.Characters.{Character, writes_frame}
use Rattle.line_order.proofs.Flows.{both-true}
use Rattle.message_end.specs.Doings.{Doing, IsInTurn, IsOfWhole, IsFrameUnanswered, IsNoSend, IsPlain, MayCall, MayGiveBlock, MayWriteFrame}
use Rattle.message_end.specs.Doings.Doing.{Calls, Does, Gives, Says}
use Rattle.message_end.specs.Own.{Giving, Has, Heard, IsReplyTo, IsUnanswered, MayDo, MaySend, MaySendReply, Own, asked_in, drawn_in, given_in, given_of, heard_in, sent_at, sent_in, whole_in}
use Rattle.message_end.specs.Own.Own.{DrewNumber, DroppedMessage, GaveBlock, HeardBlock, ReceivedMessage, SentMessage, WroteFrame}
use Rattle.message_end.specs.Plan.{EndPlan, block_of, receiver_of}
use Rattle.message_end.specs.Moves.{IsCallOnWay, IsNextByte, IsOnWay, Kind}
use Rattle.message_end.specs.Moves.Kind.{Added, Changed, Did, Lost, Started}
use Rattle.message_end.specs.Starts.{IsStartOf}
use Rattle.message_flow.specs.declared.message.Message.{Message}
use Rattle.message_flow.specs.Blocks.{block_count, header_of}
use Rattle.message_flow.specs.Laws.{MessagesGoInBlocks}
use Rattle.message_flow.specs.Message.{IsMessage, is_primary}
use Rattle.message_flow.proofs.Keys.{beq-true}
use Rattle.transact.specs.Matching.{matches}
use Rattle.delivery.proofs.Ends.{History}
use Rattle.delivery.proofs.Notes.{is_plain, plain-so, starts-so, starts_so}

-- its law, by the state of its line and its history
abbrev pub MayPlay : EndPlan → LineState → List Character → History → Kind → Type 0
MayPlay plan s way h (Did (Does own)) =
    IsInTurn (whole_in h.own) (Does own) × MayDo (receiver_of plan) h.base h.own own
MayPlay plan s way h (Did (Gives place number block now)) = MayGiveBlock plan s h.own place number block now
MayPlay plan s way h (Did (Calls call)) = MayCall plan.side s h.own call
MayPlay plan s way h (Did (Says what)) = IsInTurn (whole_in h.own) (Says what) × IsPlain what
MayPlay plan s way h (Started note base) =
    IsStartOf plan.side note base × (h.base ≤ base) × ((drawn : ℕ) → Has (drawn_in h.own) drawn → drawn < base)
MayPlay plan s way h Lost = Unit {0}
MayPlay plan s way h (Changed place byte) = Unit {0}
MayPlay plan s way h (Added byte) = Unit {0}

abbrev pub IsTakenOnWay : List Character → Kind → Type 0
IsTakenOnWay way (Did doing) = IsOnWay way doing
IsTakenOnWay way (Started note base) = Unit {0}
IsTakenOnWay way Lost = Unit {0}
IsTakenOnWay way (Changed place byte) = Unit {0}
IsTakenOnWay way (Added byte) = Unit {0}

-- ---- truth values

pub never : true ≡ false → ⊥
never is = cc

pub not-true : (a : Bool) → not a ≡ true → a ≡ false
not-true true is = cc
not-true false is = refl

-- ---- messages

abbrev pub are_equal : List ℕ → List ℕ → Bool
are_equal [] [] = true
are_equal [] (b ∷ bs) = false
are_equal (a ∷ as_) [] = false
are_equal (a ∷ as_) (b ∷ bs) = a == b && are_equal as_ bs

are-equal : (xs ys : List ℕ) → are_equal xs ys ≡ true → xs ≡ ys
are-equal [] [] is = refl
are-equal [] (b ∷ bs) is = cc
are-equal (a ∷ xs) [] is = cc
are-equal (a ∷ xs) (b ∷ ys) is =
    let parts = both-true (a == b) (are_equal xs ys) is in
    let head : a ≡ b = grind (arith, nat_tests) in
    ap (λ (n : ℕ). n ∷ xs) head ∙ ap (λ (ns : List ℕ). b ∷ ns) (are-equal xs ys parts.1)

abbrev pub is_message : Message → Message → Bool
is_message a b =
    a.stream == b.stream && (a.function == b.function) && beq a.wait b.wait && (a.system == b.system)
    && are_equal a.body b.body

is-message : (a b : Message) → is_message a b ≡ true → a ≡ b
is-message a b is =
    let p1 =
    both-true (a.stream == b.stream && (a.function == b.function) && beq a.wait b.wait && (a.system == b.system))
    (are_equal a.body b.body) is
    in
    let p2 = both-true (a.stream == b.stream && (a.function == b.function) && beq a.wait b.wait) (a.system ==
    b.system) p1.0
    in
    let p3 = both-true (a.stream == b.stream && (a.function == b.function)) (beq a.wait b.wait) p2.0 in
    let p4 = both-true (a.stream == b.stream) (a.function == b.function) p3.0 in
    let test1 = p4.0 in
    let test2 = p4.1 in
    let test3 = p2.1 in
    let stream : a.stream ≡ b.stream = grind (arith, nat_tests) in
    let function : a.function ≡ b.function = grind (arith, nat_tests) in
    let system : a.system ≡ b.system = grind (arith, nat_tests) in
    ap (λ (n : ℕ). record a { stream = n }) stream
    ∙ ap (λ (n : ℕ). record a { stream = b.stream; function = n }) function
    ∙ ap (λ (w : Bool). record a { stream = b.stream; function = b.function; wait = w }) (beq-true a.wait b.wait p3.1)
    ∙ ap (λ (n : ℕ). record b { system = n; body = a.body }) system
    ∙ ap (λ (bytes : List ℕ). record b { body = bytes }) (are-equal a.body b.body p1.1)

abbrev pub is_some_message : Option Message → Message → Bool
is_some_message None m = false
is_some_message (Some a) m = is_message a m

is-some : (o : Option Message) (m : Message) → is_some_message o m ≡ true → o ≡ Some m
is-some None m is = cc
is-some (Some a) m is = ap (λ (w : Message). Some w) (is-message a m is)

abbrev pub all_below : ℕ → List ℕ → Bool
all_below n [] = true
all_below n (m ∷ ms) = nat_lt m n && all_below n ms

all-below : (n : ℕ) (ms : List ℕ) → all_below n ms ≡ true → (m : ℕ) → Has ms m → m < n
all-below n [] is m has = absurd has
all-below n (x ∷ ms) is m (inl same) =
    let test = (both-true (nat_lt x n) (all_below n ms) is).0 in grind (arith, nat_tests)
all-below n (x ∷ ms) is m (inr has) = all-below n ms (both-true (nat_lt x n) (all_below n ms) is).1 m has

bytes-below : (n : ℕ) (ms : List ℕ) → all_below n ms ≡ true → All (λ m. m < n) ms
bytes-below n [] is = All-nil (λ (m : ℕ). m < n)
bytes-below n (x ∷ ms) is =
    let parts = both-true (nat_lt x n) (all_below n ms) is in
    let test = parts.0 in
    let first : x < n = grind (arith, nat_tests) in
    All-cons (λ (m : ℕ). m < n) x ms first (bytes-below n ms parts.1)

abbrev pub fits_message : Message → Bool
fits_message m =
    nat_lt m.stream 128 && nat_le (length m.body) longest_text && nat_lt m.function 256 && nat_lt m.system (2 ^ 32)
    && all_below 256 m.body

fits-message : (m : Message) → fits_message m ≡ true → IsMessage m
fits-message m is =
    let p1 =
    both-true
    (nat_lt m.stream 128 && nat_le (length m.body) longest_text && nat_lt m.function 256 && nat_lt m.system (2 ^ 32))
    (all_below 256 m.body) is
    in
    let p2 =
    both-true (nat_lt m.stream 128 && nat_le (length m.body) longest_text && nat_lt m.function 256)
    (nat_lt m.system (2 ^ 32)) p1.0
    in
    let p3 = both-true (nat_lt m.stream 128 && nat_le (length m.body) longest_text) (nat_lt m.function 256) p2.0 in
    let p4 = both-true (nat_lt m.stream 128) (nat_le (length m.body) longest_text) p3.0 in
    let test1 = p4.0 in
    let test2 = p4.1 in
    let test3 = p3.1 in
    let test4 = p2.1 in
    record {
      fits = record { stream = grind (arith, nat_tests); body = grind (arith, nat_tests) };
      function = grind (arith, nat_tests);
      system = grind (arith, nat_tests);
      bytes = bytes-below 256 m.body p1.1;
    }

-- ---- what an end does

abbrev pub has_number : ℕ → List ℕ → Bool
has_number n [] = false
has_number n (m ∷ ms) = n == m || has_number n ms

either-true : (a b : Bool) → (a || b) ≡ true → (a ≡ true) ⊎ (b ≡ true)
either-true true b is = inl refl
either-true false b is = inr is

has-number : (n : ℕ) (ms : List ℕ) → has_number n ms ≡ true → Has ms n
has-number n [] is = cc
has-number n (m ∷ ms) is = go (either-true (n == m) (has_number n ms) is) (has-number n ms)
  where
    go : ((n == m) ≡ true) ⊎ (has_number n ms ≡ true) → (has_number n ms ≡ true → Has ms n) → Has (m ∷ ms) n
    go (inl here) later = inl (grind (arith, nat_tests))
    go (inr there) later = inr (later there)

-- no primary among them has these system bytes
abbrev pub none_with : ℕ → List Message → Bool
none_with system [] = true
none_with system (m ∷ ms) = not (is_primary m && m.system == system) && none_with system ms

none-with : (system : ℕ) (ms : List Message) → none_with system ms ≡ true → (m : Message) → Has ms m
    → is_primary m ≡ true → m.system ≢ system
none-with system [] is m has primary = absurd has
none-with system (x ∷ ms) is m (inr has) primary =
    none-with system ms (both-true (not (is_primary x && x.system == system)) (none_with system ms) is).1 m has primary
none-with system (x ∷ ms) is m (inl same) primary = λ equal.
    let test = not-true (is_primary x && x.system == system)
    (both-true (not (is_primary x && x.system == system)) (none_with system ms) is).0
    in
    let x_primary : is_primary x ≡ true = ap is_primary (sym same) ∙ primary in
    let x_system : x.system ≡ system = ap (λ (w : Message). w.system) (sym same) ∙ equal in
    let x_test : (x.system == system) ≡ true = grind (arith, nat_tests) in
    let conj : (is_primary x && x.system == system) ≡ true =
    ap (λ (p : Bool). p && x.system == system) x_primary ∙ x_test
    in
    never (sym conj ∙ test)

abbrev pub can_reply : Side → Option Message → Message → Bool
can_reply side None m = false
can_reply side (Some asked) m =
    is_primary asked && asked.wait && matches (header_of (other_side side) 0 asked 1) (header_of side 0 m 1)

can-reply : (side : Side) (own : List Own) (m : Message) → can_reply side (asked_in own) m ≡ true
    → MaySendReply side own m
can-reply side own m is = go (asked_in own) refl is
  where
    go : (asked : Option Message) → asked_in own ≡ asked → can_reply side asked m ≡ true → MaySendReply side own m
    go None at may = cc
    go (Some asked) at may =
        let both =
        both-true (is_primary asked && asked.wait) (matches (header_of (other_side side) 0 asked 1)
        (header_of side 0 m 1))
        may
        in
        let first = both-true (is_primary asked) asked.wait both.0 in
        record { asked = asked; newest = at; primary = first.0; wait = first.1; reply = both.1 }

abbrev pub can_send_as : Bool → Side → List Own → Message → Bool
can_send_as true side own m = has_number m.system (drawn_in own) && none_with m.system (sent_in own)
can_send_as false side own m = can_reply side (asked_in own) m

can-send : (side : Side) (own : List Own) (m : Message) → can_send_as (is_primary m) side own m ≡ true
    → MaySend side own m
can-send side own m is = go (is_primary m) refl is
  where
    go : (primary : Bool) → is_primary m ≡ primary → can_send_as primary side own m ≡ true → MaySend side own m
    go true at may =
        let parts = both-true (has_number m.system (drawn_in own)) (none_with m.system (sent_in own)) may in
        record {
          primary = λ yes_it_is. record {
            drawn = has-number m.system (drawn_in own) parts.0;
            new = none-with m.system (sent_in own) parts.1;
          };
          reply = λ not_this. absurd (never (sym at ∙ not_this));
        }
    go false at may = record {
      primary = λ not_this. absurd (never (sym not_this ∙ at));
      reply = λ it_is. can-reply side own m may;
    }

abbrev pub can_do : Side → ℕ → List Own → Own → Bool
can_do side base own (DrewNumber number) = nat_le base number && all_below number (drawn_in own)
can_do side base own (SentMessage m) = can_send_as (is_primary m) side own m
can_do side base own (ReceivedMessage m) = is_some_message (whole_in own) m
can_do side base own (DroppedMessage header now) = false
can_do side base own (GaveBlock place number) = false
can_do side base own (WroteFrame place number) = false
can_do side base own (HeardBlock block now flow) = false

can-do : (plan : EndPlan) (base : ℕ) (own : List Own) (one : Own) → can_do plan.side base own one ≡ true
    → MayDo (receiver_of plan) base own one
can-do plan base own (DrewNumber number) is =
    let parts = both-true (nat_le base number) (all_below number (drawn_in own)) is in
    let test = parts.0 in
    record { least = grind (arith, nat_tests); above = all-below number (drawn_in own) parts.1 }
can-do plan base own (SentMessage m) is = can-send plan.side own m is
can-do plan base own (ReceivedMessage m) is = is-some (whole_in own) m is
can-do plan base own (DroppedMessage header now) is = absurd (never (sym is))
can-do plan base own (GaveBlock place number) is = absurd (never (sym is))
can-do plan base own (WroteFrame place number) is = absurd (never (sym is))
can-do plan base own (HeardBlock block now flow) is = absurd (never (sym is))

-- ---- no message that is whole is left unreceived

abbrev pub is_of_whole : Doing → Bool
is_of_whole (Does (ReceivedMessage message)) = true
is_of_whole (Calls Cancel) = true
is_of_whole _ = false

is-of-whole : (doing : Doing) → is_of_whole doing ≡ true → IsOfWhole doing
is-of-whole (Does (ReceivedMessage message)) is = tt
is-of-whole (Calls Cancel) is = tt
is-of-whole _ is = absurd (never (sym is))

abbrev pub is_in_turn : Option Message → Doing → Bool
is_in_turn None doing = true
is_in_turn (Some whole) doing = is_of_whole doing

in-turn : (whole : Option Message) (doing : Doing) → is_in_turn whole doing ≡ true → IsInTurn whole doing
in-turn None doing is = tt
in-turn (Some whole) doing is = is-of-whole doing is

-- none is whole
abbrev pub is_none : Option Message → Bool
is_none None = true
is_none (Some whole) = false

none-in-turn : (whole : Option Message) (doing : Doing) → is_none whole ≡ true → IsInTurn whole doing
none-in-turn None doing is = tt
none-in-turn (Some whole) doing is = absurd (never (sym is))

-- ---- calls

abbrev pub is_idle : Phase → Bool
is_idle Idle = true
is_idle AwaitEot = false
is_idle AwaitAck = false
is_idle AwaitLength = false
is_idle Gathering = false
is_idle Settling = false

is-idle : (phase : Phase) → is_idle phase ≡ true → phase ≡ Idle
is-idle Idle is = refl
is-idle AwaitEot is = cc
is-idle AwaitAck is = cc
is-idle AwaitLength is = cc
is-idle Gathering is = cc
is-idle Settling is = cc

abbrev pub holds : Option BlockView → Bool
holds None = false
holds (Some block) = true

holds-some : (held : Option BlockView) → holds held ≡ true → IsSome held
holds-some None is = cc
holds-some (Some block) is = refl

holds-none : (held : Option BlockView) → holds held ≡ false → held ≡ None
holds-none None is = refl
holds-none (Some block) is = cc

abbrev pub can_call : LineState → LineCall → Bool
can_call s (Send block now) = false
can_call s (Resume now) = is_idle s.phase && holds s.held
can_call s Cancel = is_idle s.phase && holds s.held
can_call s (Take byte now) = true
can_call s (Tick now) = true

holds-idle : (s : LineState) → (is_idle s.phase && holds s.held) ≡ true → HoldsIdle s
holds-idle s is =
    let parts = both-true (is_idle s.phase) (holds s.held) is in
    record { idle = is-idle s.phase parts.0; block = holds-some s.held parts.1 }

can-call : (s : LineState) (call : LineCall) → can_call s call ≡ true → IsNoSend call × CanCall s call
can-call s (Send block now) is = cc
can-call s (Resume now) is = (tt, holds-idle s is)
can-call s Cancel is = (tt, holds-idle s is)
can-call s (Take byte now) is = (tt, tt)
can-call s (Tick now) is = (tt, tt)

-- each of them was heard before the message was sent, or isn't of a reply to it
abbrev pub are_no_replies : Side → Message → ℕ → List Heard → Bool
are_no_replies side m place [] = true
are_no_replies side m place (heard ∷ before) =
    (nat_le heard.after place || not (matches (header_of side 0 m 1) heard.header))
    && are_no_replies side m place before

pub no-replies : (side : Side) (m : Message) (place : ℕ) (all : List Heard) → are_no_replies side m place all ≡ true
    → (heard : Heard) → Has all heard → IsReplyTo side m heard.header → heard.after ≤ place
no-replies side m place [] none heard has reply = absurd has
no-replies side m place (first ∷ before) none heard (inr older) reply =
    no-replies side m place before (both-true _ (are_no_replies side m place before) none).1 heard older reply
no-replies side m place (first ∷ before) none heard (inl same) reply =
    go (nat_le first.after place) (matches (header_of side 0 m 1) first.header) refl refl
    (both-true _ (are_no_replies side m place before) none).0
  where
    go : (early replied : Bool) → nat_le first.after place ≡ early
        → matches (header_of side 0 m 1) first.header ≡ replied
        → (early || not replied) ≡ true → heard.after ≤ place
    go true replied is_early is_reply either =
        let after : heard.after ≡ first.after = ap (λ (h : Heard). h.after) same in
        grind (arith, nat_tests)
    go false true is_early is_reply either = absurd (never (sym either))
    go false false is_early is_reply either =
        absurd (never (sym (ap (λ (h : Heard). matches (header_of side 0 m 1) h.header) (sym same) ∙ reply) ∙ is_reply))

abbrev pub can_write_of : Side → Option Message → ℕ → List Own → Bool
can_write_of side None place own = true
can_write_of side (Some m) place own = are_no_replies side m place (heard_in own)

can-write-of : (side : Side) (own : List Own) (place : ℕ)
    → can_write_of side (sent_at place (sent_in own)) place own ≡ true → IsUnanswered side own place
can-write-of side own place is = go (sent_at place (sent_in own)) refl is
  where
    go : (at : Option Message) → sent_at place (sent_in own) ≡ at → can_write_of side at place own ≡ true
        → IsUnanswered side own place
    go None none may message also primary heard has reply =
        let both : None ≡ Some message = sym none ∙ also in cc
    go (Some m) some may message also primary heard has reply =
        let both : Some message ≡ Some m = sym also ∙ some in
        let equal : message ≡ m = cc in
        no-replies side m place (heard_in own) may heard has
        (subst (λ (w : Message). IsReplyTo side w heard.header) equal reply)

abbrev pub can_write_next : Side → List Giving → List Own → Bool
can_write_next side [] own = true
can_write_next side (giving ∷ before) own = can_write_of side (sent_at giving.place (sent_in own)) giving.place own

can-write-next : (side : Side) (givings : List Giving) (own : List Own) → can_write_next side givings own ≡ true
    → IsFrameUnanswered side givings own
can-write-next side [] own is = tt
can-write-next side (giving ∷ before) own is = can-write-of side own giving.place is

abbrev pub can_write : Bool → Side → List Own → Bool
can_write false side own = true
can_write true side own = can_write_next side (given_in own) own

can-write : (side : Side) (writes : Bool) (own : List Own) → can_write writes side own ≡ true
    → MayWriteFrame side writes own
can-write side false own is = tt
can-write side true own is = can-write-next side (given_in own) own is

-- ---- a block for the line

abbrev pub has_giving : ℕ → ℕ → List Giving → Bool
has_giving place number [] = false
has_giving place number (g ∷ gs) = (g.place == place && g.number == number) || has_giving place number gs

no-giving : (place number : ℕ) (gs : List Giving) → has_giving place number gs ≡ false
    → Has gs (record { place = place; number = number }) → ⊥
no-giving place number [] is has = absurd has
no-giving place number (g ∷ gs) is (inl same) =
    let places : place ≡ g.place = ap (λ (w : Giving). w.place) same in
    let numbers : number ≡ g.number = ap (λ (w : Giving). w.number) same in
    let first : (g.place == place) ≡ true = grind (arith, nat_tests) in
    let second : (g.number == number) ≡ true = grind (arith, nat_tests) in
    let test : has_giving place number (g ∷ gs) ≡ true =
    ap (λ (p : Bool). (p && g.number == number) || has_giving place number gs) first
    ∙ ap (λ (p : Bool). p || has_giving place number gs) second
    in
    never (sym test ∙ is)
no-giving place number (g ∷ gs) is (inr has) = go (g.place == place && g.number == number) is (no-giving place number
    gs)
  where
    go : (first : Bool) → (first || has_giving place number gs) ≡ false
        → (has_giving place number gs ≡ false → Has gs (record { place = place; number = number }) → ⊥) → ⊥
    go true none later = never none
    go false none later = later none has

abbrev pub can_give : LineState → List Own → ℕ → ℕ → Message → Bool
can_give s own place number m =
    is_some_message (sent_at place (sent_in own)) m && (number == given_of place (given_in own) + 1)
    && nat_le number (block_count m) && not (has_giving place number (given_in own)) && is_idle s.phase
    && not (holds s.held) && is_none (whole_in own) && fits_message m

gives-it :
    MessagesGoInBlocks → (plan : EndPlan) (s : LineState) (own : List Own) (place number now : ℕ) (m : Message)
    → plan.line.device < 32768 → sent_at place (sent_in own) ≡ Some m
    → (number == given_of place (given_in own) + 1) ≡ true → nat_le number (block_count m) ≡ true
    → has_giving place number (given_in own) ≡ false → s.phase ≡ Idle → s.held ≡ None
    → is_none (whole_in own) ≡ true → IsMessage m → MayGiveBlock plan s own place number (block_of plan m number) now
gives-it blocks plan s own place number now m device at following last once idle free none message =
    let next : number ≡ given_of place (given_in own) + 1 = grind (arith, nat_tests) in
    let up_to : number ≤ block_count m = grind (arith, nat_tests) in
    record {
      in_turn = none-in-turn (whole_in own) (Gives place number (block_of plan m number) now) none;
      may = record {
        message = m;
        sent = at;
        next = next;
        last = up_to;
        once = no-giving place number (given_in own) once;
      };
      is = λ other also.
          let same : Some m ≡ Some other = sym at ∙ also in
          let equal : m ≡ other = cc in
          ap (λ (w : Message). block_of plan w number) equal;
      can = record { idle = idle; free = free };
      in_block = blocks plan.side plan.line.device m number device message (omega (arith, next)) up_to;
    }

pub can-give :
    MessagesGoInBlocks → (plan : EndPlan) (s : LineState) (own : List Own) (place number now : ℕ) (m : Message)
    → plan.line.device < 32768 → can_give s own place number m ≡ true
    → MayGiveBlock plan s own place number (block_of plan m number) now
can-give blocks plan s own place number now m device is =
    let t1 = is_some_message (sent_at place (sent_in own)) m in
    let t2 = number == given_of place (given_in own) + 1 in
    let t3 = nat_le number (block_count m) in
    let t4 = not (has_giving place number (given_in own)) in
    let t5 = is_idle s.phase in
    let t6 = not (holds s.held) in
    let t7 = is_none (whole_in own) in
    let p1 = both-true (t1 && t2 && t3 && t4 && t5 && t6 && t7) (fits_message m) is in
    let p2 = both-true (t1 && t2 && t3 && t4 && t5 && t6) t7 p1.0 in
    let p3 = both-true (t1 && t2 && t3 && t4 && t5) t6 p2.0 in
    let p4 = both-true (t1 && t2 && t3 && t4) t5 p3.0 in
    let p5 = both-true (t1 && t2 && t3) t4 p4.0 in
    let p6 = both-true (t1 && t2) t3 p5.0 in
    let p7 = both-true t1 t2 p6.0 in
    gives-it blocks plan s own place number now m device (is-some (sent_at place (sent_in own)) m p7.0) p7.1 p6.1
    (not-true (has_giving place number (given_in own)) p5.1) (is-idle s.phase p4.1)
    (holds-none s.held (not-true (holds s.held) p3.1)) p2.1 (fits-message m p1.1)

-- ---- any kind of move

abbrev pub is_next_byte : List Character → ℕ → Bool
is_next_byte [] byte = false
is_next_byte (character ∷ rest) byte = byte == character.byte

next-byte : (way : List Character) (byte : ℕ) → is_next_byte way byte ≡ true → IsNextByte way byte
next-byte [] byte is = cc
next-byte (character ∷ rest) byte is = grind (arith, nat_tests)

abbrev pub is_call_on_way : List Character → LineCall → Bool
is_call_on_way way (Take byte now) = is_next_byte way byte
is_call_on_way way (Send block now) = true
is_call_on_way way (Resume now) = true
is_call_on_way way Cancel = true
is_call_on_way way (Tick now) = true

call-on-way : (way : List Character) (call : LineCall) → is_call_on_way way call ≡ true → IsCallOnWay way call
call-on-way way (Take byte now) is = next-byte way byte is
call-on-way way (Send block now) is = tt
call-on-way way (Resume now) is = tt
call-on-way way Cancel is = tt
call-on-way way (Tick now) is = tt

abbrev pub is_doing_on_way : List Character → Doing → Bool
is_doing_on_way way (Calls call) = is_call_on_way way call
is_doing_on_way way (Does own) = true
is_doing_on_way way (Gives place number block now) = true
is_doing_on_way way (Says what) = true

abbrev pub is_on_way : List Character → Kind → Bool
is_on_way way (Did doing) = is_doing_on_way way doing
is_on_way way (Started note base) = true
is_on_way way Lost = true
is_on_way way (Changed place byte) = true
is_on_way way (Added byte) = true

pub on-way : (way : List Character) (kind : Kind) → is_on_way way kind ≡ true → IsTakenOnWay way kind
on-way way (Did (Calls call)) is = call-on-way way call is
on-way way (Did (Does own)) is = tt
on-way way (Did (Gives place number block now)) is = tt
on-way way (Did (Says what)) is = tt
on-way way (Started note base) is = tt
on-way way Lost is = tt
on-way way (Changed place byte) is = tt
on-way way (Added byte) is = tt

abbrev pub doing_allowed : EndPlan → LineState → History → Doing → Bool
doing_allowed plan s h (Does own) = is_in_turn (whole_in h.own) (Does own) && can_do plan.side h.base h.own own
doing_allowed plan s h (Gives place number block now) = false
doing_allowed plan s h (Calls call) =
    is_in_turn (whole_in h.own) (Calls call) && can_call s call
    && can_write (writes_frame (line_step s call).written) plan.side h.own
doing_allowed plan s h (Says what) = is_in_turn (whole_in h.own) (Says what) && is_plain what

abbrev pub kind_allowed : EndPlan → LineState → History → Kind → Bool
kind_allowed plan s h (Did doing) = doing_allowed plan s h doing
kind_allowed plan s h (Started note base) =
    starts_so plan.side note base && nat_le h.base base && all_below base (drawn_in h.own)
kind_allowed plan s h Lost = true
kind_allowed plan s h (Changed place byte) = true
kind_allowed plan s h (Added byte) = true

pub kind-allowed : (plan : EndPlan) (s : LineState) (way : List Character) (h : History) (kind : Kind)
    → kind_allowed plan s h kind ≡ true → MayPlay plan s way h kind
kind-allowed plan s way h (Did (Does own)) is =
    let both = both-true (is_in_turn (whole_in h.own) (Does own)) (can_do plan.side h.base h.own own) is in
    (in-turn (whole_in h.own) (Does own) both.0, can-do plan h.base h.own own both.1)
kind-allowed plan s way h (Did (Gives place number block now)) is = cc
kind-allowed plan s way h (Did (Calls call)) is =
    let both =
    both-true (is_in_turn (whole_in h.own) (Calls call) && can_call s call)
    (can_write (writes_frame (line_step s call).written) plan.side h.own) is
    in
    let first = both-true (is_in_turn (whole_in h.own) (Calls call)) (can_call s call) both.0 in
    let can = can-call s call first.1 in
    record {
      in_turn = in-turn (whole_in h.own) (Calls call) first.0;
      no_send = can.0;
      can = can.1;
      frame = can-write plan.side (writes_frame (line_step s call).written) h.own both.1;
    }
kind-allowed plan s way h (Did (Says what)) is =
    let both = both-true (is_in_turn (whole_in h.own) (Says what)) (is_plain what) is in
    (in-turn (whole_in h.own) (Says what) both.0, plain-so what both.1)
kind-allowed plan s way h (Started note base) is =
    let both =
    both-true (starts_so plan.side note base && nat_le h.base base) (all_below base (drawn_in h.own)) is
    in
    let first = both-true (starts_so plan.side note base) (nat_le h.base base) both.0 in
    let test = first.1 in (
      starts-so plan.side note base first.0,
      grind (arith, nat_tests),
      all-below base (drawn_in h.own) both.1,
    )
kind-allowed plan s way h Lost is = tt
kind-allowed plan s way h (Changed place byte) is = tt
kind-allowed plan s way h (Added byte) is = tt
