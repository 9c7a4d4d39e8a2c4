-- What the law of tries asks of doings: of those that are of no try, of the note of one, and of a block that goes to
-- the line.
use Rattle.std.proofs.Common.{◌≡◌, refl, sym, ap, subst, ◌∙◌, inl, ◌+◌, ◌%◌, ◌==◌, true, ℕ, List, [], ◌∷◌, ◌++◌, Option, Some, None}
use Rattle.block_codec.specs.Block.{BlockView}
use Rattle.line_end.specs.declared.event.Phase.{Phase}
use Rattle.line_end.specs.declared.event.Phase.TheVariants as phase
use Rattle.line_end.specs.Runs.{CanCall}
use Rattle.line_end.specs.State.{LineState}
use Rattle.line_end.specs.Step.{LineCall, line_step}
use Rattle.line_end.specs.Step.LineCall.{Cancel, Resume, Send, Take, Tick}
use Rattle.message_flow.specs.declared.message.Message.{Message}
use Rattle.message_flow.specs.declared.waiting.Waiting.{Waiting}
use Rattle.message_flow.specs.Blocks.{numbered_block}
use Rattle.message_flow.specs.Message.{is_primary}
use Rattle.message_flow.specs.Outgoing.{next_block_of, next_turn}
use Rattle.trace_log.specs.Log.{Happening}
use Rattle.trace_log.specs.Log.Happening.{Try}
use Rattle.message_end.specs.Core.{EndView, MayNote, gives, offers, with_end, with_outgoing}
use Rattle.message_end.specs.Doings.{AreLawful, Doing, IsNoSend, line_of, own_of}
use Rattle.message_end.specs.Doings.Doing.{Calls, Does, Gives, Says}
use Rattle.message_end.specs.Ends.IsOfWorld.{of_power, of_wrote}
use Rattle.message_end.specs.Ends.{IsOfWorld}
use Rattle.message_end.specs.History.{IsHistoryOf, noted_in, notes_of_own}
use Rattle.message_end.specs.LineCalls.{IsOffer, calls_in}
use Rattle.message_end.specs.Own.{Has, Own, sent_at, sent_in}
use Rattle.message_end.specs.Own.Own.{DrewNumber, DroppedMessage, GaveBlock, HeardBlock, ReceivedMessage, SentMessage, WroteFrame}
use Rattle.message_end.specs.Plan.{EndPlan, block_of}
use Rattle.message_end.proofs.Courses.{in-turn}
use Rattle.message_end.proofs.InSteps.{steps-said}
use Rattle.message_end.proofs.Fronts.{noted-behind}
use Rattle.spool_law.specs.Shelf.{Change, change_of}
use Rattle.spool_law.specs.Shelf.Change.{Finds, HasGone, HasStored, Leaves, Other, Receives, Sends, Stores, Tries}
use Rattle.spool_law.specs.Tries.{IsNewest, MayGiveTried, MaySayTried, MayTry, tried_behind, tries_in}
use Rattle.tool_step.specs.declared.kind.Kind.{Kind}
use Rattle.tool_law.specs.Tried.{AreInTurn, AreTried}
use Rattle.tool_law.proofs.CoreSteps.{CoreStep}

-- ---- notes and calls of no try

abbrev pub IsNoTry : Change → Type 0
IsNoTry (Tries number system) = ⊥
IsNoTry _ = Unit {0}

abbrev pub AreNoTries : List Happening → Type 0
AreNoTries [] = Unit {0}
AreNoTries (what ∷ notes) = IsNoTry (change_of what) × AreNoTries notes

abbrev pub GiveNone : List LineCall → Type 0
GiveNone [] = Unit {0}
GiveNone (Send block now ∷ calls) = ⊥
GiveNone (Resume now ∷ calls) = GiveNone calls
GiveNone (Cancel ∷ calls) = GiveNone calls
GiveNone (Take byte now ∷ calls) = GiveNone calls
GiveNone (Tick now ∷ calls) = GiveNone calls

later-none : (call : LineCall) (calls : List LineCall) → GiveNone (call ∷ calls) → GiveNone calls
later-none (Send block now) calls none = absurd none
later-none (Resume now) calls none = none
later-none Cancel calls none = none
later-none (Take byte now) calls none = none
later-none (Tick now) calls none = none

front-no : (xs ys : List Happening) → AreNoTries (xs ++ ys) → AreNoTries xs
front-no [] ys plain = tt
front-no (x ∷ xs) ys plain = (plain.0, front-no xs ys plain.1)

back-no : (xs ys : List Happening) → AreNoTries (xs ++ ys) → AreNoTries ys
back-no [] ys plain = plain
back-no (x ∷ xs) ys plain = back-no xs ys plain.1

pub both-no : (xs ys : List Happening) → AreNoTries xs → AreNoTries ys → AreNoTries (xs ++ ys)
both-no [] ys one two = two
both-no (x ∷ xs) ys one two = (one.0, both-no xs ys one.1 two)

-- ---- what was noted is the notes of what was done

tail-is : (x : Happening) (xs ys : List Happening) → x ∷ xs ≡ x ∷ ys → xs ≡ ys
tail-is x xs ys is = cc

cancel : (xs ys zs : List Happening) → xs ++ ys ≡ xs ++ zs → ys ≡ zs
cancel [] ys zs is = is
cancel (x ∷ xs) ys zs is = cancel xs ys zs (tail-is x (xs ++ ys) (xs ++ zs) is)

pub done-notes : (done doings : List Doing) (notes : List Happening)
    → noted_in (done ++ doings) ≡ noted_in doings ++ notes → noted_in done ≡ notes
done-notes done doings notes is =
    cancel (noted_in doings) (noted_in done) notes (sym (noted-behind done doings) ∙ is)

none-in-front : (xs ys : List Happening) → xs ++ ys ≡ [] → xs ≡ []
none-in-front [] ys is = refl
none-in-front (x ∷ xs) ys is = absurd (cc)

none-behind : (xs ys : List Happening) → xs ++ ys ≡ [] → ys ≡ []
none-behind [] ys is = is
none-behind (x ∷ xs) ys is = absurd (cc)

-- ---- notes of no try

-- a note that a command may bring, and that is of no try
abbrev pub IsFine : Happening → Type 0
IsFine (Happening.EquipmentStarted found base) = ⊥
IsFine (Happening.HostStarted journal) = ⊥
IsFine (Happening.Sent message) = ⊥
IsFine (Happening.Received message) = ⊥
IsFine (Happening.Try number system) = ⊥
IsFine Happening.StepEnded = ⊥
IsFine _ = Unit {0}

pub fine-both : (what : Happening) → IsFine what → MayNote what × IsNoTry (change_of what)
fine-both (Happening.EquipmentStarted found base) fine = absurd fine
fine-both (Happening.HostStarted journal) fine = absurd fine
fine-both (Happening.Sent message) fine = absurd fine
fine-both (Happening.Received message) fine = absurd fine
fine-both (Happening.Try number system) fine = absurd fine
fine-both Happening.StepEnded fine = absurd fine
fine-both what fine = (tt, tt)

-- what the world notes of an end is of no try
pub world-free : (what : Happening) → IsOfWorld what → IsNoTry (change_of what)
world-free _ (of_wrote characters) = tt
world-free _ of_power = tt

-- ---- doings of no try

pub may-say : (own : List Own) (tries : List ℕ) (change : Change) → IsNoTry change → MaySayTried own tries change
may-say own tries (Finds found) plain = tt
may-say own tries (Stores number message) plain = tt
may-say own tries (HasStored number) plain = tt
may-say own tries (Leaves number why room_for) plain = tt
may-say own tries (HasGone number) plain = tt
may-say own tries (Tries number system) plain = absurd plain
may-say own tries (Sends message) plain = tt
may-say own tries (Receives message) plain = tt
may-say own tries Other plain = tt

pub same-tries : (change : Change) (tries : List ℕ) → IsNoTry change → tried_behind change tries ≡ tries
same-tries (Finds found) tries plain = refl
same-tries (Stores number message) tries plain = refl
same-tries (HasStored number) tries plain = refl
same-tries (Leaves number why room_for) tries plain = refl
same-tries (HasGone number) tries plain = refl
same-tries (Tries number system) tries plain = absurd plain
same-tries (Sends message) tries plain = refl
same-tries (Receives message) tries plain = refl
same-tries Other tries plain = refl

-- the law is kept, and no try was made
pub record GoesTried (plan : EndPlan) (doings more : List Doing) : Type 0 where
  pub tried : AreTried plan more
  pub same : tries_in more ≡ tries_in doings

pub quiet-done :
    (plan : EndPlan) (done doings : List Doing) → AreNoTries (noted_in done) → GiveNone (calls_in done)
    → AreTried plan doings → GoesTried plan doings (done ++ doings)
quiet-done plan [] doings notes calls tried = record { tried = tried; same = refl }
quiet-done plan (Does own ∷ done) doings notes calls tried =
    let rest = quiet-done plan done doings (front-no (noted_in done) (notes_of_own own) notes) calls tried in
    record { tried = (tt, rest.tried); same = rest.same }
quiet-done plan (Gives place number block now ∷ done) doings notes calls tried = absurd calls
quiet-done plan (Calls call ∷ done) doings notes calls tried =
    let rest = quiet-done plan done doings notes (later-none call (calls_in done) calls) tried in
    record { tried = (tt, rest.tried); same = rest.same }
quiet-done plan (Says what ∷ done) doings notes calls tried =
    let rest = quiet-done plan done doings (front-no (noted_in done) (what ∷ []) notes) calls tried in
    let plain = (back-no (noted_in done) (what ∷ []) notes).0 in
    record {
      tried = (
        may-say (own_of plan (done ++ doings)) (tries_in (done ++ doings)) (change_of what) plain,
        rest.tried,
      );
      same = same-tries (change_of what) (tries_in (done ++ doings)) plain ∙ rest.same;
    }

-- ---- the note of a try

-- a number that was drawn by itself, and that no try has had
pub may-try :
    (plan : EndPlan) (base : ℕ) (doings : List Doing) (e : EndView Kind) (system : ℕ)
    → IsHistoryOf plan base doings e → e.drawn ≡ Some system → (Has (tries_in doings) system → ⊥)
    → MayTry (own_of plan doings) (tries_in doings) system
may-try plan base doings e system is drawn untried =
    let spare = is.core.spare system drawn in
    record {
      drawn = spare.drawn_is;
      new = λ message has primary same. spare.free message has primary same;
      untried = untried;
    }

pub said-history :
    (plan : EndPlan) (base : ℕ) (doings : List Doing) (e : EndView Kind) (number system : ℕ)
    → IsHistoryOf plan base doings e → IsHistoryOf plan base (Says (Try number system) ∷ doings) e
said-history plan base doings e number system is = record {
  lawful = ((in-turn (own_of plan doings) (Says (Try number system)) is.received, tt), is.lawful);
  line = is.line;
  received = is.received;
  core = is.core;
  steps = steps-said plan doings e.asked (Try number system) tt is.steps;
}

-- ---- a block that goes to the line

none-same : (own : Own) (before : List Own) → notes_of_own own ≡ [] → sent_in (own ∷ before) ≡ sent_in before
none-same (DrewNumber number) before none = refl
none-same (SentMessage message) before none = absurd (cc)
none-same (GaveBlock place number) before none = refl
none-same (WroteFrame place number) before none = refl
none-same (HeardBlock block now flow) before none = refl
none-same (DroppedMessage header now) before none = refl
none-same (ReceivedMessage message) before none = refl

-- what is done without a note and without a call of the line leaves the line, and what was sent
record IsSilent (plan : EndPlan) (doings more : List Doing) : Type 0 where
  line : line_of plan more ≡ line_of plan doings
  sents : sent_in (own_of plan more) ≡ sent_in (own_of plan doings)

silent-done : (plan : EndPlan) (done doings : List Doing) → noted_in done ≡ [] → calls_in done ≡ []
    → IsSilent plan doings (done ++ doings)
silent-done plan [] doings notes calls = record { line = refl; sents = refl }
silent-done plan (Does own ∷ done) doings notes calls =
    let rest = silent-done plan done doings (none-in-front (noted_in done) (notes_of_own own) notes) calls in
    record {
      line = rest.line;
      sents =
          none-same own (own_of plan (done ++ doings)) (none-behind (noted_in done) (notes_of_own own) notes)
          ∙ rest.sents;
    }
silent-done plan (Gives place number block now ∷ done) doings notes calls = absurd (cc)
silent-done plan (Calls call ∷ done) doings notes calls = absurd (cc)
silent-done plan (Says what ∷ done) doings notes calls =
    let none = none-behind (noted_in done) (what ∷ []) notes in absurd (cc)

-- this block is given behind those doings, and none of a message that may not go
pub record IsGiven (plan : EndPlan) (doings more : List Doing) (place number at : ℕ) (block : BlockView) : Type 0 where
  pub line : line_of plan more ≡ (line_step (line_of plan doings) (Send block at)).next
  pub can : CanCall (line_of plan doings) (Send block at)
  pub is :
      (message : Message) → sent_at place (sent_in (own_of plan doings)) ≡ Some message
      → block ≡ block_of plan message number

abbrev pub MayAllGive : EndPlan → List Doing → List Doing → Type 0
MayAllGive plan doings more =
    (place number at : ℕ) (block : BlockView) → IsGiven plan doings more place number at block
    → MayGiveTried (sent_in (own_of plan doings)) (tries_in doings) place

same-call : (one other : LineCall) (calls : List LineCall) → one ∷ calls ≡ other ∷ [] → one ≡ other
same-call one other calls is = cc

same-rest : (one other : LineCall) (calls : List LineCall) → one ∷ calls ≡ other ∷ [] → calls ≡ []
same-rest one other calls is = cc

none-no : (notes : List Happening) → notes ≡ [] → AreNoTries notes
none-no notes none = subst AreNoTries (sym none) tt

one-given :
    (plan : EndPlan) (base : ℕ) (done doings : List Doing) (sent : BlockView) (at : ℕ) → noted_in done ≡ []
    → calls_in done ≡ Send sent at ∷ [] → AreLawful plan base (done ++ doings) → AreTried plan doings
    → MayAllGive plan doings (done ++ doings) → GoesTried plan doings (done ++ doings)
one-given plan base [] doings sent at notes calls lawful tried may = absurd (cc)
one-given plan base (Does own ∷ done) doings sent at notes calls lawful tried may =
    let rest = one-given plan base done doings sent at (none-in-front (noted_in done) (notes_of_own own) notes) calls
    lawful.1 tried (λ place number at block given. may place number at block
    (record { line = given.line; can = given.can; is = given.is })) in
    record { tried = (tt, rest.tried); same = rest.same }
one-given plan base (Gives place number block now ∷ done) doings sent at notes calls lawful tried may =
    let none = same-rest (Send block now) (Send sent at) (calls_in done) calls in
    let silent = silent-done plan done doings notes none in
    let rest =
    quiet-done plan done doings (none-no (noted_in done) notes) (subst GiveNone (sym none) tt) tried
    in
    let gives = lawful.0 in
    let line = silent.line in
    let sents = silent.sents in
    record {
      tried = (
        subst (λ (messages : List Message). MayGiveTried messages (tries_in (done ++ doings)) place) (sym sents)
            (subst (λ (tries : List ℕ). MayGiveTried (sent_in (own_of plan doings)) tries place) (sym rest.same)
            (may place number now block (record {
              line = ap (λ (s : LineState). (line_step s (Send block now)).next) line;
              can = subst (λ (s : LineState). CanCall s (Send block now)) line gives.can;
              is = λ message has.
                  gives.is message (subst (λ (messages : List Message). sent_at place messages ≡ Some message)
                  (sym sents) has);
            }))),
        rest.tried,
      );
      same = rest.same;
    }
one-given plan base (Calls call ∷ done) doings sent at notes calls lawful tried may =
    let none = subst IsNoSend (same-call call (Send sent at) (calls_in done) calls) lawful.0.no_send in absurd none
one-given plan base (Says what ∷ done) doings sent at notes calls lawful tried may =
    let none = none-behind (noted_in done) (what ∷ []) notes in absurd (cc)

-- at the line's turn one block at most is given
pub offer-done :
    (plan : EndPlan) (base : ℕ) (done doings : List Doing) (now : ℕ) → noted_in done ≡ []
    → IsOffer now (calls_in done) → AreLawful plan base (done ++ doings) → AreTried plan doings
    → MayAllGive plan doings (done ++ doings) → GoesTried plan doings (done ++ doings)
offer-done plan base done doings now notes offer lawful tried may = go (calls_in done) refl offer
  where
    quiet : (calls : List LineCall) → calls_in done ≡ calls → GiveNone calls → GoesTried plan doings (done ++ doings)
    quiet calls is none =
        quiet-done plan done doings (none-no (noted_in done) notes) (subst GiveNone (sym is) none) tried

    go : (calls : List LineCall) → calls_in done ≡ calls → IsOffer now calls → GoesTried plan doings (done ++ doings)
    go [] is offer = quiet [] is tt
    go (Resume at ∷ []) is offer = quiet (Resume at ∷ []) is tt
    go (Send block at ∷ []) is offer = one-given plan base done doings block at notes is lawful tried may
    go (Resume at ∷ (call ∷ calls)) is offer = absurd offer
    go (Send block at ∷ (call ∷ calls)) is offer = absurd offer
    go (Cancel ∷ calls) is offer = absurd offer
    go (Take byte at ∷ calls) is offer = absurd offer
    go (Tick at ∷ calls) is offer = absurd offer

-- it is the next block of the first message that waits
inj : (x y : BlockView) → Some x ≡ Some y → x ≡ y
inj x y e = cc

by-idle :
    (p : Phase) (held : Option BlockView) (now : ℕ) (step : CoreStep) (line : LineState) → p ≡ phase.Idle → held ≡ None
    → (offers p held now step).next.line ≡ line → (offers phase.Idle None now step).next.line ≡ line
by-idle p held now step line idle free is =
    subst (λ (h : Option BlockView). (offers phase.Idle h now step).next.line ≡ line) free
    (subst (λ (q : Phase). (offers q held now step).next.line ≡ line) idle is)

given-is :
    (found : Option BlockView) (now : ℕ) (step : CoreStep) (block : BlockView) → step.next.line.held ≡ None
    → (gives found now step).next.line.held ≡ Some block → found ≡ Some block
given-is None now step block free is = absurd (cc)
given-is (Some one) now step block free is = is

next-given :
    (plan : EndPlan) (tries : List ℕ) (now at : ℕ) (step : CoreStep) (block : BlockView) (message : Message)
    (number : ℕ)
    → step.next.line.phase ≡ phase.Idle → step.next.line.held ≡ None
    → (offers step.next.line.phase step.next.line.held now step).next.line
    ≡ (line_step step.next.line (Send block at)).next
    → block ≡ block_of plan message number → is_primary message ≡ true → AreInTurn tries step.next
    → Has tries message.system → IsNewest tries message.system
next-given plan tries now at step block message number idle free line is primary turn has =
    go step.next.outgoing.waiting refl
    (given-is (next_block_of step.next.outgoing.side step.next.outgoing.device step.next.outgoing.waiting).0 now
    (with_end (with_outgoing (next_turn step.next.outgoing) step.next) step) block free
    (ap (λ (s : LineState). s.held)
    (by-idle step.next.line.phase step.next.line.held now step (line_step step.next.line (Send block at)).next idle free
    line)))
  where
    go : (waiting : List Waiting) → step.next.outgoing.waiting ≡ waiting
        → (next_block_of step.next.outgoing.side step.next.outgoing.device waiting).0 ≡ Some block
        → IsNewest tries message.system
    go [] none found = absurd (cc)
    go (first ∷ rest) some found =
        let same =
        inj
        (numbered_block step.next.outgoing.side step.next.outgoing.device first.message (first.gone + 1)) block found
        ∙ is
        in
        let system : first.message.system ≡ message.system = ap (λ (b : BlockView). b.header.system) same in
        let odd : is_primary first.message ≡ is_primary message =
        ap (λ (b : BlockView). b.header.function % 2 == 1) same in
        subst (IsNewest tries) system
        (turn.waits first.message (odd ∙ primary)
        (record { one = first; has = subst (λ (all : List Waiting). Has all first) (sym some) (inl refl); is = refl })
        (subst (Has tries) (sym system) has))

-- so what the line is given at its turn may go, where tries are in turn
pub offer-may :
    (plan : EndPlan) (base : ℕ) (doings more : List Doing) (step : CoreStep) (now : ℕ)
    → IsHistoryOf plan base doings step.next
    → (offers step.next.line.phase step.next.line.held now step).next.line ≡ line_of plan more
    → AreInTurn (tries_in doings) step.next → MayAllGive plan doings more
offer-may plan base doings more step now is after turn place number at block given message sent primary has =
    next-given plan (tries_in doings) now at step block message number
    (ap (λ (s : LineState). s.phase) is.line ∙ given.can.idle)
    (ap (λ (s : LineState). s.held) is.line ∙ given.can.free)
    (after ∙ given.line ∙ ap (λ (s : LineState). (line_step s (Send block at)).next) (sym is.line))
    (given.is message sent) primary turn has
