-- What an end has done where a step stops early: the first ones of its doings, up to a note.
use Rattle.std.proofs.Common.{◌≡◌, inr, refl, sym, ap, subst, ◌∙◌, append_assoc, append-nil, ℕ, List, [], ◌∷◌, ◌++◌, Option, None, Some}
use Rattle.std.proofs.lemmas.List.{append_cancel_left, same_from_push}
use Rattle.message_flow.specs.declared.message.Message.{Message}
use Rattle.line_end.specs.declared.event.LineEvent.{LineEvent}
use Rattle.line_end.specs.declared.event.LineEvent.TheVariants.{Arrived, Failed, Nothing, Refused, Sent}
use Rattle.line_end.specs.Step.{LineCall, line_step}
use Rattle.trace_log.specs.Log.{Happening}
use Rattle.message_end.specs.Core.{Step, Went, step_in}
use Rattle.message_end.specs.Core.Went.{Goes, Spent}
use Rattle.message_end.specs.Doings.{AreLawful, Doing, IsInTurn, IsOfWhole, line_of, moment_of, own_of, with_call}
use Rattle.message_end.specs.Doings.Doing.{Calls, Does, Gives, Says}
use Rattle.message_end.specs.Drops.{AreDroppedAt}
use Rattle.message_end.specs.Ends.{AreBegunOf, AreOfStep, DoesMore, DoesStep, GoesSoFar, Input, IsFront, IsMadeOf, KeepsLaw, Machine, MayTake}
use Rattle.message_end.specs.Fronts.{StopsAreLawful}
use Rattle.message_end.specs.History.{Folds, folds_of, noted_in, notes_of_own}
use Rattle.message_end.specs.InStep.{AreOfOneStep, EndsOnce, HasNoEnd}
use Rattle.message_end.specs.LineCalls.{calls_in}
use Rattle.message_end.specs.Own.{Has, Own, drawn_in, whole_in}
use Rattle.message_end.specs.Own.Own.{DrewNumber, DroppedMessage, GaveBlock, HeardBlock, ReceivedMessage, SentMessage, WroteFrame}
use Rattle.message_end.specs.Plan.{EndPlan, receiver_of}
use Rattle.message_end.proofs.Courses.{folds-call, folds_told}
use Rattle.message_end.proofs.InSteps.{ends-of-one, of-one-step, one-older}

-- ---- what is noted

-- later notes stand behind the earlier ones
pub noted-behind : (done doings : List Doing) → noted_in (done ++ doings) ≡ noted_in doings ++ noted_in done
noted-behind [] doings = sym (append-nil (noted_in doings))
noted-behind (Gives place number block at ∷ before) doings = noted-behind before doings
noted-behind (Calls call ∷ before) doings = noted-behind before doings
noted-behind (Does own ∷ before) doings =
    ap (λ (ns : List Happening). ns ++ notes_of_own own) (noted-behind before doings)
    ∙ append_assoc (noted_in doings) (noted_in before) (notes_of_own own)
noted-behind (Says what ∷ before) doings =
    ap (λ (ns : List Happening). ns ++ what ∷ []) (noted-behind before doings)
    ∙ append_assoc (noted_in doings) (noted_in before) (what ∷ [])

-- what is noted of a doing
abbrev notes_of_doing : Doing → List Happening
notes_of_doing (Gives place number block at) = []
notes_of_doing (Calls call) = []
notes_of_doing (Says what) = what ∷ []
notes_of_doing (Does own) = notes_of_own own

-- the last of these doings is noted, where there is any
abbrev EndsNoted : List Doing → Type 0
EndsNoted [] = Unit {0}
EndsNoted (doing ∷ before) = notes_of_doing doing ≡ [] → ⊥

-- doings in two parts: the notes of the earlier ones are these, and no fewer doings have them
record AreParted (done : List Doing) (front : List Happening) : Type 0 where
  later : List Doing
  older : List Doing
  whole : done ≡ later ++ older
  notes : noted_in older ≡ front
  last : EndsNoted older

parted-more : (doing : Doing) (done : List Doing) (front : List Happening) → AreParted done front
    → AreParted (doing ∷ done) front
parted-more doing done front is = record {
  later = doing ∷ is.later;
  older = is.older;
  whole = ap (λ (ds : List Doing). doing ∷ ds) is.whole;
  notes = is.notes;
  last = is.last;
}

-- the last of some notes, where there is one
pub data Ending : List Happening → Type 0 where
  is_nothing : Ending []
  is_behind : (first : List Happening) (last : Happening) → Ending (first ++ last ∷ [])

ending-of : (notes : List Happening) → Ending notes
ending-of [] = is_nothing
ending-of (what ∷ notes) = more (ending-of notes)
  where
    more : {notes : List Happening} → Ending notes → Ending (what ∷ notes)
    more is_nothing = is_behind [] what
    more (is_behind first last) = is_behind (what ∷ first) last

-- one doing more adds one note at most, so that each front of all notes is that of some first doings
parted-at :
    (doing : Doing) (done : List Doing) (front rest : List Happening) (last : Happening)
    → ((more : List Happening) → noted_in done ≡ front ++ more → AreParted done front)
    → notes_of_doing doing ≡ last ∷ []
    → noted_in (doing ∷ done) ≡ noted_in done ++ last ∷ [] → noted_in (doing ∷ done) ≡ front ++ rest
    → AreParted (doing ∷ done) front
parted-at doing done front rest last earlier noted adds is = go (ending-of rest) is
  where
    some : [] ≡ last ∷ [] → ⊥
    some is = cc

    go : {rest : List Happening} → Ending rest → noted_in (doing ∷ done) ≡ front ++ rest
        → AreParted (doing ∷ done) front
    go is_nothing is =
        record {
          later = [];
          older = doing ∷ done;
          whole = refl;
          notes = is ∙ append-nil front;
          last = λ none. some (sym none ∙ noted);
        }
    go (is_behind first other) is =
        parted-more doing done front (earlier first
        (same_from_push (noted_in done) (front ++ first) last other
        (sym adds ∙ is ∙ sym (append_assoc front first (other ∷ [])))).0)

parted : (done : List Doing) (front rest : List Happening) → noted_in done ≡ front ++ rest → AreParted done front
parted [] front rest is = record { later = []; older = []; whole = refl; notes = none front is; last = tt }
  where
    none : (front : List Happening) → [] ≡ front ++ rest → [] ≡ front
    none [] is = refl
    none (what ∷ front) is = absurd (cc)
parted (Gives place number block at ∷ before) front rest is =
    parted-more (Gives place number block at) before front (parted before front rest is)
parted (Calls call ∷ before) front rest is = parted-more (Calls call) before front (parted before front rest is)
parted (Says what ∷ before) front rest is =
    parted-at (Says what) before front rest what (λ more. parted before front more) refl refl is
parted (Does own ∷ before) front rest is = go own (λ more. parted before front more) is
  where
    quiet :
        (own : Own) → ((more : List Happening) → noted_in before ≡ front ++ more → AreParted before front)
        → noted_in before ++ [] ≡ front ++ rest → AreParted (Does own ∷ before) front
    quiet own earlier is = parted-more (Does own) before front (earlier rest (sym (append-nil (noted_in before)) ∙ is))

    go :
        (own : Own) → ((more : List Happening) → noted_in before ≡ front ++ more → AreParted before front)
        → noted_in before ++ notes_of_own own ≡ front ++ rest → AreParted (Does own ∷ before) front
    go (SentMessage message) earlier is =
        parted-at (Does (SentMessage message)) before front rest (Happening.Sent message) earlier refl refl is
    go (ReceivedMessage message) earlier is =
        parted-at (Does (ReceivedMessage message)) before front rest (Happening.Received message) earlier refl refl is
    go (DrewNumber number) earlier is = quiet (DrewNumber number) earlier is
    go (GaveBlock place number) earlier is = quiet (GaveBlock place number) earlier is
    go (WroteFrame place number) earlier is = quiet (WroteFrame place number) earlier is
    go (HeardBlock block now flow) earlier is = quiet (HeardBlock block now flow) earlier is
    go (DroppedMessage header now) earlier is = quiet (DroppedMessage header now) earlier is

-- ---- what holds of first doings

lawful-before :
    (plan : EndPlan) (base : ℕ) (later older : List Doing) → AreLawful plan base (later ++ older)
    → AreLawful plan base older
lawful-before plan base [] older is = is
lawful-before plan base (doing ∷ later) older is = lawful-before plan base later older is.1

dropped-before : (at : ℕ) (later older : List Doing) → AreDroppedAt at (later ++ older) → AreDroppedAt at older
dropped-before at [] older is = is
dropped-before at (Does own ∷ later) older is = dropped-before at later older is.1
dropped-before at (Gives place number block now ∷ later) older is = dropped-before at later older is
dropped-before at (Calls call ∷ later) older is = dropped-before at later older is
dropped-before at (Says what ∷ later) older is = dropped-before at later older is

pub calls-behind : (later older : List Doing) → calls_in (later ++ older) ≡ calls_in later ++ calls_in older
calls-behind [] older = refl
calls-behind (Does own ∷ later) older = calls-behind later older
calls-behind (Says what ∷ later) older = calls-behind later older
calls-behind (Calls call ∷ later) older = ap (λ (cs : List LineCall). call ∷ cs) (calls-behind later older)
calls-behind (Gives place number block now ∷ later) older =
    ap (λ (cs : List LineCall). LineCall.Send block now ∷ cs) (calls-behind later older)

begun-before :
    {C : Type 0} (input : Input C) (now : ℕ) (later older : List Doing)
    → AreBegunOf input now (calls_in (later ++ older)) → AreBegunOf input now (calls_in older)
begun-before input now later older is = record {
  later = is.later ++ calls_in later;
  whole =
      subst (λ (cs : List LineCall). AreOfStep input now cs)
      (ap (λ (cs : List LineCall). is.later ++ cs) (calls-behind later older)
      ∙ sym (append_assoc is.later (calls_in later) (calls_in older)))
      is.whole;
}

-- a message that is whole is received before anything else is noted
none-whole : (whole : Option Message) (doing : Doing) → (IsOfWhole doing → ⊥) → IsInTurn whole doing → whole ≡ None
none-whole None doing other is = refl
none-whole (Some message) doing other is = absurd (other is)

pub received-by :
    (plan : EndPlan) (base : ℕ) (older doings : List Doing) → whole_in (own_of plan doings) ≡ None → EndsNoted older
    → AreLawful plan base (older ++ doings) → whole_in (own_of plan (older ++ doings)) ≡ None
received-by plan base [] doings none last lawful = none
received-by plan base (Gives place number block at ∷ before) doings none last lawful = absurd (last refl)
received-by plan base (Calls call ∷ before) doings none last lawful = absurd (last refl)
received-by plan base (Says what ∷ before) doings none last lawful =
    none-whole (whole_in (own_of plan (before ++ doings))) (Says what) (λ is. is) lawful.0.0
received-by plan base (Does own ∷ before) doings none last lawful = go own last lawful.0.0
  where
    go : (own : Own) → (notes_of_own own ≡ [] → ⊥) → IsInTurn (whole_in (own_of plan (before ++ doings))) (Does own)
        → whole_in (own ∷ own_of plan (before ++ doings)) ≡ None
    go (SentMessage message) last turn =
        none-whole (whole_in (own_of plan (before ++ doings))) (Does (SentMessage message)) (λ is. is) turn
    go (ReceivedMessage message) last turn = refl
    go (DrewNumber number) last turn = absurd (last refl)
    go (GaveBlock place number) last turn = absurd (last refl)
    go (WroteFrame place number) last turn = absurd (last refl)
    go (HeardBlock block now flow) last turn = absurd (last refl)
    go (DroppedMessage header now) last turn = absurd (last refl)

-- no number that was drawn by then has come undone
drawn-told : (event : LineEvent) (now : ℕ) (f : Folds) → (folds_told event now f).drawn ≡ f.drawn
drawn-told (Arrived block) now f = refl
drawn-told Nothing now f = refl
drawn-told Sent now f = refl
drawn-told Failed now f = refl
drawn-told (Refused cause) now f = refl

pub drawn-later :
    (plan : EndPlan) (later older : List Doing) (number : ℕ) → Has (drawn_in (own_of plan older)) number
    → Has (drawn_in (own_of plan (later ++ older))) number
drawn-later plan [] older number has = has
drawn-later plan (Says what ∷ later) older number has = drawn-later plan later older number has
drawn-later plan (Gives place k block now ∷ later) older number has = drawn-later plan later older number has
drawn-later plan (Calls call ∷ later) older number has =
    subst (λ (drawn : List ℕ). Has drawn number) (sym same) (drawn-later plan later older number has)
  where
    before : List Doing
    before = later ++ older

    same : drawn_in (with_call (receiver_of plan) call (line_of plan before) (own_of plan before))
        ≡ drawn_in (own_of plan before)
    same =
        ap (λ (f : Folds). f.drawn) (folds-call (receiver_of plan) call (line_of plan before) (own_of plan before))
        ∙ drawn-told (line_step (line_of plan before) call).event (moment_of call) (folds_of (own_of plan before))
drawn-later plan (Does own ∷ later) older number has = go own (drawn-later plan later older number has)
  where
    go : (own : Own) → Has (drawn_in (own_of plan (later ++ older))) number
        → Has (drawn_in (own ∷ own_of plan (later ++ older))) number
    go (DrewNumber drawn) has = inr has
    go (SentMessage message) has = has
    go (GaveBlock place k) has = has
    go (WroteFrame place k) has = has
    go (HeardBlock block now flow) has = has
    go (DroppedMessage header now) has = has
    go (ReceivedMessage message) has = has

-- where nothing is noted, and the last doing is noted, nothing was done
nothing : (older : List Doing) → EndsNoted older → noted_in older ≡ [] → older ≡ []
nothing [] last none = refl
nothing (Gives place number block at ∷ before) last none = absurd (last refl)
nothing (Calls call ∷ before) last none = absurd (last refl)
nothing (Says what ∷ before) last none = absurd (some (noted_in before) what none)
  where
    some : (notes : List Happening) (what : Happening) → notes ++ what ∷ [] ≡ [] → ⊥
    some [] what is = cc
    some (first ∷ notes) what is = cc
nothing (Does own ∷ before) last none = absurd (last (behind (noted_in before) (notes_of_own own) none))
  where
    behind : (notes more : List Happening) → notes ++ more ≡ [] → more ≡ []
    behind [] more is = is
    behind (first ∷ notes) more is = absurd (cc)

-- ---- a step of an end

module _
    {S C : Type 0} (plan : EndPlan) (did : ℕ → List Doing → S → Type 0) (base : ℕ) (doings : List Doing)
    (input : Input C) (now : ℕ) where
  -- each front of its notes is that of some first doings, whether it goes on or not. What was drawn by then is drawn in
  -- the whole step, and where nothing was noted nothing was done
  pub record IsFirstOf (all : List Doing) (front : List Happening) : Type 0 where
    pub so_far : GoesSoFar plan did base doings input now front
    pub drawn :
        (number : ℕ) → Has (drawn_in (own_of plan (so_far.done ++ doings))) number
        → Has (drawn_in (own_of plan (all ++ doings))) number
    pub none : front ≡ [] → so_far.done ≡ []

  pub front-done :
      (front : List Happening) (step : Step S Happening)
      (more : DoesMore plan did base doings now (AreBegunOf input now) AreOfOneStep step)
      → AreLawful plan base (more.done ++ doings) → whole_in (own_of plan doings) ≡ None → IsFront front step.notes
      → IsFirstOf more.done front
  front-done front step more lawful received is = record {
    so_far = record {
      later = parts.later;
      done = parts.older;
      next = step.next;
      could = subst (λ (ds : List Doing). did base ds step.next) all_is more.is;
      lawful = lawful_by;
      notes =
          noted-behind parts.older doings ∙ ap (λ (ns : List Happening). noted_in doings ++ ns) parts.notes;
      calls =
          begun-before input now parts.later parts.older
          (subst (λ (ds : List Doing). AreBegunOf input now (calls_in ds)) parts.whole more.calls);
      drops =
          dropped-before now parts.later parts.older
          (subst (λ (ds : List Doing). AreDroppedAt now ds) parts.whole more.drops);
      received = received-by plan base parts.older doings received parts.last lawful_by;
      one = one-older parts.later parts.older (subst AreOfOneStep parts.whole more.ends);
    };
    drawn = λ number has.
        subst (λ (ds : List Doing). Has (drawn_in (own_of plan ds)) number) (sym all_is)
        (drawn-later plan parts.later (parts.older ++ doings) number has);
    none = λ none. nothing parts.older parts.last (parts.notes ∙ none);
  }
    where
      noted : noted_in more.done ≡ step.notes
      noted =
          append_cancel_left (noted_in doings) (noted_in more.done) step.notes
          (sym (noted-behind more.done doings) ∙ more.notes)

      parts : AreParted more.done front
      parts = parted more.done front is.rest (noted ∙ is.whole)

      all_is : more.done ++ doings ≡ parts.later ++ (parts.older ++ doings)
      all_is =
          ap (λ (ds : List Doing). ds ++ doings) parts.whole ∙ append_assoc parts.later parts.older doings

      lawful_by : AreLawful plan base (parts.older ++ doings)
      lawful_by =
          lawful-before plan base parts.later (parts.older ++ doings)
          (subst (λ (ds : List Doing). AreLawful plan base ds) all_is lawful)

  -- a whole step is one that has begun
  begun-whole :
      (step : Step S Happening) → DoesMore plan did base doings now (AreOfStep input now) EndsOnce step
      → DoesMore plan did base doings now (AreBegunOf input now) AreOfOneStep step
  begun-whole step more = record {
    done = more.done;
    is = more.is;
    notes = more.notes;
    written = more.written;
    calls = record { later = []; whole = more.calls };
    drops = more.drops;
    ends = ends-of-one more.done more.ends;
  }

  begun-part :
      (step : Step S Happening) → DoesMore plan did base doings now (AreBegunOf input now) HasNoEnd step
      → DoesMore plan did base doings now (AreBegunOf input now) AreOfOneStep step
  begun-part step more = record {
    done = more.done;
    is = more.is;
    notes = more.notes;
    written = more.written;
    calls = more.calls;
    drops = more.drops;
    ends = of-one-step more.done more.ends;
  }

  pub begun-step :
      (went : Went S Happening) → DoesStep plan did base doings input now went
      → DoesMore plan did base doings now (AreBegunOf input now) AreOfOneStep (step_in went)
  begun-step (Goes step) more = begun-whole step more
  begun-step (Spent step) more = begun-part step more

-- so it is wherever a step stops early
pub stops-first :
    {S C : Type 0} (plan : EndPlan) (did : ℕ → List Doing → S → Type 0) (takes : C → Type 0) (machine : Machine S C)
    → ((base : ℕ) (doings : List Doing) (s : S) → did base doings s → IsMadeOf plan base doings (machine.line s))
    → ((base : ℕ) (doings : List Doing) (s : S) (input : Input C) (now : ℕ) → did base doings s → MayTake takes input
    → DoesStep plan did base doings input now (machine.act s input now))
    → (base : ℕ) (doings : List Doing) (s : S) (input : Input C) (now : ℕ) → did base doings s → MayTake takes input
    → (front : List Happening) → IsFront front (step_in (machine.act s input now)).notes
    → (all : List Doing) × did base (all ++ doings) (step_in (machine.act s input now)).next
    × IsFirstOf plan did base doings input now all front
stops-first {S} {C} plan did takes machine keeps goes_on base doings s input now is may front first =
    let more =
    begun-step plan did base doings input now (machine.act s input now) (goes_on base doings s input now is may)
    in (
      more.done,
      more.is,
      front-done plan did base doings input now front (step_in (machine.act s input now)) more
          (keeps base (more.done ++ doings) (step_in (machine.act s input now)).next more.is).lawful
          (keeps base doings s is).received
          first,
    )

pub stops-lawful :
    {S C : Type 0} (plan : EndPlan) (did : ℕ → List Doing → S → Type 0) (takes : C → Type 0)
    (start : Went S Happening) (machine : Machine S C) → KeepsLaw plan did takes start machine
    → StopsAreLawful plan did takes machine
stops-lawful plan did takes start machine law base doings s input now is may front first =
    (stops-first plan did takes machine law.keeps law.goes_on base doings s input now is may front first).2.so_far
