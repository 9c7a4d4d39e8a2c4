-- That what was done since a step began keeps the tries in turn.
use Rattle.std.proofs.Common.{◌≡◌, refl, sym, ap, subst, ◌∙◌, inl, inr, ◌<◌, ℕ, ◌%◌, ◌==◌, List, [], ◌∷◌, ◌++◌, append-nil, append_assoc, Option, Some, None}
use Rattle.std.specs.List.{find}
use Rattle.line_end.specs.Plan.{LinePlanFits}
use Rattle.line_end.specs.Step.{LineCall}
use Rattle.message_flow.specs.Assembly as assembly
use Rattle.message_flow.specs.Assembly.{header_so_far}
use Rattle.trace_log.specs.declared.names.Title.{Title}
use Rattle.trace_log.specs.Log.{Happening}
use Rattle.trace_log.specs.Log.Happening.{Try}
use Rattle.message_end.specs.Core.{Command, EndView, MayCarry, Went, at_first, calls, carried, carry, drops, noted, offers, step_in, takes}
use Rattle.message_end.specs.Core.Went.{Goes, Spent}
use Rattle.message_end.specs.Doings.{Doing}
use Rattle.message_end.specs.Doings.Doing.{Calls, Does, Gives, Says}
use Rattle.message_end.specs.Drops.{AreDroppedAt, Drops}
use Rattle.message_end.specs.Duties.{all_done}
use Rattle.message_end.specs.History.{AskedIs, IsHistoryOf, noted_in, written_in}
use Rattle.message_end.specs.Ends.{AreDecidedAt}
use Rattle.message_end.specs.InStep.{HasNoEnd}
use Rattle.message_end.specs.LineCalls.{AreCallsOf, IsOffer, calls_in}
use Rattle.message_end.specs.Own.{Has}
use Rattle.message_end.specs.Plan.{EndPlan}
use Rattle.message_end.proofs.InSteps.{none-both}
use Rattle.message_end.proofs.Limits.{AddsNone, carry-limit, limit_of}
use Rattle.message_end.proofs.Lower.{lower}
use Rattle.message_end.proofs.Parts.{OnEither, commands-due, either-then}
use Rattle.message_end.proofs.CallingLine.{IsDone, offer-made, take-made, tick-made}
use Rattle.message_end.proofs.CallingNone.{at-carry}
use Rattle.message_end.proofs.Steps.{CallsNone, Exactly, IsAt, OnWent}
use Rattle.message_end.proofs.Fronts.{calls-behind}
use Rattle.message_flow.specs.declared.message.Message.{Message}
use Rattle.spool_law.specs.Tries.{tries_in}
use Rattle.tool_step.specs.declared.kind.Kind.{Kind}
use Rattle.tool_step.specs.Own.{ToolCommands, ToolDuty}
use Rattle.tool_law.specs.Tried.{AreInTurn, AreTried}
use Rattle.tool_law.proofs.CoreSteps.{CoreStep}
use Rattle.tool_law.proofs.TriedCores.{AsksOfPrimary, NoneWaits, Turned, carry-turned, still-in-turn, tried-in-turn}
use Rattle.tool_law.proofs.TriedDoings.{AreNoTries, GiveNone, GoesTried, done-notes, may-try, offer-done, offer-may, quiet-done, said-history}
use Rattle.tool_law.proofs.TriedSteps.{IsFree, NotesFree, offer-notes, carry-free, ahead, went_ahead, IsAhead, goes, carry-ahead, calls-ahead, drop-ahead, takes-ahead, offer-ahead, StaysMild, IsMild, mild-off, AreMildDuties}

-- ---- what was done since a step began

drops-both :
    (now : ℕ) (later older : List Doing) → AreDroppedAt now later → AreDroppedAt now older
    → AreDroppedAt now (later ++ older)
drops-both now [] older one two = two
drops-both now (Does own ∷ later) older one two = (one.0, drops-both now later older one.1 two)
drops-both now (Gives place number block at ∷ later) older one two = drops-both now later older one two
drops-both now (Calls call ∷ later) older one two = drops-both now later older one two
drops-both now (Says what ∷ later) older one two = drops-both now later older one two

pub asks-of : (newest : Option Message) (asked : Option Title) → AskedIs newest asked → AsksOfPrimary asked
asks-of newest None is = tt
asks-of newest (Some title) is =
    let a = is title refl in ap (λ (t : Title). t.name.function % 2 == 1) a.title ∙ a.primary

module _ (plan : EndPlan) (base : ℕ) (fits : LinePlanFits plan.line) (doings : List Doing) (now limit : ℕ) where
  -- these doings keep both laws, with these tries, and with such calls of the line
  pub record TriedAt (tries : List ℕ) (Called : List LineCall → Type 0) (step : CoreStep) : Type 0 where
    pub all : List Doing
    pub done : List Doing
    pub whole : all ≡ done ++ doings
    pub is : IsHistoryOf plan base all step.next
    pub notes : noted_in all ≡ noted_in doings ++ step.notes
    pub written : written_in plan all ≡ written_in plan doings ++ step.written
    pub called : Called (calls_in done)
    pub drops : AreDroppedAt now done
    pub tried : AreTried plan all
    pub tries_are : tries_in all ≡ tries
    pub turn : AreInTurn tries step.next
    pub limit_is : limit_of step ≡ limit
    pub unended : HasNoEnd done

  abbrev IsMadeBy : List Doing → List LineCall → CoreStep → Type 0
  IsMadeBy before made step = IsAt plan base before (λ at. at ≡ now) (Exactly made) step

  pub at-such-calls :
      (tries : List ℕ) (Called Other : List LineCall → Type 0) (step : CoreStep)
      → ((made : List LineCall) → Called made → Other made) → TriedAt tries Called step → TriedAt tries Other step
  at-such-calls tries Called Other step such at = record {
    all = at.all;
    done = at.done;
    whole = at.whole;
    is = at.is;
    notes = at.notes;
    written = at.written;
    called = such (calls_in at.done) at.called;
    drops = at.drops;
    tried = at.tried;
    tries_are = at.tries_are;
    turn = at.turn;
    limit_is = at.limit_is;
    unended = at.unended;
  }

  from-here :
      (tries : List ℕ) (Called : List LineCall → Type 0) (step : CoreStep) (at : TriedAt tries Called step)
      → IsMadeBy at.all [] (at_first step.next)
  from-here tries Called step at = record {
    done = [];
    called = refl;
    drops = tt;
    course = record {
      lawful = at.is.lawful;
      line = at.is.line;
      notes = sym (append-nil (noted_in at.all));
      written = sym (append-nil (written_in plan at.all));
    };
    received = at.is.received;
    core = at.is.core;
    steps = at.is.steps;
    unended = tt;
  }

  pub asks-at : (tries : List ℕ) (Called : List LineCall → Type 0) (step : CoreStep) → TriedAt tries Called step
      → AsksOfPrimary step.next.asked
  asks-at tries Called step at = asks-of _ step.next.asked at.is.core.asked

  -- some doings more
  further :
      (tries : List ℕ) (Called Other : List LineCall → Type 0) (step : CoreStep) (at : TriedAt tries Called step)
      (later : CoreStep) (made : List LineCall) (is : IsMadeBy at.all made later) → Other (made ++ calls_in at.done)
      → GoesTried plan at.all (is.done ++ at.all) → Turned (at_first step.next) later
      → limit_of later ≡ limit_of step → TriedAt tries Other (ahead step later)
  further tries Called Other step at later made is called tried turned same = record {
    all = is.done ++ at.all;
    done = is.done ++ at.done;
    whole =
        ap (λ (ds : List Doing). is.done ++ ds) at.whole ∙ sym (append_assoc is.done at.done doings);
    is = record {
      lawful = is.course.lawful;
      received = is.received;
      line = is.course.line;
      core = is.core;
      steps = is.steps;
    };
    notes =
        is.course.notes ∙ ap (λ (ns : List Happening). ns ++ later.notes) at.notes
        ∙ append_assoc (noted_in doings) step.notes later.notes;
    written =
        is.course.written ∙ ap (λ (ws : List ℕ). ws ++ later.written) at.written
        ∙ append_assoc (written_in plan doings) step.written later.written;
    called =
        subst Other
        (sym (calls-behind is.done at.done ∙ ap (λ (cs : List LineCall). cs ++ calls_in at.done) is.called)) called;
    drops = drops-both now is.done at.done is.drops at.drops;
    tried = tried.tried;
    tries_are = tried.same ∙ at.tries_are;
    turn = still-in-turn tries step.next later.next turned at.turn;
    limit_is = same ∙ at.limit_is;
    unended = none-both is.done at.done is.unended at.unended;
  }

  -- ---- commands that give no block and note no try

  quiet-further :
      (tries : List ℕ) (Called Other : List LineCall → Type 0) (step : CoreStep) (at : TriedAt tries Called step)
      (later : CoreStep) (made : List LineCall) → IsMadeBy at.all made later → Other (made ++ calls_in at.done)
      → GiveNone made → NotesFree later → Turned (at_first step.next) later → limit_of later ≡ limit_of step
      → TriedAt tries Other (ahead step later)
  quiet-further tries Called Other step at later made is called none free turned same =
      further tries Called Other step at later made is called
      (quiet-done plan is.done at.all
      (subst AreNoTries (sym (done-notes is.done at.all later.notes is.course.notes)) free)
      (subst GiveNone (sym is.called) none) at.tried) turned same

  -- one that doesn't call the line
  off-at :
      (tries : List ℕ) (Called : List LineCall → Type 0) (command : Command Kind) (step : CoreStep)
      → IsAhead step (carry Some command step) (carry Some command (at_first step.next)) → CallsNone command
      → Drops (λ m. m ≡ now) command → AddsNone command → IsFree command → MayCarry command
      → TriedAt tries Called step → OnEither (TriedAt tries Called) (TriedAt tries Called) (carry Some command step)
  off-at tries Called command step ahead_is calls drops adds free may at =
      subst (OnEither (TriedAt tries Called) (TriedAt tries Called)) (sym ahead_is)
      (go (carry Some command (at_first step.next))
      (at-carry lower plan base fits at.all (λ m. m ≡ now) (Exactly []) command (at_first step.next) calls drops may
      (from-here tries Called step at))
      (carry-turned command (at_first step.next) (asks-at tries Called step at))
      (carry-free command (at_first step.next) free tt) (carry-limit command (at_first step.next) adds))
    where
      go : (other : Went (EndView Kind) Happening) → OnWent (IsMadeBy at.all []) other
          → OnEither (Turned (at_first step.next)) (Turned (at_first step.next)) other
          → OnEither NotesFree NotesFree other → limit_of (step_in other) ≡ limit_of step
          → OnEither (TriedAt tries Called) (TriedAt tries Called) (went_ahead step other)
      go (Goes later) is turned free same =
          quiet-further tries Called Called step at later [] is at.called tt free turned same
      go (Spent later) is turned free same =
          quiet-further tries Called Called step at later [] is at.called tt free turned same

  pub carry-at :
      (tries : List ℕ) (Called : List LineCall → Type 0) (command : Command Kind) (step : CoreStep)
      → StaysMild command → MayCarry command → TriedAt tries Called step
      → OnEither (TriedAt tries Called) (TriedAt tries Called) (carry Some command step)
  carry-at tries Called command step mild may at =
      let off = mild-off command mild in
      let due = commands-due now (command ∷ []) (record { calls = (off.0, tt); may = (may, tt) }) in
      off-at tries Called command step (carry-ahead command step off.0) due.calls.0 due.drops.0 due.adds.0 off.1 may at

  pub commands-at :
      (tries : List ℕ) (Called : List LineCall → Type 0) (commands : ToolCommands) (step : CoreStep) → IsMild commands
      → TriedAt tries Called step → OnEither (TriedAt tries Called) (TriedAt tries Called) (carried Some commands step)
  commands-at tries Called [] step mild at = at
  commands-at tries Called (command ∷ commands) step mild at =
      either-then (TriedAt tries Called) (TriedAt tries Called) (TriedAt tries Called) (carry Some command step)
      (carried Some commands) (carry-at tries Called command step mild.0.0 mild.0.1 at)
      (λ next so. commands-at tries Called commands next mild.1 so)

  pub duties-at :
      (tries : List ℕ) (Called : List LineCall → Type 0) (duties : List ToolDuty) (step : CoreStep)
      → AreMildDuties duties → TriedAt tries Called step
      → OnEither (TriedAt tries Called) (TriedAt tries Called) (all_done Some duties step)
  duties-at tries Called [] step mild at = at
  duties-at tries Called (duty ∷ duties) step mild at =
      either-then (TriedAt tries Called) (TriedAt tries Called) (TriedAt tries Called)
      (carried Some (duty step.next) step) (all_done Some duties)
      (commands-at tries Called (duty step.next) step (mild.0 step.next) at)
      (λ next so. duties-at tries Called duties next mild.1 so)

  -- T4
  pub drop-at :
      (tries : List ℕ) (Called : List LineCall → Type 0) (step : CoreStep) → TriedAt tries Called step
      → OnEither (TriedAt tries Called) (TriedAt tries Called) (carry Some (Command.DropDue now) step)
  drop-at tries Called step at =
      off-at tries Called (Command.DropDue now) step
      (goes _ _ (drop-ahead (header_so_far (find (assembly.is_due now) step.next.assembly.partials)) now step)) tt refl
      tt tt tt at

  -- ---- the line's timer, and a character

  pub tick-at :
      (tries : List ℕ) (Called Other : List LineCall → Type 0) (step : CoreStep) (at : TriedAt tries Called step)
      → Other (LineCall.Tick now ∷ calls_in at.done) → TriedAt tries Other (calls (LineCall.Tick now) step)
  tick-at tries Called Other step at called =
      subst (TriedAt tries Other) (sym (calls-ahead step step.next (LineCall.Tick now)))
      (quiet-further tries Called Other step at (calls (LineCall.Tick now) first) (LineCall.Tick now ∷ [])
      (tick-made lower plan base fits at.all (λ m. m ≡ now) [] now first (from-here tries Called step at)) called tt tt
      (carry-turned (Command.Tick now) first (asks-at tries Called step at)) refl)
    where
      first : CoreStep
      first = at_first step.next

  pub take-at :
      (tries : List ℕ) (Called Other : List LineCall → Type 0) (byte : ℕ) (step : CoreStep)
      (at : TriedAt tries Called step) → byte < 256
      → ((decided : List LineCall) → AreDecidedAt now decided
      → Other (decided ++ LineCall.Take byte now ∷ calls_in at.done))
      → TriedAt tries Other (takes Some byte now step)
  take-at tries Called Other byte step at below called =
      subst (TriedAt tries Other) (sym (takes-ahead byte now step)) (go made.newer made.are made.at)
    where
      first : CoreStep
      first = at_first step.next

      made : IsDone lower plan base fits at.all (λ m. m ≡ now) [] (Command.Take byte now) (takes Some byte now first)
      made = take-made lower plan base fits at.all (λ m. m ≡ now) [] byte now first below
          (from-here tries Called step at)

      by : (calls : List LineCall) → IsMadeBy at.all calls (takes Some byte now first) → Other
          (calls ++ calls_in at.done)
          → GiveNone calls → TriedAt tries Other (ahead step (takes Some byte now first))
      by calls is called none =
          quiet-further tries Called Other step at (takes Some byte now first) calls is called none
          (carry-free (Command.Take byte now) first tt tt)
          (carry-turned (Command.Take byte now) first (asks-at tries Called step at))
          (carry-limit (Command.Take byte now) first tt)

      go : (newer : List LineCall) → AreCallsOf {K = Kind} (Command.Take byte now) newer
          → IsMadeBy at.all (newer ++ []) (takes Some byte now first)
          → TriedAt tries Other (ahead step (takes Some byte now first))
      go newer (inl alone) is =
          by (LineCall.Take byte now ∷ [])
          (subst (λ (cs : List LineCall). IsMadeBy at.all (cs ++ []) (takes Some byte now first)) alone is)
          (called [] tt) tt
      go newer (inr dropped) is =
          by (LineCall.Cancel ∷ LineCall.Take byte now ∷ [])
          (subst (λ (cs : List LineCall). IsMadeBy at.all (cs ++ []) (takes Some byte now first)) dropped is)
          (called (LineCall.Cancel ∷ []) (tt, tt)) tt

  -- ---- the note of a try

  pub try-at :
      (tries : List ℕ) (Called : List LineCall → Type 0) (number system : ℕ) (step : CoreStep)
      → TriedAt tries Called step → step.next.drawn ≡ Some system → (Has tries system → ⊥)
      → system < step.next.numbers.next → NoneWaits tries step.next
      → TriedAt (system ∷ tries) Called (noted Some (Try number system) step)
  try-at tries Called number system step at drawn untried small none = record {
    all = Says (Try number system) ∷ at.all;
    done = Says (Try number system) ∷ at.done;
    whole = ap (λ (ds : List Doing). Says (Try number system) ∷ ds) at.whole;
    is = said-history plan base at.all step.next number system at.is;
    notes =
        ap (λ (ns : List Happening). ns ++ Try number system ∷ []) at.notes
        ∙ append_assoc (noted_in doings) step.notes (Try number system ∷ []);
    written = at.written;
    called = at.called;
    drops = at.drops;
    tried = (
      may-try plan base at.all step.next system at.is drawn
          (λ has. untried (subst (λ (ts : List ℕ). Has ts system) at.tries_are has)),
      at.tried,
    );
    tries_are = ap (λ (ts : List ℕ). system ∷ ts) at.tries_are;
    turn = tried-in-turn tries step.next system drawn small none at.turn;
    limit_is = at.limit_is;
    unended = (tt, at.unended);
  }

  -- ---- the line's turn

  pub offer-at :
      (tries : List ℕ) (Called Other : List LineCall → Type 0) (step : CoreStep) (at : TriedAt tries Called step)
      → ((newer : List LineCall) → IsOffer now newer → Other (newer ++ calls_in at.done))
      → TriedAt tries Other (offers step.next.line.phase step.next.line.held now step)
  offer-at tries Called Other step at may =
      subst (TriedAt tries Other) (sym (offer-ahead step.next.line.phase step.next.line.held now step))
      (further tries Called Other step at later (made.newer ++ []) made.at
      (subst (λ (cs : List LineCall). Other (cs ++ calls_in at.done)) (sym (append-nil made.newer))
      (may made.newer made.are))
      given (carry-turned (Command.Offer now) first (asks-at tries Called step at))
      (carry-limit (Command.Offer now) first tt))
    where
      first : CoreStep
      first = at_first step.next

      later : CoreStep
      later = offers step.next.line.phase step.next.line.held now first

      made : IsDone lower plan base fits at.all (λ m. m ≡ now) [] (Command.Offer now) later
      made =
          offer-made lower plan base fits at.all (λ m. m ≡ now) [] now first step.next.line.phase step.next.line.held
          refl
          refl (from-here tries Called step at)

      given : GoesTried plan at.all (made.at.done ++ at.all)
      given =
          offer-done plan base made.at.done at.all now
          (done-notes made.at.done at.all []
          (made.at.course.notes
          ∙ ap (λ (ns : List Happening). noted_in at.all ++ ns)
          (offer-notes step.next.line.phase step.next.line.held now first)))
          (subst (IsOffer now) (sym (made.at.called ∙ append-nil made.newer)) made.are) made.at.course.lawful at.tried
          (offer-may plan base at.all (made.at.done ++ at.all) first now at.is made.at.course.line
          (subst (λ (ts : List ℕ). AreInTurn ts step.next) (sym at.tries_are) at.turn))
