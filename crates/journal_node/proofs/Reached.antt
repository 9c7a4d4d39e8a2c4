-- What a step has done up to some place, as a history: what was listed in it, and what is owed.
use Rattle.std.proofs.Common.{◌≡◌, refl, sym, ap, subst, ◌∙◌, ℕ, List, [], ◌∷◌, ◌++◌, append-nil, append_assoc, Option, Some, None}
use Rattle.std.proofs.lemmas.List.{append_cancel_left}
use Rattle.block_codec.specs.Block.{BlockView}
use Rattle.line_end.specs.declared.event.Phase.{Phase}
use Rattle.line_end.specs.declared.event.Phase.TheVariants.{AwaitAck, AwaitEot, AwaitLength, Gathering, Idle, Settling}
use Rattle.line_end.specs.Plan.{HostPlanFits}
use Rattle.line_end.specs.Step.{LineCall}
use Rattle.line_end.specs.declared.plan.HostPlan.{HostPlan}
use Rattle.message_flow.specs.Outgoing.{next_block_of, next_turn}
use Rattle.trace_log.specs.declared.commands.HostCommand.{HostCommand}
use Rattle.trace_log.specs.Log.{Happening}
use Rattle.message_end.specs.Core.{Command, EndView, MayNote, Step, at_first, gives, noted, offers, with_end, with_outgoing}
use Rattle.message_end.specs.Doings.{Doing, own_of}
use Rattle.message_end.specs.Doings.Doing.{Says}
use Rattle.message_end.specs.Drops.{AreDroppedAt}
use Rattle.message_end.specs.Ends.{AreDecidedAt, AreOfStep, Input}
use Rattle.message_end.specs.History.{IsHistoryOf, noted_in, written_in}
use Rattle.message_end.specs.InStep.{HasNoEnd}
use Rattle.message_end.specs.LineCalls.{IsOffer, calls_in}
use Rattle.message_end.specs.Parts.{core_step, with_own}
use Rattle.message_end.proofs.CallingLine.{IsDone, offer-made}
use Rattle.message_end.proofs.Courses.{in-turn}
use Rattle.message_end.proofs.Fronts.{calls-behind, noted-behind}
use Rattle.message_end.proofs.InSteps.{none-both, quiet-note, steps-said}
use Rattle.message_end.proofs.Limits.{carry-limit}
use Rattle.message_end.proofs.Lower.{lower}
use Rattle.message_end.proofs.Steps.{Exactly, IsAt}
use Rattle.host_node.specs.Host.{HasPlan, Kind, end_plan}
use Rattle.spool_law.specs.Listing.{Owed, owed_behind, owed_in}
use Rattle.spool_law.specs.Listing.Owed.{Nothing}
use Rattle.journal_node.specs.Law.{AreListed, MayDoOwing}
use Rattle.journal_node.proofs.HostHalves.{HostAt, HostStep, IsTaken}
use Rattle.journal_node.proofs.Owing.{GiveNone, KeepOwed, Owes, listed-done, owed-done, owed_over, silent-done}

-- the calls of an offer are decisions
offer-decided : (now : ℕ) (calls : List LineCall) → IsOffer now calls → AreDecidedAt now calls
offer-decided now [] is = tt
offer-decided now (LineCall.Resume at ∷ []) is = (is, tt)
offer-decided now (LineCall.Send block at ∷ []) is = (is, tt)
offer-decided now (LineCall.Resume at ∷ (call ∷ calls)) is = absurd is
offer-decided now (LineCall.Send block at ∷ (call ∷ calls)) is = absurd is
offer-decided now (LineCall.Cancel ∷ calls) is = absurd is
offer-decided now (LineCall.Take byte at ∷ calls) is = absurd is
offer-decided now (LineCall.Tick at ∷ calls) is = absurd is

decided-both : (now : ℕ) (one two : List LineCall) → AreDecidedAt now one → AreDecidedAt now two
    → AreDecidedAt now (one ++ two)
decided-both now [] two first second = second
decided-both now (call ∷ one) two first second = (first.0, decided-both now one two first.1 second)

dropped-both : (now : ℕ) (one two : List Doing) → AreDroppedAt now one → AreDroppedAt now two
    → AreDroppedAt now (one ++ two)
dropped-both now [] two first second = second
dropped-both now (Doing.Does own ∷ one) two first second = (first.0, dropped-both now one two first.1 second)
dropped-both now (Doing.Gives place number block at ∷ one) two first second = dropped-both now one two first second
dropped-both now (Doing.Calls call ∷ one) two first second = dropped-both now one two first second
dropped-both now (Says what ∷ one) two first second = dropped-both now one two first second

-- an offer notes nothing, and is the same whatever was noted and written before
abbrev pub CoreStep : Type 0
CoreStep = Step (EndView Kind) Happening

pub record IsBehind (step from to : CoreStep) : Type 0 where
  pub next : to.next ≡ from.next
  pub silent : from.notes ≡ []
  pub notes : to.notes ≡ step.notes
  pub written : to.written ≡ step.written ++ from.written

same-behind : (step : CoreStep) → IsBehind step (at_first step.next) step
same-behind step =
    record { next = refl; silent = refl; notes = refl; written = sym (append-nil step.written) }

gives-behind : (block : Option BlockView) (now : ℕ) (step : CoreStep)
    → IsBehind step (gives block now (at_first step.next)) (gives block now step)
gives-behind None now step = same-behind step
gives-behind (Some block) now step = record { next = refl; silent = refl; notes = refl; written = refl }

pub offers-behind : (phase : Phase) (held : Option BlockView) (now : ℕ) (step : CoreStep)
    → IsBehind step (offers phase held now (at_first step.next)) (offers phase held now step)
offers-behind Idle (Some held) now step = record { next = refl; silent = refl; notes = refl; written = refl }
offers-behind Idle None now step =
    let out = step.next.outgoing in
    let is =
    gives-behind (next_block_of out.side out.device out.waiting).0 now
    (with_end (with_outgoing (next_turn out) step.next) step) in
    record { next = is.next; silent = is.silent; notes = is.notes; written = is.written }
offers-behind AwaitEot held now step = same-behind step
offers-behind AwaitAck held now step = same-behind step
offers-behind AwaitLength held now step = same-behind step
offers-behind Gathering held now step = same-behind step
offers-behind Settling held now step = same-behind step

module _
    (plan : HostPlan) (fits : HostPlanFits plan) (base : ℕ) (doings : List Doing) (now limit : ℕ)
    (input : Input HostCommand) where
  -- these doings more have led here
  pub record Reached (done : List Doing) (owed : Owed) (Called : List LineCall → Type 0) (step : HostStep) : Type 0
    where
      pub history : IsHistoryOf {K = Kind} (end_plan plan) base (done ++ doings) step.next.core
      pub plan_is : HasPlan plan step.next.own
      pub limit_is : step.next.core.numbers.end ≡ limit
      pub listed : AreListed (done ++ doings)
      pub owes : owed_in (done ++ doings) ≡ owed
      pub notes : noted_in (done ++ doings) ≡ noted_in doings ++ step.notes
      pub written : written_in (end_plan plan) (done ++ doings) ≡ written_in (end_plan plan) doings ++ step.written
      pub called : Called (calls_in done)
      pub drops : AreDroppedAt now done
      pub unended : HasNoEnd done

  pub reached-less :
      {Called Other : List LineCall → Type 0} (done : List Doing) (owed : Owed) (step : HostStep)
      → ((made : List LineCall) → Called made → Other made) → Reached done owed Called step
      → Reached done owed Other step
  reached-less done owed step less is = record {
    history = is.history;
    plan_is = is.plan_is;
    limit_is = is.limit_is;
    listed = is.listed;
    owes = is.owes;
    notes = is.notes;
    written = is.written;
    called = less (calls_in done) is.called;
    drops = is.drops;
    unended = is.unended;
  }

  -- up to where no block was given to the line
  pub reach :
      (owed : Owed) (Called : List LineCall → Type 0) (step : HostStep)
      → ((made : List LineCall) → Called made → GiveNone made) → owed_in doings ≡ Nothing → AreListed doings
      → (at : HostAt plan fits base doings now limit input Called step) → Owes owed step.notes
      → Reached at.core.at.done owed Called step
  reach owed Called step gives none listed at so = record {
    history = record {
      lawful = at.core.at.course.lawful;
      received = at.core.at.received;
      line = at.core.at.course.line;
      core = at.core.at.core;
      steps = at.core.at.steps;
    };
    plan_is = at.sound;
    limit_is = at.core.limit_is;
    listed =
        listed-done done doings (gives (calls_in done) at.core.at.called)
        (subst (λ (ns : List Happening). KeepOwed ns (owed_in doings)) (sym noted_is)
        (subst (λ (o : Owed). KeepOwed step.notes o) (sym none) so.keep))
        listed;
    owes =
        owed-done done doings ∙ ap (λ (ns : List Happening). owed_over ns (owed_in doings)) noted_is
        ∙ ap (λ (o : Owed). owed_over step.notes o) none ∙ so.is;
    notes = at.core.at.course.notes;
    written = at.core.at.course.written;
    called = at.core.at.called;
    drops = at.core.at.drops;
    unended = at.core.at.unended;
  }
    where
      done : List Doing
      done = at.core.at.done

      noted_is : noted_in done ≡ step.notes
      noted_is =
          append_cancel_left (noted_in doings) (noted_in done) step.notes
          (sym (noted-behind done doings) ∙ at.core.at.course.notes)

  -- with one note more
  pub reach-said :
      (done : List Doing) (owed : Owed) (Called : List LineCall → Type 0) (step : HostStep) (what : Happening)
      → MayNote what → MayDoOwing owed (Says what) → Reached done owed Called step
      → Reached (Says what ∷ done) (owed_behind what owed) Called (noted Some what step)
  reach-said done owed Called step what may owing is = record {
    history = record {
      lawful = (
        (
          in-turn (own_of (end_plan plan) (done ++ doings)) (Says what) is.history.received,
          (quiet-note what may).plain,
        ),
        is.history.lawful,
      );
      received = is.history.received;
      line = is.history.line;
      core = is.history.core;
      steps = steps-said (end_plan plan) (done ++ doings) step.next.core.asked what may is.history.steps;
    };
    plan_is = is.plan_is;
    limit_is = is.limit_is;
    listed = (subst (λ (o : Owed). MayDoOwing o (Says what)) (sym is.owes) owing, is.listed);
    owes = ap (λ (o : Owed). owed_behind what o) is.owes;
    notes =
        ap (λ (ns : List Happening). ns ++ what ∷ []) is.notes
        ∙ append_assoc (noted_in doings) step.notes (what ∷ []);
    written = is.written;
    called = is.called;
    drops = is.drops;
    unended = ((quiet-note what may).no_end, is.unended);
  }

  -- and with the turn of the line, where nothing is owed
  pub reach-offered :
      (done : List Doing) (step : HostStep) → Reached done Nothing (IsTaken plan fits base doings now limit input) step
      → (more : List Doing)
      × Reached (more ++ done) Nothing (AreOfStep input now)
      (with_own step.next.own
      (offers step.next.core.line.phase step.next.core.line.held now (core_step step)))
  reach-offered done step is = (
    more,
    record {
      history = subst (λ (ds : List Doing). IsHistoryOf {K = Kind} (end_plan plan) base ds to.next) whole
          (subst (λ (e : EndView Kind). IsHistoryOf {K = Kind} (end_plan plan) base (more ++ (done ++ doings)) e)
          (sym behind.next)
          (record {
            lawful = made.at.course.lawful;
            received = made.at.received;
            line = made.at.course.line;
            core = made.at.core;
            steps = made.at.steps;
          }));
      plan_is = is.plan_is;
      limit_is = carry-limit (Command.Offer now) (core_step step) tt ∙ is.limit_is;
      listed = subst AreListed whole (silent-done more (done ++ doings) silent is.owes is.listed);
      owes =
          subst (λ (ds : List Doing). owed_in ds ≡ Nothing) whole
          (owed-done more (done ++ doings) ∙ ap (λ (ns : List Happening). owed_over ns (owed_in (done
          ++ doings))) silent
          ∙ is.owes);
      notes =
          subst (λ (ds : List Doing). noted_in ds ≡ noted_in doings ++ to.notes) whole
          (made.at.course.notes ∙ ap (λ (ns : List Happening). noted_in (done ++ doings) ++ ns) behind.silent
          ∙ append-nil (noted_in (done ++ doings)) ∙ is.notes
          ∙ ap (λ (ns : List Happening). noted_in doings ++ ns) (sym behind.notes));
      written =
          subst
          (λ (ds : List Doing).
          written_in (end_plan plan) ds ≡ written_in (end_plan plan) doings ++ to.written) whole
          (made.at.course.written ∙ ap (λ (bs : List ℕ). bs ++ from.written) is.written
          ∙ append_assoc (written_in (end_plan plan) doings) step.written from.written
          ∙ ap (λ (bs : List ℕ). written_in (end_plan plan) doings ++ bs) (sym behind.written));
      called =
          subst (AreOfStep input now) (sym (calls-behind more done))
          (record {
            decided = calls_in more ++ is.called.of_step.decided;
            are =
                ap (λ (cs : List LineCall). calls_in more ++ cs) is.called.of_step.are
                ∙ sym (append_assoc (calls_in more) is.called.of_step.decided _);
            decisions =
                decided-both now (calls_in more) is.called.of_step.decided
                (offer-decided now (calls_in more) (subst (IsOffer now) (sym calls_are) made.are))
                is.called.of_step.decisions;
          });
      drops = dropped-both now more done made.at.drops is.drops;
      unended = none-both more done made.at.unended is.unended;
    },
  )
    where
      from : CoreStep
      from = offers step.next.core.line.phase step.next.core.line.held now (at_first step.next.core)

      to : CoreStep
      to = offers step.next.core.line.phase step.next.core.line.held now (core_step step)

      behind : IsBehind (core_step step) from to
      behind = offers-behind step.next.core.line.phase step.next.core.line.held now (core_step step)

      begun : IsAt (end_plan plan) base (done ++ doings) (λ at. at ≡ now) (Exactly []) (at_first step.next.core)
      begun = record {
        done = [];
        called = refl;
        drops = tt;
        course = record {
          lawful = is.history.lawful;
          line = is.history.line;
          notes = sym (append-nil (noted_in (done ++ doings)));
          written = sym (append-nil (written_in (end_plan plan) (done ++ doings)));
        };
        received = is.history.received;
        core = is.history.core;
        steps = is.history.steps;
        unended = tt;
      }

      made : IsDone lower (end_plan plan) base fits.line (done ++ doings) (λ at. at ≡ now) [] (Command.Offer now) from
      made =
          offer-made lower (end_plan plan) base fits.line (done ++ doings) (λ at. at ≡ now) [] now
          (at_first step.next.core) step.next.core.line.phase step.next.core.line.held refl refl begun

      more : List Doing
      more = made.at.done

      calls_are : calls_in more ≡ made.newer
      calls_are = made.at.called ∙ append-nil made.newer

      silent : noted_in more ≡ []
      silent =
          append_cancel_left (noted_in (done ++ doings)) (noted_in more) []
          (sym (noted-behind more (done ++ doings)) ∙ made.at.course.notes
          ∙ ap (λ (ns : List Happening). noted_in (done ++ doings) ++ ns) behind.silent)

      whole : more ++ (done ++ doings) ≡ (more ++ done) ++ doings
      whole = sym (append_assoc more done doings)
