-- A step of the host up to what it has delivered: what it has done by then, and what is owed for it.
use Rattle.std.proofs.Common.{◌≡◌, refl, sym, ap, subst, ◌∙◌, ◌<◌, inl, inr, ℕ, List, [], ◌∷◌, ◌++◌, Option, Some, None}
use Rattle.block_codec.specs.declared.header.Header.{Header}
use Rattle.line_end.specs.declared.event.LineEvent.{LineEvent}
use Rattle.line_end.specs.declared.event.LineEvent.TheVariants.{Arrived, Failed, Nothing as NothingCame, Refused, Sent}
use Rattle.line_end.specs.Plan.{HostPlanFits}
use Rattle.line_end.specs.Step.{LineCall, line_step}
use Rattle.line_end.specs.declared.plan.HostPlan.{HostPlan}
use Rattle.message_flow.specs.Assembly.{flow_to, with_block}
use Rattle.message_flow.specs.declared.flow.Flow.{Flow}
use Rattle.message_flow.specs.declared.flow.Flow.TheVariants.{Part as PartOf, Whole, Duplicate, Foreign, Unexpected, TooLong, Crowded}
use Rattle.message_flow.specs.declared.message.Message.{Message}
use Rattle.trace_log.specs.Commands.{HostCommandFits}
use Rattle.trace_log.specs.declared.commands.HostCommand.{HostCommand}
use Rattle.trace_log.specs.Log.{Happening}
use Rattle.message_end.specs.Calls.{failed_as, failed_at, took_by}
use Rattle.message_end.specs.Core.{Command, EndView, Step, Went, at_first, calls, held_header, judges, step_in, takes as takes_core, takes_back, tells, with_assembly, with_end}
use Rattle.message_end.specs.Core.Command.{GiveUp, Tick, Take}
use Rattle.message_end.specs.Core.Went.{Goes, Spent}
use Rattle.message_end.specs.Doings.{Doing}
use Rattle.message_end.specs.Duties.{all_done}
use Rattle.message_end.specs.Ends.{AreBegunOf, AreOfStep, Input, MayTake, taking_calls}
use Rattle.message_end.specs.Ends.Input.{Char, Command as Told, Time}
use Rattle.message_end.specs.LineCalls.{AreCallsOf, calls_in}
use Rattle.message_end.specs.Parts.{Node, Part, after_parts, after_turn, core_after, core_step, fixed_turn, went_with, with_own}
use Rattle.message_end.proofs.CallingLine.{IsDone, take-made}
use Rattle.message_end.proofs.Limits.{carry-limit}
use Rattle.message_end.proofs.Lower.{lower}
use Rattle.message_end.proofs.Parts.{AreDueDuties, IsQuietTurn, OnEither, duties-due, either-less, either-then}
use Rattle.message_end.proofs.PartsKept.{CoreAt, NodeAt, at-due-duties, node-less}
use Rattle.message_end.proofs.Steps.{at-exactly, at-such}
use Rattle.message_end.proofs.Such.{at-tick}
use Rattle.host_node.specs.Host.{HasPlan, HostOwn, HostTurn, Kind, breaks, brings, delivers, end_plan, ends_late, given, heeds, late_duties, obeys, takes, ticks, undelivered}
use Rattle.host_node.specs.Lawful.{breaks-quiet, brings-quiet, fixed-quiet, late-due, none-quiet, obeys-quiet}
use Rattle.message_end.specs.declared.end.Took.{Took}
use Rattle.message_end.specs.declared.end.Took.TheVariants as took
use Rattle.spool_law.specs.Listing.{Owed}
use Rattle.spool_law.specs.Listing.Owed.{Nothing}
use Rattle.journal_node.specs.Journal.{listed_of}
use Rattle.journal_node.proofs.FreeNotes.{AreFreeDuties, done-keep}
use Rattle.journal_node.proofs.FreeParts.{StaysFree, breaks-free, heeds-free, late-free, obeys-free}
use Rattle.journal_node.proofs.Owing.{GiveNone, Owes, owed_of, owes-more, owes-received}

abbrev pub HostStep : Type 0
HostStep = Step (Node HostOwn Kind) Happening

module _
    (plan : HostPlan) (fits : HostPlanFits plan) (base : ℕ) (doings : List Doing) (now limit : ℕ)
    (input : Input HostCommand) where
  -- ---- the calls of the line so far, none of which gives it a block

  abbrev IsNone : List LineCall → Type 0
  IsNone made = made ≡ []

  abbrev IsTicked : List LineCall → Type 0
  IsTicked made = made ≡ LineCall.Tick now ∷ []

  pub record IsTaken (made : List LineCall) : Type 0 where
    pub of_step : AreOfStep input now made
    pub none : GiveNone made

  pub record IsBegun (made : List LineCall) : Type 0 where
    pub of_step : AreBegunOf input now made
    pub none : GiveNone made

  pub begun-taken : (made : List LineCall) → IsTaken made → IsBegun made
  begun-taken made is = record { of_step = record { later = []; whole = is.of_step }; none = is.none }

  begun-ticked : (made : List LineCall) → IsTicked made → IsBegun made
  begun-ticked made ticked = record { of_step = go input; none = subst GiveNone (sym ticked) tt }
    where
      go : (i : Input HostCommand) → AreBegunOf i now made
      go (Char byte) = record {
        later = LineCall.Take byte now ∷ [];
        whole = record {
          decided = [];
          are = ap (λ (cs : List LineCall). LineCall.Take byte now ∷ cs) ticked;
          decisions = tt;
        };
      }
      go Time = record { later = []; whole = record { decided = []; are = ticked; decisions = tt } }
      go (Told command) = record { later = []; whole = record { decided = []; are = ticked; decisions = tt } }

  taken-ticked : (made : List LineCall) → taking_calls input now ≡ LineCall.Tick now ∷ [] → IsTicked made → IsTaken made
  taken-ticked made none ticked = record {
    of_step = record { decided = []; are = ticked ∙ sym none; decisions = tt };
    none = subst GiveNone (sym ticked) tt;
  }

  -- ---- what is kept so far

  abbrev pub HostAt : (List LineCall → Type 0) → HostStep → Type 0
  HostAt Called step =
      NodeAt lower (end_plan plan) base fits.line (HasPlan plan) doings now limit Called step

  abbrev HostCoreAt : (List LineCall → Type 0) → Step (EndView Kind) Happening → Type 0
  HostCoreAt Called step =
      CoreAt {S = HostOwn} lower (end_plan plan) base fits.line (HasPlan plan) doings now limit Called step

  -- nothing was delivered yet
  record IsQuietAt (Called : List LineCall → Type 0) (step : HostStep) : Type 0 where
    node : HostAt Called step
    none : step.next.own.delivered ≡ None
    owes : Owes Nothing step.notes

  -- the input was met
  pub record IsAfter (step : HostStep) : Type 0 where
    pub node : HostAt IsTaken step
    pub owes : Owes (owed_of (listed_of step.next.own.delivered)) step.notes

  -- it has ended early
  pub record IsBroken (step : HostStep) : Type 0 where
    pub node : HostAt IsBegun step
    pub owed : Owed
    pub owes : Owes owed step.notes

  -- duties of a turn that are due and free
  turn-then :
      (Called : List LineCall → Type 0) (owed : Owed) (turn : HostTurn) (core : Step (EndView Kind) Happening)
      (P Q : HostStep → Type 0) → AreDueDuties {S = HostOwn} (end_plan plan) base (HasPlan plan) now turn.duties
      → HasPlan plan turn.own → AreFreeDuties turn.duties → HostCoreAt Called core → Owes owed core.notes
      → ((next : HostStep) → next.next.own ≡ turn.own → HostAt Called next → Owes owed next.notes → P next)
      → ((next : HostStep) → HostAt Called next → Owes owed next.notes → Q next)
      → OnEither P Q (went_with turn.own (all_done Some turn.duties core))
  turn-then Called owed turn core P Q due sound free at owes goes spent =
      go (all_done Some turn.duties core)
      (at-due-duties lower (end_plan plan) base fits.line
      (HasPlan plan) doings now limit Called turn.duties core due at)
      (done-keep (Owes owed) (owes-more owed) turn.duties core free owes)
    where
      go : (went : Went (EndView Kind) Happening) → OnEither (HostCoreAt Called) (HostCoreAt Called) went
          → Owes owed (step_in went).notes → OnEither P Q (went_with turn.own went)
      go (Goes next) is notes = goes (with_own turn.own next) refl (record { core = is; sound = sound }) notes
      go (Spent next) is notes = spent (with_own turn.own next) (record { core = is; sound = sound }) notes

  broken-less :
      {Called : List LineCall → Type 0} (owed : Owed) (step : HostStep)
      → ((made : List LineCall) → Called made → IsBegun made) → HostAt Called step → Owes owed step.notes
      → IsBroken step
  broken-less owed step less at owes = record {
    node =
        node-less lower (end_plan plan) base fits.line (HasPlan plan) doings now limit input step less at;
    owed = owed;
    owes = owes;
  }

  -- ---- the parts

  ticks-at :
      (own : HostOwn) (core : Step (EndView Kind) Happening) → HasPlan plan own → HostCoreAt IsNone core
      → Owes Nothing core.notes
      → OnEither (IsQuietAt IsTicked) IsBroken (after_turn Some (ticks now own core.next) (with_own own core))
  ticks-at own core sound at owes =
      turn-then IsTicked Nothing turn (calls (LineCall.Tick now) core) (IsQuietAt IsTicked) IsBroken
      (duties-due (end_plan plan) base (HasPlan plan) now turn.duties quiet.quiet) quiet.sound free.free
      (record {
        at =
            at-tick lower (end_plan plan) base fits.line doings (λ at. at ≡ now) IsTicked now core at.at
            (ap (λ (cs : List LineCall). LineCall.Tick now ∷ cs) at.at.called);
        limit_is = at.limit_is;
      })
      owes
      (λ next same node notes. record {
        node = node;
        none = ap (λ (o : HostOwn). o.delivered) same ∙ free.same;
        owes = notes;
      })
      (λ next node notes. broken-less Nothing next begun-ticked node notes)
    where
      turn : HostTurn
      turn = breaks (undelivered own) (core_after (Tick now) core.next) (failed_at core.next now)

      quiet : IsQuietTurn (end_plan plan) base (HasPlan plan) turn
      quiet = breaks-quiet plan base (undelivered own) (core_after (Tick now) core.next) (failed_at core.next now) sound

      free : StaysFree (undelivered own) turn
      free = breaks-free (undelivered own) (core_after (Tick now) core.next) (failed_at core.next now)

  late-at :
      (step : HostStep) → IsQuietAt IsTicked step
      → OnEither (IsQuietAt IsTicked) IsBroken
      (after_turn Some (ends_late now step.next.own step.next.core) step)
  late-at step at =
      turn-then IsTicked Nothing (record { own = step.next.own; duties = late_duties now }) (core_step step)
      (IsQuietAt IsTicked) IsBroken (late-due plan base now) at.node.sound (late-free now) at.node.core at.owes
      (λ next same node notes. record {
        node = node;
        none = ap (λ (o : HostOwn). o.delivered) same ∙ at.none;
        owes = notes;
      })
      (λ next node notes. broken-less Nothing next begun-ticked node notes)

  -- nothing was delivered
  after-none :
      (next : HostStep) → next.next.own.delivered ≡ None → HostAt IsTaken next → Owes Nothing next.notes → IsAfter next
  after-none next none node notes = record {
    node = node;
    owes = subst (λ (d : Option Message). Owes (owed_of (listed_of d)) next.notes) (sym none) notes;
  }

  -- a turn behind the input that leaves what was delivered
  turn-none :
      (own : HostOwn) (turn : HostTurn) (core : Step (EndView Kind) Happening) → own.delivered ≡ None
      → turn.own.delivered ≡ own.delivered
      → AreDueDuties {S = HostOwn} (end_plan plan) base (HasPlan plan) now turn.duties → HasPlan plan turn.own
      → AreFreeDuties turn.duties → HostCoreAt IsTaken core → Owes Nothing core.notes
      → OnEither IsAfter IsBroken (went_with turn.own (all_done Some turn.duties core))
  turn-none own turn core none same due sound free at owes =
      turn-then IsTaken Nothing turn core IsAfter IsBroken due sound free at owes
      (λ next is node notes.
      after-none next (ap (λ (o : HostOwn). o.delivered) is ∙ same ∙ none) node notes)
      (λ next node notes. broken-less Nothing next begun-taken node notes)

  -- what a character has brought
  module _ (own : HostOwn) (behind : EndView Kind) (core called : Step (EndView Kind) Happening)
      (sound : HasPlan plan own) (none : own.delivered ≡ None) (owes : Owes Nothing called.notes) where
    abbrev Brings : Took → Step (EndView Kind) Happening → Type 0
    Brings brought next =
        OnEither IsAfter IsBroken
        (went_with (brings own behind brought).own (all_done Some (brings own behind brought).duties next))

    -- a turn of these commands, by what was brought
    quiet-of : (brought : Took) → AreDueDuties {S = HostOwn} (end_plan plan) base (HasPlan plan) now
        (brings own behind brought).duties
    quiet-of brought =
        duties-due (end_plan plan) base (HasPlan plan) now (brings own behind brought).duties
        (brings-quiet plan base own behind brought sound).quiet

    sound-of : (brought : Took) → HasPlan plan (brings own behind brought).own
    sound-of brought = (brings-quiet plan base own behind brought sound).sound

    nothing-brought : (next : Step (EndView Kind) Happening) → HostCoreAt IsTaken next → Owes Nothing next.notes
        → Brings took.Nothing next
    nothing-brought next at so =
        turn-none own (fixed_turn own []) next none refl (quiet-of took.Nothing) sound ((λ e. tt), tt) at so

    failed-brought : (header : Option Header) → HostCoreAt IsTaken called → Brings (failed_as header) called
    failed-brought None at = nothing-brought called at owes
    failed-brought (Some header) at =
        let free = breaks-free own behind (Some header) in
        turn-none own (breaks own behind (Some header)) called none free.same (quiet-of (took.Failed header))
        (sound-of (took.Failed header)) free.free at owes

    -- a block that is no whole message
    given-up : (header : Header) (came : Flow) (next : Step (EndView Kind) Happening)
        → brings own behind (took.Came header came) ≡ fixed_turn own (GiveUp header ∷ []) → HostCoreAt IsTaken next
        → Owes Nothing next.notes
        → OnEither IsAfter IsBroken
        (went_with own (all_done Some ((λ e. GiveUp header ∷ []) ∷ []) next))
    given-up header came next is at so =
        turn-none own (fixed_turn own (GiveUp header ∷ [])) next none refl
        (subst (λ (t : HostTurn). AreDueDuties {S = HostOwn} (end_plan plan) base (HasPlan plan) now t.duties) is
        (quiet-of (took.Came header came)))
        sound ((λ e. (tt, tt)), tt) at so

    left-alone : (header : Header) (came : Flow) (next : Step (EndView Kind) Happening)
        → brings own behind (took.Came header came) ≡ fixed_turn own [] → HostCoreAt IsTaken next
        → Owes Nothing next.notes
        → OnEither IsAfter IsBroken (went_with own (all_done Some ((λ e. []) ∷ []) next))
    left-alone header came next is at so =
        turn-none own (fixed_turn own []) next none refl
        (subst (λ (t : HostTurn). AreDueDuties {S = HostOwn} (end_plan plan) base (HasPlan plan) now t.duties) is
        (quiet-of (took.Came header came)))
        sound ((λ e. tt), tt) at so

    came-brought :
        (header : Header) (came : Flow) (before : Step (EndView Kind) Happening) → before.notes ≡ called.notes
        → HostCoreAt IsTaken (judges Some header came before)
        → Brings (took.Came header came) (judges Some header came before)
    came-brought header came before same at = go came at
      where
        notes : Owes Nothing before.notes
        notes = subst (Owes Nothing) (sym same) owes

        go : (came : Flow) → HostCoreAt IsTaken (judges Some header came before)
            → Brings (took.Came header came) (judges Some header came before)
        go (Whole message check) at =
            let free = heeds-free own behind header message in
            turn-then IsTaken (owed_of (listed_of (Some message)))
            (delivers message (heeds own behind header message)) (judges Some header (Whole message check) before)
            IsAfter IsBroken (quiet-of (took.Came header (Whole message check)))
            (sound-of (took.Came header (Whole message check))) free.free at
            (owes-received before.notes message notes)
            (λ next is node so. record {
              node = node;
              owes =
                  subst (λ (d : Option Message). Owes (owed_of (listed_of d)) next.notes)
                  (sym (ap (λ (o : HostOwn). o.delivered) is)) so;
            })
            (λ next node so. broken-less (owed_of (listed_of (Some message))) next begun-taken node so)
        go PartOf at = left-alone header PartOf (judges Some header PartOf before) refl at notes
        go Duplicate at =
            left-alone header Duplicate (judges Some header Duplicate before) refl at
            (owes-more Nothing before.notes (Happening.Duplicate header) tt notes)
        go (Foreign address) at =
            left-alone header (Foreign address) (judges Some header (Foreign address) before) refl at
            (owes-more Nothing before.notes (Happening.Foreign header) tt notes)
        go Unexpected at =
            given-up header Unexpected (judges Some header Unexpected before) refl at
            (owes-more Nothing before.notes (Happening.Unexpected header) tt notes)
        go TooLong at =
            given-up header TooLong (judges Some header TooLong before) refl at
            (owes-more Nothing before.notes (Happening.TooLongBlock header) tt notes)
        go Crowded at =
            given-up header Crowded (judges Some header Crowded before) refl at
            (owes-more Nothing before.notes (Happening.Crowded header) tt notes)

  -- a character
  char-at :
      (byte : ℕ) (step : HostStep) → input ≡ Char byte → byte < 256 → IsQuietAt IsTicked step
      → OnEither IsAfter IsBroken (after_turn Some (takes byte now step.next.own step.next.core) step)
  char-at byte step char below at = go (line_step core.next.line (LineCall.Take byte now)).event taken_at
    where
      own : HostOwn
      own = step.next.own

      core : Step (EndView Kind) Happening
      core = core_step step

      called : Step (EndView Kind) Happening
      called = calls (LineCall.Take byte now) core

      behind : EndView Kind
      behind = core_after (Take byte now) core.next

      made : List LineCall
      made = calls_in at.node.core.at.done

      taking : taking_calls input now ≡ LineCall.Take byte now ∷ LineCall.Tick now ∷ []
      taking = ap (λ (i : Input HostCommand). taking_calls i now) char

      alone : IsTaken (LineCall.Take byte now ∷ LineCall.Tick now ∷ [])
      alone = record { of_step = record { decided = []; are = sym taking; decisions = tt }; none = tt }

      cancelled : IsTaken (LineCall.Cancel ∷ LineCall.Take byte now ∷ LineCall.Tick now ∷ [])
      cancelled = record {
        of_step = record {
          decided = LineCall.Cancel ∷ [];
          are = ap (λ (cs : List LineCall). LineCall.Cancel ∷ cs) (sym taking);
          decisions = (tt, tt);
        };
        none = tt;
      }

      taken : IsDone lower (end_plan plan) base fits.line doings (λ at. at ≡ now) made (Command.Take byte now)
          (takes_core Some byte now core)
      taken =
          take-made lower (end_plan plan) base fits.line doings (λ at. at ≡ now) made byte now core below
          (at-exactly core at.node.core.at)

      are-taken : (newer : List LineCall) → AreCallsOf {K = Kind} (Command.Take byte now) newer
          → IsTaken (newer ++ made)
      are-taken newer (inl one) =
          subst (λ (cs : List LineCall). IsTaken (cs ++ made)) (sym one)
          (subst (λ (cs : List LineCall). IsTaken (LineCall.Take byte now ∷ cs)) (sym at.node.core.at.called) alone)
      are-taken newer (inr two) =
          subst (λ (cs : List LineCall). IsTaken (cs ++ made)) (sym two)
          (subst (λ (cs : List LineCall). IsTaken (LineCall.Cancel ∷ LineCall.Take byte now ∷ cs))
          (sym at.node.core.at.called) cancelled)

      taken_at : HostCoreAt IsTaken (takes_core Some byte now core)
      taken_at = record {
        at = at-such IsTaken _ _ (are-taken taken.newer taken.are) taken.at;
        limit_is = carry-limit (Command.Take byte now) core tt ∙ at.node.core.limit_is;
      }

      go : (event : LineEvent)
          → HostCoreAt IsTaken (tells Some (held_header core.next.line.held) event now called)
          → Brings own behind core called at.node.sound at.none at.owes (took_by core.next event)
          (tells Some (held_header core.next.line.held) event now called)
      go (Arrived block) so =
          came-brought own behind core called at.node.sound at.none at.owes block.header
          (flow_to core.next.assembly block)
          (with_end (takes_back block.header now (with_assembly
          (with_block called.next.assembly block now) called.next))
          called)
          refl so
      go Sent so =
          nothing-brought own behind core called at.node.sound at.none at.owes
          (tells Some (held_header core.next.line.held) Sent now called) so at.owes
      go NothingCame so = nothing-brought own behind core called at.node.sound at.none at.owes called so at.owes
      go Failed so =
          failed-brought own behind core called at.node.sound at.none at.owes (held_header core.next.line.held) so
      go (Refused cause) so =
          nothing-brought own behind core called at.node.sound at.none at.owes called so at.owes

  -- without one the calls are those of the timer
  as-taken : (step : HostStep) → taking_calls input now ≡ LineCall.Tick now ∷ [] → IsQuietAt IsTicked step
      → HostCoreAt IsTaken (core_step step)
  as-taken step none at =
      (node-less lower (end_plan plan) base fits.line (HasPlan plan) doings now limit input step
      (λ made ticked. taken-ticked made none ticked) at.node).core

  given-at :
      (i : Input HostCommand) (step : HostStep) → input ≡ i → MayTake HostCommandFits i → IsQuietAt IsTicked step
      → OnEither IsAfter IsBroken (after_turn Some (given i now step.next.own step.next.core) step)
  given-at (Char byte) step is may at = char-at byte step is may at
  given-at Time step is may at =
      turn-none step.next.own (fixed_turn step.next.own []) (core_step step) at.none refl
      (duties-due (end_plan plan) base (HasPlan plan) now (fixed_turn step.next.own []).duties
      (fixed-quiet plan base step.next.own [] at.node.sound none-quiet).quiet)
      at.node.sound ((λ e. tt), tt)
      (as-taken step (ap (λ (i : Input HostCommand). taking_calls i now) is) at) at.owes
  given-at (Told command) step is may at =
      let quiet = obeys-quiet plan base command step.next.own step.next.core fits at.node.sound may in
      let free = obeys-free command step.next.own step.next.core in
      turn-none step.next.own (obeys command step.next.own step.next.core) (core_step step) at.none free.same
      (duties-due (end_plan plan) base (HasPlan plan) now (obeys command step.next.own step.next.core).duties
      quiet.quiet)
      quiet.sound free.free (as-taken step (ap (λ (i : Input HostCommand). taking_calls i now) is) at) at.owes

  -- ---- all up to the input, and what comes behind it

  pub first-then :
      (rest : List (Part HostOwn Kind)) (node : Node HostOwn Kind) (P Q : HostStep → Type 0)
      → MayTake HostCommandFits input → HostAt IsNone (at_first node)
      → ((step : HostStep) → IsAfter step → OnEither P Q (after_parts Some rest step))
      → ((step : HostStep) → IsBroken step → Q step)
      → OnEither P Q
      (after_parts Some (ticks now ∷ ends_late now ∷ given input now ∷ rest) (at_first node))
  first-then rest node P Q may is more broken =
      either-then (IsQuietAt IsTicked) Q P
      (after_turn Some (ticks now node.own node.core) (at_first node))
      (after_parts Some (ends_late now ∷ given input now ∷ rest))
      (either-less (IsQuietAt IsTicked) IsBroken (IsQuietAt IsTicked) Q
      (after_turn Some (ticks now node.own node.core) (at_first node))
      (ticks-at node.own (core_step (at_first node)) is.sound is.core (record { keep = tt; is = refl }))
      (λ step at. at) broken)
      (λ step at.
      either-then (IsQuietAt IsTicked) Q P (after_turn Some (ends_late now step.next.own step.next.core) step)
      (after_parts Some (given input now ∷ rest))
      (either-less (IsQuietAt IsTicked) IsBroken (IsQuietAt IsTicked) Q
      (after_turn Some (ends_late now step.next.own step.next.core) step) (late-at step at) (λ last so. so) broken)
      (λ last so.
      either-then IsAfter Q P (after_turn Some (given input now last.next.own last.next.core) last)
      (after_parts Some rest)
      (either-less IsAfter IsBroken IsAfter Q (after_turn Some (given input now last.next.own last.next.core) last)
      (given-at input last refl may so) (λ end ended. ended) broken)
      more))
