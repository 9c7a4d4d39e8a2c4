-- A step of the host with its journal does what its law asks for.
use Rattle.std.proofs.Common.{◌≡◌, refl, sym, ap, subst, ◌∙◌, arith, ◌+◌, Bool, true, false, ℕ, List, [], ◌∷◌, ◌++◌, append-nil, append_assoc, Option, Some, None, if◌then◌else◌}
use Rattle.std.proofs.lemmas.Bool.Decides.{nat_tests}
use Rattle.std.proofs.lemmas.List.{append_cancel_left}
use Rattle.host_journal.specs.declared.listing.Fit.{Fit}
use Rattle.host_journal.specs.declared.listing.Fit.TheVariants as fit
use Rattle.line_end.specs.Plan.{HostPlanFits}
use Rattle.line_end.specs.Step.{LineCall}
use Rattle.line_end.specs.declared.plan.HostPlan.{HostPlan}
use Rattle.gem_spool.specs.Standing.{Standing}
use Rattle.spool_file.specs.File.{SpoolFile}
use Rattle.trace_log.specs.Commands.{HostCommandFits}
use Rattle.trace_log.specs.declared.commands.HostCommand.{HostCommand}
use Rattle.trace_log.specs.Log.{Happening}
use Rattle.trace_log.specs.Log.Happening.{Listed, Listing, StepEnded}
use Rattle.trace_log.specs.Names.{Record}
use Rattle.message_end.specs.Core.{EndView, Went, and_then, at_first, carried, noted, offers, step_in, with_numbers}
use Rattle.transact.specs.Numbers.{with_more as more_numbers}
use Rattle.message_end.specs.Core.Went.{Goes, Spent}
use Rattle.message_end.specs.Doings.{Doing}
use Rattle.message_end.specs.Doings.Doing.{Says}
use Rattle.message_end.specs.Duties.{all_done}
use Rattle.message_end.specs.Ends.{AreBegunOf, AreOfStep, DoesMore, DoesStep, Input, MayTake}
use Rattle.message_end.specs.History.{IsHistoryOf, noted_in, written_in}
use Rattle.message_end.specs.InStep.{EndsOnce, HasNoEnd, NoneEnds}
use Rattle.message_end.specs.Parts.{Did, Node, after_parts, closes, core_step, went_with, with_own}
use Rattle.message_end.proofs.Fronts.{noted-behind}
use Rattle.message_end.proofs.InSteps.{history-ends, none-noted}
use Rattle.message_end.proofs.Lower.{lower}
use Rattle.message_end.proofs.NodeLawful.{begins-at}
use Rattle.message_end.proofs.NumbersKept.{numbers-more, spare-more}
use Rattle.message_end.proofs.Parts.{OnEither}
use Rattle.message_end.proofs.PartsKept.{begun-none, step_ended}
use Rattle.host_node.specs.Host.{HasPlan, HostOwn, Kind, end_plan, offers as offer_part}
use Rattle.spool_law.specs.Listing.{Owed, owed_in}
use Rattle.spool_law.specs.Listing.Owed.{Nothing, ToHaveListed, ToList}
use Rattle.journal_node.specs.Journal.{JournalView, act, acts_on, file_behind, fit_of, is_marked_out, listed_by, listed_of, listing_commands, listing_parts, lists, needs_numbers, noted_by, noted_on, parts, reserved, reserving, standing_in, went_with_file, with_file}
use Rattle.journal_node.specs.Law.{AreListed, DidOf}
use Rattle.journal_node.proofs.HostHalves.{HostStep, IsBegun, IsTaken, begun-taken, first-then}
use Rattle.journal_node.proofs.Owing.{owed_of}
use Rattle.journal_node.proofs.Reached.{Reached, reach, reach-offered, reach-said, reached-less}

module _
    (plan : HostPlan) (fits : HostPlanFits plan) (base : ℕ) (doings : List Doing) (now limit : ℕ)
    (input : Input HostCommand) where
  abbrev At : List Doing → Owed → (List LineCall → Type 0) → HostStep → Type 0
  At = Reached plan fits base doings now limit input

  -- all of a step, with its end; and what was done until it ended early
  pub record IsWhole (step : HostStep) : Type 0 where
    pub before : HostStep
    pub done : List Doing
    pub at : At done Nothing (AreOfStep input now) before
    pub is : step ≡ step_ended before

  pub record IsPart (step : HostStep) : Type 0 where
    pub done : List Doing
    pub owed : Owed
    pub at : At done owed (AreBegunOf input now) step

  as-part : (done : List Doing) (owed : Owed) (step : HostStep)
      → At done owed (IsBegun plan fits base doings now limit input) step → IsPart step
  as-part done owed step at = record {
    done = done;
    owed = owed;
    at =
        reached-less plan fits base doings now limit input done owed step (λ made is. is.of_step) at;
  }

  -- the line has its turn, and the step ends
  ended-at :
      (done : List Doing) (step : HostStep) → At done Nothing (IsTaken plan fits base doings now limit input) step
      → OnEither IsWhole IsPart (after_parts Some (offer_part now ∷ closes ∷ []) step)
  ended-at done step at =
      let offered = reach-offered plan fits base doings now limit input done step at in
      record {
        before =
            with_own step.next.own
            (offers step.next.core.line.phase step.next.core.line.held now (core_step step));
        done = offered.0 ++ done;
        at = offered.1;
        is = refl;
      }

  -- what was delivered is listed before that
  listed-at :
      (st : Standing) (done : List Doing) (step : HostStep) (listed : Option Record)
      → At done (owed_of listed) (IsTaken plan fits base doings now limit input) step
      → OnEither IsWhole IsPart
      (and_then
      (went_with step.next.own (and_then (carried Some (listing_commands st listed) (core_step step))
      (all_done Some [])))
      (after_parts Some (offer_part now ∷ closes ∷ [])))
  listed-at st done step None at = ended-at done step at
  listed-at st done step (Some listed) at = go (fit_of st listed)
    where
      broken : IsPart step
      broken =
          as-part done (ToList listed) step
          (reached-less plan fits base doings now limit input done (ToList listed) step
          (begun-taken plan fits base doings now limit input) at)

      go : (f : Fit)
          → OnEither IsWhole IsPart
          (and_then
          (went_with step.next.own (and_then (carried Some (listed_by f st.next listed) (core_step step))
          (all_done Some [])))
          (after_parts Some (offer_part now ∷ closes ∷ [])))
      go fit.Fits =
          let Taken = IsTaken plan fits base doings now limit input in
          let one =
          reach-said plan fits base doings now limit input done (ToList listed) Taken step (Listing st.next listed) tt
          refl at in
          let two =
          reach-said plan fits base doings now limit input (Says (Listing st.next listed) ∷ done)
          (ToHaveListed st.next listed) Taken (noted Some (Listing st.next listed) step) (Listed st.next listed) tt refl
          one in
          ended-at (Says (Listed st.next listed) ∷ (Says (Listing st.next listed) ∷ done))
          (noted Some (Listed st.next listed) (noted Some (Listing st.next listed) step)) two
      go fit.Full = broken
      go fit.NumbersSpent = broken

  -- the whole step of the node
  pub parts-do :
      (st : Standing) (node : Node HostOwn Kind) → Did (HasPlan plan) (end_plan plan) base doings node
      → node.core.numbers.end ≡ limit → AreListed doings → owed_in doings ≡ Nothing → MayTake HostCommandFits input
      → OnEither IsWhole IsPart (after_parts Some (parts st input now) (at_first node))
  parts-do st node did limit_is listed none may =
      first-then plan fits base doings now limit input (lists st ∷ offer_part now ∷ closes ∷ []) node IsWhole IsPart may
      (let at = begins-at lower (end_plan plan) base fits.line (HasPlan plan) doings now node did in
      record { core = record { at = at.core.at; limit_is = at.core.limit_is ∙ limit_is }; sound = at.sound })
      (λ step after.
      listed-at st after.node.core.at.done step (listed_of step.next.own.delivered)
      (reach plan fits base doings now limit input (owed_of (listed_of step.next.own.delivered))
      (IsTaken plan fits base doings now limit input) step (λ made is. is.none) none listed after.node after.owes))
      (λ step broken.
      as-part broken.node.core.at.done broken.owed step
      (reach plan fits base doings now limit input broken.owed (IsBegun plan fits base doings now limit input) step
      (λ made is. is.none) none listed broken.node broken.owes))

  -- and with the file
  mark-stays : (file : SpoolFile) (listed : Option Record) → (file_behind file listed).mark.value ≡ file.mark.value
  mark-stays file None = refl
  mark-stays file (Some listed) = refl

  pub node-does :
      (file : SpoolFile) (went : Went (Node HostOwn Kind) Happening) → file.mark.value ≡ limit
      → OnEither IsWhole IsPart went
      → DoesStep (end_plan plan) (DidOf plan) base doings input now (went_with_file file went)
  node-does file (Goes step) mark whole =
      subst
      (λ (s : HostStep).
      DoesMore (end_plan plan) (DidOf plan) base doings now (AreOfStep input now) EndsOnce
      (with_file (file_behind file (listed_of s.next.own.delivered)) false s))
      (sym whole.is)
      (record {
        done = Says StepEnded ∷ whole.done;
        is = record {
          plan_is = whole.at.plan_is;
          is = history-ends (end_plan plan) base (whole.done ++ doings) whole.before.next.core whole.at.history;
          mark =
              whole.at.limit_is ∙ sym mark
              ∙ sym (mark-stays file (listed_of whole.before.next.own.delivered));
          listed = (whole.at.owes, whole.at.listed);
          owes = λ going. whole.at.owes;
        };
        notes =
            ap (λ (ns : List Happening). ns ++ StepEnded ∷ []) whole.at.notes
            ∙ append_assoc (noted_in doings) whole.before.notes (StepEnded ∷ []);
        written = whole.at.written;
        calls = whole.at.called;
        drops = whole.at.drops;
        ends = record { rest = whole.done; is = refl; unended = whole.at.unended };
      })
  node-does file (Spent step) mark part = record {
    done = part.done;
    is = record {
      plan_is = part.at.plan_is;
      is = part.at.history;
      mark = part.at.limit_is ∙ sym mark;
      listed = part.at.listed;
      owes = λ going. absurd (cc);
    };
    notes = part.at.notes;
    written = part.at.written;
    calls = part.at.called;
    drops = part.at.drops;
    ends = part.at.unended;
  }

module _ (plan : HostPlan) (fits : HostPlanFits plan) (base : ℕ) where
  -- more system bytes are added to those that are left
  history-more :
      (doings : List Doing) (e : EndView Kind) (count : ℕ) → IsHistoryOf (end_plan plan) base doings e
      → IsHistoryOf (end_plan plan) base doings (with_numbers (more_numbers count e.numbers) e)
  history-more doings e count is = record {
    lawful = is.lawful;
    received = is.received;
    line = is.line;
    core = record {
      line = is.core.line;
      numbers = numbers-more base count _ _ e.numbers is.core.numbers;
      spare = spare-more _ _ e.numbers e.drawn count is.core.spare;
      outgoing = is.core.outgoing;
      waiting = is.core.waiting;
      held = is.core.held;
      asked = is.core.asked;
      transactions = is.core.transactions;
      met = is.core.met;
    };
    steps = is.steps;
  }

  -- it does nothing
  does-none :
      (doings : List Doing) (s : JournalView) (input : Input HostCommand) (now : ℕ) → DidOf plan base doings s
      → DoesStep (end_plan plan) (DidOf plan) base doings input now (Spent (at_first s))
  does-none doings s input now did = record {
    done = [];
    is = did;
    notes = sym (append-nil (noted_in doings));
    written = sym (append-nil (written_in (end_plan plan) doings));
    calls = begun-none input now [] refl;
    drops = tt;
    ends = tt;
  }

  pub goes-on :
      (doings : List Doing) (s : JournalView) (input : Input HostCommand) (now : ℕ) → DidOf plan base doings s
      → MayTake HostCommandFits input → DoesStep (end_plan plan) (DidOf plan) base doings input now (act s input now)
  goes-on doings s input now did may = ended s.has_ended refl
    where
      going : s.has_ended ≡ false
          → DoesStep (end_plan plan) (DidOf plan) base doings input now (and_then (reserving s) (acts_on input now))
      going on = go (needs_numbers s) (is_marked_out s.file.mark.value) refl
        where
          go : (needs spent : Bool) → is_marked_out s.file.mark.value ≡ spent
              → DoesStep (end_plan plan) (DidOf plan) base doings input now
              (and_then
              (if needs then if spent then Spent (at_first s) else Goes (at_first (reserved s)) else Goes (at_first s))
              (acts_on input now))
          go true true out = does-none doings s input now did
          go true false room =
              node-does plan fits base doings now (s.file.mark.value + 4096) input (reserved s).file
              (after_parts Some (parts (standing_in (reserved s)) input now) (at_first (reserved s).node)) refl
              (parts-do plan fits base doings now (s.file.mark.value + 4096) input (standing_in (reserved s))
              (reserved s).node
              (record { sound = did.plan_is; is = history-more doings s.node.core 4096 did.is })
              (let end = did.mark in grind (arith, nat_tests, end, room)) did.listed (did.owes on) may)
          go false spent room =
              node-does plan fits base doings now s.file.mark.value input s.file
              (after_parts Some (parts (standing_in s) input now) (at_first s.node)) refl
              (parts-do plan fits base doings now s.file.mark.value input (standing_in s) s.node
              (record { sound = did.plan_is; is = did.is }) did.mark did.listed (did.owes on) may)

      ended : (ended : Bool) → s.has_ended ≡ ended
          → DoesStep (end_plan plan) (DidOf plan) base doings input now
          (and_then (if ended then Spent (at_first s) else reserving s) (acts_on input now))
      ended true is = does-none doings s input now did
      ended false is = going is

  -- no step has ended by what is noted up to the turn of the line
  pub noted-unended :
      (doings : List Doing) (s : JournalView) (input : Input HostCommand) (now : ℕ) → DidOf plan base doings s
      → MayTake HostCommandFits input → NoneEnds (noted_by s input now)
  noted-unended doings s input now did may = ended s.has_ended refl
    where
      unended :
          (limit : ℕ) (st : Standing) (node : Node HostOwn Kind)
          → Did (HasPlan plan) (end_plan plan) base doings node → node.core.numbers.end ≡ limit
          → NoneEnds (step_in (after_parts Some (listing_parts st input now) (at_first node))).notes
      unended limit st node did limit_is =
          notes-of (after_parts Some (listing_parts st input now) (at_first node))
          (first-then plan fits base doings now limit input (lists st ∷ []) node Unends Unends may
          (let at = begins-at lower (end_plan plan) base fits.line (HasPlan plan) doings now node did in
          record { core = record { at = at.core.at; limit_is = at.core.limit_is ∙ limit_is }; sound = at.sound })
          (λ step after.
          lists-unended st step (listed_of step.next.own.delivered)
          (of-done after.node.core.at.done step after.node.core.at.unended after.node.core.at.course.notes))
          (λ step broken.
          of-done broken.node.core.at.done step broken.node.core.at.unended broken.node.core.at.course.notes))
        where
          Unends : HostStep → Type 0
          Unends step = NoneEnds step.notes

          notes-of : (went : Went (Node HostOwn Kind) Happening) → OnEither Unends Unends went
              → NoneEnds (step_in went).notes
          notes-of (Goes step) is = is
          notes-of (Spent step) is = is

          of-done :
              (done : List Doing) (step : HostStep) → HasNoEnd done
              → noted_in (done ++ doings) ≡ noted_in doings ++ step.notes → NoneEnds step.notes
          of-done done step none is =
              subst NoneEnds
              (append_cancel_left (noted_in doings) (noted_in done) step.notes
              (sym (noted-behind done doings) ∙ is))
              (none-noted done none)

          both-none : (xs ys : List Happening) → NoneEnds xs → NoneEnds ys → NoneEnds (xs ++ ys)
          both-none [] ys one two = two
          both-none (x ∷ xs) ys one two = (one.0, both-none xs ys one.1 two)

          lists-unended :
              (st : Standing) (step : HostStep) (listed : Option Record) → NoneEnds step.notes
              → OnEither Unends Unends
              (and_then
              (went_with step.next.own
              (and_then (carried Some (listing_commands st listed) (core_step step)) (all_done Some [])))
              (after_parts Some []))
          lists-unended st step None is = is
          lists-unended st step (Some listed) is = go (fit_of st listed)
            where
              go : (f : Fit)
                  → OnEither Unends Unends
                  (and_then
                  (went_with step.next.own
                  (and_then (carried Some (listed_by f st.next listed) (core_step step)) (all_done Some [])))
                  (after_parts Some []))
              go fit.Fits =
                  both-none (step.notes ++ Listing st.next listed ∷ []) (Listed st.next listed ∷ [])
                  (both-none step.notes (Listing st.next listed ∷ []) is (tt, tt)) (tt, tt)
              go fit.Full = is
              go fit.NumbersSpent = is

      going : NoneEnds (noted_on input now (reserving s))
      going = go (needs_numbers s) (is_marked_out s.file.mark.value)
        where
          go : (needs spent : Bool)
              → NoneEnds
              (noted_on input now
              (if needs then if spent then Spent (at_first s) else Goes (at_first (reserved s)) else Goes (at_first s)))
          go true true = tt
          go true false =
              unended (reserved s).node.core.numbers.end (standing_in (reserved s)) (reserved s).node
              (record { sound = did.plan_is; is = history-more doings s.node.core 4096 did.is }) refl
          go false spent =
              unended s.node.core.numbers.end (standing_in s) s.node (record { sound = did.plan_is; is = did.is }) refl

      ended : (ended : Bool) → s.has_ended ≡ ended
          → NoneEnds (noted_on input now (if ended then Spent (at_first s) else reserving s))
      ended true is = tt
      ended false is = going
