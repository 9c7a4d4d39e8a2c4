-- That the host with its journal keeps the law of an end, wherever its power is lost.
use Rattle.std.proofs.Common.{◌⊎◌, inl, inr, ◌≡◌, ◌≢◌, refl, sym, ap, subst, ◌∙◌, arith, ◌+◌, ◌<◌, ◌≤◌, ◌&&◌, not, Bool, true, false, ℕ, List, [], ◌∷◌, ◌++◌, Option, Some, None, if◌then◌else◌}
use Rattle.std.proofs.Math.Nat.{le_trans}
use Rattle.std.proofs.lemmas.Bool.Decides.{nat_tests}
use Rattle.disk_base.specs.declared.cut.CutChoice.{CutChoice}
use Rattle.gem_spool.specs.Standing.{Standing}
use Rattle.gem_spool.specs.Updates.{Left}
use Rattle.line_end.specs.Plan.{HostPlanFits}
use Rattle.line_end.specs.declared.plan.HostPlan.{HostPlan}
use Rattle.spool_file.specs.File.{SpoolFile}
use Rattle.spool_works.specs.DiskWorks.{DiskWork, up_to_change}
use Rattle.spool_works.specs.DiskWorks.DiskWork.{Change, Reserve}
use Rattle.spool_works.specs.Found.{found_in}
use Rattle.spool_works.proofs.EachLoss.{each-work}
use Rattle.trace_log.specs.Commands.{HostCommandFits}
use Rattle.trace_log.specs.declared.commands.HostCommand.{HostCommand}
use Rattle.trace_log.specs.Log.{Happening}
use Rattle.trace_log.specs.Log.Happening.{HostStarted}
use Rattle.trace_log.specs.Names.{Record}
use Rattle.transact.specs.Numbers.{numbers_from}
use Rattle.message_end.specs.Core.{Step, Went, and_then, at_first, step_in}
use Rattle.message_end.specs.Core.Went.{Goes, Spent}
use Rattle.message_end.specs.Doings.{Doing, own_of}
use Rattle.message_end.specs.Doings.Doing.{Says}
use Rattle.message_end.specs.Ends.{HasRestarted, HasStarted, Input, IsFront, IsMadeOf, IsOfWorld, KeepsLaw, Loss, LosesAt, MayTake, OnStart}
use Rattle.message_end.specs.Ends.Input.{Time}
use Rattle.message_end.specs.Ends.IsOfWorld.{of_power, of_wrote}
use Rattle.message_end.specs.InStep.{NoneEnds}
use Rattle.message_end.specs.Own.{Has, drawn_in}
use Rattle.message_end.specs.Parts.{Node, Part, after_parts, after_turn, closes}
use Rattle.message_end.specs.Starts.IsStartOf.{of_journal}
use Rattle.message_end.proofs.Fronts.{IsFirstOf, stops-first}
use Rattle.message_end.proofs.Growing.{front-both, front-same, parts-grow}
use Rattle.message_end.proofs.InSteps.{none-front}
use Rattle.message_end.proofs.Lower.{lower}
use Rattle.message_end.proofs.NodeLawful.{begins-new, history-says}
use Rattle.host_node.specs.Host.{HasPlan, HostOwn, Kind, end_plan, first_own, late_duties, offers}
use Rattle.spool_law.specs.Listing.{Owed, owed_behind, owed_in}
use Rattle.spool_law.specs.Listing.Owed.{Nothing}
use Rattle.journal_node.specs.End.{machine}
use Rattle.journal_node.specs.Journal.{JournalView, act, acts_on, begins, file_behind, is_marked_out, listed_of, listing_parts, needs_numbers, node_step, noted_by, noted_on, parts, put_of, put_works, reserved, restarts, standing_in, started_on, starts, unstarted, went_with_file}
use Rattle.journal_node.specs.Law.{DidOf, MayDoOwing}
use Rattle.journal_node.specs.Works.{left_as, losses, stops, works_behind, works_of}
use Rattle.journal_node.proofs.JournalSteps.{goes-on, noted-unended}
use Rattle.journal_node.proofs.WorkFronts.{AtEach, at-call, fronts-are}

-- ---- what is left at each call of its works

-- the mark is no lower than it was; behind a note it is no lower than this
pub record IsLeftWell (was last : ℕ) (front : List Happening) (file : SpoolFile) : Type 0 where
  pub above : was ≤ file.mark.value
  pub most : (front ≡ []) ⊎ (last ≤ file.mark.value)

module _ (was last : ℕ) where
  abbrev pub LeavesWell : List Happening → Left → Type 0
  LeavesWell front left = (choice : CutChoice) → IsLeftWell was last front (left choice)

  -- a put leaves the mark as it is
  put-well :
      (listed : Option Record) (st : Standing) (before notes : List Happening) → was ≤ st.file.mark.value
      → last ≤ st.file.mark.value → AtEach LeavesWell st before (put_works listed) notes
  put-well None st before notes above most = tt
  put-well (Some listed) st before notes above most =
      let front = before ++ up_to_change notes in
      let left : IsLeftWell was last front st.file = record { above = above; most = inr most } in (
        each-work (IsLeftWell was last front) st (Change (put_of listed)) left
            (λ gates. record { above = left.above; most = left.most })
            (record { above = left.above; most = left.most }),
        tt,
      )

module _ (s : JournalView) where
  -- a step from a file of so much of a mark
  mark-of :
      (from : JournalView) (went : Went (Node HostOwn Kind) Happening)
      → (step_in (went_with_file from.file went)).next.file.mark.value ≡ from.file.mark.value
  mark-of from (Goes step) = go (listed_of step.next.own.delivered)
    where
      go : (listed : Option Record) → (file_behind from.file listed).mark.value ≡ from.file.mark.value
      go None = refl
      go (Some listed) = refl
  mark-of from (Spent step) = refl

  behind-well :
      (was last : ℕ) (from : JournalView) (went : Went (Node HostOwn Kind) Happening) (notes : List Happening)
      → was ≤ from.file.mark.value → last ≤ from.file.mark.value
      → AtEach (LeavesWell was last) (standing_in from) [] (works_behind (went_with_file from.file went)) notes
  behind-well was last from (Goes step) notes above most =
      put-well was last (listed_of step.next.own.delivered) (standing_in from) [] notes above most
  behind-well was last from (Spent step) notes above most = tt

  abbrev node_went : Input HostCommand → ℕ → JournalView → Went (Node HostOwn Kind) Happening
  node_went input now from = after_parts Some (parts (standing_in from) input now) (at_first from.node)

  reserve-well :
      (works : List DiskWork) (last : ℕ) (notes : List Happening) → last ≡ s.file.mark.value + 4096
      → AtEach (LeavesWell s.file.mark.value last) (standing_in (reserved s)) [] works notes
      → AtEach (LeavesWell s.file.mark.value last) (standing_in s) [] (Reserve ∷ works) notes
  reserve-well works last notes is rest = (
    each-work (IsLeftWell s.file.mark.value last []) (standing_in s) Reserve
        (record { above = omega arith; most = inl refl }) (λ gates. record { above = omega arith; most = inl refl })
        (record { above = omega arith; most = inl refl }),
    rest,
  )

  pub all-well :
      (input : Input HostCommand) (now : ℕ)
      → AtEach (LeavesWell s.file.mark.value (step_in (act s input now)).next.file.mark.value) (standing_in s) []
      (works_of s input now) (noted_by s input now)
  all-well input now = ended s.has_ended (needs_numbers s) (is_marked_out s.file.mark.value)
    where
      notes : List Happening
      notes = noted_by s input now

      -- over any reading of what a step finds
      ended : (ended needs spent : Bool)
          → let went =
          and_then
          (if ended then Spent (at_first s)
          else (if needs then if spent then Spent (at_first s) else Goes (at_first (reserved s))
          else Goes (at_first s)))
          (acts_on input now) in
          AtEach (LeavesWell s.file.mark.value (step_in went).next.file.mark.value) (standing_in s) []
          ((if needs && not spent then Reserve ∷ [] else []) ++ works_behind went) notes
      ended true true true = tt
      ended true true false = (
        each-work (IsLeftWell s.file.mark.value s.file.mark.value []) (standing_in s) Reserve
            (record { above = omega arith; most = inl refl })
            (λ gates. record { above = omega arith; most = inl refl })
            (record { above = omega arith; most = inl refl }),
        tt,
      )
      ended true false spent = tt
      ended false true true = tt
      ended false true false =
          let went = node_went input now (reserved s) in
          let mark = mark-of (reserved s) went in
          reserve-well (works_behind (went_with_file (reserved s).file went))
          (step_in (went_with_file (reserved s).file went)).next.file.mark.value notes mark
          (behind-well s.file.mark.value (step_in (went_with_file (reserved s).file went)).next.file.mark.value
          (reserved s) went notes (omega arith) (omega (arith, mark)))
      ended false false spent =
          let went = node_went input now s in
          let mark = mark-of s went in
          behind-well s.file.mark.value (step_in (went_with_file s.file went)).next.file.mark.value s went notes
          (omega arith) (omega (arith, mark))

-- ---- where the disk stops a step

pub parts-both :
    (xs ys : List (Part HostOwn Kind)) (step : Step (Node HostOwn Kind) Happening)
    → after_parts Some (xs ++ ys) step ≡ and_then (after_parts Some xs step) (after_parts Some ys)
parts-both [] ys step = refl
parts-both (x ∷ xs) ys step =
    go (after_turn Some (x step.next.own step.next.core) step) (λ next. parts-both xs ys next)
  where
    go : (went : Went (Node HostOwn Kind) Happening)
        → ((next : Step (Node HostOwn Kind) Happening)
        → after_parts Some (xs ++ ys) next ≡ and_then (after_parts Some xs next) (after_parts Some ys))
        → and_then went (after_parts Some (xs ++ ys)) ≡ and_then (and_then went (after_parts Some xs))
        (after_parts Some ys)
    go (Goes next) more = more next
    go (Spent next) more = refl

-- what is noted up to the turn of the line stands in front
noted-first :
    (s : JournalView) (input : Input HostCommand) (now : ℕ)
    → IsFront (noted_by s input now) (step_in (act s input now)).notes
noted-first s input now = go (begins s)
  where
    go : (went : Went JournalView Happening)
        → IsFront (noted_on input now went) (step_in (and_then went (acts_on input now))).notes
    go (Spent step) = record { rest = step.notes; whole = refl }
    go (Goes step) =
        by (after_parts Some (parts (standing_in step.next) input now) (node_step step))
        (subst (λ (w : Went (Node HostOwn Kind) Happening). IsFront notes (step_in w).notes)
        (sym (parts-both (listing_parts (standing_in step.next) input now) (offers now ∷ closes ∷ []) (node_step step)))
        (grown (after_parts Some (listing_parts (standing_in step.next) input now) (node_step step))))
      where
        notes : List Happening
        notes = (step_in (after_parts Some (listing_parts (standing_in step.next) input now) (node_step step))).notes

        grown : (w : Went (Node HostOwn Kind) Happening)
            → IsFront (step_in w).notes (step_in (and_then w (after_parts Some (offers now ∷ closes ∷ [])))).notes
        grown (Goes next) = parts-grow (offers now ∷ closes ∷ []) next
        grown (Spent next) = front-same next.notes

        by : (w : Went (Node HostOwn Kind) Happening) → IsFront notes (step_in w).notes
            → IsFront notes (step_in (went_with_file step.next.file w)).notes
        by (Goes next) is = is
        by (Spent next) is = is

pub stops-are :
    (s : JournalView) (input : Input HostCommand) (now : ℕ) (front : List Happening) → Has (stops s input now) front
    → IsFront front (step_in (act s input now)).notes
stops-are s input now front has =
    front-both front (noted_by s input now) (step_in (act s input now)).notes
    (fronts-are (works_of s input now) [] (noted_by s input now) front has) (noted-first s input now)

module _ (plan : HostPlan) (fits : HostPlanFits plan) where
  -- and no step has ended by then
  stops-unended :
      (base : ℕ) (doings : List Doing) (s : JournalView) (input : Input HostCommand) (now : ℕ)
      → DidOf plan base doings s → MayTake HostCommandFits input → (front : List Happening)
      → Has (stops s input now) front → NoneEnds front
  stops-unended base doings s input now did may front has =
      let first = fronts-are (works_of s input now) [] (noted_by s input now) front has in
      none-front front first.rest
      (subst NoneEnds first.whole (noted-unended plan fits base doings s input now did may))

  -- ---- starts

  started-at : (file : SpoolFile) → is_marked_out file.mark.value ≡ false
      → DidOf plan file.mark.value [] (started_on plan file).next
  started-at file room =
      let did =
      begins-new {S = HostOwn} {K = Kind} lower (end_plan plan) fits.line (HasPlan plan) (first_own plan)
      (numbers_from file.mark.value 4096)
      (record { ordered = omega arith; four_bytes = grind (arith, nat_tests, room) }) refl in
      record { plan_is = did.sound; is = did.is; mark = refl; listed = tt; owes = λ going. refl }

  starts-at : (file : SpoolFile) (least : ℕ) → least ≤ file.mark.value
      → OnStart (HasStarted (end_plan plan) (DidOf plan) least) (starts plan file)
  starts-at file least above = go (is_marked_out file.mark.value) refl
    where
      go : (spent : Bool) → is_marked_out file.mark.value ≡ spent
          → OnStart (HasStarted (end_plan plan) (DidOf plan) least)
          (if spent then Spent (at_first (unstarted plan file)) else Goes (started_on plan file))
      go true is = refl
      go false is = record {
        base = file.mark.value;
        note = HostStarted (Some (record { found = found_in file.list; base = file.mark.value }));
        said = [];
        is = started-at file is;
        above = above;
        of_side = of_journal (found_in file.list) file.mark.value;
        of_start = tt;
        notes = refl;
        written = refl;
      }

  -- a start anew draws above all that was drawn by then
  restarted-at :
      (base : ℕ) (doings : List Doing) (file : SpoolFile) → base ≤ file.mark.value
      → ((drawn : ℕ) → Has (drawn_in (own_of (end_plan plan) doings)) drawn → drawn < file.mark.value)
      → OnStart (HasRestarted (end_plan plan) (DidOf plan) base doings) (starts plan file)
  restarted-at base doings file least above = by (starts plan file) (starts-at file file.mark.value (omega arith))
    where
      by : (went : Went JournalView Happening)
          → OnStart (HasStarted (end_plan plan) (DidOf plan) file.mark.value) went
          → OnStart (HasRestarted (end_plan plan) (DidOf plan) base doings) went
      by (Goes step) started =
          record { least = file.mark.value; no_lower = least; above = above; started = started }
      by (Spent step) none = none

  under : (base : ℕ) (doings : List Doing) (s : JournalView) → DidOf plan base doings s
      → s.node.core.numbers.next ≤ s.file.mark.value
  under base doings s did =
      subst (λ (mark : ℕ). s.node.core.numbers.next ≤ mark) did.mark did.is.core.numbers.left.ordered

  restarts-at :
      (base : ℕ) (doings : List Doing) (s : JournalView) (now : ℕ) → DidOf plan base doings s
      → OnStart (HasRestarted (end_plan plan) (DidOf plan) base doings) (restarts s now)
  restarts-at base doings s now did =
      subst
      (λ (p : HostPlan). OnStart (HasRestarted (end_plan plan) (DidOf plan) base doings) (starts p s.file))
      (sym did.plan_is)
      (restarted-at base doings s.file (le_trans did.is.core.numbers.least (under base doings s did))
      (λ drawn has. le_trans (did.is.core.numbers.above drawn has) (under base doings s did)))

  -- ---- where power is lost

  left-starts :
      (base : ℕ) (doings : List Doing) (s : JournalView) (input : Input HostCommand) (now last : ℕ)
      (all : List Doing) (next : JournalView) (front : List Happening) (file : SpoolFile) → DidOf plan base doings s
      → DidOf plan base (all ++ doings) next → next.file.mark.value ≡ last
      → IsLeftWell s.file.mark.value last front file
      → (first : IsFirstOf (end_plan plan) (DidOf plan) base doings input now all front)
      → OnStart (HasRestarted (end_plan plan) (DidOf plan) base (first.so_far.done ++ doings))
      (restarts (left_as s file) now)
  left-starts base doings s input now last all next front file did after mark well first =
      subst
      (λ (p : HostPlan).
      OnStart (HasRestarted (end_plan plan) (DidOf plan) base (first.so_far.done ++ doings)) (starts p file))
      (sym did.plan_is)
      (restarted-at base (first.so_far.done ++ doings) file
      (le_trans (le_trans did.is.core.numbers.least (under base doings s did)) well.above)
      (by well.most))
    where
      by : (front ≡ []) ⊎ (last ≤ file.mark.value) → (drawn : ℕ)
          → Has (drawn_in (own_of (end_plan plan) (first.so_far.done ++ doings))) drawn → drawn < file.mark.value
      by (inl none) drawn has =
          let done : Has (drawn_in (own_of (end_plan plan) doings)) drawn =
          subst (λ (ds : List Doing). Has (drawn_in (own_of (end_plan plan) (ds ++ doings))) drawn) (first.none none)
          has in
          le_trans (did.is.core.numbers.above drawn done) (le_trans (under base doings s did) well.above)
      by (inr most) drawn has =
          let done = first.drawn drawn has in
          let below : drawn < next.file.mark.value =
          le_trans (after.is.core.numbers.above drawn done) (under base (all ++ doings) next after) in
          le_trans (subst (λ (m : ℕ). drawn < m) mark below) most

  made-of : (base : ℕ) (doings : List Doing) (s : JournalView) → DidOf plan base doings s
      → IsMadeOf (end_plan plan) base doings (machine.line s)
  made-of base doings s did = record {
    lawful = did.is.lawful;
    line_is = did.is.line;
    received = did.is.received;
    replies = did.is.steps.replies;
  }

  loses-so :
      (base : ℕ) (doings : List Doing) (s : JournalView) (input : Input HostCommand) (now : ℕ)
      → DidOf plan base doings s → MayTake HostCommandFits input → (loss : Loss JournalView)
      → Has (losses s input now) loss → (choice : CutChoice)
      → LosesAt (end_plan plan) (DidOf plan) base doings input now loss.front (restarts (loss.left choice) now)
  loses-so base doings s input now did may loss has choice =
      let at =
      at-call (left_as s) (LeavesWell s.file.mark.value (step_in (act s input now)).next.file.mark.value)
      (works_of s input now) (standing_in s) [] (noted_by s input now) loss (all-well s input now) has in
      let first =
      stops-first (end_plan plan) (DidOf plan) HostCommandFits machine (λ base doings s did. made-of base doings s did)
      (λ base doings s input now did may. goes-on plan fits base doings s input now did may) base doings s input now did
      may loss.front (stops-are s input now loss.front at.front) in
      record {
        so_far = first.2.so_far;
        unended = stops-unended base doings s input now did may loss.front at.front;
        starts =
            subst
            (λ (one : Loss JournalView).
            OnStart (HasRestarted (end_plan plan) (DidOf plan) base (first.2.so_far.done ++ doings))
            (restarts (one.left choice) now))
            (sym at.is)
            (left-starts base doings s input now (step_in (act s input now)).next.file.mark.value first.0
            (step_in (act s input now)).next loss.front (at.lost choice) did first.1 refl (at.at choice) first.2);
      }

-- ---- the first step of a first start has numbers to draw

first-goes :
    (plan : HostPlan) (file : SpoolFile) (step : Step JournalView Happening)
    → act (started_on plan file).next Time 0 ≢ Spent step
unfolding late_duties
first-goes plan file step same = go (needs_numbers (started_on plan file).next) refl same
  where
    s : JournalView
    s = (started_on plan file).next

    go : (needs : Bool) → needs_numbers s ≡ needs
        → and_then
        (if needs then if is_marked_out s.file.mark.value then Spent (at_first s) else Goes (at_first (reserved s))
        else Goes (at_first s)) (acts_on Time 0) ≡ Spent step → ⊥
    go true is same = absurd (grind (arith, nat_tests, is))
    go false is same = absurd (cc)

-- ---- the law

pub journal_lawful :
    (plan : HostPlan) (file : SpoolFile) → HostPlanFits plan
    → KeepsLaw (end_plan plan) (DidOf plan) HostCommandFits (starts plan file) machine
journal_lawful plan file fits = record {
  fits = fits.line;
  starts = starts-at plan fits file 0 (omega arith);
  begins = λ first step is. begins-so first step is;
  keeps = λ base doings s did. made-of plan fits base doings s did;
  goes_on = λ base doings s input now did may. goes-on plan fits base doings s input now did may;
  stops = λ base doings s input now did may front has. stops-are s input now front has;
  unended = λ base doings s input now did may front has.
      stops-unended plan fits base doings s input now did may front has;
  says = λ base doings s what did world. record {
    plan_is = did.plan_is;
    is = history-says (end_plan plan) base doings s.node.core what did.is world;
    mark = did.mark;
    listed = (world-may what world (owed_in doings), did.listed);
    owes = λ going. ap (λ (o : Owed). owed_behind what o) (did.owes going) ∙ world-owed what world;
  };
  restarts = λ base doings s now did. restarts-at plan fits base doings s now did;
  loses = λ base doings s input now did may loss has choice.
      loses-so plan fits base doings s input now did may loss has choice;
}
  where
    begins-so :
        (first step : Step JournalView Happening) → starts plan file ≡ Goes first → act first.next Time 0 ≢ Spent step
    begins-so first step = go (is_marked_out file.mark.value)
      where
        go : (spent : Bool)
            → (if spent then Spent (at_first (unstarted plan file)) else Goes (started_on plan file)) ≡ Goes first
            → act first.next Time 0 ≢ Spent step
        go true is = absurd (cc)
        go false is =
            subst (λ (s : JournalView). act s Time 0 ≢ Spent step)
            (ap (λ (went : Went JournalView Happening). (step_in went).next) is) (first-goes plan file step)

    world-may : (what : Happening) → IsOfWorld what → (owed : Owed) → MayDoOwing owed (Says what)
    world-may _ (of_wrote characters) owed = tt
    world-may _ of_power owed = tt

    world-owed : (what : Happening) → IsOfWorld what → owed_behind what Nothing ≡ Nothing
    world-owed _ (of_wrote characters) = refl
    world-owed _ of_power = refl
