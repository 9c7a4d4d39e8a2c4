-- That the equipment keeps the law of an end wherever its power is lost, and so all of it: proofs, which stand here
-- since an impl cites them.
use Rattle.std.proofs.Common.{◌⊎◌, inl, inr, ◌≡◌, refl, sym, ap, subst, ◌∙◌, ◌+◌, arith, Bool, true, false, not, ℕ, ◌<◌}
use Rattle.std.proofs.Common.{◌≤◌, List, [], ◌∷◌, ◌++◌, All, map, Option, Some, None, if◌then◌else◌, ◌&&◌}
use Rattle.std.specs.Option.{option_map_or}
use Rattle.std.proofs.Math.Nat.{le_trans}
use Rattle.std.proofs.lemmas.List.Elements.{All-head, All-tail}
use Rattle.disk_base.specs.declared.cut.CutChoice.{CutChoice}
use Rattle.gem_spool.specs.Updates.{Left}
use Rattle.gem_spool.specs.Standing.{Standing}
use Rattle.gem_spool.specs.Works.{standing_after}
use Rattle.gem_spool.specs.declared.works.Work.{Work}
use Rattle.message_end.proofs.Fronts.{IsFirstOf, stops-first}
use Rattle.message_end.specs.Core.{Went, and_then, at_first, step_in}
use Rattle.message_end.specs.Core.Went.{Goes, Spent}
use Rattle.message_end.specs.Doings.{Doing, own_of}
use Rattle.message_end.specs.Ends.{HasRestarted, HasStarted, Input, KeepsLaw, Loss, OnStart}
use Rattle.message_end.specs.Own.{Has, drawn_in}
use Rattle.message_end.specs.Parts.{after_parts}
use Rattle.spool_file.specs.File.{SpoolFile}
use Rattle.trace_log.specs.Commands.{ToolCommandFits}
use Rattle.trace_log.specs.declared.commands.ToolCommand.{ToolCommand}
use Rattle.trace_log.specs.Log.{Happening}
use Rattle.equipment_tables.specs.declared.plan.EquipmentPlan.{EquipmentPlan}
use Rattle.equipment_tables.specs.Plan.{EquipmentPlanFits}
use Rattle.spool_works.specs.DiskWorks.{DiskWork, behind_change, standing_behind, up_to_change}
use Rattle.tool_step.specs.Disk.{keep_works, read_works, standing_in, takes_up, works_behind, works_of}
use Rattle.spool_works.specs.DiskWorks.DiskWork.{Change, Keep, ReadOldest, Reserve}
use Rattle.tool_step.specs.Setup.{to_keep}
use Rattle.tool_step.specs.End.{machine}
use Rattle.tool_step.specs.Equipment.{EquipmentView, act, begun_step, ended_step, is_marked_out, needs_numbers}
use Rattle.tool_step.specs.Equipment.{parts_done, reserved, restarts, settled_went, starts}
use Rattle.tool_law.proofs.Lawful.{IsGoodView, Loses, begun-good, lawful-so, starts-at, stops-are, stops-unended}
use Rattle.tool_law.proofs.KeptSteps.{goes-on}
use Rattle.tool_law.specs.Laws.{DidOf}
use Rattle.tool_step.proofs.LossCalls.{AtEach, at-call, losses-counted}
use Rattle.tool_step.proofs.StepFiles.{ended-file, parts-file, settled-mark, works-same}
use Rattle.spool_works.proofs.EachLoss.{each-work}
use Rattle.spool_works.proofs.LossCounts.{Each}
use Rattle.tool_step.specs.Losses.{left_as}
use Rattle.spool_ledger.specs.Sizes.{oldest_of}
use Rattle.tool_law.specs.Sound.{AllCanBeSent, PutsGood}
use Rattle.spool_works.specs.WorkLosses.{calls_at}
use Rattle.tool_law.proofs.SpoolSound.{list-good}
use Rattle.tool_step.specs.Step.{end_plan, first_parts}

-- ---- the mark of a step

-- the works of a step and what it does behind them leave the mark as it is
ended-mark : (went : Went EquipmentView Happening) (now : ℕ)
    → (step_in (and_then (settled_went went) (ended_step now))).next.file.mark.value
    ≡ (step_in went).next.file.mark.value
ended-mark went now =
    ap (λ (file : SpoolFile). file.mark.value) (ended-file went now)
    ∙ works-same (λ (file : SpoolFile). file.mark.value) went (λ bytes other. refl)
    ∙ settled-mark (step_in went).next.node.own.ledger (step_in went).next.file

-- ---- what is left at each call

-- the messages that are left can be sent, version and slots are as they were, and the mark is no lower than it was;
-- behind a note it is no lower than this
pub record IsLeftWell (was : SpoolFile) (last : ℕ) (front : List Happening) (file : SpoolFile) : Type 0 where
  pub can : AllCanBeSent file.list
  pub version_is : file.version ≡ was.version
  pub slots_are : file.slots ≡ was.slots
  pub above : was.mark.value ≤ file.mark.value
  pub most : (front ≡ []) ⊎ (last ≤ file.mark.value)

module _ (was : SpoolFile) (last : ℕ) where
  abbrev pub LeavesWell : List Happening → Left → Type 0
  LeavesWell front left = (choice : CutChoice) → IsLeftWell was last front (left choice)

  work-well :
      (front : List Happening) (st : Standing) (one : Work) → PutsGood one → IsLeftWell was last front st.file
      → Each (LeavesWell front) (calls_at st (Change one))
  work-well front st one good is =
      each-work (IsLeftWell was last front) st (Change one) is
      (λ gates. record {
        can = is.can;
        version_is = is.version_is;
        slots_are = is.slots_are;
        above = is.above;
        most = is.most;
      })
      (record {
        can = list-good st.next st.file.list one is.can good;
        version_is = is.version_is;
        slots_are = is.slots_are;
        above = is.above;
        most = is.most;
      })

  -- the messages can be sent, and the mark is high enough whatever was noted
  record IsHighEnough (file : SpoolFile) : Type 0 where
    can : AllCanBeSent file.list
    version_is : file.version ≡ was.version
    slots_are : file.slots ≡ was.slots
    above : was.mark.value ≤ file.mark.value
    most : last ≤ file.mark.value

  at-mark : (front : List Happening) (file : SpoolFile) → IsHighEnough file → IsLeftWell was last front file
  at-mark front file is = record {
    can = is.can;
    version_is = is.version_is;
    slots_are = is.slots_are;
    above = is.above;
    most = inr is.most;
  }

  read-well :
      (went : Went EquipmentView Happening) (st : Standing) (before notes : List Happening) → IsHighEnough st.file
      → AtEach LeavesWell st before (read_works went) notes
  read-well (Goes step) st before notes is = go (takes_up step.next.node.own)
    where
      size : ℕ
      size = oldest_of step.next.node.own.ledger.sizes

      left : IsLeftWell was last (before ++ notes) st.file
      left = at-mark (before ++ notes) st.file is

      go : (takes : Bool) → AtEach LeavesWell st before (if takes then ReadOldest size ∷ [] else []) notes
      go true = (
        each-work (IsLeftWell was last (before ++ notes)) st (ReadOldest size) left
            (λ gates. record {
              can = left.can;
              version_is = left.version_is;
              slots_are = left.slots_are;
              above = left.above;
              most = left.most;
            }) left,
        tt,
      )
      go false = tt
  read-well (Spent step) st before notes is = tt

  -- the setup is kept, which changes nothing else, and then a message may be read
  keep-well :
      (went : Went EquipmentView Happening) (st : Standing) (before notes : List Happening) → IsHighEnough st.file
      → AtEach LeavesWell st before (keep_works went ++ read_works went) notes
  keep-well (Spent step) st before notes is = tt
  keep-well (Goes step) st before notes is = go (to_keep step.next.node.own)
    where
      front : List Happening
      front = before ++ up_to_change notes

      left : IsLeftWell was last front st.file
      left = at-mark front st.file is

      go : (found : Option (List ℕ))
          → AtEach LeavesWell st before
          (option_map_or (λ (bytes : List ℕ). Keep bytes ∷ []) found [] ++ read_works (Goes step)) notes
      go None = read-well (Goes step) st before notes is
      go (Some bytes) = (
        each-work (IsLeftWell was last front) st (Keep bytes) left
            (λ gates. record {
              can = left.can;
              version_is = left.version_is;
              slots_are = left.slots_are;
              above = left.above;
              most = left.most;
            })
            (record {
              can = left.can;
              version_is = left.version_is;
              slots_are = left.slots_are;
              above = left.above;
              most = left.most;
            }),
        read-well (Goes step) (standing_behind st (Keep bytes)) front (behind_change notes) (record {
          can = is.can;
          version_is = is.version_is;
          slots_are = is.slots_are;
          above = is.above;
          most = is.most;
        }),
      )

  works-well :
      (works : List Work) (went : Went EquipmentView Happening) (st : Standing) (before notes : List Happening)
      → All PutsGood works → IsHighEnough st.file
      → AtEach LeavesWell st before (map Change works ++ keep_works went ++ read_works went) notes
  works-well [] went st before notes good is = keep-well went st before notes is
  works-well (one ∷ works) went st before notes good is =
      let front = before ++ up_to_change notes in (
        work-well front st one (All-head PutsGood one works good) (at-mark front st.file is),
        works-well works went (standing_after st one) front (behind_change notes) (All-tail PutsGood one works good)
            (record {
              can = list-good st.next st.file.list one is.can (All-head PutsGood one works good);
              version_is = is.version_is;
              slots_are = is.slots_are;
              above = is.above;
              most = is.most;
            }),
      )

-- where system bytes are reserved first, nothing was noted before
reserve-well :
    (s : EquipmentView) (works : List DiskWork) (notes : List Happening) → AllCanBeSent s.file.list
    → AtEach (LeavesWell s.file (s.file.mark.value + 4096)) (standing_in (reserved s)) [] works notes
    → AtEach (LeavesWell s.file (s.file.mark.value + 4096)) (standing_in s) [] (Reserve ∷ works) notes
reserve-well s works notes can rest = (
  each-work (IsLeftWell s.file (s.file.mark.value + 4096) []) (standing_in s) Reserve
      (record { can = can; version_is = refl; slots_are = refl; above = omega arith; most = inl refl })
      (λ gates. record { can = can; version_is = refl; slots_are = refl; above = omega arith; most = inl refl })
      (record { can = can; version_is = refl; slots_are = refl; above = omega arith; most = inl refl }),
  rest,
)

module _ (plan : EquipmentPlan) (fits : EquipmentPlanFits plan) where
  pub all-well :
      (s : EquipmentView) (input : Input ToolCommand) (now : ℕ) → IsGoodView plan fits s
      → AtEach (LeavesWell s.file (step_in (act s input now)).next.file.mark.value) (standing_in s) []
      (works_of s input now) (step_in (begun_step s input now)).notes
  all-well s input now good =
      subst
      (λ (mark : ℕ).
      AtEach (LeavesWell s.file mark) (standing_in s) [] (works_of s input now)
      (step_in (begun_step s input now)).notes)
      (sym (ended-mark (begun_step s input now) now))
      (go (needs_numbers s) (is_marked_out s.file.mark.value) (begun-good plan fits s input now good))
    where
      -- what is begun, and which works there are before it
      begun : Bool → Bool → Went EquipmentView Happening
      begun needs spent =
          and_then
          (if needs then if spent then Spent (at_first s) else Goes (at_first (reserved s)) else Goes (at_first s))
          (parts_done (first_parts input now))

      behind :
          (file : EquipmentView) (went : Went EquipmentView Happening) (last : ℕ)
          → IsGoodView plan fits (step_in went).next → IsHighEnough s.file last file.file
          → AtEach (LeavesWell s.file last) (standing_in file) [] (works_behind went) (step_in went).notes
      behind file went last so is =
          works-well s.file last (step_in went).next.node.own.ledger.works went (standing_in file) []
          (step_in went).notes so.own.ledger.works is

      go : (needs spent : Bool) → IsGoodView plan fits (step_in (begun needs spent)).next
          → AtEach (LeavesWell s.file (step_in (begun needs spent)).next.file.mark.value) (standing_in s) []
          ((if needs && not spent then Reserve ∷ [] else []) ++ works_behind (begun needs spent))
          (step_in (begun needs spent)).notes
      go true true so =
          behind s (begun true true) s.file.mark.value so
          (record { can = good.list; version_is = refl; slots_are = refl; above = omega arith; most = omega arith })
      go true false so =
          let mark =
          ap (λ (file : SpoolFile). file.mark.value)
          (parts-file (reserved s) (after_parts Some (first_parts input now) (at_first (reserved s).node))) in
          subst
          (λ (last : ℕ).
          AtEach (LeavesWell s.file last) (standing_in s) [] (Reserve ∷ works_behind (begun true false))
          (step_in (begun true false)).notes)
          (sym mark)
          (reserve-well s (works_behind (begun true false)) (step_in (begun true false)).notes good.list
          (behind (reserved s) (begun true false) (s.file.mark.value + 4096) so
          (record { can = good.list; version_is = refl; slots_are = refl; above = omega arith; most = omega arith })))
      go false spent so =
          let mark =
          ap (λ (file : SpoolFile). file.mark.value)
          (parts-file s (after_parts Some (first_parts input now) (at_first s.node))) in
          subst
          (λ (last : ℕ).
          AtEach (LeavesWell s.file last) (standing_in s) [] (works_behind (begun false spent))
          (step_in (begun false spent)).notes)
          (sym mark)
          (behind s (begun false spent) s.file.mark.value so
          (record { can = good.list; version_is = refl; slots_are = refl; above = omega arith; most = omega arith }))

  -- ---- a start anew behind what was done

  -- it draws above all that was drawn by then
  restarted-at :
      (base : ℕ) (doings : List Doing) (file : SpoolFile) → AllCanBeSent file.list → base ≤ file.mark.value
      → ((drawn : ℕ) → Has (drawn_in (own_of (end_plan plan) doings)) drawn → drawn < file.mark.value)
      → OnStart (HasRestarted (end_plan plan) (DidOf plan) base doings) (starts plan file)
  restarted-at base doings file can least above =
      by (starts plan file) (starts-at plan fits file file.mark.value can (omega arith))
    where
      by : (went : Went EquipmentView Happening)
          → OnStart (HasStarted (end_plan plan) (DidOf plan) file.mark.value) went
          → OnStart (HasRestarted (end_plan plan) (DidOf plan) base doings) went
      by (Goes step) started =
          record { least = file.mark.value; no_lower = least; above = above; started = started }
      by (Spent step) none = none

  left-starts :
      (base : ℕ) (doings : List Doing) (s : EquipmentView) (input : Input ToolCommand) (now last : ℕ)
      (all : List Doing) (next : EquipmentView) (front : List Happening) (file : SpoolFile) → DidOf plan base doings s
      → DidOf plan base (all ++ doings) next → next.file.mark.value ≡ last
      → IsLeftWell s.file last front file
      → (first : IsFirstOf (end_plan plan) (DidOf plan) base doings input now all front)
      → OnStart (HasRestarted (end_plan plan) (DidOf plan) base (first.so_far.done ++ doings))
      (restarts (left_as s file) now)
  left-starts base doings s input now last all next front file did after mark well first =
      subst
      (λ (p : EquipmentPlan).
      OnStart (HasRestarted (end_plan plan) (DidOf plan) base (first.so_far.done ++ doings)) (starts p file))
      (sym did.sound.own.plan_is)
      (restarted-at base (first.so_far.done ++ doings) file well.can
      (le_trans (le_trans did.is.core.numbers.least (under doings s did)) well.above)
      (by well.most))
    where
      under : (doings : List Doing) (s : EquipmentView) → DidOf plan base doings s
          → s.node.core.numbers.next ≤ s.file.mark.value
      under doings s did =
          subst (λ (mark : ℕ). s.node.core.numbers.next ≤ mark) did.sound.mark did.is.core.numbers.left.ordered

      by : (front ≡ []) ⊎ (last ≤ file.mark.value) → (drawn : ℕ)
          → Has (drawn_in (own_of (end_plan plan) (first.so_far.done ++ doings))) drawn → drawn < file.mark.value
      by (inl none) drawn has =
          let done : Has (drawn_in (own_of (end_plan plan) doings)) drawn =
          subst (λ (ds : List Doing). Has (drawn_in (own_of (end_plan plan) (ds ++ doings))) drawn) (first.none none)
          has in
          le_trans (did.is.core.numbers.above drawn done) (le_trans (under doings s did) well.above)
      by (inr most) drawn has =
          let done = first.drawn drawn has in
          let below : drawn < next.file.mark.value =
          le_trans (after.is.core.numbers.above drawn done) (under (all ++ doings) next after) in
          le_trans (subst (λ (m : ℕ). drawn < m) mark below) most

  pub loses-so : Loses plan
  loses-so base doings s input now did may loss has choice =
      let first =
      stops-first (end_plan plan) (DidOf plan) ToolCommandFits machine
      (λ base doings s did.
      record {
        lawful = did.is.lawful;
        line_is = did.is.line;
        received = did.is.received;
        replies = did.is.steps.replies;
      })
      (λ base doings s input now did may. goes-on plan base fits doings s input now did may) base doings s input now did
      may loss.front (stops-are s input now loss.front ((losses-counted s input now).1 loss has)) in
      let at =
      at-call (LeavesWell s.file (step_in (act s input now)).next.file.mark.value) s (works_of s input now)
      (standing_in s) [] (step_in (begun_step s input now)).notes loss
      (all-well s input now (record { own = did.sound.own; list = did.sound.list })) has in
      record {
        so_far = first.2.so_far;
        unended =
            stops-unended plan base fits doings s input now did may loss.front
            ((losses-counted s input now).1 loss has);
        starts =
            subst
            (λ (one : Loss EquipmentView).
            OnStart (HasRestarted (end_plan plan) (DidOf plan) base (first.2.so_far.done ++ doings))
            (restarts (one.left choice) now))
            (sym at.is)
            (left-starts base doings s input now (step_in (act s input now)).next.file.mark.value first.0
            (step_in (act s input now)).next loss.front (at.left choice) did first.1 refl (at.at choice) first.2);
      }

-- ---- the law

pub equipment_lawful :
    (plan : EquipmentPlan) (file : SpoolFile) → EquipmentPlanFits plan → AllCanBeSent file.list
    → KeepsLaw (end_plan plan) (DidOf plan) ToolCommandFits (starts plan file) machine
equipment_lawful plan file fits can = lawful-so plan file fits can (loses-so plan fits)
