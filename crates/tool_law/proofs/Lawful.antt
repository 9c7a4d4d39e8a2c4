-- That the equipment keeps the law of an end.
use Rattle.std.proofs.Common.{◌≡◌, ◌≢◌, refl, sym, ap, subst, ◌∙◌, arith, ◌⊎◌, inl, inr, Bool, true, false, ℕ, ◌≤◌, List, [], ◌∷◌, ◌++◌, replicate, Option, Some, None, if◌then◌else◌, zero, suc}
use Rattle.std.specs.Option.{option_map}
use Rattle.std.proofs.Math.Nat.{le_trans}
use Rattle.std.specs.Prelude.{IfSome, map, slice_get}
use Rattle.std.proofs.lemmas.Bool.Decides.{nat_tests}
use Rattle.std.proofs.lemmas.List.Elements.{All-nil, All-head}
use Rattle.disk_base.specs.declared.cut.CutChoice.{CutChoice}
use Rattle.gem_states.specs.declared.comms.CommsIn.TheVariants as comms_in
use Rattle.trace_log.specs.Commands.{ToolCommandFits}
use Rattle.trace_log.specs.Log.{Happening}
use Rattle.trace_log.specs.Names.{Spooled}
use Rattle.trace_log.specs.declared.commands.ToolCommand.{ToolCommand}
use Rattle.transact.specs.Numbers.{IsNumbers, numbers_from}
use Rattle.message_end.specs.Calls.{dropped_now, failed_at, took_at}
use Rattle.message_end.specs.Core.{EndView, IsText, Step, Went, and_then, at_first, step_in}
use Rattle.message_end.specs.Core.Went.{Goes, Spent}
use Rattle.message_end.specs.Core.Command.{DropDue, Take, Tick}
use Rattle.message_end.specs.Doings.{Doing, own_of}
use Rattle.message_end.specs.Duties.{all_done}
use Rattle.message_end.specs.Ends.{HasRestarted, HasStarted, Input, IsFront, KeepsLaw, Loss, LosesAt, MayTake, OnStart}
use Rattle.message_end.specs.Ends.Input.{Char, Command as Told, Time}
use Rattle.message_end.specs.InStep.{NoneEnds}
use Rattle.message_end.specs.Starts.IsStartOf.{of_equipment}
use Rattle.message_end.specs.Parts.{Node, after_parts, core_after, core_step, went_with, with_own}
use Rattle.message_end.proofs.InSteps.{none-front}
use Rattle.message_end.proofs.Lower.{lower}
use Rattle.message_end.proofs.Members.{has-either}
use Rattle.message_end.proofs.NodeLawful.{begins-new, history-says}
use Rattle.message_end.proofs.Growing.{front-both, front-more, front-same, parts-grow}
use Rattle.message_end.specs.Own.{Has}
use Rattle.tool_step.specs.Grants.{GrantView}
use Rattle.tool_step.specs.declared.kind.Kind.{Kind}
use Rattle.equipment_tables.specs.declared.plan.EquipmentPlan.{EquipmentPlan}
use Rattle.tool_step.specs.declared.owed.Owed.{Owed}
use Rattle.tool_step.specs.declared.owed.Owed.TheVariants.{Answered, Keep, Recipes as OfRecipes}
use Rattle.tool_step.specs.Own.{OwnView, ToolPart, unowed}
use Rattle.tool_step.specs.Recipes.{owes_recipes}
use Rattle.tool_step.specs.Setup.{setup_in}
use Rattle.tool_step.proofs.StepFiles.{kept-same}
use Rattle.equipment_tables.specs.Plan.{EquipmentPlanFits}
use Rattle.tool_step.specs.Replies.{block_timer, reply_timer}
use Rattle.tool_step.specs.Sampling.{made_part, sample_parts}
use Rattle.tool_law.specs.Sound.{AllCanBeSent, CanBeSent, IsHeld, IsSound}
use Rattle.tool_step.specs.Spooling.{end_of_spooling, taking_turn}
use Rattle.tool_law.proofs.SpoolSound.{carried-good, new-good, settled-good}
use Rattle.spool_works.specs.DiskWorks.{DiskWork, behind_change, fronts_of, up_to_change}
use Rattle.spool_works.proofs.EachFront.{each-front, up-to}
use Rattle.tool_step.specs.Disk.{stops, unserved, works_of}
use Rattle.tool_step.specs.End.{machine}
use Rattle.tool_step.specs.Losses.{losses}
use Rattle.tool_step.specs.Equipment.{unstarted, EquipmentView, act, begun_step, done_step, ended_step, is_marked_out, needs_numbers, kept_view, new_own, node_step, oldest_of, parts_done, reserved, restarts, served_view, settled, settled_went, started_on, starts, went_with_file}
use Rattle.spool_works.specs.Found.{first_in, found_in, spooled_of}
use Rattle.tool_law.specs.Laws.{DidOf}
use Rattle.tool_step.specs.Step.{answering, delay_timer, end_plan, first_parts, input_part, last_parts, late_parts, owed_turn}
use Rattle.spool_ledger.specs.Ledger.{Numbered}
use Rattle.spool_ledger.specs.Ledger.{new_ledger}
use Rattle.spool_file.specs.File.{SpoolFile}
use Rattle.spool_file.specs.Slot.{Message as Kept, width}
use Rattle.tool_step.specs.Live.{ReportView}
use Rattle.tool_law.specs.Tried.{AreInTurn, newest_of}
use Rattle.tool_law.proofs.TriedCores.{none-tried}
use Rattle.tool_law.proofs.TriedDoings.{may-say, same-tries, world-free}
use Rattle.spool_law.specs.Shelf.{change_of}
use Rattle.spool_law.specs.Tries.{tries_in}
use Rattle.tool_law.proofs.MildCommands.{sound-self}
use Rattle.tool_law.proofs.QuietTurns.{comms-quiet}
use Rattle.tool_law.proofs.QuietMessages.{by-t4-quiet, taking-held, unload-held, ended-quiet}
use Rattle.tool_law.proofs.Areas.{started-area}
use Rattle.tool_law.proofs.FirstSteps.{first-goes}
use Rattle.tool_law.proofs.SetupStarts.{setup-history, setup-noted, setup-of-start, setup-tried, setup-tries, setup_said}
use Rattle.tool_law.proofs.QuietSamples.{made-quiet, sampling-quiet}
use Rattle.tool_law.proofs.QuietCommands.{failed-is-quiet, took-quiet, told-quiet, beginning-quiet, t3-quiet}
use Rattle.tool_law.proofs.KeptSteps.{begun-unended, goes-on}

-- ---- what is kept stays sound, whatever comes

-- whatever was tried
abbrev IsAny : Option ℕ → Type 0
IsAny tried = Unit {0}

module _ (plan : EquipmentPlan) (fits : EquipmentPlanFits plan) (slots : ℕ) (stood : Numbered) where
  any-held : (own : OwnView) → IsSound plan slots stood own → IsHeld plan slots stood IsAny own
  any-held own sound = record {
    plan_is = sound.plan_is;
    texts = sound.texts;
    traced = sound.traced;
    reports = sound.reports;
    ledger = sound.ledger;
    tried_is = tt;
  }

  any-sound : (own : OwnView) → IsHeld plan slots stood IsAny own → IsSound plan slots stood own
  any-sound own held =
      record {
        plan_is = held.plan_is;
        texts = held.texts;
        traced = held.traced;
        reports = held.reports;
        ledger = held.ledger;
      }

  abbrev pub KeepsSound : ToolPart → Type 0
  KeepsSound part =
      (own : OwnView) (e : EndView Kind) → IsSound plan slots stood own → IsSound plan slots stood (part own e).own

  abbrev pub AllKeepSound : List ToolPart → Type 0
  AllKeepSound [] = Unit {0}
  AllKeepSound (part ∷ parts) = KeepsSound part × AllKeepSound parts

  both-keep : (first second : List ToolPart) → AllKeepSound first → AllKeepSound second
      → AllKeepSound (first ++ second)
  both-keep [] second one two = two
  both-keep (part ∷ first) second one two = (one.0, both-keep first second one.1 two)

  many-keep : (n : ℕ) (part : ToolPart) → KeepsSound part → AllKeepSound (replicate n part)
  many-keep zero part one = tt
  many-keep (suc n) part one = (one, many-keep n part one)

  pub parts-sound :
      {N : Type 0} (say : Happening → Option N) (parts : List ToolPart) (step : Step (Node OwnView Kind) N)
      → AllKeepSound parts → IsSound plan slots stood step.next.own
      → IsSound plan slots stood (step_in (after_parts say parts step)).next.own
  parts-sound say [] step all sound = sound
  parts-sound {N} say (part ∷ parts) step all sound =
      go (all_done say (part step.next.own step.next.core).duties (core_step step))
      (λ next held. parts-sound say parts next all.1 held)
    where
      own : OwnView
      own = (part step.next.own step.next.core).own

      held : IsSound plan slots stood own
      held = all.0 step.next.own step.next.core sound

      go : (went : Went (EndView Kind) N)
          → ((next : Step (Node OwnView Kind) N) → IsSound plan slots stood next.next.own
          → IsSound plan slots stood (step_in (after_parts say parts next)).next.own)
          → IsSound plan slots stood (step_in (and_then (went_with own went) (after_parts say parts))).next.own
      go (Goes next) more = more (with_own own next) held
      go (Spent next) more = held

  late-sound : (now : ℕ) → AllKeepSound (late_parts now)
  unfolding late_parts
  late-sound now =
      both-keep (replicate 16 (block_timer now)) (replicate 64 (reply_timer now))
      (many-keep 16 (block_timer now)
      (λ own e sound.
      any-sound _ (by-t4-quiet plan IsAny fits slots stood now (dropped_now e now) own (core_after (DropDue now) e)
      (any-held own sound)).sound))
      (many-keep 64 (reply_timer now)
      (λ own e sound. any-sound _ (t3-quiet plan IsAny fits slots stood now own e (any-held own sound)).sound))

  samples-sound : (now : ℕ) → AllKeepSound (sample_parts now)
  unfolding sample_parts
  samples-sound now = (
    (λ own e sound. any-sound _ (sampling-quiet plan IsAny fits slots stood now own e (any-held own sound)).sound),
    many-keep 16 made_part
        (λ own e sound. any-sound _ (made-quiet plan IsAny fits slots stood own e (any-held own sound)).sound),
  )

  input-sound : (input : Input ToolCommand) (now : ℕ) → KeepsSound (input_part input now)
  input-sound (Char byte) now own e sound =
      any-sound _ (took-quiet plan IsAny fits slots stood now (took_at e byte now) own (core_after (Take byte now) e)
      (any-held own sound)).sound
  input-sound Time now own e sound = sound
  input-sound (Told command) now own e sound = any-sound _
      (told-quiet plan IsAny fits slots stood command now own e (any-held own sound)).sound

  pub first-sound : (input : Input ToolCommand) (now : ℕ) → AllKeepSound (first_parts input now)
  first-sound input now = (
    (λ own e sound. any-sound _ (beginning-quiet plan IsAny fits slots stood now own e (any-held own sound)).sound),
    (
      (λ own e sound.
          any-sound _ (failed-is-quiet plan IsAny fits slots stood now (failed_at e now) own (core_after (Tick now) e)
          (any-held own sound)).sound),
      both-keep (late_parts now ++ delay_timer now ∷ sample_parts now) (input_part input now ∷ [])
          (both-keep (late_parts now) (delay_timer now ∷ sample_parts now) (late-sound now) (
            (λ own e sound. any-sound _
                (comms-quiet plan IsAny fits slots stood comms_in.Time now own (any-held own sound)).sound),
            samples-sound now,
          ))
          (input-sound input now, tt),
    ),
  )

  pub taking-sound :
      (number : Option ℕ) (oldest : Option Spooled) → IfSome oldest CanBeSent → KeepsSound (taking_turn number oldest)
  taking-sound number oldest can own e sound =
      any-sound _
      (taking-held plan IsAny fits slots stood (λ system. tt) number oldest can own e (any-held own sound))

  pub ended-sound : KeepsSound end_of_spooling
  ended-sound own e sound = any-sound _ (ended-quiet plan IsAny fits slots stood own e (any-held own sound)).sound

  unowed-sound : (own : OwnView) → IsSound plan slots stood own → IsSound plan slots stood (unowed own)
  unowed-sound own sound = record {
    plan_is = sound.plan_is;
    texts = sound.texts;
    traced = sound.traced;
    reports = sound.reports;
    ledger = sound.ledger;
  }

  answering-sound : KeepsSound answering
  answering-sound own e sound = go own.owed
    where
      go : (owed : Option Owed) → IsSound plan slots stood (owed_turn owed (unowed own)).own
      go None = unowed-sound own sound
      go (Some (Keep primary)) = unowed-sound own sound
      go (Some (OfRecipes asked primary)) = unowed-sound own sound
      go (Some (Answered given primary)) = unowed-sound own sound

  pub last-sound : (oldest : Option Spooled) → IfSome oldest CanBeSent → (now : ℕ) → AllKeepSound (last_parts oldest
      now)
  last-sound oldest can now = (
    answering-sound,
    (
      (λ own e sound. any-sound _
          (unload-held plan IsAny fits slots stood (λ system. tt) oldest can own e (any-held own sound))),
      (
        (λ own e sound. any-sound _ (ended-quiet plan IsAny fits slots stood own e (any-held own sound)).sound),
        ((λ own e sound. sound), ((λ own e sound. sound), tt)),
      ),
    ),
  )

module _ (plan : EquipmentPlan) (fits : EquipmentPlanFits plan) where
  -- the equipment with its spool
  pub record IsGoodView (s : EquipmentView) : Type 0 where
    pub own : IsSound plan s.node.own.ledger.slots s.node.own.ledger.stood s.node.own
    pub list : AllCanBeSent s.file.list

  parts-good : (parts : List ToolPart) (step : Step EquipmentView Happening)
      → AllKeepSound plan fits step.next.node.own.ledger.slots step.next.node.own.ledger.stood parts
      → IsGoodView step.next → IsGoodView (step_in (parts_done parts step)).next
  parts-good parts step all good =
      go (after_parts Some parts (node_step step))
      (parts-sound plan fits step.next.node.own.ledger.slots step.next.node.own.ledger.stood Some parts (node_step step)
      all good.own)
    where
      go : (went : Went (Node OwnView Kind) Happening)
          → IsSound plan step.next.node.own.ledger.slots step.next.node.own.ledger.stood (step_in went).next.own
          → IsGoodView (step_in (went_with_file step.next went)).next
      go (Goes next) sound = record { own = sound-self plan _ _ _ sound; list = good.list }
      go (Spent next) sound = record { own = sound-self plan _ _ _ sound; list = good.list }

  pub settled-view-good : (s : EquipmentView) → IsGoodView s → IsGoodView (settled s)
  settled-view-good s good = record {
    own = record {
      plan_is = good.own.plan_is;
      texts = good.own.texts;
      traced = good.own.traced;
      reports = good.own.reports;
      ledger = carried-good s.node.own.ledger good.own.ledger;
    };
    list = settled-good s.node.own.ledger s.file good.own.ledger good.list;
  }

  -- the setup that is kept behind that
  pub kept-view-good : (s : EquipmentView) → IsGoodView s → IsGoodView (kept_view s)
  kept-view-good s good = record {
    own = good.own;
    list = subst AllCanBeSent
        (sym (kept-same (λ (file : SpoolFile). file.list) s.node.own s.file (λ bytes other. refl))) good.list;
  }

  -- and the recipes are asked
  pub served-view-good : (s : EquipmentView) → IsGoodView s → IsGoodView (served_view s)
  served-view-good s good = record {
    own = record {
      plan_is = good.own.plan_is;
      texts = good.own.texts;
      traced = good.own.traced;
      reports = good.own.reports;
      ledger = good.own.ledger;
    };
    list = good.list;
  }

  pub begun-good : (s : EquipmentView) (input : Input ToolCommand) (now : ℕ) → IsGoodView s
      → IsGoodView (step_in (begun_step s input now)).next
  begun-good s input now good = go (needs_numbers s) (is_marked_out s.file.mark.value)
    where
      go : (needs spent : Bool)
          → IsGoodView
          (step_in (and_then
          (if needs then if spent then Spent (at_first s) else Goes (at_first (reserved s)) else Goes (at_first s))
          (parts_done (first_parts input now)))).next
      go true true = good
      go true false =
          parts-good (first_parts input now) (at_first (reserved s))
          (first-sound plan fits s.node.own.ledger.slots s.node.own.ledger.stood input now)
          (record { own = good.own; list = good.list })
      go false spent =
          parts-good (first_parts input now) (at_first s)
          (first-sound plan fits s.node.own.ledger.slots s.node.own.ledger.stood input now) good

  -- up to the works the list is that of the file, and the disk has what it had
  pub begun-stood : (s : EquipmentView) (input : Input ToolCommand) (now : ℕ) → IsGoodView s
      → ((step_in (begun_step s input now)).next.file.list ≡ s.file.list)
      × ((step_in (begun_step s input now)).next.node.own.ledger.stood ≡ s.node.own.ledger.stood)
  begun-stood s input now good = go (needs_numbers s) (is_marked_out s.file.mark.value)
    where
      Stays : Step EquipmentView Happening → Type 0
      Stays step = (step.next.file.list ≡ s.file.list) × (step.next.node.own.ledger.stood ≡ s.node.own.ledger.stood)

      by : (file : EquipmentView) (went : Went (Node OwnView Kind) Happening) → file.file.list ≡ s.file.list
          → IsSound plan s.node.own.ledger.slots s.node.own.ledger.stood (step_in went).next.own
          → Stays (step_in (went_with_file file went))
      by file (Goes step) same sound = (same, sound.ledger.stood_is)
      by file (Spent step) same sound = (same, sound.ledger.stood_is)

      sounds : AllKeepSound plan fits s.node.own.ledger.slots s.node.own.ledger.stood (first_parts input now)
      sounds = first-sound plan fits s.node.own.ledger.slots s.node.own.ledger.stood input now

      go : (needs spent : Bool)
          → Stays
          (step_in (and_then
          (if needs then if spent then Spent (at_first s) else Goes (at_first (reserved s)) else Goes (at_first s))
          (parts_done (first_parts input now))))
      go true true = (refl, refl)
      go true false =
          by (reserved s) (after_parts Some (first_parts input now) (at_first (reserved s).node)) refl
          (parts-sound plan fits s.node.own.ledger.slots s.node.own.ledger.stood Some (first_parts input now)
          (at_first (reserved s).node) sounds good.own)
      go false spent =
          by s (after_parts Some (first_parts input now) (at_first s.node)) refl
          (parts-sound plan fits s.node.own.ledger.slots s.node.own.ledger.stood Some (first_parts input now)
          (at_first s.node) sounds good.own)

  pub oldest-good : (list : List Kept) → AllCanBeSent list
      → IfSome (option_map spooled_of (slice_get list 0)) CanBeSent
  oldest-good [] all = tt
  oldest-good (first ∷ list) all = All-head (λ (message : Kept). CanBeSent (spooled_of message)) first list all

  pub ended-good : (step : Step EquipmentView Happening) (now : ℕ) → IsGoodView step.next
      → IsGoodView (step_in (ended_step now step)).next
  ended-good step now good =
      parts-good (last_parts (oldest_of step.next) now) step
      (last-sound plan fits step.next.node.own.ledger.slots step.next.node.own.ledger.stood (oldest_of step.next)
      (oldest-good step.next.file.list good.list) now) good

  pub act-good : (s : EquipmentView) (input : Input ToolCommand) (now : ℕ) → IsGoodView s
      → IsGoodView (step_in (act s input now)).next
  act-good s input now good = go (begun_step s input now) (begun-good s input now good)
    where
      go : (went : Went EquipmentView Happening) → IsGoodView (step_in went).next
          → IsGoodView (step_in (and_then (settled_went went) (ended_step now))).next
      go (Goes step) so =
          ended-good (done_step step) now
          (served-view-good (kept_view (settled step.next))
          (kept-view-good (settled step.next) (settled-view-good step.next so)))
      go (Spent step) so = settled-view-good step.next so

-- ---- where the disk stops a step

pub fronts-are :
    (works : List DiskWork) (before notes front : List Happening) → Has (fronts_of before works notes) front
    → IsFront front (before ++ notes)
fronts-are works before notes front has =
    each-front (λ (ns : List Happening). IsFront ns (before ++ notes))
    (λ some more is.
    front-both (some ++ up_to_change more) (some ++ more) (before ++ notes)
    (record { rest = behind_change more; whole = up-to some more }) is) works before notes front
    (front-more before notes) (front-same (before ++ notes)) has

-- what was noted up to the works stands in front
pub act-grows : (went : Went EquipmentView Happening) (now : ℕ)
    → IsFront (step_in went).notes (step_in (and_then (settled_went went) (ended_step now))).notes
act-grows (Spent step) now = front-same step.notes
act-grows (Goes step) now =
    go (after_parts Some parts (node_step done)) (parts-grow parts (node_step done))
  where
    done : Step EquipmentView Happening
    done = done_step step

    parts : List ToolPart
    parts = last_parts (oldest_of done.next) now

    go : (went : Went (Node OwnView Kind) Happening) → IsFront step.notes (step_in went).notes
        → IsFront step.notes (step_in (went_with_file done.next went)).notes
    go (Goes next) grows = grows
    go (Spent next) grows = grows

-- where the recipes are asked, all of that was noted
unserved-is :
    (begun : Went EquipmentView Happening) (front : List Happening) → Has (unserved begun) front
    → front ≡ (step_in begun).notes
unserved-is (Goes step) front has = go (owes_recipes step.next.node.own.owed) has
  where
    go : (owes : Bool) → Has (if owes then step.notes ∷ [] else []) front → front ≡ step.notes
    go true (inl is) = is
    go true (inr none) = absurd none
    go false none = absurd none
unserved-is (Spent step) front none = absurd none

-- what holds of what was noted where the disk fails at a work, and of all that was noted up to the works, holds of
-- whatever was noted where a step is stopped
pub each-stop :
    (P : List Happening → Type 0) (s : EquipmentView) (input : Input ToolCommand) (now : ℕ)
    → ((front : List Happening)
    → Has (fronts_of [] (works_of s input now) (step_in (begun_step s input now)).notes) front → P front)
    → P (step_in (begun_step s input now)).notes
    → (front : List Happening) → Has (stops s input now) front → P front
each-stop P s input now works whole front has =
    go
    (has-either (fronts_of [] (works_of s input now) (step_in (begun_step s input now)).notes)
    (unserved (begun_step s input now)) front has)
  where
    go : Has (fronts_of [] (works_of s input now) (step_in (begun_step s input now)).notes) front
        ⊎ Has (unserved (begun_step s input now)) front → P front
    go (inl at) = works front at
    go (inr at) = subst P (sym (unserved-is (begun_step s input now) front at)) whole

pub stopped-front :
    (s : EquipmentView) (input : Input ToolCommand) (now : ℕ) (front : List Happening) → Has (stops s input now) front
    → IsFront front (step_in (begun_step s input now)).notes
stopped-front s input now front has =
    let notes = (step_in (begun_step s input now)).notes in
    each-stop (λ ns. IsFront ns notes) s input now (fronts-are (works_of s input now) [] notes) (front-same notes) front
    has

pub stops-are :
    (s : EquipmentView) (input : Input ToolCommand) (now : ℕ) (front : List Happening) → Has (stops s input now) front
    → IsFront front (step_in (act s input now)).notes
stops-are s input now front has =
    front-both front (step_in (begun_step s input now)).notes (step_in (act s input now)).notes
    (stopped-front s input now front has)
    (act-grows (begun_step s input now) now)

-- so it hasn't come to its end
pub stops-unended :
    (plan : EquipmentPlan) (base : ℕ) (fits : EquipmentPlanFits plan) (doings : List Doing) (s : EquipmentView)
    (input : Input ToolCommand) (now : ℕ) → DidOf plan base doings s → MayTake ToolCommandFits input
    → (front : List Happening) → Has (stops s input now) front → NoneEnds front
stops-unended plan base fits doings s input now did may front has =
    let first = stopped-front s input now front has in
    none-front front first.rest (subst NoneEnds first.whole (begun-unended plan base fits doings s input now did may))

-- ---- starts

module _ (plan : EquipmentPlan) (fits : EquipmentPlanFits plan) where
  left-at : (mark : ℕ) → is_marked_out mark ≡ false → IsNumbers (numbers_from mark 4096)
  left-at mark room =
      record { ordered = omega arith; four_bytes = grind (arith, nat_tests, room) }

  -- what a start has done: it has noted its setup
  abbrev said_of : SpoolFile → List Doing
  said_of file = setup_said plan (setup_in file)

  started-at : (file : SpoolFile) → AllCanBeSent file.list → is_marked_out file.mark.value ≡ false
      → DidOf plan file.mark.value (said_of file) (started_on plan file).next
  started-at file can room =
      let did = begins-new {S = OwnView} {K = Kind} lower (end_plan plan) fits.line
      (IsSound plan file.slots own.ledger.stood) own
      (numbers_from file.mark.value 4096) (left-at file.mark.value room) sound in
      record {
        sound = record { own = sound; list = can; mark = refl; area = started-area file };
        is = setup-history plan (setup_in file) (end_plan plan) file.mark.value
            (started_on plan file).next.node.core did.is;
        tried = setup-tried plan (setup_in file) (end_plan plan);
        turn = subst (λ (tries : List ℕ). AreInTurn tries (started_on plan file).next.node.core)
            (sym (setup-tries plan (setup_in file))) (none-tried (started_on plan file).next.node.core);
        last = ap newest_of (sym (setup-tries plan (setup_in file)));
      }
    where
      own : OwnView
      own = new_own plan (setup_in file) (new_ledger file.slots (first_in file) (map width file.list))

      sound : IsSound plan file.slots own.ledger.stood own
      sound = record {
        plan_is = refl;
        texts = All-nil (λ (one : GrantView). IsText one.body);
        traced = All-nil (λ (one : GrantView). IsText one.body);
        reports = All-nil (λ (one : ReportView). CanBeSent one.message);
        ledger = new-good file.slots (first_in file) (map width file.list);
      }

  pub starts-at : (file : SpoolFile) (least : ℕ) → AllCanBeSent file.list → least ≤ file.mark.value
      → OnStart (HasStarted (end_plan plan) (DidOf plan) least) (starts plan file)
  starts-at file least can above = go (is_marked_out file.mark.value) refl
    where
      go : (spent : Bool) → is_marked_out file.mark.value ≡ spent
          → OnStart (HasStarted (end_plan plan) (DidOf plan) least)
          (if spent then Spent (at_first (unstarted plan file))
          else Goes (started_on plan file))
      go true is = refl
      go false is =
          record {
            base = file.mark.value;
            note = Happening.EquipmentStarted (found_in file.list) file.mark.value;
            said = said_of file;
            is = started-at file can is;
            above = above;
            of_side = of_equipment (found_in file.list) file.mark.value;
            of_start = setup-of-start plan (setup_in file);
            notes =
                ap
                (λ (lines : List Happening).
                Happening.EquipmentStarted (found_in file.list) file.mark.value ∷ lines)
                (sym (setup-noted plan (setup_in file)));
            written = refl;
          }

  -- a start anew finds what the file stands for, and draws above all that was drawn
  restarts-at : (base : ℕ) (doings : List Doing) (s : EquipmentView) (now : ℕ) → DidOf plan base doings s
      → OnStart (HasRestarted (end_plan plan) (DidOf plan) base doings) (restarts s now)
  restarts-at base doings s now did =
      go (starts plan s.file) (starts-at s.file s.file.mark.value did.sound.list (omega arith))
      (ap (λ (p : EquipmentPlan). starts p s.file) (sym did.sound.own.plan_is))
    where
      under : s.node.core.numbers.next ≤ s.file.mark.value
      under = subst (λ (mark : ℕ). s.node.core.numbers.next ≤ mark) did.sound.mark did.is.core.numbers.left.ordered

      go : (went : Went EquipmentView Happening)
          → OnStart (HasStarted (end_plan plan) (DidOf plan) s.file.mark.value) went
          → went ≡ restarts s now
          → OnStart (HasRestarted (end_plan plan) (DidOf plan) base doings) (restarts s now)
      go went is same =
          subst (OnStart (HasRestarted (end_plan plan) (DidOf plan) base doings)) same (by went is)
        where
          by : (went : Went EquipmentView Happening)
              → OnStart (HasStarted (end_plan plan) (DidOf plan) s.file.mark.value) went
              → OnStart (HasRestarted (end_plan plan) (DidOf plan) base doings) went
          by (Goes step) started = record {
            least = s.file.mark.value;
            no_lower = le_trans did.is.core.numbers.least under;
            above = λ drawn has. le_trans (did.is.core.numbers.above drawn has) under;
            started = started;
          }
          by (Spent step) none = none

-- ---- the law

-- wherever its power is lost it starts anew lawfully
abbrev pub Loses : EquipmentPlan → Type 0
Loses plan =
    (base : ℕ) (doings : List Doing) (s : EquipmentView) (input : Input ToolCommand) (now : ℕ)
    → DidOf plan base doings s → MayTake ToolCommandFits input → (loss : Loss EquipmentView)
    → Has (losses s input now) loss → (choice : CutChoice)
    → LosesAt (end_plan plan) (DidOf plan) base doings input now loss.front (restarts (loss.left choice) now)

pub lawful-so :
    (plan : EquipmentPlan) (file : SpoolFile) → EquipmentPlanFits plan → AllCanBeSent file.list → Loses plan
    → KeepsLaw (end_plan plan) (DidOf plan) ToolCommandFits (starts plan file) machine
lawful-so plan file fits can loses = record {
  fits = fits.line;
  starts = starts-at plan fits file 0 can (omega arith);
  begins = λ first step is. begins first step is;
  keeps = λ base doings s did.
      record {
        lawful = did.is.lawful;
        line_is = did.is.line;
        received = did.is.received;
        replies = did.is.steps.replies;
      };
  goes_on = λ base doings s input now did may. goes-on plan base fits doings s input now did may;
  stops = λ base doings s input now did may front has. stops-are s input now front has;
  unended = λ base doings s input now did may front has.
      stops-unended plan base fits doings s input now did may front has;
  says = λ base doings s what did world. record {
    sound = did.sound;
    is = history-says (end_plan plan) base doings s.node.core what did.is world;
    tried = (
      may-say (own_of (end_plan plan) doings) (tries_in doings) (change_of what) (world-free what world),
      did.tried,
    );
    turn =
        subst (λ (ts : List ℕ). AreInTurn ts s.node.core)
        (sym (same-tries (change_of what) (tries_in doings) (world-free what world))) did.turn;
    last = did.last ∙ ap newest_of (sym (same-tries (change_of what) (tries_in doings) (world-free what world)));
  };
  restarts = λ base doings s now did. restarts-at plan fits base doings s now did;
  loses = λ base doings s input now did may loss has choice. loses base doings s input now did may loss has choice;
}
  where
    begins :
        (first step : Step EquipmentView Happening) → starts plan file ≡ Goes first
        → act first.next Time 0 ≢ Spent step
    begins first step = go (is_marked_out file.mark.value)
      where
        go : (spent : Bool)
            → (if spent then Spent (at_first (unstarted plan file))
            else Goes (started_on plan file)) ≡ Goes first
            → act first.next Time 0 ≢ Spent step
        go true is = absurd (cc)
        go false is =
            subst (λ (s : EquipmentView). act s Time 0 ≢ Spent step)
            (ap (λ (went : Went EquipmentView Happening). (step_in went).next) is)
            (first-goes plan file step)
