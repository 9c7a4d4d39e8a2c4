-- A step as a whole keeps the law, from its start on.
use Rattle.std.proofs.Common.{◌≡◌, refl, sym, ap, subst, ◌∙◌, Bool, true, false, ℕ, List, [], ◌∷◌, ◌++◌, append-nil, if◌then◌else◌}
use Rattle.trace_log.specs.Commands.{ToolCommandFits}
use Rattle.trace_log.specs.Log.{Happening}
use Rattle.trace_log.specs.declared.commands.ToolCommand.{ToolCommand}
use Rattle.line_end.specs.Step.{LineCall}
use Rattle.message_end.specs.Core.{Step, Went, and_then, at_first, step_in}
use Rattle.message_end.specs.Core.Went.{Goes, Spent}
use Rattle.message_end.specs.Core.Command.{More}
use Rattle.message_end.specs.Doings.{Doing}
use Rattle.message_end.specs.Ends.{AreBegunOf, AreOfStep, DoesStep, Input, MayTake}
use Rattle.message_end.specs.Parts.{core_step}
use Rattle.message_end.specs.InStep.{NoneEnds}
use Rattle.message_end.proofs.InSteps.{none-noted}
use Rattle.message_end.proofs.Lower.{lower}
use Rattle.message_end.proofs.Parts.{OnEither}
use Rattle.message_end.proofs.PartsKept.{begun-none}
use Rattle.message_end.proofs.CallingNone.{at-carried}
use Rattle.message_end.proofs.Steps.{IsAt}
use Rattle.message_end.specs.History.{noted_in, written_in}
use Rattle.equipment_tables.specs.declared.plan.EquipmentPlan.{EquipmentPlan}
use Rattle.equipment_tables.specs.Plan.{EquipmentPlanFits}
use Rattle.tool_law.proofs.SpoolSound.{carried-good, settled-good}
use Rattle.tool_step.specs.Equipment.{EquipmentView, act, begun_step, done_step, ended_step, is_marked_out, kept_step, needs_numbers, parts_done, reserved, served_step, settled_step, settled_went}
use Rattle.spool_file.specs.File.{SpoolFile}
use Rattle.tool_step.proofs.StepFiles.{kept-same, settled-mark}
use Rattle.tool_law.specs.Sound.{AllCanBeSent}
use Rattle.tool_law.specs.Laws.{DidOf}
use Rattle.tool_step.specs.Step.{end_plan, first_parts}
use Rattle.spool_ledger.specs.Ledger.{Numbered}
use Rattle.spool_ledger.specs.Ledger.{carried_out}
use Rattle.tool_law.proofs.Areas.{first-area, kept-area, settled-area}
use Rattle.tool_law.proofs.TriedDoings.{AreNoTries, GiveNone, GoesTried, done-notes, quiet-done}
use Rattle.spool_law.specs.Tries.{tries_in}
use Rattle.tool_law.proofs.MildCommands.{marks-on}
use Rattle.tool_law.proofs.StepHalves.{AreNone, At, FileAt, FileBegun, FileStepped, HeldAt, ended-at, file-does, file-steps, first-at, parts-at, some-less}

module _ (plan : EquipmentPlan) (base : ℕ) (fits : EquipmentPlanFits plan) where
  -- the works are done: the disk has what was decided
  settled-at :
      (slots : ℕ) (stood : Numbered) (doings : List Doing) (now limit : ℕ) (input : Input ToolCommand)
      (Called : List LineCall → Type 0) (step : Step EquipmentView Happening)
      → FileAt plan base fits slots stood doings now limit input Called step
      → FileAt plan base fits slots (carried_out step.next.node.own.ledger).stood doings now limit input Called
      (settled_step step)
  settled-at slots stood doings now limit input Called step at = record {
    node = record {
      tries = at.node.tries;
      at = record {
        core = at.node.at.core;
        held = record {
          plan_is = at.node.at.held.plan_is;
          texts = at.node.at.held.texts;
          traced = at.node.at.held.traced;
          reports = at.node.at.held.reports;
          ledger = carried-good step.next.node.own.ledger at.node.at.held.ledger;
          tried_is = at.node.at.held.tried_is;
        };
      };
    };
    list = settled-good step.next.node.own.ledger step.next.file at.node.at.held.ledger at.list;
    mark = settled-mark step.next.node.own.ledger step.next.file ∙ at.mark;
    area = settled-area step.next.node.own step.next.node.own.ledger step.next.file at.area;
  }

  -- and the setup is kept
  kept-at :
      (slots : ℕ) (stood : Numbered) (doings : List Doing) (now limit : ℕ) (input : Input ToolCommand)
      (Called : List LineCall → Type 0) (step : Step EquipmentView Happening)
      → FileAt plan base fits slots stood doings now limit input Called step
      → FileAt plan base fits slots stood doings now limit input Called (kept_step step)
  kept-at slots stood doings now limit input Called step at = record {
    node = at.node;
    list = subst AllCanBeSent
        (sym (kept-same (λ (file : SpoolFile). file.list) step.next.node.own step.next.file (λ bytes other. refl)))
        at.list;
    mark =
        kept-same (λ (file : SpoolFile). file.mark.value) step.next.node.own step.next.file (λ bytes other. refl)
        ∙ at.mark;
    area = kept-area step.next.node.own step.next.file at.area;
  }

  -- and the recipes are asked
  served-at :
      (slots : ℕ) (stood : Numbered) (doings : List Doing) (now limit : ℕ) (input : Input ToolCommand)
      (Called : List LineCall → Type 0) (step : Step EquipmentView Happening)
      → FileAt plan base fits slots stood doings now limit input Called step
      → FileAt plan base fits slots stood doings now limit input Called (served_step step)
  served-at slots stood doings now limit input Called step at = record {
    node = record {
      tries = at.node.tries;
      at = record {
        core = at.node.at.core;
        held = record {
          plan_is = at.node.at.held.plan_is;
          texts = at.node.at.held.texts;
          traced = at.node.at.held.traced;
          reports = at.node.at.held.reports;
          ledger = at.node.at.held.ledger;
          tried_is = at.node.at.held.tried_is;
        };
      };
    };
    list = at.list;
    mark = at.mark;
    area = at.area;
  }

  -- the whole step, from what was begun
  act-does :
      (slots : ℕ) (stood : Numbered) (doings : List Doing) (now limit : ℕ) (input : Input ToolCommand)
      (went : Went EquipmentView Happening)
      → OnEither (FileStepped plan base fits slots stood doings now limit input)
      (FileBegun plan base fits slots stood doings now limit input) went
      → DoesStep (end_plan plan) (DidOf plan) base doings input now (and_then (settled_went went) (ended_step now))
  act-does slots stood doings now limit input (Goes step) at =
      file-steps plan base fits slots (carried_out step.next.node.own.ledger).stood doings now limit input
      (ended_step now (done_step step))
      (ended-at plan base fits slots (carried_out step.next.node.own.ledger).stood doings now limit input
      (done_step step)
      (served-at slots (carried_out step.next.node.own.ledger).stood doings now limit input (AreOfStep input now)
      (kept_step (settled_step step))
      (kept-at slots (carried_out step.next.node.own.ledger).stood doings now limit input (AreOfStep input now)
      (settled_step step) (settled-at slots stood doings now limit input (AreOfStep input now) step at))))
  act-does slots stood doings now limit input (Spent step) at =
      file-does plan base fits slots (carried_out step.next.node.own.ledger).stood doings now limit input
      (AreBegunOf input now) (settled_step step)
      (settled-at slots stood doings now limit input (AreBegunOf input now) step at)

  held-at : (doings : List Doing) (s : EquipmentView) → DidOf plan base doings s
      → HeldAt plan s.node.own.ledger.slots s.node.own.ledger.stood (tries_in doings) s.node.own
  held-at doings s did = record {
    plan_is = did.sound.own.plan_is;
    texts = did.sound.own.texts;
    traced = did.sound.own.traced;
    reports = did.sound.own.reports;
    ledger = did.sound.own.ledger;
    tried_is = did.last;
  }

  begins-at :
      (doings : List Doing) (now : ℕ) (input : Input ToolCommand) (s : EquipmentView) → DidOf plan base doings s
      → At plan base fits s.node.own.ledger.slots s.node.own.ledger.stood doings now s.node.core.numbers.end input
      (tries_in doings) AreNone (at_first s.node)
  begins-at doings now input s did = record {
    core = record {
      all = doings;
      done = [];
      whole = refl;
      is = did.is;
      notes = sym (append-nil (noted_in doings));
      written = sym (append-nil (written_in (end_plan plan) doings));
      called = refl;
      drops = tt;
      tried = did.tried;
      tries_are = refl;
      turn = did.turn;
      limit_is = refl;
      unended = tt;
    };
    held = held-at doings s did;
  }

  -- more system bytes are reserved
  more-at :
      (doings : List Doing) (now : ℕ) (input : Input ToolCommand) (s : EquipmentView) → DidOf plan base doings s
      → At plan base fits s.node.own.ledger.slots s.node.own.ledger.stood doings now (reserved s).node.core.numbers.end
      input (tries_in doings) AreNone (at_first (reserved s).node)
  more-at doings now input s did = record {
    core = record {
      all = more.done ++ doings;
      done = more.done;
      whole = refl;
      is = record {
        lawful = more.course.lawful;
        received = more.received;
        line = more.course.line;
        core = more.core;
        steps = more.steps;
      };
      notes = more.course.notes;
      written = more.course.written;
      called = more.called;
      drops = more.drops;
      tried = quiet.tried;
      tries_are = quiet.same;
      turn = record { below = did.turn.below; drawn = did.turn.drawn; waits = did.turn.waits };
      limit_is = refl;
      unended = more.unended;
    };
    held = held-at doings s did;
  }
    where
      more :
          IsAt (end_plan plan) base doings (λ at. at ≡ now) (λ (made : List LineCall). made ≡ [])
          (core_step (at_first (reserved s).node))
      more =
          at-carried lower (end_plan plan) base fits.line doings (λ at. at ≡ now) (λ (made : List LineCall). made ≡ [])
          (More 4096 ∷ []) (core_step (at_first s.node)) (tt, tt) (tt, tt) (tt, tt)
          (record {
            done = [];
            called = refl;
            drops = tt;
            received = did.is.received;
            course = record {
              lawful = did.is.lawful;
              line = did.is.line;
              notes = sym (append-nil (noted_in doings));
              written = sym (append-nil (written_in (end_plan plan) doings));
            };
            core = did.is.core;
            steps = did.is.steps;
            unended = tt;
          })

      quiet : GoesTried (end_plan plan) doings (more.done ++ doings)
      quiet =
          quiet-done (end_plan plan) more.done doings
          (subst AreNoTries (sym (done-notes more.done doings [] more.course.notes)) tt)
          (subst GiveNone (sym more.called) tt) did.tried

  -- a step up to its works, which may use system bytes up to some limit
  begun-at :
      (doings : List Doing) (s : EquipmentView) (input : Input ToolCommand) (now : ℕ) → DidOf plan base doings s
      → MayTake ToolCommandFits input
      → (limit : ℕ)
      × OnEither
      (FileStepped plan base fits s.node.own.ledger.slots s.node.own.ledger.stood doings now limit input)
      (FileBegun plan base fits s.node.own.ledger.slots s.node.own.ledger.stood doings now limit input)
      (begun_step s input now)
  begun-at doings s input now did may = go (needs_numbers s) (is_marked_out s.file.mark.value) refl
    where
      slots : ℕ
      slots = s.node.own.ledger.slots

      stood : Numbered
      stood = s.node.own.ledger.stood

      limit : ℕ
      limit = s.node.core.numbers.end

      more : is_marked_out s.file.mark.value ≡ false → (reserved s).file.mark.value ≡ (reserved s).node.core.numbers.end
      more room = marks-on s.node.core.numbers.end s.file.mark.value did.sound.mark room

      go : (needs spent : Bool) → is_marked_out s.file.mark.value ≡ spent
          → (limit : ℕ)
          × OnEither (FileStepped plan base fits slots stood doings now limit input)
          (FileBegun plan base fits slots stood doings now limit input)
          (and_then
          (if needs then if spent then Spent (at_first s) else Goes (at_first (reserved s)) else Goes (at_first s))
          (parts_done (first_parts input now)))
      go true true is = (
        limit,
        record {
          node =
              some-less plan base fits slots stood doings now limit input (tries_in doings) AreNone
              (AreBegunOf input now) (at_first s.node) (begun-none input now) (begins-at doings now input s did);
          list = did.sound.list;
          mark = sym did.sound.mark;
          area = did.sound.area;
        },
      )
      go true false is =
          let end = (reserved s).node.core.numbers.end in (
            end,
            parts-at plan base fits slots stood doings now end input (first_parts input now) (at_first (reserved s))
                did.sound.list (more is) (first-area input now) did.sound.area
                (first-at plan base fits slots stood doings now end input (tries_in doings)
                (at_first (reserved s).node) may (more-at doings now input s did)),
          )
      go false spent is = (
        limit,
        parts-at plan base fits slots stood doings now limit input (first_parts input now) (at_first s)
            did.sound.list (sym did.sound.mark) (first-area input now) did.sound.area
            (first-at plan base fits slots stood doings now limit input (tries_in doings) (at_first s.node) may
            (begins-at doings now input s did)),
      )

  pub goes-on :
      (doings : List Doing) (s : EquipmentView) (input : Input ToolCommand) (now : ℕ) → DidOf plan base doings s
      → MayTake ToolCommandFits input → DoesStep (end_plan plan) (DidOf plan) base doings input now (act s input now)
  goes-on doings s input now did may =
      let begun = begun-at doings s input now did may in
      act-does s.node.own.ledger.slots s.node.own.ledger.stood doings now begun.0 input (begun_step s input now) begun.1

  -- the step hasn't come to its end with what is noted up to its works
  pub begun-unended :
      (doings : List Doing) (s : EquipmentView) (input : Input ToolCommand) (now : ℕ) → DidOf plan base doings s
      → MayTake ToolCommandFits input → NoneEnds (step_in (begun_step s input now)).notes
  begun-unended doings s input now did may =
      let begun = begun-at doings s input now did may in go begun.0 (begun_step s input now) begun.1
    where
      slots : ℕ
      slots = s.node.own.ledger.slots

      stood : Numbered
      stood = s.node.own.ledger.stood

      none :
          (Called : List LineCall → Type 0) (limit : ℕ) (step : Step EquipmentView Happening)
          → FileAt plan base fits slots stood doings now limit input Called step → NoneEnds step.notes
      none Called limit step at =
          let so = at.node.at.core in
          subst NoneEnds (done-notes so.done doings step.notes (ap noted_in (sym so.whole) ∙ so.notes))
          (none-noted so.done so.unended)

      go : (limit : ℕ) (went : Went EquipmentView Happening)
          → OnEither (FileStepped plan base fits slots stood doings now limit input)
          (FileBegun plan base fits slots stood doings now limit input) went
          → NoneEnds (step_in went).notes
      go limit (Goes step) at = none (AreOfStep input now) limit step at
      go limit (Spent step) at = none (AreBegunOf input now) limit step at
