-- A plan and a script that were read, and what came of them.
use Rattle.std.proofs.Common.{◌≡◌, ◌∙◌, ◌⊎◌, ℕ, List, Option, Result, Ok, Err, refl, sym, ap, subst, inl, inr}
use Rattle.gl_base.specs.Told.{FilesTold, SinkTold, SourceTold}
use Rattle.gl_base.specs.declared.files.FileAnswer.TheVariants as file
use Rattle.gl_base.specs.declared.input.Input.TheVariants as input
use Rattle.gl_base.specs.declared.side.Side.{Side}
use Rattle.gl_base.specs.declared.side.Side.TheVariants as side
use Rattle.equipment_tables.specs.declared.plan.Plans.{Plans}
use Rattle.line_end.specs.declared.plan.HostPlan.{HostPlan}
use Rattle.line_schedule.specs.Lines.{ReadsOnly, RefusesOnly}
use Rattle.line_schedule.specs.Script.{IsScript, OutsideScriptAt}
use Rattle.line_schedule.specs.declared.schedule.ScheduleFault.{ScheduleFault}
use Rattle.line_schedule.specs.declared.schedule.ScheduleFault.TheVariants as fault
use Rattle.line_schedule.specs.declared.script.Script.{Script}
use Rattle.message_end.specs.Core.{Step}
use Rattle.message_end.specs.Core.Went.{Goes}
use Rattle.message_end.specs.Ends.{Asked, HasGone, printed}
use Rattle.message_end.specs.Parts.{Node}
use Rattle.message_flow.specs.declared.step.StepOut.{StepOut}
use Rattle.trace_log.specs.Log.{Happening}
use Rattle.trace_log.specs.declared.commands.HostCommand.{HostCommand}
use Rattle.host_node.specs.Host.{HostOwn, Kind, host_machine}
use Rattle.end_run.proofs.NoDisk.{no_disk}
use Rattle.end_run.specs.Outcome.{RunsOver}
use Rattle.end_run.specs.Scenes.{StopAt}
use Rattle.end_run.specs.Script.{ScriptLine, by_script}
use Rattle.end_run.specs.Sides.{told_host}
use Rattle.end_run.specs.declared.ending.Ending.{Ending}
use Rattle.gemline_app.specs.Host.{WasRun, host_due, host_run, host_start}
use Rattle.gemline_app.specs.LinkTold.{LinkTold}
use Rattle.gemline_app.specs.Linked.{ComesIdle, InputsAnswer, IsRefusedFor, IsScriptOf, LinkedComes, ScriptAnswers, ScriptIsRead, ScriptRefuses, ScriptRuns, after_run, before_run, outcome_of_ending, script_refusal}
use Rattle.gemline_app.specs.Files.{PlanAnswers, TextAnswers, WasFile}
use Rattle.gemline_app.specs.Inputs.{WasRead}
use Rattle.gemline_app.specs.Words.{script_limit}
use Rattle.gemline_app.specs.declared.inputs.Inputs.{Inputs}
use Rattle.gemline_app.specs.declared.outcome.FileRole.TheVariants as role
use Rattle.gemline_app.specs.declared.outcome.Outcome.{Outcome}

-- what a start has left, and its notes
pub start_is : {S : Type 0} (start : Step S Happening) (next : S) (out : StepOut) → HasGone (Goes start) next out
    → (start.next ≡ next) × (printed start.notes ≡ out.notes)
start_is {S} start next out gone =
    let is = same gone.is in (
      ap (λ (step : Step S Happening). step.next) is ∙ gone.next_is,
      ap (λ (step : Step S Happening). printed step.notes) is ∙ sym gone.notes,
    )
  where
    same : {other : Step S Happening} → Goes start ≡ Goes other → start ≡ other
    same is = cc

-- a run by these lines
pub was_run :
    (plan : HostPlan) (polls : ℕ) (link : LinkTold) (out : SinkTold) (outcome : Outcome) (lines : List ScriptLine)
    (ended : Ending) (host left : Node HostOwn Kind) (room : Asked)
    (stop : Option (StopAt (Node HostOwn Kind) HostCommand)) → (host_start plan).next ≡ host
    → outcome ≡ outcome_of_ending ended
    → RunsOver (before_run link out host) (after_run link out left room stop) (host_run plan lines polls) ended
    → WasRun plan lines polls link out outcome
was_run plan polls link out outcome lines ended host left room stop is_host is over =
    let runs =
    subst
    (λ (s : Node HostOwn Kind). RunsOver (before_run link out s) (after_run link out left room stop)
    (host_run plan lines polls) ended)
    (sym is_host) over
    in
    record {
      ended = ended;
      outcome_is = is;
      no_disk = λ at.
          no_disk host_machine host_due (by_script told_host) side.Host (λ s input now. refl) (host_start plan) lines polls
          (before_run link out (host_start plan).next) (after_run link out left room stop)
          (subst (λ (how : Ending). RunsOver (before_run link out (host_start plan).next)
          (after_run link out left room stop) (host_run plan lines polls) how) at runs);
      left = left;
      room = room;
      stop = stop;
      runs = runs;
    }

-- ---- the plans and the script of an end

abbrev no_script : ScheduleFault → Result Script ScheduleFault
no_script why = Err why

refused_script : (end : Side) (text : List ℕ) (why : ScheduleFault)
    → ((number : ℕ) → no_script why ≡ no_script (fault.Line number) → OutsideScriptAt end text number)
    → ScriptRefuses end text why
refused_script end text (fault.Line number) line = line number refl
refused_script end text fault.NoMemory line = tt

-- a text that was refused
pub refused_for : (end : Side) (text : List ℕ) (why : ScheduleFault)
    → ((lines : List ScriptLine) → IsScript end text lines → ReadsOnly (λ (s : Script). s.lines) lines (Err why))
    → ((number : ℕ) → no_script why ≡ no_script (fault.Line number) → OutsideScriptAt end text number)
    → ((number : ℕ) → OutsideScriptAt end text number → RefusesOnly {R = Script} (fault.Line number) (Err why))
    → IsRefusedFor end text why
refused_for end text why only line outside = record {
  why = refused_script end text why line;
  only = only;
  outside = outside;
}

-- what the input answers, where it was read whole
pub script_is_read : (end : Side) (source : SourceTold) (text : List ℕ) (result : Result Script Outcome)
    → WasRead script_limit source (input.Whole text) → ScriptAnswers end text result → ScriptIsRead end source result
script_is_read end source text (Ok script) read is = (text, read, is)
script_is_read end source text (Err refusal) read why = inr (text, read, why)

module _ (end : Side) (Idle : Type 0) (Was : Plans → List ScriptLine → Type 0) (plan : List ℕ) (source : SourceTold)
    (files : FilesTold)
  where
    script_runs : (plans : Plans) (text : List ℕ) (script : Script) (outcome : Outcome) → IsScriptOf end text script
        → Was plans script.lines → ScriptRuns end Idle (Was plans) text outcome
    script_runs plans text script outcome is was = record {
      because = inl (script.lines, is.found, was);
      outside = λ number at. absurd (is.outside number at);
      only = λ lines is_lines. inl (subst (λ (ls : List ScriptLine). Was plans ls) (is.only lines is_lines) was);
    }

    -- the end was run by what was read
    pub linked_runs : (inputs : Inputs) (outcome : Outcome) → InputsAnswer end plan source files (Ok inputs)
        → Was inputs.plans inputs.script.lines → LinkedComes end Idle Was plan source files outcome
    linked_runs inputs outcome (are, (text, read, is)) was =
        inr (inputs.plans, are, inr (text, read, script_runs inputs.plans text inputs.script outcome is was))

    named : (why other : ScheduleFault) (refusal : Outcome) → refusal ≡ script_refusal why
        → (why ≡ other) ⊎ (why ≡ fault.NoMemory) → Idle → ComesIdle Idle (script_refusal other) refusal
    named why other refusal is (inl same) idle = (inl (is ∙ ap script_refusal same), idle)
    named why other refusal is (inr memory) idle = (inr (is ∙ ap script_refusal memory), idle)

    script_refused : (plans : Plans) (text : List ℕ) (refusal : Outcome) → ScriptAnswers end text (Err refusal) → Idle
        → ScriptRuns end Idle (Was plans) text refusal
    script_refused plans text refusal (why, refused, is) idle = record {
      because = inr (why, refused.why, is, idle);
      outside = λ number at. named why (fault.Line number) refusal is (refused.outside number at) idle;
      only = λ lines is_lines. inr (is ∙ ap script_refusal (refused.only lines is_lines), idle);
    }

    -- nothing was done, since they weren't there
    pub linked_refused : (refusal : Outcome) → InputsAnswer end plan source files (Err refusal) → Idle
        → LinkedComes end Idle Was plan source files refusal
    linked_refused refusal (inl (refuses, unread)) idle = inl (refuses, unread, idle)
    linked_refused refusal (inr (plans, are, inl refuses)) idle = inr (plans, are, inl (refuses, idle))
    linked_refused refusal (inr (plans, are, inr (text, read, why))) idle =
        inr (plans, are, inr (text, read, script_refused plans text refusal why idle))

-- what the text of a plan answers, where the file was read whole
pub plan_answers : (name : List ℕ) (files : FilesTold) (bytes : List ℕ) (result : Result Plans Outcome)
    → WasFile role.Plan name files (file.Whole bytes) → TextAnswers bytes result → PlanAnswers name files result
plan_answers name files bytes (Ok plans) read is = record { bytes = bytes; read = read; is = is }
plan_answers name files bytes (Err refusal) read (because, is, refused) = inr (record {
  bytes = bytes;
  read = read;
  fault = because;
  is = is;
  refused = refused;
})
