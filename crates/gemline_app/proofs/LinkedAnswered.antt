-- What a command answers that runs an end over a link, where its plan and its script mean something.
use Rattle.std.proofs.Common.{◌≡◌, ◌⊎◌, ◌≤◌, ℕ, List, length, Some, Ok, Err, sym, subst, inl, inr, arith}
use Rattle.gl_base.specs.Told.{FilesTold, SinkTold, SourceTold}
use Rattle.gl_base.specs.declared.input.Input.TheVariants as input
use Rattle.gl_base.specs.declared.side.Side.{Side}
use Rattle.equipment_tables.specs.declared.plan.Plans.{Plans}
use Rattle.gem_config.specs.Plans.{IsReadAs}
use Rattle.gem_config.specs.declared.fault.ConfigFault.{ConfigFault}
use Rattle.gem_config.specs.declared.fault.ConfigFault.TheVariants as plan_fault
use Rattle.line_schedule.specs.Script.{IsScript}
use Rattle.spool_show.specs.Told.{DiskTold}
use Rattle.end_run.specs.Script.{ScriptLine}
use Rattle.gemline_app.specs.Files.{plan_refusal}
use Rattle.gemline_app.specs.Laws.{Hinders, IsGiven}
use Rattle.gemline_app.specs.LinkTold.{LinkTold}
use Rattle.gemline_app.specs.Linked.{LinkedComes, ScriptComes, ScriptRuns}
use Rattle.gemline_app.specs.Words.{script_limit}
use Rattle.gemline_app.specs.declared.outcome.FileRole.TheVariants as role
use Rattle.gemline_app.specs.declared.outcome.Outcome.{Outcome}
use Rattle.gemline_app.specs.declared.outcome.Outcome.TheVariants.{Done}
use Rattle.gemline_app.proofs.InputDue.{read_of, unread_due}
use Rattle.gemline_app.proofs.ReplayDue.{Refused, failed, hindered, is_no_memory, no_plans, refused, whole_is}

module _ (source : SourceTold) (files : FilesTold) (disk : DiskTold) (link : LinkTold) (out : SinkTold) where
  module _ (Good : Outcome → Type 0) where
    abbrev pub Answered : Outcome → Type 0
    Answered outcome = Good outcome ⊎ Hinders source files disk link out outcome

  module _ (Good : Outcome → Type 0) (done : Good Done) (end : Side) (Idle : Type 0)
      (Was : Plans → List ScriptLine → Type 0) (outcome : Outcome)
      (each : (plans : Plans) (lines : List ScriptLine) → Was plans lines → Answered Good outcome)
    where
      scripted : (plans : Plans) (text : List ℕ) (lines : List ScriptLine) → IsScript end text lines
          → ScriptRuns end Idle (Was plans) text outcome → Answered Good outcome
      scripted plans text lines is runs = elim (runs.only lines is) [
        | inl was ↦ each plans lines was
        | inr memory ↦ inr (hindered source files disk link out outcome memory.0)
      ]

      -- from the script on
      told :
          (plans : Plans) (text : List ℕ) (lines : List ScriptLine) → source.before ≡ Some text
          → length text ≤ script_limit → IsScript end text lines → ScriptComes end Idle (Was plans) source outcome
          → Answered Good outcome
      told plans text lines is_told within is (inl (refuses, idle)) =
          elim (unread_due script_limit (λ t due. Unit {0}) source files disk link out outcome Done refuses
          (text, is_told, inr (within, tt))) [
            | inl is ↦ inl (subst Good (sym is) done)
            | inr hinders ↦ inr hinders
          ]
      told plans text lines is_told within is (inr (whole, read, runs)) =
          let same = (read_of script_limit source text (input.Whole whole) is_told read).1 in
          scripted plans text lines is
          (subst (λ (all : List ℕ). ScriptRuns end Idle (Was plans) all outcome) same runs)

      module _ (plan : List ℕ) (given : IsGiven end plan source files) where
        unread : Refused role.Plan given.bytes files outcome → Answered Good outcome
        unread (inl (longer, past)) = let within = given.plan_within in absurd (omega arith)
        unread (inr (inl (found, is, rose))) = inr (failed source files disk link out outcome found is rose)
        unread (inr (inr memory)) = inr (hindered source files disk link out outcome memory)

        bad : (fault : ConfigFault) → IsReadAs given.bytes (Err fault) → outcome ≡ plan_refusal fault → Answered Good outcome
        bad plan_fault.NoMemory read is = inr (hindered source files disk link out outcome is)
        bad (plan_fault.Key key what) read is =
            absurd (no_plans given.plans _ (read.only (Ok given.plans) given.means (is_no_memory key what)))

        pub linked_answered : LinkedComes end Idle Was plan source files outcome → Answered Good outcome
        linked_answered (inl (inl refuses, untouched, idle)) =
            unread (refused role.Plan plan given.bytes files outcome given.plan_told refuses)
        linked_answered (inl (inr is_bad, untouched, idle)) =
            let same = (whole_is role.Plan plan given.bytes is_bad.bytes files given.plan_told is_bad.read).0 in
            bad is_bad.fault (subst (λ (b : List ℕ). IsReadAs b (Err is_bad.fault)) (sym same) is_bad.is) is_bad.refused
        linked_answered (inr (plans, are, comes)) =
            told plans given.text given.lines given.script_told given.script_within given.is comes
