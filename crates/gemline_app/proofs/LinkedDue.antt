-- Which outcome of a command that runs an end over a link is due.
use Rattle.std.proofs.Common.{◌≡◌, ℕ, List, Option, Some, Ok, Err, refl, sym, ap, subst, ◌∙◌, inl, inr, arith}
use Rattle.gl_base.specs.Files.{told_file}
use Rattle.gl_base.specs.Link.{LinkContents}
use Rattle.gl_base.specs.Told.{FilesTold, SinkTold, SourceTold}
use Rattle.gl_base.specs.declared.link.LinkIn.{LinkIn}
use Rattle.gl_base.specs.declared.side.Side.{Side}
use Rattle.equipment_tables.specs.declared.plan.Plans.{Plans}
use Rattle.gem_config.specs.Plans.{IsReadAs}
use Rattle.gem_config.specs.Reading.{refused as is_refused}
use Rattle.gem_config.specs.declared.fault.ConfigFault.{ConfigFault}
use Rattle.gem_config.specs.declared.fault.ConfigFault.TheVariants as plan_fault
use Rattle.message_end.specs.Ends.{Asked}
use Rattle.spool_show.specs.Told.{DiskTold}
use Rattle.end_run.specs.Acts.{Act}
use Rattle.end_run.specs.Outcome.{AreToCome, Does, RunsOver}
use Rattle.end_run.specs.Pieces.{Piece}
use Rattle.end_run.specs.Scenes.{StopAt}
use Rattle.end_run.specs.Script.{ScriptLine}
use Rattle.end_run.specs.declared.ending.Ending.{Ending}
use Rattle.end_run.specs.declared.ending.Ending.TheVariants as ending
use Rattle.gemline_app.specs.Files.{plan_refusal}
use Rattle.gemline_app.specs.Gemline.{ComesOnInput}
use Rattle.gemline_app.specs.Laws.{Hinders, IsInputDue, IsLinkedDue, IsTextDue, LinkedAsks, RunAsks, ScriptAsks}
use Rattle.gemline_app.specs.LinkTold.{LinkTold}
use Rattle.gemline_app.specs.Linked.{LinkedComes, ScriptComes, ScriptRuns, after_run, before_run, outcome_with}
use Rattle.gemline_app.specs.Words.{script_limit}
use Rattle.gemline_app.specs.Written.{IsUntouched}
use Rattle.gemline_app.specs.declared.outcome.FileRole.TheVariants as role
use Rattle.gemline_app.specs.declared.outcome.Outcome.{Outcome}
use Rattle.gemline_app.specs.declared.outcome.Outcome.TheVariants.{DiskFailed}
use Rattle.gemline_app.proofs.InputDue.{input_due}
use Rattle.gemline_app.proofs.ReplayDue.{Comes, Refused, failed, hindered, is_no_memory, no_fault, no_plans, one_fault, one_plan, refused, whole_is}

one_ending : (one other : Ending) → Some one ≡ Some other → one ≡ other
one_ending one other same = cc

-- the answers that were to come, where the link told them
answers_are : (told : Option LinkContents) (contents : LinkContents) (answers : List LinkIn) → AreToCome told answers
    → told ≡ Some contents → contents.left ≡ answers
answers_are told contents answers to_come is = subst (λ (t : Option LinkContents). AreToCome t answers) is to_come

module _ (source : SourceTold) (files : FilesTold) (disk : DiskTold) (link : LinkTold) (out : SinkTold) where
  -- ---- a run of an end, where a fault of its disk was counted if it failed

  module _ {S C : Type 0} (full : Outcome) (end left : S) (room : Asked) (stop : Option (StopAt S C)) where
    ended_due :
        (how : Option Ending) (acts : List (Act S C)) (ended wanted : Ending)
        → (ended ≡ ending.DiskFailed → Hinders source files disk link out DiskFailed)
        → Does (before_run link out end) (after_run link out left room stop) how acts (Some ended)
        → how ≡ Some wanted → Comes source files disk link out (outcome_with full ended) (outcome_with full wanted)
    ended_due how acts ending.Stopped wanted on_disk (at, did) is =
        inl (ap (outcome_with full) (one_ending ending.Stopped wanted (sym at ∙ is)))
    ended_due how acts ending.Closed wanted on_disk (at, did) is =
        inl (ap (outcome_with full) (one_ending ending.Closed wanted (sym at ∙ is)))
    ended_due how acts ending.Turns wanted on_disk (at, did) is =
        inl (ap (outcome_with full) (one_ending ending.Turns wanted (sym at ∙ is)))
    ended_due how acts ending.NumbersSpent wanted on_disk (at, made, spent) is =
        inl (ap (outcome_with full) (one_ending ending.NumbersSpent wanted (sym at ∙ is)))
    ended_due how acts ending.Full wanted on_disk (at, made, spent) is =
        inl (ap (outcome_with full) (one_ending ending.Full wanted (sym at ∙ is)))
    ended_due how acts ending.DiskFailed wanted on_disk fails is = inr (on_disk refl)
    ended_due how acts ending.LinkFailed wanted on_disk fails is = inr fails.fault.rose
    ended_due how acts ending.WriteFailed wanted on_disk fails is = inr fails.fault.rose
    ended_due how acts ending.NoMemory wanted on_disk part is = inr tt

    pub run_due :
        (run : List LinkIn → Piece S C) (ended : Ending) (outcome due : Outcome) → outcome ≡ outcome_with full ended
        → (ended ≡ ending.DiskFailed → Hinders source files disk link out DiskFailed)
        → RunsOver (before_run link out end) (after_run link out left room stop) run ended → RunAsks full run link due
        → Comes source files disk link out outcome due
    run_due run ended outcome due outcome_is on_disk runs (contents, wanted, told, ends, is_due) =
        let same = answers_are link.before contents runs.answers runs.to_come told in
        let ends_so = ap (λ (answers : List LinkIn). (run answers).ended) (sym same) ∙ ends in
        subst (λ (o : Outcome). Comes source files disk link out o due) (sym outcome_is)
        (subst (λ (o : Outcome). Comes source files disk link out (outcome_with full ended) o) (sym is_due)
        (ended_due _ _ ended wanted on_disk runs.runs ends_so))

  -- ---- a command that does this of the lines of its script, which ask for that

  module _ (end : Side) (Idle : Type 0) (Was : Plans → List ScriptLine → Type 0)
      (Asks : Plans → List ScriptLine → Outcome → Type 0) (outcome due : Outcome) (untouched : Idle → IsUntouched out)
      (each : (plans : Plans) (lines : List ScriptLine) → Was plans lines → Asks plans lines due
      → Comes source files disk link out outcome due)
    where
      script_due :
          (plans : Plans) (text : List ℕ) → ScriptRuns end Idle (Was plans) text outcome
          → ScriptAsks end (Asks plans) text due → Comes source files disk link out outcome due
      script_due plans text runs (inl (lines, is, asks)) = elim (runs.only lines is) [
        | inl was ↦ each plans lines was asks
        | inr memory ↦ inr (hindered source files disk link out outcome memory.0)
      ]
      script_due plans text runs (inr (number, at, is_due)) = elim (runs.outside number at).0 [
        | inl named ↦ inl (named ∙ sym is_due)
        | inr memory ↦ inr (hindered source files disk link out outcome memory)
      ]

      as_input :
          (plans : Plans) → ScriptComes end Idle (Was plans) source outcome
          → ComesOnInput script_limit (λ text o found. ScriptRuns end Idle (Was plans) text outcome) source out outcome
      as_input plans (inl (refuses, idle)) = inl (refuses, untouched idle)
      as_input plans (inr read) = inr read

      bad_due :
          (bytes : List ℕ) (fault : ConfigFault) → IsReadAs bytes (Err fault) → outcome ≡ plan_refusal fault
          → LinkedAsks end Asks source bytes due → Comes source files disk link out outcome due
      bad_due bytes plan_fault.NoMemory read is asks = inr (hindered source files disk link out outcome is)
      bad_due bytes (plan_fault.Key key what) read is (inl (k, w, means, is_due)) =
          let same = one_fault _ _ (read.only (is_refused k w) means (is_no_memory key what)) in
          inl (is ∙ sym (ap plan_refusal same) ∙ sym is_due)
      bad_due bytes (plan_fault.Key key what) read is (inr (plans, means, asks)) =
          absurd (no_plans plans _ (read.only (Ok plans) means (is_no_memory key what)))

      plans_due :
          (bytes : List ℕ) (plans : Plans) → IsReadAs bytes (Ok plans)
          → ScriptComes end Idle (Was plans) source outcome → LinkedAsks end Asks source bytes due
          → Comes source files disk link out outcome due
      plans_due bytes plans read comes (inl (key, what, means, is_due)) =
          absurd (no_fault plans _ (read.only (is_refused key what) means))
      plans_due bytes plans read comes (inr (meant, means, asks)) =
          input_due script_limit (λ text o found. ScriptRuns end Idle (Was plans) text outcome)
          (ScriptAsks end (Asks plans)) source files disk link out outcome due
          (λ text runs asked. script_due plans text runs asked) (as_input plans comes)
          (subst (λ (p : Plans). IsInputDue script_limit (ScriptAsks end (Asks p)) source due)
          (one_plan meant plans (read.only (Ok meant) means)) asks)

      unread_due : (bytes : List ℕ) → Refused role.Plan bytes files outcome → IsTextDue end Asks source bytes due
          → Comes source files disk link out outcome due
      unread_due bytes (inl (longer, past)) (inl (_, is)) = inl (longer ∙ sym is)
      unread_due bytes (inl (longer, past)) (inr (within, asks)) = absurd (omega arith)
      unread_due bytes (inr (inl (found, is, rose))) is_due =
          inr (failed source files disk link out outcome found is rose)
      unread_due bytes (inr (inr memory)) is_due = inr (hindered source files disk link out outcome memory)

      by_text :
          (plan bytes : List ℕ) → told_file plan files.before ≡ Some bytes
          → LinkedComes end Idle Was plan source files outcome → IsTextDue end Asks source bytes due
          → Comes source files disk link out outcome due
      by_text plan bytes told (inl (inl refuses, unread, idle)) is_due =
          unread_due bytes (refused role.Plan plan bytes files outcome told refuses) is_due
      by_text plan bytes told (inl (inr bad, unread, idle)) (inl (past, is)) =
          let within = (whole_is role.Plan plan bytes bad.bytes files told bad.read).1 in absurd (omega arith)
      by_text plan bytes told (inl (inr bad, unread, idle)) (inr (within, asks)) =
          let same = (whole_is role.Plan plan bytes bad.bytes files told bad.read).0 in
          bad_due bad.bytes bad.fault bad.is bad.refused
          (subst (λ (b : List ℕ). LinkedAsks end Asks source b due) same asks)
      by_text plan bytes told (inr (plans, are, comes)) (inl (past, is)) =
          let within = (whole_is role.Plan plan bytes are.bytes files told are.read).1 in absurd (omega arith)
      by_text plan bytes told (inr (plans, are, comes)) (inr (within, asks)) =
          let same = (whole_is role.Plan plan bytes are.bytes files told are.read).0 in
          plans_due are.bytes plans are.is comes
          (subst (λ (b : List ℕ). LinkedAsks end Asks source b due) same asks)

      pub linked_due :
          (plan : List ℕ) → LinkedComes end Idle Was plan source files outcome
          → IsLinkedDue end Asks plan source files due → Comes source files disk link out outcome due
      linked_due plan comes (bytes, told, is_due) = by_text plan bytes told comes is_due
