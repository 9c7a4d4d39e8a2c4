-- Which outcome of `replay` is due.
use Rattle.std.proofs.Common.{◌≡◌, ◌≢◌, ◌⊎◌, ◌<◌, ◌≤◌, ℕ, List, length, Option, Some, None, Ok, Err, refl, sym, ap, subst, ◌∙◌, inl, inr, arith}
use Rattle.gl_base.specs.Faults.{Rose}
use Rattle.gl_base.specs.Files.{ReadsFile, ReadsFileOf, told_file}
use Rattle.gl_base.specs.declared.files.FileAnswer.{FileAnswer}
use Rattle.gl_base.specs.declared.files.FileAnswer.TheVariants as file
use Rattle.gl_base.specs.declared.files.MemFile.{MemFile}
use Rattle.gl_base.specs.Told.{FilesTold, SinkTold, SourceTold}
use Rattle.spool_show.specs.Told.{DiskTold}
use Rattle.line_schedule.specs.declared.schedule.JournalSchedule.{JournalSchedule}
use Rattle.line_schedule.specs.declared.schedule.Schedule.{Schedule}
use Rattle.end_pair.specs.declared.answers.RunEnd.{RunEnd}
use Rattle.end_pair.specs.declared.answers.RunEnd.TheVariants as end
use Rattle.end_pair.specs.declared.answers.WorldStep.{WorldStep}
use Rattle.end_pair.specs.declared.answers.WorldStep.TheVariants as went
use Rattle.end_pair.specs.Laws.{EndsOneWay}
use Rattle.end_pair.specs.Run.{Runs}
use Rattle.end_pair.proofs.FiveWays.{carried-out, five-ways, not-full}
use Rattle.tool_step.specs.End as equipment
use Rattle.host_node.specs.Host as host
use Rattle.journal_node.specs.End as journal_end
use Rattle.journal_world.specs.Run as journaled
use Rattle.line_world.specs.Run.{equipment_start, host_start, log_of, trace_text, went_of}
use Rattle.trace_log.specs.Log.{Entry}
use Rattle.equipment_tables.specs.declared.plan.Plans.{Plans}
use Rattle.gem_config.specs.Plans.{IsReadAs}
use Rattle.gem_config.specs.Reading.{Read, refused as is_refused}
use Rattle.gem_config.specs.declared.fault.ConfigFault.{ConfigFault}
use Rattle.gem_config.specs.declared.fault.ConfigFault.TheVariants as plan_fault
use Rattle.gem_config.specs.declared.fault.ConfigWhat.{ConfigWhat}
use Rattle.gemline_app.specs.LinkTold.{LinkTold}
use Rattle.gemline_app.specs.Laws.{Hinders, IsJournalRunDue, IsPlanDue, IsRunDue, IsScheduleDue, PlanAsks, ScheduleAsks}
use Rattle.gemline_app.specs.Files.{FileRefuses, WasFile, plan_refusal}
use Rattle.gemline_app.specs.Replay.{ReplayComes, ScheduleComes, ScheduleRuns, TextRuns, end_with, files_since, files_until}
use Rattle.gemline_app.specs.Words.{file_limit}
use Rattle.gemline_app.specs.declared.outcome.FileRole.{FileRole}
use Rattle.gemline_app.specs.declared.outcome.FileRole.TheVariants as role
use Rattle.gemline_app.specs.declared.outcome.Outcome.{Outcome}
use Rattle.gemline_app.specs.declared.outcome.Outcome.TheVariants.{Done, Usage, BadFrame, BadText, BadHex, BadItem, BadLine, Longer, FileLonger, FileFailed, ReadFailed, NoMemory, WriteFailed, TurnsSpent, NumbersSpent, Slip, DiskFailed, NotSpool, BadPlan, BadScript, LinkFailed, JournalFull}

-- what reading a file came to, where the files tell its bytes
told_answer : (limit : ℕ) (name bytes : List ℕ) (told : Option (List MemFile)) (answer : FileAnswer)
    → told_file name told ≡ Some bytes
    → ReadsFile limit name told answer → ReadsFileOf limit (Some bytes) answer
told_answer limit name bytes None answer is reads = cc
told_answer limit name bytes (Some files) answer is reads =
    subst (λ (f : Option (List ℕ)). ReadsFileOf limit f answer) is reads

-- a file was longer than its limit, or its reading failed, or memory ran out
abbrev pub Refused : FileRole → List ℕ → FilesTold → Outcome → Type 0
Refused which bytes files outcome =
    ((outcome ≡ FileLonger which) × (file_limit which < length bytes))
    ⊎ (((found : FileRole) × (outcome ≡ FileFailed found) × Rose files.health.faults files.health_after.faults)
    ⊎ (outcome ≡ NoMemory))

longer_than : (limit : ℕ) (bytes found : List ℕ) → Some bytes ≡ Some found → limit < length found → limit < length bytes
longer_than limit bytes found same past = let is : bytes ≡ found = cc in omega (arith, ap length is)

pub refused : (which : FileRole) (name bytes : List ℕ) (files : FilesTold) (outcome : Outcome)
    → told_file name files.before ≡ Some bytes
    → FileRefuses which name files outcome → Refused which bytes files outcome
refused which name bytes files (FileLonger found) told (same, was) =
    let read = told_answer (file_limit which) name bytes files.before file.Longer told was.bytes in
    inl (ap (λ (w : FileRole). FileLonger w) same, longer_than (file_limit which) bytes read.0 read.1 read.2)
refused which name bytes files (FileFailed found) told (same, was) = inr (inl (found, refl, was.cause.rose))
refused which name bytes files NoMemory told was = inr (inr refl)
refused which name bytes files Done told refuses = absurd refuses
refused which name bytes files Usage told refuses = absurd refuses
refused which name bytes files (BadFrame named) told refuses = absurd refuses
refused which name bytes files (BadText at) told refuses = absurd refuses
refused which name bytes files (BadHex at) told refuses = absurd refuses
refused which name bytes files (BadItem fault) told refuses = absurd refuses
refused which name bytes files (BadLine number) told refuses = absurd refuses
refused which name bytes files Longer told refuses = absurd refuses
refused which name bytes files ReadFailed told refuses = absurd refuses
refused which name bytes files WriteFailed told refuses = absurd refuses
refused which name bytes files TurnsSpent told refuses = absurd refuses
refused which name bytes files NumbersSpent told refuses = absurd refuses
refused which name bytes files DiskFailed told refuses = absurd refuses
refused which name bytes files (NotSpool at) told refuses = absurd refuses
refused which name bytes files Slip told refuses = absurd refuses
refused which name bytes files (BadPlan key what) told refuses = absurd refuses
refused which name bytes files (BadScript number) told refuses = absurd refuses
refused which name bytes files LinkFailed told refuses = absurd refuses
refused which name bytes files JournalFull told refuses = absurd refuses

-- a file that was read whole
pub whole_is : (which : FileRole) (name bytes found : List ℕ) (files : FilesTold)
    → told_file name files.before ≡ Some bytes
    → WasFile which name files (file.Whole found) → (bytes ≡ found) × (length bytes ≤ file_limit which)
whole_is which name bytes found files told was =
    let read = told_answer (file_limit which) name bytes files.before (file.Whole found) told was.bytes in
    let same : bytes ≡ found = go read.0 in
    (same, omega (arith, ap length same, read.1))
  where
    go : Some bytes ≡ Some found → bytes ≡ found
    go is = cc

-- the outcome is the one that is due, or hinders it
abbrev pub Comes : SourceTold → FilesTold → DiskTold → LinkTold → SinkTold → Outcome → Outcome → Type 0
Comes source files disk link out outcome due = (outcome ≡ due) ⊎ Hinders source files disk link out outcome

pub hindered : (source : SourceTold) (files : FilesTold) (disk : DiskTold) (link : LinkTold) (out : SinkTold)
    (outcome : Outcome) → outcome ≡ NoMemory → Hinders source files disk link out outcome
hindered source files disk link out outcome is = subst (Hinders source files disk link out) (sym is) tt

pub failed : (source : SourceTold) (files : FilesTold) (disk : DiskTold) (link : LinkTold) (out : SinkTold)
    (outcome : Outcome) (found : FileRole) → outcome ≡ FileFailed found
    → Rose files.health.faults files.health_after.faults → Hinders source files disk link out outcome
failed source files disk link out outcome found is rose = subst (Hinders source files disk link out) (sym is) rose

-- ---- a schedule that was carried out

-- the outcome of how a run goes, which it does in the first five of these ways alone, where a full store is this one
abbrev pub outcome_of_run : (full : Outcome) → WorldStep → Outcome
outcome_of_run full went.Went = Done
outcome_of_run full went.Slip = Slip
outcome_of_run full went.Turns = TurnsSpent
outcome_of_run full went.NumbersSpent = NumbersSpent
outcome_of_run full went.JournalFull = full
outcome_of_run full (went.PowerLost side) = NoMemory
outcome_of_run full went.NoMemory = NoMemory

run-due : (full : Outcome) (how : WorldStep) (log : List Entry) (due : Outcome) → EndsOneWay how log
    → how ≢ went.JournalFull → IsRunDue how log due → due ≡ outcome_of_run full how
run-due full how log due ends not_full (inl (slip, is)) = is ∙ sym (ap (outcome_of_run full) (ends.slip.1 slip))
run-due full how log due ends not_full (inr (inl (turns, is))) = is ∙ sym (ap (outcome_of_run full) turns)
run-due full how log due ends not_full (inr (inr (inl (spent, is)))) = is ∙ sym (ap (outcome_of_run full) spent)
run-due full how log due ends not_full (inr (inr (inr (no_slip, no_turns, no_numbers, is)))) =
    is ∙ sym (ap (outcome_of_run full) (carried-out how log ends no_slip no_turns no_numbers not_full))

-- neither end has a store of its own that could be full
never-full : (plans : Plans) (schedule : Schedule) → went_of plans schedule ≢ went.JournalFull
never-full plans schedule =
    not-full equipment.machine host.host_machine (equipment_start plans) (host_start plans.host) schedule.events
    (λ s input now. refl) (λ s input now. refl)

pub schedule-due : (plans : Plans) (schedule : Schedule) (due : Outcome)
    → IsRunDue (went_of plans schedule) (log_of plans schedule) due
    → due ≡ outcome_of_run NoMemory (went_of plans schedule)
schedule-due plans schedule due =
    run-due NoMemory (went_of plans schedule) (log_of plans schedule) due
    (five-ways equipment.machine host.host_machine (equipment_start plans) (host_start plans.host) schedule.events)
    (never-full plans schedule)

-- a journal may be full
full-due : (how : WorldStep) (log : List Entry) (due : Outcome) → EndsOneWay how log → IsJournalRunDue how log due
    → due ≡ outcome_of_run JournalFull how
full-due how log due ends (inl (full, is)) = is ∙ sym (ap (outcome_of_run JournalFull) full)
full-due how log due ends (inr (not_full, is)) = run-due JournalFull how log due ends not_full is

journal-due : (plans : Plans) (slots : ℕ) (schedule : JournalSchedule) (due : Outcome)
    → IsJournalRunDue (journaled.went_of plans slots schedule) (journaled.log_of plans slots schedule) due
    → due ≡ outcome_of_run JournalFull (journaled.went_of plans slots schedule)
journal-due plans slots schedule due =
    full-due (journaled.went_of plans slots schedule) (journaled.log_of plans slots schedule) due
    (five-ways equipment.machine journal_end.machine (equipment_start plans) (journaled.host_start plans.host slots)
    schedule.events)

module _ (source : SourceTold) (files : FilesTold) (disk : DiskTold) (link : LinkTold) (out : SinkTold)
    (outcome due : Outcome) where
  ended_due :
      (full : Outcome) (text : List ℕ) (how : WorldStep) (ended : RunEnd) → outcome ≡ end_with full ended
      → Runs out text how ended → due ≡ outcome_of_run full how → Comes source files disk link out outcome due
  ended_due full text how end.Whole is (at, wrote) is_due = inl (is ∙ sym (is_due ∙ ap (outcome_of_run full) at))
  ended_due full text how end.Slip is (at, wrote) is_due = inl (is ∙ sym (is_due ∙ ap (outcome_of_run full) at))
  ended_due full text how end.Turns is (at, wrote) is_due = inl (is ∙ sym (is_due ∙ ap (outcome_of_run full) at))
  ended_due full text how end.NumbersSpent is (at, wrote) is_due =
      inl (is ∙ sym (is_due ∙ ap (outcome_of_run full) at))
  ended_due full text how end.JournalFull is (at, wrote) is_due =
      inl (is ∙ sym (is_due ∙ ap (outcome_of_run full) at))
  ended_due full text how end.NoMemory is part is_due = inr (hindered source files disk link out outcome is)
  ended_due full text how end.WriteFailed is short is_due =
      inr (subst (Hinders source files disk link out) (sym is) short.fault.rose)

  -- ---- the text of a schedule

  runs_due :
      {S : Type 0} (Is : S → Type 0) (Outside : ℕ → Type 0) (Was Asks : S → Type 0)
      → ((schedule : S) → Was schedule → Asks schedule → Comes source files disk link out outcome due)
      → ScheduleRuns Is Outside Was out outcome
      → ((schedule : S) × Is schedule × Asks schedule) ⊎ ((number : ℕ) × Outside number × (due ≡ BadLine number))
      → Comes source files disk link out outcome due
  runs_due Is Outside Was Asks each runs (inl (schedule, is, asks)) = elim (runs.only schedule is) [
    | inl was ↦ each schedule was asks
    | inr memory ↦ inr (hindered source files disk link out outcome memory.0)
  ]
  runs_due Is Outside Was Asks each runs (inr (n, at, is_due)) = elim (runs.outside n at).0 [
    | inl named ↦ inl (named ∙ sym is_due)
    | inr memory ↦ inr (hindered source files disk link out outcome memory)
  ]

  text_due : (journal : Option ℕ) (plans : Plans) (text : List ℕ) → TextRuns journal plans text out outcome
      → ScheduleAsks journal plans text due → Comes source files disk link out outcome due
  text_due None plans text runs asks =
      runs_due _ _ _ (λ schedule. IsRunDue (went_of plans schedule) (log_of plans schedule) due)
      (λ schedule was is_due.
      ended_due NoMemory (trace_text plans schedule) (went_of plans schedule) was.ended was.outcome_is was.wrote
      (schedule-due plans schedule due is_due))
      runs asks
  text_due (Some slots) plans text runs asks =
      runs_due _ _ _
      (λ schedule.
      IsJournalRunDue (journaled.went_of plans slots schedule) (journaled.log_of plans slots schedule) due)
      (λ schedule was is_due.
      ended_due JournalFull (journaled.trace_text plans slots schedule) (journaled.went_of plans slots schedule)
      was.ended was.outcome_is was.wrote (journal-due plans slots schedule due is_due))
      runs asks

-- ---- both files

schedule_due :
    (source : SourceTold) (files later : FilesTold) (disk : DiskTold) (link : LinkTold) (out : SinkTold) (plans : Plans)
    (journal : Option ℕ) (name text : List ℕ) (outcome due : Outcome)
    → later.health.faults ≡ files.health.faults → later.health_after ≡ files.health_after
    → told_file name later.before ≡ Some text → ScheduleComes journal plans name later out outcome
    → IsScheduleDue journal plans text due → Comes source files disk link out outcome due
schedule_due source files later disk link out plans journal name text outcome due since same told (inl (refuses, untouched))
    is_due =
    go (refused role.Schedule name text later outcome told refuses) is_due
  where
    go : Refused role.Schedule text later outcome → IsScheduleDue journal plans text due
        → Comes source files disk link out outcome due
    go (inl (longer, past)) (inl (also, is)) = inl (longer ∙ sym is)
    go (inl (longer, past)) (inr (within, asks)) = absurd (omega arith)
    go (inr (inl (found, is, rose))) due_is =
        inr (failed source files disk link out outcome found is
        (subst (λ (n : ℕ). Rose n files.health_after.faults) since
        (subst (λ h. Rose later.health.faults h.faults) same rose)))
    go (inr (inr memory)) due_is = inr (hindered source files disk link out outcome memory)
schedule_due source files later disk link out plans journal name text outcome due since same told (inr (whole, was, runs))
    is_due =
    go is_due
  where
    read : (text ≡ whole) × (length text ≤ file_limit role.Schedule)
    read = whole_is role.Schedule name text whole later told was

    go : IsScheduleDue journal plans text due → Comes source files disk link out outcome due
    go (inl (past, is)) = let within = read.1 in absurd (omega arith)
    go (inr (within, asks)) =
        text_due source files disk link out outcome due journal plans text
        (subst (λ (t : List ℕ). TextRuns journal plans t out outcome) (sym read.0) runs) asks

-- what a plan was read as
abbrev pub read_plan : Plans → Read Plans
read_plan plans = Ok plans

abbrev pub read_fault : ConfigFault → Read Plans
read_fault fault = Err fault

pub no_plans : (plans : Plans) (fault : ConfigFault) → read_plan plans ≡ read_fault fault → ⊥
no_plans plans fault same = cc

pub no_fault : (plans : Plans) (fault : ConfigFault) → read_fault fault ≡ read_plan plans → ⊥
no_fault plans fault same = cc

pub one_plan : (one other : Plans) → read_plan one ≡ read_plan other → one ≡ other
one_plan one other same = cc

pub one_fault : (one other : ConfigFault) → read_fault one ≡ read_fault other → one ≡ other
one_fault one other same = cc

pub is_no_memory : (key : List ℕ) (what : ConfigWhat) → plan_fault.Key key what ≢ plan_fault.NoMemory
is_no_memory key what same = cc

module _ (source : SourceTold) (files later : FilesTold) (disk : DiskTold) (link : LinkTold) (out : SinkTold)
    (journal : Option ℕ) (bytes schedule : List ℕ)
    (outcome due : Outcome) where
  -- a plan that is refused so, where it asks for this
  refusal_due :
      (fault : ConfigFault) → IsReadAs bytes (Err fault) → outcome ≡ plan_refusal fault
      → PlanAsks journal schedule files bytes due → Comes source files disk link out outcome due
  refusal_due plan_fault.NoMemory read is asks = inr (hindered source files disk link out outcome is)
  refusal_due (plan_fault.Key key what) read is (inl (k, w, means, is_due)) =
      let same = one_fault _ _ (read.only (is_refused k w) means (is_no_memory key what)) in
      inl (is ∙ sym (ap plan_refusal same) ∙ sym is_due)
  refusal_due (plan_fault.Key key what) read is (inr (plans, text, means, told, rest)) =
      absurd (no_plans plans _ (read.only (Ok plans) means (is_no_memory key what)))

  -- a plan that means these plans, where it asks for this
  plans_due :
      (plans : Plans) → later.health.faults ≡ files.health.faults → later.health_after ≡ files.health_after
      → later.before ≡ files.before → IsReadAs bytes (Ok plans) → ScheduleComes journal plans schedule later out outcome
      → PlanAsks journal schedule files bytes due → Comes source files disk link out outcome due
  plans_due plans since same before read comes (inl (key, what, means, is_due)) =
      absurd (no_fault plans _ (read.only (is_refused key what) means))
  plans_due plans since same before read comes (inr (meant, text, means, told, rest)) =
      schedule_due source files later disk link out plans journal schedule text outcome due since same
      (ap (told_file schedule) before ∙ told) comes
      (subst (λ (p : Plans). IsScheduleDue journal p text due) (one_plan meant plans (read.only (Ok meant) means)) rest)

pub replay_due :
    (source : SourceTold) (files : FilesTold) (disk : DiskTold) (link : LinkTold) (out : SinkTold)
    (journal : Option ℕ) (plan schedule bytes : List ℕ)
    (outcome due : Outcome)
    → told_file plan files.before ≡ Some bytes → ReplayComes journal plan schedule files out outcome
    → IsPlanDue journal schedule files bytes due → Comes source files disk link out outcome due
replay_due source files disk link out journal plan schedule bytes outcome due told (inl (inl refuses, untouched)) is_due =
    go (refused role.Plan plan bytes files outcome told refuses) is_due
  where
    go : Refused role.Plan bytes files outcome → IsPlanDue journal schedule files bytes due
        → Comes source files disk link out outcome due
    go (inl (longer, past)) (inl (_, is)) = inl (longer ∙ sym is)
    go (inl (longer, past)) (inr (within, asks)) = absurd (omega arith)
    go (inr (inl (found, is, rose))) due_is = inr (failed source files disk link out outcome found is rose)
    go (inr (inr memory)) due_is = inr (hindered source files disk link out outcome memory)
replay_due source files disk link out journal plan schedule bytes outcome due told (inl (inr bad, untouched)) is_due = go is_due
  where
    read : (bytes ≡ bad.bytes) × (length bytes ≤ file_limit role.Plan)
    read = whole_is role.Plan plan bytes bad.bytes files told bad.read

    go : IsPlanDue journal schedule files bytes due → Comes source files disk link out outcome due
    go (inl (past, is_longer)) = let within = read.1 in absurd (omega arith)
    go (inr (within, asks)) =
        refusal_due source files files disk link out journal bad.bytes schedule outcome due bad.fault bad.is bad.refused
        (subst (λ (b : List ℕ). PlanAsks journal schedule files b due) read.0 asks)
replay_due source files disk link out journal plan schedule bytes outcome due told (inr over) is_due = go is_due
  where
    first : FilesTold
    first = files_until files over.told over.health

    read : (bytes ≡ over.are.bytes) × (length bytes ≤ file_limit role.Plan)
    read = whole_is role.Plan plan bytes over.are.bytes first told over.are.read

    go : IsPlanDue journal schedule files bytes due → Comes source files disk link out outcome due
    go (inl (past, is_longer)) = let within = read.1 in absurd (omega arith)
    go (inr (within, asks)) =
        plans_due source files (files_since files over.told over.health) disk link out journal over.are.bytes schedule
        outcome
        due
        over.plans over.are.read.cause.same refl over.are.read.same over.are.is over.rest
        (subst (λ (b : List ℕ). PlanAsks journal schedule files b due) read.0 asks)
