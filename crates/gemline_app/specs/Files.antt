-- What reading a file came to, and a plan in one (this profile).
use Rattle.std.specs.Prelude.{◌≡◌, ◌⊎◌, ℕ, List, Result, Ok, Err}
use Rattle.gl_base.specs.Files.{HasFileCause, ReadsFile, told_file}
use Rattle.gl_base.specs.declared.files.FileAnswer.{FileAnswer}
use Rattle.gl_base.specs.declared.files.FileAnswer.TheVariants as file
use Rattle.gl_base.specs.Told.{FilesTold}
use Rattle.equipment_tables.specs.declared.plan.Plans.{Plans}
use Rattle.gem_config.specs.Plans.{IsReadAs}
use Rattle.gem_config.specs.declared.fault.ConfigFault.{ConfigFault}
use Rattle.gem_config.specs.declared.fault.ConfigFault.TheVariants as plan_fault
use Rattle.gemline_app.specs.Words.{file_limit}
use Rattle.gemline_app.specs.declared.outcome.FileRole.{FileRole}
use Rattle.gemline_app.specs.declared.outcome.FileRole.TheVariants as role
use Rattle.gemline_app.specs.declared.outcome.Outcome.{Outcome}
use Rattle.gemline_app.specs.declared.outcome.Outcome.TheVariants.{BadPlan, FileFailed, FileLonger, NoMemory}

-- reading a file within its limit came to this
pub record WasFile (which : FileRole) (name : List ℕ) (files : FilesTold) (answer : FileAnswer) : Type 0 where
  pub bytes : ReadsFile (file_limit which) name files.before answer
  pub same : files.after ≡ files.before
  pub cause : HasFileCause (told_file name files.before) files.health files.health_after answer

-- why a file was not read whole
abbrev pub FileRefuses : FileRole → List ℕ → FilesTold → Outcome → Type 0
FileRefuses which name files (FileLonger found) = (found ≡ which) × WasFile which name files file.Longer
FileRefuses which name files (FileFailed found) = (found ≡ which) × WasFile which name files file.Failed
FileRefuses which name files NoMemory = WasFile which name files file.NoMemory
FileRefuses which name files _ = ⊥

-- a file's bytes, or why there are none
abbrev pub FileAnswers : FileRole → List ℕ → FilesTold → Result (List ℕ) Outcome → Type 0
FileAnswers which name files (Ok bytes) = WasFile which name files (file.Whole bytes)
FileAnswers which name files (Err refusal) = FileRefuses which name files refusal

-- the refusal of a plan
abbrev pub plan_refusal : ConfigFault → Outcome
plan_refusal (plan_fault.Key key what) = BadPlan key what
plan_refusal plan_fault.NoMemory = NoMemory

-- a plan's file was read whole, and means these plans
pub record PlansAre (name : List ℕ) (files : FilesTold) (plans : Plans) : Type 0 where
  pub bytes : List ℕ
  pub read : WasFile role.Plan name files (file.Whole bytes)
  pub is : IsReadAs bytes (Ok plans)

-- why it was not, or why it is refused
pub record PlanIsBad (name : List ℕ) (files : FilesTold) (outcome : Outcome) : Type 0 where
  pub bytes : List ℕ
  pub read : WasFile role.Plan name files (file.Whole bytes)
  pub fault : ConfigFault
  pub is : IsReadAs bytes (Err fault)
  pub refused : outcome ≡ plan_refusal fault

abbrev pub PlanRefuses : List ℕ → FilesTold → Outcome → Type 0
PlanRefuses name files outcome = FileRefuses role.Plan name files outcome ⊎ PlanIsBad name files outcome

-- the plans of a file, or why there are none
abbrev pub PlanAnswers : List ℕ → FilesTold → Result Plans Outcome → Type 0
PlanAnswers name files (Ok plans) = PlansAre name files plans
PlanAnswers name files (Err refusal) = PlanRefuses name files refusal

-- the plans of a text, or why it is refused
abbrev pub TextAnswers : List ℕ → Result Plans Outcome → Type 0
TextAnswers text (Ok plans) = IsReadAs text (Ok plans)
TextAnswers text (Err refusal) = (fault : ConfigFault) × IsReadAs text (Err fault) × (refusal ≡ plan_refusal fault)
