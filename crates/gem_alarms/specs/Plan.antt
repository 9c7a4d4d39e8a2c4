-- The alarms of the plan.
use Rattle.std.specs.Prelude.{◌<◌, ◌≤◌, ℕ, Bool, List, length, map, nat_eq, All}
use Rattle.std.specs.List.{IsDistinct}
use Rattle.gem_alarms.specs.declared.plan.AlarmPlan.{AlarmPlan}

abbrev pub IsAscii : ℕ → Type 0
IsAscii character = character < 128

-- the category has seven bits, since ALCD has one bit more (SEMI E5, ALCD); the text has at most 40 characters of ASCII
-- (SEMI E5, ALTX)
pub record AlarmFits (alarm : AlarmPlan) : Type 0 where
  pub category : alarm.category < 128
  pub text : length alarm.text ≤ 40
  pub ascii : All IsAscii alarm.text

abbrev pub alids_of : List AlarmPlan → List ℕ
alids_of plan = map (λ alarm. alarm.alid) plan

-- at most 1,024 alarms (this profile), each with an ALID of its own (SEMI E5, ALID)
pub record AlarmsFit (plan : List AlarmPlan) : Type 0 where
  pub few : length plan ≤ 1024
  pub each : All AlarmFits plan
  pub distinct : IsDistinct nat_eq (alids_of plan)

-- the alarm of the plan has this ALID
abbrev pub has_alid : ℕ → AlarmPlan → Bool
has_alid alid alarm = nat_eq alid alarm.alid
