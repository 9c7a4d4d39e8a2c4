-- Keeps of a setup that can be followed by hand: their calls, what is kept behind them, and what a loss leaves at each.
use Rattle.std.specs.Prelude.{◌≡◌, ◌+◌, ◌^◌, ℕ, false, List, [], ◌∷◌, map, replicate, Option, Some}
use Rattle.disk_base.specs.declared.cut.CutChoice.{CutChoice}
use Rattle.disk_base.specs.declared.cut.CutChoice.TheVariants.{Fill, New, Old}
use Rattle.gem_spool.specs.declared.works.Work.TheVariants.{Purge}
use Rattle.gem_spool.specs.Standing.{Standing}
use Rattle.gem_spool.specs.Updates.{reads, syncs, writes}
use Rattle.spool_file.specs.Setup.{Setup}
use Rattle.spool_works.specs.DiskCalls.{all_disk_calls}
use Rattle.spool_works.specs.DiskWorks.{DiskWork, bytes_of, calls_of, set_up, standings_behind}
use Rattle.spool_works.specs.DiskWorks.DiskWork.{Change, Keep}
use Rattle.spool_works.specs.WorkedCalls.{file_with, first_copy, second_copy, then_left}
use Rattle.spool_works.specs.WorkLosses.{calls_at}

-- two slots, empty, with an area in which nothing is kept; its copies begin at 12,288 and 274,432
abbrev pub with_area : Standing
with_area = record { next = 0; file = file_with (false ∷ false ∷ []) [] }

-- S5F3 with a body of two bytes, and S2F37 with none
abbrev pub alarm : List ℕ
alarm = 5 ∷ 3 ∷ 0 ∷ 0 ∷ 0 ∷ 2 ∷ 1 ∷ 0 ∷ []

abbrev pub events : List ℕ
events = 2 ∷ 37 ∷ 0 ∷ 0 ∷ 0 ∷ 0 ∷ []

pub record CallsOfKeeps : Type 0 where
  -- the first list goes to the second copy, and the second one to the first
  pub keeps :
      all_disk_calls with_area (Keep alarm ∷ Keep events ∷ [])
      ≡ reads 47 17 ∷ writes 274432 alarm ∷ syncs
      ∷ reads 63 1 ∷ writes 55 (0 ∷ 0 ∷ 0 ∷ 1 ∷ 0 ∷ 0 ∷ 0 ∷ 8 ∷ []) ∷ syncs ∷ writes 63 (1 ∷ []) ∷ syncs
      ∷ reads 47 17 ∷ writes 12288 events ∷ syncs
      ∷ reads 63 1 ∷ writes 47 (0 ∷ 0 ∷ 0 ∷ 0 ∷ 0 ∷ 0 ∷ 0 ∷ 6 ∷ []) ∷ syncs ∷ writes 63 (0 ∷ []) ∷ syncs ∷ []
  -- where nothing is kept any more, nothing is written in the area
  pub empties :
      all_disk_calls (set_up alarm with_area) (Keep [] ∷ [])
      ≡ reads 47 17 ∷ reads 63 1 ∷ writes 47 (replicate 8 0) ∷ syncs ∷ writes 63 (0 ∷ []) ∷ syncs ∷ []
  pub eight : ◌≡◌ {A = ℕ × ℕ} (calls_of with_area (Keep alarm), bytes_of with_area (Keep alarm)) (8, 17)
  pub six : ◌≡◌ {A = ℕ × ℕ} (calls_of with_area (Keep []), bytes_of with_area (Keep [])) (6, 9)

-- the setup behind works
abbrev pub setup_behind : List DiskWork → Setup
setup_behind works = (standings_behind with_area works).file.setup

pub record KeptBehindKeeps : Type 0 where
  pub one : setup_behind (Keep alarm ∷ []) ≡ record { cell = second_copy (2 ^ 32 + 8); bytes = Some alarm }
  pub two : setup_behind (Keep alarm ∷ Keep events ∷ []) ≡ record { cell = first_copy 6; bytes = Some events }
  pub none : setup_behind (Keep alarm ∷ Keep [] ∷ []) ≡ record { cell = first_copy 0; bytes = Some [] }
  -- and no other work changes it
  pub purged : setup_behind (Keep alarm ∷ Change Purge ∷ []) ≡ setup_behind (Keep alarm ∷ [])

-- what is kept where a keep is lost, at each of its calls
abbrev pub setups_left : Standing → List ℕ → CutChoice → List (Option (List ℕ))
setups_left st bytes choice = map (λ left. (left choice).setup.bytes) (calls_at st (Keep bytes))

pub record LossesOfKeeps : Type 0 where
  pub old : setups_left with_area alarm Old ≡ replicate 8 (Some [])
  pub new : setups_left with_area alarm New ≡ then_left 6 (Some []) 2 (Some alarm)
  -- the gate names the second copy where it is odd, and that was the new one
  pub odd : setups_left with_area alarm (Fill 165) ≡ then_left 6 (Some []) 2 (Some alarm)
  pub even : setups_left with_area alarm (Fill 90) ≡ replicate 8 (Some [])
  -- and then the first copy is the new one
  pub first_odd : setups_left (set_up alarm with_area) events (Fill 165) ≡ replicate 8 (Some alarm)
  pub first_even : setups_left (set_up alarm with_area) events (Fill 90) ≡ then_left 6 (Some alarm) 2 (Some events)
  pub emptied : setups_left (set_up alarm with_area) [] New ≡ then_left 4 (Some alarm) 2 (Some [])
