-- The sizes of the messages of a list, as it is decided, and as the disk has it (this profile).
use Rattle.std.specs.Prelude.{◌≡◌, ℕ, ◌≤◌, refl, List, [], ◌∷◌, ◌++◌, drop, fold, length, sum, take}
use Rattle.std.specs.Coded.{Coded, code_by, coded×, coded_list, coded_ℕ}
use Rattle.gem_spool.specs.declared.works.Work.{Work}
use Rattle.gem_spool.specs.declared.works.Work.TheVariants as work
use Rattle.spool_file.specs.Sizes.{slots_for}

-- those of the disk's list, and those that are decided
pub record SizesView : Type 0 where
  pub stood : List ℕ
  pub now : List ℕ

abbrev pub sized : (stood now : List ℕ) → SizesView
sized stood now = record { stood = stood; now = now }

abbrev pub sizes_code : Coded SizesView
sizes_code =
    code_by (List ℕ × List ℕ) (coded× (coded_list coded_ℕ) (coded_list coded_ℕ)) (λ v. (v.stood, v.now))
    (λ p. sized p.0 p.1) (λ _. refl)

-- of a row of sizes so many at the front have left, and so many are those of the disk
abbrev pub sizes_in : List ℕ → (gone stood : ℕ) → SizesView
sizes_in each gone stood = sized (take stood each) (drop gone each)

pub record AreSizes (each : List ℕ) (gone stood used : ℕ) : Type 0 where
  pub left : gone ≤ length each
  pub there : stood ≤ length each
  pub used_is : used ≡ sum (drop gone each)
  pub room : sum (drop gone each) ≤ 65535
  pub most : length (drop gone each) ≤ 65535

-- ---- works by sizes

-- how many slots the oldest takes
abbrev pub oldest_of : List ℕ → ℕ
oldest_of [] = 0
oldest_of (size ∷ sizes) = size

-- the sizes behind a work, and behind all of some
abbrev pub sizes_after : List ℕ → Work → List ℕ
sizes_after sizes (work.Put stream function body) = sizes ++ slots_for (length body) ∷ []
sizes_after sizes (work.DropOldest slots) = drop 1 sizes
sizes_after sizes work.Purge = []

abbrev pub all_sizes_after : List ℕ → List Work → List ℕ
all_sizes_after = fold sizes_after

-- a drop frees the slots of the oldest message, and each does so in its turn
abbrev pub IsSizedBy : List ℕ → Work → Type 0
IsSizedBy sizes (work.Put stream function body) = Unit {0}
IsSizedBy sizes (work.DropOldest slots) = slots ≡ oldest_of sizes
IsSizedBy sizes work.Purge = Unit {0}

abbrev pub AreSizedBy : List ℕ → List Work → Type 0
AreSizedBy sizes [] = Unit {0}
AreSizedBy sizes (one ∷ works) = IsSizedBy sizes one × AreSizedBy (sizes_after sizes one) works
