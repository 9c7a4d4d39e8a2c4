-- Lines of a step that leave the setup of the equipment as it is.
use Rattle.std.proofs.Common.{◌≡◌, refl, ◌∙◌, Bool, true, false, List, [], ◌∷◌, Option}
use Rattle.message_end.specs.Course.{noted_behind}
use Rattle.setup_law.specs.Setup.{keeping_in, list_in}
use Rattle.setup_store.specs.Entries.{Entry}
use Rattle.trace_log.specs.Log.{Happening, is_before_change}
use Rattle.tool_law.proofs.CommandWalks.{AllAre}

-- it stands before a change of what the file of the equipment keeps, or behind a keep, or tells what a start has found
abbrev pub tells_of_file : Happening → Bool
tells_of_file (Happening.Storing number message) = true
tells_of_file (Happening.Leaving number why room_for) = true
tells_of_file (Happening.Keeping primary) = true
tells_of_file (Happening.Listing number listed) = true
tells_of_file (Happening.Kept primary) = true
tells_of_file (Happening.Setup found) = true
tells_of_file _ = false

pub before-none : (what : Happening) → tells_of_file what ≡ false → is_before_change what ≡ false
before-none (Happening.Storing number message) none = absurd (cc)
before-none (Happening.Leaving number why room_for) none = absurd (cc)
before-none (Happening.Keeping primary) none = absurd (cc)
before-none (Happening.Listing number listed) none = absurd (cc)
before-none what none = refl

-- no setup is found, and no primary is kept or being kept
abbrev pub IsStill : Happening → Type 0
IsStill (Happening.Setup found) = ⊥
IsStill (Happening.Keeping primary) = ⊥
IsStill (Happening.Kept primary) = ⊥
IsStill _ = Unit {0}

pub still-none : (what : Happening) → tells_of_file what ≡ false → IsStill what
still-none (Happening.Setup found) none = absurd (cc)
still-none (Happening.Keeping primary) none = absurd (cc)
still-none (Happening.Kept primary) none = absurd (cc)
still-none what none = tt

abbrev pub AreStill : List Happening → Type 0
AreStill lines = AllAre IsStill lines

-- so the list that is kept stands behind them as before
still-list : (held : Option (List Entry)) (what : Happening) (notes : List Happening) → IsStill what
    → list_in held (what ∷ notes) ≡ list_in held notes
still-list held (Happening.Setup found) notes still = absurd still
still-list held (Happening.Keeping primary) notes still = absurd still
still-list held (Happening.Kept primary) notes still = absurd still
still-list held what notes still = refl

pub list-stays : (held : Option (List Entry)) (lines notes : List Happening) → AreStill lines
    → list_in held (noted_behind lines notes) ≡ list_in held notes
list-stays held [] notes still = refl
list-stays held (what ∷ lines) notes still =
    list-stays held lines (what ∷ notes) still.1 ∙ still-list held what notes still.0

-- and so does what is being kept
still-keeping : (what : Happening) (notes : List Happening) → IsStill what
    → keeping_in (what ∷ notes) ≡ keeping_in notes
still-keeping (Happening.Setup found) notes still = absurd still
still-keeping (Happening.Keeping primary) notes still = absurd still
still-keeping (Happening.Kept primary) notes still = absurd still
still-keeping what notes still = refl

pub keeping-stays : (lines notes : List Happening) → AreStill lines
    → keeping_in (noted_behind lines notes) ≡ keeping_in notes
keeping-stays [] notes still = refl
keeping-stays (what ∷ lines) notes still =
    keeping-stays lines (what ∷ notes) still.1 ∙ still-keeping what notes still.0
