-- Which primaries of the host are answered by a report: for laws of the crates above, which tell them from all others.
use Rattle.std.proofs.Common.{◌≡◌, refl, ℕ, ◌+◌, ◌%◌, Bool, true, false, ◌&&◌, ◌||◌, ◌==◌}
use Rattle.gem_shapes.specs.declared.primary.Primary.{Primary}
use Rattle.gem_shapes.specs.declared.primary.Primary.TheVariants as primary
use Rattle.gem_shapes.specs.Primaries.{stream_and_function}

-- S6F15 and S6F19 ask for a report (SEMI E5)
abbrev pub asks_for_report : Primary → Bool
asks_for_report primary.S6F15 = true
asks_for_report primary.S6F19 = true
asks_for_report _ = false

-- S6F11, S6F16 and S6F20 hold one (SEMI E5)
abbrev pub is_report : ℕ → ℕ → Bool
is_report stream function = (stream == 6) && ((function == 11) || ((function == 16) || (function == 20)))

-- the reply to any other primary holds none
pub other_reply :
    (p : Primary) → asks_for_report p ≡ false
    → is_report (stream_and_function p).0 (((stream_and_function p).1 + 1) % 256) ≡ false
other_reply primary.S1F1 is = refl
other_reply primary.S1F3 is = refl
other_reply primary.S1F11 is = refl
other_reply primary.S1F13 is = refl
other_reply primary.S1F15 is = refl
other_reply primary.S1F17 is = refl
other_reply primary.S2F13 is = refl
other_reply primary.S2F15 is = refl
other_reply primary.S2F23 is = refl
other_reply primary.S2F29 is = refl
other_reply primary.S2F33 is = refl
other_reply primary.S2F35 is = refl
other_reply primary.S2F37 is = refl
other_reply primary.S2F39 is = refl
other_reply primary.S2F41 is = refl
other_reply primary.S2F43 is = refl
other_reply primary.S5F3 is = refl
other_reply primary.S5F5 is = refl
other_reply primary.S5F7 is = refl
other_reply primary.S6F15 is = absurd cc
other_reply primary.S6F19 is = absurd cc
other_reply primary.S6F23 is = refl
other_reply primary.S7F1 is = refl
other_reply primary.S7F3 is = refl
other_reply primary.S7F5 is = refl
other_reply primary.S7F17 is = refl
other_reply primary.S7F19 is = refl
other_reply primary.S10F3 is = refl
other_reply primary.S10F5 is = refl

-- what holds of the two, and of each other one, holds of all
pub each_primary :
    (Holds : Primary → Type 0) → Holds primary.S6F15 → Holds primary.S6F19
    → ((p : Primary) → asks_for_report p ≡ false → Holds p) → (p : Primary) → Holds p
each_primary Holds event report other primary.S1F1 = other primary.S1F1 refl
each_primary Holds event report other primary.S1F3 = other primary.S1F3 refl
each_primary Holds event report other primary.S1F11 = other primary.S1F11 refl
each_primary Holds event report other primary.S1F13 = other primary.S1F13 refl
each_primary Holds event report other primary.S1F15 = other primary.S1F15 refl
each_primary Holds event report other primary.S1F17 = other primary.S1F17 refl
each_primary Holds event report other primary.S2F13 = other primary.S2F13 refl
each_primary Holds event report other primary.S2F15 = other primary.S2F15 refl
each_primary Holds event report other primary.S2F23 = other primary.S2F23 refl
each_primary Holds event report other primary.S2F29 = other primary.S2F29 refl
each_primary Holds event report other primary.S2F33 = other primary.S2F33 refl
each_primary Holds event report other primary.S2F35 = other primary.S2F35 refl
each_primary Holds event report other primary.S2F37 = other primary.S2F37 refl
each_primary Holds event report other primary.S2F39 = other primary.S2F39 refl
each_primary Holds event report other primary.S2F41 = other primary.S2F41 refl
each_primary Holds event report other primary.S2F43 = other primary.S2F43 refl
each_primary Holds event report other primary.S5F3 = other primary.S5F3 refl
each_primary Holds event report other primary.S5F5 = other primary.S5F5 refl
each_primary Holds event report other primary.S5F7 = other primary.S5F7 refl
each_primary Holds event report other primary.S6F15 = event
each_primary Holds event report other primary.S6F19 = report
each_primary Holds event report other primary.S6F23 = other primary.S6F23 refl
each_primary Holds event report other primary.S7F1 = other primary.S7F1 refl
each_primary Holds event report other primary.S7F3 = other primary.S7F3 refl
each_primary Holds event report other primary.S7F5 = other primary.S7F5 refl
each_primary Holds event report other primary.S7F17 = other primary.S7F17 refl
each_primary Holds event report other primary.S7F19 = other primary.S7F19 refl
each_primary Holds event report other primary.S10F3 = other primary.S10F3 refl
each_primary Holds event report other primary.S10F5 = other primary.S10F5 refl
