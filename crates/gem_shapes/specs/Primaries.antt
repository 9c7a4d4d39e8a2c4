-- The primaries that the equipment takes (SEMI E5; SEMI E30).
use Rattle.std.specs.Prelude.{ℕ, Bool, ◌&&◌, ◌==◌, List, [], ◌∷◌, find, Option}
use Rattle.std.specs.List.{list_any}
use Rattle.gem_shapes.specs.declared.primary.Primary.{Primary}
use Rattle.gem_shapes.specs.declared.primary.Primary.TheVariants as primary

abbrev pub stream_and_function : Primary → ℕ × ℕ
stream_and_function primary.S1F1 = (1, 1)
stream_and_function primary.S1F3 = (1, 3)
stream_and_function primary.S1F11 = (1, 11)
stream_and_function primary.S1F13 = (1, 13)
stream_and_function primary.S1F15 = (1, 15)
stream_and_function primary.S1F17 = (1, 17)
stream_and_function primary.S2F13 = (2, 13)
stream_and_function primary.S2F15 = (2, 15)
stream_and_function primary.S2F23 = (2, 23)
stream_and_function primary.S2F29 = (2, 29)
stream_and_function primary.S2F33 = (2, 33)
stream_and_function primary.S2F35 = (2, 35)
stream_and_function primary.S2F37 = (2, 37)
stream_and_function primary.S2F39 = (2, 39)
stream_and_function primary.S2F41 = (2, 41)
stream_and_function primary.S2F43 = (2, 43)
stream_and_function primary.S5F3 = (5, 3)
stream_and_function primary.S5F5 = (5, 5)
stream_and_function primary.S5F7 = (5, 7)
stream_and_function primary.S6F15 = (6, 15)
stream_and_function primary.S6F19 = (6, 19)
stream_and_function primary.S6F23 = (6, 23)
stream_and_function primary.S7F1 = (7, 1)
stream_and_function primary.S7F3 = (7, 3)
stream_and_function primary.S7F5 = (7, 5)
stream_and_function primary.S7F17 = (7, 17)
stream_and_function primary.S7F19 = (7, 19)
stream_and_function primary.S10F3 = (10, 3)
stream_and_function primary.S10F5 = (10, 5)

-- all of them
abbrev pub primaries : List Primary
primaries =
    primary.S1F1 ∷ primary.S1F3 ∷ primary.S1F11 ∷ primary.S1F13 ∷ primary.S1F15 ∷ primary.S1F17 ∷ primary.S2F13
    ∷ primary.S2F15 ∷ primary.S2F23 ∷ primary.S2F29 ∷ primary.S2F33 ∷ primary.S2F35 ∷ primary.S2F37 ∷ primary.S2F39
    ∷ primary.S2F41 ∷ primary.S2F43 ∷ primary.S5F3 ∷ primary.S5F5 ∷ primary.S5F7 ∷ primary.S6F15 ∷ primary.S6F19
    ∷ primary.S6F23 ∷ primary.S7F1 ∷ primary.S7F3 ∷ primary.S7F5 ∷ primary.S7F17 ∷ primary.S7F19 ∷ primary.S10F3
    ∷ primary.S10F5 ∷ []

abbrev pub has_stream : ℕ → Primary → Bool
has_stream stream p = (stream_and_function p).0 == stream

abbrev pub has_function : ℕ → ℕ → Primary → Bool
has_function stream function p = has_stream stream p && ((stream_and_function p).1 == function)

-- the primary that has both
abbrev pub primary_with : ℕ → ℕ → Option Primary
primary_with stream function = find (has_function stream function) primaries

abbrev pub is_known_stream : ℕ → Bool
is_known_stream stream = list_any (has_stream stream) primaries

abbrev pub is_known : ℕ → ℕ → Bool
is_known stream function = list_any (has_function stream function) primaries
