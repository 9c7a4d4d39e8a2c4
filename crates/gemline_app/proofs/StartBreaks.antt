-- Where the bytes break over which the equipment doesn't start.
use Rattle.std.proofs.Common.{◌≡◌, ℕ, List, Option, Some, None, refl, ap, ◌∙◌, inl, inr}
use Rattle.std.specs.Option.{option_map, option_or}
use Rattle.spool_file.specs.File.{file_in, spool_break}
use Rattle.spool_file.specs.declared.reading.NotSpool.{NotSpool}
use Rattle.equipment_node.specs.Held.{IsStartBreak}
use Rattle.equipment_node.specs.StartSetup.{setup_break, start_break}

-- the place that is told is the first one
pub breaks-there : (bytes : List ℕ) (break : NotSpool) → IsStartBreak bytes break → start_break bytes ≡ Some break.at
breaks-there bytes break because = go because
  where
    behind : Option ℕ → Option ℕ
    behind first = option_or first (option_map (λ e. e.at) (setup_break (file_in bytes)))

    go : IsStartBreak bytes break → start_break bytes ≡ Some break.at
    go (inl (at, got)) = ap behind at
    go (inr (none, is)) = ap behind none ∙ ap (λ (o : Option NotSpool). option_map (λ e. e.at) o) is

-- bytes that break nowhere stand for a spool
pub spool-sound : (bytes : List ℕ) → start_break bytes ≡ None → spool_break bytes ≡ None
spool-sound bytes none = first (spool_break bytes) (option_map (λ e. e.at) (setup_break (file_in bytes))) none
  where
    first : (one other : Option ℕ) → option_or one other ≡ None → one ≡ None
    first None other none = refl
    first (Some at) other none = absurd (cc)
