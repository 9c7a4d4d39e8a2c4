-- That a disk tells on, and that what it tells are bytes.
use Rattle.std.proofs.Common.{◌≡◌, ◌<◌, ℕ, Option, None, Some, refl, sym, ap, subst}
use Rattle.std.specs.Prelude.{is_some}
use Rattle.std.specs.Option.{option_map}
use Rattle.std.specs.List.{All}
use Rattle.disk_base.specs.Disk.{Attaches, TellsAsBefore, TellsBytes}
use Rattle.disk_base.specs.Story.{Story, with_growth}

abbrev HasBytes : Option Story → Type 0
HasBytes None = Unit {0}
HasBytes (Some story) = All (λ (byte : ℕ). byte < 256) story.now.bytes

-- where it tells, and has them
pub told_bytes : (story : Story) → All (λ (byte : ℕ). byte < 256) story.now.bytes → TellsBytes (Some story)
told_bytes story are s is = subst HasBytes is are

-- where it doesn't
pub untold_bytes : TellsBytes None
untold_bytes s is = absurd cc

-- a disk that tells now has told before
pub told_already : (before after : Option Story) (t : Story) → TellsAsBefore before after → after ≡ Some t →
    (s : Story) × (before ≡ Some s)
told_already None None t same told = absurd cc
told_already None (Some u) t same told = absurd cc
told_already (Some s) after t same told = (s, refl)

-- and one that told before tells now
pub told_still : (before after : Option Story) (s : Story) → TellsAsBefore before after → before ≡ Some s →
    (t : Story) × (after ≡ Some t)
told_still before after s same told = told_already after before s (sym same) told

-- what a call makes of the story that is told changes nothing of that
mapped : (f : Story → Story) (before after : Option Story) → after ≡ option_map f before → TellsAsBefore before after
mapped f None after is = ap is_some is
mapped f (Some s) after is = ap is_some is

pub attached_tells : {grow : ℕ} (before after : Option Story) → Attaches grow before after → TellsAsBefore before after
attached_tells before after is = mapped (with_growth is.more) before after is.grown
