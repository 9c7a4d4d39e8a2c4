-- What the calls in a disk's list come to (this profile).
use Rattle.std.specs.Prelude.{◌≡◌, ℕ, List, ◌++◌, fold, Option}
use Rattle.std.specs.Option.{option_map}
use Rattle.disk_base.specs.Calls.{DiskCall}
use Rattle.disk_base.specs.Story.{Story, with_sync, with_write}
use Rattle.disk_base.specs.declared.disk.CallKind.{CallKind}
use Rattle.disk_base.specs.declared.disk.CallKind.TheVariants.{Attach, Read, Write, Sync}
use Rattle.disk_base.specs.declared.disk.DiskAnswer.{DiskAnswer}
use Rattle.disk_base.specs.declared.disk.DiskAnswer.TheVariants.{Done, Failed}

abbrev pub story_if_done : DiskAnswer → Story → Story
story_if_done Done story = with_sync story
story_if_done Failed story = story

-- a write changes bytes also where it fails, and a sync settles them where it is done
abbrev pub story_under : CallKind → DiskAnswer → ℕ → List ℕ → Story → Story
story_under Write answer at bytes story = with_write at bytes story
story_under Sync answer at bytes story = story_if_done answer story
story_under Attach answer at bytes story = story
story_under Read answer at bytes story = story

abbrev pub next_story : Story → DiskCall → Story
next_story story call = story_under call.kind call.answer call.at call.bytes story

-- the list has some calls more, and the story went on by what these calls come to, and by nothing else
pub record AsListed (before : Option Story) (listed : Option (List DiskCall)) (after : Option Story)
    (listed_now : Option (List DiskCall)) : Type 0 where
  pub more : List DiskCall
  pub calls : listed_now ≡ option_map (λ all. all ++ more) listed
  pub told : after ≡ option_map (λ story. fold next_story story more) before
