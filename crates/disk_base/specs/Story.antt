-- What a disk holds, and what it held (this profile).
use Rattle.std.specs.Prelude.{ℕ, ◌+◌, List, [], ◌∷◌, ◌++◌, length, take, drop}

-- the elements with a part of them replaced, from a place on
abbrev pub with_part : {A : Type 0} → List A → ℕ → List A → List A
with_part all at part = take at all ++ part ++ drop (at + length part) all

-- so many bytes from a place on
abbrev pub bytes_at : List ℕ → ℕ → ℕ → List ℕ
bytes_at bytes at long = take long (drop at bytes)

-- the bytes that a read gives, and the ranges that a crash may have left with any bytes, as place and length, the last
-- one first
pub record Moment : Type 0 where
  pub bytes : List ℕ
  pub loose : List (ℕ × ℕ)

-- the moment that is now, and the earlier ones, the last one first
pub record Story : Type 0 where
  pub now : Moment
  pub past : List Moment

-- these bytes and no others, whatever happens
abbrev pub settled_story : List ℕ → Story
settled_story bytes = record { now = record { bytes = bytes; loose = [] }; past = [] }

-- one moment more
abbrev pub with_moment : Moment → Story → Story
with_moment moment story = record { now = moment; past = story.now ∷ story.past }

-- bytes were written, whose range is loose
abbrev pub with_write : ℕ → List ℕ → Story → Story
with_write at bytes story = with_moment (record {
  bytes = with_part story.now.bytes at bytes;
  loose = (at, length bytes) ∷ story.now.loose;
}) story

-- nothing is loose any more
abbrev pub with_sync : Story → Story
with_sync story = with_moment (record { bytes = story.now.bytes; loose = [] }) story

-- bytes were added behind the others, which are loose
abbrev pub with_growth : List ℕ → Story → Story
with_growth [] story = story
with_growth (byte ∷ more) story = with_moment (record {
  bytes = story.now.bytes ++ byte ∷ more;
  loose = (length story.now.bytes, length (byte ∷ more)) ∷ story.now.loose;
}) story
