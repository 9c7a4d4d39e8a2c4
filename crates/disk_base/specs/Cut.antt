-- What a disk in memory holds after a crash (this profile).
use Rattle.std.specs.Prelude.{ℕ, ◌+◌, ◌-◌, ◌==◌, Bool, true, false, List, [], ◌∷◌, ◌++◌, length, replicate, if◌then◌else◌}
use Rattle.disk_base.specs.Story.{Moment, Story, with_part}
use Rattle.disk_base.specs.declared.cut.CutChoice.{CutChoice}
use Rattle.disk_base.specs.declared.cut.CutChoice.TheVariants.{Old, New, Fill, First}

-- a truth value for each place: whether it lies in one of the ranges
abbrev pub marks_of : ℕ → List (ℕ × ℕ) → List Bool
marks_of size [] = replicate size false
marks_of size (range ∷ loose) = with_part (marks_of size loose) range.0 (replicate range.1 true)

-- the marks of all places, of which those from one on have these, and no other is marked
abbrev pub marks_at : ℕ → ℕ → List Bool → List Bool
marks_at size from marks = replicate from false ++ marks ++ replicate (size - (from + length marks)) false

-- the bytes of the first moment that has no loose range, of this one and earlier ones
abbrev pub settled_if : List (ℕ × ℕ) → List ℕ → List ℕ → List ℕ
settled_if [] bytes earlier = bytes
settled_if (range ∷ loose) bytes earlier = earlier

abbrev pub settled_before : List Moment → List ℕ
settled_before [] = []
settled_before (moment ∷ past) = settled_if moment.loose moment.bytes (settled_before past)

-- the settled bytes: those of the last moment at which nothing was loose
abbrev pub settled_bytes : Story → List ℕ
settled_bytes story = settled_if story.now.loose story.now.bytes (settled_before story.past)

-- what a loose place is left with
abbrev pub chosen_byte : CutChoice → ℕ → ℕ → ℕ
chosen_byte Old settled now = settled
chosen_byte New settled now = now
chosen_byte (Fill byte) settled now = byte
chosen_byte (First n) settled now = if n == 0 then settled else now

-- the choice for the loose places behind it
abbrev pub next_choice : CutChoice → CutChoice
next_choice Old = Old
next_choice New = New
next_choice (Fill byte) = Fill byte
next_choice (First n) = First (n - 1)

-- what a place is left with, whether it is loose or not
abbrev pub byte_left : Bool → CutChoice → ℕ → ℕ → ℕ
byte_left true choice settled now = chosen_byte choice settled now
byte_left false choice settled now = now

abbrev pub choice_left : Bool → CutChoice → CutChoice
choice_left true choice = next_choice choice
choice_left false choice = choice

-- place by place, by the marks, the settled bytes and those that are there now
abbrev pub bytes_left : CutChoice → List Bool → List ℕ → List ℕ → List ℕ
bytes_left choice [] settled now = []
bytes_left choice (mark ∷ marks) [] now = []
bytes_left choice (mark ∷ marks) (old ∷ settled) [] = []
bytes_left choice (mark ∷ marks) (old ∷ settled) (new ∷ now) =
    byte_left mark choice old new ∷ bytes_left (choice_left mark choice) marks settled now

-- the same of a story
abbrev pub image_of : CutChoice → Story → List ℕ
image_of choice story =
    bytes_left choice (marks_of (length story.now.bytes) story.now.loose) (settled_bytes story) story.now.bytes
