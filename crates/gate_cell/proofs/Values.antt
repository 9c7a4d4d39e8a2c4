-- What a crash leaves of a cell while a value is prepared and committed.
use Rattle.std.proofs.Common.{◌≡◌, false, ℕ, ◌+◌, ◌^◌, ◌<◌, ◌≤◌, Bool, not, List, [], ◌∷◌, length, get_or, Option, None, Some, refl, sym, ap, subst, ◌∙◌, arith, ⊎_elim, inl, inr}
use Rattle.std.specs.Option.{option_map}
use Rattle.disk_base.specs.Images.{IsImage, is_in, is_loose}
use Rattle.disk_base.specs.Calls.{DiskCall}
use Rattle.disk_base.specs.Settle.{LogsBoth, Settles}
use Rattle.disk_base.specs.Story.{Story, bytes_at, with_sync, with_write}
use Rattle.disk_base.specs.Through.{EachImage, GoesThrough, IsImageBut, Through}
use Rattle.disk_base.specs.declared.disk.DiskAnswer.{DiskAnswer}
use Rattle.disk_base.specs.declared.disk.DiskAnswer.TheVariants.{Done, Failed}
use Rattle.disk_base.proofs.Marks.{length-part, not_either}
use Rattle.disk_base.proofs.Moments.{but_wider, image_but, neither, now_is, only_now, over_among, part_stays, settle_others, through_both, through_more}
use Rattle.disk_base.proofs.Stretches.{both_wider}
use Rattle.gate_cell.specs.Cell.{cell_in, cell_of, copy_bytes, copy_place, gate_byte, gate_of, names_second, spare_in, spare_of, spare_place, with_value}
use Rattle.gate_cell.specs.Holds.{Holds, HoldsEither, IsRead}
use Rattle.gate_cell.specs.Ready.{Commits, HasSpare, IsCell, IsCommitted, IsReady, Prepares}
use Rattle.gate_cell.proofs.Cells.{cell_kept, copy_ends, either_cell, gate_counts, gate_read, length-bytes_at, length-copy_bytes, other_copy, part_among, same_gate, spare_ready}

-- what a read gives is the value now, and every crash leaves the cell where it is settled
pub is_read : (s : Story) (at value : ℕ) → at + 17 ≤ length s.now.bytes → value ≡ (cell_in s.now.bytes at).value →
    IsRead s at value
is_read s at value within is = record {
  now = is;
  always = λ settled image left. record {
    others = image_but s.now image at 17 left;
    held = ap cell_of (part_stays s.now image at 17 settled within left);
  };
}

-- a value written over the copy that doesn't count, and synced
abbrev with_spare : Story → ℕ → ℕ → Story
with_spare s at value = with_sync (with_write (spare_place at (cell_in s.now.bytes at)) (copy_bytes value) s)

-- a disk that tells now told before
pub told_before : (before : Option Story) (f : Story → Story) (after : Option Story) (t : Story) → after ≡ option_map f before → after ≡ Some t →
    (s : Story) × (before ≡ Some s)
told_before None f after t is told = absurd (grind (arith, is, told))
told_before (Some s) f after t is told = (s, refl)

-- nor does one that tells nothing begin to
pub untold : (before after : Option Story) (at : ℕ) (bytes : List ℕ) (answer : DiskAnswer) → before ≡ None → Settles before at bytes after answer →
    after ≡ None
untold before after at bytes Done none is = is ∙ ap (option_map (λ s. with_sync (with_write at bytes s))) none
untold before after at bytes Failed none (inl same) = same ∙ none
untold before after at bytes Failed none (inr other) = other.2 ∙ ap (option_map (with_write at other.0)) none

module _ (s : Story) (at : ℕ) (cell : IsCell s at) where
  abbrev there : List ℕ
  there = bytes_at s.now.bytes at 17

  abbrev spare_from : ℕ
  spare_from = copy_place (not (cell_in s.now.bytes at).second)

  long : length there ≡ 17
  long = length-bytes_at s.now.bytes at 17 cell.within

  prepare_image : (image : List ℕ) → IsImageBut s.now (at + spare_from) 8 image →
      Holds s.now at (cell_in s.now.bytes at) image
  prepare_image image is =
      let ends = copy_ends (not (cell_in s.now.bytes at).second) in
      let over = over_among s.now image at 17 spare_from 8 cell.settled cell.within (omega (arith, ends)) is in
      record {
        others = but_wider s.now image at spare_from 8 17 (omega (arith, ends)) is;
        held = ap cell_of over.2 ∙ cell_kept there over.0 long over.1;
      }

  commit_image : (image : List ℕ) → IsImageBut s.now (at + 16) 1 image →
      HoldsEither s.now at (cell_in s.now.bytes at) (spare_in s.now.bytes at) image
  commit_image image is =
      let over = over_among s.now image at 17 16 1 cell.settled cell.within (omega arith) is in
      record {
        others = but_wider s.now image at 16 1 17 (omega arith) is;
        held = ⊎_elim (λ old. inl (ap cell_of over.2 ∙ old)) (λ new. inr (ap cell_of over.2 ∙ new))
            (either_cell there over.0 long over.1);
      }

  pub prepares : (value : ℕ) (after : Option Story) (answer : DiskAnswer) →
      Settles (Some s) (at + spare_from) (copy_bytes value) after answer → Prepares s at value after answer
  prepares value after answer is =
      let ends = copy_ends (not (cell_in s.now.bytes at).second) in
      let eight = length-copy_bytes value in
      let within : at + spare_from + length (copy_bytes value) ≤ length s.now.bytes =
      omega (arith, cell.within, ends, eight) in
      let goes = settle_others s (at + spare_from) (copy_bytes value) after answer within is in
      record {
        settles = is;
        images = (
          goes.0,
          goes.1,
          through_more s goes.0 _ _ (λ image left. prepare_image image
              (subst (λ (n : ℕ). IsImageBut s.now (at + spare_from) n image) eight left)) goes.2,
        );
      }

  pub ready : (value : ℕ) (t : Story) → value < 2 ^ 64 →
      t ≡ with_spare s at value → (spare_in t.now.bytes at).value ≡ value
  ready value t below is =
      let ends = copy_ends (not (cell_in s.now.bytes at).second) in
      ap (λ (t : Story). (spare_in t.now.bytes at).value) is
      ∙ ap (λ (bytes : List ℕ). (spare_of bytes).value)
      (part_among s.now.bytes (copy_bytes value) at 17 spare_from cell.within
      (omega (arith, ends, length-copy_bytes value)))
      ∙ spare_ready there value long below

  pub has_spare : (value : ℕ) → HasSpare (with_spare s at value) at (not (cell_in s.now.bytes at).second)
  has_spare value =
      let ends = copy_ends (not (cell_in s.now.bytes at).second) in
      let bytes = copy_bytes value in
      let eight = length-copy_bytes value in
      let within : at + spare_from + length bytes ≤ length s.now.bytes = omega (arith, cell.within, ends, eight) in
      let among = part_among s.now.bytes bytes at 17 spare_from cell.within (omega (arith, ends, eight)) in
      let same = ap gate_of among ∙ same_gate there bytes long eight in
      record {
        within = omega (arith, cell.within, length-part s.now.bytes bytes (at + spare_from) within);
        settled = λ place least below. refl;
        spare = sym (ap (λ (gate : ℕ). not (names_second gate)) same);
      }

  pub commits : (second : Bool) (after : Option Story) (answer : DiskAnswer) →
      Settles (Some s) (at + 16) (gate_byte second ∷ []) after answer → Commits s at second after answer
  commits second after answer is =
      let goes = settle_others s (at + 16) (gate_byte second ∷ []) after answer (omega (arith, cell.within)) is in
      record {
        settles = is;
        images = (goes.0, goes.1, through_more s goes.0 _ _ commit_image goes.2);
      }

  committed : (second : Bool) (image : List ℕ) → second ≡ other_copy there →
      IsImage (with_sync (with_write (at + 16) (gate_byte second ∷ []) s)).now image →
      cell_in image at ≡ spare_in s.now.bytes at
  committed second image spare left =
      ap (λ (bytes : List ℕ). cell_in bytes at)
      (only_now (with_sync (with_write (at + 16) (gate_byte second ∷ []) s)).now image refl left)
      ∙ ap cell_of (part_among s.now.bytes (gate_byte second ∷ []) at 17 16 cell.within (omega arith))
      ∙ gate_counts there second long spare

is_cell : (s : Story) (at : ℕ) (second : Bool) → HasSpare s at second → IsCell s at
is_cell s at second is = record { within = is.within; settled = is.settled }

pub commits_spare : (s : Story) (at : ℕ) (second : Bool) (after : Option Story) (answer : DiskAnswer) → HasSpare s at second →
    Settles (Some s) (at + 16) (gate_byte second ∷ []) after answer → Commits s at second after answer
commits_spare s at second after answer is = commits s at (is_cell s at second is) second after answer

same_story : (t : Story) (after : Option Story) (u : Story) → after ≡ Some u → after ≡ Some t → u ≡ t
same_story t after u one two = ap (λ (o : Option Story). story_or t o) (sym one ∙ two) where
  story_or : Story → Option Story → Story
  story_or other None = other
  story_or other (Some story) = story

pub is_committed : (s : Story) (at : ℕ) (second : Bool) (after : Option Story) → HasSpare s at second →
    Settles (Some s) (at + 16) (gate_byte second ∷ []) after Done → IsCommitted s at after
is_committed s at second after is settles t told image left =
    let cell = is_cell s at second is in
    let done = commits s at cell second after Done settles in
    let same = same_story t after (done.images.0) done.images.1 told in
    let last = done.images.2.last image (subst (λ (u : Story). IsImage u.now image) (sym same) left) in
    record {
      others = last.others;
      held = committed s at cell second image is.spare
          (subst (λ (u : Story). IsImage u.now image) (sym (same_story t after (with_sync (with_write (at + 16) (gate_byte second ∷ []) s)) settles told)) left);
    }

pub settles_gate : (before after : Option Story) (s : Story) (at place byte : ℕ) (second : Bool) (answer : DiskAnswer) → before ≡ Some s → place ≡ at + 16 →
    byte ≡ gate_byte second → Settles before place (byte ∷ []) after answer → Settles (Some s) (at + 16) (gate_byte second ∷ []) after answer
settles_gate before after s at place byte second answer told there is settles =
    subst (λ (n : ℕ). Settles (Some s) (at + 16) (n ∷ []) after answer) is
    (subst (λ (n : ℕ). Settles (Some s) n (byte ∷ []) after answer) there
    (subst (λ (o : Option Story). Settles o place (byte ∷ []) after answer) told settles))

-- what the disk tells once a value is prepared
pub prepared_is : (s : Story) (at : ℕ) → IsCell s at → (value : ℕ) (after : Option Story) (t : Story) (second : Bool) →
    second ≡ not (cell_in s.now.bytes at).second → value < 2 ^ 64 →
    Settles (Some s) (spare_place at (cell_in s.now.bytes at)) (copy_bytes value) after Done →
    after ≡ Some t → HasSpare t at second × ((spare_in t.now.bytes at).value ≡ value)
prepared_is s at cell value after t second second_is below settles told =
    let done = with_spare s at value in
    let same : done ≡ t = same_story t after done settles told in (
      subst (λ (u : Story). HasSpare u at second) same (subst (λ (b : Bool). HasSpare done at b) (sym second_is) (has_spare s at cell value)),
      ready s at cell value t below (sym same),
    )

-- where the copy stands that the gate doesn't name, by a read of the gate
pub place_is : (s : Story) (at there place offset : ℕ) (gate : List ℕ) (odd : Bool) → there ≡ at + 16 → gate ≡ bytes_at s.now.bytes there (length gate) →
    length gate ≡ 1 → odd ≡ names_second (get_or gate 0 0) → offset ≡ copy_place (not odd) → place ≡ at + offset →
    (not odd ≡ not (cell_in s.now.bytes at).second) × (place ≡ spare_place at (cell_in s.now.bytes at))
place_is s at there place offset gate odd there_is read one odd_is offset_is is =
    let byte : get_or gate 0 0 ≡ gate_of (bytes_at s.now.bytes at 17) =
    ap (λ bytes. get_or bytes 0 0) read
    ∙ ap (λ (n : ℕ). get_or (bytes_at s.now.bytes there n) 0 0) one
    ∙ ap (λ (n : ℕ). get_or (bytes_at s.now.bytes n 1) 0 0) there_is
    ∙ gate_read s.now.bytes at in
    let spare = ap not (odd_is ∙ ap names_second byte) in
    (spare, is ∙ ap (λ (n : ℕ). at + n) (offset_is ∙ ap copy_place spare))

module _ (before mid after : Option Story) (s : Story) (at value place : ℕ) (bytes : List ℕ) (told : before ≡ Some s) (same : mid ≡ before)
    (there : place ≡ spare_place at (cell_in s.now.bytes at)) (is : bytes ≡ copy_bytes value) where
  pub settles_spare : (answer : DiskAnswer) → Settles mid place bytes after answer →
      Settles (Some s) (spare_place at (cell_in s.now.bytes at)) (copy_bytes value) after answer
  settles_spare answer settles =
      subst (λ (b : List ℕ). Settles (Some s) (spare_place at (cell_in s.now.bytes at)) b after answer) is
      (subst (λ (n : ℕ). Settles (Some s) n bytes after answer) there
      (subst (λ (o : Option Story). Settles o place bytes after answer) (same ∙ told) settles))

module _ (s : Story) (at value place : ℕ) (bytes : List ℕ) (there : place ≡ spare_place at (cell_in s.now.bytes at))
    (is : bytes ≡ copy_bytes value) where
  pub logs_spare : (C E : ℕ → ℕ → Type 0) → ((made n : ℕ) → made < 2 → n ≤ length bytes → C made n → E made n) →
      (before mid after : Option (List DiskCall)) (answer : DiskAnswer) → mid ≡ before →
      LogsBoth place bytes C mid after answer →
      LogsBoth (spare_place at (cell_in s.now.bytes at)) (copy_bytes value) E before after answer
  logs_spare C E more before mid after answer same logs =
      subst (λ (b : List ℕ). LogsBoth (spare_place at (cell_in s.now.bytes at)) b E before after answer) is
      (subst (λ (n : ℕ). LogsBoth n bytes E before after answer) there
      (subst (λ (o : Option (List DiskCall)). LogsBoth place bytes E o after answer) same (both_wider place bytes C E mid after answer more logs)))

-- a value prepared and then committed: at every moment a crash leaves the cell as it was, or with the new value
module _ (s t : Story) (at value : ℕ) (prepared : Prepares s at value (Some t) Done) (is_ready : IsReady at value (Some t)) where
  t_is : t ≡ with_spare s at value
  t_is = same_story (with_spare s at value) (Some t) t refl prepared.settles

  here : Through s t (Holds s.now at (cell_in s.now.bytes at))
  here = subst (λ (u : Story). Through s u (Holds s.now at (cell_in s.now.bytes at)))
      (same_story t (Some t) prepared.images.0 prepared.images.1 refl) prepared.images.2

  now_holds : Holds s.now at (cell_in s.now.bytes at) t.now.bytes
  now_holds = here.last t.now.bytes (now_is t.now)

  -- the copy that doesn't count has the new value
  pub spare_now : spare_in t.now.bytes at ≡ with_value value (cell_in s.now.bytes at)
  spare_now =
      ap (λ (n : ℕ). record { value = n; second = not (cell_in t.now.bytes at).second }) (is_ready t refl)
      ∙ ap (with_value value) now_holds.held

  pub others_behind : (image : List ℕ) → IsImageBut t.now at 17 image → IsImageBut s.now at 17 image
  others_behind image is = record {
    long = is.long ∙ now_holds.others.long;
    kept = λ place out.
        is.kept place (not_in place (not_either (is_in place (at, 17)) (is_loose s.now.loose place) out).0)
        ∙ now_holds.others.kept place out;
  } where
    none : t.now.loose ≡ []
    none = ap (λ (u : Story). u.now.loose) t_is

    not_in : (place : ℕ) → is_in place (at, 17) ≡ false → is_loose ((at, 17) ∷ t.now.loose) place ≡ false
    not_in place outside = neither (is_in place (at, 17)) (is_loose t.now.loose place) outside (ap (λ loose. is_loose loose place) none)

  either_behind : (image : List ℕ) → HoldsEither t.now at (cell_in t.now.bytes at) (spare_in t.now.bytes at) image →
      HoldsEither s.now at (cell_in s.now.bytes at) (with_value value (cell_in s.now.bytes at)) image
  either_behind image is = record {
    others = others_behind image is.others;
    held = ⊎_elim (λ old. inl (old ∙ now_holds.held)) (λ new. inr (new ∙ spare_now)) is.held;
  }

  pub commits_behind : (second : Bool) (after : Option Story) (answer : DiskAnswer) → Commits t at second after answer →
      GoesThrough s after (HoldsEither s.now at (cell_in s.now.bytes at) (with_value value (cell_in s.now.bytes at)))
  commits_behind second after answer commit =
      let u = commit.images.0 in (
        u,
        commit.images.1,
        through_both s t u _
            (through_more s t _ _ (λ image is. record { others = is.others; held = inl is.held }) here)
            (through_more t u _ _ either_behind commit.images.2),
      )

  pub committed_behind : (after : Option Story) → IsCommitted t at after → (u : Story) → after ≡ Some u →
      EachImage (Holds s.now at (with_value value (cell_in s.now.bytes at))) u.now
  committed_behind after is u told image left =
      let holds = is u told image left in
      record { others = others_behind image holds.others; held = holds.held ∙ spare_now }
