-- What writing another value of a cell leaves at each moment, and its calls.
use Rattle.std.proofs.Common.{◌≡◌, ℕ, ◌+◌, ◌<◌, ◌≤◌, Bool, not, List, [], ◌∷◌, Option, Some, None, sym, ap, subst, ◌∙◌, inl}
use Rattle.disk_base.specs.Story.{Story}
use Rattle.disk_base.specs.Settle.{LogsBoth}
use Rattle.disk_base.specs.Through.{GoesThrough}
use Rattle.disk_base.specs.Calls.{DiskCall}
use Rattle.disk_base.specs.declared.disk.DiskAnswer.{DiskAnswer}
use Rattle.disk_base.specs.declared.disk.DiskAnswer.TheVariants.{Done}
use Rattle.disk_base.proofs.Moments.{now_is, through_more}
use Rattle.disk_base.proofs.Stretches.{both_wider}
use Rattle.gate_cell.proofs.Values.{commits_behind, committed_behind}
use Rattle.gate_cell.specs.Cell.{Cell, cell_in, gate_byte, with_value}
use Rattle.gate_cell.specs.Holds.{Holds, HoldsEither}
use Rattle.gate_cell.specs.Ready.{Commits, IsCommitted, IsReady, Prepares}
use Rattle.spool_slots.specs.Changes.{HasValue}

-- the old cell alone, or either
pub either_of : (s : Story) (at : ℕ) (after : Option Story) (old new : Cell) →
    GoesThrough s after (Holds s.now at old) → GoesThrough s after (HoldsEither s.now at old new)
either_of s at after old new goes =
    (goes.0, goes.1, through_more s goes.0 _ _ (λ image is. record { others = is.others; held = inl is.held }) goes.2)

-- a value that was prepared, and then committed
module _ (s t : Story) (at value there : ℕ) (mid : Option Story) (is_at : there ≡ at) (told : mid ≡ Some t) (prepared : Prepares s at value mid Done)
    (ready : IsReady at value mid) where
  prepared_t : Prepares s at value (Some t) Done
  prepared_t = subst (λ (o : Option Story). Prepares s at value o Done) told prepared

  ready_t : IsReady at value (Some t)
  ready_t = subst (λ (o : Option Story). IsReady at value o) told ready

  pub commit_images : (second : Bool) (after : Option Story) (answer : DiskAnswer) → Commits t there second after answer →
      GoesThrough s after (HoldsEither s.now at (cell_in s.now.bytes at) (with_value value (cell_in s.now.bytes at)))
  commit_images second after answer commit =
      commits_behind s t at value prepared_t ready_t second after answer (subst (λ (n : ℕ). Commits t n second after answer) is_at commit)

  abbrev loose_or : Option Story → List (ℕ × ℕ)
  loose_or None = []
  loose_or (Some s) = s.now.loose

  pub has_value : (second : Bool) (after : Option Story) → Commits t there second after Done → IsCommitted t there after → HasValue s at value after
  has_value second after commit committed u is = (
    ap (λ (o : Option Story). loose_or o) (sym is ∙ commit.settles),
    committed_behind s t at value prepared_t ready_t after (subst (λ (n : ℕ). IsCommitted t n after) is_at committed) u is u.now.bytes (now_is u.now),
  )

-- its calls
pub gate_calls : (s : Story) (at there : ℕ) (second : Bool) (C E : ℕ → ℕ → Type 0) (mid after : Option (List DiskCall)) (answer : DiskAnswer) →
    ((made n : ℕ) → made < 2 → n ≤ 1 → C made n → E made n) → there ≡ at →
    second ≡ not (cell_in s.now.bytes at).second → LogsBoth (there + 16) (gate_byte second ∷ []) C mid after answer →
    LogsBoth (at + 16) (gate_byte (not (cell_in s.now.bytes at).second) ∷ []) E mid after answer
gate_calls s at there second C E mid after answer more is_at is logs =
    subst (λ (b : Bool). LogsBoth (at + 16) (gate_byte b ∷ []) E mid after answer) is
    (subst (λ (n : ℕ). LogsBoth (n + 16) (gate_byte second ∷ []) E mid after answer) is_at
    (both_wider (there + 16) (gate_byte second ∷ []) C E mid after answer more logs))
