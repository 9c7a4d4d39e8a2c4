-- What a write with its sync leaves that failed where there was room.
use Rattle.std.proofs.Common.{◌≡◌, inl, inr, ℕ, List, [], ◌∷◌, ◌++◌, fold, Option, Some, None, refl, sym, ap, ◌∙◌, append_assoc}
use Rattle.std.proofs.lemmas.List.{append_cancel_left}
use Rattle.disk_base.specs.Calls.{DiskCall, sync_call, write_call}
use Rattle.disk_base.specs.Listed.{AsListed, next_story}
use Rattle.disk_base.specs.Settle.{LogsBoth}
use Rattle.disk_base.specs.Story.{Story, with_write}
use Rattle.disk_base.specs.declared.disk.DiskAnswer.TheVariants.{Done, Failed}

abbrev calls_or : List DiskCall → Option (List DiskCall) → List DiskCall
calls_or other None = other
calls_or other (Some calls) = calls

-- which calls came into the list
more_is : (all more calls : List DiskCall) (after : Option (List DiskCall)) → after ≡ Some (all ++ more) → after ≡ Some (all ++ calls) → more ≡ calls
more_is all more calls after one two = append_cancel_left all more calls (ap (calls_or all) (sym one ∙ two))

module _ (s : Story) (at : ℕ) (bytes : List ℕ) (all : List DiskCall) (after : Option Story) (calls : Option (List DiskCall))
    (listed : AsListed (Some s) (Some all) after calls) where
  by_more : (more : List DiskCall) → calls ≡ Some (all ++ more) → fold next_story s more ≡ with_write at bytes s → after ≡ Some (with_write at bytes s)
  by_more more here comes =
      listed.told
      ∙ ap (λ (cs : List DiskCall). Some (fold next_story s cs)) (more_is all listed.more more calls listed.calls here)
      ∙ ap Some comes

  pub has_written : LogsBoth at bytes (λ made n. ⊥) (Some all) calls Failed → after ≡ Some (with_write at bytes s)
  has_written (inl (inl none)) = absurd none.0
  has_written (inl (inr is)) = by_more (write_call at bytes Failed ∷ []) is refl
  has_written (inr (inl none)) = absurd none.0
  has_written (inr (inr is)) =
      by_more (write_call at bytes Done ∷ sync_call Failed ∷ [])
      (is ∙ ap Some (append_assoc all (write_call at bytes Done ∷ []) (sync_call Failed ∷ []))) refl
