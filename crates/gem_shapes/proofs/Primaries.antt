-- A primary that was found by its stream and function has both.
use Rattle.std.proofs.Common.{◌≡◌, refl, sym, ap, ◌∙◌, ◌==◌, Bool, true, false, cond, ℕ, List, [], ◌∷◌, Some}
use Rattle.std.specs.List.{find}
use Rattle.std.proofs.lemmas.Bool.{and_parts, eqb-true}
use Rattle.gem_shapes.specs.declared.primary.Primary.{Primary}
use Rattle.gem_shapes.specs.Primaries.{has_function, primaries, primary_with, stream_and_function}

-- what was found passes the test
found_passes : {A : Type 0} (test : A → Bool) (xs : List A) (x : A) → find test xs ≡ Some x → test x ≡ true
found_passes test [] x found = absurd (cc)
found_passes test (y ∷ xs) x found = go (found_passes test xs x) (test y) refl found
  where
    go : (find test xs ≡ Some x → test x ≡ true) → (b : Bool) → test y ≡ b
        → cond b (Some y) (find test xs) ≡ Some x → test x ≡ true
    go next true passes found = let same : y ≡ x = cc in ap test (sym same) ∙ passes
    go next false fails found = next found

pub found_has :
    (stream function : ℕ) (p : Primary) → primary_with stream function ≡ Some p
    → (stream ≡ (stream_and_function p).0) × (function ≡ (stream_and_function p).1)
found_has stream function p found =
    let both =
    and_parts ((stream_and_function p).0 == stream) ((stream_and_function p).1 == function)
    (found_passes (has_function stream function) primaries p found) in (
      sym (eqb-true (stream_and_function p).0 stream both.0),
      sym (eqb-true (stream_and_function p).1 function both.1),
    )
