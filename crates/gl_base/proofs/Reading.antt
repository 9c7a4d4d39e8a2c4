-- What is left of a source after a read whose bytes are not kept.
use Rattle.std.proofs.Common.{◌≡◌, ℕ, ◌+◌, ◌<◌, List, ◌++◌, length, drop, Option, Some, None, sym, ap, subst, ◌∙◌, arith, length-append}
use Rattle.std.proofs.Math.Seq.{drop-append-add}
use Rattle.std.specs.Option.{option_map}
use Rattle.gl_base.specs.Input.{IsRestOf, ReadsAll}
use Rattle.gl_base.specs.Source.{Reads}
use Rattle.gl_base.specs.declared.source.ReadAnswer.TheVariants.{Took}
use Rattle.gl_base.specs.declared.input.Input.TheVariants.{Longer, NoMemory}

-- `all` was kept, `rest` was left, and n bytes of it were taken
IsRestOf-took : (all rest : List ℕ) (after : Option (List ℕ)) (n : ℕ) → after ≡ Some (drop n rest)
    → IsRestOf (all ++ rest) after
IsRestOf-took all rest after n e = (length all + n, e ∙ ap Some (sym (drop-append-add all rest n)))

pub took_past : (limit n : ℕ) (all into : List ℕ) (before now after : Option (List ℕ))
    → option_map (λ rest. all ++ rest) now ≡ before →
    Reads now after into (Took n) → limit < length all + n → ReadsAll limit before after Longer
took_past limit n all into before None after e r past = subst (λ b. ReadsAll limit b after Longer) e (r, tt)
took_past limit n all into before (Some rest) after e r past =
    subst (λ b. ReadsAll limit b after Longer) e
    (omega (arith, length-append all rest), IsRestOf-took all rest after n r.2)

pub took_unkept : (limit n : ℕ) (all into : List ℕ) (before now after : Option (List ℕ))
    → option_map (λ rest. all ++ rest) now ≡ before →
    Reads now after into (Took n) → ReadsAll limit before after NoMemory
took_unkept limit n all into before None after e r = subst (λ b. ReadsAll limit b after NoMemory) e (r, tt)
took_unkept limit n all into before (Some rest) after e r =
    subst (λ b. ReadsAll limit b after NoMemory) e (IsRestOf-took all rest after n r.2)
