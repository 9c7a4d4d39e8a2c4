use Rattle.std.proofs.Common.{◌≡◌, refl, inl, arith, ◌<◌, zero, suc, Bool, true, false, ℕ, [], ◌++◌, drop, None}
use Rattle.spool_law.specs.Shelf.{IsFoundOf, stored_if}
use Rattle.trace_log.specs.declared.names.Cause.TheVariants as cause
use Rattle.trace_log.specs.Names.{Spooled}
use Rattle.tool_spool.specs.WorkedHeld.{held}
use Rattle.tool_spool.proofs.laws.worked_held.Goals as goal

-- where nothing stood or was being stored nothing is found
first-finds : (message : Spooled) → IsFoundOf {X = ℕ × Spooled} [] None None (held message) → ⊥
first-finds message at = go at.missing at.stored at.is
  where
    go : (n : ℕ) (stored : Bool) → held message ≡ drop n [] ++ stored_if stored None → ⊥
    go zero true is = absurd (cc)
    go zero false is = absurd (cc)
    go (suc n) true is = absurd (cc)
    go (suc n) false is = absurd (cc)

pub returns : goal.returns
returns c = record {
  purged = λ policy message request purges. (
    record { cause = cause.Purged; is = refl; first = refl },
    (
      record { rest = record { none_stored = refl; none_leaves = refl }; first = refl; cause = (purges, refl) },
      (tt, (refl, tt)),
    ),
  );
  not_empty = λ policy message request kept. first-finds message kept.1.1.1.0;
  forgotten = λ policy message kept. let same = kept.0 in absurd (cc);
  again = λ policy message kept.
      let below : 7 < 7 = kept.0.above (7, message) (inl refl) in absurd (omega (arith, below));
}
