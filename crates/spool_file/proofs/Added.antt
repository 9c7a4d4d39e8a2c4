-- What no call, one call, and calls behind others add to a disk's list.
use Rattle.std.proofs.Common.{◌≡◌, ◌⊎◌, inl, inr, ◌∙◌, ℕ, List, [], ◌∷◌, ◌++◌, get_or, Option, sym, ap, subst, arith}
use Rattle.std.proofs.lemmas.List.Elements.{All-append, All-nil}
use Rattle.std.specs.List.{All}
use Rattle.std.specs.Option.{option_map}
use Rattle.disk_base.specs.Calls.{DiskCall, with_call}
use Rattle.spool_file.specs.Added.{OnlyAdds}
use Rattle.spool_file.proofs.Stretches.{both_more, nothing_more}

module _ (Is : DiskCall → Type 0) where
  pub adds_none : (k : Option (List DiskCall)) → OnlyAdds Is k k
  adds_none k = record { more = []; calls = nothing_more k; are = All-nil Is }

  alone : (call : DiskCall) → Is call → All Is (call ∷ [])
  alone call is i d below =
      let first : i ≡ 0 = omega (arith, below) in subst (λ (n : ℕ). Is (get_or (call ∷ []) n d)) (sym first) is

  pub adds_done : {k l : Option (List DiskCall)} (call : DiskCall) → Is call → l ≡ with_call call k → OnlyAdds Is k l
  adds_done call is listed = record { more = call ∷ []; calls = listed; are = alone call is }

  -- one that failed is missing where it was left out
  pub adds_failed : {LeftOut : Type 0} {k l : Option (List DiskCall)} (call : DiskCall) → Is call →
      (LeftOut × (l ≡ k)) ⊎ (l ≡ with_call call k) → OnlyAdds Is k l
  adds_failed {k = k} call is (inl none) = record { more = []; calls = none.1 ∙ nothing_more k; are = All-nil Is }
  adds_failed call is (inr listed) = adds_done call is listed

  pub adds_behind : {k l m : Option (List DiskCall)} → OnlyAdds Is k l → OnlyAdds Is l m → OnlyAdds Is k m
  adds_behind {k} {l} {m} first second = record {
    more = first.more ++ second.more;
    calls = second.calls ∙ ap (option_map (λ (all : List DiskCall). all ++ second.more)) first.calls ∙ both_more first.more second.more k;
    are = All-append Is first.more second.more first.are second.are;
  }

-- calls that are such ones are others too
pub adds_as : {k l : Option (List DiskCall)} (Is Other : DiskCall → Type 0) → ((call : DiskCall) → Is call → Other call) → OnlyAdds Is k l →
    OnlyAdds Other k l
adds_as Is Other into adds = record {
  more = adds.more;
  calls = adds.calls;
  are = λ i d below. into (get_or adds.more i d) (adds.are i d below);
}
