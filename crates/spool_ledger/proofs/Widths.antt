-- The widths of a list's messages are their sizes, by which works find their messages.
use Rattle.std.proofs.Common.{◌≡◌, refl, sym, ap, subst, arith, ℕ, List, [], ◌∷◌, ◌++◌, drop, length}
use Rattle.std.proofs.lemmas.List.Elements.{All-cons, All-nil}
use Rattle.std.proofs.lemmas.List.Sums.{sum_by-cons}
use Rattle.std.specs.Prelude.{All, map, sum, sum_by}
use Rattle.gem_spool.specs.Works.{AreSized, IsSized, list_after, next_after}
use Rattle.gem_spool.specs.declared.works.Work.{Work}
use Rattle.gem_spool.specs.declared.works.Work.TheVariants as work
use Rattle.spool_file.proofs.Runs.{some_width}
use Rattle.spool_file.specs.Slot.{Message, width}
use Rattle.spool_ledger.specs.Ledger.{IsSome}
use Rattle.spool_ledger.specs.Sizes.{AreSizedBy, IsSizedBy, sizes_after}

pub widths-last : (list : List Message) (m : Message) → map width (list ++ m ∷ []) ≡ map width list ++ width m ∷ []
widths-last [] m = refl
widths-last (x ∷ list) m = ap (λ (ns : List ℕ). width x ∷ ns) (widths-last list m)

pub widths-rest : (list : List Message) → map width (drop 1 list) ≡ drop 1 (map width list)
widths-rest [] = refl
widths-rest (m ∷ list) = refl

pub widths-long : (list : List Message) → length (map width list) ≡ length list
widths-long [] = refl
widths-long (m ∷ list) = let rest = widths-long list in omega (arith, rest)

pub used-is : (list : List Message) → sum_by width list ≡ sum (map width list)
used-is [] = refl
used-is (m ∷ list) =
    let rest = used-is list in
    let one = sum_by-cons width m list in
    let more = sum_by-cons (λ (k : ℕ). k) (width m) (map width list) in
    omega (arith, rest, one, more)

pub widths-some : (list : List Message) → All IsSome (map width list)
widths-some [] = All-nil IsSome
widths-some (m ∷ list) = All-cons IsSome (width m) (map width list) (some_width m) (widths-some list)

-- a work leaves messages of the sizes that it leaves
pub widths-after : (next : ℕ) (list : List Message) (one : Work)
    → sizes_after (map width list) one ≡ map width (list_after next list one)
widths-after next list (work.Put stream function body) = sym (widths-last list _)
widths-after next list (work.DropOldest slots) = sym (widths-rest list)
widths-after next list work.Purge = refl

-- works that are sized by these sizes are so by the messages that have them
pub sized-by : (next : ℕ) (list : List Message) (works : List Work) → AreSizedBy (map width list) works
    → AreSized next list works
sized-by next list [] sized = tt
sized-by next list (one ∷ works) sized = (
  is list one sized.0,
  sized-by (next_after next one) (list_after next list one) works
      (subst (λ (ns : List ℕ). AreSizedBy ns works) (widths-after next list one) sized.1),
)
  where
    is : (list : List Message) (one : Work) → IsSizedBy (map width list) one → IsSized list one
    is list (work.Put stream function body) sized = tt
    is [] (work.DropOldest slots) sized = sized
    is (m ∷ list) (work.DropOldest slots) sized = sized
    is list work.Purge sized = tt
