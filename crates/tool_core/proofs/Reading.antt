-- The item that a text is.
use Rattle.std.proofs.Common.{◌≡◌, refl, ap, arith, true, false, cond, Bool, ◌==◌, ℕ, List, [], ◌∷◌, length, Option, Some, None}
use Rattle.std.specs.Prelude.{Result, Ok, Err}
use Rattle.std.proofs.lemmas.Bool.{eqb-true}
use Rattle.secs_items.specs.declared.item.Item.{Item}
use Rattle.secs_items.specs.declared.item_fault.ItemFault.{ItemFault}
use Rattle.secs_items.specs.declared.item_fault.ItemFault.TheVariants as fault
use Rattle.secs_items.specs.declared.verdict.Verdict.TheVariants as verdict
use Rattle.secs_items.specs.Checking.{verdict_by, verdict_of}
use Rattle.secs_items.specs.Limits.{max_depth}
use Rattle.secs_items.specs.Reading.{first_fault, item_at}
use Rattle.secs_items.specs.Spelling.{Spells}
use Rattle.secs_items.proofs.Faults.{read_none}
use Rattle.secs_items.proofs.SpellLaws.{spells_read}
use Rattle.secs_items.proofs.Verdicts.{nothing_short}
use Rattle.equipment_tables.specs.Requests.{item_in, whole_item}

-- what is spelled is the item
pub spelled_item : (item : Item) (body : List ℕ) → Spells item body → item_in body ≡ Some item
spelled_item item body spelled = ap whole_item (spells_read (length body) item body spelled)

-- what has a fault is no item
pub faulty_item : (body : List ℕ) (named : ItemFault) → first_fault body ≡ Some named → item_in body ≡ None
faulty_item body named is = go (item_at (length body) max_depth body) refl
  where
    nothing : (rest : List ℕ) → (length rest == 0) ≡ true → rest ≡ []
    nothing [] none = refl
    nothing (b ∷ rest) none = absurd (omega (arith, eqb-true (length (b ∷ rest)) 0 none))

    left : (x : Item × List ℕ) → item_at (length body) max_depth body ≡ Ok x → (b : Bool) → (length x.1 == 0) ≡ b
        → cond b (Some x.0) None ≡ None
    left x read true none =
        let whole = read_none body x.0 x.1 read (nothing x.1 none) in
        absurd (cc)
    left x read false some = refl

    go : (read : Result (Item × List ℕ) ItemFault) → item_at (length body) max_depth body ≡ read
        → whole_item read ≡ None
    go (Err e) same = refl
    go (Ok x) same = left x same (length x.1 == 0) refl

-- what a check doesn't find whole is no item
pub no_item : (body : List ℕ) → (verdict_of body ≡ verdict.Whole → ⊥) → item_in body ≡ None
no_item [] broken = faulty_item [] (fault.Short 0) nothing_short
no_item (byte ∷ rest) broken = go (first_fault (byte ∷ rest)) refl
  where
    go : (found : Option ItemFault) → first_fault (byte ∷ rest) ≡ found → item_in (byte ∷ rest) ≡ None
    go None same = absurd (broken (ap verdict_by same))
    go (Some e) same = faulty_item (byte ∷ rest) e same
