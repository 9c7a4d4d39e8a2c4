-- What a verdict says of bytes, in words of spellings.
use Rattle.std.proofs.Common.{◌≡◌, ℕ, List, [], ◌∷◌, Option, Some, None, refl, ap}
use Rattle.secs_items.specs.declared.item.Item.{Item}
use Rattle.secs_items.specs.declared.item_fault.ItemFault.{ItemFault}
use Rattle.secs_items.specs.declared.item_fault.ItemFault.TheVariants as fault
use Rattle.secs_items.specs.declared.verdict.Verdict.TheVariants as verdict
use Rattle.secs_items.specs.Checking.{verdict_by, verdict_of}
use Rattle.secs_items.specs.Elements.{AllBytes}
use Rattle.secs_items.specs.Reading.{fault_after, first_fault}
use Rattle.secs_items.specs.Spelling.{Spells}
use Rattle.secs_items.proofs.CheckLaws.{no_byte}
use Rattle.secs_items.proofs.CheckedViews.{no_fault}
use Rattle.secs_items.proofs.ItemSteps.{after_no_head}
use Rattle.secs_items.proofs.SpellLaws.{none_spells, spells_none}

clash : (o : Option ItemFault) (f : ItemFault) → o ≡ Some f → o ≡ None → ⊥
clash o f some none = cc

-- no bytes at all spell nothing
pub nothing_short : first_fault [] ≡ Some (fault.Short 0)
unfolding first_fault
nothing_short = ap (fault_after 0) (after_no_head 0 64 [] (fault.Short 0) (no_byte 0 64))

pub spelled_whole : (item : Item) (bytes : List ℕ) → Spells item bytes → verdict_of bytes ≡ verdict.Whole
spelled_whole item [] s = absurd (clash (first_fault []) (fault.Short 0) nothing_short (spells_none item [] s))
spelled_whole item (byte ∷ bytes) s = ap verdict_by (spells_none item (byte ∷ bytes) s)

pub whole_spelled : (bytes : List ℕ) → AllBytes bytes → verdict_of bytes ≡ verdict.Whole → (item : Item) × Spells item bytes
whole_spelled bytes fits whole = none_spells bytes fits (no_fault bytes whole)

pub empty_is : (bytes : List ℕ) → verdict_of bytes ≡ verdict.Empty → bytes ≡ []
empty_is [] e = refl
empty_is (byte ∷ bytes) e = absurd (by_fault (first_fault (byte ∷ bytes)) e)
  where
    by_fault : (o : Option ItemFault) → verdict_by o ≡ verdict.Empty → ⊥
    by_fault None e = cc
    by_fault (Some f) e = cc

pub broken_is : (bytes : List ℕ) (e : ItemFault) → verdict_of bytes ≡ verdict.Broken e → first_fault bytes ≡ Some e
broken_is [] e h = absurd cc
broken_is (byte ∷ bytes) e h = by_fault (first_fault (byte ∷ bytes)) h
  where
    by_fault : (o : Option ItemFault) → verdict_by o ≡ verdict.Broken e → o ≡ Some e
    by_fault None h = absurd cc
    by_fault (Some f) h = cc
