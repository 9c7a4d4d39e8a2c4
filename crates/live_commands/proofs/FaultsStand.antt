-- The fault of a text, which stands in it.
use Rattle.std.proofs.Common.{◌≡◌, ℕ, ◌-◌, ◌<◌, ◌≤◌, List, [], ◌∷◌, ◌++◌, inl, inr, length, drop, Some, sym, ap, ◌∙◌, arith, length-append}
use Rattle.std.proofs.lemmas.List.{length-drop}
use Rattle.secs_text.specs.declared.text_fault.TextFault.{TextFault}
use Rattle.secs_text.specs.declared.text_fault.TextFault.TheVariants as fault
use Rattle.secs_text.specs.Faults.{HasFault}
use Rattle.secs_text.specs.Grammar.{IsNumeral}
use Rattle.secs_text.proofs.FaultLaws.{met_fault}
use Rattle.secs_text.proofs.TextLaws.{no_fault}
use Rattle.live_commands.specs.ItemPlaces.{StandsIn}

-- a number has a digit
some_digit : (number : List ℕ) → IsNumeral number → 1 ≤ length number
some_digit [] (inl is) = absurd cc
some_digit [] (inr is) = absurd cc
some_digit (b ∷ number) is = omega arith

-- what stands at a place, if anything, stands within
stands : (text here : List ℕ) (at : ℕ) → drop at text ≡ here → 1 ≤ length here → at < length text
stands text here at is some =
    let left : length text - at ≡ length here = sym (length-drop at text) ∙ ap length is in omega (arith, left, some)

pub stands_in : (text : List ℕ) (e : TextFault) → HasFault text e → StandsIn text (Some e)
stands_in text (fault.Syntax at) h = h.breaks.within
stands_in text (fault.Range at) h =
    let some = some_digit h.number h.numeral in
    stands text (h.number ++ h.rest) at h.stands (omega (arith, some, length-append h.number h.rest))
stands_in text (fault.TooDeep at) h = stands text (60 ∷ 76 ∷ h.rest) at h.stands (omega arith)
stands_in text fault.NoMemory h = absurd h

-- what reading meets, and where
pub ruleset faults = (met_fault, no_fault, stands_in)
