-- What the note of a start is, where the end that starts is known; and what is said behind it.
use Rattle.std.proofs.Common.{◌≡◌, refl, ℕ, List, [], ◌∷◌, Option, None, Some}
use Rattle.gl_base.specs.declared.side.Side.{Side}
use Rattle.gl_base.specs.declared.side.Side.TheVariants.{Equipment, Host}
use Rattle.trace_log.specs.Log.{Happening, Journal}
use Rattle.trace_log.specs.Log.Happening.{EquipmentStarted, HostStarted, StepEnded}
use Rattle.trace_log.specs.Names.{Spooled}
use Rattle.message_end.specs.Doings.{Doing}
use Rattle.message_end.specs.Doings.Doing.{Calls, Does, Gives, Says}
use Rattle.message_end.specs.Drops.{AreDroppedAt}
use Rattle.message_end.specs.LineCalls.{calls_in}
use Rattle.message_end.specs.Starts.{AreOfSetup, AreOfStart, IsEndOf, IsOfSetup, IsStartOf, bare_start}
use Rattle.message_end.specs.Starts.IsStartOf.{of_equipment, of_host, of_journal}

pub record IsEquipmentStart (note : Happening) (base : ℕ) : Type 0 where
  pub found : List (ℕ × Spooled)
  pub is : note ≡ EquipmentStarted found base

pub equipment-start :
    (side : Side) (note : Happening) (base : ℕ) → IsStartOf side note base → side ≡ Equipment
    → IsEquipmentStart note base
equipment-start _ _ _ (of_equipment found base) at = record { found = found; is = refl }
equipment-start _ _ _ (of_host base) at = absurd (cc)
equipment-start _ _ _ (of_journal found base) at = absurd (cc)

pub record IsHostStart (note : Happening) : Type 0 where
  pub journal : Option Journal
  pub is : note ≡ HostStarted journal

pub host-start :
    (side : Side) (note : Happening) (base : ℕ) → IsStartOf side note base → side ≡ Host → IsHostStart note
host-start _ _ _ (of_equipment found base) at = absurd (cc)
host-start _ _ _ (of_host base) at = record { journal = None; is = refl }
host-start _ _ _ (of_journal found base) at =
    record { journal = Some (record { found = found; base = base }); is = refl }

-- that of an end without a file
pub bare-start : (side : Side) (base : ℕ) → IsStartOf side (bare_start side base) base
bare-start Equipment base = of_equipment [] base
bare-start Host base = of_host base

-- ---- what is said behind it

-- a note of a setup, or of the end
abbrev pub IsSaidAtStart : Happening → Type 0
IsSaidAtStart StepEnded = Unit {0}
IsSaidAtStart what = IsOfSetup what

abbrev pub AreSaidAtStart : List Doing → Type 0
AreSaidAtStart [] = Unit {0}
AreSaidAtStart (Does own ∷ before) = ⊥
AreSaidAtStart (Gives place number block now ∷ before) = ⊥
AreSaidAtStart (Calls call ∷ before) = ⊥
AreSaidAtStart (Says what ∷ before) = IsSaidAtStart what × AreSaidAtStart before

setup-said : (what : Happening) → IsOfSetup what → IsSaidAtStart what
setup-said StepEnded of = tt
setup-said what of = of

said-of-setup : (said : List Doing) → AreOfSetup said → AreSaidAtStart said
said-of-setup [] of = tt
said-of-setup (Says what ∷ said) of = (setup-said what of.0, said-of-setup said of.1)
said-of-setup (Does own ∷ said) of = absurd of
said-of-setup (Gives place number block now ∷ said) of = absurd of
said-of-setup (Calls call ∷ said) of = absurd of

end-said : (what : Happening) (said : List Doing) → IsEndOf what said → IsSaidAtStart what × AreOfSetup said
end-said StepEnded said of = (tt, of)
end-said what said of = absurd of

pub said-of-start : (said : List Doing) → AreOfStart said → AreSaidAtStart said
said-of-start [] of = tt
said-of-start (Says what ∷ said) of =
    let both = end-said what said of in (both.0, said-of-setup said both.1)
said-of-start (Does own ∷ said) of = absurd of
said-of-start (Gives place number block now ∷ said) of = absurd of
said-of-start (Calls call ∷ said) of = absurd of

-- so it calls no line, and drops nothing
pub said-calls : (said : List Doing) → AreSaidAtStart said → calls_in said ≡ []
said-calls [] are = refl
said-calls (Says what ∷ said) are = said-calls said are.1
said-calls (Does own ∷ said) are = absurd are
said-calls (Gives place number block now ∷ said) are = absurd are
said-calls (Calls call ∷ said) are = absurd are

pub said-dropped : (now : ℕ) (said : List Doing) → AreSaidAtStart said → AreDroppedAt now said
said-dropped now [] are = tt
said-dropped now (Says what ∷ said) are = said-dropped now said are.1
said-dropped now (Does own ∷ said) are = absurd are
said-dropped now (Gives place number block at ∷ said) are = absurd are
said-dropped now (Calls call ∷ said) are = absurd are
