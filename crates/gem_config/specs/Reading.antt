-- What reading a plan file gives, and where a value stands in it (this profile).
use Rattle.std.specs.Prelude.{◌≡◌, ◌≢◌, ℕ, List, ◌++◌, codes, Option, Result, Ok, Err}
use Rattle.gem_config.specs.declared.fault.ConfigFault.{ConfigFault}
use Rattle.gem_config.specs.declared.fault.ConfigFault.TheVariants as fault
use Rattle.gem_config.specs.declared.fault.ConfigWhat.{ConfigWhat}
use Rattle.toml.specs.Data.{Data, Members, get_member}

-- a value, or the first refusal
abbrev pub Read : Type 0 → Type 0
Read A = Result A ConfigFault

infixl 10 ◌>>=◌
abbrev pub ◌>>=◌ : {A B : Type 0} → Read A → (A → Read B) → Read B
(Ok x) >>= f = f x
(Err e) >>= f = Err e

abbrev pub refused : {A : Type 0} → List ℕ → ConfigWhat → Read A
refused key what = Err (fault.Key key what)

-- what was returned, seen by view, is what reading gives, unless memory ran out
abbrev pub GivesBy : {X A : Type 0} → (X → A) → Result X ConfigFault → Read A → Type 0
GivesBy view (Ok x) read = read ≡ Ok (view x)
GivesBy view (Err e) read = e ≢ fault.NoMemory → read ≡ Err e

abbrev pub Gives : {A : Type 0} → Result A ConfigFault → Read A → Type 0
Gives = GivesBy (λ x. x)

-- a section of the file, or an element of one
pub record SectionView : Type 0 where
  pub name : List ℕ
  pub members : Members

-- what stands at a key, and how a refusal calls that key
pub record FoundView : Type 0 where
  pub key : List ℕ
  pub held : Option Data

-- the section, a point and the key
abbrev pub key_of : List ℕ → List ℕ → List ℕ
key_of section key = section ++ codes "." ++ key

abbrev pub at : SectionView → List ℕ → FoundView
at section key = record { key = key_of section.name key; held = get_member key section.members }

abbrev pub section_named : List ℕ → Members → SectionView
section_named name members = record { name = name; members = members }

-- what stands at a key inside a value, of which refusals name the value's own key
abbrev pub within : List ℕ → Members → List ℕ → FoundView
within key members name = record { key = key; held = get_member name members }
