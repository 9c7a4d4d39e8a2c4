-- What the content of B, BOOLEAN and A is.
use Rattle.std.proofs.Common.{◌≡◌, ℕ, List, Some, sym, ap}
use Rattle.secs_items.specs.declared.item.Item.{Item}
use Rattle.secs_items.specs.declared.item.Item.TheOpen.{Item-F}
use Rattle.secs_items.specs.declared.kind.Kind.TheVariants as kind
use Rattle.secs_items.specs.Layers.{kind_of}
use Rattle.secs_items.specs.Spelling.{HasContent}
use Rattle.gem_shapes.specs.Elements.{byte_of, flag_of, one_flag_of, one_of, text_of}

-- what is read of the content, where the item is of the kind
pub record IsRaw (x : Item-F Item) (content : List ℕ) : Type 0 where
  pub byte : kind_of x ≡ kind.B → byte_of x ≡ one_of content
  pub flag : kind_of x ≡ kind.Bool → flag_of x ≡ one_flag_of content
  pub text : kind_of x ≡ kind.A → text_of x ≡ Some content

no_raw : (x : Item-F Item) (content : List ℕ) → (kind_of x ≡ kind.B → ⊥) → (kind_of x ≡ kind.Bool → ⊥) → (kind_of x ≡ kind.A → ⊥) → IsRaw x content
no_raw x content b f t = record { byte = λ e. absurd (b e); flag = λ e. absurd (f e); text = λ e. absurd (t e) }

pub raw : (P : List Item → List ℕ → Type 0) (x : Item-F Item) (content : List ℕ) → HasContent P x content → IsRaw x content
raw P (Item-F.B bytes) content h =
    record { byte = λ e. ap one_of (sym h.placed); flag = λ e. absurd cc; text = λ e. absurd cc }
raw P (Item-F.Bool bytes) content h =
    record { byte = λ e. absurd cc; flag = λ e. ap one_flag_of (sym h.placed); text = λ e. absurd cc }
raw P (Item-F.A bytes) content h =
    record { byte = λ e. absurd cc; flag = λ e. absurd cc; text = λ e. ap Some (sym h.placed) }
raw P (Item-F.L items) content h = no_raw (Item-F.L items) content (λ e. cc) (λ e. cc) (λ e. cc)
raw P (Item-F.J bytes) content h = no_raw (Item-F.J bytes) content (λ e. cc) (λ e. cc) (λ e. cc)
raw P (Item-F.I1 numbers) content h = no_raw (Item-F.I1 numbers) content (λ e. cc) (λ e. cc) (λ e. cc)
raw P (Item-F.I2 numbers) content h = no_raw (Item-F.I2 numbers) content (λ e. cc) (λ e. cc) (λ e. cc)
raw P (Item-F.I4 numbers) content h = no_raw (Item-F.I4 numbers) content (λ e. cc) (λ e. cc) (λ e. cc)
raw P (Item-F.I8 numbers) content h = no_raw (Item-F.I8 numbers) content (λ e. cc) (λ e. cc) (λ e. cc)
raw P (Item-F.U1 numbers) content h = no_raw (Item-F.U1 numbers) content (λ e. cc) (λ e. cc) (λ e. cc)
raw P (Item-F.U2 numbers) content h = no_raw (Item-F.U2 numbers) content (λ e. cc) (λ e. cc) (λ e. cc)
raw P (Item-F.U4 numbers) content h = no_raw (Item-F.U4 numbers) content (λ e. cc) (λ e. cc) (λ e. cc)
raw P (Item-F.U8 numbers) content h = no_raw (Item-F.U8 numbers) content (λ e. cc) (λ e. cc) (λ e. cc)
raw P (Item-F.F4 floats) content h = no_raw (Item-F.F4 floats) content (λ e. cc) (λ e. cc) (λ e. cc)
raw P (Item-F.F8 floats) content h = no_raw (Item-F.F8 floats) content (λ e. cc) (λ e. cc) (λ e. cc)
