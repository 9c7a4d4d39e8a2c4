use Rattle.std.proofs.Common.{◌≡◌, refl, sym, ap, ◌∙◌, Bool, ℕ, List, Option, Some, None}
use Rattle.std.specs.Option.{option_map}
use Rattle.std.specs.Prelude.{IfSome}
use Rattle.tool_core.specs.Node.{node_of}
use Rattle.equipment_node.specs.Amid.{setup_if}
use Rattle.equipment_node.proofs.disk_step.bytes_to_keep.Goals as goal

-- what is told by cases on what was found is that
as-found : {A : Type 0} (text_of : A → List ℕ) (found : Option A) (told : Option (List ℕ))
    → IfSome found (λ (x : A). told ≡ Some (text_of x)) → (found ≡ None → told ≡ None)
    → option_map text_of found ≡ told
as-found text_of None told some none = sym (none refl)
as-found text_of (Some x) told some none = sym some

pub returns-then-not-keeps-clause-are : goal.returns-then-not-keeps-clause-are
returns-then-not-keeps-clause-are c =
    ap (λ (keeps : Bool). setup_if keeps (node_of c.args.tool.now).own) (sym c.if-not-keeps.true)

pub returns-clause-are : goal.returns-clause-are
returns-clause-are c =
    as-found (λ bytes. bytes.now) c.to_keep.result _ c.to_keep.ensures.some c.to_keep.ensures.none
    ∙ ap (λ (keeps : Bool). setup_if keeps (node_of c.args.tool.now).own) (sym c.if-not-keeps.false)
