-- How a `Row` holds its elements, so that a type may hold rows of itself.
use mathlib.Core.Path.{◌≡◌, refl, sym}
use mathlib.Core.List.{List, []}
use mathlib.Core.Former.{Former, this, list, via, children}
use base.Stored.{code_map}
use denote.RattleType.{RattleType}
use denote.HoleLaws.{Alike}
use denote.HolePlaces.{Recodes, struct_places, laid}
use denote.Hole.Carrier.{listed, list-listed}
use denote.Hole.Fix.{over}
use denote.Param.Weighed.{Weighed, w_list}
use denote.Model.Placed.{view_places}
use Rattle.std.specs.formers.vec.Vec as vec
use Rattle.std.specs.declared.alloc.Global.{Global}
use Rattle.std.specs.contracts.alloc.Global as heap
use Rattle.std.specs.contracts.impls.GlobalAllocator.TheImpl.{ghosts}
use Rattle.gl_base.specs.declared.row.Row.TheInside.{Inside}
use Rattle.gl_base.specs.declared.row.Row.TheView.{view, invariant}
use Rattle.gl_base.specs.contracts.row.Row as row
use Rattle.gl_base.specs.contracts.row.Row.TheInside as fields

-- to its readers a row is a list
abbrev pub the_former : Former {0} → Former {0}
the_former element = list element

abbrev pub the_weighed : {element : Former {0}} → Weighed element → Weighed (the_former element)
the_weighed weight = w_list weight

pub the_empty : List ⊥
the_empty = []

abbrev pub the_items : (X : Type 0) → List X → List X
the_items X elements = elements

pub the_items_listed : (X : Type 0) (elements : List X) → listed _ (children (the_former this) X elements) ≡ the_items X elements
the_items_listed X elements = list-listed X elements

-- the one field, a vector
abbrev kept : Former {0}
kept = via (vec.the_former this Global) Inside (λ X inside. inside.items) (λ X items. record { items = items }) (λ X inside. refl) (λ X items. refl)

module _ (R S : RattleType) (h : R.Denot → S.Denot) where
  pub the_places : Alike R S h → Alike (row.the_row R) (row.the_row S) ((the_former this).map R.Denot S.Denot h)
  the_places alike = view_places kept (list this) view (λ X Y k u. refl) (λ X u. refl) R.Denot S.Denot h (row.the_row R).coded (row.the_row S).coded
      (invariant R.Denot) (invariant S.Denot) (λ u p q. refl) (λ u p q. refl) (λ u e. tt) (λ u e. tt)
      (over (fields.the_row R)) (over (fields.the_row S))
      (struct_places (fields.the_type R) (fields.the_type S) (vec.mapped h, tt) _ (λ u. refl) refl (laid _ _ _ (vec.the_places heap.the_row ghosts R S h alike), tt))

  pub the_codes_placed : Recodes R S h → Recodes (row.the_row R) (row.the_row S) ((the_former this).map R.Denot S.Denot h)
  the_codes_placed recodes elements = sym (code_map R.coded.code S.coded.code h (λ x. sym (recodes x)) elements)
