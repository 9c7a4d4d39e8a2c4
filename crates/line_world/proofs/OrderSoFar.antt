-- That messages come in order at each entry of a log: a front of its moves has the entries so far.
use Rattle.std.proofs.Common.{◌≡◌, ℕ, List, [], ◌∷◌, ◌++◌, Option, Some, None}
use Rattle.delivery.specs.Order.{AreInOrder}
use Rattle.end_pair.specs.Laws.{AreNoNotes, IsOfMoves}
use Rattle.equipment_tables.specs.declared.plan.Plans.{Plans}
use Rattle.gl_base.specs.declared.side.Side.{Side}
use Rattle.line_order.specs.Acts.{Act, Deed, HasNoSlip}
use Rattle.line_order.specs.Line.{Line, new_line}
use Rattle.message_end.specs.Doings.{Doing}
use Rattle.message_end.specs.Log.{log_of, noted_at, with_note}
use Rattle.message_end.specs.Moves.{KeepLaws, Move, act_of, deeds_of, with_act}
use Rattle.tool_law.specs.Laws.{DidOf}
use Rattle.trace_log.specs.Log.{Entry, Happening}
use Rattle.line_world.specs.Safe.{HasComeInOrder, plans_of}

tail : {X : Type 0} (x y : X) (xs ys : List X) → x ∷ xs ≡ y ∷ ys → xs ≡ ys
tail x y xs ys same = cc

slip-less : (line : Line) (side : Side) (act : Option Act) (deeds : List Deed)
    → HasNoSlip line (with_act side act deeds) → HasNoSlip line deeds
slip-less line side None deeds none = none
slip-less line side (Some act) deeds none = none.1

-- whatever the host is
pub order-at :
    {T : Type 0} (plans : Plans) (host : ℕ → List Doing → T → Type 0) (log : List Entry)
    (moved : IsOfMoves (DidOf plans.equipment) host (plans_of plans) log) → AreInOrder (plans_of plans) moved.moves
    → HasComeInOrder plans log
order-at plans host log moved order = record {
  moves = moved.moves;
  keep = moved.keep;
  no_slip = moved.no_slip;
  in_order = order;
  last = moved.last;
  no_notes = moved.no_notes;
  is = moved.is;
}

module _ (plans : Plans) (entry : Entry) (log : List Entry) where
  abbrev line : Line
  line = new_line plans.equipment.line.times plans.host.line.times

  -- the newest move that has noted something is left out, with all behind it
  from-moves :
      (moves : List Move) → KeepLaws (plans_of plans) moves → HasNoSlip line (deeds_of moves)
      → AreInOrder (plans_of plans) moves → entry ∷ log ≡ log_of moves → HasComeInOrder plans log
  from-moves [] keep none order is = absurd (cc)
  from-moves (move ∷ before) keep none order is =
      go (noted_at move.side move.kind) is (λ same. from-moves before keep.1 less order.1 same)
    where
      less : HasNoSlip line (deeds_of before)
      less = slip-less line move.side (act_of move.kind) (deeds_of before) none

      go : (noted : Option Happening) → entry ∷ log ≡ with_note move.moment move.side noted (log_of before)
          → (entry ∷ log ≡ log_of before → HasComeInOrder plans log) → HasComeInOrder plans log
      go None is rest = rest is
      go (Some what) is rest = record {
        moves = before;
        keep = keep.1;
        no_slip = less;
        in_order = order.1;
        last = [];
        no_notes = tt;
        is = tail entry (Entry.Noted move.moment move.side what) log (log_of before) is;
      }

  from-last :
      (last : List Entry) (moves : List Move) → AreNoNotes last → KeepLaws (plans_of plans) moves
      → HasNoSlip line (deeds_of moves) → AreInOrder (plans_of plans) moves → entry ∷ log ≡ last ++ log_of moves
      → HasComeInOrder plans log
  from-last [] moves no_notes keep none order is = from-moves moves keep none order is
  from-last (other ∷ last) moves no_notes keep none order is = record {
    moves = moves;
    keep = keep;
    no_slip = none;
    in_order = order;
    last = last;
    no_notes = no_notes.1;
    is = tail entry other log (last ++ log_of moves) is;
  }

  order-before : HasComeInOrder plans (entry ∷ log) → HasComeInOrder plans log
  order-before come = from-last come.last come.moves come.no_notes come.keep come.no_slip come.in_order come.is

pub order-so-far : (plans : Plans) (later log : List Entry) → HasComeInOrder plans (later ++ log)
    → HasComeInOrder plans log
order-so-far plans [] log come = come
order-so-far plans (entry ∷ later) log come =
    order-so-far plans later log (order-before plans entry (later ++ log) come)
