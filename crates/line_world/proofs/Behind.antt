-- A run over a tool and a host is one of moves that deliver.
use Rattle.std.proofs.Common.{ℕ, List, [], ◌∷◌, ◌++◌, sym, subst}
use Rattle.delivery.specs.Laws.{Deliver, EndsDeliver}
use Rattle.end_pair.specs.Laws.{AreNoNotes, IsOfMoves}
use Rattle.tool_law.specs.Laws.{DidOf}
use Rattle.equipment_tables.specs.Plan.{PlansFit}
use Rattle.equipment_tables.specs.declared.plan.Plans.{Plans}
use Rattle.message_end.specs.Doings.{Doing}
use Rattle.message_end.specs.Log as moves
use Rattle.trace_log.specs.Delivered.{Delivered}
use Rattle.trace_log.specs.Log.{Entry}
use Rattle.trace_log.specs.Log.Entry.{Ended, Noted, Slipped}
use Rattle.line_world.specs.Safe.{plans_of}

-- what no end has noted changes nothing of what is said of messages
delivered-behind : (last log : List Entry) → AreNoNotes last → Delivered log → Delivered (last ++ log)
delivered-behind [] log none is = is
delivered-behind (Noted moment side what ∷ last) log none is = absurd none.0
delivered-behind (Slipped moment side frame characters ∷ last) log none is = (tt, delivered-behind last log none.1 is)
delivered-behind (Ended moment ∷ last) log none is = (tt, delivered-behind last log none.1 is)

module _ {T : Type 0} (plans : Plans) (host : ℕ → List Doing → T → Type 0) (fit : PlansFit plans)
    (deliver : EndsDeliver) (log : List Entry) (moved : IsOfMoves (DidOf plans.equipment) host (plans_of plans) log)
  where
    pub delivers : Deliver (plans_of plans) moved.moves
    delivers = deliver (plans_of plans) moved.moves fit.equipment.line.times fit.host.line.times moved.no_slip moved.keep

    pub is-delivered : Delivered log
    is-delivered =
        let behind = delivered-behind moved.last (moves.log_of moved.moves) moved.no_notes delivers.delivered in
        subst Delivered (sym moved.is) behind
