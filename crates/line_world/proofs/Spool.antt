-- The spool in the log of a run is kept, and the host takes its messages in order.
use Rattle.std.proofs.Common.{◌≡◌, ◌++◌, ℕ, List, [], ◌∷◌, refl, ap, subst, sym, ◌∙◌}
use Rattle.end_pair.specs.Laws.{AreNoNotes, IsOfMoves}
use Rattle.end_pair.specs.Noted.{noted_by}
use Rattle.tool_law.specs.Laws.{DidOf}
use Rattle.tool_spool.specs.SpoolKept.{policy_of}
use Rattle.equipment_tables.specs.Plan.{PlansFit}
use Rattle.equipment_tables.specs.declared.plan.Plans.{Plans}
use Rattle.gl_base.specs.declared.side.Side.TheVariants.{Equipment, Host}
use Rattle.message_end.specs.Doings.{Doing}
use Rattle.message_end.specs.Log as moves
use Rattle.spool_delivery.specs.Account.{account_of}
use Rattle.spool_delivery.specs.Claims.{IsTakenInOrder, TakenInOrder, equipment_notes}
use Rattle.spool_delivery.specs.Laws.{IsSpoolTaken, KeepSpoolLaws, SpoolIsTakenInOrder}
use Rattle.spool_law.specs.Shelf.{KeepsSpool, Policy}
use Rattle.trace_log.specs.Log.{Entry, Happening}
use Rattle.trace_log.specs.Log.Entry.{Ended, Noted, Slipped}
use Rattle.line_world.proofs.Tries.{keeps-tries}
use Rattle.line_world.specs.Safe.{HoldsSpool, plans_of}

-- what the equipment has noted is said in two ways
same-notes : (log : List Entry) → noted_by Equipment log ≡ equipment_notes log
same-notes [] = refl
same-notes (Noted moment Equipment what ∷ before) = ap (λ (notes : List Happening). what ∷ notes) (same-notes before)
same-notes (Noted moment Host what ∷ before) = same-notes before
same-notes (Slipped moment side frame characters ∷ before) = same-notes before
same-notes (Ended moment ∷ before) = same-notes before

-- what no end has noted changes nothing of it
notes-behind : (last log : List Entry) → AreNoNotes last → equipment_notes (last ++ log) ≡ equipment_notes log
notes-behind [] log none = refl
notes-behind (Noted moment side what ∷ last) log none = absurd none.0
notes-behind (Slipped moment side frame characters ∷ last) log none = notes-behind last log none.1
notes-behind (Ended moment ∷ last) log none = notes-behind last log none.1

-- and nothing of what is said of the spool
newest : (log : List Entry) → TakenInOrder log → IsTakenInOrder (account_of log)
newest [] taken = record { later = []; is = refl }
newest (entry ∷ before) taken = taken.0

pub taken-behind : (policy : Policy) (last log : List Entry) → AreNoNotes last → IsSpoolTaken policy log
    → IsSpoolTaken policy (last ++ log)
taken-behind policy [] log none is = is
taken-behind policy (Noted moment side what ∷ last) log none is = absurd none.0
taken-behind policy (Slipped moment side frame characters ∷ last) log none is =
    let rest = taken-behind policy last log none.1 is in
    record { kept = (tt, rest.kept); taken = (newest (last ++ log) rest.taken, rest.taken) }
taken-behind policy (Ended moment ∷ last) log none is =
    let rest = taken-behind policy last log none.1 is in
    record { kept = (tt, rest.kept); taken = (newest (last ++ log) rest.taken, rest.taken) }

module _ {T : Type 0} (plans : Plans) (host : ℕ → List Doing → T → Type 0) (log : List Entry)
    (kept : KeepsSpool (policy_of plans.equipment plans.slots) (noted_by Equipment log))
    (moved : IsOfMoves (DidOf plans.equipment) host (plans_of plans) log)
  where
    abbrev policy : Policy
    policy = policy_of plans.equipment plans.slots

    -- the notes of the moves
    pub moved-notes : noted_by Equipment log ≡ equipment_notes (moves.log_of moved.moves)
    moved-notes =
        same-notes log ∙ ap equipment_notes moved.is
        ∙ notes-behind moved.last (moves.log_of moved.moves) moved.no_notes

    pub spool-laws : KeepSpoolLaws policy (plans_of plans) moved.moves
    spool-laws = record {
      ends = moved.keep;
      notes = subst (KeepsSpool policy) moved-notes kept;
      tries = keeps-tries plans host moved.moves moved.steps;
    }

    pub holds-spool : PlansFit plans → SpoolIsTakenInOrder → HoldsSpool plans log
    holds-spool fit law =
        subst (IsSpoolTaken policy) (sym moved.is)
        (taken-behind policy moved.last (moves.log_of moved.moves) moved.no_notes
        (law policy (plans_of plans) moved.moves fit.equipment.line.times fit.host.line.times moved.no_slip spool-laws))
