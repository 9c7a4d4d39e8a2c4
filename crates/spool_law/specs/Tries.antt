-- What the equipment owes for what it sends of its spool, over its doings.
use Rattle.std.specs.Prelude.{◌≡◌, ◌≢◌, ℕ, true, List, [], ◌∷◌, Some}
use Rattle.gl_base.specs.declared.side.Side.{Side}
use Rattle.gl_base.specs.declared.side.Side.TheVariants.{Equipment, Host}
use Rattle.message_end.specs.Doings.{Doing, own_of}
use Rattle.message_end.specs.Doings.Doing.{Calls, Does, Gives, Says}
use Rattle.message_end.specs.Own.{Has, Own, drawn_in, sent_at, sent_in}
use Rattle.message_end.specs.Moves.{Kind, LinePlans, Move, plan_at, run_at}
use Rattle.message_end.specs.Moves.Kind.{Added, Changed, Did, Lost, Started}
use Rattle.message_end.specs.Plan.{EndPlan}
use Rattle.message_flow.specs.declared.message.Message.{Message}
use Rattle.message_flow.specs.Message.{is_primary}
use Rattle.spool_law.specs.Shelf.{Change, change_of}
use Rattle.spool_law.specs.Shelf.Change.{Tries}

-- the system bytes of the tries of this start, the newest first
abbrev pub tried_behind : Change → List ℕ → List ℕ
tried_behind (Tries number system) before = system ∷ before
tried_behind _ before = before

abbrev pub tries_in : List Doing → List ℕ
tries_in [] = []
tries_in (Does own ∷ before) = tries_in before
tries_in (Gives place number block now ∷ before) = tries_in before
tries_in (Calls call ∷ before) = tries_in before
tries_in (Says what ∷ before) = tried_behind (change_of what) (tries_in before)

-- a try has a number that was drawn, that no primary was sent with, and that no other try has had in this start
pub record MayTry (own : List Own) (tries : List ℕ) (system : ℕ) : Type 0 where
  pub drawn : Has (drawn_in own) system
  pub new : (message : Message) → Has (sent_in own) message → is_primary message ≡ true → message.system ≢ system
  pub untried : Has tries system → ⊥

abbrev pub MaySayTried : List Own → List ℕ → Change → Type 0
MaySayTried own tries (Tries number system) = MayTry own tries system
MaySayTried own tries _ = Unit {0}

abbrev pub IsNewest : List ℕ → ℕ → Type 0
IsNewest [] system = ⊥
IsNewest (newest ∷ before) system = newest ≡ system

-- behind a try no block of a message of an earlier try is given to the line
abbrev pub MayGiveTried : List Message → List ℕ → ℕ → Type 0
MayGiveTried sent tries place =
    (message : Message) → sent_at place sent ≡ Some message → is_primary message ≡ true → Has tries message.system
    → IsNewest tries message.system

-- each doing at those before it
abbrev pub MayDoTried : EndPlan → List Doing → Doing → Type 0
MayDoTried plan before (Does own) = Unit {0}
MayDoTried plan before (Gives place number block now) =
    MayGiveTried (sent_in (own_of plan before)) (tries_in before) place
MayDoTried plan before (Calls call) = Unit {0}
MayDoTried plan before (Says what) = MaySayTried (own_of plan before) (tries_in before) (change_of what)

abbrev pub MayMoveTried : EndPlan → List Doing → Kind → Type 0
MayMoveTried plan before (Did doing) = MayDoTried plan before doing
MayMoveTried plan before (Started note base) = Unit {0}
MayMoveTried plan before Lost = Unit {0}
MayMoveTried plan before (Changed place byte) = Unit {0}
MayMoveTried plan before (Added byte) = Unit {0}

abbrev pub MayTryAt : Side → LinePlans → List Move → Kind → Type 0
MayTryAt Equipment plans before kind =
    MayMoveTried (plan_at Equipment plans) (run_at Equipment plans before).doings kind
MayTryAt Host plans before kind = Unit {0}

-- the equipment keeps it over all its doings
abbrev pub KeepsTries : LinePlans → List Move → Type 0
KeepsTries plans [] = Unit {0}
KeepsTries plans (move ∷ before) = MayTryAt move.side plans before move.kind × KeepsTries plans before
