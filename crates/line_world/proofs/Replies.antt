-- That the replies of a log go in the steps of their primaries: what the doings of both ends keep between two steps
-- they keep at each move of a run, and the notes are theirs.
use Rattle.std.proofs.Common.{◌++◌, ◌≡◌, refl, ℕ, List, [], ◌∷◌, Option, Some, None, ap, subst, sym, ◌∙◌}
use Rattle.end_pair.specs.InSteps.{AreAtStates, ComeInSteps, IsFate}
use Rattle.end_pair.specs.Laws.{AreNoNotes, IsOfMoves}
use Rattle.end_pair.specs.Noted.{noted_by}
use Rattle.end_pair.proofs.AtEachMove.{AreKept, at-each-move}
use Rattle.equipment_tables.specs.declared.plan.Plans.{Plans}
use Rattle.gl_base.specs.declared.side.Side.{Side}
use Rattle.gl_base.specs.declared.side.Side.TheVariants.{Equipment, Host}
use Rattle.message_end.specs.Doings.{Doing, IsLawful}
use Rattle.message_end.specs.Doings.Doing.{Calls, Does, Gives, Says}
use Rattle.message_end.specs.InStep.{IsInStep, IsNotedInStep, RepliesAreOfSteps, ReplyInTheirSteps, asked_among, asked_behind, asked_in_step}
use Rattle.message_end.specs.Log.{log_of, noted_at, noted_of, with_note}
use Rattle.message_end.specs.Moves.{KeepLaws, Kind, LinePlans, MayMove, Move, plan_at, run_at}
use Rattle.message_end.specs.Moves.Kind.{Added, Changed, Did, Lost, Started}
use Rattle.message_end.specs.Own.{Own, asked_after}
use Rattle.message_end.specs.Own.Own.{DrewNumber, DroppedMessage, GaveBlock, HeardBlock, ReceivedMessage, SentMessage, WroteFrame}
use Rattle.message_end.specs.Plan.{EndPlan}
use Rattle.message_end.specs.Starts.{IsStartOf}
use Rattle.message_end.specs.Starts.IsStartOf.{of_equipment, of_host, of_journal}
use Rattle.line_order.specs.Characters.{Character}
use Rattle.message_flow.specs.declared.message.Message.{Message}
use Rattle.message_flow.specs.Message.{is_primary}
use Rattle.trace_log.specs.InStep.{noted_in_step}
use Rattle.trace_log.specs.Log.{Entry, Happening}
use Rattle.trace_log.specs.Log.Entry.{Ended, Noted, Slipped}
use Rattle.trace_log.specs.Log.Happening.{Power}
use Rattle.message_end.proofs.NotedSteps.{plain-note}
use Rattle.tool_law.specs.Laws.{DidOf}
use Rattle.line_world.proofs.AtOnce.{replies-at-once}
use Rattle.line_world.proofs.NotedSteps.{are-in-steps}
use Rattle.line_world.specs.Safe.{HostDid, plans_of}
use Rattle.line_world.specs.Steps.{ReplyInSteps, SafeLogsReplyInSteps}

-- what one end has done since its start
abbrev doings_at : Side → LinePlans → List Move → List Doing
doings_at side plans moves = (run_at side plans moves).doings

abbrev KindInStep : Side → List Doing → Kind → Type 0
KindInStep side doings (Did doing) = IsInStep side doings doing
KindInStep side doings _ = Unit {0}

module _ (plans : LinePlans) where
  -- a move of this end
  abbrev MayAt : Side → Side → List Move → Kind → Type 0
  MayAt Equipment Equipment before kind = KindInStep Equipment (doings_at Equipment plans before) kind
  MayAt Host Host before kind = KindInStep Host (doings_at Host plans before) kind
  MayAt Equipment Host before kind = Unit {0}
  MayAt Host Equipment before kind = Unit {0}

  abbrev KeepsReplies : Side → List Move → Type 0
  KeepsReplies side [] = Unit {0}
  KeepsReplies side (move ∷ before) = MayAt side move.side before move.kind × KeepsReplies side before

  abbrev replied_at : Side → List Move → Type 0
  replied_at side moves = ReplyInTheirSteps (plan_at side plans) (doings_at side plans moves)

  -- ---- at each move

  -- a doing is the last one of its end
  doing-back :
      (side end : Side) (moment : ℕ) (doing : Doing) (rest : List Move)
      → replied_at side (record { side = end; moment = moment; kind = Did doing } ∷ rest)
      → replied_at side rest
      × (KeepsReplies side rest → KeepsReplies side (record { side = end; moment = moment; kind = Did doing } ∷ rest))
  doing-back Equipment Equipment moment doing rest replied = (replied.1, λ kept. (replied.0, kept))
  doing-back Host Host moment doing rest replied = (replied.1, λ kept. (replied.0, kept))
  doing-back Equipment Host moment doing rest replied = (replied, λ kept. (tt, kept))
  doing-back Host Equipment moment doing rest replied = (replied, λ kept. (tt, kept))

  -- what is no end's doing, a start and what is said behind it, and what the world notes, are no replies
  fate-may : (side end : Side) (kind : Kind) (rest : List Move) → IsFate kind → MayAt side end rest kind
  fate-may side end (Did doing) rest fate = absurd fate
  fate-may side end (Started note base) rest fate = absurd fate
  fate-may Equipment Equipment Lost rest fate = tt
  fate-may Equipment Equipment (Changed place byte) rest fate = tt
  fate-may Equipment Equipment (Added byte) rest fate = tt
  fate-may Host Host Lost rest fate = tt
  fate-may Host Host (Changed place byte) rest fate = tt
  fate-may Host Host (Added byte) rest fate = tt
  fate-may Equipment Host kind rest fate = tt
  fate-may Host Equipment kind rest fate = tt

  start-may : (side end : Side) (note : Happening) (base : ℕ) (rest : List Move)
      → MayAt side end rest (Started note base)
  start-may Equipment Equipment note base rest = tt
  start-may Host Host note base rest = tt
  start-may Equipment Host note base rest = tt
  start-may Host Equipment note base rest = tt

  said-may : (side end : Side) (what : Happening) (rest : List Move) → MayAt side end rest (Did (Says what))
  said-may Equipment Equipment what rest = tt
  said-may Host Host what rest = tt
  said-may Equipment Host what rest = tt
  said-may Host Equipment what rest = tt

  module _ {S T : Type 0} (equipment : ℕ → List Doing → S → Type 0) (host : ℕ → List Doing → T → Type 0)
      (side : Side)
      (law : (moves : List Move) → AreAtStates equipment host plans moves → replied_at side moves) where
    replies-kept : AreKept equipment host plans (replied_at side) (KeepsReplies side)
    replies-kept = record {
      law = law;
      none = tt;
      back = λ end moment doing before replied. doing-back side end moment doing before replied;
      fate = λ end moment kind before fate kept. (fate-may side end kind before fate, kept);
      start = λ end moment note base before kept. (start-may side end note base before, kept);
      said = λ end moment what before of kept. (said-may side end what before, kept);
      power = λ end moment before kept. (said-may side end Power before, kept);
    }

    replies-keep : (moves : List Move) → ComeInSteps equipment host plans moves → KeepsReplies side moves
    replies-keep moves steps =
        at-each-move equipment host plans (replied_at side) (KeepsReplies side) replies-kept moves steps

  -- ---- in the notes

  -- the notes of this end
  abbrev notes_at : Side → List Move → List Happening
  notes_at side moves = noted_by side (log_of moves)

  -- who asks by the notes of a step is who asks by its doings; and replies are of their steps
  record AreNoted (side : Side) (doings : List Doing) (notes : List Happening) : Type 0 where
    asked : asked_among (noted_in_step notes) ≡ asked_in_step doings
    replies : RepliesAreOfSteps side notes

  abbrev with_noted : Option Happening → List Happening → List Happening
  with_noted None notes = notes
  with_noted (Some what) notes = what ∷ notes

  own-noted :
      (side : Side) (doings : List Doing) (notes : List Happening) (own : Own) → IsInStep side doings (Does own)
      → AreNoted side doings notes → AreNoted side (Does own ∷ doings) (with_noted (noted_of (Does own)) notes)
  own-noted side doings notes (SentMessage message) may are = record {
    asked = ap (asked_after (is_primary message)) are.asked;
    replies = (
      (λ even.
          let is = may even in
          record {
            asked = is.asked;
            newest = are.asked ∙ is.newest;
            primary = is.primary;
            wait = is.wait;
            reply = is.reply;
          }),
      are.replies,
    );
  }
  own-noted side doings notes (ReceivedMessage message) may are =
      record { asked = refl; replies = (tt, are.replies) }
  own-noted side doings notes (DrewNumber number) may are = record { asked = are.asked; replies = are.replies }
  own-noted side doings notes (GaveBlock place number) may are = record { asked = are.asked; replies = are.replies }
  own-noted side doings notes (WroteFrame place number) may are = record { asked = are.asked; replies = are.replies }
  own-noted side doings notes (HeardBlock block now flow) may are =
      record { asked = are.asked; replies = are.replies }
  own-noted side doings notes (DroppedMessage header now) may are =
      record { asked = are.asked; replies = are.replies }

  doing-noted :
      (side : Side) (plan : EndPlan) (base : ℕ) (doings : List Doing) (notes : List Happening) (doing : Doing)
      → IsLawful plan base doings doing → IsInStep side doings doing → AreNoted side doings notes
      → AreNoted side (doing ∷ doings) (with_noted (noted_of doing) notes)
  doing-noted side plan base doings notes (Does own) law may are = own-noted side doings notes own may are
  doing-noted side plan base doings notes (Gives place number block now) law may are =
      record { asked = are.asked; replies = are.replies }
  doing-noted side plan base doings notes (Calls call) law may are =
      record { asked = are.asked; replies = are.replies }
  doing-noted side plan base doings notes (Says what) law may are =
      let is = plain-note side what law.1 in
      record {
        asked = is.asked notes ∙ ap (λ (asked : Option Message). asked_behind what asked) are.asked;
        replies = (is.noted notes, are.replies);
      }

  -- with a start none asks
  start-noted :
      (side : Side) (note : Happening) (base : ℕ) (before : List Happening) → IsStartOf side note base
      → (asked_among (noted_in_step (note ∷ before)) ≡ None) × IsNotedInStep side before note
  start-noted _ _ _ before (of_equipment found base) = (refl, tt)
  start-noted _ _ _ before (of_host base) = (refl, tt)
  start-noted _ _ _ before (of_journal found base) = (refl, tt)

  -- what an end notes, and what the other one does
  of-equipment : (moment : ℕ) (said : Option Happening) (log : List Entry)
      → noted_by Equipment (with_note moment Equipment said log) ≡ with_noted said (noted_by Equipment log)
  of-equipment moment None log = refl
  of-equipment moment (Some what) log = refl

  of-host : (moment : ℕ) (said : Option Happening) (log : List Entry)
      → noted_by Host (with_note moment Host said log) ≡ with_noted said (noted_by Host log)
  of-host moment None log = refl
  of-host moment (Some what) log = refl

  not-equipment : (moment : ℕ) (said : Option Happening) (log : List Entry)
      → noted_by Equipment (with_note moment Host said log) ≡ noted_by Equipment log
  not-equipment moment None log = refl
  not-equipment moment (Some what) log = refl

  not-host : (moment : ℕ) (said : Option Happening) (log : List Entry)
      → noted_by Host (with_note moment Equipment said log) ≡ noted_by Host log
  not-host moment None log = refl
  not-host moment (Some what) log = refl

  -- one move more
  at-move :
      (side end : Side) (moment : ℕ) (kind : Kind) (rest : List Move) (way : List Character)
      → MayMove (plan_at end plans) way (run_at end plans rest) kind → MayAt side end rest kind
      → AreNoted side (doings_at side plans rest) (notes_at side rest)
      → let move : Move = record { side = end; moment = moment; kind = kind } in
      AreNoted side (doings_at side plans (move ∷ rest)) (notes_at side (move ∷ rest))
  at-move Equipment Equipment moment (Did doing) rest way law may are =
      subst (AreNoted Equipment (doing ∷ doings_at Equipment plans rest))
      (sym (of-equipment moment (noted_of doing) (log_of rest)))
      (doing-noted Equipment (plan_at Equipment plans) (run_at Equipment plans rest).base
      (doings_at Equipment plans rest) (notes_at Equipment rest) doing law.0 may are)
  at-move Equipment Equipment moment (Started note base) rest way law may are =
      let is = start-noted Equipment note base (notes_at Equipment rest) law.0 in
      record { asked = is.0; replies = (is.1, are.replies) }
  at-move Equipment Equipment moment Lost rest way law may are = are
  at-move Equipment Equipment moment (Changed place byte) rest way law may are = are
  at-move Equipment Equipment moment (Added byte) rest way law may are = are
  at-move Host Host moment (Did doing) rest way law may are =
      subst (AreNoted Host (doing ∷ doings_at Host plans rest)) (sym (of-host moment (noted_of doing) (log_of rest)))
      (doing-noted Host (plan_at Host plans) (run_at Host plans rest).base (doings_at Host plans rest)
      (notes_at Host rest) doing law.0 may are)
  at-move Host Host moment (Started note base) rest way law may are =
      let is = start-noted Host note base (notes_at Host rest) law.0 in
      record { asked = is.0; replies = (is.1, are.replies) }
  at-move Host Host moment Lost rest way law may are = are
  at-move Host Host moment (Changed place byte) rest way law may are = are
  at-move Host Host moment (Added byte) rest way law may are = are
  at-move Equipment Host moment kind rest way law may are =
      subst (AreNoted Equipment (doings_at Equipment plans rest))
      (sym (not-equipment moment (noted_at Host kind) (log_of rest))) are
  at-move Host Equipment moment kind rest way law may are =
      subst (AreNoted Host (doings_at Host plans rest))
      (sym (not-host moment (noted_at Equipment kind) (log_of rest))) are

  all-noted :
      (side : Side) (moves : List Move) → KeepLaws plans moves → KeepsReplies side moves
      → AreNoted side (doings_at side plans moves) (notes_at side moves)
  all-noted side [] keep kept = record { asked = refl; replies = tt }
  all-noted side (move ∷ rest) keep kept =
      at-move side move.side move.moment move.kind rest _ keep.0 kept.0 (all-noted side rest keep.1 kept.1)

-- what stands behind the moves is no note
pub no-notes : (side : Side) (last log : List Entry) → AreNoNotes last → noted_by side (last ++ log) ≡ noted_by side log
no-notes side [] log none = refl
no-notes side (Noted moment end what ∷ last) log none = absurd none.0
no-notes side (Slipped moment end frame characters ∷ last) log none = no-notes side last log none.1
no-notes side (Ended moment ∷ last) log none = no-notes side last log none.1

-- whatever the host is, if its doings keep that
pub replies-go :
    {T : Type 0} (plans : Plans) (host : ℕ → List Doing → T → Type 0)
    → ((base : ℕ) (doings : List Doing) (t : T) → host base doings t
    → ReplyInTheirSteps (plan_at Host (plans_of plans)) doings)
    → (log : List Entry) → IsOfMoves (DidOf plans.equipment) host (plans_of plans) log → ReplyInSteps log
replies-go plans host replied log moved = record {
  equipment = by_equipment;
  host = by_host;
  equipment_at_once = replies-at-once Equipment log (are-in-steps plans host log moved).equipment by_equipment;
  host_at_once = replies-at-once Host log (are-in-steps plans host log moved).host by_host;
}
  where
    of : (side : Side)
        → ((moves : List Move) → AreAtStates (DidOf plans.equipment) host (plans_of plans) moves
        → replied_at (plans_of plans) side moves)
        → RepliesAreOfSteps side (noted_by side log)
    of side law =
        subst (RepliesAreOfSteps side)
        (sym (ap (noted_by side) moved.is ∙ no-notes side moved.last (log_of moved.moves) moved.no_notes))
        (all-noted (plans_of plans) side moved.moves moved.keep
        (replies-keep (plans_of plans) (DidOf plans.equipment) host side law moved.moves moved.steps)).replies

    by_equipment : RepliesAreOfSteps Equipment (noted_by Equipment log)
    by_equipment = of Equipment (λ moves at. at.equipment_did.is.steps.replies)

    by_host : RepliesAreOfSteps Host (noted_by Host log)
    by_host =
        of Host (λ moves at.
        replied (run_at Host (plans_of plans) moves).base (run_at Host (plans_of plans) moves).doings
        at.state_of_host at.host_did)

pub replies-in-steps : SafeLogsReplyInSteps
replies-in-steps plans log safe =
    replies-go plans (HostDid plans.host) (λ base doings t did. did.is.steps.replies) log safe.in_order.moved
