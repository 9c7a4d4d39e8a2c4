-- The worked runs.
use Rattle.std.specs.Prelude.{◌≡◌, ◌==◌, ℕ, Bool, true, false, [], ◌∷◌, length, refl}
use Rattle.std.proofs.Common.{ap, arith, rules}
use Rattle.gl_base.specs.declared.side.Side.TheVariants.{Equipment, Host}
use Rattle.line_end.specs.Frames.{block_in, is_frame, sum_cause}
use Rattle.line_order.specs.Line.{new_line}
use Rattle.message_end.specs.Own.{received_in}
use Rattle.message_end.specs.Log.{log_of}
use Rattle.message_end.specs.Moves.{KeepLaws, new_run, plan_at}
use Rattle.message_flow.specs.Laws.{MessagesGoInBlocks}
use Rattle.trace_log.specs.Delivered.{Delivered}
use Rattle.trace_log.specs.Log.{Entry}
use Rattle.delivery.specs.Worked.{ComesTwice, KeepLawsBut, NeedsSilence, OutlivesLoss, Unless, a_plan, answered, answered_anew, asked_twice, before_again, by_turns, contention, loss, moves_after, outlived, plans, question, repeated, written_again}
use Rattle.delivery.proofs.Ends.{History, history_of}
use Rattle.delivery.proofs.Playing.{Keeps, Play, Stands, StandsForMoves, all_may, goes-on, goes_on, move_played, played, plays-on, stands-on}
use Rattle.delivery.proofs.Tests.{never}

abbrev pub new_play : Play
new_play = record {
  line = new_line a_plan.times a_plan.times;
  equipment = history_of (plan_at Equipment plans) new_run;
  host = history_of (plan_at Host plans) new_run;
}

pub stands-new : StandsForMoves plans new_play []
stands-new = record {
  line_is = refl;
  equipment_is = refl;
  host_is = refl;
  equipment_state = refl;
  host_state = refl;
  no_slip = tt;
}

-- ---- the loss

keeps-laws : Keeps plans (KeepLaws plans)
keeps-laws move before may laws = (may, laws)

abbrev pub contended : Play
contended = played contention new_play

abbrev pub questioned : Play
questioned = played question contended

abbrev pub turned : Play
turned = played by_turns questioned

contention-may : all_may contention new_play ≡ true
unfolding block_in is_frame sum_cause
contention-may = refl

question-may : all_may question contended ≡ true
unfolding block_in is_frame sum_cause
question-may = refl

turns-may : all_may by_turns questioned ≡ true
unfolding block_in is_frame sum_cause
turns-may = refl

loss-may : all_may loss turned ≡ true
unfolding block_in is_frame sum_cause
loss-may = refl

loss-stands : MessagesGoInBlocks → Stands plans (KeepLaws plans) (played loss turned) outlived
loss-stands blocks =
    plays-on blocks (KeepLaws plans) keeps-laws loss turned
    (moves_after by_turns (moves_after question (moves_after contention []))) loss-may
    (plays-on blocks (KeepLaws plans) keeps-laws by_turns questioned (moves_after question (moves_after contention []))
    turns-may
    (plays-on blocks (KeepLaws plans) keeps-laws question contended (moves_after contention []) question-may
    (plays-on blocks (KeepLaws plans) keeps-laws contention new_play [] contention-may
    (record { moves_are = stands-new; laws = tt }))))

pub outlives-loss : MessagesGoInBlocks → OutlivesLoss
unfolding block_in is_frame sum_cause
outlives-loss blocks =
    let stands = loss-stands blocks in
    record {
      fits = search rules;
      no_slip = stands.moves_are.no_slip;
      laws = stands.laws;
      at_host_are = ap (λ (h : History). received_in h.own) stands.moves_are.host_is;
      at_equipment_are = ap (λ (h : History). received_in h.own) stands.moves_are.equipment_is;
    }

-- ---- the question that is received twice

repeated-may : all_may repeated new_play ≡ true
unfolding block_in is_frame sum_cause
repeated-may = refl

pub comes-twice : MessagesGoInBlocks → ComesTwice
unfolding block_in is_frame sum_cause
comes-twice blocks =
    let stands =
    plays-on blocks (KeepLaws plans) keeps-laws repeated new_play [] repeated-may
    (record { moves_are = stands-new; laws = tt })
    in
    record {
      no_slip = stands.moves_are.no_slip;
      laws = stands.laws;
      before = ap (λ (h : History). h.places_before) stands.moves_are.equipment_is;
      now = ap (λ (h : History). h.places) stands.moves_are.equipment_is;
    }

-- ---- the question that is written again

unless : (test : Bool) (law : Type 0) → law → Unless test law
unless true law is = tt
unless false law is = is

keeps-but : (place : ℕ) → Keeps plans (KeepLawsBut place)
keeps-but place move before may laws = (unless (place == length before) _ may, laws)

abbrev pub answered_play : Play
answered_play = played answered new_play

abbrev pub again_play : Play
again_play = move_played plans Host written_again.kind answered_play

answered-may : all_may answered new_play ≡ true
unfolding block_in is_frame sum_cause
answered-may = refl

again-goes : goes_on plans Host written_again.kind answered_play ≡ true
unfolding block_in is_frame sum_cause
again-goes = refl

anew-may : all_may answered_anew again_play ≡ true
unfolding block_in is_frame sum_cause
anew-may = refl

undelivered : Delivered (log_of asked_twice) → ⊥
undelivered is = never (is.0.once 5 (Entry.Ended 0) (omega arith))

pub needs-silence : MessagesGoInBlocks → NeedsSilence
unfolding block_in is_frame sum_cause
needs-silence blocks =
    let s0 : Stands plans (KeepLawsBut (length before_again)) new_play [] = record {
      moves_are = stands-new;
      laws =
          tt;
    } in
    let s1 =
    plays-on blocks (KeepLawsBut (length before_again)) (keeps-but (length before_again)) answered new_play []
    answered-may s0
    in
    let s2 : Stands plans (KeepLawsBut (length before_again)) again_play (written_again ∷ before_again) = record {
      moves_are =
          stands-on plans Host 11 written_again.kind answered_play before_again
          (goes-on plans Host written_again.kind answered_play again-goes) s1.moves_are;
      laws = (tt, s1.laws);
    }
    in
    let s3 =
    plays-on blocks (KeepLawsBut (length before_again)) (keeps-but (length before_again)) answered_anew again_play
    (written_again ∷ before_again) anew-may s2
    in
    record {
      fits = search rules;
      no_slip = s3.moves_are.no_slip;
      laws = s3.laws;
      at_host_are = ap (λ (h : History). received_in h.own) s3.moves_are.host_is;
      undelivered = undelivered;
    }
