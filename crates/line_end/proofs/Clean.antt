-- A block over a line that loses nothing.
use Rattle.std.specs.Prelude.{◌≡◌, ◌<◌, ℕ, zero, suc, Bool, true, false, ◌+◌, ◌&&◌, nat_le, nat_lt, List, [], ◌∷◌, ◌++◌, length, slice_index, Option, Some, None, if◌then◌else◌, refl}
use Rattle.std.specs.Int.{w16, to_be_bytes}
use Rattle.std.proofs.Common.{sym, ap, ◌∙◌, subst, arith, append_assoc, length-append}
use Rattle.std.proofs.lemmas.Bool.Decides.{nat_tests}
use Rattle.std.proofs.lemmas.Grind.{common_steps}
use Rattle.block_codec.specs.Block.{BlockView, IsBlock}
use Rattle.block_codec.specs.Frame.{checksum, counted_bytes, frame_bytes}
use Rattle.block_codec.proofs.Frames.{length-frame_bytes}
use Rattle.gl_base.specs.declared.side.Side.{Side}
use Rattle.line_end.specs.declared.event.LineCause.TheVariants.{Length}
use Rattle.line_end.specs.declared.event.LineEvent.TheVariants.{Arrived, Sent}
use Rattle.line_end.specs.declared.event.Phase.TheVariants.{Idle, AwaitAck, AwaitLength, Gathering}
use Rattle.line_end.specs.declared.plan.Times.{Times}
use Rattle.line_end.specs.Exchange.{Exchange, exchanged, hand_next, opened, receiver_took}
use Rattle.line_end.specs.Frames.{block_in, is_frame, sum_cause}
use Rattle.line_end.specs.State.{CanSend, IsLineState, LineState}
use Rattle.line_end.specs.Step.{ack, Outcome, arrives, gathered_in, gathers, settles}
use Rattle.line_end.proofs.Framed.{block_in-frame_bytes, is_frame-frame_bytes}

-- an end that is idle
abbrev pub idle_state : Side → Times → Option BlockView → ℕ → LineState
idle_state side times held number = record {
  side = side;
  times = times;
  phase = Idle;
  held = held;
  try_number = number;
  gathered = [];
  cause = None;
  deadline = None;
}

pub state-same :
    (a b : LineState) → a.side ≡ b.side → a.times ≡ b.times → a.phase ≡ b.phase → a.held ≡ b.held
    → a.try_number ≡ b.try_number → a.gathered ≡ b.gathered → a.cause ≡ b.cause → a.deadline ≡ b.deadline → a ≡ b
state-same a b side times phase held number gathered cause deadline = grind (arith, common_steps)

pub idle-state :
    (s : LineState) → IsLineState s → s.phase ≡ Idle → s ≡ idle_state s.side s.times s.held s.try_number
idle-state s is_state idle =
    state-same s (idle_state s.side s.times s.held s.try_number) refl refl idle refl refl
    (is_state.ungathered (λ other. cc)) (is_state.settled (λ other. cc)) (is_state.idle idle)

pub free-state : (s : LineState) → IsLineState s → CanSend s → s ≡ idle_state s.side s.times None 0
free-state s is_state can =
    state-same s (idle_state s.side s.times None 0) refl refl can.idle can.free (is_state.free can.free)
    (is_state.ungathered (λ other. let idle = can.idle in cc)) (is_state.settled (λ other. let idle = can.idle in cc)) (is_state.idle can.idle)

-- characters are handed over one after the other
pub exchanged-add :
    (at : ℕ → ℕ) (m n : ℕ) (x : Exchange) → exchanged at (m + n) x ≡ exchanged at n (exchanged at m x)
exchanged-add at zero n x =
    let none : 0 + n ≡ n = omega arith in
    ap (λ (k : ℕ). exchanged at k x) none
exchanged-add at (suc m) n x =
    let split : suc m + n ≡ suc (m + n) = omega arith in
    ap (λ (k : ℕ). exchanged at k x) split ∙ exchanged-add at m n (hand_next at x x.to_receiver x.to_sender)

-- the sender has written its frame
abbrev pub sending : Side → Times → BlockView → ℕ → LineState
sending side times block due = record {
  side = side;
  times = times;
  phase = AwaitAck;
  held = Some block;
  try_number = 1;
  gathered = [];
  cause = None;
  deadline = Some due;
}

-- the receiver has some characters of it, and the others are on their way
abbrev pub carrying : LineState → LineState → List ℕ → ℕ → List ℕ → ℕ → Exchange
carrying sender receiver gathered due rest handed = record {
  sender = sender;
  receiver = record receiver { phase = Gathering; gathered = gathered; deadline = Some due };
  to_receiver = rest;
  to_sender = [];
  handed = handed;
  sender_told = [];
  receiver_told = [];
}

-- the receiver has the block, and ACK is on its way
abbrev pub carried : LineState → LineState → BlockView → ℕ → Exchange
carried sender receiver block handed = record {
  sender = sender;
  receiver = record receiver { phase = Idle; gathered = []; deadline = None };
  to_receiver = [];
  to_sender = ack ∷ [];
  handed = handed;
  sender_told = [];
  receiver_told = Arrived block ∷ [];
}

pub gathered_in-more :
    (all : List ℕ) (s : LineState) (now : ℕ) → length all < slice_index all 0 + 3
    → gathered_in all s now ≡ gathers all s now
gathered_in-more all s now more =
    let test : nat_lt (length all) (slice_index all 0 + 3) ≡ true = grind (arith, nat_tests) in
    ap (λ (b : Bool). if b then gathers all s now else if is_frame all then arrives (block_in all) s else settles (sum_cause all) s now) test

pub gathered_in-last :
    (all : List ℕ) (s : LineState) (now : ℕ) (block : BlockView) → IsBlock block → all ≡ frame_bytes block
    → gathered_in all s now ≡ arrives block s
gathered_in-last all s now block in_block whole =
    let long = length-frame_bytes block in
    let all_long : length all ≡ 13 + length block.body = ap length whole ∙ long in
    let first : slice_index all 0 ≡ 10 + length block.body = ap (λ (l : List ℕ). slice_index l 0) whole in
    let test : nat_lt (length all) (slice_index all 0 + 3) ≡ false = grind (arith, nat_tests) in
    let framed : is_frame all ≡ true = ap is_frame whole ∙ is_frame-frame_bytes block in_block in
    let same : block_in all ≡ block = ap block_in whole ∙ block_in-frame_bytes block in_block in
    ap (λ (b : Bool). if b then gathers all s now else if is_frame all then arrives (block_in all) s else settles (sum_cause all) s now) test
    ∙ ap (λ (b : Bool). if b then arrives (block_in all) s else settles (sum_cause all) s now) framed
    ∙ ap (λ (b : BlockView). arrives b s) same

-- the rest of a frame, character by character
pub carry :
    (at : ℕ → ℕ) (sender receiver : LineState) (block : BlockView) → IsBlock block
    → (front : List ℕ) (due : ℕ) (rest : List ℕ) (handed : ℕ) → 0 < length rest
    → ((10 + length block.body) ∷ front) ++ rest ≡ frame_bytes block
    → exchanged at (length rest) (carrying sender receiver ((10 + length block.body) ∷ front) due rest handed)
    ≡ carried sender receiver block (handed + length rest)
carry at sender receiver block in_block front due [] handed some whole = absurd (omega arith)
carry at sender receiver block in_block front due (c ∷ []) handed some whole =
    let n = 10 + length block.body in
    let now = at handed in
    let old : LineState = record receiver { phase = Gathering; gathered = n ∷ front; deadline = Some due } in
    let x = carrying sender receiver (n ∷ front) due (c ∷ []) handed in
    ap (λ (o : Outcome). receiver_took x [] o) (gathered_in-last ((n ∷ front) ++ c ∷ []) old now block in_block whole)
carry at sender receiver block in_block front due (c ∷ next ∷ rest) handed some whole =
    let n = 10 + length block.body in
    let now = at handed in
    let old : LineState = record receiver { phase = Gathering; gathered = n ∷ front; deadline = Some due } in
    let x = carrying sender receiver (n ∷ front) due (c ∷ next ∷ rest) handed in
    let parts : ((n ∷ front) ++ c ∷ []) ++ next ∷ rest ≡ frame_bytes block =
    append_assoc (n ∷ front) (c ∷ []) (next ∷ rest) ∙ whole
    in
    let long = length-frame_bytes block in
    let all : length ((n ∷ front) ++ c ∷ []) + length (next ∷ rest) ≡ length (frame_bytes block) =
    sym (length-append ((n ∷ front) ++ c ∷ []) (next ∷ rest)) ∙ ap length parts
    in
    let more : length ((n ∷ front) ++ c ∷ []) < n + 3 = omega arith in
    let count : handed + 1 + length (next ∷ rest) ≡ handed + length (c ∷ next ∷ rest) = omega arith in
    let step =
    ap (λ (o : Outcome). receiver_took x (next ∷ rest) o) (gathered_in-more ((n ∷ front) ++ c ∷ []) old now more)
    in
    ap (λ (y : Exchange). exchanged at (length (next ∷ rest)) y) step
    ∙ carry at sender receiver block in_block (front ++ c ∷ []) (now + receiver.times.t1) (next ∷ rest) (handed + 1) (omega arith) parts
    ∙ ap (carried sender receiver block) count

-- both ends are as they were
abbrev pub completed : LineState → LineState → BlockView → ℕ → Exchange
completed sender receiver block handed = record {
  sender = sender;
  receiver = receiver;
  to_receiver = [];
  to_sender = [];
  handed = handed;
  sender_told = Sent ∷ [];
  receiver_told = Arrived block ∷ [];
}

pub clean-idle :
    (at : ℕ → ℕ) (now : ℕ) (block : BlockView) → IsBlock block
    → (side_a : Side) (times_a : Times) (side_b : Side) (times_b : Times) (held : Option BlockView) (number : ℕ)
    → exchanged at (10 + length block.body + 6) (opened (idle_state side_a times_a None 0) (idle_state side_b times_b held number) block now)
    ≡ completed (idle_state side_a times_a None 0) (idle_state side_b times_b held number) block (10 + length block.body + 6)
clean-idle at now block in_block side_a times_a side_b times_b held number =
    let n = 10 + length block.body in
    let most = in_block.at_most_244 in
    let more = counted_bytes block ++ to_be_bytes w16 (checksum (counted_bytes block)) in
    let long : suc (length more) ≡ 13 + length block.body = length-frame_bytes block in
    let a = idle_state side_a times_a None 0 in
    let b = idle_state side_b times_b held number in
    let total : n + 6 ≡ suc (suc (suc (length more + 1))) = omega arith in
    let count : 3 + length more + 1 ≡ n + 6 = omega arith in
    let sender = sending side_a times_a block (at 1 + times_a.t2) in
    let waiting : LineState = record b { phase = AwaitLength; deadline = Some (at 0 + times_b.t2) } in
    let x : Exchange = record {
      sender = sender;
      receiver = waiting;
      to_receiver = frame_bytes block;
      to_sender = [];
      handed = 2;
      sender_told = [];
      receiver_told = [];
    } in
    let test : (nat_le 10 n && nat_le n 254) ≡ true = grind (arith, nat_tests) in
    let start : receiver_took x more (if nat_le 10 n && nat_le n 254 then gathers (n ∷ []) waiting (at 2) else settles (Length n) waiting (at 2)) ≡ carrying sender b (n ∷ []) (at 2 + times_b.t1) more 3 =
    ap (λ (t : Bool). receiver_took x more (if t then gathers (n ∷ []) waiting (at 2) else settles (Length n) waiting (at 2))) test
    in
    ap (λ (k : ℕ). exchanged at k (opened a b block now)) total
    ∙ ap (exchanged at (length more + 1)) start
    ∙ exchanged-add at (length more) 1 (carrying sender b (n ∷ []) (at 2 + times_b.t1) more 3)
    ∙ ap (exchanged at 1) (carry at sender b block in_block [] (at 2 + times_b.t1) more 3 (omega arith) refl)
    ∙ ap (completed a b block) count

-- a clean exchange of two ends
pub clean :
    (sender receiver : LineState) (block : BlockView) (now : ℕ) (at : ℕ → ℕ)
    → IsLineState sender → CanSend sender → IsLineState receiver → receiver.phase ≡ Idle → IsBlock block
    → exchanged at (10 + length block.body + 6) (opened sender receiver block now)
    ≡ completed sender receiver block (10 + length block.body + 6)
clean sender receiver block now at is_sender can is_receiver idle in_block =
    let n = 10 + length block.body in
    let a = idle_state sender.side sender.times None 0 in
    let b = idle_state receiver.side receiver.times receiver.held receiver.try_number in
    let plain =
    clean-idle at now block in_block sender.side sender.times receiver.side receiver.times receiver.held receiver.try_number
    in
    let right =
    subst (λ (r : LineState). exchanged at (n + 6) (opened a r block now) ≡ completed a r block (n + 6)) (sym (idle-state receiver is_receiver idle)) plain
    in
    subst (λ (s : LineState). exchanged at (n + 6) (opened s receiver block now) ≡ completed s receiver block (n + 6)) (sym (free-state sender is_sender can)) right
