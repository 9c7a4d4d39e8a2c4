-- Runs of the table that can be followed by hand.
use Rattle.std.specs.Prelude.{◌≡◌, ℕ, true, false, List, [], ◌∷◌, Some}
use Rattle.block_codec.specs.Block.{BlockView, IsBlock}
use Rattle.block_codec.specs.Frame.{frame_bytes}
use Rattle.gl_base.specs.declared.side.Side.{Side}
use Rattle.gl_base.specs.declared.side.Side.TheVariants.{Equipment, Host}
use Rattle.line_end.specs.declared.event.LineEvent.TheVariants.{Arrived, Sent, Failed}
use Rattle.line_end.specs.declared.event.Phase.TheVariants.{Idle}
use Rattle.line_end.specs.declared.plan.Times.{Times}
use Rattle.line_end.specs.Exchange.{exchanged, opened}
use Rattle.line_end.specs.Runs.{CanCall, IsUnderWay, characters, failed_tries, frames_written, outcome_after, state_after}
use Rattle.line_end.specs.State.{CanSend, IsLineState, LineState, new_state}
use Rattle.line_end.specs.Step.{ack, enq, eot, LineCall, nak, line_step, quietly}
use Rattle.line_end.specs.Step.LineCall.{Send, Resume, Take, Tick}

-- S1F1 from the host to device 0, with W: one block without a body
abbrev pub are_you_there : BlockView
are_you_there = record {
  header = record {
    from_equipment = false;
    device = 0;
    wait = true;
    stream = 1;
    function = 1;
    last = true;
    number = 1;
    system = 1;
  };
  body = [];
}

-- 0A 00 00 81 01 80 01 00 00 00 01 01 04
abbrev pub its_frame : List ℕ
its_frame = 10 ∷ 0 ∷ 0 ∷ 129 ∷ 1 ∷ 128 ∷ 1 ∷ 0 ∷ 0 ∷ 0 ∷ 1 ∷ 1 ∷ 4 ∷ []

-- half a second, ten seconds, and a number of retries
abbrev pub times_with : ℕ → Times
times_with rty = record { t1 = 500; t2 = 10000; rty = rty }

abbrev pub end_with : Side → ℕ → LineState
end_with side rty = new_state side (times_with rty)

-- the end has asked at moment 0
abbrev pub asked : Side → ℕ → LineState
asked side rty = (line_step (end_with side rty) (Send are_you_there 0)).next

-- the host sends the block to the equipment: 16 characters, one a millisecond
pub record CarriesOneBlock : Type 0 where
  pub frame : frame_bytes are_you_there ≡ its_frame
  pub block : IsBlock are_you_there
  pub sender : IsLineState (end_with Host 3)
  pub can_send : CanSend (end_with Host 3)
  pub receiver : IsLineState (end_with Equipment 3)
  pub carried : exchanged (λ k. k) 16 (opened (end_with Host 3) (end_with Equipment 3) are_you_there 0) ≡ record {
    sender = end_with Host 3;
    receiver = end_with Equipment 3;
    to_receiver = [];
    to_sender = [];
    handed = 16;
    sender_told = Sent ∷ [];
    receiver_told = Arrived are_you_there ∷ [];
  }

-- so many calls were made after the send, the newest first, and the last of them was this one
pub record IsRun (start : LineState) (before : List LineCall) (call : LineCall) (failed frames : ℕ) : Type 0 where
  pub under_way : IsUnderWay start before
  pub can : CanCall (state_after start before) call
  pub failed_are : failed_tries start (call ∷ before) ≡ failed
  pub frames_are : frames_written are_you_there start (call ∷ before) ≡ frames

-- nobody answers: with RTY 0 the first try is the last one, with RTY 3 the fourth
abbrev pub three_ticks : List LineCall
three_ticks = Tick 30000 ∷ Tick 20000 ∷ Tick 10000 ∷ []

pub record GivesUp : Type 0 where
  pub no_retry : IsRun (asked Host 0) [] (Tick 10000) 1 0
  pub first_failed : (outcome_after (asked Host 0) [] (Tick 10000)).event ≡ Failed
  pub three_retries : IsRun (asked Host 3) three_ticks (Tick 40000) 4 0
  pub fourth_failed : (outcome_after (asked Host 3) three_ticks (Tick 40000)).event ≡ Failed

-- each frame is answered by NAK: with RTY 0 one frame is written, with RTY 3 four
abbrev pub three_naks : List LineCall
three_naks =
    Take eot 31 ∷ Take nak 30 ∷ Take eot 21 ∷ Take nak 20 ∷ Take eot 11 ∷ Take nak 10 ∷ Take eot 1 ∷ []

pub record SendsAgain : Type 0 where
  pub no_retry : IsRun (asked Host 0) (Take eot 1 ∷ []) (Take nak 10) 1 1
  pub first_failed : (outcome_after (asked Host 0) (Take eot 1 ∷ []) (Take nak 10)).event ≡ Failed
  pub three_retries : IsRun (asked Host 3) three_naks (Take nak 40) 4 4
  pub fourth_failed : (outcome_after (asked Host 3) three_naks (Take nak 40)).event ≡ Failed

-- both ends have asked: the host yields and takes the equipment's frame
abbrev pub yielded : List LineCall
yielded =
    Take 1 13 ∷ Take 1 12 ∷ Take 0 11 ∷ Take 0 10 ∷ Take 0 9 ∷ Take 1 8 ∷ Take 128 7 ∷ Take 1 6 ∷ Take 129 5
    ∷ Take 0 4 ∷ Take 0 3 ∷ Take 10 2 ∷ Take enq 1 ∷ []

-- then it asks again, and sends its own
abbrev pub resumed : List LineCall
resumed = Take eot 16 ∷ Resume 15 ∷ Take 4 14 ∷ yielded

pub record YieldsOnce : Type 0 where
  pub granted : (line_step (asked Host 3) (Take enq 1)).written ≡ eot ∷ []
  pub ignored : line_step (asked Equipment 3) (Take enq 1) ≡ quietly (asked Equipment 3)
  pub arrived : (outcome_after (asked Host 3) yielded (Take 4 14)).event ≡ Arrived are_you_there
  pub acknowledged : (outcome_after (asked Host 3) yielded (Take 4 14)).written ≡ ack ∷ []
  pub idle : (state_after (asked Host 3) (Take 4 14 ∷ yielded)).phase ≡ Idle
  pub held : (state_after (asked Host 3) (Take 4 14 ∷ yielded)).held ≡ Some are_you_there
  pub asks_again : (outcome_after (asked Host 3) (Take 4 14 ∷ yielded) (Resume 15)).written ≡ enq ∷ []
  pub sends : (outcome_after (asked Host 3) (Resume 15 ∷ Take 4 14 ∷ yielded) (Take eot 16)).written ≡ its_frame
  pub run : IsRun (asked Host 3) resumed (Take ack 17) 0 1
  pub sent : (outcome_after (asked Host 3) resumed (Take ack 17)).event ≡ Sent
  pub early : line_step (asked Host 3) (Tick 9999) ≡ quietly (asked Host 3)
  pub due : (line_step (asked Host 3) (Tick 10000)).written ≡ enq ∷ []

-- after some noise a frame arrives: the last 13 characters are that frame
abbrev pub received : List LineCall
received =
    Take 1 33 ∷ Take 1 32 ∷ Take 0 31 ∷ Take 0 30 ∷ Take 0 29 ∷ Take 1 28 ∷ Take 128 27 ∷ Take 1 26 ∷ Take 129 25
    ∷ Take 0 24 ∷ Take 0 23 ∷ Take 10 22 ∷ Take enq 21 ∷ Tick 20 ∷ Take 7 19 ∷ []

pub record ComesWhole : Type 0 where
  pub arrived : (outcome_after (end_with Host 3) received (Take 4 34)).event ≡ Arrived are_you_there
  pub characters_are : characters (Take 4 34 ∷ received) ≡ 7 ∷ enq ∷ its_frame
