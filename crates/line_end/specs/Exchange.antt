-- Two ends of one line over which nothing is lost or late.
use Rattle.std.specs.Prelude.{ℕ, zero, suc, ◌+◌, List, [], ◌∷◌, ◌++◌}
use Rattle.block_codec.specs.Block.{BlockView}
use Rattle.line_end.specs.declared.event.LineEvent.{LineEvent}
use Rattle.line_end.specs.declared.event.LineEvent.TheVariants.{Nothing}
use Rattle.line_end.specs.State.{LineState}
use Rattle.line_end.specs.Step.{Outcome, line_step}
use Rattle.line_end.specs.Step.LineCall.{Send, Take}

-- the two ends, the characters that each has still to be handed, how many were handed over, and what each end has told
pub record Exchange : Type 0 where
  pub sender : LineState
  pub receiver : LineState
  pub to_receiver : List ℕ
  pub to_sender : List ℕ
  pub handed : ℕ
  pub sender_told : List LineEvent
  pub receiver_told : List LineEvent

-- what an end has told, with one event more
abbrev pub told : List LineEvent → LineEvent → List LineEvent
told events Nothing = events
told events event = events ++ event ∷ []

-- a block is given to the sender
abbrev pub opened : LineState → LineState → BlockView → ℕ → Exchange
opened sender receiver block now =
    let sent = line_step sender (Send block now) in record {
      sender = sent.next;
      receiver = receiver;
      to_receiver = sent.written;
      to_sender = [];
      handed = 0;
      sender_told = [];
      receiver_told = [];
    }

-- an end was handed a character: the rest waits, and what it wrote goes to the other end
abbrev pub receiver_took : Exchange → List ℕ → Outcome → Exchange
receiver_took x rest outcome = record x {
  receiver = outcome.next;
  to_receiver = rest;
  to_sender = x.to_sender ++ outcome.written;
  handed = x.handed + 1;
  receiver_told = told x.receiver_told outcome.event;
}

abbrev pub sender_took : Exchange → List ℕ → Outcome → Exchange
sender_took x rest outcome = record x {
  sender = outcome.next;
  to_sender = rest;
  to_receiver = x.to_receiver ++ outcome.written;
  handed = x.handed + 1;
  sender_told = told x.sender_told outcome.event;
}

-- the next character that was written is handed over, at its moment
abbrev pub hand_next : (ℕ → ℕ) → Exchange → List ℕ → List ℕ → Exchange
hand_next at x (byte ∷ rest) to_sender = receiver_took x rest (line_step x.receiver (Take byte (at x.handed)))
hand_next at x [] (byte ∷ rest) = sender_took x rest (line_step x.sender (Take byte (at x.handed)))
hand_next at x [] [] = x

-- so many characters are handed over, as far as there are any
abbrev pub exchanged : (ℕ → ℕ) → ℕ → Exchange → Exchange
exchanged at zero x = x
exchanged at (suc n) x = exchanged at n (hand_next at x x.to_receiver x.to_sender)
