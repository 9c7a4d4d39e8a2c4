-- Duties that come many times in a step.
use Rattle.std.proofs.Common.{◌≡◌, refl, sym, ap, subst, ◌∙◌, ℕ, zero, suc, List, [], ◌++◌, replicate, Option, Some, None}
use Rattle.std.specs.Prelude.{Result, Err}
use Rattle.std.specs.List.{find}
use Rattle.std.specs.Option.{option_map}
use Rattle.block_codec.specs.declared.header.Header.{Header}
use Rattle.message_flow.specs.declared.step.Note.{Note}
use Rattle.message_flow.specs.declared.step.StepOut.{StepOut}
use Rattle.trace_log.specs.Log.{Happening}
use Rattle.trace_log.specs.Text.{printed_note}
use Rattle.message_end.specs.declared.end.Stop.{Stop}
use Rattle.message_end.specs.declared.end.Stop.TheVariants as stop
use Rattle.message_end.specs.Parts.{ComesTo, on_the_way}
use Rattle.transact.specs.declared.begun.Begun.{Begun}
use Rattle.transact.specs.Transactions as transactions
use Rattle.transact.specs.Transactions.{primary_of}
use Rattle.message_end.specs.Calls.{dropped_now, due_now}
use Rattle.message_end.specs.Core as core
use Rattle.message_end.specs.Core.{EndView, Step, Went, and_then, carried, times_out}
use Rattle.message_end.specs.Core.Went.{Goes}
use Rattle.message_end.specs.Duties.{Duty, all_done}
use Rattle.message_end.proofs.Carrying.{done_append}
use Rattle.host_node.specs.Host.{Kind, drops, expires, gives_up}

module _ {N : Type 0} (say : Happening → Option N) where
  -- where one has nothing to do, none has
  pub done_none :
      (n : ℕ) (duty : Duty Kind) (step : Step (EndView Kind) N) → carried say (duty step.next) step ≡ Goes step
      → all_done say (replicate n duty) step ≡ Goes step
  done_none zero duty step none = refl
  done_none (suc n) duty step none =
      ap (λ (w : Went (EndView Kind) N). and_then w (all_done say (replicate n duty))) none
      ∙ done_none n duty step none

  pub drops_none :
      (now : ℕ) (step : Step (EndView Kind) N) → dropped_now step.next now ≡ None
      → carried say (drops now step.next) step ≡ Goes step
  drops_none now step none = go (dropped_now step.next now) none
    where
      go : (o : Option Header) → o ≡ None
          → and_then (Goes (core.drops say o now step)) (carried say (gives_up o)) ≡ Goes step
      go None e = refl
      go (Some header) e = absurd (cc)

  pub expires_none :
      (now : ℕ) (step : Step (EndView Kind) N) → due_now step.next now ≡ None
      → carried say (expires now step.next) step ≡ Goes step
  expires_none now step none = go (find (transactions.is_due now) step.next.transactions.begun) none
    where
      go : (o : Option (Begun Kind)) → option_map primary_of o ≡ None
          → and_then (Goes (times_out say (transactions.is_due now) o step)) (carried say []) ≡ Goes step
      go None e = refl
      go (Some begun) e = absurd (cc)

-- duties that went on, and the others
pub both_ok :
    {A : Type 0} (first second : List (Duty Kind)) (step : Step (EndView Kind) Note) (middle new : EndView Kind)
    (out_middle out_new : StepOut) (result : Result A Stop)
    → all_done printed_note first step ≡ Goes (on_the_way middle out_middle)
    → ComesTo (all_done printed_note second (on_the_way middle out_middle)) new out_new result
    → ComesTo (all_done printed_note (first ++ second) step) new out_new result
both_ok first second step middle new out_middle out_new result first_is second_is =
    subst (λ (w : Went (EndView Kind) Note). ComesTo w new out_new result)
    (sym (done_append printed_note first second step
    ∙ ap (λ (w : Went (EndView Kind) Note). and_then w (all_done printed_note second)) first_is))
    second_is

-- duties that end the step
pub both_err :
    (first second : List (Duty Kind)) (step : Step (EndView Kind) Note) (new : EndView Kind) (out : StepOut)
    (end : Stop)
    → ComesTo {A = Unit {0}} (all_done printed_note first step) new out (Err end)
    → ComesTo {A = Unit {0}} (all_done printed_note (first ++ second) step) new out (Err end)
both_err first second step new out stop.NumbersSpent is =
    done_append printed_note first second step
    ∙ ap (λ (w : Went (EndView Kind) Note). and_then w (all_done printed_note second)) is
both_err first second step new out stop.Full is = absurd is
both_err first second step new out stop.DiskFailed is = absurd is
both_err first second step new out stop.NoMemory is = tt
