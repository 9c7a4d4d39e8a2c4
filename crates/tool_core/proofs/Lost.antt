-- The open transactions end, one by one, with what is lost by each.
use Rattle.std.proofs.Common.{◌≡◌, ◌++◌, ◌∷◌, refl, sym, ap, subst, ◌∙◌, true, false, Bool, ℕ, List, length, Option, Some, None, if◌then◌else◌}
use Rattle.std.specs.Prelude.{◌||◌, IfOk, Result, Ok, Err}
use Rattle.std.specs.List.{filter_map, list_any}
use Rattle.std.proofs.lemmas.List.{append-nil, append_assoc}
use Rattle.block_codec.specs.declared.header.Header.{Header}
use Rattle.gem_states.specs.Control.{ControlView, control_next}
use Rattle.gem_states.specs.declared.control.ControlIn.TheVariants.{AttemptFailed}
use Rattle.gem_states.specs.declared.control.ControlState.{ControlState}
use Rattle.gem_states.specs.declared.control.ControlState.TheVariants as control
use Rattle.message_flow.specs.declared.step.StepOut.{StepOut}
use Rattle.trace_log.specs.Names.{Spooled}
use Rattle.transact.specs.declared.begun.Begun.{Begun}
use Rattle.trace_log.specs.Text.{printed_note}
use Rattle.message_flow.specs.declared.step.Note.{Note}
use Rattle.message_end.specs.Core.{EndView, Went, and_then, carried}
use Rattle.message_end.specs.Core.Went.{Goes}
use Rattle.message_end.specs.Endings.{IsFirstEnded, IsNoneOpen, ends_begun}
use Rattle.message_end.specs.Parts.{AreCarried, on_the_way}
use Rattle.message_end.proofs.Carrying.{carried_append}
use Rattle.message_end.proofs.Ended.{IsEnded, begun_ended, none_begun}
use Rattle.tool_step.specs.declared.kind.Kind.{Kind}
use Rattle.tool_step.specs.declared.kind.Kind.TheVariants as kind
use Rattle.tool_core.specs.Carried.{FailsAlike}
use Rattle.tool_core.specs.Ending.{all_stored, as_list, ends_with, stored_with, with_active}
use Rattle.tool_step.specs.Own.{OwnView, ToolCommands, with_control}
use Rattle.tool_step.specs.States.{control_after_loss, ending_commands, is_attempt, is_attempt_kind, stored_by}

-- a second failure of an attempt changes no more
failed_twice :
    (c : ControlView) → control_next (control_next c AttemptFailed) AttemptFailed ≡ control_next c AttemptFailed
failed_twice c = go c.state c.is_local
  where
    go : (state : ControlState) (is_local : Bool)
        → control_next (control_next (record { state = state; is_local = is_local }) AttemptFailed) AttemptFailed
        ≡ control_next (record { state = state; is_local = is_local }) AttemptFailed
    go control.EquipmentOffline is_local = refl
    go control.Attempt is_local = refl
    go control.HostOffline is_local = refl
    go control.Local is_local = refl
    go control.Remote is_local = refl

-- the control, where an attempt may have failed
abbrev pub with_lost : Kind → ControlView → ControlView
with_lost kind control = if is_attempt_kind kind then control_next control AttemptFailed else control

-- the control, where one of these transactions may be an attempt
abbrev with_all_lost : List (Begun Kind) → ControlView → ControlView
with_all_lost begun control = if list_any is_attempt begun then control_next control AttemptFailed else control

-- what is stored of a transaction doesn't depend on the control
pub stored_alike :
    (active : Bool) (control : ControlView) (own : OwnView) (k : Kind) (system : ℕ)
    → stored_by (with_active active (with_control control own)) k system ≡ stored_by (with_active active own) k system
stored_alike active control own kind.Establish system = refl
stored_alike active control own kind.Attempt system = refl
stored_alike active control own kind.Grant system = refl
stored_alike active control own kind.Report system = refl
stored_alike active control own kind.Unload system = refl
stored_alike active control own kind.UnloadGrant system = refl
stored_alike active control own kind.Trace system = refl
stored_alike active control own kind.TraceGrant system = refl

-- the transaction that began first ends, with what is lost by it, and what is stored of it
pub record IsLost
    (active : Bool) (first : OwnView) (now later : ControlView) (kept kept_later : List Spooled)
    (old new : EndView Kind) (out out_new : StepOut)
    : Type 0 where
  pub ended : IsEnded (ends_begun (ends_with active first) old) (ends_begun (ends_with active first) new) old new out
      out_new (length old.transactions.begun) (length new.transactions.begun)
  pub after : control_after_loss later new ≡ control_after_loss now old
  pub alike : control_next later AttemptFailed ≡ control_next first.control AttemptFailed
  pub stored : kept_later ++ all_stored active first new ≡ kept ++ all_stored active first old

pub one_begun :
    (active : Bool) (first : OwnView) (now later : ControlView) (primary : Header × Kind) (report : Option Spooled)
    (kept kept_later : List Spooled) (old new : EndView Kind) (out out_later : StepOut)
    → IsFirstEnded primary old new
    → control_next now AttemptFailed ≡ control_next first.control AttemptFailed
    → report ≡ stored_by (with_active active first) primary.1 primary.0.system
    → AreCarried (ending_commands first.control report primary.1 primary.0) new out new out_later
    → later ≡ with_lost primary.1 now
    → kept_later ≡ kept ++ as_list report
    → IsLost active first now later kept kept_later old new out out_later
one_begun active first now later primary report kept kept_later old new out out_later is same report_is lost later_is
    kept_is = record {
      ended =
          begun_ended (ends_with active first) what primary old new out out_later (λ begun. refl) is
          (subst (λ (r : Option Spooled). AreCarried (ending_commands first.control r primary.1 primary.0) new out new
          out_later) report_is lost);
      after =
          ap (λ (c : ControlView). control_after_loss c new) later_is
          ∙ ap (λ (all : List (Begun Kind)). with_all_lost all (with_lost primary.1 now)) is.left
          ∙ one (is_attempt_kind primary.1) (list_any is_attempt is.rest)
          ∙ ap
          (λ (k : Kind).
          if is_attempt_kind k || list_any is_attempt is.rest then control_next now AttemptFailed else now)
          (sym (ap (λ (p : Header × Kind). p.1) is.primary_is))
          ∙ ap (λ (all : List (Begun Kind)). with_all_lost all now) (sym is.begun);
      alike = ap (λ (c : ControlView). control_next c AttemptFailed) later_is ∙ twice (is_attempt_kind primary.1);
      stored =
          ap (λ (xs : List Spooled). xs ++ all_stored active first new) kept_is
          ∙ append_assoc kept (as_list report) (all_stored active first new)
          ∙ ap (λ (xs : List Spooled). kept ++ xs)
          (ap (λ (all : List (Begun Kind)). as_list report ++ filter_map (stored_with active first) all) is.left
          ∙ ap (λ (r : Option Spooled). as_list r ++ filter_map (stored_with active first) is.rest)
          (report_is ∙ ap (λ (p : Header × Kind). stored_by (with_active active first) p.1 p.0.system)
          (sym is.primary_is))
          ∙ list (stored_with active first is.first) refl
          ∙ ap (λ (all : List (Begun Kind)). filter_map (stored_with active first) all) (sym is.begun));
    }
  where
    what : Header × Kind → ToolCommands
    what p =
        ending_commands first.control (stored_by (with_active active first) p.1 p.0.system) p.1 p.0

    list : (o : Option Spooled) → stored_with active first is.first ≡ o
        → as_list o ++ filter_map (stored_with active first) is.rest
        ≡ filter_map (stored_with active first) (is.first ∷ is.rest)
    list None e = rw e refl
    list (Some r) e = rw e refl

    twice : (b : Bool)
        → control_next (if b then control_next now AttemptFailed else now) AttemptFailed
        ≡ control_next first.control AttemptFailed
    twice true = failed_twice now ∙ same
    twice false = same

    one : (b more : Bool)
        → (if more then control_next (if b then control_next now AttemptFailed else now) AttemptFailed
        else if b then control_next now AttemptFailed else now)
        ≡ (if b || more then control_next now AttemptFailed else now)
    one true true = failed_twice now
    one true false = refl
    one false true = refl
    one false false = refl

-- where none is open
pub record NoneIsLost
    (active : Bool) (first : OwnView) (now : ControlView) (kept : List Spooled) (old new : EndView Kind) (out : StepOut)
    : Type 0 where
  pub done : AreCarried (ends_begun (ends_with active first) old) old out new out
  pub after : now ≡ control_after_loss now old
  pub stored : kept ≡ kept ++ all_stored active first old

pub no_begun :
    (active : Bool) (first : OwnView) (now : ControlView) (kept : List Spooled) (old new : EndView Kind) (out : StepOut)
    → IsNoneOpen old new → NoneIsLost active first now kept old new out
no_begun active first now kept old new out is = record {
  done =
      none_begun (ends_with active first) old out is.none
      ∙ ap (λ (e : EndView Kind). Goes (on_the_way e out)) (sym is.same);
  after = ap (λ (all : List (Begun Kind)). with_all_lost all now) (sym is.none);
  stored =
      sym (append-nil kept)
      ∙ ap (λ (all : List (Begun Kind)). kept ++ filter_map (stored_with active first) all) (sym is.none);
}

-- ---- what is noted of one that ends

pub noted_alike :
    {E : Type 0} (result : Result (Unit {0}) E) (first : ControlState) (now : ControlView) (commands : ToolCommands)
    (brings : ControlView → ToolCommands) (out out_new : StepOut)
    → ((was : ControlView) → brings was ≡ commands)
    → IfOk result (λ done. (e : EndView Kind) → AreCarried commands e out e out_new)
    → IfOk result (λ done. (was : ControlView) (e : EndView Kind) → FailsAlike was first now
    → AreCarried (brings was) e out e out_new)
noted_alike (Ok done) first now commands brings out out_new same is = λ was e alike.
    subst (λ (c : ToolCommands). AreCarried c e out e out_new) (sym (same was)) (is e)
noted_alike (Err failed) first now commands brings out out_new same is = tt

pub noted_then :
    {E : Type 0} (result : Result (Unit {0}) E) (first : ControlState) (now : ControlView) (front : ToolCommands)
    (rest brings : ControlView → ToolCommands) (out out_middle out_new : StepOut)
    → ((was : ControlView) → brings was ≡ front ++ rest was)
    → ((e : EndView Kind) → AreCarried front e out e out_middle)
    → IfOk result (λ done. (was : ControlView) (e : EndView Kind) → FailsAlike was first now
    → AreCarried (rest was) e out_middle e out_new)
    → IfOk result (λ done. (was : ControlView) (e : EndView Kind) → FailsAlike was first now
    → AreCarried (brings was) e out e out_new)
noted_then (Ok done) first now front rest brings out out_middle out_new same noted is = λ was e alike.
    subst (λ (c : ToolCommands). AreCarried c e out e out_new) (sym (same was))
    (carried_append printed_note front (rest was) (on_the_way e out)
    ∙ ap (λ (w : Went (EndView Kind) Note). and_then w (carried printed_note (rest was))) (noted e)
    ∙ is was e alike)
noted_then (Err failed) first now front rest brings out out_middle out_new same noted is = tt
