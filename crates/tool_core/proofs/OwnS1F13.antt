-- How each S1F13 of the equipment that is open ends, one after the other.
use Rattle.std.proofs.Common.{◌≡◌, refl, sym, ap, subst, ◌∙◌, arith, false, ℕ, zero, suc, ◌+◌, ◌-◌, ◌<◌, List, [], ◌∷◌, length, get_or, Option, Some, None}
use Rattle.std.specs.Prelude.{drop, flat_map, slice_get, take}
use Rattle.std.specs.List.{position_or_len, remove}
use Rattle.std.specs.Option.{option_map}
use Rattle.std.proofs.lemmas.Bool.{eq-eqb, ne_eqb}
use Rattle.std.proofs.lemmas.List.{drop_at, drop_more, length-take-le}
use Rattle.std.proofs.lemmas.List.Edits.{length-remove}
use Rattle.std.proofs.lemmas.List.Sums.{position_or_len_is}
use Rattle.std.proofs.lemmas.Option.{get_or_from_slice_get, same_Some, slice_get_within}
use Rattle.block_codec.specs.declared.header.Header.{Header}
use Rattle.message_flow.specs.declared.step.Note.{Note}
use Rattle.message_flow.specs.declared.step.StepOut.{StepOut}
use Rattle.trace_log.specs.Text.{printed_note}
use Rattle.transact.specs.declared.begun.Begun.{Begun}
use Rattle.transact.specs.Transactions.{IsTransactions, has_system, primary_of, system_of}
use Rattle.message_end.specs.Core.{EndView, Went, and_then, carried}
use Rattle.message_end.specs.Core.Went.{Goes}
use Rattle.message_end.specs.Duties.{all_done}
use Rattle.message_end.specs.Parts.{AreCarried, next_of, on_the_way, went_with}
use Rattle.message_end.proofs.Carrying.{carried_append}
use Rattle.tool_core.specs.OwnS1F13.{place_behind}
use Rattle.tool_step.specs.declared.kind.Kind.{Kind}
use Rattle.tool_step.specs.declared.kind.Kind.TheVariants as kind
use Rattle.tool_step.specs.Messages.{own_s1f13_commands, own_s1f13_duty, own_s1f13_of}
use Rattle.tool_step.specs.Own.{OwnView, ToolCommands, turn_of}
use Rattle.tool_core.proofs.Following.{node}
use Rattle.tool_core.proofs.Turned.{HasTaken, ToolNode}

abbrev pub all_requests : List (Begun Kind) → ToolCommands
all_requests begun = flat_map own_s1f13_of begun

-- the primary at a place of those that are open was passed: what is left has as much to end, and is less
pub record IsPassed (place next : ℕ) (old new : EndView Kind) : Type 0 where
  pub same :
      (out : StepOut)
      → carried printed_note (all_requests (drop next new.transactions.begun)) (on_the_way new out)
      ≡ carried printed_note (all_requests (drop place old.transactions.begun)) (on_the_way old out)
  pub fewer : length new.transactions.begun - next < length old.transactions.begun - place

record IsHere (begun : List (Begun Kind)) (place : ℕ) (header : Header) (what : Kind) : Type 0 where
  one : Begun Kind
  at : slice_get begun place ≡ Some one
  primary_is : primary_of one ≡ (header, what)

here_is :
    (begun : List (Begun Kind)) (place : ℕ) (header : Header) (what : Kind)
    → option_map primary_of (slice_get begun place) ≡ Some (header, what) → IsHere begun place header what
here_is begun place header what is = go (slice_get begun place) refl is
  where
    go : (o : Option (Begun Kind)) → slice_get begun place ≡ o → option_map primary_of o ≡ Some (header, what)
        → IsHere begun place header what
    go None at is = absurd cc
    go (Some one) at is = record { one = one; at = at; primary_is = same_Some _ _ is }

pub within :
    (begun : List (Begun Kind)) (place : ℕ) (header : Header) (what : Kind)
    → option_map primary_of (slice_get begun place) ≡ Some (header, what) → place < length begun
within begun place header what is =
    let here = here_is begun place header what is in slice_get_within begun place here.one here.at

quiet : StepOut
quiet = record { line = record { items = [] }; notes = [] }

module _ (old new : EndView Kind) (place : ℕ) (header : Header) (what : Kind) (are : IsTransactions old.transactions)
    (is : option_map primary_of (slice_get old.transactions.begun place) ≡ Some (header, what))
    (ended : (out : StepOut) → AreCarried (own_s1f13_commands what header.system) old out new out)
  where
    here : IsHere old.transactions.begun place header what
    here = here_is old.transactions.begun place header what is

    inside : place < length old.transactions.begun
    inside = slice_get_within old.transactions.begun place here.one here.at

    left : drop place old.transactions.begun ≡ here.one ∷ drop (place + 1) old.transactions.begun
    left =
        drop_more old.transactions.begun place here.one inside
        ∙ ap (λ (b : Begun Kind). b ∷ drop (place + 1) old.transactions.begun)
        (get_or_from_slice_get old.transactions.begun place here.one here.one here.at)

    -- what the rest has to end, where it is the rest behind the one that was passed
    same_by :
        (next : ℕ) → drop next new.transactions.begun ≡ drop (place + 1) old.transactions.begun → (out : StepOut)
        → carried printed_note (all_requests (drop next new.transactions.begun)) (on_the_way new out)
        ≡ carried printed_note (all_requests (drop place old.transactions.begun)) (on_the_way old out)
    same_by next rest out =
        let later = all_requests (drop (place + 1) old.transactions.begun) in
        ap (λ (all : List (Begun Kind)). carried printed_note (all_requests all) (on_the_way new out)) rest
        ∙ sym (
        ap (λ (all : List (Begun Kind)). carried printed_note (all_requests all) (on_the_way old out)) left
        ∙ carried_append printed_note (own_s1f13_of here.one) later (on_the_way old out)
        ∙ ap
        (λ (p : Header × Kind). and_then (carried printed_note (own_s1f13_commands p.1 p.0.system) (on_the_way old out))
        (carried printed_note later)) here.primary_is
        ∙ ap (λ (w : Went (EndView Kind) Note). and_then w (carried printed_note later)) (ended out))

    -- one of another kind stays
    stayed : own_s1f13_commands what header.system ≡ [] → IsPassed place (place + 1) old new
    stayed none =
        let kept : new ≡ old =
        sym (ap (λ (w : Went (EndView Kind) Note). next_of w)
        (ap (λ (cs : ToolCommands). carried printed_note cs (on_the_way old quiet)) (sym none) ∙ ended quiet)) in
        record {
          same = same_by (place + 1) (ap (λ (e : EndView Kind). drop (place + 1) e.transactions.begun) kept);
          fewer =
              let long = ap (λ (e : EndView Kind). length e.transactions.begun) kept in omega (arith, long, inside);
        }

    -- one that has ended is no more there
    module _ (own : what ≡ kind.Establish) where
      system_is : system_of here.one ≡ header.system
      system_is = ap (λ (p : Header × Kind). p.0.system) here.primary_is

      here_at : get_or old.transactions.begun place here.one ≡ here.one
      here_at = get_or_from_slice_get old.transactions.begun place here.one here.one here.at

      apart : (k : ℕ) → k < place → has_system header.system (get_or old.transactions.begun k here.one) ≡ false
      apart k less =
          ne_eqb (system_of (get_or old.transactions.begun k here.one)) header.system
          (λ same. are.distinct k place here.one less inside
          (same ∙ sym system_is ∙ sym (ap (λ (b : Begun Kind). system_of b) here_at)))

      first : position_or_len (has_system header.system) old.transactions.begun ≡ place
      first =
          position_or_len_is (has_system header.system) old.transactions.begun place here.one (omega (arith, inside))
          apart (λ there. eq-eqb _ _ (ap (λ (b : Begun Kind). system_of b) here_at ∙ system_is))

      gone : new.transactions.begun ≡ remove old.transactions.begun place
      gone =
          sym (ap (λ (w : Went (EndView Kind) Note). (next_of w).transactions.begun)
          (ap (λ (k : Kind). carried printed_note (own_s1f13_commands k header.system) (on_the_way old quiet)) (sym own)
          ∙ ended quiet))
          ∙ ap (λ (n : ℕ). remove old.transactions.begun n) first

      one_more : suc place ≡ place + 1
      one_more = omega arith

      rest : drop place new.transactions.begun ≡ drop (place + 1) old.transactions.begun
      rest =
          ap (λ (all : List (Begun Kind)). drop place all) gone
          ∙ drop_at (take place old.transactions.begun) (drop (suc place) old.transactions.begun) place
          (length-take-le place old.transactions.begun (omega (arith, inside)))
          ∙ ap (λ (n : ℕ). drop n old.transactions.begun) one_more

      pub ended_one : IsPassed place place old new
      ended_one = record {
        same = same_by place rest;
        fewer =
            let long = ap (λ (all : List (Begun Kind)). length all) gone in
            omega (arith, long, length-remove old.transactions.begun place inside, inside);
      }

    passed : IsPassed place (place_behind what place) old new
    passed = go what refl
      where
        go : (k : Kind) → what ≡ k → IsPassed place (place_behind k place) old new
        go kind.Establish is = ended_one is
        go kind.Attempt is = stayed (ap (λ (k : Kind). own_s1f13_commands k header.system) is)
        go kind.Grant is = stayed (ap (λ (k : Kind). own_s1f13_commands k header.system) is)
        go kind.Report is = stayed (ap (λ (k : Kind). own_s1f13_commands k header.system) is)
        go kind.Unload is = stayed (ap (λ (k : Kind). own_s1f13_commands k header.system) is)
        go kind.UnloadGrant is = stayed (ap (λ (k : Kind). own_s1f13_commands k header.system) is)
        go kind.Trace is = stayed (ap (λ (k : Kind). own_s1f13_commands k header.system) is)
        go kind.TraceGrant is = stayed (ap (λ (k : Kind). own_s1f13_commands k header.system) is)

    -- to a place that is the next one
    pub passed_to : (next : ℕ) → next ≡ place_behind what place → IsPassed place next old new
    passed_to next is_next = subst (λ (n : ℕ). IsPassed place n old new) (sym is_next) passed

-- none is left
pub none_left :
    (old new : ToolNode) (place : ℕ) (out : StepOut) → new.own ≡ old.own
    → option_map primary_of (slice_get new.core.transactions.begun place) ≡ None
    → carried printed_note (all_requests (drop place new.core.transactions.begun)) (on_the_way new.core out)
    ≡ carried printed_note (all_requests old.core.transactions.begun) (on_the_way old.core out)
    → HasTaken (turn_of old.own (own_s1f13_duty ∷ [])) old out new out
none_left old new place out same none done =
    let over : drop place new.core.transactions.begun ≡ [] = past new.core.transactions.begun place none in
    ap (λ (w : Went (EndView Kind) Note). went_with old.own (and_then w (all_done printed_note [])))
    (sym done
    ∙ ap (λ (all : List (Begun Kind)). carried printed_note (all_requests all) (on_the_way new.core out)) over)
    ∙ ap (λ (own : OwnView). Goes (on_the_way (node own new.core) out)) (sym same)
  where
    past : (begun : List (Begun Kind)) (n : ℕ) → option_map primary_of (slice_get begun n) ≡ None → drop n begun ≡ []
    past [] zero none = refl
    past [] (suc n) none = refl
    past (one ∷ begun) zero none = absurd cc
    past (one ∷ begun) (suc n) none = past begun n none
