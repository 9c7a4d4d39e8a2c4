use Rattle.std.proofs.Common.{◌≡◌, ◌∙◌, ap, refl, subst, sym, Bool, false, List, [], ◌∷◌, Some, None}
use Rattle.message_flow.specs.declared.message.Message.{Message}
use Rattle.message_flow.specs.Message.{is_primary}
use Rattle.message_end.specs.Doings.{Doing}
use Rattle.message_end.specs.Doings.Doing.{Does, Says}
use Rattle.message_end.specs.InStep.{HasNoEnd}
use Rattle.message_end.specs.Own.{asked_after}
use Rattle.message_end.specs.Own.Own.{ReceivedMessage, SentMessage}
use Rattle.trace_log.specs.Log.{Happening}
use Rattle.message_end.proofs.laws.worked_steps.Goals as goal

-- behind a reply none asks
none-asks : (asked reply other : Message) → is_primary reply ≡ false
    → asked_after (is_primary reply) (Some asked) ≡ Some other → ⊥
none-asks asked reply other second is =
    let none : None ≡ Some other =
    sym (ap (λ (primary : Bool). asked_after primary (Some asked)) second) ∙ is in
    absurd (cc)

-- what is behind the newest doing
rest-of : (one other : Doing) (doings rest : List Doing) → one ∷ doings ≡ other ∷ rest → doings ≡ rest
rest-of one other doings rest same = cc

-- an end stands among these
one-ends : (asked reply : Message) (rest : List Doing)
    → Does (SentMessage reply) ∷ Says Happening.StepEnded ∷ Does (ReceivedMessage asked) ∷ [] ≡ rest
    → HasNoEnd rest → ⊥
one-ends asked reply rest same unended =
    (subst HasNoEnd (sym same) unended).0

pub returns : goal.returns
returns c = record {
  in_step = λ plan asked reply second primary wait is. (
    tt,
    ((λ secondary. record { asked = asked; newest = refl; primary = primary; wait = wait; reply = is }), (tt, tt)),
  );
  ends = λ asked reply. record {
    rest = Does (SentMessage reply) ∷ Does (ReceivedMessage asked) ∷ [];
    is = refl;
    unended = tt;
  };
  late = λ plan asked reply second is. let none = (is.1.0 second).newest in absurd (cc);
  twice = λ plan asked reply second is. none-asks asked reply (is.0 second).asked second (is.0 second).newest;
  two = λ asked reply is.
      one-ends asked reply is.rest (rest-of (Says Happening.StepEnded) (Says Happening.StepEnded) _ is.rest is.is)
      is.unended;
  noted = λ side asked reply second primary wait is. (
    tt,
    ((λ secondary. record { asked = asked; newest = refl; primary = primary; wait = wait; reply = is }), (tt, tt)),
  );
  noted_late = λ side asked reply second is. let none = (is.0 second).newest in absurd (cc);
  noted_twice = λ side asked reply second is.
      none-asks asked reply (is.0 second).asked second (is.0 second).newest;
}
