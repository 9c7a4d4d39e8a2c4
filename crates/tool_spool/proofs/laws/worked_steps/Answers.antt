use Rattle.std.proofs.Common.{◌≡◌, ◌∙◌, ◌+◌, ap, refl, sym, inl, inr, arith, ℕ, true, List, [], ◌∷◌, Some}
use Rattle.message_flow.specs.declared.message.Message.{Message}
use Rattle.message_end.specs.Own.{Has}
use Rattle.spool_law.specs.Shelf.{Tried, told_with}
use Rattle.trace_log.specs.Names.{Spooled}
use Rattle.tool_spool.specs.LeavesInStep.{IsConfirmedInStep}
use Rattle.tool_spool.specs.WorkedSteps.{received, report, secondary}
use Rattle.tool_spool.proofs.laws.worked_steps.Goals as goal

-- one member alone
the-one : (message other : Message) → Has (message ∷ []) other → other ≡ message
the-one message other (inl same) = same
the-one message other (inr none) = absurd none

-- what is told of a number
the-told : (one other : Spooled) → Some one ≡ Some other → one ≡ other
the-told one other same = cc

-- an abort has not the function of a reply
no-abort : (body : List ℕ) → IsConfirmedInStep (received body (secondary 0)) 0 → ⊥
no-abort body is =
    let function : is.reply.function ≡ 0 =
    ap (λ (m : Message). m.function) (the-one (secondary 0) is.reply is.has) in
    let tried : is.tried.system ≡ 5 =
    sym is.system ∙ ap (λ (m : Message). m.system) (the-one (secondary 0) is.reply is.has) in
    let told : Some (report body) ≡ Some is.message =
    ap (λ (n : ℕ). told_with n (record { system = 5; message = report body } ∷ [])) (sym tried) ∙ is.told in
    let message : 11 ≡ is.message.function =
    ap (λ (m : Spooled). m.function) (the-told (report body) is.message told) in
    let twelve : is.reply.function ≡ 12 = is.function ∙ ap (λ (n : ℕ). n + 1) (sym message) in
    absurd (omega (arith, function, twelve))

-- a reply has no W bit
no-asking : (body : List ℕ) → IsConfirmedInStep (received body (record (secondary 12) { wait = true })) 0 → ⊥
no-asking body is =
    let asks : is.reply.wait ≡ true =
    ap (λ (m : Message). m.wait) (the-one (record (secondary 12) { wait = true }) is.reply is.has) in
    let calm = is.wait in
    absurd (cc)

the-tried : (one other : Tried) → Some one ≡ Some other → one ≡ other
the-tried one other same = cc

-- the last try was of number 0
no-other : (body : List ℕ) → IsConfirmedInStep (received body (secondary 12)) 1 → ⊥
no-other body is =
    let number : 0 ≡ is.tried.number =
    ap (λ (t : Tried). t.number) (the-tried (record { number = 0; system = 5 }) is.tried is.is) in
    let other = is.number_is in
    absurd (omega (arith, number, other))

pub returns : goal.returns
returns c = record {
  confirmed = λ policy body. (
    record {
      tried = record { number = 0; system = 5 };
      is = refl;
      number_is = refl;
      message = report body;
      told = refl;
      reply = secondary 12;
      has = inl refl;
      wait = refl;
      system = refl;
      stream = refl;
      function = refl;
    },
    (tt, (tt, (tt, (tt, tt)))),
  );
  aborted = λ policy body left. no-abort body left.0;
  asking = λ policy body left. no-asking body left.0;
  other = λ policy body left. no-other body left.0;
  late = λ policy body left. absurd left.0.has;
  emptied = λ policy body request purges. (purges, (tt, (tt, (tt, (tt, tt)))));
  emptied_late = λ policy body request left. absurd left.0;
}
