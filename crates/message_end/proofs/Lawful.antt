-- The law, for every start and every list of commands.
use Rattle.std.proofs.Common.{◌<◌, refl, sym, arith, ℕ, List, [], Some}
use Rattle.std.proofs.lemmas.List.{append-nil}
use Rattle.std.proofs.lemmas.List.Elements.{All-nil}
use Rattle.block_codec.specs.Block.{IsBlock}
use Rattle.line_end.specs.Plan.{LinePlanFits}
use Rattle.transact.specs.Numbers.{IsNumbers, NumbersView}
use Rattle.message_end.specs.Core.{Command, EndView, MayCarryAll, at_first, carried}
use Rattle.message_end.specs.Doings.{Doing, own_of}
use Rattle.message_end.specs.History.{IsHistoryOf, noted_in, written_in}
use Rattle.message_end.specs.Laws.{CarriesOn, EndsAreLawful, new_end}
use Rattle.message_end.specs.Own.{sent_in}
use Rattle.message_end.specs.Plan.{EndPlan}
use Rattle.message_end.proofs.CarriedOn.{carries-on}
use Rattle.message_end.proofs.InSteps.{history-ends}
use Rattle.message_end.proofs.Open.{not-refused}
use Rattle.message_end.proofs.Steps.{Laws}

begins :
    {K : Type 0} (laws : Laws) (plan : EndPlan) (numbers : NumbersView) → LinePlanFits plan.line → IsNumbers numbers
    → IsHistoryOf {K = K} plan numbers.next [] (new_end plan numbers)
begins laws plan numbers fits left = record {
  lawful = tt;
  received = refl;
  line = refl;
  core = record {
    line = record { state = laws.kept.new plan.side plan.line.times fits.times; bytes = All-nil (λ byte. byte < 256) };
    numbers = record {
      left = left;
      least = omega arith;
      above = λ number has. absurd has;
      below = λ message has primary. absurd has;
      new = tt;
    };
    spare = λ number none. absurd (cc);
    outgoing = record { side = refl; device = refl };
    waiting = record {
      items = [];
      are = refl;
      apart = tt;
      each = λ item has. absurd has;
      places = λ giving has. absurd has;
      afters = λ one has. absurd has;
    };
    held = λ block none. absurd (cc);
    asked = λ title none. absurd (cc);
    transactions = record {
      t3 = refl;
      each = λ begun has. absurd has;
      apart = λ i j d less within. absurd (omega (arith, within));
    };
    met = record { receiver = refl; stands = record { last = refl; partials = refl }; blocks = All-nil IsBlock };
  };
  steps = record { replies = tt; asked = λ title none. absurd (cc) };
}

continues :
    {K : Type 0} (laws : Laws) (plan : EndPlan) (base : ℕ) (doings : List Doing) (e : EndView K)
    (commands : List (Command K))
    → LinePlanFits plan.line → IsHistoryOf plan base doings e → MayCarryAll commands
    → CarriesOn plan base doings commands (carried Some commands (at_first e))
continues {K} laws plan base doings e commands fits is may =
    carries-on laws plan base fits doings commands (at_first e) may (record {
      done = [];
      called = refl;
      drops = tt;
      course = record {
        lawful = is.lawful;
        line = is.line;
        notes = sym (append-nil (noted_in doings));
        written = sym (append-nil (written_in plan doings));
      };
      received = is.received;
      core = is.core;
      steps = is.steps;
      unended = tt;
    })

pub lawful : {K : Type 0} → Laws → EndsAreLawful K
lawful laws = record {
  begins = begins laws;
  goes_on = continues laws;
  ends = λ plan base doings e is. history-ends plan base doings e is;
  begins_new = λ plan base doings e header is none room.
      not-refused plan (sent_in (own_of plan doings)) e.transactions header is.core.transactions none room;
}
