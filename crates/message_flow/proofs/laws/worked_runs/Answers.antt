-- What the runs start from, and what their blocks are, computed.

use Rattle.std.proofs.Common.{refl, rules, arith, true, [], inl}
use Rattle.message_flow.specs.Arrivals.HaveCome.{start, next, again, between}
use Rattle.gl_base.specs.declared.side.Side.TheVariants.{Equipment}
use Rattle.message_flow.specs.Arrivals.{CanBegin}
use Rattle.message_flow.specs.Worked.{a_host, mixed, once, report, twice}
use Rattle.message_flow.proofs.laws.worked_runs.Goals as goal

pub returns-clause-comes : goal.returns-clause-comes
returns-clause-comes c =
    let begins : CanBegin a_host Equipment 0 (report 1) [] =
    record { none_open = refl; not_given = refl; room = inl (omega arith); fits = omega arith; own = refl } in
    record {
      receiver = search rules;
      begins = begins;
      comes = next mixed 1 _ 3 (between twice 1 true _ (again once 1 1 (start [] 0 begins)) refl) (omega arith);
      more = omega arith;
      first = refl;
      again = refl;
      second = refl;
      last = refl;
    }
