use Rattle.std.proofs.Common.{◌≡◌, refl, ap, arith, ℕ, Some, None}
use Rattle.trace_log.specs.declared.names.Cause.{Cause}
use Rattle.trace_log.specs.declared.names.Cause.TheVariants as cause
use Rattle.spool_law.specs.Shelf.{Change}
use Rattle.spool_law.specs.Shelf.Change.{Leaves, Stores}
use Rattle.tool_spool.specs.InPairs.{IsOfOne}
use Rattle.tool_spool.proofs.laws.worked_pairs.Goals as goal

-- the number, the function and the cause that a line names
abbrev number-in : Change → ℕ
number-in (Stores number message) = number
number-in _ = 0

abbrev function-in : Change → ℕ
function-in (Stores number message) = message.function
function-in _ = 0

abbrev cause-in : Change → Cause
cause-in (Leaves number why room_for) = why
cause-in _ = cause.Confirmed

-- a purge is no removal of one message
not-of-one : (why : Cause) → cause.Purged ≡ why → IsOfOne why → ⊥
not-of-one cause.Confirmed same of = absurd (cc)
not-of-one cause.Purged same of = of
not-of-one cause.Overwritten same of = absurd (cc)

pub returns : goal.returns
returns c = record {
  over = λ oldest function body. (
    record {
      number = 7;
      why = cause.Overwritten;
      room_for = Some (record { stream = 6; function = function; body = body });
      first = refl;
      cause_is = tt;
      before_is = refl;
      behind_is = refl;
    },
    ((refl, refl), refl),
  );
  purged = λ oldest. (
    record {
      number = 7;
      why = cause.Purged;
      room_for = None;
      first = refl;
      cause_is = tt;
      before_is = refl;
      behind_is = refl;
    },
    refl,
  );
  discarded = λ oldest function body told. absurd (told.1);
  silent = λ oldest told. absurd told;
  empty = λ oldest told. absurd (cc);
  all_for_one = λ oldest told. not-of-one told.0.why (ap cause-in told.0.before_is) told.0.cause_is;
  again = λ oldest function body told.
      let same : 7 ≡ 8 = ap number-in told.0.0 in absurd (omega (arith, same));
  other = λ oldest body told.
      let same : 1 ≡ 11 = ap function-in told.0.0 in absurd (omega (arith, same));
  undone = λ oldest told. absurd told;
}
