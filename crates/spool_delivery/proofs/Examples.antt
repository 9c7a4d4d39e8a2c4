-- The worked logs and the worked run.
use Rattle.std.specs.Prelude.{◌≡◌, ◌<◌, ℕ, Bool, true, false, List, [], ◌∷◌, None, Some, refl}
use Rattle.std.proofs.Common.{sym, ap, arith, rules, inl, inr}
use Rattle.delivery.specs.Worked.{Scene, moves_after, plans}
use Rattle.delivery.proofs.Examples.{new_play, stands-new}
use Rattle.delivery.proofs.Playing.{Keeps, Stands, all_may, played, plays-on}
use Rattle.delivery.proofs.Scenes.{AllMay, Kept, kept-after}
use Rattle.gl_base.specs.declared.side.Side.{Side}
use Rattle.gl_base.specs.declared.side.Side.TheVariants.{Equipment, Host}
use Rattle.line_end.specs.Frames.{block_in, is_frame, sum_cause}
use Rattle.line_end.specs.Step.{LineCall}
use Rattle.message_end.specs.Doings.{own_of}
use Rattle.message_end.specs.Doings.Doing.{Calls, Does, Gives, Says}
use Rattle.message_end.specs.Own.{Has, Own}
use Rattle.message_end.specs.Log.{log_of}
use Rattle.message_end.specs.Moves.{KeepLaws, Kind, Move, plan_at, run_at}
use Rattle.message_end.specs.Moves.Kind.{Added, Changed, Did, Lost, Started}
use Rattle.message_flow.specs.declared.message.Message.{Message}
use Rattle.message_flow.specs.Laws.{MessagesGoInBlocks}
use Rattle.trace_log.specs.declared.names.Cause.TheVariants as cause
use Rattle.trace_log.specs.Log.Happening.{Power}
use Rattle.trace_log.specs.Names.{Spooled}
use Rattle.spool_law.specs.Shelf.{Carries, Change, KeepsSpool, change_of}
use Rattle.spool_law.specs.Tries.{IsNewest, KeepsTries, MaySayTried, MayTryAt, tries_in}
use Rattle.spool_delivery.specs.Account.{Put}
use Rattle.spool_delivery.specs.Claims.{equipment_notes}
use Rattle.spool_delivery.specs.Worked.{AreNotKept, BreakOrder, UnloadsAfterLoss, at_equipment, first_report, found_first, plain_policy, reply, report, sent_report, unload, unload_moves}

keeps-laws : Keeps plans (KeepLaws plans)
keeps-laws move before may laws = (may, laws)

-- scenes that may be played keep the laws of both ends
pub stands-after : MessagesGoInBlocks → (scenes : List Scene) → all_may scenes new_play ≡ true
    → Stands plans (KeepLaws plans) (played scenes new_play) (moves_after scenes [])
stands-after blocks scenes may =
    plays-on blocks (KeepLaws plans) keeps-laws scenes new_play [] may (record { moves_are = stands-new; laws = tt })

unload-may : all_may unload new_play ≡ true
unfolding block_in is_frame sum_cause
unload-may = refl

-- ---- tries, by scenes

abbrev tells_try : Change → Bool
tells_try (Change.Tries number system) = true
tells_try _ = false

-- the law of tries asks something of a try, and of a block that is given
abbrev pub asks_try : Side → Kind → Bool
asks_try Host kind = false
asks_try Equipment (Did (Gives place number block now)) = true
asks_try Equipment (Did (Says what)) = tells_try (change_of what)
asks_try Equipment (Did (Does own)) = false
asks_try Equipment (Did (Calls call)) = false
asks_try Equipment (Started note base) = false
asks_try Equipment Lost = false
asks_try Equipment (Changed place byte) = false
asks_try Equipment (Added byte) = false

abbrev pub TryAt : Side → List Move → Kind → Type 0
TryAt side before kind = MayTryAt side plans before kind

says-untried : (own : List Own) (tries : List ℕ) (change : Change) → tells_try change ≡ false
    → MaySayTried own tries change
says-untried own tries (Change.Tries number system) is = cc
says-untried own tries change is = tt

pub unasked-try : (side : Side) (before : List Move) (kind : Kind) → asks_try side kind ≡ false → TryAt side before kind
unasked-try Host before kind is = tt
unasked-try Equipment before (Did (Gives place number block now)) is = cc
unasked-try Equipment before (Did (Says what)) is =
    says-untried (own_of (plan_at Equipment plans) (run_at Equipment plans before).doings)
    (tries_in (run_at Equipment plans before).doings) (change_of what) is
unasked-try Equipment before (Did (Does own)) is = tt
unasked-try Equipment before (Did (Calls call)) is = tt
unasked-try Equipment before (Started note base) is = tt
unasked-try Equipment before Lost is = tt
unasked-try Equipment before (Changed place byte) is = tt
unasked-try Equipment before (Added byte) is = tt

pub no-call-try : (side : Side) (call : LineCall) → asks_try side (Did (Calls call)) ≡ false
no-call-try Equipment call = refl
no-call-try Host call = refl

tries-kept : (moves : List Move) → Kept TryAt asks_try unasked-try no-call-try moves → KeepsTries plans moves
tries-kept [] kept = tt
tries-kept (move ∷ before) kept = (kept.0, tries-kept before kept.1)

pub tries-after : (scenes : List Scene) → AllMay TryAt asks_try unasked-try no-call-try scenes []
    → KeepsTries plans (moves_after scenes [])
tries-after scenes may =
    tries-kept (moves_after scenes []) (kept-after TryAt asks_try unasked-try no-call-try scenes [] may tt)

newest : (message : Message) → Has (5 ∷ []) message.system → IsNewest (5 ∷ []) message.system
newest message (inl same) = sym same
newest message (inr is) = absurd is

all-tries : AllMay TryAt asks_try unasked-try no-call-try unload []
all-tries = (
  record { drawn = inl refl; new = λ message none. absurd none; untried = λ none. none },
  (λ message at primary has. newest message has, tt),
)

-- ---- notes

carries : (message : Spooled) → Some (report (65 ∷ [])) ≡ Some message → Carries message first_report
carries message is = record {
  stream = ap (λ (w : Spooled). w.stream) same;
  function = ap (λ (w : Spooled). w.function) same;
  wait = refl;
  body = ap (λ (w : Spooled). w.body) same;
}
  where
    same : report (65 ∷ []) ≡ message
    same = some-is (report (65 ∷ [])) message is
      where
        some-is : (one other : Spooled) → Some one ≡ Some other → one ≡ other
        some-is one other is_so = cc

above : (one : ℕ × Spooled) → Has found_first one → one.0 < 1
above one (inl same) = let at = ap (λ (w : ℕ × Spooled). w.0) same in omega (arith, at)
above one (inr is) = absurd is

keeps-spool : KeepsSpool plain_policy (equipment_notes (log_of unload_moves))
keeps-spool = (
  record { cause = cause.Confirmed; is = refl; first = refl },
  (
    record {
      rest = record { none_stored = refl; none_leaves = refl };
      first = refl;
      cause = (
        record {
          tried = record { number = 0; system = 5 };
          is = refl;
          reply = reply 5;
          has = inl refl;
          secondary = refl;
          system = refl;
        },
        refl,
      );
    },
    (
      tt,
      (
        λ primary message told. carries message told,
        (
          refl,
          (
            record { missing = 0; stored = true; at_most = omega arith; is = refl },
            (
              tt,
              (
                record { rest = record { none_stored = refl; none_leaves = refl }; above = above; room = refl },
                (
                  record { message = report (65 ∷ []); is = refl },
                  (
                    record {
                      rest = record { none_stored = refl; none_leaves = refl };
                      above = λ one is. absurd is;
                      room = refl;
                    },
                    (
                      record { missing = 0; stored = false; at_most = omega arith; is = refl },
                      tt,
                    ),
                  ),
                ),
              ),
            ),
          ),
        ),
      ),
    ),
  ),
)

pub unloads-after-loss : MessagesGoInBlocks → UnloadsAfterLoss
unfolding block_in is_frame sum_cause
unloads-after-loss blocks =
    let stands = stands-after blocks unload unload-may in
    record {
      fits = search rules;
      no_slip = stands.moves_are.no_slip;
      laws = record { ends = stands.laws; notes = keeps-spool; tries = tries-after unload all-tries };
      taken = refl;
      stands = refl;
    }

-- ---- the broken order

-- the number of the first put
abbrev pub first_number : List Put → ℕ
first_number [] = 9
first_number (put ∷ rest) = put.number

apart : (one other : ℕ) → one < other → one ≡ other → ⊥
apart one other less is = omega (arith, less, is)

pub break-order : BreakOrder
break-order = record {
  overtakes = λ order. apart 0 1 (omega arith) (ap first_number order.0.is);
  skips = λ order. apart 0 1 (omega arith) (ap first_number order.0.is);
}

-- ---- logs of a spool that isn't kept

some-none : {X : Type 0} (x : X) → Some x ≡ None → ⊥
some-none x is = cc

none-some : {X : Type 0} (x : X) → None ≡ Some x → ⊥
none-some x is = cc

true-false : true ≡ false → ⊥
true-false is = cc

not-both : {test : Bool} → test ≡ true → test ≡ false → ⊥
not-both is other = cc

under-itself : (number : ℕ) → number < number → ⊥
under-itself number is = omega (arith, is)

two-below : 2 < 9
two-below = omega arith

abbrev first_put : Put
first_put = record { place = 1; number = 0; message = report (65 ∷ []) }

pub are-not-kept : AreNotKept
are-not-kept = record {
  tries_again = λ policy kept.
      true-false (kept.1.1.1.0.new (sent_report 10 (65 ∷ [])) refl 2 (at_equipment Power) two-below);
  stores_over = λ policy kept. some-none first_put kept.1.1.1.0.quiet.none_stored;
  stores_under = λ policy kept. under-itself 0 (kept.1.1.0.above first_put (inl refl));
  goes_alone = λ policy kept. none-some kept.1.0.cause kept.1.0.is;
  names_none = λ policy kept. kept.0.cause;
  names_one = λ policy kept. some-none (report (66 ∷ [])) kept.0.cause.1;
  has_room = λ policy has kept. not-both has kept.0.cause.full;
  never_fits = λ policy never kept. not-both kept.0.cause.fits never;
  stores_without = λ policy never kept. not-both kept.0.room never;
}
