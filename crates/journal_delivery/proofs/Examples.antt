-- The worked runs.
use Rattle.std.specs.Prelude.{◌≡◌, ◌<◌, ℕ, Bool, true, false, List, [], ◌∷◌, ◌++◌, drop, None, Some, refl}
use Rattle.std.proofs.Common.{sym, ap, arith, rules, inl, inr}
use Rattle.delivery.specs.Worked.{Scene, does, moves_after, plans, scene_after, takes_after, transfer}
use Rattle.delivery.specs.Worked.Scene.{Block, One, Takes}
use Rattle.delivery.proofs.Examples.{new_play}
use Rattle.delivery.proofs.Playing.{Stands, all_may, played}
use Rattle.delivery.proofs.Scenes.{AllMay, Kept, kept-after}
use Rattle.gl_base.specs.declared.side.Side.{Side}
use Rattle.gl_base.specs.declared.side.Side.TheVariants.{Equipment, Host}
use Rattle.line_end.specs.Frames.{block_in, is_frame, sum_cause}
use Rattle.line_end.specs.Step.{LineCall, ack}
use Rattle.line_end.specs.Step.LineCall.{Take}
use Rattle.message_end.specs.Doings.Doing.{Calls, Does, Gives, Says}
use Rattle.message_end.specs.Own.{Has, Own}
use Rattle.message_end.specs.Own.Own.{DrewNumber, ReceivedMessage}
use Rattle.message_end.specs.Moves.{KeepLaws, Kind, Move, run_at}
use Rattle.message_end.specs.Moves.Kind.{Added, Changed, Did, Lost, Started}
use Rattle.message_flow.specs.declared.message.Message.{Message}
use Rattle.message_flow.specs.Laws.{MessagesGoInBlocks}
use Rattle.trace_log.specs.declared.names.Cause.TheVariants as cause
use Rattle.trace_log.specs.Log.{Happening}
use Rattle.trace_log.specs.Log.Happening.{EquipmentStarted, Gone, Leaving, Listing, Power, Received, Sent, Stored, Storing, Try}
use Rattle.trace_log.specs.Names.{Record, Spooled}
use Rattle.spool_law.specs.Listing.{KeepsListing, MayDoOwed, MayListAt, MaySayOwed, Owed, owed_in}
use Rattle.spool_law.specs.Listing.Owed.{Nothing, ToHaveListed, ToList}
use Rattle.spool_law.specs.Shelf.{Carries, Change, KeepsSpool, MayChange}
use Rattle.spool_law.specs.Tries.{IsNewest, MayTry}
use Rattle.spool_delivery.specs.Worked.{plain_policy, reply, report, says}
use Rattle.spool_delivery.proofs.Examples.{first_number, stands-after, tries-after}
use Rattle.journal_delivery.specs.Worked.{ListsAgain, ListsInItsStep, ListsInTurn, ListsNoneEarly, ListsWhatComes, NeedsListing, answered_first, first_report, host_starts, listed_report, restarted, restarted_moves, tried_first}

-- ---- the law of listing, by scenes

abbrev is_received : Own → Bool
is_received (ReceivedMessage message) = true
is_received _ = false

-- what is noted of a listing, and of the end of a step
abbrev is_listing : Happening → Bool
is_listing (Happening.Listing number listed) = true
is_listing (Happening.Listed number listed) = true
is_listing Happening.StepEnded = true
is_listing (Happening.Wrote characters) = true
is_listing _ = false

-- it asks something of a message received, of a block that is given, and of such a note
abbrev asks_listed : Side → Kind → Bool
asks_listed Equipment kind = false
asks_listed Host (Did (Gives place number block now)) = true
asks_listed Host (Did (Says what)) = is_listing what
asks_listed Host (Did (Does own)) = is_received own
asks_listed Host (Did (Calls call)) = false
asks_listed Host (Started note base) = false
asks_listed Host Lost = false
asks_listed Host (Changed place byte) = false
asks_listed Host (Added byte) = false

abbrev ListAt : Side → List Move → Kind → Type 0
ListAt side before kind = MayListAt side plans before kind

does-unlisted : (owed : Owed) (own : Own) → is_received own ≡ false → MayDoOwed owed own
does-unlisted owed (ReceivedMessage message) is = cc
does-unlisted owed own is = tt

says-unlisted : (owed : Owed) (what : Happening) → is_listing what ≡ false → MaySayOwed owed what
says-unlisted owed (Happening.Listing number listed) is = cc
says-unlisted owed (Happening.Listed number listed) is = cc
says-unlisted owed Happening.StepEnded is = cc
says-unlisted owed (Happening.Wrote characters) is = cc
says-unlisted owed what is = tt

unasked-list : (side : Side) (before : List Move) (kind : Kind) → asks_listed side kind ≡ false
    → ListAt side before kind
unasked-list Equipment before kind is = tt
unasked-list Host before (Did (Gives place number block now)) is = cc
unasked-list Host before (Did (Says what)) is = says-unlisted (owed_in (run_at Host plans before).doings) what is
unasked-list Host before (Did (Does own)) is = does-unlisted (owed_in (run_at Host plans before).doings) own is
unasked-list Host before (Did (Calls call)) is = tt
unasked-list Host before (Started note base) is = tt
unasked-list Host before Lost is = tt
unasked-list Host before (Changed place byte) is = tt
unasked-list Host before (Added byte) is = tt

no-call-list : (side : Side) (call : LineCall) → asks_listed side (Did (Calls call)) ≡ false
no-call-list Equipment call = refl
no-call-list Host call = refl

listing-kept : (moves : List Move) → Kept ListAt asks_listed unasked-list no-call-list moves → KeepsListing plans moves
listing-kept [] kept = tt
listing-kept (move ∷ before) kept = (kept.0, listing-kept before kept.1)

listing-after : (scenes : List Scene) → AllMay ListAt asks_listed unasked-list no-call-list scenes []
    → KeepsListing plans (moves_after scenes [])
listing-after scenes may =
    listing-kept (moves_after scenes []) (kept-after ListAt asks_listed unasked-list no-call-list scenes [] may tt)

-- what is kept by all moves was kept before the last scenes
listing-before : (scenes : List Scene) (before : List Move) → KeepsListing plans (moves_after scenes before)
    → KeepsListing plans before
listing-before [] before keeps = keeps
listing-before (One side moment kind ∷ scenes) before keeps =
    (listing-before scenes (scene_after (One side moment kind) before) keeps).1
listing-before (Block side moment message place number ∷ scenes) before keeps =
    (listing-before scenes (scene_after (Block side moment message place number) before) keeps).1
listing-before (Takes side moment bytes ∷ scenes) before keeps =
    takes-before side moment bytes before (listing-before scenes (takes_after side moment bytes before) keeps)
  where
    takes-before : (side : Side) (moment : ℕ) (bytes : List ℕ) (before : List Move)
        → KeepsListing plans (takes_after side moment bytes before) → KeepsListing plans before
    takes-before side moment [] before keeps = keeps
    takes-before side moment (byte ∷ bytes) before keeps =
        (takes-before side moment bytes
        (record { side = side; moment = moment; kind = Did (Calls (Take byte moment)) } ∷ before) keeps).1

-- ---- the equipment's notes, which are the same in both runs

abbrev tool_notes : List Happening
tool_notes =
    Gone 0
    ∷ Leaving 0 cause.Confirmed None
    ∷ Received (reply 1)
    ∷ Sent first_report
    ∷ Try 0 1
    ∷ Stored 0
    ∷ Storing 0 (report (65 ∷ []))
    ∷ EquipmentStarted [] 1
    ∷ []

carries : (message : Spooled) → Some (report (65 ∷ [])) ≡ Some message → Carries message first_report
carries message is = record {
  stream = ap (λ (w : Spooled). w.stream) same;
  function = ap (λ (w : Spooled). w.function) same;
  wait = refl;
  body = ap (λ (w : Spooled). w.body) same;
}
  where
    same : report (65 ∷ []) ≡ message
    same = some-is (report (65 ∷ [])) message is
      where
        some-is : (one other : Spooled) → Some one ≡ Some other → one ≡ other
        some-is one other is_so = cc

confirmed : MayChange plain_policy (drop 2 tool_notes) (Change.Leaves 0 cause.Confirmed None)
confirmed = record {
  rest = record { none_stored = refl; none_leaves = refl };
  first = refl;
  cause = (
    record {
      tried = record { number = 0; system = 1 };
      is = refl;
      reply = reply 1;
      has = inl refl;
      secondary = refl;
      system = refl;
    },
    refl,
  );
}

put-in : KeepsSpool plain_policy (drop 4 tool_notes)
put-in = (
  refl,
  (
    record { message = report (65 ∷ []); is = refl },
    (
      record { rest = record { none_stored = refl; none_leaves = refl }; above = λ one is. absurd is; room = refl },
      (record { missing = 0; stored = false; at_most = omega arith; is = refl }, tt),
    ),
  ),
)

keeps-spool : KeepsSpool plain_policy tool_notes
keeps-spool = (
  record { cause = cause.Confirmed; is = refl; first = refl },
  (confirmed, (tt, (λ primary message told. carries message told, put-in))),
)

may-try : MayTry (DrewNumber 1 ∷ []) [] 1
may-try = record { drawn = inl refl; new = λ message none. absurd none; untried = λ none. none }

newest : (message : Message) → Has (1 ∷ []) message.system → IsNewest (1 ∷ []) message.system
newest message (inl same) = sym same
newest message (inr is) = absurd is

-- ---- the report is listed again

restarted-may : (found : List (ℕ × Spooled)) (number : ℕ) → all_may (restarted found number) new_play ≡ true
unfolding block_in is_frame sum_cause
restarted-may found number = refl

pub lists-again : MessagesGoInBlocks → ListsAgain
unfolding block_in is_frame sum_cause
lists-again blocks = record {
  fits = search rules;
  no_slip = λ found number. (stands found number).moves_are.no_slip;
  laws = λ found number. record {
    spool = record {
      ends = (stands found number).laws;
      notes = keeps-spool;
      tries =
          tries-after (restarted found number) (may-try, (λ message at primary has. newest message has, tt));
    };
    stored = (refl, tt);
    listing = listing-after (restarted found number) (refl, (refl, (refl, (refl, (refl, (refl, tt))))));
  };
  received = refl;
  listed = refl;
  once = refl;
  lost = refl;
  gone = refl;
}
  where
    stands : (found : List (ℕ × Spooled)) (number : ℕ)
        → Stands plans (KeepLaws plans) (played (restarted found number) new_play) (restarted_moves found number)
    stands found number = stands-after blocks (restarted found number) (restarted-may found number)

-- ---- the reply goes out first

owes-none : (listed : Record) → ToList listed ≡ Nothing → ⊥
owes-none listed is = cc

answered-may : all_may answered_first new_play ≡ true
unfolding block_in is_frame sum_cause
answered-may = refl

-- all behind the block of the reply
abbrev behind_reply : List Scene
behind_reply =
    transfer Host 7 (reply 1) 1
    ++ One Equipment 7 (does (ReceivedMessage (reply 1)))
    ∷ One Equipment 7 (says (Leaving 0 cause.Confirmed None))
    ∷ One Equipment 7 (says (Gone 0))
    ∷ One Host 8 (says (Listing 0 listed_report))
    ∷ One Host 8 (says Power)
    ∷ One Host 8 (host_starts [] 4096)
    ∷ []

abbrev reply_given : List Move
reply_given = moves_after (tried_first ++ Takes Equipment 7 (ack ∷ []) ∷ Block Host 7 (reply 1) 0 1 ∷ []) []

pub needs-listing : MessagesGoInBlocks → NeedsListing
unfolding block_in is_frame sum_cause
needs-listing blocks = record {
  spool = record {
    ends = (stands-after blocks answered_first answered-may).laws;
    notes = keeps-spool;
    tries = tries-after answered_first (may-try, (λ message at primary has. newest message has, tt));
  };
  stored = (refl, tt);
  law = λ keeps. owes-none listed_report (listing-before behind_reply reply_given keeps).0;
  claim = λ taken. taken.kept.1.1.1.1.0.cause.0;
}

-- ---- the order is broken, or another message is listed

apart : (one other : ℕ) → one < other → one ≡ other → ⊥
apart one other less is = omega (arith, less, is)

pub lists-in-turn : ListsInTurn
lists-in-turn = record {
  law = λ keeps. owes-none listed_report keeps.1.1.1.1.0;
  claim = λ order. apart 0 1 (omega arith) (ap first_number order.0.is);
}

abbrev owed_system : Owed → ℕ
owed_system Nothing = 0
owed_system (ToList listed) = listed.system
owed_system (ToHaveListed number listed) = 0

pub lists-what-comes : ListsWhatComes
lists-what-comes = record {
  another = λ keeps. apart 1 2 (omega arith) (ap owed_system keeps.0);
  unbegun = λ keeps. apart 0 1 (omega arith) (sym (ap owed_system keeps.0));
}

pub lists-in-its-step : ListsInItsStep
lists-in-its-step = record {
  in_time = (refl, (refl, (refl, (refl, (refl, tt)))));
  late = λ keeps. owes-none listed_report keeps.1.1.0;
  written = λ keeps. owes-none listed_report keeps.1.1.0;
}

pub lists-none-early : ListsNoneEarly
lists-none-early = record { without_room = (tt, (tt, tt)); begun = λ none. none.1.0 }
