-- What a host owes its journal, over its doings: which messages it lists there, in which step, and what waits for that;
-- and what an equipment owes for it: it puts no other messages into its spool.
use Rattle.std.specs.Prelude.{◌≡◌, ℕ, true, List, [], ◌∷◌, Option, Some, None, if◌then◌else◌}
use Rattle.gl_base.specs.declared.side.Side.{Side}
use Rattle.gl_base.specs.declared.side.Side.TheVariants.{Equipment, Host}
use Rattle.message_end.specs.Core.{Went}
use Rattle.message_end.specs.Core.Went.{Goes, Spent}
use Rattle.message_end.specs.Doings.{Doing}
use Rattle.message_end.specs.Doings.Doing.{Calls, Does, Gives, Says}
use Rattle.message_end.specs.Ends.{Input, Machine}
use Rattle.message_end.specs.Log.{noted_of}
use Rattle.message_end.specs.Moves.{Kind, LinePlans, Move, run_at}
use Rattle.message_end.specs.Moves.Kind.{Added, Changed, Did, Lost, Started}
use Rattle.message_end.specs.Own.{Own}
use Rattle.message_end.specs.Own.Own.{ReceivedMessage}
use Rattle.message_flow.specs.declared.message.Message.{Message}
use Rattle.spool_rule.specs.Rule.{is_spoolable}
use Rattle.trace_log.specs.Log.{Happening}
use Rattle.trace_log.specs.Log.Happening.{HostStarted, Listed, Listing, Received, StepEnded, Storing, Wrote}
use Rattle.trace_log.specs.Names.{Record}

-- what is put into the spool is S5F1, S6F11 or S10F1 (this profile)
abbrev pub AllStoredAreSpoolable : List Happening → Type 0
AllStoredAreSpoolable [] = Unit {0}
AllStoredAreSpoolable (Storing number message ∷ before) =
    (is_spoolable message.stream message.function ≡ true) × AllStoredAreSpoolable before
AllStoredAreSpoolable (_ ∷ before) = AllStoredAreSpoolable before

-- ---- what a host owes

-- nothing; to list the message received last, of which this is the record; or to have listed this one, which is being
-- listed with a number
pub data Owed : Type 0 where
  Nothing : Owed
  ToList : (listed : Record) → Owed
  ToHaveListed : (number : ℕ) (listed : Record) → Owed

-- a message is listed with its system bytes, and whether its reply is awaited isn't
abbrev pub record_of : Message → Record
record_of message = record {
  stream = message.stream;
  function = message.function;
  system = message.system;
  body = message.body;
}

-- it lists what can be spooled, whether it comes out of a spool or not; a start begins with nothing owed
abbrev pub owed_behind : Happening → Owed → Owed
owed_behind (Received message) owed =
    if is_spoolable message.stream message.function then ToList (record_of message) else owed
owed_behind (Listing number listed) owed = ToHaveListed number listed
owed_behind (Listed number listed) owed = Nothing
owed_behind (HostStarted journal) owed = Nothing
owed_behind _ owed = owed

abbrev pub owed_with : Option Happening → Owed → Owed
owed_with None owed = owed
owed_with (Some what) owed = owed_behind what owed

-- since its start
abbrev pub owed_in : List Doing → Owed
owed_in [] = Nothing
owed_in (doing ∷ before) = owed_with (noted_of doing) (owed_in before)

-- ---- the law

abbrev pub MayDoOwed : Owed → Own → Type 0
MayDoOwed owed (ReceivedMessage message) = owed ≡ Nothing
MayDoOwed owed _ = Unit {0}

abbrev pub MaySayOwed : Owed → Happening → Type 0
MaySayOwed owed (Listing number listed) = owed ≡ ToList listed
MaySayOwed owed (Listed number listed) = owed ≡ ToHaveListed number listed
MaySayOwed owed StepEnded = owed ≡ Nothing
MaySayOwed owed (Wrote characters) = owed ≡ Nothing
MaySayOwed owed _ = Unit {0}

-- while a message isn't listed none is received, and no block is given to the line: so its reply goes out behind it. It
-- is listed in the step in which it was received, before the characters of that are sent. What is being listed was
-- received last, and has been listed before another one is
abbrev pub MayDoListing : Owed → Doing → Type 0
MayDoListing owed (Does own) = MayDoOwed owed own
MayDoListing owed (Gives place number block now) = owed ≡ Nothing
MayDoListing owed (Calls call) = Unit {0}
MayDoListing owed (Says what) = MaySayOwed owed what

abbrev pub MayMoveListing : List Doing → Kind → Type 0
MayMoveListing before (Did doing) = MayDoListing (owed_in before) doing
MayMoveListing before (Started note base) = Unit {0}
MayMoveListing before Lost = Unit {0}
MayMoveListing before (Changed place byte) = Unit {0}
MayMoveListing before (Added byte) = Unit {0}

abbrev pub MayListAt : Side → LinePlans → List Move → Kind → Type 0
MayListAt Equipment plans before kind = Unit {0}
MayListAt Host plans before kind = MayMoveListing (run_at Host plans before).doings kind

-- a host with a journal keeps it over all its doings
abbrev pub KeepsListing : LinePlans → List Move → Type 0
KeepsListing plans [] = Unit {0}
KeepsListing plans (move ∷ before) = MayListAt move.side plans before move.kind × KeepsListing plans before

-- ---- a step that ends early

abbrev pub IsNoListing : Happening → Type 0
IsNoListing (Listing number listed) = ⊥
IsNoListing _ = Unit {0}

abbrev pub ListNothing : List Happening → Type 0
ListNothing [] = Unit {0}
ListNothing (what ∷ rest) = IsNoListing what × ListNothing rest

-- a step of a host that ends early, since its journal lacks room or since numbers are lacking, has begun to list
-- nothing
abbrev pub BeginsNoneEarly : {S : Type 0} → Went S Happening → Type 0
BeginsNoneEarly (Goes step) = Unit {0}
BeginsNoneEarly (Spent step) = ListNothing step.notes

-- in whatever state and whatever it is given
abbrev pub NeverListsEarly : {S C : Type 0} → Machine S C → Type 0
NeverListsEarly {S} {C} machine =
    (s : S) (input : Input C) (now : ℕ) → BeginsNoneEarly (machine.act s input now)
