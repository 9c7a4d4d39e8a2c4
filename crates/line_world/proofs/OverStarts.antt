-- Whatever S6F11 the equipment sends or spools, in any start, tells of an event of that start or an earlier one: one
-- that goes out of the spool is what was put, and what is put tells of an event.
use Rattle.std.proofs.Common.{◌≡◌, ◌⊎◌, ◌&&◌, ◌||◌, ◌==◌, ◌%◌, nat_eq, not, ℕ, Bool, true, false, List, [], ◌∷◌, drop, length, option_to_list, Option, Some, None, if◌then◌else◌, inl, inr, refl, sym, ap, subst, ◌∙◌, arith}
use Rattle.std.specs.List.{list_any}
use Rattle.std.proofs.lemmas.Bool.Decides.{nat_tests}
use Rattle.tool_reports.proofs.QuietNotes.{as-said}
use Rattle.tool_reports.specs.Reported.{Happened, HoldsItsValues, IsOfEvent, Reported, events_in, is_event_report, is_live, is_of, past_in, tries_in}
use Rattle.equipment_tables.specs.declared.plan.EquipmentPlan.{EquipmentPlan}
use Rattle.message_end.specs.Own.{Has}
use Rattle.message_end.proofs.Members.{has-drop, has-either}
use Rattle.message_flow.specs.Message.{is_primary}
use Rattle.message_flow.specs.declared.message.Message.{Message}
use Rattle.spool_law.specs.Shelf.{Carries, Change, IsFirst, IsFoundOf, KeepsSpool, Policy, Shelf, Told, change_of, leaving_of, shelf_changed, shelf_of, stored_if, told_first, told_with}
use Rattle.spool_law.specs.Shelf.Change.{Finds, HasGone, HasStored, Leaves, Other, Receives, Sends, Stores, Tries}
use Rattle.trace_log.specs.Log.{Happening, Past}
use Rattle.trace_log.specs.Names.{Spooled}
use Rattle.line_world.specs.Reports.{TellOfEvents, TellsOf, TellsOfEvent, all_events_in, event_of, with_event}
use Rattle.spool_delivery.proofs.Sound.{stored-is}

-- ---- notes by what they are

-- of the spool no more than that something stored stands, or that something leaves
abbrev IsQuiet : Change → Type 0
IsQuiet (Finds found) = ⊥
IsQuiet (Stores number message) = ⊥
IsQuiet (HasStored number) = Unit {0}
IsQuiet (Leaves number why room_for) = Unit {0}
IsQuiet (HasGone number) = Unit {0}
IsQuiet (Tries number system) = ⊥
IsQuiet (Sends message) = ⊥
IsQuiet (Receives message) = Unit {0}
IsQuiet Other = Unit {0}

-- no event, no try, and nothing that is sent or put into the spool
record IsOther (what : Happening) : Type 0 where
  events : (before : List Happening) → events_in (what ∷ before) ≡ events_in before
  tries : (before : List Happening) → tries_in (what ∷ before) ≡ tries_in before
  tells : (plan : EquipmentPlan) (before : List Happening) → TellsOf plan what before
  quiet : IsQuiet (change_of what)

module _ (P : Happening → Type 0)
    (starts : (found : List (ℕ × Spooled)) (base : ℕ) → P (Happening.EquipmentStarted found base))
    (sends : (message : Message) → P (Happening.Sent message))
    (happens : (ceid dataid : ℕ) → P (Happening.Event ceid dataid))
    (stores : (number : ℕ) (message : Spooled) → P (Happening.Storing number message))
    (tries : (number system : ℕ) → P (Happening.Try number system))
    (other : (what : Happening) → IsOther what → P what) where
  by-kind : (what : Happening) → P what
  by-kind (Happening.EquipmentStarted found base) = starts found base
  by-kind (Happening.Sent message) = sends message
  by-kind (Happening.Event ceid dataid) = happens ceid dataid
  by-kind (Happening.Storing number message) = stores number message
  by-kind (Happening.Try number system) = tries number system
  by-kind what =
      other what (record { events = λ before. refl; tries = λ before. refl; tells = λ plan before. tt; quiet = tt })

-- ---- events of all starts

with-event : (event : Option (ℕ × ℕ)) (past : List Past) (events : List Happened) (one : Happened) → Has events one
    → Has (with_event event past events) one
with-event None past events one has = has
with-event (Some event) past events one has = inr has

-- a note more takes none away
later : (what : Happening) (before : List Happening) (one : Happened) → Has (all_events_in before) one
    → Has (all_events_in (what ∷ before)) one
later what before one has = with-event (event_of what) (past_in before) (all_events_in before) one has

-- those of the newest start are among them
abbrev IsIn : List Happening → Happened → Happening → Type 0
IsIn before one what = Has (events_in (what ∷ before)) one → Has (all_events_in (what ∷ before)) one

happened : (before : List Happening) (one : Happened) → (Has (events_in before) one → Has (all_events_in before) one)
    → (ceid dataid : ℕ) → IsIn before one (Happening.Event ceid dataid)
happened before one more ceid dataid (inl is) = inl is
happened before one more ceid dataid (inr has) = inr (more has)

in-all : (notes : List Happening) (one : Happened) → Has (events_in notes) one → Has (all_events_in notes) one
in-all [] one has = absurd has
in-all (what ∷ before) one has =
    let more : Has (events_in before) one → Has (all_events_in before) one = λ has. in-all before one has in
    by-kind (IsIn before one) (λ found base has. absurd has) (λ message has. more has)
    (λ ceid dataid has. happened before one more ceid dataid has) (λ number message has. more has)
    (λ number system has. more has)
    (λ what other has.
    later what before one (more (subst (λ (events : List Happened). Has events one) (other.events before) has)))
    what has

-- ---- what the spool holds tells of events

module _ (plan : EquipmentPlan) where
  abbrev IsTold : List Happening → Spooled → Type 0
  IsTold notes message = is_event_report message ≡ true → TellsOfEvent plan message.body notes

  -- what goes out with these system bytes
  record IsTried (notes : List Happening) (told : List Told) (system : ℕ) : Type 0 where
    message : Spooled
    is : told_with system told ≡ Some message
    tells : IsTold notes message

  record AreTold (notes : List Happening) (shelf : Shelf) : Type 0 where
    stands : (one : ℕ × Spooled) → Has shelf.stands one → IsTold notes one.1
    storing : (one : ℕ × Spooled) → shelf.storing ≡ Some one → IsTold notes one.1
    told : (system : ℕ) → list_any (nat_eq system) (tries_in notes) ≡ true → IsTried notes shelf.told system

  of-start : (body : List ℕ) (before : List Happening) → IsOfEvent plan body before → TellsOfEvent plan body before
  of-start body before is = record {
    event = is.event;
    happened = in-all before is.event is.happened;
    enabled = is.enabled;
    text = is.text;
  }

  tells-on : (body : List ℕ) (what : Happening) (before : List Happening) → TellsOfEvent plan body before
      → TellsOfEvent plan body (what ∷ before)
  tells-on body what before is = record {
    event = is.event;
    happened = later what before is.event is.happened;
    enabled = is.enabled;
    text = is.text;
  }

  told-on : (what : Happening) (before : List Happening) (message : Spooled) → IsTold before message
      → IsTold (what ∷ before) message
  told-on what before message is report = tells-on message.body what before (is report)

  tried-on :
      (what : Happening) (before : List Happening) (told : List Told) (system : ℕ) → IsTried before told system
      → IsTried (what ∷ before) told system
  tried-on what before told system is = record {
    message = is.message;
    is = is.is;
    tells = told-on what before is.message is.tells;
  }

  -- a note that changes nothing of the spool but what is in hand
  quiet-on : (notes : List Happening) (shelf : Shelf) (change : Change) → IsQuiet change → AreTold notes shelf
      → AreTold notes (shelf_changed change shelf)
  quiet-on notes shelf (Finds found) quiet are = absurd quiet
  quiet-on notes shelf (Stores number message) quiet are = absurd quiet
  quiet-on notes shelf (HasStored number) quiet are = record {
    stands = λ one has. joined one (has-either shelf.stands (option_to_list shelf.storing) one has);
    storing = λ one is. absurd (cc);
    told = are.told;
  }
    where
      joined : (one : ℕ × Spooled) → Has shelf.stands one ⊎ Has (option_to_list shelf.storing) one → IsTold notes one.1
      joined one (inl has) = are.stands one has
      joined one (inr has) = are.storing one (stored-is true shelf.storing one has)
  quiet-on notes shelf (Leaves number why room_for) quiet are =
      record { stands = are.stands; storing = are.storing; told = are.told }
  quiet-on notes shelf (HasGone number) quiet are = record {
    stands = λ one has.
        are.stands one (has-drop (leaving_of shelf.leaving (length shelf.stands)) shelf.stands one has);
    storing = are.storing;
    told = are.told;
  }
  quiet-on notes shelf (Tries number system) quiet are = absurd quiet
  quiet-on notes shelf (Sends message) quiet are = absurd quiet
  quiet-on notes shelf (Receives message) quiet are = are
  quiet-on notes shelf Other quiet are = are

  -- the same shelf behind one more note
  are-on :
      (what : Happening) (before : List Happening) (shelf : Shelf) → tries_in (what ∷ before) ≡ tries_in before
      → AreTold before shelf → AreTold (what ∷ before) shelf
  are-on what before shelf same are = record {
    stands = λ one has. told-on what before one.1 (are.stands one has);
    storing = λ one is. told-on what before one.1 (are.storing one is);
    told = λ system tried.
        tried-on what before shelf.told system
        (are.told system (sym (ap (λ (tries : List ℕ). list_any (nat_eq system) tries) same) ∙ tried));
  }

  -- ---- the five kinds of notes of which something is said

  started :
      (before : List Happening) (shelf : Shelf) (found : List (ℕ × Spooled)) (base : ℕ)
      → IsFoundOf shelf.stands shelf.storing shelf.leaving found → AreTold before shelf
      → AreTold (Happening.EquipmentStarted found base ∷ before) (shelf_changed (Finds found) shelf)
  started before shelf found base finds are = record {
    stands = λ one has.
        told-on what before one.1
        (from one
        (has-either (drop finds.missing shelf.stands) (stored_if finds.stored shelf.storing) one
        (subst (λ (list : List (ℕ × Spooled)). Has list one) finds.is has)));
    storing = λ one is. absurd (cc);
    told = λ system tried. absurd (cc);
  }
    where
      what : Happening
      what = Happening.EquipmentStarted found base

      from : (one : ℕ × Spooled)
          → Has (drop finds.missing shelf.stands) one ⊎ Has (stored_if finds.stored shelf.storing) one
          → IsTold before one.1
      from one (inl has) = are.stands one (has-drop finds.missing shelf.stands one has)
      from one (inr has) = are.storing one (stored-is finds.stored shelf.storing one has)

  stored :
      (before : List Happening) (shelf : Shelf) (number : ℕ) (message : Spooled) → IsTold before message
      → AreTold before shelf
      → AreTold (Happening.Storing number message ∷ before) (shelf_changed (Stores number message) shelf)
  stored before shelf number message tells are = record {
    stands = λ one has. told-on what before one.1 (are.stands one has);
    storing = λ one is. told-on what before one.1 (newest one is);
    told = λ system tried. tried-on what before shelf.told system (are.told system tried);
  }
    where
      what : Happening
      what = Happening.Storing number message

      newest : (one : ℕ × Spooled) → Some (number, message) ≡ Some one → IsTold before one.1
      newest one is =
          let same : message ≡ one.1 = cc in subst (λ (text : Spooled). IsTold before text) same tells

  -- what is tried is the first that stands
  tried :
      (before : List Happening) (shelf : Shelf) (number system : ℕ) → IsFirst shelf.stands number
      → AreTold before shelf
      → AreTold (Happening.Try number system ∷ before) (shelf_changed (Tries number system) shelf)
  tried before shelf number system first are = record {
    stands = λ one has. told-on what before one.1 (are.stands one has);
    storing = λ one is. told-on what before one.1 (are.storing one is);
    told = λ asked any. tried-on what before _ asked (by-first shelf.stands first are.stands asked any);
  }
    where
      what : Happening
      what = Happening.Try number system

      by-test : (first : ℕ × Spooled) (asked : ℕ) → IsTold before first.1
          → (nat_eq asked system || list_any (nat_eq asked) (tries_in before)) ≡ true → (b : Bool)
          → (system == asked) ≡ b
          → IsTried before (record { system = system; message = first.1 } ∷ shelf.told) asked
      by-test first asked tells any true is = record {
        message = first.1;
        is = ap (λ (b : Bool). if b then Some first.1 else told_with asked shelf.told) is;
        tells = tells;
      }
      by-test first asked tells any false is =
          let other : nat_eq asked system ≡ false = grind (arith, nat_tests) in
          let old =
          are.told asked (sym (ap (λ (b : Bool). b || list_any (nat_eq asked) (tries_in before)) other) ∙ any) in
          record {
            message = old.message;
            is = ap (λ (b : Bool). if b then Some first.1 else told_with asked shelf.told) is ∙ old.is;
            tells = old.tells;
          }

      by-first : (stands : List (ℕ × Spooled)) → IsFirst stands number
          → ((one : ℕ × Spooled) → Has stands one → IsTold before one.1)
          → (asked : ℕ) → (nat_eq asked system || list_any (nat_eq asked) (tries_in before)) ≡ true
          → IsTried before (told_first stands system shelf.told) asked
      by-first [] first tells asked any = absurd first
      by-first (one ∷ rest) first tells asked any =
          by-test one asked (tells one (inl refl)) any (system == asked) refl

  -- ---- a message that is sent

  -- an S6F11 is a primary of stream 6 and function 11
  s6f11-is : (message : Message) → is_of 6 11 message ≡ true → (message.stream ≡ 6) × (message.function ≡ 11)
  s6f11-is message is = grind (arith, nat_tests)

  carried :
      (before : List Happening) (told : List Told) (message : Message) → is_of 6 11 message ≡ true
      → (is_primary message ≡ true → (text : Spooled) → told_with message.system told ≡ Some text
      → Carries text message)
      → IsTried before told message.system → TellsOfEvent plan message.body before
  carried before told message is may one =
      let parts = s6f11-is message is in
      let primary : is_primary message ≡ true = ap (λ (n : ℕ). n % 2 == 1) parts.1 in
      let carries = may primary one.message one.is in
      let report : is_event_report one.message ≡ true =
      ap (λ (n : ℕ). (n == 6) && (one.message.function == 11)) (sym carries.stream ∙ parts.0)
      ∙ ap (λ (n : ℕ). n == 11) (sym carries.function ∙ parts.1)
      in
      subst (λ (body : List ℕ). TellsOfEvent plan body before) (sym carries.body) (one.tells report)

  sent :
      (before : List Happening) (shelf : Shelf) (message : Message) → HoldsItsValues plan message before
      → (is_primary message ≡ true → (text : Spooled) → told_with message.system shelf.told ≡ Some text
      → Carries text message)
      → AreTold before shelf → TellsOf plan (Happening.Sent message) before
  sent before shelf message holds may are is = go (list_any (nat_eq message.system) (tries_in before)) refl
    where
      go : (b : Bool) → list_any (nat_eq message.system) (tries_in before) ≡ b → TellsOfEvent plan message.body before
      go true any = carried before shelf.told message is may (are.told message.system any)
      go false none =
          let live : is_live message before ≡ true =
          ap (λ (b : Bool). is_of 6 11 message && not b) none ∙ ap (λ (b : Bool). b && true) is
          in
          of-start message.body before (holds.s6f11 live).of_event

  -- ---- all notes

  module _ (policy : Policy) where
    record Tell (notes : List Happening) : Type 0 where
      are : AreTold notes (shelf_of notes)
      tell : TellOfEvents plan notes

    abbrev Goes : List Happening → Happening → Type 0
    Goes before what =
        Reported plan (what ∷ before) → KeepsSpool policy (what ∷ before) → Tell before → Tell (what ∷ before)

    goes : (before : List Happening) (what : Happening) → Goes before what
    goes before =
        by-kind (Goes before)
        (λ found base reported kept all.
        record {
          are = started before (shelf_of before) found base kept.0 all.are;
          tell = (tt, all.tell);
        })
        (λ message reported kept all.
        record {
          are = are-on (Happening.Sent message) before (shelf_of before) refl all.are;
          tell = (
            sent before (shelf_of before) message (as-said plan (Happening.Sent message) before tt reported) kept.0
                all.are,
            all.tell,
          );
        })
        (λ ceid dataid reported kept all.
        record {
          are = are-on (Happening.Event ceid dataid) before (shelf_of before) refl all.are;
          tell = (tt, all.tell);
        })
        (λ number message reported kept all.
        let tells : IsTold before message =
        λ is. of-start message.body before (as-said plan (Happening.Storing number message) before tt reported is) in
        record {
          are = stored before (shelf_of before) number message tells all.are;
          tell = (tells, all.tell);
        })
        (λ number system reported kept all.
        record {
          are = tried before (shelf_of before) number system kept.0 all.are;
          tell = (tt, all.tell);
        })
        (λ what other reported kept all.
        record {
          are =
              quiet-on (what ∷ before) (shelf_of before) (change_of what) other.quiet
              (are-on what before (shelf_of before) (other.tries before) all.are);
          tell = (other.tells plan before, all.tell);
        })

    all : (notes : List Happening) → Reported plan notes → KeepsSpool policy notes → Tell notes
    all [] reported kept = record {
      are = record { stands = λ one has. absurd has; storing = λ one is. absurd (cc); told = λ system is. absurd (cc) };
      tell = tt;
    }
    all (what ∷ before) reported kept = goes before what reported kept (all before reported.1 kept.1)

    pub over-starts : (notes : List Happening) → Reported plan notes → KeepsSpool policy notes
        → TellOfEvents plan notes
    over-starts notes reported kept = (all notes reported kept).tell
