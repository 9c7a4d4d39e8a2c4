-- That the ledger of the spool stays good, and notes what no law of messages speaks of.
use Rattle.std.proofs.Common.{◌≡◌, refl, Bool, true, false, not, ℕ, ◌&&◌, ◌==◌, ◌≤◌, List, [], ◌∷◌, ◌++◌, All, Option, Some, None, if◌then◌else◌, length}
use Rattle.std.specs.Option.{option_map, option_map_or}
use Rattle.std.specs.Prelude.{IfSome, is_none}
use Rattle.std.proofs.lemmas.List.Elements.{All-nil, All-cons, All-head, All-tail}
use Rattle.gem_spool.specs.declared.spool.Room.{Room}
use Rattle.gem_spool.specs.declared.spool.Room.TheVariants as room
use Rattle.gem_spool.specs.declared.works.Work.{Work}
use Rattle.gem_spool.specs.declared.works.Work.TheVariants as work
use Rattle.gem_spool.specs.Standing.{Standing}
use Rattle.gem_spool.specs.Works.{list_after, standing_after, standings_after}
use Rattle.spool_file.specs.File.{SpoolFile}
use Rattle.spool_file.specs.Slot.{Message}
use Rattle.trace_log.specs.declared.names.Cause.{Cause}
use Rattle.trace_log.specs.declared.names.Cause.TheVariants.{Confirmed, Overwritten, Purged}
use Rattle.trace_log.specs.Log.{Happening}
use Rattle.trace_log.specs.Names.{Spooled}
use Rattle.message_end.specs.Core.{IsText}
use Rattle.spool_ledger.specs.Ledger.{Numbered}
use Rattle.spool_ledger.specs.declared.unload.Tried.{Tried}
use Rattle.spool_ledger.specs.declared.unload.Unload.{Unload}
use Rattle.spool_ledger.specs.Activity.{activated, changed, is_done, rested}
use Rattle.spool_ledger.specs.Ledger.{Booked, LedgerView, and_then, carried_out, is_full, new_ledger, next_of, owed, quiet, room_for, size_of}
use Rattle.spool_ledger.specs.Sizes.{oldest_of}
use Rattle.spool_ledger.specs.Storing.{all_out, oldest_out, put, room_made, stored, stored_by, with_room}
use Rattle.spool_ledger.proofs.Keeping.{made_if}
use Rattle.spool_ledger.proofs.Limits.{fits_within, full_within, within_short}
use Rattle.spool_ledger.specs.Unloading.{after_next, confirmed, counted, is_oldest_tried, is_over, let_go, settled, taken_up, trying, unload_next, waiting_in, with_each, with_unload}
use Rattle.tool_step.specs.Equipment.{settled_file}
use Rattle.spool_works.specs.Found.{spooled_of}
use Rattle.tool_law.specs.Sound.{AllCanBeSent, CanBeSent, IsGoodLedger, PutsGood}
use Rattle.tool_step.specs.Spooling.{Stores, stores_all, stores_behind, stores_none}
use Rattle.tool_law.proofs.CommandWalks.{AllAre, are-both}
use Rattle.tool_law.proofs.TriedDoings.{IsFine}

-- ---- lines

abbrev pub AllPlain : List Happening → Type 0
AllPlain lines = AllAre IsFine lines

pub All-snoc : {A : Type 0} (P : A → Type 0) (xs : List A) (last : A) → All P xs → P last → All P (xs ++ last ∷ [])
All-snoc P [] last all is = All-cons P last [] is all
All-snoc P (first ∷ xs) last all is =
    All-cons P first (xs ++ last ∷ []) (All-head P first xs all) (All-snoc P xs last (All-tail P first xs all) is)

-- ---- what a call brings

pub record IsGoodBooked (slots : ℕ) (stood : Numbered) (booked : Booked) : Type 0 where
  pub next : IsGoodLedger slots stood booked.next
  pub plain : AllPlain booked.lines

pub record IsGoodStores (slots : ℕ) (stood : Numbered) (stores : Stores) : Type 0 where
  pub next : IsGoodLedger slots stood stores.next
  pub plain : AllPlain stores.lines

-- ---- what waits for a grant

abbrev WaitsGood : Option Unload → Type 0
WaitsGood unload = IfSome (waiting_in unload) IsText

settled-waits : (unload : Option Unload) → WaitsGood (option_map settled unload)
settled-waits None = tt
settled-waits (Some unload) = tt

counted-waits : (unload : Option Unload) → WaitsGood (option_map counted unload)
counted-waits None = tt
counted-waits (Some unload) = tt

let-go-waits : (unload : Option Unload) → WaitsGood (option_map let_go unload)
let-go-waits None = tt
let-go-waits (Some unload) = go unload.tried
  where
    go : (tried : Option Tried) → WaitsGood (Some (record {
      tried = option_map (λ (t : Tried). record { number = t.number; waiting = None }) tried;
      confirmed = unload.confirmed;
    }))
    go None = tt
    go (Some t) = tt

trying-waits : (number : ℕ) (waiting : Option (List ℕ)) (unload : Option Unload) → IfSome waiting IsText
    → WaitsGood (option_map (trying number waiting) unload)
trying-waits number waiting None is = tt
trying-waits number waiting (Some unload) is = is

next-waits : (most : ℕ) (v : LedgerView) (unload : Option Unload) → WaitsGood unload
    → WaitsGood (unload_next most v unload)
next-waits most v None is = tt
next-waits most v (Some unload) is = go (is_none unload.tried && is_over most v unload)
  where
    go : (over : Bool) → WaitsGood (if over then None else Some unload)
    go true = tt
    go false = is

-- ---- what is put

-- where a body is put it has at most a mebibyte
abbrev IsShortFor : Room → ℕ → Type 0
IsShortFor room.Fits long = long ≤ 1048576
IsShortFor room.Full long = long ≤ 1048576
IsShortFor room.TooLong long = Unit {0}
IsShortFor room.NumbersSpent long = Unit {0}

room-short : (v : LedgerView) (long : ℕ) → IsShortFor (room_for v long) long
room-short v long = go (room_for v long) refl
  where
    go : (room : Room) → room_for v long ≡ room → IsShortFor room long
    go room.Fits fits = (within_short v long (fits_within v long fits).0).0
    go room.Full full = (within_short v long (full_within v long full).0).0
    go room.TooLong long = tt
    go room.NumbersSpent spent = tt

module _ {slots : ℕ} {stood : Numbered} where
  booked-then :
      (booked : Booked) (call : LedgerView → Booked) → IsGoodBooked slots stood booked
      → ((v : LedgerView) → IsGoodLedger slots stood v → IsGoodBooked slots stood (call v)) → IsGoodBooked slots stood
      (and_then booked call)
  booked-then booked call is more =
      let later = more booked.next is.next in
      record {
        next = later.next;
        plain = are-both IsFine booked.lines (call booked.next).lines is.plain later.plain;
      }

  quiet-good : (v : LedgerView) → IsGoodLedger slots stood v → IsGoodBooked slots stood (quiet v)
  quiet-good v is = record { next = is; plain = tt }

  owes-more : (v : LedgerView) (one : Work) → IsGoodLedger slots stood v → PutsGood one → All PutsGood (owed v one)
  owes-more v one is good = All-snoc PutsGood v.works one is.works good

  put-good : (message : Spooled) (v : LedgerView) → CanBeSent message → length message.body ≤ 1048576
      → IsGoodLedger slots stood v → IsGoodBooked slots stood (put message v)
  put-good message v can short is = record {
    next = record {
      waiting = is.waiting;
      works = owes-more v (work.Put message.stream message.function message.body) is (can, short);
      slots_are = is.slots_are;
      stood_is = is.stood_is;
    };
    plain = (tt, (tt, tt));
  }

  oldest-good : (cause : Cause) (for_one : Option Spooled) (v : LedgerView) → IsGoodLedger slots stood v
      → IsGoodBooked slots stood (oldest_out cause for_one v)
  oldest-good cause for_one v is = record {
    next = record {
      waiting = is.waiting;
      works = owes-more v (work.DropOldest (oldest_of v.sizes)) is tt;
      slots_are = is.slots_are;
      stood_is = is.stood_is;
    };
    plain = (tt, (tt, tt));
  }

  made-good :
      (size : ℕ) (for_one : Option Spooled) (sizes : List ℕ) (v : LedgerView) → IsGoodLedger slots stood v
      → IsGoodBooked slots stood (room_made size for_one sizes v)
  made-good size for_one [] v is = quiet-good v is
  made-good size for_one (oldest ∷ sizes) v is =
      go (is_full v.slots v.sizes size)
      (booked-then (oldest_out Overwritten for_one v) (room_made size for_one sizes) (oldest-good Overwritten for_one v is)
      (λ w so. made-good size for_one sizes w so))
    where
      go : (full : Bool)
          → IsGoodBooked slots stood (and_then (oldest_out Overwritten for_one v) (room_made size for_one sizes))
          → IsGoodBooked slots stood (made_if size for_one full sizes v)
      go true less = less
      go false less = quiet-good v is

  pub all-out-good : (v : LedgerView) → IsGoodLedger slots stood v → IsGoodBooked slots stood (all_out v)
  all-out-good v is = go (length v.sizes == 0)
    where
      left : Booked
      left = record {
        next = record v { first = next_of v; sizes = []; works = owed v work.Purge };
        lines = Happening.Leaving v.first Purged None ∷ Happening.Gone v.first ∷ [];
      }

      go : (none : Bool) → IsGoodBooked slots stood (if none then quiet v else left)
      go true = quiet-good v is
      go false = record {
        next = record {
          waiting = is.waiting;
          works = owes-more v work.Purge is tt;
          slots_are = is.slots_are;
          stood_is = is.stood_is;
        };
        plain = (tt, (tt, tt));
      }

  stored-by-good :
      (found : Room) (overwrites : Bool) (message : Spooled) (v : LedgerView) → CanBeSent message
      → IsShortFor found (length message.body) → IsGoodLedger slots stood v
      → IfSome (stored_by found overwrites message v) (IsGoodBooked slots stood)
  stored-by-good room.Fits overwrites message v can short is = put-good message v can short is
  stored-by-good room.Full true message v can short is =
      booked-then (with_room message v) (put message) (made-good (size_of message) (Some message) v.sizes v is)
      (λ w so. put-good message w can short so)
  stored-by-good room.Full false message v can short is = record { next = is; plain = (tt, tt) }
  stored-by-good room.TooLong overwrites message v can short is = record { next = is; plain = (tt, tt) }
  stored-by-good room.NumbersSpent overwrites message v can short is = tt

  pub stored-good :
      (overwrites : Bool) (message : Spooled) (v : LedgerView) → CanBeSent message → IsGoodLedger slots stood v
      → IfSome (stored overwrites message v) (IsGoodBooked slots stood)
  stored-good overwrites message v can is =
      stored-by-good (room_for v (length message.body)) overwrites message v can
      (room-short v (length message.body)) is

  -- ---- messages one after the other

  pub stores-good :
      (overwrites : Bool) (messages : List Spooled) (v : LedgerView) → All CanBeSent messages → IsGoodLedger slots
      stood v
      → IsGoodStores slots stood (stores_all overwrites messages v)
  stores-good overwrites [] v can is = record { next = is; plain = tt }
  stores-good overwrites (message ∷ messages) v can is =
      go (stored overwrites message v)
      (stored-good overwrites message v (All-head CanBeSent message messages can) is)
      (λ w so. stores-good overwrites messages w (All-tail CanBeSent message messages can) so)
    where
      go : (found : Option Booked) → IfSome found (IsGoodBooked slots stood)
          → ((w : LedgerView) → IsGoodLedger slots stood w → IsGoodStores slots stood
          (stores_all overwrites messages w))
          → IsGoodStores slots stood
          (option_map_or (λ (b : Booked). stores_behind b.lines (stores_all overwrites messages b.next)) found
          (stores_none true v))
      go None so more = record { next = is; plain = tt }
      go (Some booked) so more =
          let later = more booked.next so.next in
          record {
            next = later.next;
            plain =
                are-both IsFine booked.lines (stores_all overwrites messages booked.next).lines so.plain later.plain;
          }

  -- ---- the unload

  -- another unload, with a text that can be sent if one waits
  pub unload-good : (unload : Option Unload) (v : LedgerView) → IfSome (waiting_in unload) IsText → IsGoodLedger slots
      stood v
      → IsGoodLedger slots stood (with_unload unload v)
  unload-good unload v waits is = record {
    waiting = waits;
    works = is.works;
    slots_are = is.slots_are;
    stood_is = is.stood_is;
  }

  pub next-good : (most : ℕ) (v : LedgerView) → IsGoodLedger slots stood v → IsGoodLedger slots stood
      (after_next most v)
  next-good most v is = unload-good (unload_next most v v.unload) v (next-waits most v v.unload is.waiting) is

  pub let-go-good : (v : LedgerView) → IsGoodLedger slots stood v → IsGoodLedger slots stood (with_each let_go v)
  let-go-good v is = unload-good (option_map let_go v.unload) v (let-go-waits v.unload) is

  pub taken-good : (number system : ℕ) (waiting : Option (List ℕ)) (v : LedgerView) → IfSome waiting IsText
      → IsGoodLedger slots stood v → IsGoodLedger slots stood (taken_up number system waiting v).next
  taken-good number system waiting v waits is =
      unload-good (option_map (trying number waiting) v.unload) v (trying-waits number waiting v.unload waits) is

  pub confirmed-good : (v : LedgerView) → IsGoodLedger slots stood v → IsGoodBooked slots stood (confirmed v)
  confirmed-good v is = go (is_oldest_tried v)
    where
      go : (oldest : Bool)
          → IsGoodBooked slots stood
          (if oldest then and_then (oldest_out Confirmed None v) (λ w. quiet (with_each counted w))
          else quiet (with_each settled v))
      go true =
          booked-then (oldest_out Confirmed None v) (λ w. quiet (with_each counted w)) (oldest-good Confirmed None v is)
          (λ w so. quiet-good (with_each counted w)
          (unload-good (option_map counted w.unload) w (counted-waits w.unload) so))
      go false =
          quiet-good (with_each settled v) (unload-good (option_map settled v.unload) v (settled-waits v.unload) is)

  -- ---- when it is active

  changed-good : (active : Bool) (v : LedgerView) → IsGoodLedger slots stood v → IsGoodBooked slots stood
      (changed active v)
  changed-good active v is = record {
    next = record {
      waiting = is.waiting;
      works = is.works;
      slots_are = is.slots_are;
      stood_is = is.stood_is;
    };
    plain = (tt, tt);
  }

  pub activated-good : (enabled : Bool) (v : LedgerView) → IsGoodLedger slots stood v → IsGoodBooked slots stood
      (activated enabled v)
  activated-good enabled v is = go (enabled && not v.is_active)
    where
      go : (begins : Bool) → IsGoodBooked slots stood (if begins then changed true v else quiet v)
      go true = changed-good true v is
      go false = quiet-good v is

  pub rested-good : (communicating : Bool) (v : LedgerView) → IsGoodLedger slots stood v → IsGoodBooked slots stood
      (rested communicating v)
  rested-good communicating v is = go (communicating && v.is_active && is_done v)
    where
      go : (ends : Bool) → IsGoodBooked slots stood (if ends then changed false v else quiet v)
      go true = changed-good false v is
      go false = quiet-good v is

-- ---- starts, and what the disk has done

pub new-good :
    (slots first : ℕ) (sizes : List ℕ)
    → IsGoodLedger slots (new_ledger slots first sizes).stood (new_ledger slots first sizes)
new-good slots first sizes =
    record { waiting = tt; works = All-nil PutsGood; slots_are = refl; stood_is = refl }

-- the disk has then what was decided
pub carried-good :
    {slots : ℕ} {stood : Numbered} (v : LedgerView) → IsGoodLedger slots stood v
    → IsGoodLedger slots (carried_out v).stood (carried_out v)
carried-good v is =
    record { waiting = is.waiting; works = All-nil PutsGood; slots_are = is.slots_are; stood_is = refl }

abbrev Sendable : Message → Type 0
Sendable message = CanBeSent (spooled_of message)

pub all-tail : (list : List Message) → AllCanBeSent list → AllCanBeSent (list_after 0 list (work.DropOldest 1))
all-tail [] all = all
all-tail (first ∷ list) all = All-tail Sendable first list all

pub list-good : (next : ℕ) (list : List Message) (one : Work) → AllCanBeSent list → PutsGood one
    → AllCanBeSent (list_after next list one)
list-good next list (work.Put stream function body) all is = All-snoc Sendable list _ all is.0
list-good next list (work.DropOldest slots) all is = all-tail list all
list-good next list work.Purge all is = All-nil Sendable

lists-good : (st : Standing) (works : List Work) → AllCanBeSent st.file.list → All PutsGood works
    → AllCanBeSent (standings_after st works).file.list
lists-good st [] all is = all
lists-good st (one ∷ works) all is =
    lists-good (standing_after st one) works
    (list-good st.next st.file.list one all (All-head PutsGood one works is)) (All-tail PutsGood one works is)

pub settled-good :
    {slots : ℕ} {stood : Numbered} (v : LedgerView) (file : SpoolFile) → IsGoodLedger slots stood v
    → AllCanBeSent file.list → AllCanBeSent (settled_file v file).list
settled-good v file is all = lists-good _ v.works all is.works
