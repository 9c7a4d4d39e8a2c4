-- What calls of the ledger keep of the spool as it is noted.
use Rattle.std.proofs.Common.{◌≡◌, refl, sym, ap, subst, ◌∙◌, inl, inr, arith, ◌<◌, ◌≤◌, ◌+◌, ◌%◌, ◌==◌, ◌&&◌, Bool, true, false, ℕ, List, [], ◌∷◌, drop, length, Option, Some, None, if◌then◌else◌}
use Rattle.std.proofs.lemmas.Bool.Decides.{nat_tests}
use Rattle.std.proofs.lemmas.List.Elements.{All-cons, All-nil}
use Rattle.std.specs.Prelude.{nat_le, sum, unwrap_or}
use Rattle.gem_spool.specs.declared.spool.Room.{Room}
use Rattle.gem_spool.specs.declared.spool.Room.TheVariants as room
use Rattle.gem_spool.specs.declared.works.Work.TheVariants as work
use Rattle.message_end.proofs.Growing.{behind-both}
use Rattle.message_end.specs.Course.{noted_behind}
use Rattle.spool_law.specs.Shelf.{IsPurge, received_since, shelf_of}
use Rattle.spool_ledger.specs.Laws.{Call, MayCall, brings}
use Rattle.spool_ledger.specs.Ledger.{Booked, IsLedger, LedgerView, and_then, is_full, next_of, owed, quiet, room_for, size_of}
use Rattle.spool_ledger.specs.Sizes.{oldest_of}
use Rattle.spool_ledger.specs.Storing.{all_out, oldest_out, put, room_made, stored, stored_by, with_room}
use Rattle.spool_ledger.proofs.Following.{calls_come}
use Rattle.spool_ledger.proofs.Keeping.{made_if, oldest-some, oldest_out_keeps, some-sum}
use Rattle.spool_file.specs.Slot.{Message as Put}
use Rattle.trace_log.specs.InStep.{received_in_step}
use Rattle.trace_log.specs.Log.{Happening}
use Rattle.trace_log.specs.Log.Happening.{Gone, Leaving}
use Rattle.trace_log.specs.Names.{Spooled}
use Rattle.trace_log.specs.declared.names.Cause.TheVariants.{Overwritten, Purged}
use Rattle.equipment_tables.specs.declared.plan.EquipmentPlan.{EquipmentPlan}
use Rattle.equipment_tables.specs.Tables.{TablesState, overwrites}
use Rattle.tool_reports.specs.Reported.{tables_in}
use Rattle.tool_spool.specs.SpoolKept.{policy_of, sizes_of}
use Rattle.tool_spool.proofs.Shelved.{CountsSlots, IsShelved, MayOverwrite, all-shelved, stored-shelved}
use Rattle.tool_spool.proofs.UnloadOpen.{Moves, moves-both}

-- what is left where all leave
abbrev all_left : LedgerView → Booked
all_left v = record {
  next = record v { first = next_of v; sizes = []; works = owed v work.Purge };
  lines = Leaving v.first Purged None ∷ Gone v.first ∷ [];
}

-- it is a primary (SEMI E5, function; SEMI E4, stream)
abbrev pub IsPutWell : Spooled → Type 0
IsPutWell message = (message.function % 2 ≡ 1) × (message.stream < 128)

both-le : (a m b n : ℕ) → a ≤ m → b ≤ n → (nat_le a m && nat_le b n) ≡ true
both-le a m b n one two = grind (arith, nat_tests, one, two)

not-le : (one : Bool) (b n : ℕ) → n < b → (one && nat_le b n) ≡ false
not-le true b n over = grind (arith, nat_tests, over)
not-le false b n over = refl

counts-slots : (plan : EquipmentPlan) (slots : ℕ) → CountsSlots (policy_of plan slots) slots
counts-slots plan slots = record {
  room = λ stands message short free.
      both-le (length message.body) 1048576 (sum (sizes_of stands) + size_of message) slots short free;
  full = λ stands message over.
      not-le (nat_le (length message.body) 1048576) (sum (sizes_of stands) + size_of message) slots over;
}

module _ (plan : EquipmentPlan) (slots : ℕ) (list : List Put) (base : List Happening) where
  -- the ledger then, and these lines behind the notes
  pub record IsKeptBy
      (v : LedgerView) (notes : List Happening) (next : LedgerView) (lines : List Happening)
      : Type 0 where
    pub is : IsLedger next
    pub all : next.slots ≡ v.slots
    pub shelved : IsShelved (policy_of plan slots) next list base (noted_behind lines notes)
    pub told : (shelf_of (noted_behind lines notes)).told ≡ (shelf_of notes).told
    pub tables : tables_in plan (noted_behind lines notes) ≡ tables_in plan notes
    pub moves : Moves v.first next.first (shelf_of notes) (shelf_of (noted_behind lines notes))

  -- of what a message leaves as it is put the slots, the messages that were tried, the tables and the unload are as
  -- they were
  abbrev Stays : LedgerView → List Happening → Booked → Type 0
  Stays v notes b =
      (b.next.slots ≡ v.slots)
      × ((shelf_of (noted_behind b.lines notes)).told ≡ (shelf_of notes).told)
      × (tables_in plan (noted_behind b.lines notes) ≡ tables_in plan notes)
      × Moves v.first b.next.first (shelf_of notes) (shelf_of (noted_behind b.lines notes))
      × (b.next.unload ≡ v.unload)

  -- so it is behind removals
  made-stays :
      (size : ℕ) (for_one : Option Spooled) (sizes : List ℕ) (v : LedgerView) (notes : List Happening) → IsLedger v
      → sizes ≡ v.sizes → Stays v notes (room_made size for_one sizes v)
  made-stays size for_one [] v notes is same = (refl, refl, refl, inl (refl, refl), refl)
  made-stays size for_one (oldest ∷ sizes) v notes is same =
      let long = ap (λ (all : List ℕ). length all) same in
      let some : 0 < length v.sizes = omega (arith, long) in
      go (is_full v.slots v.sizes size) (oldest-some v.sizes is.each some)
      (made-stays size for_one sizes (oldest_out Overwritten for_one v).next
      (Gone v.first ∷ Leaving v.first Overwritten for_one ∷ notes)
      (oldest_out_keeps v (owed v (work.DropOldest (oldest_of v.sizes))) is some refl) (ap (drop 1) same))
    where
      less : LedgerView
      less = (oldest_out Overwritten for_one v).next

      told_less : List Happening
      told_less = Gone v.first ∷ Leaving v.first Overwritten for_one ∷ notes

      go : (full : Bool) → 1 ≤ oldest_of v.sizes → Stays less told_less (room_made size for_one sizes less)
          → Stays v notes (made_if size for_one full sizes v)
      go true one rest = (
        rest.0,
        rest.1,
        rest.2,
        moves-both v.first less.first (room_made size for_one sizes less).next.first (shelf_of notes)
            (shelf_of told_less) (shelf_of (noted_behind (room_made size for_one sizes less).lines told_less))
            (inr (omega (arith, one))) rest.3,
        rest.4,
      )
      go false one rest = (refl, refl, refl, inl (refl, refl), refl)

  -- and behind the put
  put-stays :
      (v : LedgerView) (notes : List Happening) (first : Booked) (message : Spooled) → Stays v notes first
      → Stays v notes (and_then first (put message))
  put-stays v notes first message so =
      let both = behind-both first.lines (put message first.next).lines notes in (
        so.0,
        ap (λ (ns : List Happening). (shelf_of ns).told) both ∙ so.1,
        ap (λ (ns : List Happening). tables_in plan ns) both ∙ so.2,
        subst (λ (ns : List Happening). Moves v.first first.next.first (shelf_of notes) (shelf_of ns)) (sym both) so.3,
        so.4,
      )

  stays :
      (v : LedgerView) (notes : List Happening) → IsLedger v → (r : Room) (overwriting : Bool) (message : Spooled)
      (booked : Booked) → stored_by r overwriting message v ≡ Some booked → Stays v notes booked
  stays v notes is r overwriting message booked same = go r overwriting same
    where
      inj : (x y : Booked) → Some x ≡ Some y → x ≡ y
      inj x y e = cc

      moved : (b : Booked) → Some b ≡ Some booked → Stays v notes b → Stays v notes booked
      moved b e so = subst (Stays v notes) (inj b booked e) so

      go : (r : Room) (overwriting : Bool) → stored_by r overwriting message v ≡ Some booked → Stays v notes booked
      go room.Fits overwriting e = moved _ e (refl, refl, refl, inl (refl, refl), refl)
      go room.Full true e =
          moved _ e (put-stays v notes (with_room message v) message
          (made-stays (size_of message) (Some message) v.sizes v notes is refl))
      go room.Full false e = moved _ e (refl, refl, refl, inl (refl, refl), refl)
      go room.TooLong overwriting e = moved _ e (refl, refl, refl, inl (refl, refl), refl)
      go room.NumbersSpent overwriting e = absurd (grind (arith, e))

  made-unload :
      (size : ℕ) (for_one : Option Spooled) (sizes : List ℕ) (v : LedgerView)
      → (room_made size for_one sizes v).next.unload ≡ v.unload
  made-unload size for_one [] v = refl
  made-unload size for_one (oldest ∷ sizes) v =
      go (is_full v.slots v.sizes size) (made-unload size for_one sizes (oldest_out Overwritten for_one v).next)
    where
      go : (full : Bool) → (room_made size for_one sizes (oldest_out Overwritten for_one v).next).next.unload ≡ v.unload
          → (made_if size for_one full sizes v).next.unload ≡ v.unload
      go true rest = rest
      go false rest = refl

  pub stored-unload : (v : LedgerView) (overwriting : Bool) (message : Spooled) (booked : Booked)
      → stored overwriting message v ≡ Some booked → booked.next.unload ≡ v.unload
  stored-unload v overwriting message booked same = go (room_for v (length message.body)) overwriting same
    where
      of : (b : Booked) → Some b ≡ Some booked → b.next.unload ≡ v.unload → booked.next.unload ≡ v.unload
      of b e is = ap (λ (o : Option Booked). (unwrap_or o (quiet v)).next.unload) (sym e) ∙ is

      go : (r : Room) (overwriting : Bool) → stored_by r overwriting message v ≡ Some booked
          → booked.next.unload ≡ v.unload
      go room.Fits overwriting e = of _ e refl
      go room.Full true e = of _ e (made-unload (size_of message) (Some message) v.sizes v)
      go room.Full false e = of _ e refl
      go room.TooLong overwriting e = of _ e refl
      go room.NumbersSpent overwriting e = absurd (grind (arith, e))

  pub one-call : (one : Call) (v : LedgerView) → IsLedger v → MayCall one → IsLedger (brings one v).next
  one-call one v is may = (calls_come v (one ∷ []) is (All-cons MayCall one [] may (All-nil MayCall))).is

  pub nothing-kept : (v : LedgerView) (notes : List Happening) → IsLedger v
      → IsShelved (policy_of plan slots) v list base notes
      → IsKeptBy v notes v []
  nothing-kept v notes is shelved =
      record { is = is; all = refl; shelved = shelved; told = refl; tables = refl; moves = inl (refl, refl) }

  module _ (v : LedgerView) (notes : List Happening) (tables : TablesState) (is : IsLedger v) (all : v.slots ≡ slots)
      (shelved : IsShelved (policy_of plan slots) v list base notes) (at : tables_in plan notes ≡ tables)
    where
      counts : CountsSlots (policy_of plan slots) v.slots
      counts = subst (CountsSlots (policy_of plan slots)) (sym all) (counts-slots plan slots)

      abbrev HasTables : List Happening → Type 0
      HasTables ns = tables_in plan ns ≡ tables

      may-overwrite : (message : Spooled) → overwrites tables ≡ true
          → MayOverwrite (policy_of plan slots) message HasTables
      may-overwrite message may = record {
        says = λ ns here. ap (λ (t : TablesState). overwrites t) here ∙ may;
        goes_on = λ number ns here. here;
      }

      pub stored-kept :
          (message : Spooled) (booked : Booked) → IsPutWell message → stored (overwrites tables) message v ≡ Some booked
          → IsKeptBy v notes booked.next booked.lines
      stored-kept message booked may same =
          let so = stays v notes is (room_for v (length message.body)) (overwrites tables) message booked same in
          record {
            is =
                subst (λ (b : Booked). IsLedger b.next)
                (ap (λ (o : Option Booked). unwrap_or o (quiet v)) same)
                (one-call (Call.Store message (overwrites tables)) v is may);
            all = so.0;
            shelved =
                stored-shelved (policy_of plan slots) v list base notes message is counts shelved HasTables at
                (overwrites tables) booked (may-overwrite message) same;
            told = so.1;
            tables = so.2;
            moves = so.3;
          }

      pub all-kept :
          (0 < length v.sizes → IsPurge (policy_of plan slots) (received_since notes))
          → (0 < length v.sizes → IsPurge (policy_of plan slots) (received_in_step notes))
          → IsKeptBy v notes (all_out v).next (all_out v).lines
      all-kept may in_step = record {
        is = one-call Call.Purge v is tt;
        all = still.0;
        shelved =
            all-shelved (policy_of plan slots) v list base notes is shelved (λ some. (may some, refl)) in_step;
        told = still.1;
        tables = still.2;
        moves = still.3;
      }
        where
          Still : Booked → Type 0
          Still b = Stays v notes b

          longer : (length v.sizes == 0) ≡ false → v.first < next_of v
          longer some =
              let many = some-sum v.sizes is.each in
              let more = some-left (length v.sizes) some in
              omega (arith, many, more)
            where
              some-left : (len : ℕ) → (len == 0) ≡ false → 0 < len
              some-left len none = grind (arith, nat_tests, none)

          still : Still (all_out v)
          still = go (length v.sizes == 0) refl
            where
              go : (none : Bool) → (length v.sizes == 0) ≡ none → Still (if none then quiet v else all_left v)
              go true e = (refl, refl, refl, inl (refl, refl), refl)
              go false e = (refl, refl, refl, inr (longer e), refl)

pub all-out-unload : (v : LedgerView) → (all_out v).next.unload ≡ v.unload
all-out-unload v = go (length v.sizes == 0)
  where
    go : (none : Bool) → (if none then quiet v else all_left v).next.unload ≡ v.unload
    go true = refl
    go false = refl
