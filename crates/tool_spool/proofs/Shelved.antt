-- That the spool that the notes tell of is the list that the ledger and the file come to, over every change of the
-- ledger.
use Rattle.std.proofs.Common.{◌≡◌, ◌≢◌, refl, sym, ap, subst, ◌∙◌, inl, inr, arith, ◌<◌, ◌≤◌, ◌+◌, ◌==◌, Bool, true, false, ℕ, List, [], ◌∷◌, ◌++◌, ◌⊎◌, drop, length, Option, Some, None, not, if◌then◌else◌}
use Rattle.std.proofs.lemmas.Bool.Decides.{nat_tests}
use Rattle.std.specs.Prelude.{map, sum}
use Rattle.gem_spool.specs.Works.{count_after, counts_after, list_after, lists_after}
use Rattle.gem_spool.specs.declared.count.Count.{Count}
use Rattle.gem_spool.specs.declared.spool.Room.{Room}
use Rattle.gem_spool.specs.declared.spool.Room.TheVariants as room
use Rattle.gem_spool.specs.declared.works.Work.{Work}
use Rattle.gem_spool.specs.declared.works.Work.TheVariants as work
use Rattle.message_end.proofs.Growing.{behind-both}
use Rattle.message_end.specs.Course.{noted_behind}
use Rattle.message_end.specs.Own.{Has}
use Rattle.spool_law.specs.Shelf.{Change, IsAtRest, IsFirst, MayChange, MayLeaveFor, Policy, change_of, leaves_by, shelf_changed, shelf_of}
use Rattle.spool_ledger.specs.Ledger.{Booked, IsLedger, LedgerView, carried_out, is_full, next_of, owed, quiet, room_for, size_of, stood_count}
use Rattle.spool_ledger.specs.Sizes.{oldest_of}
use Rattle.spool_ledger.specs.Storing.{all_out, oldest_out, put, room_made, stored, stored_by, with_room}
use Rattle.spool_ledger.proofs.Following.{made_comes}
use Rattle.spool_ledger.proofs.Keeping.{full_fits, made_if, made_stays, makes_room, oldest_out_keeps, sum-last, sum-parted}
use Rattle.spool_ledger.proofs.Limits.{fits_within, full_within, is-below, within_short}
use Rattle.spool_file.specs.Run.{IsChainFrom}
use Rattle.spool_file.specs.Slot.{Message, width}
use Rattle.spool_file.proofs.Runs.{chain_last}
use Rattle.spool_ledger.proofs.Widths.{widths-last, widths-long, widths-rest}
use Rattle.trace_log.specs.Log.{Happening}
use Rattle.trace_log.specs.Log.Happening.{Discarded, Gone, Leaving, TooLong}
use Rattle.trace_log.specs.Names.{Spooled, spooled_name}
use Rattle.trace_log.specs.declared.names.Cause.{Cause}
use Rattle.trace_log.specs.declared.names.Cause.TheVariants as cause
use Rattle.spool_works.specs.Found.{found_in}
use Rattle.tool_step.specs.Equipment.{settled_list}
use Rattle.spool_works.specs.WorkLosses.{MayLeaveAt}
use Rattle.spool_works.specs.DiskWorks.{DiskWork}
use Rattle.spool_works.proofs.FoundLosses.{found-behind}
use Rattle.tool_spool.specs.InPairs.{IsOfOne}
use Rattle.tool_spool.specs.LeavesInStep.{MayChangeInStep, MayLeaveInStep}
use Rattle.tool_spool.specs.MadeRoom.{IsRoomUsed, IsUsedBy, made_for}
use Rattle.tool_spool.specs.SpoolKept.{sizes_of}
use Rattle.tool_spool.proofs.Chained.{chain-below, chain-first, chain-rest, sizes-found}
use Rattle.tool_spool.proofs.FromStarts.{KeepsOn}
use Rattle.tool_spool.proofs.PairedLines.{AreTold, told-more, told-none, told-work}
use Rattle.tool_law.proofs.WorkLines.{AreLines, LeavesStanding, lines-more, lines-none, lines-work}
use Rattle.tool_spool.proofs.StillLines.{before-none, still-none, tells_of_file}

-- ---- lists

found-rest : (list : List Message) → drop 1 (found_in list) ≡ found_in (drop 1 list)
found-rest [] = refl
found-rest (x ∷ list) = refl

drop-all : {X : Type 0} (xs : List X) → drop (length xs) xs ≡ []
drop-all [] = refl
drop-all (x ∷ xs) = drop-all xs

-- a work more does to the list what the others have made of it
lists-more :
    (c : Count) (list : List Message) (works : List Work) (one : Work)
    → lists_after c.next list (works ++ one ∷ [])
    ≡ list_after (counts_after c works).next (lists_after c.next list works) one
lists-more c list [] one = refl
lists-more c list (first ∷ works) one = lists-more (count_after c first) (list_after c.next list first) works one

settled-more :
    (v : LedgerView) (list : List Message) (one : Work) → IsLedger v
    → lists_after (stood_count v).next list (owed v one) ≡ list_after (next_of v) (settled_list v list) one
settled-more v list one is =
    lists-more (stood_count v) list v.works one
    ∙ ap (λ (c : Count). list_after c.next (settled_list v list) one) is.come_to

-- ---- what holds between two changes

-- the notes keep the law so far, and nothing is amid a change; what they tell is the list that the works come to, and
-- its numbers are those of the ledger. Behind what was noted before, these works go with their lines
pub record IsShelvedSo (Closed : List Happening → Type 0)
    (policy : Policy) (v : LedgerView) (list : List Message) (base notes : List Happening) : Type 0 where
  pub kept : KeepsOn policy notes
  pub rest : IsAtRest (shelf_of notes)
  pub stands : (shelf_of notes).stands ≡ found_in (settled_list v list)
  pub chain : IsChainFrom v.first (next_of v) (settled_list v list)
  pub sizes : map width (settled_list v list) ≡ v.sizes
  pub lines : AreLines v list base notes
  pub told : AreTold v list base notes
  pub closed : Closed notes

-- no place is left that was made for a put
abbrev pub IsShelved : Policy → LedgerView → List Message → (base notes : List Happening) → Type 0
IsShelved policy v list base notes = IsShelvedSo IsRoomUsed policy v list base notes

-- one may be, for this message
abbrev pub IsMadeFor : Option Spooled → List Happening → Type 0
IsMadeFor for_one notes = IsRoomUsed notes ⊎ (made_for notes ≡ for_one)

abbrev pub IsShelvedFor : Option Spooled → Policy → LedgerView → List Message → (base notes : List Happening) → Type 0
IsShelvedFor for_one policy v list base notes = IsShelvedSo (IsMadeFor for_one) policy v list base notes

pub shelved-for :
    (for_one : Option Spooled) (policy : Policy) (v : LedgerView) (list : List Message) (base notes : List Happening)
    → IsShelved policy v list base notes → IsShelvedFor for_one policy v list base notes
shelved-for for_one policy v list base notes is = record {
  kept = is.kept;
  rest = is.rest;
  stands = is.stands;
  chain = is.chain;
  sizes = is.sizes;
  lines = is.lines;
  told = is.told;
  closed = inl is.closed;
}

pub shelved-closed :
    (for_one : Option Spooled) (policy : Policy) (v : LedgerView) (list : List Message) (base notes : List Happening)
    → IsRoomUsed notes → IsShelvedFor for_one policy v list base notes → IsShelved policy v list base notes
shelved-closed for_one policy v list base notes closed is = record {
  kept = is.kept;
  rest = is.rest;
  stands = is.stands;
  chain = is.chain;
  sizes = is.sizes;
  lines = is.lines;
  told = is.told;
  closed = closed;
}

used-behind : (change : Change) (notes : List Happening) → LeavesStanding change → IsUsedBy change notes
used-behind (Change.Tries number system) notes leaves = tt
used-behind (Change.Sends message) notes leaves = tt
used-behind (Change.Receives message) notes leaves = tt
used-behind Change.Other notes leaves = tt
used-behind (Change.Finds found) notes leaves = absurd leaves
used-behind (Change.Stores number message) notes leaves = absurd leaves
used-behind (Change.HasStored number) notes leaves = absurd leaves
used-behind (Change.Leaves number why room_for) notes leaves = absurd leaves
used-behind (Change.HasGone number) notes leaves = absurd leaves

quiet-in-step : (policy : Policy) (change : Change) (notes : List Happening) → LeavesStanding change
    → MayChangeInStep policy notes change
quiet-in-step policy (Change.Tries number system) notes leaves = tt
quiet-in-step policy (Change.Sends message) notes leaves = tt
quiet-in-step policy (Change.Receives message) notes leaves = tt
quiet-in-step policy Change.Other notes leaves = tt
quiet-in-step policy (Change.Finds found) notes leaves = absurd leaves
quiet-in-step policy (Change.Stores number message) notes leaves = absurd leaves
quiet-in-step policy (Change.HasStored number) notes leaves = absurd leaves
quiet-in-step policy (Change.Leaves number why room_for) notes leaves = absurd leaves
quiet-in-step policy (Change.HasGone number) notes leaves = absurd leaves

some-inj : {X : Type 0} (x y : X) → Some x ≡ Some y → x ≡ y
some-inj x y same = cc

-- there is room for a message that is short enough where it and all that stand take no more slots than there are
pub record CountsSlots (policy : Policy) (slots : ℕ) : Type 0 where
  pub room : (stands : List (ℕ × Spooled)) (message : Spooled) → length message.body ≤ 1048576
      → sum (sizes_of stands) + size_of message ≤ slots → policy.has_room stands message ≡ true
  pub full : (stands : List (ℕ × Spooled)) (message : Spooled) → slots < sum (sizes_of stands) + size_of message
      → policy.has_room stands message ≡ false

-- the policy lets the oldest be overwritten, also behind each removal for the message
pub record MayOverwrite (policy : Policy) (message : Spooled) (Open : List Happening → Type 0) : Type 0 where
  pub says : (notes : List Happening) → Open notes → policy.overwrites notes ≡ true
  pub goes_on : (number : ℕ) (notes : List Happening) → Open notes
      → Open (Gone number ∷ Leaving number cause.Overwritten (Some message) ∷ notes)

module _ (policy : Policy) where
  -- ---- a note of something else

  pub noted-shelved :
      (v : LedgerView) (list : List Message) (base notes : List Happening) (what : Happening)
      → LeavesStanding (change_of what) → tells_of_file what ≡ false → MayChange policy notes (change_of what)
      → IsShelved policy v list base notes → IsShelved policy v list base (what ∷ notes)
  noted-shelved v list base notes what leaves aside may is =
      let all = same (change_of what) leaves in
      record {
        kept = inr (may, inl is.closed, quiet-in-step policy (change_of what) notes leaves, is.kept);
        rest = all.0;
        stands = all.1 ∙ is.stands;
        chain = is.chain;
        sizes = is.sizes;
        lines = lines-more v list base notes what (before-none what aside) is.lines;
        told = told-more v list base notes what leaves (still-none what aside) is.told;
        closed = used-behind (change_of what) notes leaves;
      }
    where
      same : (change : Change) → LeavesStanding change
          → IsAtRest (shelf_changed change (shelf_of notes))
          × ((shelf_changed change (shelf_of notes)).stands ≡ (shelf_of notes).stands)
      same (Change.Tries number system) leaves =
          (record { none_stored = is.rest.none_stored; none_leaves = is.rest.none_leaves }, refl)
      same (Change.Sends message) leaves = (is.rest, refl)
      same (Change.Receives message) leaves = (is.rest, refl)
      same Change.Other leaves = (is.rest, refl)
      same (Change.Finds found) leaves = absurd leaves
      same (Change.Stores number message) leaves = absurd leaves
      same (Change.HasStored number) leaves = absurd leaves
      same (Change.Leaves number why room_for) leaves = absurd leaves
      same (Change.HasGone number) leaves = absurd leaves

  -- ---- the works are done

  pub settled-shelved :
      (v : LedgerView) (list : List Message) (base notes : List Happening) → IsShelved policy v list base notes
      → IsShelved policy (carried_out v) (settled_list v list) notes notes
  settled-shelved v list base notes is =
      record {
        kept = is.kept;
        rest = is.rest;
        stands = is.stands;
        chain = is.chain;
        sizes = is.sizes;
        lines = lines-none (carried_out v) (settled_list v list) notes refl;
        told = told-none (carried_out v) (settled_list v list) notes refl;
        closed = is.closed;
      }

  -- ---- a message is put

  -- all that stand take as many slots as the ledger has it
  taken-is :
      (Closed : List Happening → Type 0) (v : LedgerView) (list : List Message) (base notes : List Happening)
      → IsLedger v → IsShelvedSo Closed policy v list base notes
      → sum (sizes_of (shelf_of notes).stands) ≡ sum v.sizes
  taken-is Closed v list base notes is so =
      ap (λ (stands : List (ℕ × Spooled)). sum (sizes_of stands)) so.stands
      ∙ ap (λ (ns : List ℕ). sum ns) (sizes-found (settled_list v list) ∙ so.sizes)

  module _ (v : LedgerView) (list : List Message) (base notes : List Happening) (message : Spooled)
      (is : IsLedger v) (counts : CountsSlots policy v.slots) (fits : room_for v (length message.body) ≡ room.Fits)
      (shelved : IsShelvedFor (Some message) policy v list base notes)
    where
      abbrev numbered : Message
      numbered = record {
        number = next_of v;
        stream = message.stream;
        function = message.function;
        body = message.body;
      }

      put-list : settled_list (put message v).next list ≡ settled_list v list ++ numbered ∷ []
      put-list = settled-more v list (work.Put message.stream message.function message.body) is

      pub put-shelved : IsShelved policy (put message v).next list base (noted_behind (put message v).lines notes)
      put-shelved = record {
        kept = inr (
          record { message = message; is = refl },
          inl tt,
          tt,
          inr (
            record {
              rest = shelved.rest;
              above = λ one has.
                  chain-below v.first (next_of v) (settled_list v list) shelved.chain one
                  (subst (λ (all : List (ℕ × Spooled)). Has all one) shelved.stands has);
              room =
                  let taken = taken-is (IsMadeFor (Some message)) v list base notes is shelved in
                  let within = fits_within v (length message.body) fits in
                  let free = within.1 in
                  counts.room (shelf_of notes).stands message (within_short v (length message.body) within.0).0
                  (omega (arith, taken, free));
            },
            shelved.closed,
            tt,
            shelved.kept,
          ),
        );
        rest = record { none_stored = refl; none_leaves = shelved.rest.none_leaves };
        stands =
            ap (λ (all : List (ℕ × Spooled)). all ++ (next_of v, message) ∷ []) shelved.stands
            ∙ sym (found-behind (settled_list v list) numbered) ∙ ap found_in (sym put-list);
        chain =
            subst (IsChainFrom v.first (next_of (put message v).next)) (sym put-list)
            (subst (λ (n : ℕ). IsChainFrom v.first n (settled_list v list ++ numbered ∷ []))
            (let all = sum-last v.sizes (size_of message) in
            let behind : next_of v + size_of message ≡ v.first + sum (v.sizes ++ size_of message ∷ []) =
            omega (arith, all) in behind)
            (chain_last v.first (next_of v) (settled_list v list) numbered shelved.chain refl));
        sizes =
            ap (map width) put-list ∙ widths-last (settled_list v list) numbered
            ∙ ap (λ (ns : List ℕ). ns ++ size_of message ∷ []) shelved.sizes;
        lines =
            lines-work v (put message v).next list base notes
            (work.Put message.stream message.function message.body) (Happening.Storing (next_of v) message)
            (Happening.Stored (next_of v)) is refl refl refl refl
            (record { stands = shelved.stands; storing = refl; leaving = tt }) shelved.lines;
        told =
            told-work v (put message v).next list base notes
            (work.Put message.stream message.function message.body) (Happening.Storing (next_of v) message)
            (Happening.Stored (next_of v)) is refl refl refl (tt, (tt, tt)) (refl, refl) shelved.told;
        closed = tt;
      }

  -- ---- the oldest one leaves

  module _ (v : LedgerView) (list : List Message) (base notes : List Happening) (why : Cause)
      (for_one : Option Spooled) (is : IsLedger v) (shelved : IsShelvedFor for_one policy v list base notes)
      (some : 0 < length v.sizes)
    where
      out-list : settled_list (oldest_out why for_one v).next list ≡ drop 1 (settled_list v list)
      out-list = settled-more v list (work.DropOldest (oldest_of v.sizes)) is

      pub first-listed : IsFirst (found_in (settled_list v list)) v.first
      first-listed =
          let long = ap (λ (ns : List ℕ). length ns) shelved.sizes in
          let same = widths-long (settled_list v list) in
          chain-first v.first (next_of v) (settled_list v list) shelved.chain (omega (arith, some, long, same))

      pub first-is : IsFirst (shelf_of notes).stands v.first
      first-is = subst (λ (all : List (ℕ × Spooled)). IsFirst all v.first) (sym shelved.stands) first-listed

      one-leaves : (why2 : Cause) → why2 ≢ cause.Purged → (count : ℕ) → leaves_by why2 count ≡ 1
      one-leaves cause.Confirmed not count = refl
      one-leaves cause.Purged not count = absurd (not refl)
      one-leaves cause.Overwritten not count = refl

      pub out-shelved :
          why ≢ cause.Purged → MayLeaveFor policy notes why for_one → MayLeaveInStep policy notes v.first why
          → IsShelvedFor for_one policy (oldest_out why for_one v).next list base
          (noted_behind (oldest_out why for_one v).lines notes)
      out-shelved alone may in_step = record {
        kept = inr (
          record { cause = why; is = refl; first = first-is },
          inl tt,
          tt,
          inr (
            record { rest = shelved.rest; first = first-is; cause = may },
            shelved.closed,
            in_step,
            shelved.kept,
          ),
        );
        rest = record { none_stored = shelved.rest.none_stored; none_leaves = refl };
        stands =
            ap (λ (n : ℕ). drop n (shelf_of notes).stands) (one-leaves why alone (length (shelf_of notes).stands))
            ∙ ap (drop 1) shelved.stands ∙ found-rest (settled_list v list) ∙ ap found_in (sym out-list);
        chain =
            subst (IsChainFrom (v.first + oldest_of v.sizes) (next_of (oldest_out why for_one v).next)) (sym out-list)
            (subst
            (λ (n : ℕ). IsChainFrom (v.first + oldest_of v.sizes) n (drop 1 (settled_list v list)))
            (let parted = sum-parted v.sizes in
            let same : next_of v ≡ v.first + oldest_of v.sizes + sum (drop 1 v.sizes) = omega (arith, parted) in same)
            (subst
            (λ (ns : List ℕ). IsChainFrom (v.first + oldest_of ns) (next_of v) (drop 1 (settled_list v list)))
            shelved.sizes (chain-rest v.first (next_of v) (settled_list v list) shelved.chain)));
        sizes =
            ap (map width) out-list ∙ widths-rest (settled_list v list) ∙ ap (drop 1) shelved.sizes;
        lines =
            lines-work v (oldest_out why for_one v).next list base notes (work.DropOldest (oldest_of v.sizes))
            (Leaving v.first why for_one)
            (Gone v.first) is refl refl refl refl
            (record { stands = shelved.stands; storing = shelved.rest.none_stored; leaving = by why alone })
            shelved.lines;
        told =
            told-work v (oldest_out why for_one v).next list base notes (work.DropOldest (oldest_of v.sizes))
            (Leaving v.first why for_one)
            (Gone v.first) is refl refl refl (tt, (tt, tt))
            (record {
              number = v.first;
              why = why;
              room_for = for_one;
              first = first-listed;
              cause_is = of-one why alone;
              before_is = refl;
              behind_is = refl;
            })
            shelved.told;
        closed = inr refl;
      }
        where
          by : (why : Cause) → why ≢ cause.Purged
              → MayLeaveAt (DiskWork.Change (work.DropOldest (oldest_of v.sizes))) (Some why)
          by cause.Confirmed not = inl refl
          by cause.Purged not = absurd (not refl)
          by cause.Overwritten not = inr refl

          of-one : (why : Cause) → why ≢ cause.Purged → IsOfOne why
          of-one cause.Confirmed not = tt
          of-one cause.Purged not = absurd (not refl)
          of-one cause.Overwritten not = tt

  -- ---- all leave

  module _ (v : LedgerView) (list : List Message) (base notes : List Happening)
      (is : IsLedger v) (shelved : IsShelved policy v list base notes)
    where
      abbrev emptied : LedgerView
      emptied = record v { first = next_of v; sizes = []; works = owed v work.Purge }

      shelved-none : IsShelvedFor None policy v list base notes
      shelved-none = shelved-for None policy v list base notes shelved

      some-left : (len : ℕ) → (len == 0) ≡ false → 0 < len
      some-left len none = grind (arith, nat_tests, none)

      pub all-shelved :
          (0 < length v.sizes → MayLeaveFor policy notes cause.Purged None)
          → (0 < length v.sizes → MayLeaveInStep policy notes v.first cause.Purged)
          → IsShelved policy (all_out v).next list base (noted_behind (all_out v).lines notes)
      all-shelved may in_step = go (length v.sizes == 0) refl
        where
          go : (none : Bool) → (length v.sizes == 0) ≡ none
              → IsShelved policy
              (if none then quiet v
              else record { next = emptied; lines = Leaving v.first cause.Purged None ∷ Gone v.first ∷ [] }).next
              list base
              (noted_behind
              (if none then quiet v
              else record { next = emptied; lines = Leaving v.first cause.Purged None ∷ Gone v.first ∷ [] }).lines notes)
          go true e = shelved
          go false e = record {
            kept = inr (
              record {
                cause = cause.Purged;
                is = refl;
                first = first-is v list base notes cause.Purged None is shelved-none (some-left (length v.sizes) e);
              },
              inl tt,
              tt,
              inr (
                record {
                  rest = shelved.rest;
                  first = first-is v list base notes cause.Purged None is shelved-none (some-left (length v.sizes) e);
                  cause = may (some-left (length v.sizes) e);
                },
                inl shelved.closed,
                in_step (some-left (length v.sizes) e),
                shelved.kept,
              ),
            );
            rest = record { none_stored = shelved.rest.none_stored; none_leaves = refl };
            stands = drop-all (shelf_of notes).stands ∙ ap found_in (sym (settled-more v list work.Purge is));
            chain =
                subst (IsChainFrom (next_of v) (next_of v + 0)) (sym (settled-more v list work.Purge is))
                (let none : next_of v ≡ next_of v + 0 = omega arith in none);
            sizes = ap (map width) (settled-more v list work.Purge is);
            lines =
                lines-work v emptied list base notes work.Purge (Leaving v.first cause.Purged None) (Gone v.first) is refl
                refl refl refl
                (record { stands = shelved.stands; storing = shelved.rest.none_stored; leaving = refl }) shelved.lines;
            told =
                told-work v emptied list base notes work.Purge (Leaving v.first cause.Purged None) (Gone v.first) is refl
                refl refl (tt, (tt, tt))
                (record {
                  number = v.first;
                  why = cause.Purged;
                  room_for = None;
                  first = first-listed v list base notes cause.Purged None is shelved-none (some-left (length v.sizes) e);
                  cause_is = tt;
                  before_is = refl;
                  behind_is = refl;
                })
                shelved.told;
            closed = refl;
          }

  -- ---- one comes, in place of the oldest in a full spool

  module _ (v : LedgerView) (list : List Message) (base notes : List Happening) (message : Spooled)
      (is : IsLedger v) (counts : CountsSlots policy v.slots) (shelved : IsShelved policy v list base notes)
    where
      -- such notes may be followed by removals for the message, each where the policy says so
      module _ (Open : List Happening → Type 0) (opened : MayOverwrite policy message Open)
          (short : length message.body ≤ 1048576) where
        room-shelved :
            (sizes : List ℕ) (w : LedgerView) (ns : List Happening) → sizes ≡ w.sizes → IsLedger w → w.slots ≡ v.slots
            → size_of message ≤ w.slots → Open ns → IsShelvedFor (Some message) policy w list base ns
            → IsShelvedFor (Some message) policy (room_made (size_of message) (Some message) sizes w).next list base
            (noted_behind (room_made (size_of message) (Some message) sizes w).lines ns)
        room-shelved [] w ns same good slots fits open_now so = so
        room-shelved (oldest ∷ sizes) w ns same good slots fits open_now so =
            let some = full-some w same in
            go (is_full w.slots w.sizes (size_of message)) refl
            (room-shelved sizes (oldest_out cause.Overwritten (Some message) w).next
            (Gone w.first ∷ Leaving w.first cause.Overwritten (Some message) ∷ ns) (ap (drop 1) same)
            (oldest_out_keeps w (owed w (work.DropOldest (oldest_of w.sizes))) good some refl) slots fits
            (opened.goes_on w.first ns open_now))
          where
            full-some : (u : LedgerView) → oldest ∷ sizes ≡ u.sizes → 0 < length u.sizes
            full-some u are = let long = ap (λ (all : List ℕ). length all) are in omega (arith, long)

            less : LedgerView
            less = (oldest_out cause.Overwritten (Some message) w).next

            told_less : List Happening
            told_less = Gone w.first ∷ Leaving w.first cause.Overwritten (Some message) ∷ ns

            go : (full : Bool) → is_full w.slots w.sizes (size_of message) ≡ full
                → (IsShelvedFor (Some message) policy less list base told_less
                → IsShelvedFor (Some message) policy
                (room_made (size_of message) (Some message) sizes less).next list base
                (noted_behind (room_made (size_of message) (Some message) sizes less).lines told_less))
                → IsShelvedFor (Some message) policy
                (made_if (size_of message) (Some message) full sizes w).next list base
                (noted_behind (made_if (size_of message) (Some message) full sizes w).lines ns)
            go true e rest =
                let taken = taken-is (IsMadeFor (Some message)) w list base ns good so in
                let over = is-below w.slots (sum w.sizes + size_of message) e in
                rest (out-shelved w list base ns cause.Overwritten (Some message) good so (full-some w same)
                (λ e2. absurd (grind (arith, e2)))
                (record {
                  full = counts.full (shelf_of ns).stands message (omega (arith, taken, over, slots));
                  fits =
                      let none : sum (sizes_of []) ≡ 0 = refl in
                      counts.room [] message short (omega (arith, none, fits, slots));
                  overwrites = opened.says ns open_now;
                })
                tt)
            go false e rest = so

      abbrev Overwrites : (List Happening → Type 0) → Bool → Type 0
      Overwrites Open overwriting = overwriting ≡ true → MayOverwrite policy message Open

      pub stored-shelved :
          (Open : List Happening → Type 0) → Open notes → (overwriting : Bool) (booked : Booked)
          → Overwrites Open overwriting → stored overwriting message v ≡ Some booked
          → IsShelved policy booked.next list base (noted_behind booked.lines notes)
      stored-shelved Open open_now overwriting booked may same =
          go (room_for v (length message.body)) overwriting refl may same
        where
          roomy : LedgerView
          roomy = (with_room message v).next

          go : (r : Room) (overwriting : Bool) → room_for v (length message.body) ≡ r → Overwrites Open overwriting
              → stored_by r overwriting message v ≡ Some booked
              → IsShelved policy booked.next list base (noted_behind booked.lines notes)
          go room.Fits overwriting e may same =
              subst (λ (b : Booked). IsShelved policy b.next list base (noted_behind b.lines notes)) (some-inj _ _ same)
              (put-shelved v list base notes message is counts e
              (shelved-for (Some message) policy v list base notes shelved))
          go room.Full true e may same =
              let fits = full_fits v (length message.body) e in
              subst (λ (b : Booked). IsShelved policy b.next list base (noted_behind b.lines notes)) (some-inj _ _ same)
              (subst (IsShelved policy (put message roomy).next list base)
              (sym (behind-both (with_room message v).lines (put message roomy).lines notes))
              (put-shelved roomy list base (noted_behind (with_room message v).lines notes) message
              (made_comes (size_of message) (Some message) v.sizes v is refl).is
              (subst (CountsSlots policy) (sym (made_stays (size_of message) (Some message) v.sizes v).0) counts)
              (makes_room v message is e)
              (room-shelved Open (may refl) (within_short v (length message.body) (full_within v (length message.body) e).0).0
              v.sizes v notes refl is refl fits.0 open_now
              (shelved-for (Some message) policy v list base notes shelved))))
          go room.Full false e may same =
              subst (λ (b : Booked). IsShelved policy b.next list base (noted_behind b.lines notes)) (some-inj _ _ same)
              (noted-shelved v list base notes (Discarded (spooled_name message)) tt refl tt shelved)
          go room.TooLong overwriting e may same =
              subst (λ (b : Booked). IsShelved policy b.next list base (noted_behind b.lines notes)) (some-inj _ _ same)
              (noted-shelved v list base notes (TooLong (spooled_name message)) tt refl tt shelved)
          go room.NumbersSpent overwriting e may same = absurd (grind (arith, same))
