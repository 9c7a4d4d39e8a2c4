-- That a message is stored by one call for each that leaves for it, and the put. What room is made for isn't printed,
-- so those calls needn't know it.
use Rattle.std.proofs.Common.{◌≡◌, ◌<◌, ◌≤◌, ℕ, Bool, true, false, List, ◌++◌, drop, length, Option, None, Some, sym, ap, ◌∙◌, arith, append-nil, append_assoc}
use Rattle.std.specs.Option.{option_map}
use Rattle.std.proofs.lemmas.List.Elements.{filter_map-append}
use Rattle.gem_spool.specs.declared.spool.Room.{Room}
use Rattle.gem_spool.specs.declared.spool.Room.TheVariants as room
use Rattle.message_end.specs.Ends.{printed}
use Rattle.message_flow.specs.declared.step.Note.{Note}
use Rattle.trace_log.specs.Log.{Happening}
use Rattle.trace_log.specs.Names.{Spooled}
use Rattle.trace_log.specs.Text.{printed_note}
use Rattle.trace_log.specs.declared.names.Cause.TheVariants.{Overwritten}
use Rattle.spool_ledger.specs.Ledger.{Booked, LedgerView, is_full}
use Rattle.spool_ledger.specs.Storing.{Account, account_of, oldest_out, put, room_made, stored_by, with_room}
use Rattle.spool_ledger.proofs.Keeping.{long-rest, made_done, made_step}

-- ---- the calls by which room is made

-- the removals that are left lead to all that there are
pub record LeadsTo (size : ℕ) (v w : LedgerView) (notes noted : List Note) : Type 0 where
  pub fits : size ≤ w.slots
  pub next : (for_one : Option Spooled) →
      (room_made size for_one w.sizes w).next ≡ (room_made size for_one v.sizes v).next
  pub notes_are : (for_one : Option Spooled) →
      noted ++ printed (room_made size for_one w.sizes w).lines
      ≡ notes ++ printed (room_made size for_one v.sizes v).lines

-- one more has left
module _ (size : ℕ) (v w u : LedgerView) (notes noted out : List Note) (leads : LeadsTo size v w notes noted)
    (some : 0 < length w.sizes) (full : is_full w.slots w.sizes size ≡ true)
    (next-is : u ≡ (oldest_out Overwritten None w).next)
    (notes-are : (for_one : Option Spooled) → out ≡ noted ++ printed (oldest_out Overwritten for_one w).lines)
  where
    -- what is left to remove of this is what is left behind it
    rest-is : (for_one : Option Spooled) →
        room_made size for_one u.sizes u ≡ room_made size for_one (drop 1 w.sizes) (oldest_out Overwritten for_one w).next
    rest-is for_one = ap (λ (x : LedgerView). room_made size for_one x.sizes x) next-is

    pub goes_on : LeadsTo size v u notes out
    goes_on = record {
      fits = let slots = ap (λ (x : LedgerView). x.slots) next-is in let fits = leads.fits in omega (arith, slots, fits);
      next = λ for_one.
          ap (λ (b : Booked). b.next) (rest-is for_one)
          ∙ sym (ap (λ (b : Booked). b.next) (made_step size for_one w.sizes w some full)) ∙ leads.next for_one;
      notes_are = λ for_one.
          ap (λ (b : Booked). out ++ printed b.lines) (rest-is for_one)
          ∙ ap (λ (ns : List Note). ns ++ printed (rest for_one)) (notes-are for_one)
          ∙ append_assoc noted (printed (oldest_out Overwritten for_one w).lines) (printed (rest for_one))
          ∙ sym (ap (λ (b : Booked). noted ++ printed b.lines) (made_step size for_one w.sizes w some full))
          ∙ leads.notes_are for_one;
    }
      where
        rest : Option Spooled → List Happening
        rest for_one = (room_made size for_one (drop 1 w.sizes) (oldest_out Overwritten for_one w).next).lines

    pub fewer : length u.sizes < length w.sizes
    fewer =
        let less = ap (λ (x : LedgerView). length x.sizes) next-is in
        let rest = long-rest w.sizes in
        omega (arith, less, rest, some)

-- none has to leave any more
module _ (size : ℕ) (v w : LedgerView) (notes noted : List Note) (leads : LeadsTo size v w notes noted)
    (free : is_full w.slots w.sizes size ≡ false) (for_one : Option Spooled)
  where
    pub led_next : w ≡ (room_made size for_one v.sizes v).next
    led_next = sym (ap (λ (b : Booked). b.next) (made_done size for_one w.sizes w free)) ∙ leads.next for_one

    pub led_notes : noted ≡ notes ++ printed (room_made size for_one v.sizes v).lines
    led_notes =
        sym (append-nil noted)
        ∙ sym (ap (λ (b : Booked). noted ++ printed b.lines) (made_done size for_one w.sizes w free))
        ∙ leads.notes_are for_one

-- ---- and the put behind them

pub overwritten :
    (found : Room) (overwrites : Bool) (v middle last : LedgerView) (message : Spooled)
    (notes noted out : List Note) → found ≡ room.Full → overwrites ≡ true
    → middle ≡ (with_room message v).next
    → noted ≡ notes ++ printed (with_room message v).lines
    → last ≡ (put message middle).next → out ≡ noted ++ printed (put message middle).lines
    → option_map (account_of notes) (stored_by found overwrites message v)
    ≡ Some (record { ledger = last; notes = out })
overwritten found overwrites v middle last message notes noted out full is middle-is noted-is last-is out-is =
    ap (λ (f : Room). option_map (account_of notes) (stored_by f overwrites message v)) full
    ∙ ap (λ (b : Bool). option_map (account_of notes) (stored_by room.Full b message v)) is
    ∙ ap (account (put message made).next)
    (ap (λ (more : List Note). notes ++ more) (filter_map-append printed_note (with_room message v).lines (lines made))
    ∙ sym (append_assoc notes (printed (with_room message v).lines) (printed (lines made)))
    ∙ ap (λ (ns : List Note). ns ++ printed (lines made)) (sym noted-is)
    ∙ ap (λ (w : LedgerView). noted ++ printed (lines w)) (sym middle-is) ∙ sym out-is)
    ∙ ap (λ (l : LedgerView). account l out)
    (ap (λ (w : LedgerView). (put message w).next) (sym middle-is) ∙ sym last-is)
  where
    account : LedgerView → List Note → Option Account
    account ledger n = Some (record { ledger = ledger; notes = n })

    made : LedgerView
    made = (with_room message v).next

    lines : LedgerView → List Happening
    lines w = (put message w).lines
