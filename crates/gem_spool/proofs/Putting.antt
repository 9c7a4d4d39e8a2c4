-- That a put is a message more, or leaves the list.
use Rattle.std.proofs.Common.{◌≡◌, inl, inr, ⊎_elim, ℕ, ◌+◌, ◌^◌, ◌<◌, ◌≤◌, nat_lt, Bool, true, false, if◌then◌else◌}
use Rattle.std.proofs.Common.{List, [], ◌∷◌, length, Option, None, Some, Ok, Err, refl, sym, ap, subst, ◌∙◌, arith}
use Rattle.std.proofs.lemmas.Bool.Decides.{nat_tests}
use Rattle.disk_base.specs.Story.{Story}
use Rattle.disk_base.specs.declared.disk.Disk as disk
use Rattle.disk_base.specs.declared.disk.DiskAnswer.{DiskAnswer}
use Rattle.disk_base.specs.declared.disk.DiskAnswer.TheVariants.{Done, Failed}
use Rattle.disk_base.proofs.Moments.{through_both, through_more}
use Rattle.gem_spool.specs.Spool.{HasPut, IsPutting, StagesAndSeals, numbered, put_in, room_by, room_for, room_in}
use Rattle.gem_spool.specs.Standing.{count_of}
use Rattle.gem_spool.specs.declared.count.Count.{Count}
use Rattle.gem_spool.specs.declared.spool.Room.TheVariants.{Fits, Full, NumbersSpent}
use Rattle.spool_file.specs.File.{Ends, SpoolFile, StandsFor, file_in}
use Rattle.spool_file.specs.Logs.{MakesAll}
use Rattle.spool_file.specs.Sizes.{is_too_long, slots_for}
use Rattle.spool_file.specs.Slot.{Message, slot_place}
use Rattle.spool_file.proofs.Making.{makes_before, makes_then}
use Rattle.spool_slots.specs.Calls.{byte_calls, number_place, stage_calls}
use Rattle.spool_slots.specs.Changes.{HasSealed, HoldsThrough, IsSameBar, IsSameOr, Seals, Stages}
use Rattle.spool_slots.specs.Files.{sealed_in, shut_in, with_message}
use Rattle.spool_slots.specs.Spool.{SpoolView, StagedView, in_hand, known_of, next_slot}
use Rattle.spool_slots.specs.declared.states.Spent.{Spent}
use Rattle.spool_slots.specs.declared.states.Staging.TheVariants as staging
use Rattle.spool_slots.proofs.Settling.{makes_settled}

-- ---- where there is room

if_fits : (spent full : Bool) → (if spent then NumbersSpent else (if full then Full else Fits)) ≡ Fits →
    (spent ≡ false) × (full ≡ false)
if_fits false false fits = (refl, refl)
if_fits false true fits = absurd (cc)
if_fits true full fits = absurd (cc)

-- the message isn't too long, and its numbers and slots are there
pub record HasRoomIn (c : Count) (long : ℕ) : Type 0 where
  pub short : is_too_long c.version c.slots long ≡ false
  pub numbers : c.next + slots_for long ≤ 2 ^ 63
  pub free : c.used + slots_for long ≤ c.slots

pub room_is : (c : Count) (long : ℕ) → room_in c long ≡ Fits → HasRoomIn c long
room_is c long fits = by_length (is_too_long c.version c.slots long) refl fits where
  by_length : (too : Bool) → is_too_long c.version c.slots long ≡ too →
      room_by c (if too then None else Some (slots_for long)) ≡ Fits → HasRoomIn c long
  by_length true is fits = absurd (cc)
  by_length false is fits =
      let both = if_fits (nat_lt (2 ^ 63) (c.next + slots_for long)) (nat_lt c.slots (c.used + slots_for long)) fits in
      record {
        short = is;
        numbers = grind (arith, nat_tests, both.0);
        free = grind (arith, nat_tests, both.1);
      }

module _ {D : Type 0} (v : SpoolView D) (body : List ℕ) (fits : room_for v (length body) ≡ Fits) where
  has_room : HasRoomIn (count_of v) (length body)
  has_room = room_is (count_of v) (length body) fits

  pub not_long : is_too_long v.version v.slots (length body) ≡ true → ⊥
  not_long long = both (sym long ∙ has_room.short) where
    both : true ≡ false → ⊥
    both is = cc

  pub not_full : v.first + v.slots < v.next + slots_for (length body) → ⊥
  not_full full = omega (arith, full, has_room.free)

  pub not_spent : 2 ^ 63 < v.next + slots_for (length body) → ⊥
  not_spent spent = omega (arith, spent, has_room.numbers)

-- ---- what a put makes

module _ {D : Type 0} (members : disk.Ghosts D) (v : SpoolView D) (stream function : ℕ) (body : List ℕ)
    (fits : room_for v (length body) ≡ Fits) where
  abbrev message : Message
  message = numbered v stream function body

  module _ (u : StagedView D) (staged : Stages members v stream function body (Ok u)) where
    -- the staged message stands in the next slots, beside the same list
    pub sealed_is : (s t : Story) → members.told v.disk ≡ Some s → members.told u.spool.disk ≡ Some t →
        (shut_in v.next (slots_for (length body)) s.now.bytes ≡ file_in t.now.bytes)
        × (sealed_in (next_slot u.spool) t.now.bytes ≡ put_in message s.now.bytes)
    sealed_is s t told told' =
        let same : shut_in v.next (slots_for (length body)) s.now.bytes ≡ file_in t.now.bytes =
        (staged.2 s t told told').stands.is in (
          same,
          ap (λ (m : Message). with_message m (file_in t.now.bytes)) (staged.3 t told')
              ∙ ap (λ (f : SpoolFile). with_message message f) (sym same),
        )

    put_images : (after : Option Story) →
        HoldsThrough (members.told u.spool.disk) after (IsSameOr (sealed_in (next_slot u.spool))) →
        HoldsThrough (members.told v.disk) after (IsPutting message)
    put_images after sealed s is =
        let one = staged.0.images s is in
        let two = sealed one.0 one.1 in
        let eqs = sealed_is s one.0 is one.1 in (
          two.0,
          two.1,
          through_both s one.0 two.0 (IsPutting message s.now.bytes)
              (through_more s one.0 (IsSameBar s.now.bytes) (IsPutting message s.now.bytes)
              (λ image left. inl left) one.2)
              (through_more one.0 two.0 (IsSameOr (sealed_in (next_slot u.spool)) one.0.now.bytes)
              (IsPutting message s.now.bytes)
              (λ image. ⊎_elim (λ (left : StandsFor image (file_in one.0.now.bytes)). inl
              (_, subst (λ (f : SpoolFile). StandsFor image f) (sym eqs.0) left))
              (λ (left : StandsFor image (sealed_in (next_slot u.spool) one.0.now.bytes)). inr
              (subst (λ (f : SpoolFile). StandsFor image f) eqs.1 left))) two.2),
        )

    pub put_ends : (w : SpoolView D) → Seals members u (Ok w) → (s t : Story) → members.told v.disk ≡ Some s →
        members.told w.disk ≡ Some t → Ends t (put_in message s.now.bytes)
    put_ends w sealed s t told told' =
        let one = staged.0.images s told in
        subst (λ (f : SpoolFile). Ends t f) (sealed_is s one.0 told one.1).1 (sealed.2 one.0 t one.1 told')

    -- the gate was written behind the calls of the stage, as far as that went
    pub has_put : (after : D) (answer : DiskAnswer) → HasSealed members u.spool after answer →
        HasPut members v stream function body after answer
    has_put after answer sealed = record {
      fits = fits;
      images = put_images (members.told after) sealed.images;
      stale = staged.0.stale;
      long = staged.0.long;
      stale_is = staged.0.stale_is;
      makes = makes_then (members.health v.disk) (members.health u.spool.disk) (members.health after)
          (members.calls v.disk) (members.calls u.spool.disk) (members.calls after)
          (stage_calls v.slots v.next staged.0.stale stream function body)
          (byte_calls (number_place v.slots v.next) 90) answer staged.0.made.calls
          (subst (λ (at : ℕ). MakesAll (members.health u.spool.disk) (members.health after)
          (members.calls u.spool.disk) (members.calls after) (byte_calls at 90) answer)
          (ap (λ (x : StagedView D). slot_place (next_slot x.spool)) staged.1)
          (makes_settled members u.spool.disk after (slot_place (next_slot u.spool)) (90 ∷ []) answer sealed.disk));
    }

    -- the message is the last one of the list
    pub put_done : (w : SpoolView D) → Seals members u (Ok w) → HasPut members v stream function body w.disk Done
        × StagesAndSeals members v stream function body (Ok w)
        × (w ≡ in_hand w.disk (record (known_of v) { next = v.next + slots_for (length body); len = v.len + 1 }))
        × ((s t : Story) → members.told v.disk ≡ Some s → members.told w.disk ≡ Some t →
        Ends t (put_in message s.now.bytes))
    put_done w sealed = (
      has_put w.disk Done sealed.0,
      (u, staged, sealed),
      sealed.1
          ∙ ap (λ (x : StagedView D). in_hand w.disk
          (record (known_of x.spool) { next = x.spool.next + x.size; len = x.spool.len + 1 })) staged.1,
      put_ends w sealed,
    )

  -- the parts weren't written
  pub stage_failed : (spent : Spent D) → Stages members v stream function body (Err (staging.Failed spent)) →
      HasPut members v stream function body spent.disk Failed
  stage_failed spent staged = record {
    fits = fits;
    images = λ s is. let one = staged.0.images s is in (
      one.0,
      one.1,
      through_more s one.0 (IsSameBar s.now.bytes) (IsPutting message s.now.bytes) (λ image left. inl left) one.2,
    );
    stale = staged.0.stale;
    long = staged.0.long;
    stale_is = staged.0.stale_is;
    makes = makes_before (members.health v.disk) (members.health spent.disk) (members.calls v.disk)
        (members.calls spent.disk) (stage_calls v.slots v.next staged.0.stale stream function body)
        (byte_calls (number_place v.slots v.next) 90) staged.0.made.calls;
  }
