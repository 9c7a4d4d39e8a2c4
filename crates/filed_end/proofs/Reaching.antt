-- How far the disk of a step came, by what its list says: to the end, to the planned call, or to one without room.
use Rattle.std.proofs.Common.{◌≡◌, refl, sym, ap, subst, ◌∙◌, ◌⊎◌, inl, inr, arith, zero, suc, ◌+◌, ◌-◌, ◌<◌, ◌≤◌}
use Rattle.std.proofs.Common.{true, false, ℕ, List, [], ◌∷◌, ◌++◌, append_assoc, drop, length, length-append, take}
use Rattle.std.proofs.Common.{Some}
use Rattle.std.proofs.lemmas.List.{length-map, length-take-le, take-append-le, take-map}
use Rattle.std.proofs.lemmas.List.Sums.{sum_by-append, sum_by-cons}
use Rattle.std.proofs.Math.Seq.{take-append-add}
use Rattle.std.specs.Prelude.{slice_get}
use Rattle.disk_base.specs.Calls.{DiskCall, written_of}
use Rattle.disk_base.specs.Faults.{DiskFault, IsAmong, IsLeftOut, IsCrowded as HasNoRoom}
use Rattle.disk_base.specs.MemDisk.{DiskState, HasFitted, disk_health}
use Rattle.disk_base.specs.contracts.mem_disk.MemDiskDisk.TheImpl.{ghosts}
use Rattle.message_flow.specs.declared.step.Note.{Note}
use Rattle.spool_file.specs.Logs.{written_by}
use Rattle.message_end.specs.Ends.{Loss, Reach, call_of, passing}
use Rattle.message_end.specs.Ends.Passing.{Cuts, Lacks, Passes as PassesAll}
use Rattle.message_end.proofs.Passing.{AreMade, behind_all, bytes-behind, calls-behind, cut-behind, cuts-at, lacks-at}
use Rattle.message_end.proofs.Passing.{passes-all, written_by as losses_write}
use Rattle.spool_works.specs.Breaking.{IsGoingDisk}
use Rattle.spool_works.specs.DiskCalls.{failing, with_calls}
use Rattle.filed_end.specs.Breaking.{HasMissedAt, Passes, bytes_of, sizes_of}
use Rattle.filed_end.specs.Form.{disk_reach}
use Rattle.filed_end.specs.InMemory.{IsCrowded}

-- ---- places of a list

pub same-some : {X : Type 0} (x y : X) → Some x ≡ Some y → x ≡ y
same-some x y is = cc

parted : {X : Type 0} (xs : List X) (at : ℕ) (x : X) → slice_get xs at ≡ Some x
    → xs ≡ take at xs ++ x ∷ drop (suc at) xs
parted [] at x is = absurd (cc)
parted {X} (y ∷ xs) zero x is = ap (λ (z : X). z ∷ xs) (let same : y ≡ x = cc in same)
parted {X} (y ∷ xs) (suc at) x is = ap (λ (zs : List X). y ∷ zs) (parted xs at x is)

sized-many : {S : Type 0} (made : List DiskCall) (losses : List (Loss S)) → bytes_of made ≡ sizes_of losses
    → length made ≡ length losses
sized-many {S} made losses sized =
    sym (length-map made (λ (call : DiskCall). length call.bytes)) ∙ ap length sized
    ∙ length-map losses (λ (loss : Loss S). loss.bytes)

-- ---- what calls write

written-is : (calls : List DiskCall) → written_of calls ≡ written_by calls
written-is [] = refl
written-is (call ∷ calls) =
    sum_by-cons (λ (one : DiskCall). length one.bytes) call calls
    ∙ ap (λ (n : ℕ). length call.bytes + n) (written-is calls)

pub written-behind : (xs ys : List DiskCall) → written_of (xs ++ ys) ≡ written_of xs + written_by ys
written-behind xs ys =
    sum_by-append (λ (one : DiskCall). length one.bytes) xs ys ∙ ap (λ (n : ℕ). written_of xs + n) (written-is ys)

abbrev sum_of : List ℕ → ℕ
sum_of [] = 0
sum_of (n ∷ ns) = n + sum_of ns

calls-sum : (calls : List DiskCall) → written_by calls ≡ sum_of (bytes_of calls)
calls-sum [] = refl
calls-sum (call ∷ calls) = ap (λ (n : ℕ). length call.bytes + n) (calls-sum calls)

losses-sum : {S : Type 0} (losses : List (Loss S)) → losses_write losses ≡ sum_of (sizes_of losses)
losses-sum [] = refl
losses-sum {S} (loss ∷ losses) =
    sum_by-cons (λ (one : Loss S). one.bytes) loss losses
    ∙ ap (λ (n : ℕ). loss.bytes + n) (losses-sum losses)

sized-sum : {S : Type 0} (made : List DiskCall) (losses : List (Loss S)) → bytes_of made ≡ sizes_of losses
    → written_by made ≡ losses_write losses
sized-sum made losses sized = calls-sum made ∙ ap sum_of sized ∙ sym (losses-sum losses)

abbrev reach_with : ℕ → ℕ → ℕ → Reach
reach_with cut calls bytes = record { cut = cut; room = record { calls = calls; bytes = bytes } }

pub same-reach : (a b : Reach) → a.cut ≡ b.cut → a.room.calls ≡ b.room.calls → a.room.bytes ≡ b.room.bytes → a ≡ b
same-reach a b cut calls bytes =
    ap (λ (n : ℕ). reach_with n a.room.calls a.room.bytes) cut
    ∙ ap (λ (n : ℕ). reach_with b.cut n a.room.bytes) calls
    ∙ ap (λ (n : ℕ). reach_with b.cut b.room.calls n) bytes

module _ (d e : DiskState) (bounds : (disk_health e).bounds ≡ (disk_health d).bounds) where
  most-is : e.most ≡ d.most
  most-is = ap (λ (w : ℕ × ℕ). w.0) bounds

  room-is : e.room ≡ d.room
  room-is = ap (λ (w : ℕ × ℕ). w.1) bounds

module _ {S : Type 0} (d e : DiskState) (old : HasFitted d) (new : HasFitted e) (on : d.plan.stopped ≡ false)
    (bounds : (disk_health e).bounds ≡ (disk_health d).bounds)
  where
    -- ---- the calls that are listed behind those of before found room

    module _ (made : List DiskCall) (losses : List (Loss S)) (sized : bytes_of made ≡ sizes_of losses) where
      fits : (calls : List DiskCall) → calls ≡ d.calls ++ made → length calls ≤ e.most → written_of calls ≤ e.room
          → (length losses ≤ (disk_reach d).room.calls) × (losses_write losses ≤ (disk_reach d).room.bytes)
      fits calls are most room =
          let long = ap length are ∙ length-append d.calls made in
          let wrote = ap written_of are ∙ written-behind d.calls made in
          let many = sized-many made losses sized in
          let sum = sized-sum made losses sized in (
            omega (arith, long, many, most, most-is d e bounds),
            omega (arith, wrote, sum, room, room-is d e bounds),
          )

      -- of a disk that goes on all are
      going-fits : e.plan.stopped ≡ false → e.calls ≡ d.calls ++ made
          → (length losses ≤ (disk_reach d).room.calls) × (losses_write losses ≤ (disk_reach d).room.bytes)
      going-fits goes are =
          let most = (new.going goes).1 in
          let room = (new.going goes).2 in
          fits e.calls are most (omega (arith, room, new.used))

    -- ---- to the end

    module _ (losses : List (Loss S)) (passes : Passes ghosts d losses e) where
      calls-are : e.calls ≡ d.calls ++ passes.made
      calls-are = same-some e.calls (d.calls ++ passes.made) passes.are.listed

      goes-on : e.plan.stopped ≡ false
      goes-on = passes.are.used.going ∙ on

      many : length passes.made ≡ length losses
      many = sized-many passes.made losses passes.sized

      are-made : AreMade (disk_reach d) losses
      are-made =
          let fit = going-fits passes.made losses passes.sized goes-on calls-are in
          record {
            uncut = λ among.
                passes.are.used.unplanned
                (inr (inl (subst (λ (n : ℕ). IsAmong d.plan.stop_in n) (sym many) among)));
            calls = fit.0;
            bytes = fit.1;
          }

      pub reached : passing (disk_reach d) losses ≡ PassesAll (disk_reach e)
      reached =
          passes-all losses (disk_reach d) are-made
          ∙ ap (λ (left : Reach). PassesAll left)
          (same-reach (behind_all (disk_reach d) losses) (disk_reach e) cut calls bytes)
        where
          long : length e.calls ≡ length d.calls + length passes.made
          long = ap length calls-are ∙ length-append d.calls passes.made

          wrote : written_of e.calls ≡ written_of d.calls + written_by passes.made
          wrote = ap written_of calls-are ∙ written-behind d.calls passes.made

          cut : (behind_all (disk_reach d) losses).cut ≡ e.plan.stop_in
          cut =
              let behind = cut-behind losses (disk_reach d) in
              let left = passes.are.used.stop_left in
              omega (arith, behind, left, many)

          calls : (behind_all (disk_reach d) losses).room.calls ≡ e.most - length e.calls
          calls =
              let behind = calls-behind losses (disk_reach d) in omega (arith, behind, long, many, most-is d e bounds)

          bytes : (behind_all (disk_reach d) losses).room.bytes ≡ e.room - written_of e.calls
          bytes =
              let behind = bytes-behind losses (disk_reach d) in
              let sum = sized-sum passes.made losses passes.sized in
              omega (arith, behind, wrote, sum, room-is d e bounds)

    -- ---- to a call that failed

    module _ (losses : List (Loss S)) (notes : List Note) (missed : HasMissedAt ghosts d e losses notes)
        (count n : ℕ) (fault : DiskFault (disk_health d) (disk_health e) count ((disk_health d).room < n))
      where
        -- the disk goes on, and it isn't the planned one: there was no room for it
        pub lacked : e.plan.stopped ≡ false → IsCrowded e → passing (disk_reach d) losses ≡ Lacks missed.loss
        lacked goes crowded = go missed.listed
          where
            go : (IsLeftOut (disk_health d) (disk_health e) (length missed.made)
                (written_by missed.made + missed.loss.bytes)
                × (ghosts.calls e ≡ with_calls missed.made (ghosts.calls d)))
                ⊎ ((last : DiskCall)
                × (ghosts.calls e ≡ with_calls (missed.made ++ failing last ∷ []) (ghosts.calls d)))
                → passing (disk_reach d) losses ≡ Lacks missed.loss
            go (inr (last, listed)) =
                absurd
                (crowded.last (d.calls ++ missed.made) (failing last)
                (same-some e.calls (d.calls ++ (missed.made ++ failing last ∷ [])) listed
                ∙ sym (append_assoc d.calls missed.made (failing last ∷ []))) refl)
            go (inl (out, listed)) =
                let fit =
                going-fits missed.made missed.first missed.sized goes
                (same-some e.calls (d.calls ++ missed.made) listed) in
                let many = sized-many missed.made missed.first missed.sized in
                let sum = sized-sum missed.made missed.first missed.sized in
                subst (λ (all : List (Loss S)). passing (disk_reach d) all ≡ Lacks missed.loss)
                (sym missed.are)
                (lacks-at missed.first missed.rest missed.loss (disk_reach d)
                (record {
                  uncut = λ among.
                      out.unplanned (inr (inl (subst (λ (k : ℕ). IsAmong d.plan.stop_in k) (sym many) among)));
                  calls = fit.0;
                  bytes = fit.1;
                })
                (λ here. crowded.waits_not (out.waits (omega (arith, here, many))))
                (short many sum out.crowded))
              where
                short : length missed.made ≡ length missed.first → written_by missed.made ≡ losses_write missed.first
                    → HasNoRoom (disk_health d) (length missed.made + 1) (written_by missed.made + missed.loss.bytes)
                    → ((disk_reach d).room.calls < length missed.first + 1)
                    ⊎ ((disk_reach d).room.bytes < losses_write missed.first + missed.loss.bytes)
                short many sum (inl calls) = inl (omega (arith, calls, many))
                short many sum (inr bytes) = inr (omega (arith, bytes, sum, old.used))

        -- it was stopped: the calls before the planned one found room
        module _ (goes : IsGoingDisk (disk_health d)) (stopped : e.plan.stopped ≡ true) where
          here : d.plan.stop_in ≡ fault.made + 1
          here = go (fault.stops stopped)
            where
              go : (d.plan.stopped ≡ true) ⊎ (d.plan.stop_in ≡ fault.made + 1) → d.plan.stop_in ≡ fault.made + 1
              go (inl before) = absurd (let both : true ≡ false = sym before ∙ on in cc)
              go (inr is) = is

          made-is : e.made - 1 ≡ length d.calls + fault.made
          made-is =
              let last = fault.last goes.going stopped in
              let were = (old.going on).0 in
              omega (arith, last, were)

          -- so many of them, of those that are listed behind those of before
          is-within : (last : DiskCall) → e.calls ≡ d.calls ++ (missed.made ++ failing last ∷ [])
              → fault.made ≤ length missed.made
          is-within last are =
              let long = ap length are ∙ length-append d.calls (missed.made ++ failing last ∷ []) in
              let more = length-append missed.made (failing last ∷ []) in
              omega (arith, long, more, new.within, fault.last goes.going stopped, (old.going on).0)

          -- the losses before it
          front-is : fault.made ≤ length missed.made → take fault.made losses ≡ take fault.made missed.first
          front-is within =
              ap (take fault.made) missed.are
              ∙ take-append-le fault.made missed.first (missed.loss ∷ missed.rest)
              (let many = sized-many missed.made missed.first missed.sized in omega (arith, many, within))

          front-long : fault.made ≤ length missed.made → length (take fault.made losses) ≡ fault.made
          front-long within =
              ap length (front-is within)
              ∙ length-take-le fault.made missed.first
              (let many = sized-many missed.made missed.first missed.sized in omega (arith, many, within))

          front-sized : fault.made ≤ length missed.made
              → bytes_of (take fault.made missed.made) ≡ sizes_of (take fault.made losses)
          front-sized within =
              sym (take-map (λ (call : DiskCall). length call.bytes) fault.made missed.made)
              ∙ ap (take fault.made) missed.sized
              ∙ take-map (λ (loss : Loss S). loss.bytes) fault.made missed.first
              ∙ ap sizes_of (sym (front-is within))

          calls-front : (last : DiskCall) → e.calls ≡ d.calls ++ (missed.made ++ failing last ∷ [])
              → fault.made ≤ length missed.made → take (e.made - 1) e.calls ≡ d.calls ++ take fault.made missed.made
          calls-front last are within =
              ap (λ (k : ℕ). take k e.calls) made-is ∙ ap (take (length d.calls + fault.made)) are
              ∙ take-append-add d.calls (missed.made ++ failing last ∷ []) fault.made
              ∙ ap (λ (all : List DiskCall). d.calls ++ all)
              (take-append-le fault.made missed.made (failing last ∷ []) within)

          front-made : (last : DiskCall) → e.calls ≡ d.calls ++ (missed.made ++ failing last ∷ [])
              → (within : fault.made ≤ length missed.made) → AreMade (disk_reach d) (take fault.made losses)
          front-made last are within =
              let before = new.stopped stopped in
              let long = length-take-le (e.made - 1) e.calls (omega (arith, new.within)) in
              let fit =
              fits (take fault.made missed.made) (take fault.made losses) (front-sized within)
              (take (e.made - 1) e.calls)
              (calls-front last are within) (omega (arith, long, before.0)) before.1 in
              record {
                uncut = λ among. let most = among.1 in omega (arith, most, here, front-long within);
                calls = fit.0;
                bytes = fit.1;
              }

          pub cut-at : (loss : Loss S) → call_of d.plan.stop_in losses ≡ Some loss
              → passing (disk_reach d) losses ≡ Cuts loss
          cut-at loss at = go missed.listed
            where
              place : slice_get losses fault.made ≡ Some loss
              place =
                  let next : fault.made + 1 ≡ suc fault.made = omega arith in
                  subst (λ (k : ℕ). call_of k losses ≡ Some loss) (here ∙ next) at

              go : (IsLeftOut (disk_health d) (disk_health e) (length missed.made)
                  (written_by missed.made + missed.loss.bytes)
                  × (ghosts.calls e ≡ with_calls missed.made (ghosts.calls d)))
                  ⊎ ((last : DiskCall)
                  × (ghosts.calls e ≡ with_calls (missed.made ++ failing last ∷ []) (ghosts.calls d)))
                  → passing (disk_reach d) losses ≡ Cuts loss
              go (inl (out, listed)) = absurd (let both : true ≡ false = sym stopped ∙ out.going ∙ on in cc)
              go (inr (last, listed)) =
                  let are = same-some e.calls (d.calls ++ (missed.made ++ failing last ∷ [])) listed in
                  let within = is-within last are in
                  subst (λ (all : List (Loss S)). passing (disk_reach d) all ≡ Cuts loss)
                  (sym (parted losses fault.made loss place))
                  (cuts-at (take fault.made losses) (drop (suc fault.made) losses) loss (disk_reach d)
                  (front-made last are within) (omega (arith, here, front-long within)))
