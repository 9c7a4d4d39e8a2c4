-- What is asked of a disk by the calls that take up a file, and how far the disk goes behind such calls.
use Rattle.std.proofs.Common.{◌≡◌, refl, ap, ◌∙◌, arith, zero, suc, ℕ, ◌+◌, List, ◌++◌, length, length-append}
use Rattle.disk_base.specs.Calls.{DiskCall, written_of}
use Rattle.disk_base.specs.MemDisk.{DiskState}
use Rattle.disk_base.specs.contracts.mem_disk.MemDiskDisk.TheImpl.{ghosts}
use Rattle.message_end.specs.Ends.{Asked, asked_both, reach_behind}
use Rattle.spool_file.proofs.Making.{written_both}
use Rattle.spool_file.specs.Logs.{written_by}
use Rattle.spool_file.specs.Reads.{look_back, looks_at, recover_calls, slot_behind, start_look, start_looks}
use Rattle.spool_works.specs.DiskCalls.{HasMade}
use Rattle.filed_end.specs.Form.{IsBounded, disk_reach, taking_up}
use Rattle.filed_end.proofs.Reaching.{same-reach, same-some, written-behind}

-- so many calls, which write so many bytes
abbrev pub AsksSo : List DiskCall → Asked → Type 0
AsksSo calls all = (length calls ≡ all.calls) × (written_by calls ≡ all.bytes)

pub asks-both : (xs ys : List DiskCall) (one two : Asked) → AsksSo xs one → AsksSo ys two
    → AsksSo (xs ++ ys) (asked_both one two)
asks-both xs ys one two first later =
    let long = length-append xs ys in
    let wrote = written_both xs ys in
    let calls = first.0 in
    let bytes = first.1 in
    let more = later.0 in
    let longer = later.1 in (omega (arith, long, calls, more), omega (arith, wrote, bytes, longer))

abbrev pub reading : ℕ → Asked
reading calls = record { calls = calls; bytes = 0 }

-- the starts of slots are read
looks-ask : (slot_of : ℕ → ℕ) (n : ℕ) → AsksSo (looks_at slot_of n) (reading n)
looks-ask slot_of zero = (refl, refl)
looks-ask slot_of (suc n) =
    let less = looks-ask slot_of n in
    let both =
    asks-both (looks_at slot_of n) (start_look (slot_of n)) (reading n) (reading 1) less (refl, refl) in
    let calls = both.0 in
    let bytes = both.1 in (omega (arith, calls), omega (arith, bytes))

-- a file of version 2 is taken up
pub recover-asks : (slots : ℕ) → AsksSo (recover_calls 2 slots) (taking_up slots)
recover-asks slots =
    let both =
    asks-both (start_looks slots) (looks_at (slot_behind slots) (slots + look_back slots)) (reading slots)
    (reading (slots + look_back slots)) (looks-ask (λ k. k) slots)
    (looks-ask (slot_behind slots) (slots + look_back slots)) in
    let calls = both.0 in
    let bytes = both.1 in (omega (arith, calls), omega (arith, bytes))

-- a disk that has made some calls more, so that so much was asked of it
pub start-reach :
    (d e : DiskState) (calls : List DiskCall) (all : Asked) → IsBounded e → e.plan.stop_in ≡ 0
    → HasMade ghosts d e calls → length d.calls + length calls ≡ all.calls
    → written_of d.calls + written_by calls ≡ all.bytes → disk_reach e ≡ reach_behind all
start-reach d e calls all bounded never made many bytes =
    same-reach (disk_reach e) (reach_behind all) never (omega (arith, bounded.0, long, many))
    (omega (arith, bounded.1, wrote, bytes))
  where
    are : e.calls ≡ d.calls ++ calls
    are = same-some e.calls (d.calls ++ calls) made.listed

    long : length e.calls ≡ length d.calls + length calls
    long = ap length are ∙ length-append d.calls calls

    wrote : written_of e.calls ≡ written_of d.calls + written_by calls
    wrote = ap written_of are ∙ written-behind d.calls calls

pub bounded-by : (d e : DiskState) (calls : List DiskCall) → HasMade ghosts d e calls → IsBounded d → IsBounded e
bounded-by d e calls made is =
    let kept = made.used.bounds_kept in
    (ap (λ (w : ℕ × ℕ). w.0) kept ∙ is.0, ap (λ (w : ℕ × ℕ). w.1) kept ∙ is.1)
