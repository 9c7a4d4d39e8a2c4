-- The range of what some calls write.
use Rattle.std.proofs.Common.{ℕ, ◌+◌, ◌≤◌, List, [], ◌∷◌, fold, arith}
use Rattle.disk_base.specs.Log.{AreHeld, AreSized, IsHeld, hull_behind, hull_under}
use Rattle.disk_base.specs.declared.disk.CallKind.{CallKind}
use Rattle.disk_base.specs.declared.disk.CallKind.TheVariants.{Attach, Read, Write, Sync}
use Rattle.disk_base.specs.declared.log.LoggedCall.{LoggedCall}

wider_under :
    (kind : CallKind) (at count low high : ℕ) (hull : ℕ × ℕ) → low ≤ (hull_under kind at count hull).0
    → (hull_under kind at count hull).1 ≤ high
    → (low ≤ hull.0) × ((hull.1 ≤ high) × IsHeld low high kind at count)
wider_under Write at count low high hull lower higher =
    (omega (arith, lower), (omega (arith, higher), (omega (arith, lower), omega (arith, higher))))
wider_under Attach at count low high hull lower higher = (lower, (higher, tt))
wider_under Read at count low high hull lower higher = (lower, (higher, tt))
wider_under Sync at count low high hull lower higher = (lower, (higher, tt))

-- a range that holds the one of the calls holds the one that they began with, and all calls
pub hull_holds :
    (entries : List LoggedCall) (hull : ℕ × ℕ) (low high : ℕ) → low ≤ (fold hull_behind hull entries).0
    → (fold hull_behind hull entries).1 ≤ high
    → (low ≤ hull.0) × ((hull.1 ≤ high) × AreHeld low high entries)
hull_holds [] hull low high lower higher = (lower, (higher, tt))
hull_holds (entry ∷ entries) hull low high lower higher =
    let behind = hull_holds entries (hull_behind hull entry) low high lower higher in
    let here = wider_under entry.kind entry.at entry.count low high hull behind.0 behind.1.0 in
    (here.0, (here.1.0, (here.1.1, behind.1.1)))

within_under :
    (size : ℕ) (kind : CallKind) (at count : ℕ) (hull : ℕ × ℕ) → at + count ≤ size → (hull.0 ≤ size) × (hull.1 ≤ size)
    → ((hull_under kind at count hull).0 ≤ size) × ((hull_under kind at count hull).1 ≤ size)
within_under size Write at count hull within are = (omega (arith, are.0), omega (arith, are.1, within))
within_under size Attach at count hull within are = are
within_under size Read at count hull within are = are
within_under size Sync at count hull within are = are

-- it lies within the disk where the calls do
pub hull_within :
    (size : ℕ) (entries : List LoggedCall) (hull : ℕ × ℕ) → AreSized size entries → (hull.0 ≤ size) × (hull.1 ≤ size)
    → ((fold hull_behind hull entries).0 ≤ size) × ((fold hull_behind hull entries).1 ≤ size)
hull_within size [] hull sized are = are
hull_within size (entry ∷ entries) hull sized are =
    hull_within size entries (hull_behind hull entry) sized.1
    (within_under size entry.kind entry.at entry.count hull sized.0 are)
