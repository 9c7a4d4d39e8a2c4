-- That the calls of works are as many as are counted of them, and write as many bytes.
use Rattle.std.proofs.Common.{◌≡◌, refl, arith, List, [], ◌∷◌, length, length-append}
use Rattle.gem_spool.specs.Standing.{Standing}
use Rattle.spool_file.specs.Logs.{written_by}
use Rattle.spool_works.specs.DiskWorks.{DiskWork, all_bytes, all_calls, standing_behind}
use Rattle.spool_works.specs.DiskCalls.{all_disk_calls, disk_calls}
use Rattle.spool_file.proofs.Making.{written_both}

pub works-long : (st : Standing) (works : List DiskWork) → length (all_disk_calls st works) ≡ all_calls st works
works-long st [] = refl
works-long st (one ∷ works) =
    let both = length-append (disk_calls st one) (all_disk_calls (standing_behind st one) works) in
    let more = works-long (standing_behind st one) works in
    omega (arith, both, more)

pub works-written : (st : Standing) (works : List DiskWork) → written_by (all_disk_calls st works) ≡ all_bytes st works
works-written st [] = refl
works-written st (one ∷ works) =
    let both = written_both (disk_calls st one) (all_disk_calls (standing_behind st one) works) in
    let more = works-written (standing_behind st one) works in
    omega (arith, both, more)
