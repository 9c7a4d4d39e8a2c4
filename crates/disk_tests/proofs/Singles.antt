-- That messages which take as many slots as there are of them take one each.
use Rattle.std.proofs.Common.{◌≡◌, sym, ap, subst, ◌∙◌, arith, zero, suc, ◌+◌, ◌-◌, ◌<◌, ◌≤◌, ℕ, List, [], ◌∷◌, ◌++◌, length}
use Rattle.std.proofs.Common.{Some, sum_by}
use Rattle.std.proofs.lemmas.List.Sums.{sum_by-cons}
use Rattle.std.specs.List.{slice_get}
use Rattle.disk_base.specs.Story.{Story}
use Rattle.disk_base.specs.declared.disk.Disk as disk
use Rattle.gem_spool.specs.Standing.{Stands, standing_of}
use Rattle.gem_spool.specs.Works.{oldest_width}
use Rattle.gem_spool.specs.declared.count.Count.{Count}
use Rattle.gem_spool.proofs.Doing.{same_file}
use Rattle.spool_file.specs.File.{SpoolFile, file_in}
use Rattle.spool_file.specs.Slot.{Message, width}
use Rattle.spool_file.proofs.Runs.{chain_up, some_width}
use Rattle.spool_slots.specs.Changes.{IsFirstSize}
use Rattle.spool_slots.specs.Spool.{SpoolView}

least-used : (list : List Message) → length list ≤ sum_by width list
least-used [] = omega arith
least-used (m ∷ list) =
    let rest = least-used list in
    let some = some_width m in
    let all = sum_by-cons width m list in
    omega (arith, rest, some, all)

oldest-one : (list more : List Message) → sum_by width list ≡ length list → 0 < length list
    → 1 ≡ oldest_width (list ++ more)
oldest-one [] more single some = absurd (omega (arith, some))
oldest-one (m ∷ list) more single some =
    let rest = least-used list in
    let least = some_width m in
    let all = sum_by-cons width m list in
    omega (arith, rest, least, all, single)

first-one : (list : List Message) (m : Message) → sum_by width list ≡ length list → slice_get list 0 ≡ Some m
    → 1 ≡ width m
first-one [] m single is = absurd (cc)
first-one (x ∷ list) m single is =
    let same : x ≡ m = cc in
    oldest-one (x ∷ list) [] single (omega arith) ∙ ap width same

module _ {D : Type 0} (members : disk.Ghosts D) (v : SpoolView D) (stands : Stands members v (standing_of members v))
    (single : v.next - v.first ≡ v.len) (some : 0 < v.len)
  where
    abbrev list : List Message
    list = (standing_of members v).file.list

    long : v.len ≡ length list
    long = ap (λ (c : Count). c.len) stands.count

    used : sum_by width list ≡ length list
    used = sym (ap (λ (c : Count). c.used) stands.count) ∙ single ∙ long

    pub first-size : IsFirstSize members v 1
    first-size =
        let up = chain_up v.first v.next list stands.chain in
        record {
          some = omega arith;
          is = λ s told m is.
              first-one list m used
              (subst (λ (f : SpoolFile). slice_get f.list 0 ≡ Some m)
              (sym (same_file members v (standing_of members v) stands s told)) is);
          within = omega (arith, some, long, up);
          last = λ one. omega (arith, single, one, long, up);
        }

    pub oldest-size : (s : Story) → members.told v.disk ≡ Some s → (more : List Message)
        → 1 ≡ oldest_width ((file_in s.now.bytes).list ++ more)
    oldest-size s told more =
        subst (λ (f : SpoolFile). 1 ≡ oldest_width (f.list ++ more))
        (same_file members v (standing_of members v) stands s told)
        (oldest-one list more used (omega (arith, some, long)))
