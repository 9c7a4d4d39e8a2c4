-- What lies around the marked places stays as it is.

use Rattle.std.proofs.Common.{◌≡◌, ℕ, ◌+◌, ◌-◌, ◌∙◌, ◌++◌, List, length, take, drop, ap, sym, arith, rules}
use Rattle.std.specs.List.{slice_range}
use Rattle.std.proofs.Math.Seq.{take-length}
use Rattle.std.proofs.lemmas.List.{length-drop}
use Rattle.disk_base.specs.Cut.{bytes_left}
use Rattle.disk_base.proofs.Around.{left_at}
use Rattle.disk_base.proofs.cut.left_bytes.Goals as goal

pub returns : goal.returns
returns c =
    let from = c.args.from in
    let n = length c.args.marks.now in
    let now = c.args.now.now in
    let settled = c.args.settled.now in
    let behind = drop (from + n) now in
    let left = bytes_left c.args.choice c.args.marks.now (take n (drop from settled)) (take n (drop from now)) in
    let long : (from + n) - from ≡ n = omega arith in
    let before : c.extend_from_slice.new.self.items ≡ take from now = search rules in
    let middle : c.leave_pages.new.image.items ≡ c.extend_from_slice.new.self.items ++ left = search (rules, long) in
    let all : c.extend_from_slice-2.new.self.items
    ≡ c.leave_pages.new.image.items ++ slice_range now (from + n) (length now) = search rules in
    let rest : slice_range now (from + n) (length now) ≡ behind =
    ap (λ (k : ℕ). take k behind) (sym (length-drop (from + n) now)) ∙ take-length behind in
    all
    ∙ ap (λ (bytes : List ℕ). c.leave_pages.new.image.items ++ bytes) rest
    ∙ ap (λ (bytes : List ℕ). bytes ++ behind) (middle ∙ ap (λ (bytes : List ℕ). bytes ++ left) before)
    ∙ sym (left_at from c.args.choice c.args.marks.now settled now c.requires.marks c.requires.settled)
