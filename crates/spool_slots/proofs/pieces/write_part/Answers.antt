-- The first slot has all of the message's fields, and each other one its piece.

use Rattle.std.proofs.Common.{◌≡◌, ℕ, ◌+◌, ◌==◌, Bool, true, false, if◌then◌else◌, length, ◌∙◌, ap, sym}
use Rattle.std.proofs.Common.{arith}
use Rattle.std.proofs.lemmas.Bool.Decides.{nat_tests}
use Rattle.spool_slots.proofs.Joined.{slots_reach}
use Rattle.spool_slots.specs.Calls.{number_place, part_bytes, part_place, parts_of, piece_of}
use Rattle.spool_slots.proofs.Carrying.{write_as}
use Rattle.spool_slots.proofs.pieces.write_part.Goals as goal

pub piece_of-requires : goal.piece_of-requires
piece_of-requires g c =
    slots_reach (length c.args.message.now.body.now) c.args.place c.requires.place

pub returns-then-place-eq0 : goal.returns-then-place-eq0
returns-then-place-eq0 g c =
    let m = c.args.message.now in
    let place = c.args.place in
    let number = c.args.number in
    let test : (place == 0) ≡ true = grind (arith, nat_tests, c.if-place-eq0.true) in
    write_as g.D.Disk c.args.disk.now c.write_at.new.disk (c.number_place-at.result + 1)
    (number_place c.args.slots (number + place) + part_place place) c.deref.result.now
    (part_bytes number m.stream m.function m.body.now place) c.write_at.result
    (ap (λ (x : ℕ). x + 1) c.number_place-at.ensures.place
    ∙ ap (λ (b : Bool). number_place c.args.slots (number + place) + (if b then 1 else 15)) (sym test))
    (c.deref.ensures.0 ∙ c.parts_of.ensures
    ∙ ap (λ (b : Bool). if b then parts_of number m.stream m.function m.body.now else piece_of m.body.now place)
    (sym test)) c.write_at.ensures

pub returns : goal.returns
returns g c =
    let m = c.args.message.now in
    let place = c.args.place in
    let number = c.args.number in
    let test : (place == 0) ≡ false = grind (arith, nat_tests, c.if-place-eq0.false) in
    write_as g.D.Disk c.args.disk.now c.write_at-2.new.disk (c.number_place-at.result + 15)
    (number_place c.args.slots (number + place) + part_place place) c.piece_of.result.now
    (part_bytes number m.stream m.function m.body.now place) c.write_at-2.result
    (ap (λ (x : ℕ). x + 15) c.number_place-at.ensures.place
    ∙ ap (λ (b : Bool). number_place c.args.slots (number + place) + (if b then 1 else 15)) (sym test))
    (c.piece_of.ensures.piece
    ∙ ap (λ (b : Bool). if b then parts_of number m.stream m.function m.body.now else piece_of m.body.now place)
    (sym test)) c.write_at-2.ensures
