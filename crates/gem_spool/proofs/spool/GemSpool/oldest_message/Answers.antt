-- The slots that were read have the oldest message, and the look keeps how the list stands.

use Rattle.std.proofs.Common.{◌≡◌, ◌<◌, ℕ, suc, ◌-◌, ◌∙◌, [], sym, ap, subst, arith}
use Rattle.disk_base.specs.declared.disk.DiskAnswer.TheVariants.{Failed}
use Rattle.gem_spool.specs.Oldest.{HasReadSlots, ReadsOn, known_head, oldest_looks}
use Rattle.gem_spool.proofs.First.{known_wide, look_stands}
use Rattle.gem_spool.proofs.OldestRead.{known_listed, read_message, read_stands, reads_oldest}
use Rattle.gem_spool.proofs.Pieces.{first_failed}
use Rattle.spool_file.specs.Sizes.{slots_for}
use Rattle.spool_file.specs.declared.slot.SlotHead.{SlotHead}
use Rattle.spool_slots.specs.Changes.{IsListed}
use Rattle.spool_slots.specs.declared.states.OldestAnswer.TheVariants as oldest
use Rattle.gem_spool.proofs.spool.GemSpool.oldest_message.Goals as goal

pub head_by-requires : goal.head_by-requires
head_by-requires g c =
    let one : 0 < c.args.self.now.spool.len = omega (arith, c.if-len-eq0.false, c.len.ensures.len) in
    let size = c.requires.size one in
    omega (arith, size.within, c.len.ensures.room)

pub read_on-requires-clause-len : goal.read_on-requires-clause-len
read_on-requires-clause-len g c =
    let one : 0 < c.args.self.now.spool.len = omega (arith, c.if-len-eq0.false, c.len.ensures.len) in
    let size = c.requires.size one in
    ap (λ (h : SlotHead). slots_for h.len) c.head_by.ensures
    ∙ known_wide c.in-Found.head c.first-number.result c.args.slots size.some

pub read_on-requires-clause-listed : goal.read_on-requires-clause-listed
read_on-requires-clause-listed g c = λ s told.
    let v = c.args.self.now.spool in
    let one : 0 < v.len = omega (arith, c.if-len-eq0.false, c.len.ensures.len) in
    let head : c.head_by.result ≡ known_head c.in-Found.head v.first c.args.slots =
    c.head_by.ensures ∙ ap (λ (n : ℕ). known_head c.in-Found.head n c.args.slots) c.first-number.ensures.first in
    subst (IsListed s) (sym head)
    (known_listed g.D.Disk v c.oldest.new.self [] c.oldest.new.into c.in-Found.head c.in-Found.ensures c.args.slots
    (c.requires.size one) c.len.ensures.room (λ r told'. c.len.ensures.rests r told') s
    (sym c.in-Found.ensures.0.told ∙ told))

pub returns-in-Found-clause-reads : goal.returns-in-Found-clause-reads
returns-in-Found-clause-reads g c =
    let v = c.args.self.now.spool in
    let one : 0 < v.len = omega (arith, c.if-len-eq0.false, c.len.ensures.len) in
    let head : c.head_by.result ≡ known_head c.in-Found.head v.first c.args.slots =
    c.head_by.ensures ∙ ap (λ (n : ℕ). known_head c.in-Found.head n c.args.slots) c.first-number.ensures.first in
    reads_oldest g.D.Disk v c.oldest.new.self [] c.oldest.new.into c.in-Found.head c.in-Found.ensures c.args.slots
    (c.requires.size one) c.len.ensures.room (λ r told'. c.len.ensures.rests r told') c.read_on.new.self.spool
    c.read_on.result
    (subst (λ (h : SlotHead). ReadsOn g.D.Disk c.oldest.new.self c.read_on.new.self.spool c.args.slots h
    c.oldest.new.into c.read_on.result) head c.read_on.ensures.reads)

pub returns-in-Found-clause-message : goal.returns-in-Found-clause-message
returns-in-Found-clause-message g c = λ s told message rest has.
    let v = c.args.self.now.spool in
    let one : 0 < v.len = omega (arith, c.if-len-eq0.false, c.len.ensures.len) in
    let head : c.head_by.result ≡ known_head c.in-Found.head v.first c.args.slots =
    c.head_by.ensures ∙ ap (λ (n : ℕ). known_head c.in-Found.head n c.args.slots) c.first-number.ensures.first in
    read_message g.D.Disk v c.read_on.new.self.spool c.args.slots c.read_on.result
    (reads_oldest g.D.Disk v c.oldest.new.self [] c.oldest.new.into c.in-Found.head c.in-Found.ensures c.args.slots
    (c.requires.size one) c.len.ensures.room (λ r told'. c.len.ensures.rests r told') c.read_on.new.self.spool
    c.read_on.result
    (subst (λ (h : SlotHead). ReadsOn g.D.Disk c.oldest.new.self c.read_on.new.self.spool c.args.slots h
    c.oldest.new.into c.read_on.result) head c.read_on.ensures.reads)) s told message rest has

pub returns-in-Found-clause-stands : goal.returns-in-Found-clause-stands
returns-in-Found-clause-stands g c = λ st stands.
    let v = c.args.self.now.spool in
    let one : 0 < v.len = omega (arith, c.if-len-eq0.false, c.len.ensures.len) in
    let head : c.head_by.result ≡ known_head c.in-Found.head v.first c.args.slots =
    c.head_by.ensures ∙ ap (λ (n : ℕ). known_head c.in-Found.head n c.args.slots) c.first-number.ensures.first in
    read_stands g.D.Disk v c.read_on.new.self.spool st stands c.args.slots c.read_on.result
    (reads_oldest g.D.Disk v c.oldest.new.self [] c.oldest.new.into c.in-Found.head c.in-Found.ensures c.args.slots
    (c.requires.size one) c.len.ensures.room (λ r told'. c.len.ensures.rests r told') c.read_on.new.self.spool
    c.read_on.result
    (subst (λ (h : SlotHead). ReadsOn g.D.Disk c.oldest.new.self c.read_on.new.self.spool c.args.slots h
    c.oldest.new.into c.read_on.result) head c.read_on.ensures.reads))

pub returns-in-Failed-clause-reads : goal.returns-in-Failed-clause-reads
returns-in-Failed-clause-reads g c =
    let v = c.args.self.now.spool in
    let one : 0 < v.len = omega (arith, c.if-len-eq0.false, c.len.ensures.len) in
    let size = c.requires.size one in
    let all : suc (c.args.slots - 1) ≡ c.args.slots = let some = size.some in omega (arith, some) in (
      subst (λ (n : ℕ). HasReadSlots g.D.Disk v c.oldest.new.self (oldest_looks v n) Failed) all
          (first_failed g.D.Disk v c.oldest.new.self c.in-Failed.ensures.0 (c.args.slots - 1)),
      one,
    )

pub returns-in-Failed-clause-stands : goal.returns-in-Failed-clause-stands
returns-in-Failed-clause-stands g c = λ st stands.
    look_stands g.D.Disk c.args.self.now.spool c.oldest.new.self st stands [] c.oldest.new.into oldest.Failed
    c.in-Failed.ensures
