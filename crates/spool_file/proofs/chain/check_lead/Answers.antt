-- The slot says of the message behind it what the file's does, and is alone exactly where that one is.

use Rattle.std.proofs.Common.{◌≡◌, ◌∙◌, Bool, true, false, None, refl, sym, subst, arith}
use Rattle.spool_file.specs.Chain.{LoneIs}
use Rattle.spool_file.specs.Slot.{slot_in}
use Rattle.spool_file.proofs.Starts.{broken_on, same_lead, same_lone}
use Rattle.spool_file.proofs.chain.check_lead.Goals as goal

pub returns-then-not-tested-clause-lead : goal.returns-then-not-tested-clause-lead
returns-then-not-tested-clause-lead g c s told =
    let untested : c.args.tested ≡ false = grind (arith, c.if-not-tested.true) in
    let is = c.in-Done.ensures.start s told in (
      c.lead.ensures ∙ same_lead s.now.bytes c.read_start.new.start c.args.slot c.read_start.array_long is c.args.floor,
      subst (λ (b : Bool). LoneIs c.args.floor c.args.least b c.args.window.now (slot_in s.now.bytes c.args.slot) None)
          (sym untested) refl,
    )

pub returns-in-Some-clause-lead : goal.returns-in-Some-clause-lead
returns-in-Some-clause-lead g c s told =
    let is = c.in-Done.ensures.start s told in (
      grind (arith, c.if-not-tested.false),
      broken_on s.now.bytes c.read_start.new.start c.args.slot c.in-Some.place _ _ c.break_in.result is
          (same_lone s.now.bytes c.read_start.new.start c.args.slot c.read_start.array_long is c.args.floor c.args.least
          c.args.window.now)
          (sym c.in-Some.is ∙ c.start_lone.ensures.place) c.break_in.ensures.at c.break_in.ensures.got,
    )

pub returns-in-None-clause-lead : goal.returns-in-None-clause-lead
returns-in-None-clause-lead g c s told =
    let tested : c.args.tested ≡ true = grind (arith, c.if-not-tested.false) in
    let is = c.in-Done.ensures.start s told in (
      c.lead-in-None.ensures
          ∙ same_lead s.now.bytes c.read_start.new.start c.args.slot c.read_start.array_long is c.args.floor,
      subst (λ (b : Bool). LoneIs c.args.floor c.args.least b c.args.window.now (slot_in s.now.bytes c.args.slot) None)
          (sym tested)
          (sym (same_lone s.now.bytes c.read_start.new.start c.args.slot c.read_start.array_long is c.args.floor
          c.args.least c.args.window.now)
          ∙ sym c.start_lone.ensures.place ∙ c.in-None.is),
    )
