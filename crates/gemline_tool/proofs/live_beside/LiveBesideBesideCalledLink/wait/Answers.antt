-- The wait's answer comes with all that has come, and no fault of the link is passed over.

use Rattle.std.proofs.Common.{ℕ, Bool, [], List, ◌++◌, ◌||◌, refl, sym, ap, subst, ◌∙◌}
use Rattle.gl_base.specs.Events.{moment_after}
use Rattle.gl_base.specs.Link.{HasPollCause}
use Rattle.gl_base.specs.declared.link.LinkIn.{LinkIn}
use Rattle.gl_base.specs.declared.link.LinkIn.TheVariants.{Failed}
use Rattle.live_commands.specs.Coming.{GoesThrough}
use Rattle.live_link.specs.Waits.{CountsWait, brings, called_health}
use Rattle.gemline_tool.proofs.Waiting.{comes_with, fails_with, first_false, goes_behind, goes_on, no_fault, none_passed, none_told, passes_behind, passes_through, wait_cause}
use Rattle.gemline_tool.proofs.live_beside.LiveBesideBesideCalledLink.wait.Goals as goal

pub waits-init : goal.waits-init
waits-init g c = (
  ([], none_passed c.args.reader.now.here),
  c.requires.read,
  c.moment-before.ensures,
  sym c.moment-before.ensures,
  refl,
  refl,
)

pub waits-preserved : goal.waits-preserved
waits-preserved g c =
    let i = c.waits.invariant in
    let bytes = c.look.new.self.input.bytes in
    let on = sym c.waits_on.ensures ∙ c.if-not-waits_on.false in
    let quiet = goes_on c.moment-before.result c.args.until c.waits.link.moment c.is_any-any.result c.wait-answer.result on
    in
    let none = sym c.begin-found.ensures.found ∙ first_false _ _ (sym c.is_any-any.ensures ∙ quiet.0) in (
      (
        i.0.0 ++ bytes,
        passes_behind c.args.reader.now.here c.waits.reader.here i.0.0 bytes bytes c.begin-found.new.self i.0.1
            (subst (λ (b : List ℕ). GoesThrough c.waits.reader.here b c.begin-found.new.self b) c.came.ensures
            c.begin-found.ensures.through) none,
      ),
      none,
      i.2,
      c.wait-answer.ensures.moment ∙ quiet.1,
      c.wait-answer.ensures.connected ∙ i.4,
      no_fault _ _ _ _ on _ _ c.wait-answer.ensures.count ∙ i.5,
    )

pub returns-then-not-waits_on-clause-came : goal.returns-then-not-waits_on-clause-came
returns-then-not-waits_on-clause-came g c =
    let i = c.waits.invariant in
    let here = c.args.reader.now.here in
    let at = c.look.new.self in
    let reader = c.begin-found.new.self in
    let answer = c.wait-answer.result in
    let input = c.wait-answer.new.input in
    comes_with here reader (i.0.0 ++ at.input.bytes) at.input.bytes at.news at.ended at.caller at.address.bytes
    (brings input.bytes input.news) c.is_any-any.result c.args.link.now.moment c.moment-before.result
    c.waits.link.moment c.args.until answer i.2 i.3
    (c.is_any-any.ensures ∙ ap (λ (f : Bool). f || (at.news || at.ended)) c.begin-found.ensures.found)
    (sym c.waits_on.ensures ∙ c.if-not-waits_on.true) c.wait-answer.ensures.time
    (goes_behind here c.waits.reader.here i.0.0 at.input.bytes at.input.bytes reader i.0.1
    (subst (λ (b : List ℕ). GoesThrough c.waits.reader.here b reader b) c.came.ensures c.begin-found.ensures.through))

pub returns-then-not-waits_on-clause-told : goal.returns-then-not-waits_on-clause-told
returns-then-not-waits_on-clause-told g c = none_told c.args.until c.wait-answer.result

pub returns-then-not-waits_on-clause-moment : goal.returns-then-not-waits_on-clause-moment
returns-then-not-waits_on-clause-moment g c =
    let i = c.waits.invariant in
    c.wait-answer.ensures.moment ∙ ap (λ (m : ℕ). moment_after m c.wait-answer.result) (i.3 ∙ i.2)

pub returns-then-not-waits_on-clause-cause : goal.returns-then-not-waits_on-clause-cause
returns-then-not-waits_on-clause-cause g c =
    wait_cause _ _ c.wait-answer.result
    (subst (λ (n : ℕ). CountsWait n c.wait-answer.new.self.faults c.wait-answer.result) c.waits.invariant.5
    c.wait-answer.ensures.count)

pub returns-clause-came : goal.returns-clause-came
returns-clause-came g c =
    let i = c.waits.invariant in
    let bytes = c.waits.self.input.bytes in
    fails_with c.args.reader.now.here c.waits.reader i.0.0 bytes _ _ _ _ _ c.give_up.ensures.failed
    (passes_through c.args.reader.now.here i.0.0 bytes c.waits.reader i.0.1 i.1)

pub returns-clause-cause : goal.returns-clause-cause
returns-clause-cause g c =
    subst
    (λ (a : LinkIn). HasPollCause (called_health c.args.link.now.faults) (called_health c.give_up.new.self.faults) a)
    (sym c.give_up.ensures.failed)
    (wait_cause c.args.link.now.faults c.give_up.new.self.faults Failed
    (subst (λ (n : ℕ). CountsWait n c.give_up.new.self.faults Failed) c.waits.invariant.5 c.give_up.ensures.rose))
