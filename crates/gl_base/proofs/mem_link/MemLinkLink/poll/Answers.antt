-- The first of the events that are left is answered: what it tells, that it comes in time, and that it stays a link.

use Rattle.std.proofs.Common.{subst, rules}
use Rattle.gl_base.specs.Link.{IsFirstOf, IsTimely}
use Rattle.gl_base.proofs.Events.{next_is, same_events}
use Rattle.gl_base.proofs.mem_link.MemLinkLink.poll.Goals as goal

pub invariant_of-self-2 : goal.invariant_of-self-2
invariant_of-self-2 c =
    let next = next_is _ _ _ c.next_of-answer.ensures.event c.self.invariant.3 in (
      c.next_of-answer.ensures.within,
      search rules,
      search rules,
      same_events _ _ _ _ c.moment_of-self-inside.ensures c.next_of-answer.ensures.left next.rest,
    )

pub returns-clause-next : goal.returns-clause-next
returns-clause-next c =
    let next = next_is _ _ _ c.next_of-answer.ensures.event c.self.invariant.3 in
    subst (λ s. IsFirstOf s.left c.next_of-answer.result.0) c.self.view_is next.first

pub returns-clause-told : goal.returns-clause-told
returns-clause-told c =
    let next = next_is _ _ _ c.next_of-answer.ensures.event c.self.invariant.3 in
    next.told _ _ _ (search rules) (search rules)

pub returns-clause-time : goal.returns-clause-time
returns-clause-time c =
    let next = next_is _ _ _ c.next_of-answer.ensures.event c.self.invariant.3 in
    subst (λ s. IsTimely c.args.until s.moment c.next_of-answer.result.0) c.self.view_is (next.time _ c.requires)

pub returns-clause-cause : goal.returns-clause-cause
returns-clause-cause c =
    let next = next_is _ _ _ c.next_of-answer.ensures.event c.self.invariant.3 in
    next.good _ _ (record { same = search rules; relied = search rules; used = search rules })
