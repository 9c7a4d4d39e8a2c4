-- One waiting message ends with its note, and there are fewer; with none left all have ended.

use Rattle.std.proofs.Common.{rules, sym, ◌∙◌}
use Rattle.message_end.proofs.Ended.{no_waiting, one_waiting}
use Rattle.message_end.proofs.end.MessageEnd.end_waiting.Goals as goal

pub messages-smaller : goal.messages-smaller
messages-smaller g c =
    let one =
    one_waiting c.in-Some.header c.messages.self c.drop_front.new.self c.messages.out c.push.new.self
    (sym c.drop_front.ensures.header ∙ c.in-Some.is) (c.drop_front.ensures.carries c.messages.out) (search rules) in
    one.fewer

pub messages-preserved : goal.messages-preserved
messages-preserved g c =
    let one =
    one_waiting c.in-Some.header c.messages.self c.drop_front.new.self c.messages.out c.push.new.self
    (sym c.drop_front.ensures.header ∙ c.in-Some.is) (c.drop_front.ensures.carries c.messages.out) (search rules) in
    record { done = one.same ∙ c.messages.invariant.done; line = c.messages.invariant.line }

pub returns-clause-carries : goal.returns-clause-carries
returns-clause-carries g c =
    sym c.messages.invariant.done
    ∙ no_waiting c.messages.self c.drop_front.new.self c.messages.out
    (sym c.drop_front.ensures.header ∙ c.in_default.is)
    (c.drop_front.ensures.carries c.messages.out)
