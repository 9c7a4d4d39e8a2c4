-- The replies that have a text: to a question, to S1F13, and to what is acknowledged.

use Rattle.std.proofs.Common.{sym, ap, ◌∙◌, Some}
use Rattle.host_node.proofs.Texts.{to_acknowledged, to_establishing, to_question}
use Rattle.host_node.proofs.replies.reply_text.Goals as goal

pub returns-then-is_question-clause-text : goal.returns-then-is_question-clause-text
returns-then-is_question-clause-text c =
    ap Some c.in_ok-of.ensures
    ∙ to_question c.args.stream c.args.function (sym c.is_question.ensures ∙ c.if-is_question.true)

pub returns-then-is_establishing-clause-text : goal.returns-then-is_establishing-clause-text
returns-then-is_establishing-clause-text c =
    ap Some c.in_ok-of-2.ensures
    ∙ to_establishing c.args.stream c.args.function (sym c.is_question.ensures ∙ c.if-is_question.false)
    (sym c.is_establishing.ensures ∙ c.if-is_establishing.true)

pub returns-then-is_acknowledged-clause-text : goal.returns-then-is_acknowledged-clause-text
returns-then-is_acknowledged-clause-text c =
    ap Some c.in_ok-of-3.ensures
    ∙ to_acknowledged c.args.stream c.args.function (sym c.is_question.ensures ∙ c.if-is_question.false)
    (sym c.is_establishing.ensures ∙ c.if-is_establishing.false)
    (sym c.is_acknowledged.ensures ∙ c.if-is_acknowledged.true)
