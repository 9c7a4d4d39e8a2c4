-- What was read is asked for, and its parameters are those that the tables judge.

use Rattle.equipment_tables.proofs.Requests.{answer_asked}
use Rattle.equipment_tables.proofs.answers.request_of.Goals as goal

pub returns-clause-asked : goal.returns-clause-asked
returns-clause-asked c =
    answer_asked c.parameters_are_read.ensures c.args.stream c.args.function c.args.body.now c.read_request.result
    c.read_request.ensures.asks
