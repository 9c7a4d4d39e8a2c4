-- What is promised of a text, from what reading its item has found.

use Rattle.secs_text.proofs.FaultLaws.{answers_fault, answers_named}
use Rattle.secs_text.proofs.TextLaws.{answers_found, answers_only}
use Rattle.secs_text.proofs.reading.read.Goals as goal

pub returns-clause-found : goal.returns-clause-found
returns-clause-found c = answers_found c.args.text.now c.read_item.result c.read_item.ensures

pub returns-clause-only : goal.returns-clause-only
returns-clause-only c = λ item reads. answers_only c.args.text.now c.read_item.result c.read_item.ensures item reads

pub returns-clause-fault : goal.returns-clause-fault
returns-clause-fault c = answers_fault c.args.text.now c.read_item.result c.read_item.ensures

pub returns-clause-named : goal.returns-clause-named
returns-clause-named c = λ e has. answers_named c.args.text.now c.read_item.result c.read_item.ensures e has
