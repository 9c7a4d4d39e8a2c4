use Rattle.std.proofs.Common.{subst}
use Rattle.block_codec.specs.Protocol.{longest_text}
use Rattle.message_flow.specs.Assembly.{WholeFits, WholeIsChecked}
use Rattle.tool_core.specs.Node.{node_of}
use Rattle.tool_core.proofs.Following.{reached}
use Rattle.tool_core.proofs.own.Tool.judge.Goals as goal

pub heed-requires-clause-checked : goal.heed-requires-clause-checked
heed-requires-clause-checked c = subst WholeIsChecked c.in-Whole.is c.requires.checked

pub heed-requires-clause-short : goal.heed-requires-clause-short
heed-requires-clause-short c = (subst (WholeFits longest_text) c.in-Whole.is c.requires.fits).1

pub returns-in-Whole-clause-does : goal.returns-in-Whole-clause-does
returns-in-Whole-clause-does c =
    rw c.in-Whole.is
    (reached (Unit {0}) _ (node_of c.heed.new.self) c.heed.new.out c.heed.result c.heed.ensures.does)

pub returns-in-Foreign-clause-does : goal.returns-in-Foreign-clause-does
returns-in-Foreign-clause-does c =
    rw c.in-Foreign.is
    (reached (Unit {0}) _ (node_of c.tell_error.new.self) c.tell_error.new.out c.tell_error.result
    c.tell_error.ensures.does)

pub returns-in-Unexpected-clause-does : goal.returns-in-Unexpected-clause-does
returns-in-Unexpected-clause-does c =
    rw c.in-Unexpected.is
    (reached (Unit {0}) _ (node_of c.give_up.new.self) c.give_up.new.out c.give_up.result c.give_up.ensures.does)

pub returns-in-Crowded-clause-does : goal.returns-in-Crowded-clause-does
returns-in-Crowded-clause-does c =
    rw c.in-Crowded.is
    (reached (Unit {0}) _ (node_of c.give_up-in-Crowded.new.self) c.give_up-in-Crowded.new.out
    c.give_up-in-Crowded.result
    c.give_up-in-Crowded.ensures.does)

pub returns-in-TooLong-clause-does : goal.returns-in-TooLong-clause-does
returns-in-TooLong-clause-does c =
    rw c.in-TooLong.is
    (reached (Unit {0}) _ (node_of c.give_up_long.new.self) c.give_up_long.new.out c.give_up_long.result
    c.give_up_long.ensures.does)
