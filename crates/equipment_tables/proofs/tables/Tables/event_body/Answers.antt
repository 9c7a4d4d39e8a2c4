-- A body that isn't too long is its item's spelling, and within the limit.

use Rattle.equipment_tables.specs.Answers.{event_item}
use Rattle.equipment_tables.specs.Tables.{state_of}
use Rattle.equipment_tables.proofs.Bodies.{body_within, row_is, too_long}
use Rattle.equipment_tables.proofs.tables.Tables.event_body.Goals as goal

pub returns-then-is_past-clause-body : goal.returns-then-is_past-clause-body
returns-then-is_past-clause-body c =
    let item = event_item (state_of c.args.self.now) c.args.ceid c.args.dataid in
    too_long c.args.max_body item c.is_past.result (c.is_past.ensures item (c.event_len.ensures c.args.dataid))
    c.if-is_past.true

pub returns-clause-body : goal.returns-clause-body
returns-clause-body c =
    let item = event_item (state_of c.args.self.now) c.args.ceid c.args.dataid in
    row_is c.args.max_body c.in_ok-event_item.field-0 item c.is_past.result c.spelled.result c.in_ok-event_item.ensures
    (c.is_past.ensures item (c.event_len.ensures c.args.dataid)) c.if-is_past.false c.spelled.ensures

pub returns-clause-within : goal.returns-clause-within
returns-clause-within c =
    let item = event_item (state_of c.args.self.now) c.args.ceid c.args.dataid in
    body_within c.args.max_body item c.spelled.result
    (row_is c.args.max_body c.in_ok-event_item.field-0 item c.is_past.result c.spelled.result c.in_ok-event_item.ensures
    (c.is_past.ensures item (c.event_len.ensures c.args.dataid)) c.if-is_past.false c.spelled.ensures)
