-- The content of a list of five begins with the first item, and goes on with each other one behind the one before it.

use Rattle.std.proofs.Common.{arith}
use Rattle.secs_items.specs.declared.item.Item.{out-Item}
use Rattle.gem_shapes.specs.Elements.{list_of}
use Rattle.gem_shapes.proofs.Lists.{begins, begins_behind, five_before, five_found, one_more}
use Rattle.gem_shapes.proofs.part.five_of.Goals as goal

pub front_of-first-requires : goal.front_of-first-requires
front_of-first-requires c =
    begins (list_of (out-Item c.args.part.now.item)) c.in_ok-count.count c.in_ok-count.bytes.now
    c.in_ok-count.ensures.spelled (omega (arith, c.if-count-ne5.false))

pub front_of-second-requires : goal.front_of-second-requires
front_of-second-requires c =
    let all =
    five_before (list_of (out-Item c.args.part.now.item)) c.in_ok-count.count c.in_ok-count.bytes.now
    c.in_ok-count.ensures.spelled c.if-count-ne5.false in
    begins_behind _ _ 4 _ (one_more _ _ 4 _ _ _ all c.front_of-first.ensures.items) (omega (arith))

pub front_of-third-requires : goal.front_of-third-requires
front_of-third-requires c =
    let all =
    five_before (list_of (out-Item c.args.part.now.item)) c.in_ok-count.count c.in_ok-count.bytes.now
    c.in_ok-count.ensures.spelled c.if-count-ne5.false in
    let one = one_more _ _ 4 _ _ _ all c.front_of-first.ensures.items in
    begins_behind _ _ 3 _ (one_more _ _ 3 _ _ _ one c.front_of-second.ensures.items) (omega (arith))

pub front_of-fourth-requires : goal.front_of-fourth-requires
front_of-fourth-requires c =
    let all =
    five_before (list_of (out-Item c.args.part.now.item)) c.in_ok-count.count c.in_ok-count.bytes.now
    c.in_ok-count.ensures.spelled c.if-count-ne5.false in
    let one = one_more _ _ 4 _ _ _ all c.front_of-first.ensures.items in
    let two = one_more _ _ 3 _ _ _ one c.front_of-second.ensures.items in
    begins_behind _ _ 2 _ (one_more _ _ 2 _ _ _ two c.front_of-third.ensures.items) (omega (arith))

pub front_of-fifth-requires : goal.front_of-fifth-requires
front_of-fifth-requires c =
    let all =
    five_before (list_of (out-Item c.args.part.now.item)) c.in_ok-count.count c.in_ok-count.bytes.now
    c.in_ok-count.ensures.spelled c.if-count-ne5.false in
    let one = one_more _ _ 4 _ _ _ all c.front_of-first.ensures.items in
    let two = one_more _ _ 3 _ _ _ one c.front_of-second.ensures.items in
    let three = one_more _ _ 2 _ _ _ two c.front_of-third.ensures.items in
    begins_behind _ _ 1 _ (one_more _ _ 1 _ _ _ three c.front_of-fourth.ensures.items) (omega (arith))

pub returns : goal.returns
returns c =
    let all =
    five_before (list_of (out-Item c.args.part.now.item)) c.in_ok-count.count c.in_ok-count.bytes.now
    c.in_ok-count.ensures.spelled c.if-count-ne5.false in
    let one = one_more _ _ 4 _ _ _ all c.front_of-first.ensures.items in
    let two = one_more _ _ 3 _ _ _ one c.front_of-second.ensures.items in
    let three = one_more _ _ 2 _ _ _ two c.front_of-third.ensures.items in
    let four = one_more _ _ 1 _ _ _ three c.front_of-fourth.ensures.items in
    five_found _ _ _ _ _ _ _ (one_more _ _ 0 _ _ _ four c.front_of-fifth.ensures.items)
