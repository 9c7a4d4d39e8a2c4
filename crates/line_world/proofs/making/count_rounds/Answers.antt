-- All rounds by where they end: at the start, on the way, or behind the last one.

use Rattle.std.proofs.Common.{refl}
use Rattle.end_pair.specs.Kept.{seen}
use Rattle.end_pair.specs.World.{after_events, and_more, begun, still}
use Rattle.message_end.specs.Core.{step_in}
use Rattle.line_world.specs.Counting.{no_lines}
use Rattle.line_world.specs.Make.{make_events}
use Rattle.line_world.proofs.Carried.{closes-all, counted-first, ended-on-way, ends-with, leads-done, leads-first, leads-on}
use Rattle.line_world.proofs.making.count_rounds.Goals as goal

pub returns-in-Err : goal.returns-in-Err
returns-in-Err g c =
    let e = g.E.End in
    let h = g.H.End in
    let begins = begun e.machine h.machine (step_in (e.start c.args.equipment.now c.args.equipment_store))
    (step_in (h.start c.args.host.now c.args.host_store)) in
    counted-first begins (after_events e.machine h.machine (make_events c.args.rounds)) c.in-Err.stop
    c.in-Err.ensures.err

pub returns-in-Went : goal.returns-in-Went
returns-in-Went g c =
    let e = g.E.End in
    let h = g.H.End in
    let begins = begun e.machine h.machine (step_in (e.start c.args.equipment.now c.args.equipment_store))
    (step_in (h.start c.args.host.now c.args.host_store)) in
    let more = after_events e.machine h.machine (make_events c.args.rounds) in
    let whole = and_more begins more in
    let first = c.in-Ok.making in
    let last = c.carry_rounds.new.self in
    let leads =
    leads-on begins more (seen e.means h.means first.world) no_lines first.counts whole no_lines c.in-Ok.ensures.ok
    (leads-first whole no_lines)
    in
    closes-all whole (seen e.means h.means last.world) last.counts last.world.moment c.close.result
    (leads-done (seen e.means h.means last.world) last.counts whole no_lines
    (c.in-Went.ensures whole no_lines leads))
    refl c.close.ensures

pub returns-in_default : goal.returns-in_default
returns-in_default g c =
    let e = g.E.End in
    let h = g.H.End in
    let begins = begun e.machine h.machine (step_in (e.start c.args.equipment.now c.args.equipment_store))
    (step_in (h.start c.args.host.now c.args.host_store)) in
    let more = after_events e.machine h.machine (make_events c.args.rounds) in
    let whole = and_more begins more in
    let first = c.in-Ok.making in
    let last = c.carry_rounds.new.self in
    let leads =
    leads-on begins more (seen e.means h.means first.world) no_lines first.counts whole no_lines c.in-Ok.ensures.ok
    (leads-first whole no_lines)
    in
    ended-on-way whole (seen e.means h.means last.world) no_lines last.counts c.carry_rounds.result
    c.in_default.not-Went
    (ends-with c.carry_rounds.result (still (seen e.means h.means last.world)) whole
    (seen e.means h.means last.world) no_lines last.counts c.in_default.not-Went
    (c.carry_rounds.ensures whole no_lines leads))
