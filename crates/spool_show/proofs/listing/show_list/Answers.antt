-- Head and list are sent, or cut off by a write, or a message ends them.

use Rattle.spool_show.proofs.ShownFiles.{head_put, list_cut, list_sent, list_stops}
use Rattle.spool_slots.specs.Spool.{known_of}
use Rattle.spool_show.proofs.listing.show_list.Goals as goal

pub put_list-requires : goal.put_list-requires
put_list-requires g c = c.len.ensures.rests

pub returns-in_default : goal.returns-in_default
returns-in_default g c = record {
  shown = list_stops _ (known_of c.args.spool.now) c.len.ensures.rests _
      (head_put _ _ c.put_head_line.ensures c.new-page.ensures c.slots.ensures.slots c.mark.ensures.mark c.len.ensures.len)
      _ _ _ c.in_default.not-Done c.put_list.ensures.lines;
  read = c.put_list.ensures.read;
}

pub returns-in-Done-send-clause-shown : goal.returns-in-Done-send-clause-shown
returns-in-Done-send-clause-shown g c =
    list_sent _ (known_of c.args.spool.now) c.len.ensures.rests _
    (head_put _ _ c.put_head_line.ensures c.new-page.ensures c.slots.ensures.slots c.mark.ensures.mark c.len.ensures.len)
    _ _ _ c.in-Done.ensures.lines c.in-Done-send.ensures.sent

pub returns-in-Failed-clause-shown : goal.returns-in-Failed-clause-shown
returns-in-Failed-clause-shown g c =
    list_cut _ (known_of c.args.spool.now) c.len.ensures.rests _
    (head_put _ _ c.put_head_line.ensures c.new-page.ensures c.slots.ensures.slots c.mark.ensures.mark c.len.ensures.len)
    _ _ _ c.in-Done.ensures.lines c.in-Failed.ensures.sent
