-- The parts of the line, put one behind the other, are its text.

use Rattle.line_show.proofs.Putting.{put_made, put_more}
use Rattle.line_show.proofs.lines.put_message_head.Goals as goal

pub returns : goal.returns
returns g c =
    let way = put_more _ _ _ _ _ c.put_number.ensures.items c.put_message_way.ensures.items in
    let name = put_more _ _ _ _ _ way c.put_name.ensures.items in
    let system = put_made _ _ _ _ _ _
    (put_more _ _ _ _ _ name c.put.ensures.items) c.put-2.ensures.items c.hex_word.ensures in
    put_more _ _ _ _ _ system c.put-3.ensures.items
