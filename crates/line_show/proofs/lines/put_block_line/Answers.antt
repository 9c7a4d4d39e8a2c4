-- The parts of the line, put one behind the other, are its text.

use Rattle.line_show.proofs.Putting.{put_decimal, put_made, put_more}
use Rattle.line_show.proofs.lines.put_block_line.Goals as goal

pub returns-clause-items : goal.returns-clause-items
returns-clause-items g c =
    let way = put_more _ _ _ _ _ c.put_number.ensures.items c.put_block_way.ensures.items in
    let device = put_decimal _ _ _ _ _ _ way c.put_number-2.ensures.items c.from.ensures in
    let name = put_more _ _ _ _ _ (put_more _ _ _ _ _ device c.put.ensures.items) c.put_name.ensures.items in
    let number = put_decimal _ _ _ _ _ _
    (put_more _ _ _ _ _ name c.put-2.ensures.items) c.put_number-3.ensures.items c.from-2.ensures in
    let flag = put_more _ _ _ _ _ number c.put_flag.ensures.items in
    let system = put_made _ _ _ _ _ _
    (put_more _ _ _ _ _ flag c.put-3.ensures.items) c.put-4.ensures.items c.hex_word.ensures in
    let size = put_more _ _ _ _ _ (put_more _ _ _ _ _ system c.put-5.ensures.items) c.put_number-4.ensures.items in
    put_more _ _ _ _ _ size c.put-6.ensures.items
