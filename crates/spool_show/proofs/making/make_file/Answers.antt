-- The file that was made stands for an empty list.

use Rattle.std.proofs.Common.{◌≡◌, Some, rules}
use Rattle.spool_show.proofs.making.make_file.Goals as goal

pub returns-in-Ok-clause-stands : goal.returns-in-Ok-clause-stands
returns-in-Ok-clause-stands g c t is =
    let told : g.D.Disk.told c.in-Ok.spool.disk.now ≡ Some t = search rules in
    c.in-Ok.ensures.2 t told
