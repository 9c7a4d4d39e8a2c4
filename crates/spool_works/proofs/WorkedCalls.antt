-- The worked calls, computed.
use Rattle.std.specs.Prelude.{refl}
use Rattle.gate_cell.specs.Cell.{copy_bytes}
use Rattle.spool_file.specs.Sizes.{slots_for}
use Rattle.spool_works.specs.WorkedCalls.{CallsOfLongWorks, CallsOfWorks, KeptBehindWorks, LossesOfWorks}

pub calls-of-works : CallsOfWorks
unfolding copy_bytes slots_for
calls-of-works = record {
  puts = refl;
  drops = refl;
  purges = refl;
  puts_then = refl;
  purges_none = refl;
  tries = refl;
  reserves = refl;
  overwrites = refl;
  overwrites_one = refl;
}

pub calls-of-long-works : CallsOfLongWorks
unfolding copy_bytes slots_for
calls-of-long-works = record {
  nine = refl;
  next = refl;
  opened = refl;
  wraps = refl;
  stale = refl;
  tries = refl;
  drops = refl;
}

pub kept-behind-works : KeptBehindWorks
unfolding copy_bytes slots_for
kept-behind-works = record {
  put = refl;
  dropped = refl;
  purged = refl;
  reserved = refl;
  overwritten = refl;
}

pub losses-of-works : LossesOfWorks
unfolding copy_bytes slots_for
losses-of-works = record {
  put_5A = refl;
  put_A5 = refl;
  drop_5A = refl;
  drop_A5 = refl;
  put_then_5A = refl;
  put_then_A5 = refl;
  purge_old = refl;
  purge_5A = refl;
  purge_new = refl;
  purge_A5 = refl;
  stale_old = refl;
  stale_new = refl;
  stale_5A = refl;
  second_5A = refl;
  second_A5 = refl;
  first_5A = refl;
  first_A5 = refl;
  long_old = refl;
  long_new = refl;
  shut_first = refl;
  shut_old = refl;
}
