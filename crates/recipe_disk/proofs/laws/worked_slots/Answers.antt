-- The law, by the lemmas of `Worked`.
use Rattle.recipe_disk.proofs.Worked.{closed, long, nameless, names, number, opened, shut, sound, spent, unknown, written}
use Rattle.recipe_disk.proofs.laws.worked_slots.Goals as goal

pub returns : goal.returns
returns c = record {
  written = written;
  opened = opened;
  closed = closed;
  unknown = unknown;
  sound = sound;
  number = number;
  names = names;
  spent = spent;
  nameless = nameless;
  long = long;
  shut = shut;
}
