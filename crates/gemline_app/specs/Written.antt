-- What a command leaves as it was (this profile).
use Rattle.std.specs.Prelude.{◌≡◌}
use Rattle.gl_base.specs.Told.{FilesTold, SinkTold}

-- no file was read
pub record AreUnread (files : FilesTold) : Type 0 where
  pub told : files.after ≡ files.before
  pub health : files.health_after ≡ files.health

-- nothing was written
pub record IsUntouched (out : SinkTold) : Type 0 where
  pub received : out.after ≡ out.before
  pub health : out.health_after ≡ out.health
