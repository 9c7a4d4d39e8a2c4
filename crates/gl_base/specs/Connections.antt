-- For which connections a link was asked (this profile).
use Rattle.std.specs.Prelude.{ℕ, List, Option, Some, None}
use Rattle.gl_base.specs.Faults.{one_more}
use Rattle.gl_base.specs.declared.side.Side.{Side}
use Rattle.gl_base.specs.declared.side.Side.TheVariants.{Equipment, Host}

-- how many they were, which stands at its end, 2^64 - 1; and the last one's address, where it was to listen, or to call
pub record Connected : Type 0 where
  pub count : ℕ
  pub listened_at : Option (List ℕ)
  pub called : Option (List ℕ)

abbrev pub not_connected : Connected
not_connected = record { count = 0; listened_at = None; called = None }

-- with one more: the equipment listens, and the host calls
abbrev pub connected_as : Side → List ℕ → Connected → Connected
connected_as Equipment address before =
    record { count = one_more before.count; listened_at = Some address; called = None }
connected_as Host address before =
    record { count = one_more before.count; listened_at = None; called = Some address }
