-- What a link told before a call and after it (this profile).
use Rattle.std.specs.Prelude.{◌≡◌, ◌⊎◌, ℕ, List, Option}
use Rattle.gl_base.specs.Connections.{Connected, connected_as}
use Rattle.gl_base.specs.Link.{LinkContents, LinkHealth}
use Rattle.gl_base.specs.declared.link.Link as link
use Rattle.gl_base.specs.declared.side.Side.{Side}

-- its list with the answers to come, the moment of its last answer, its faults, and the connections that it
-- was asked for
pub record LinkTold : Type 0 where
  pub before : Option LinkContents
  pub after : Option LinkContents
  pub moment : ℕ
  pub moment_after : ℕ
  pub health : LinkHealth
  pub health_after : LinkHealth
  pub connected : Connected
  pub connected_after : Connected

abbrev pub link_told : {L : Type 0} → link.Ghosts L → L → L → LinkTold
link_told members old new = record {
  before = members.told old;
  after = members.told new;
  moment = members.moment old;
  moment_after = members.moment new;
  health = members.health old;
  health_after = members.health new;
  connected = members.connected old;
  connected_after = members.connected new;
}

-- no call of it was made
pub record IsUncalled (link : LinkTold) : Type 0 where
  pub told : link.after ≡ link.before
  pub moment : link.moment_after ≡ link.moment
  pub health : link.health_after ≡ link.health
  pub connected : link.connected_after ≡ link.connected

-- no call of it was made, or it was asked once for a connection, as this side and with this address
abbrev pub ConnectsOnce : Side → List ℕ → LinkTold → Type 0
ConnectsOnce side address link =
    IsUncalled link ⊎ (link.connected_after ≡ connected_as side address link.connected)
