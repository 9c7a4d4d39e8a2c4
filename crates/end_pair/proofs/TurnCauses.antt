-- Why a step that is asked for leaves no turn.
use Rattle.std.proofs.Common.{◌≡◌, ◌⊎◌, ◌==◌, refl, sym, ◌∙◌, inl, inr, Bool, true, false, ℕ, if◌then◌else◌}
use Rattle.std.proofs.lemmas.Bool.{eq-eqb, eqb-true}
use Rattle.std.specs.Prelude.{◌↔◌}
use Rattle.gl_base.specs.declared.side.Side.TheVariants.{Equipment, Host}
use Rattle.end_pair.specs.declared.answers.WorldStep.TheVariants.{Turns}
use Rattle.end_pair.specs.TurnCauses.{FindsNoRoom, HostFindsNoRoom, IsBehindLast, TurnsEndByCause}
use Rattle.end_pair.specs.World.{Piece, World, equipment_makes, host_makes, most_steps, turned_out, with_equipment, with_host}
use Rattle.end_pair.proofs.Causes.{by-cause}

-- a step that isn't behind the last one
not-behind : (steps : ℕ) → (steps == most_steps) ≡ false → steps ≡ most_steps → ⊥
not-behind steps other same = let is = sym (eq-eqb steps most_steps same) ∙ other in absurd (cc)

-- a step of either end, that there is no room for
turns-for :
    {E H : Type 0} (world : World E H) (piece : Piece E H) (Room : Type 0) → piece.went ≡ Turns ↔ Room
    → (behind : Bool) → (world.steps == most_steps) ≡ behind
    → ((if behind then turned_out world else piece).went ≡ Turns ↔ (IsBehindLast world ⊎ Room))
turns-for world piece Room crowded true is = (λ turns. inl (eqb-true world.steps most_steps is), λ cause. refl)
turns-for world piece Room crowded false is = (λ turns. inr (crowded.0 turns), back)
  where
    back : IsBehindLast world ⊎ Room → piece.went ≡ Turns
    back (inl last) = absurd (not-behind world.steps is last)
    back (inr room) = crowded.1 room

pub turns-by-cause : {E H : Type 0} → TurnsEndByCause E H
turns-by-cause e h world = record {
  equipment = λ input.
      turns-for world (with_equipment e h world (equipment_makes e h input world)) (FindsNoRoom e world input)
      (by-cause e Equipment world.moment world.reach world.choice input world.equipment world.ways).crowded
      (world.steps == most_steps) refl;
  host = λ input.
      turns-for world (with_host e h world (host_makes e h input world)) (HostFindsNoRoom h world input)
      (by-cause h Host world.moment world.host_reach world.choice input world.host world.ways).crowded
      (world.steps == most_steps) refl;
}
