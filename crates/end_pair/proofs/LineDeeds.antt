-- What becomes of characters, on the line that both directions stand for.
use Rattle.std.proofs.Common.{◌≡◌, zero, suc, ℕ, ◌+◌, false, List, [], ◌∷◌, drop, refl, sym, ap, ◌∙◌, add-one, rules}
use Rattle.std.specs.List.{Contains}
use Rattle.gl_base.specs.declared.side.Side.{Side}
use Rattle.gl_base.specs.declared.side.Side.TheVariants.{Equipment, Host}
use Rattle.line_end.specs.declared.plan.Times.{Times}
use Rattle.line_end.specs.Plan.{TimesFit}
use Rattle.line_end.specs.State.{LineState, new_state}
use Rattle.line_end.proofs.Kept.{kept-new}
use Rattle.line_order.specs.Acts.{line_after_deed, without_first}
use Rattle.line_order.specs.Acts.Act.{Add, Lose}
use Rattle.line_order.specs.Characters as order
use Rattle.line_order.specs.Line.{Line, WrittenFrame, new_line}
use Rattle.line_way.specs.declared.character.Character.{Character}
use Rattle.line_way.specs.Kept.{direction_to, new_ways, with_direction, with_noise, with_noise_to, without_next}
use Rattle.line_way.specs.Ways.{AreFrom, IsWay, StandsFor, Way, Ways, characters_of, is_under_way}
use Rattle.end_pair.specs.World.{World, lost, lost_from}

-- ---- the next character is lost

characters-without : (cs : List Character) → characters_of (drop 1 cs) ≡ without_first (characters_of cs)
characters-without [] = refl
characters-without (c ∷ cs) = refl

from-without : (frames : List WrittenFrame) (cs : List Character) → AreFrom frames cs → AreFrom frames (drop 1 cs)
from-without frames [] are = tt
from-without frames (c ∷ cs) are = are.1

lose-way :
    (way : Way) (next last : List order.Character) (frames : List WrittenFrame) (state : LineState) (count : ℕ)
    → IsWay way next last frames state count → IsWay (lost 1 way) (without_first next) last frames state count
lose-way way next last frames state count is = record {
  under_way = characters-without way.under_way ∙ ap without_first is.under_way;
  gathered = is.gathered;
  under_way_from = from-without frames way.under_way is.under_way_from;
  gathered_from = is.gathered_from;
  numbered = is.numbered;
  has = is.has;
}

pub lose-stands :
    (side : Side) (ways : Ways) (line : Line) → StandsFor ways line
    → StandsFor (with_direction side (lost 1 (direction_to side ways)) ways)
    (line_after_deed line (record { side = side; act = Lose }))
lose-stands Equipment ways line is = record {
  to_equipment =
      lose-way ways.to_equipment line.host.under_way line.equipment.gathered line.host.frames line.equipment.state
      line.written
      is.to_equipment;
  to_host = is.to_host;
  count = is.count;
}
lose-stands Host ways line is = record {
  to_equipment = is.to_equipment;
  to_host =
      lose-way ways.to_host line.equipment.under_way line.host.gathered line.equipment.frames line.host.state
      line.written
      is.to_host;
  count = is.count;
}

-- so many of them, one after the other
lost-way-none : (way : Way) → lost 0 way ≡ way
lost-way-none way = refl

drop-more : (n : ℕ) (cs : List Character) → drop (suc n) cs ≡ drop n (drop 1 cs)
drop-more zero [] = refl
drop-more (suc n) [] = refl
drop-more n (c ∷ cs) = refl

lost-way-more : (n : ℕ) (way : Way) → lost (suc n) way ≡ lost n (lost 1 way)
lost-way-more n way = ap (λ (cs : List Character). record way { under_way = cs }) (drop-more n way.under_way)

pub lost-none : {S T : Type 0} (side : Side) (world : World S T) → lost_from 0 side world ≡ world
lost-none Equipment world = refl
lost-none Host world = refl

pub lost-more : {S T : Type 0} (n : ℕ) (side : Side) (world : World S T)
    → lost_from (suc n) side world ≡ lost_from n side (lost_from 1 side world)
lost-more {S} {T} n Equipment world =
    ap (λ (way : Way). record world { ways = with_direction Equipment way world.ways })
    (lost-way-more n world.ways.to_equipment)
lost-more {S} {T} n Host world =
    ap (λ (way : Way). record world { ways = with_direction Host way world.ways }) (lost-way-more n world.ways.to_host)

pub losing-more : (n m : ℕ) (side : Side) (ways after : Ways) → n ≡ m + 1
    → after ≡ with_direction side (without_next (direction_to side ways)) ways
    → with_direction side (lost m (direction_to side after)) after ≡ with_direction side
    (lost n (direction_to side ways)) ways
losing-more n m side ways after is_n is =
    ap (λ (w : Ways). with_direction side (lost m (direction_to side w)) w) is ∙ go side
    ∙ ap (λ (k : ℕ). with_direction side (lost k (direction_to side ways)) ways) (sym (is_n ∙ add-one m))
  where
    go : (side : Side)
        → with_direction side (lost m (direction_to side (with_direction side (lost 1 (direction_to side ways)) ways)))
        (with_direction side (lost 1 (direction_to side ways)) ways)
        ≡ with_direction side (lost (suc m) (direction_to side ways)) ways
    go Equipment = ap (λ (way : Way). with_direction Equipment way ways) (sym (lost-way-more m ways.to_equipment))
    go Host = ap (λ (way : Way). with_direction Host way ways) (sym (lost-way-more m ways.to_host))

pub losing-none : (n : ℕ) (side : Side) (ways : Ways) → n ≡ 0 → with_direction side (lost n (direction_to side ways))
    ways ≡ ways
losing-none n side ways is_n = ap (λ (k : ℕ). with_direction side (lost k (direction_to side ways)) ways) is_n ∙ go side
  where
    go : (side : Side) → with_direction side (lost 0 (direction_to side ways)) ways ≡ ways
    go Equipment = refl
    go Host = refl

drop-none : (n : ℕ) (cs : List Character) → is_under_way (characters_of cs) ≡ false → drop n cs ≡ cs
drop-none zero cs none = refl
drop-none (suc n) [] none = refl
drop-none (suc n) (c ∷ cs) none = cc

pub losing-empty : (n : ℕ) (side : Side) (ways : Ways)
    → is_under_way (characters_of (direction_to side ways).under_way) ≡ false
    → with_direction side (lost n (direction_to side ways)) ways ≡ ways
losing-empty n Equipment ways none =
    ap (λ (cs : List Character). with_direction Equipment (record ways.to_equipment { under_way = cs }) ways)
    (drop-none n ways.to_equipment.under_way none)
losing-empty n Host ways none =
    ap (λ (cs : List Character). with_direction Host (record ways.to_host { under_way = cs }) ways)
    (drop-none n ways.to_host.under_way none)

-- ---- noise comes in front

add-way :
    (byte : ℕ) (way : Way) (next last : List order.Character) (frames : List WrittenFrame) (state : LineState)
    (count : ℕ)
    → IsWay way next last frames state count
    → IsWay (with_noise byte way) (order.noise byte ∷ next) last frames state count
add-way byte way next last frames state count is = record {
  under_way = ap (λ (cs : List order.Character). order.noise byte ∷ cs) is.under_way;
  gathered = is.gathered;
  under_way_from = (tt, is.under_way_from);
  gathered_from = is.gathered_from;
  numbered = is.numbered;
  has = is.has;
}

pub add-stands :
    (side : Side) (byte : ℕ) (ways : Ways) (line : Line) → StandsFor ways line
    → StandsFor (with_noise_to side byte ways) (line_after_deed line (record { side = side; act = Add byte }))
add-stands Equipment byte ways line is = record {
  to_equipment =
      add-way byte ways.to_equipment line.host.under_way line.equipment.gathered line.host.frames line.equipment.state
      line.written
      is.to_equipment;
  to_host = is.to_host;
  count = is.count;
}
add-stands Host byte ways line is = record {
  to_equipment = is.to_equipment;
  to_host =
      add-way byte ways.to_host line.equipment.under_way line.host.gathered line.equipment.frames line.host.state
      line.written
      is.to_host;
  count = is.count;
}

-- ---- a new line

new-way : (side : Side) (times : Times) → TimesFit times
    → IsWay (record { under_way = []; gathered = [] }) [] [] [] (new_state side times) 0
new-way side times fits = record {
  under_way = refl;
  gathered = refl;
  under_way_from = tt;
  gathered_from = tt;
  numbered = record { below = λ frame has. absurd (none frame has); apart = λ f g has also same. absurd (none f has) };
  has = record { is_state = kept-new side times fits; bytes = refl };
}
  where
    none : (frame : WrittenFrame) → Contains [] frame → ⊥
    none frame has = search rules

pub new-stands : (equipment host : Times) → TimesFit equipment → TimesFit host
    → StandsFor new_ways (new_line equipment host)
new-stands equipment host fits_e fits_h =
    record { to_equipment = new-way Equipment equipment fits_e; to_host = new-way Host host fits_h; count = refl }
