-- Frames that an end has written in a step in which it loses its power are counted by its moves, and not by the world,
-- since none of their characters goes out. So the world's numbers of frames are those of the line by other names.
use Rattle.std.proofs.Common.{◌≡◌, ◌⊎◌, inl, inr, zero, suc, ℕ, ◌+◌, ◌<◌, ◌≤◌, ◌==◌, ◌&&◌, nat_lt, not, Bool, true, false, List, [], ◌∷◌, ◌++◌, drop, length, map, if◌then◌else◌, refl, sym, ap, subst, ◌∙◌, arith}
use Rattle.std.proofs.lemmas.Bool.{cases_lt, eq-eqb, ne_eqb, lt-ltb, le-ltb}
use Rattle.gl_base.specs.declared.side.Side.{Side}
use Rattle.gl_base.specs.declared.side.Side.TheVariants.{Equipment, Host}
use Rattle.line_end.specs.declared.event.Phase.{Phase}
use Rattle.line_end.specs.declared.event.Phase.TheVariants.{Idle, AwaitEot, AwaitAck, AwaitLength, Gathering, Settling}
use Rattle.line_end.specs.Step.{enq, is_due}
use Rattle.line_order.specs.Acts.{line_after_deed}
use Rattle.line_order.specs.Acts.Act.{Add, Change, Lose}
use Rattle.line_order.specs.Line.{Line, WrittenFrame}
use Rattle.line_way.specs.declared.character.Character.{Character}
use Rattle.line_way.specs.declared.character.Source.{Source}
use Rattle.line_way.specs.declared.character.Source.TheVariants.{Frame, Control, Noise}
use Rattle.line_way.specs.Kept.{are_front, asks_first, bytes_with, completes_block, control, count_after, direction_to, ends_frame, framed_from, given_of, has_frame, is_whole, makes_slip, makes_slip_in, rest_of, stands_at, still_gathered, way_after, ways_after, with_byte, with_change, with_direction, with_directions, with_noise_to, with_written, without_power, written_as}
use Rattle.line_way.specs.Ways.{AreFrom, AreNumbered, IsFrom, StandsFor, Way, Ways, bytes_of, characters_of, is_end}
use Rattle.line_way.proofs.Deeds.{change-stands}
use Rattle.message_end.specs.Ends.{Input, Machine}
use Rattle.end_pair.specs.Steps.{gives, slips}
use Rattle.end_pair.specs.World.{lost}
use Rattle.end_pair.proofs.LineDeeds.{add-stands, lose-stands}

abbrev renamed_source : (ℕ → ℕ) → Source → Source
renamed_source f (Frame at) =
    Frame (record { frame = f at.frame; place = at.place; written = at.written; is_last = at.is_last })
renamed_source f Control = Control
renamed_source f Noise = Noise

abbrev renamed_one : (ℕ → ℕ) → Character → Character
renamed_one f c = record { byte = c.byte; source = renamed_source f c.source }

abbrev pub renamed_all : (ℕ → ℕ) → List Character → List Character
renamed_all f [] = []
renamed_all f (c ∷ cs) = renamed_one f c ∷ renamed_all f cs

abbrev pub renamed_way : (ℕ → ℕ) → Way → Way
renamed_way f way = record { under_way = renamed_all f way.under_way; gathered = renamed_all f way.gathered }

abbrev pub renamed : (ℕ → ℕ) → Ways → Ways
renamed f ways = record {
  to_equipment = renamed_way f ways.to_equipment;
  to_host = renamed_way f ways.to_host;
  written = f ways.written;
}

-- numbers stay in their order, and from a count on follow each other
pub record IsRenaming (f : ℕ → ℕ) (count : ℕ) : Type 0 where
  pub rises : (a b : ℕ) → a < b → f a < f b
  pub next : (n : ℕ) → count ≤ n → f (n + 1) ≡ f n + 1

-- the directions are those of the line but for the names of frames
pub record IsLike (ways : Ways) (line : Line) : Type 0 where
  pub name : ℕ → ℕ
  pub is : IsRenaming name ways.written
  pub stands : StandsFor (renamed name ways) line

pub like-of : (ways other : Ways) (line after : Line) (like : IsLike ways line) → IsRenaming like.name other.written
    → StandsFor (renamed like.name other) after → IsLike other after
like-of ways other line after like is stands = record { name = like.name; is = is; stands = stands }

-- ---- lists of characters

renamed-append : (f : ℕ → ℕ) (xs ys : List Character) → renamed_all f (xs ++ ys) ≡ renamed_all f xs ++ renamed_all f ys
renamed-append f [] ys = refl
renamed-append f (x ∷ xs) ys = ap (λ (cs : List Character). renamed_one f x ∷ cs) (renamed-append f xs ys)

renamed-length : (f : ℕ → ℕ) (cs : List Character) → length (renamed_all f cs) ≡ length cs
renamed-length f [] = refl
renamed-length f (c ∷ cs) = let rest = renamed-length f cs in omega (arith, rest)

pub renamed-bytes : (f : ℕ → ℕ) (cs : List Character)
    → bytes_of (characters_of (renamed_all f cs)) ≡ bytes_of (characters_of cs)
renamed-bytes f [] = refl
renamed-bytes f (c ∷ cs) = ap (λ (bytes : List ℕ). c.byte ∷ bytes) (renamed-bytes f cs)

renamed-drop : (f : ℕ → ℕ) (cs : List Character) → renamed_all f (drop 1 cs) ≡ drop 1 (renamed_all f cs)
renamed-drop f [] = refl
renamed-drop f (c ∷ cs) = refl

renamed-byte : (f : ℕ → ℕ) (place byte : ℕ) (cs : List Character)
    → renamed_all f (with_byte place byte cs) ≡ with_byte place byte (renamed_all f cs)
renamed-byte f place byte [] = refl
renamed-byte f zero byte (c ∷ cs) = refl
renamed-byte f (suc place) byte (c ∷ cs) =
    ap (λ (rest : List Character). renamed_one f c ∷ rest) (renamed-byte f place byte cs)

-- ---- what a step writes

renamed-framed : (f : ℕ → ℕ) (number place : ℕ) (bytes : List ℕ)
    → renamed_all f (framed_from number place bytes) ≡ framed_from (f number) place bytes
renamed-framed f number place [] = refl
renamed-framed f number place (byte ∷ bytes) =
    ap (λ (rest : List Character).
    record {
      byte = byte;
      source = Frame (record { frame = f number; place = place; written = byte; is_last = is_end bytes });
    }
    ∷ rest) (renamed-framed f number (place + 1) bytes)

renamed-controls : (f : ℕ → ℕ) (bytes : List ℕ) → renamed_all f (map control bytes) ≡ map control bytes
renamed-controls f [] = refl
renamed-controls f (byte ∷ bytes) = ap (λ (rest : List Character). control byte ∷ rest) (renamed-controls f bytes)

renamed-written : (f : ℕ → ℕ) (number : ℕ) (written : List ℕ)
    → renamed_all f (written_as number written) ≡ written_as (f number) written
renamed-written f number written = go (has_frame written) (asks_first written)
  where
    go : (frame first : Bool)
        → renamed_all f
        (if frame then (if first then control enq ∷ framed_from number 0 (drop 1 written)
        else framed_from number 0 written)
        else map control written)
        ≡ (if frame then (if first then control enq ∷ framed_from (f number) 0 (drop 1 written)
        else framed_from (f number) 0 written)
        else map control written)
    go true true =
        ap (λ (rest : List Character). control enq ∷ rest) (renamed-framed f number 0 (drop 1 written))
    go true false = renamed-framed f number 0 written
    go false first = renamed-controls f written

renamed-count : (f : ℕ → ℕ) (count : ℕ) (written : List ℕ) → IsRenaming f count
    → f (count_after count written) ≡ count_after (f count) written
renamed-count f count written is = go (has_frame written)
  where
    go : (b : Bool) → f (if b then count + 1 else count) ≡ (if b then f count + 1 else f count)
    go true = is.next count (omega arith)
    go false = refl

-- ---- a step

renamed-rest : (f : ℕ → ℕ) (given : Bool) (cs : List Character)
    → renamed_all f (rest_of given cs) ≡ rest_of given (renamed_all f cs)
renamed-rest f given [] = refl
renamed-rest f true (c ∷ cs) = refl
renamed-rest f false (c ∷ cs) = refl

renamed-given : (f : ℕ → ℕ) (given : Bool) (cs : List Character)
    → renamed_all f (given_of given cs) ≡ given_of given (renamed_all f cs)
renamed-given f given [] = refl
renamed-given f true (c ∷ cs) = refl
renamed-given f false (c ∷ cs) = refl

renamed-still : (f : ℕ → ℕ) (phase : Phase) (cs : List Character)
    → renamed_all f (still_gathered phase cs) ≡ still_gathered phase (renamed_all f cs)
renamed-still f Idle cs = refl
renamed-still f AwaitEot cs = refl
renamed-still f AwaitAck cs = refl
renamed-still f AwaitLength cs = refl
renamed-still f Gathering cs = refl
renamed-still f Settling cs = refl

abbrev way_with : (under_way gathered : List Character) → Way
way_with under_way gathered = record { under_way = under_way; gathered = gathered }

renamed-way-after : (f : ℕ → ℕ) (given : Bool) (phase : Phase) (way : Way)
    → renamed_way f (way_after given phase way) ≡ way_after given phase (renamed_way f way)
renamed-way-after f given phase way =
    ap (λ (cs : List Character).
    way_with cs (renamed_all f (still_gathered phase (way.gathered ++ given_of given way.under_way))))
    (renamed-rest f given way.under_way)
    ∙ ap (λ (cs : List Character). way_with (rest_of given (renamed_all f way.under_way)) cs)
    (renamed-still f phase (way.gathered ++ given_of given way.under_way)
    ∙ ap (still_gathered phase)
    (renamed-append f way.gathered (given_of given way.under_way)
    ∙ ap (λ (cs : List Character). renamed_all f way.gathered ++ cs) (renamed-given f given way.under_way)))

renamed-with-written : (f : ℕ → ℕ) (number : ℕ) (written : List ℕ) (way : Way)
    → renamed_way f (with_written number written way) ≡ with_written (f number) written (renamed_way f way)
renamed-with-written f number written way =
    ap (λ (cs : List Character). way_with cs (renamed_all f way.gathered))
    (renamed-append f way.under_way (written_as number written)
    ∙ ap (λ (cs : List Character). renamed_all f way.under_way ++ cs) (renamed-written f number written))

pub renamed-step :
    (f : ℕ → ℕ) (side : Side) (given : Bool) (phase : Phase) (written : List ℕ) (ways : Ways)
    → IsRenaming f ways.written
    → renamed f (ways_after side given phase written ways) ≡ ways_after side given phase written (renamed f ways)
renamed-step f Equipment given phase written ways is =
    ap (λ (to : Way). with_directions Equipment to (renamed_way f (with_written ways.written written ways.to_host))
    (f (count_after ways.written written)))
    (renamed-way-after f given phase ways.to_equipment)
    ∙ ap (λ (from : Way). with_directions Equipment (way_after given phase (renamed_way f ways.to_equipment)) from
    (f (count_after ways.written written)))
    (renamed-with-written f ways.written written ways.to_host)
    ∙ ap (λ (count : ℕ). with_directions Equipment (way_after given phase (renamed_way f ways.to_equipment))
    (with_written (f ways.written) written (renamed_way f ways.to_host)) count)
    (renamed-count f ways.written written is)
renamed-step f Host given phase written ways is =
    ap (λ (to : Way). with_directions Host to (renamed_way f (with_written ways.written written ways.to_equipment))
    (f (count_after ways.written written)))
    (renamed-way-after f given phase ways.to_host)
    ∙ ap (λ (from : Way). with_directions Host (way_after given phase (renamed_way f ways.to_host)) from
    (f (count_after ways.written written)))
    (renamed-with-written f ways.written written ways.to_equipment)
    ∙ ap (λ (count : ℕ). with_directions Host (way_after given phase (renamed_way f ways.to_host))
    (with_written (f ways.written) written (renamed_way f ways.to_equipment)) count)
    (renamed-count f ways.written written is)

counts-on : (count : ℕ) (written : List ℕ) → count ≤ count_after count written
counts-on count written = go (has_frame written)
  where
    go : (b : Bool) → count ≤ (if b then count + 1 else count)
    go true = omega arith
    go false = omega arith

pub renaming-on : (f : ℕ → ℕ) (count more : ℕ) → IsRenaming f count → count ≤ more → IsRenaming f more
renaming-on f count more is least =
    record { rises = is.rises; next = λ n from. is.next n (omega (arith, from, least)) }

written-after : (side : Side) (given : Bool) (phase : Phase) (written : List ℕ) (ways : Ways)
    → (ways_after side given phase written ways).written ≡ count_after ways.written written
written-after Equipment given phase written ways = refl
written-after Host given phase written ways = refl

pub renaming-step :
    (f : ℕ → ℕ) (side : Side) (given : Bool) (phase : Phase) (written : List ℕ) (ways : Ways)
    → IsRenaming f ways.written → IsRenaming f (ways_after side given phase written ways).written
renaming-step f side given phase written ways is =
    subst (IsRenaming f) (sym (written-after side given phase written ways))
    (renaming-on f ways.written (count_after ways.written written) is (counts-on ways.written written))

-- ---- what becomes of characters

pub renamed-lost : (f : ℕ → ℕ) (side : Side) (ways : Ways)
    → renamed f (with_direction side (lost 1 (direction_to side ways)) ways)
    ≡ with_direction side (lost 1 (direction_to side (renamed f ways))) (renamed f ways)
renamed-lost f Equipment ways =
    ap (λ (cs : List Character).
    record (renamed f ways) { to_equipment = way_with cs (renamed_all f ways.to_equipment.gathered) })
    (renamed-drop f ways.to_equipment.under_way)
renamed-lost f Host ways =
    ap (λ (cs : List Character).
    record (renamed f ways) { to_host = way_with cs (renamed_all f ways.to_host.gathered) })
    (renamed-drop f ways.to_host.under_way)

pub renamed-change : (f : ℕ → ℕ) (side : Side) (place byte : ℕ) (ways : Ways)
    → renamed f (with_direction side (with_change place byte (direction_to side ways)) ways)
    ≡ with_direction side (with_change place byte (direction_to side (renamed f ways))) (renamed f ways)
renamed-change f Equipment place byte ways =
    ap (λ (cs : List Character).
    record (renamed f ways) { to_equipment = way_with cs (renamed_all f ways.to_equipment.gathered) })
    (renamed-byte f place byte ways.to_equipment.under_way)
renamed-change f Host place byte ways =
    ap (λ (cs : List Character).
    record (renamed f ways) { to_host = way_with cs (renamed_all f ways.to_host.gathered) })
    (renamed-byte f place byte ways.to_host.under_way)

pub renamed-noise : (f : ℕ → ℕ) (side : Side) (byte : ℕ) (ways : Ways)
    → renamed f (with_noise_to side byte ways) ≡ with_noise_to side byte (renamed f ways)
renamed-noise f Equipment byte ways = refl
renamed-noise f Host byte ways = refl

pub renamed-dark : (f : ℕ → ℕ) (side : Side) (ways : Ways)
    → renamed f (without_power side ways) ≡ without_power side (renamed f ways)
renamed-dark f Equipment ways = refl
renamed-dark f Host ways = refl

pub renaming-dark : (f : ℕ → ℕ) (side : Side) (ways : Ways) → IsRenaming f ways.written
    → IsRenaming f (without_power side ways).written
renaming-dark f Equipment ways is = is
renaming-dark f Host ways is = is

-- ---- slips

names-apart : (f : ℕ → ℕ) (count : ℕ) → IsRenaming f count → (a b : ℕ) → (f a == f b) ≡ (a == b)
names-apart f count is a b = go (cases_lt a b) (cases_lt b a)
  where
    go : (a < b) ⊎ (b ≤ a) → (b < a) ⊎ (a ≤ b) → (f a == f b) ≡ (a == b)
    go (inl less) other =
        let rise = is.rises a b less in
        ne_eqb (f a) (f b) (λ same. omega (arith, rise, same)) ∙ sym (ne_eqb a b (λ same. omega (arith, less, same)))
    go (inr least) (inl less) =
        let rise = is.rises b a less in
        ne_eqb (f a) (f b) (λ same. omega (arith, rise, same)) ∙ sym (ne_eqb a b (λ same. omega (arith, less, same)))
    go (inr least) (inr most) =
        let same : a ≡ b = omega (arith, least, most) in
        eq-eqb (f a) (f b) (ap f same) ∙ sym (eq-eqb a b same)

renamed-stands : (f : ℕ → ℕ) (count : ℕ) → IsRenaming f count → (number place byte : ℕ) (source : Source)
    → stands_at (f number) place byte (renamed_source f source) ≡ stands_at number place byte source
renamed-stands f count is number place byte (Frame at) =
    ap (λ (b : Bool). b && at.place == place && byte == at.written && not at.is_last)
    (names-apart f count is at.frame number)
renamed-stands f count is number place byte Control = refl
renamed-stands f count is number place byte Noise = refl

renamed-front : (f : ℕ → ℕ) (count : ℕ) → IsRenaming f count → (number place : ℕ) (cs : List Character)
    → are_front (f number) place (renamed_all f cs) ≡ are_front number place cs
renamed-front f count is number place [] = refl
renamed-front f count is number place (c ∷ cs) =
    ap (λ (b : Bool). b && are_front (f number) (place + 1) (renamed_all f cs))
    (renamed-stands f count is number place c.byte c.source)
    ∙ ap (λ (b : Bool). stands_at number place c.byte c.source && b) (renamed-front f count is number (place + 1) cs)

renamed-ends : (f : ℕ → ℕ) (count : ℕ) → IsRenaming f count → (gathered : List Character) (byte : ℕ) (source : Source)
    → ends_frame (renamed_all f gathered) byte (renamed_source f source) ≡ ends_frame gathered byte source
renamed-ends f count is gathered byte (Frame at) =
    ap (λ (n : ℕ). at.is_last && at.place == n && byte == at.written
    && are_front (f at.frame) 0 (renamed_all f gathered)) (renamed-length f gathered)
    ∙ ap (λ (b : Bool). at.is_last && at.place == length gathered && byte == at.written && b)
    (renamed-front f count is at.frame 0 gathered)
renamed-ends f count is gathered byte Control = refl
renamed-ends f count is gathered byte Noise = refl

renamed-slip : (f : ℕ → ℕ) (count : ℕ) → IsRenaming f count → (gathered under_way : List Character)
    → makes_slip (renamed_all f gathered) (renamed_all f under_way) ≡ makes_slip gathered under_way
renamed-slip f count is gathered [] = refl
renamed-slip f count is gathered (next ∷ rest) =
    ap (λ (bytes : List ℕ). completes_block bytes
    && not (is_whole (renamed_all f gathered) (renamed_one f next)))
    (ap (λ (cs : List Character). bytes_of (characters_of cs)) (sym (renamed-append f gathered (next ∷ [])))
    ∙ renamed-bytes f (gathered ++ next ∷ []))
    ∙ ap (λ (b : Bool). completes_block (bytes_with gathered next) && not b)
    (renamed-ends f count is gathered next.byte next.source)

renamed-slip-in : (f : ℕ → ℕ) (count : ℕ) → IsRenaming f count → (phase : Phase) (late : Bool) (way : Way)
    → makes_slip_in phase late (renamed_way f way) ≡ makes_slip_in phase late way
renamed-slip-in f count is Gathering false way = renamed-slip f count is way.gathered way.under_way
renamed-slip-in f count is Gathering true way = refl
renamed-slip-in f count is Idle late way = refl
renamed-slip-in f count is AwaitEot late way = refl
renamed-slip-in f count is AwaitAck late way = refl
renamed-slip-in f count is AwaitLength late way = refl
renamed-slip-in f count is Settling late way = refl

renamed-to : (f : ℕ → ℕ) (side : Side) (ways : Ways)
    → direction_to side (renamed f ways) ≡ renamed_way f (direction_to side ways)
renamed-to f Equipment ways = refl
renamed-to f Host ways = refl

pub renamed-slips :
    {S C : Type 0} (machine : Machine S C) (f : ℕ → ℕ) (side : Side) (now : ℕ) (input : Input C) (s : S) (ways : Ways)
    → IsRenaming f ways.written
    → slips machine side now input s (renamed f ways) ≡ slips machine side now input s ways
renamed-slips machine f side now input s ways is =
    ap (λ (way : Way). gives input && makes_slip_in (machine.line s).phase (is_due (machine.line s).deadline now) way)
    (renamed-to f side ways)
    ∙ ap (λ (b : Bool). gives input && b)
    (renamed-slip-in f ways.written is (machine.line s).phase (is_due (machine.line s).deadline now)
    (direction_to side ways))

-- ---- a frame is lost with the power

abbrev bump : (ℕ → ℕ) → ℕ → Bool → ℕ → ℕ
bump f count more n = if more then (if nat_lt n count then f n else f n + 1) else f n

bump-below : (f : ℕ → ℕ) (count : ℕ) (more : Bool) (n : ℕ) → n < count → bump f count more n ≡ f n
bump-below f count false n less = refl
bump-below f count true n less = ap (λ (b : Bool). if b then f n else f n + 1) (lt-ltb n count less)

bump-above : (f : ℕ → ℕ) (count n : ℕ) → count ≤ n → bump f count true n ≡ f n + 1
bump-above f count n least = ap (λ (b : Bool). if b then f n else f n + 1) (le-ltb n count least)

bump-renames : (f : ℕ → ℕ) (count : ℕ) (more : Bool) → IsRenaming f count → IsRenaming (bump f count more) count
bump-renames f count false is = record { rises = is.rises; next = is.next }
bump-renames f count true is = record { rises = rises; next = next }
  where
    rises : (a b : ℕ) → a < b → bump f count true a < bump f count true b
    rises a b less = go (cases_lt a count) (cases_lt b count)
      where
        rise : f a < f b
        rise = is.rises a b less

        go : (a < count) ⊎ (count ≤ a) → (b < count) ⊎ (count ≤ b) → bump f count true a < bump f count true b
        go (inl one) (inl two) =
            let x = bump-below f count true a one in
            let y = bump-below f count true b two in
            omega (arith, rise, x, y)
        go (inl one) (inr two) =
            let x = bump-below f count true a one in
            let y = bump-above f count b two in
            omega (arith, rise, x, y)
        go (inr one) (inl two) = absurd (omega (arith, less, one, two))
        go (inr one) (inr two) =
            let x = bump-above f count a one in
            let y = bump-above f count b two in
            omega (arith, rise, x, y)

    next : (n : ℕ) → count ≤ n → bump f count true (n + 1) ≡ bump f count true n + 1
    next n least =
        let x = bump-above f count (n + 1) (omega (arith, least)) in
        let y = bump-above f count n least in
        let z = is.next n least in
        omega (arith, x, y, z)

-- the names of frames that were written before stay
below-name : (f : ℕ → ℕ) (count : ℕ) → IsRenaming f count → (a : ℕ) → f a < f count → a < count
below-name f count is a less = go (cases_lt a count) (cases_lt count a)
  where
    go : (a < count) ⊎ (count ≤ a) → (count < a) ⊎ (a ≤ count) → a < count
    go (inl below) other = below
    go (inr least) (inl above) = let rise = is.rises count a above in absurd (omega (arith, rise, less))
    go (inr least) (inr most) =
        let same : a ≡ count = omega (arith, least, most) in
        let names = ap f same in
        absurd (omega (arith, names, less))

abbrev with_source : Character → Source → Character
with_source c source = record { byte = c.byte; source = source }

bump-one : (f : ℕ → ℕ) (count : ℕ) (more : Bool) (frames : List WrittenFrame) → IsRenaming f count
    → AreNumbered frames (f count) → (c : Character) → IsFrom frames (renamed_one f c).source
    → renamed_one (bump f count more) c ≡ renamed_one f c
bump-one f count more frames is numbered c from = go c.source from
  where
    go : (source : Source) → IsFrom frames (renamed_source f source)
        → with_source c (renamed_source (bump f count more) source) ≡ with_source c (renamed_source f source)
    go (Frame at) from =
        let low = numbered.below from.frame from.is_written in
        ap (λ (n : ℕ).
        with_source c (Frame (record { frame = n; place = at.place; written = at.written; is_last = at.is_last })))
        (bump-below f count more at.frame
        (below-name f count is at.frame (subst (λ (n : ℕ). n < f count) from.number low)))
    go Control from = refl
    go Noise from = refl

bump-all : (f : ℕ → ℕ) (count : ℕ) (more : Bool) (frames : List WrittenFrame) → IsRenaming f count
    → AreNumbered frames (f count) → (cs : List Character) → AreFrom frames (renamed_all f cs)
    → renamed_all (bump f count more) cs ≡ renamed_all f cs
bump-all f count more frames is numbered [] from = refl
bump-all f count more frames is numbered (c ∷ cs) from =
    ap (λ (d : Character). d ∷ renamed_all (bump f count more) cs) (bump-one f count more frames is numbered c from.0)
    ∙ ap (λ (ds : List Character). renamed_one f c ∷ ds) (bump-all f count more frames is numbered cs from.1)

-- where an end had written so much in a step, of which nothing went out, the directions without power are those of the
-- line without power
module _ (given : Bool) (phase : Phase) (written : List ℕ) (ways : Ways) (line after : Line) (like : IsLike ways line)
  where
    abbrev name : ℕ → ℕ
    name = bump like.name ways.written (has_frame written)

    gathered-same :
        (frames : List WrittenFrame) (cs : List Character) → AreNumbered frames line.written
        → AreFrom frames (renamed_all like.name cs) → renamed_all name cs ≡ renamed_all like.name cs
    gathered-same frames cs numbered from =
        bump-all like.name ways.written (has_frame written) frames like.is
        (subst (AreNumbered frames) (sym like.stands.count) numbered) cs from

    number : name ways.written ≡ count_after (like.name ways.written) written
    number = go (has_frame written)
      where
        go : (b : Bool) → bump like.name ways.written b ways.written
            ≡ (if b then like.name ways.written + 1 else like.name ways.written)
        go true = bump-above like.name ways.written ways.written (omega arith)
        go false = refl

    -- in one direction nothing is gathered any more
    without : (side : Side) (gathered other : List Character) (count more : ℕ) → gathered ≡ other → count ≡ more
        → with_directions side (way_with [] []) (way_with [] gathered) count
        ≡ with_directions side (way_with [] []) (way_with [] other) more
    without side gathered other count more same counts =
        ap (λ (cs : List Character). with_directions side (way_with [] []) (way_with [] cs) count) same
        ∙ ap (λ (n : ℕ). with_directions side (way_with [] []) (way_with [] other) n) counts

    same : (side : Side)
        → renamed name (without_power side ways)
        ≡ without_power side (ways_after side given phase written (renamed like.name ways))
    same Equipment =
        without Equipment (renamed_all name ways.to_host.gathered) (renamed_all like.name ways.to_host.gathered)
        (name ways.written) (count_after (like.name ways.written) written)
        (gathered-same line.equipment.frames ways.to_host.gathered like.stands.to_host.numbered
        like.stands.to_host.gathered_from) number
    same Host =
        without Host (renamed_all name ways.to_equipment.gathered)
        (renamed_all like.name ways.to_equipment.gathered) (name ways.written)
        (count_after (like.name ways.written) written)
        (gathered-same line.host.frames ways.to_equipment.gathered like.stands.to_equipment.numbered
        like.stands.to_equipment.gathered_from) number

    pub dark-like : (side : Side)
        → StandsFor (without_power side (ways_after side given phase written (renamed like.name ways))) after
        → IsLike (without_power side ways) after
    dark-like side stands = record {
      name = name;
      is = renaming-dark name side ways (bump-renames like.name ways.written (has_frame written) like.is);
      stands = subst (λ (w : Ways). StandsFor w after) (sym (same side)) stands;
    }

-- ---- what becomes of characters keeps them alike

count-kept : (side : Side) (way : Way) (ways : Ways) → (with_direction side way ways).written ≡ ways.written
count-kept Equipment way ways = refl
count-kept Host way ways = refl

noise-kept : (side : Side) (byte : ℕ) (ways : Ways) → (with_noise_to side byte ways).written ≡ ways.written
noise-kept Equipment byte ways = refl
noise-kept Host byte ways = refl

pub like-lost : (side : Side) (ways : Ways) (line : Line) → IsLike ways line
    → IsLike (with_direction side (lost 1 (direction_to side ways)) ways)
    (line_after_deed line (record { side = side; act = Lose }))
like-lost side ways line like = record {
  name = like.name;
  is =
      subst (IsRenaming like.name) (sym (count-kept side (lost 1 (direction_to side ways)) ways)) like.is;
  stands =
      subst (λ (w : Ways). StandsFor w (line_after_deed line (record { side = side; act = Lose })))
      (sym (renamed-lost like.name side ways)) (lose-stands side (renamed like.name ways) line like.stands);
}

pub like-change : (side : Side) (place byte : ℕ) (ways : Ways) (line : Line) → IsLike ways line
    → IsLike (with_direction side (with_change place byte (direction_to side ways)) ways)
    (line_after_deed line (record { side = side; act = Change place byte }))
like-change side place byte ways line like = record {
  name = like.name;
  is =
      subst (IsRenaming like.name) (sym (count-kept side (with_change place byte (direction_to side ways)) ways))
      like.is;
  stands =
      subst (λ (w : Ways). StandsFor w (line_after_deed line (record { side = side; act = Change place byte })))
      (sym (renamed-change like.name side place byte ways))
      (change-stands side place byte (renamed like.name ways) line like.stands);
}

pub like-noise : (side : Side) (byte : ℕ) (ways : Ways) (line : Line) → IsLike ways line
    → IsLike (with_noise_to side byte ways) (line_after_deed line (record { side = side; act = Add byte }))
like-noise side byte ways line like = record {
  name = like.name;
  is = subst (IsRenaming like.name) (sym (noise-kept side byte ways)) like.is;
  stands =
      subst (λ (w : Ways). StandsFor w (line_after_deed line (record { side = side; act = Add byte })))
      (sym (renamed-noise like.name side byte ways)) (add-stands side byte (renamed like.name ways) line like.stands);
}
