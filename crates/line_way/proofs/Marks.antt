-- Whether gathered characters are a whole frame, by what is kept of each alone.
use Rattle.std.proofs.Common.{◌≡◌, suc, ℕ, ◌+◌, ◌==◌, ◌&&◌, Bool, true, false, not, List, [], ◌∷◌, ◌++◌, length, drop, Option, Some, None, refl, sym, ap, subst, ◌∙◌, arith}
use Rattle.std.specs.List.{Contains}
use Rattle.std.specs.Option.{is_some}
use Rattle.std.proofs.lemmas.Bool.Decides.{nat_tests}
use Rattle.line_order.specs.Characters as order
use Rattle.line_order.specs.Characters.{are_framed_from, is_from}
use Rattle.line_order.specs.Line.{WrittenFrame, are_all_of, whole_frame}
use Rattle.line_order.proofs.Flows.{both-true}
use Rattle.line_order.proofs.Given.{found, not_found}
use Rattle.line_way.specs.declared.character.Character.{Character}
use Rattle.line_way.specs.declared.character.FramePlace.{FramePlace}
use Rattle.line_way.specs.declared.character.Source.{Source}
use Rattle.line_way.specs.declared.character.Source.TheVariants.{Frame, Control, Noise}
use Rattle.line_way.specs.Kept.{are_front, ends_frame, stands_at, is_whole}
use Rattle.line_way.proofs.Sources.{drop-rest}
use Rattle.line_way.specs.Ways.{AreFrom, AreNumbered, IsFrom, IsInFrame, IsPlaceIn, character_of, characters_of, is_end, origin_of}

-- if it comes from this frame it stands there
abbrev pub StandsIn : WrittenFrame → Source → Type 0
StandsIn frame (Frame at) = at.frame ≡ frame.number → IsPlaceIn frame.bytes at
StandsIn frame Control = Unit {0}
StandsIn frame Noise = Unit {0}

abbrev pub StandIn : WrittenFrame → List Character → Type 0
StandIn frame [] = Unit {0}
StandIn frame (c ∷ cs) = StandsIn frame c.source × StandIn frame cs

stands-in : (frames : List WrittenFrame) (count : ℕ) (frame : WrittenFrame) (s : Source) → AreNumbered frames count → Contains frames frame
    → IsFrom frames s → StandsIn frame s
stands-in frames count frame (Frame at) are member is =
    λ same. subst (λ (f : WrittenFrame). IsPlaceIn f.bytes at) (are.apart is.frame frame is.is_written member (is.number ∙ same)) is.place
stands-in frames count frame Control are member is = tt
stands-in frames count frame Noise are member is = tt

stand-in : (frames : List WrittenFrame) (count : ℕ) (frame : WrittenFrame) (cs : List Character) → AreNumbered frames count → Contains frames frame
    → AreFrom frames cs → StandIn frame cs
stand-in frames count frame [] are member is = tt
stand-in frames count frame (c ∷ cs) are member is =
    (stands-in frames count frame c.source are member is.0, stand-in frames count frame cs are member is.1)

-- it stands at that place of that frame as it was written, and is its last
abbrev pub ends_at : ℕ → ℕ → ℕ → Source → Bool
ends_at number place byte (Frame at) =
    at.frame == number && at.place == place && byte == at.written && at.is_last
ends_at number place byte Control = false
ends_at number place byte Noise = false

-- what stands at a place of a frame, beside what is kept of a character
pub record IsByte (bytes : List ℕ) (place : ℕ) (byte : ℕ) (last : Bool) : Type 0 where
  pub rest : List ℕ
  pub stands : drop place bytes ≡ byte ∷ rest
  pub last_is : last ≡ is_end rest

and-true : (z : Bool) → (z && true) ≡ z
and-true true = refl
and-true false = refl

one-place : (number place byte b : ℕ) (bs all : List ℕ) (at : FramePlace) → drop place all ≡ b ∷ bs
    → (at.frame ≡ number → IsPlaceIn all at)
    → (stands_at number place byte (Frame at) ≡ (byte == b && is_from number place (order.Framed at.frame at.place) && not (is_end bs)))
    × (ends_at number place byte (Frame at) ≡ (byte == b && is_from number place (order.Framed at.frame at.place) && is_end bs))
one-place number place byte b bs all at here stands = go (at.frame == number) (at.place == place) refl refl
  where
    Both : Bool → Bool → Type 0
    Both x y =
        ((x && y && byte == at.written && not at.is_last) ≡ (byte == b && (x && y) && not (is_end bs)))
        × ((x && y && byte == at.written && at.is_last) ≡ (byte == b && (x && y) && is_end bs))

    neither : (x y : Bool) → (x && y) ≡ false → Both x y
    neither true true none = cc
    neither true false none = go (byte == b)
      where
        go : (z : Bool) → (false ≡ (z && false && not (is_end bs))) × (false ≡ (z && false && is_end bs))
        go true = (refl, refl)
        go false = (refl, refl)
    neither false y none = go (byte == b)
      where
        go : (z : Bool) → (false ≡ (z && false && not (is_end bs))) × (false ≡ (z && false && is_end bs))
        go true = (refl, refl)
        go false = (refl, refl)

    agrees : (written : ℕ) (last : Bool) → written ≡ b → last ≡ is_end bs
        → ((byte == written && not last) ≡ (byte == b && true && not (is_end bs)))
        × ((byte == written && last) ≡ (byte == b && true && is_end bs))
    agrees written last same_byte same_last = (
      ap (λ (w : ℕ). byte == w && not last) same_byte ∙ ap (λ (l : Bool). byte == b && not l) same_last
          ∙ ap (λ (z : Bool). z && not (is_end bs)) (sym (and-true (byte == b))),
      ap (λ (w : ℕ). byte == w && last) same_byte ∙ ap (λ (l : Bool). byte == b && l) same_last
          ∙ ap (λ (z : Bool). z && is_end bs) (sym (and-true (byte == b))),
    )

    go : (x y : Bool) → (at.frame == number) ≡ x → (at.place == place) ≡ y → Both x y
    go true true frame_is place_is =
        let f : at.frame ≡ number = grind (arith, nat_tests) in
        let p : at.place ≡ place = grind (arith, nat_tests) in
        let is : IsPlaceIn all at = stands f in
        let both : at.written ∷ is.rest ≡ b ∷ bs = sym is.stands ∙ ap (λ (n : ℕ). drop n all) p ∙ here in
        let w : at.written ≡ b = cc in
        let r : is.rest ≡ bs = cc in
        agrees at.written at.is_last w (is.last ∙ ap is_end r)
    go true false frame_is place_is = neither true false refl
    go false y frame_is place_is = neither false y refl

one : (frame : WrittenFrame) (place b : ℕ) (bs : List ℕ) (c : Character) → drop place frame.bytes ≡ b ∷ bs
    → StandsIn frame c.source
    → (stands_at frame.number place c.byte c.source ≡ (c.byte == b && is_from frame.number place (origin_of c.source) && not (is_end bs)))
    × (ends_at frame.number place c.byte c.source ≡ (c.byte == b && is_from frame.number place (origin_of c.source) && is_end bs))
one frame place b bs c here stands = go c.source stands
  where
    none : (z l : Bool) → false ≡ (z && false && l)
    none true l = refl
    none false l = refl

    go : (s : Source) → StandsIn frame s
        → (stands_at frame.number place c.byte s ≡ (c.byte == b && is_from frame.number place (origin_of s) && not (is_end bs)))
        × (ends_at frame.number place c.byte s ≡ (c.byte == b && is_from frame.number place (origin_of s) && is_end bs))
    go (Frame at) stands = one-place frame.number place c.byte b bs frame.bytes at here stands
    go Control stands = (none (c.byte == b) (not (is_end bs)), none (c.byte == b) (is_end bs))
    go Noise stands = (none (c.byte == b) (not (is_end bs)), none (c.byte == b) (is_end bs))

-- behind a frame's end none of its characters stands
behind : (frame : WrittenFrame) (place byte : ℕ) (s : Source) → drop place frame.bytes ≡ [] → StandsIn frame s
    → (stands_at frame.number place byte s ≡ false) × (ends_at frame.number place byte s ≡ false)
behind frame place byte (Frame at) here stands = go (at.frame == frame.number) (at.place == place) refl refl
  where
    go : (x y : Bool) → (at.frame == frame.number) ≡ x → (at.place == place) ≡ y
        → ((x && y && byte == at.written && not at.is_last) ≡ false) × ((x && y && byte == at.written && at.is_last) ≡ false)
    go true true frame_is place_is =
        let f : at.frame ≡ frame.number = grind (arith, nat_tests) in
        let p : at.place ≡ place = grind (arith, nat_tests) in
        let is : IsPlaceIn frame.bytes at = stands f in
        let both : at.written ∷ is.rest ≡ [] = sym is.stands ∙ ap (λ (n : ℕ). drop n frame.bytes) p ∙ here in
        cc
    go true false frame_is place_is = (refl, refl)
    go false y frame_is place_is = (refl, refl)
behind frame place byte Control here stands = (refl, refl)
behind frame place byte Noise here stands = (refl, refl)

join : (x o e front end rest : Bool) → (front && end) ≡ rest → (e ≡ true → rest ≡ false)
    → (((x && o && not e) && front) && end) ≡ (x && o && rest)
join false o e front end rest is none = refl
join true false e front end rest is none = refl
join true true true front end rest is none = sym (none refl)
join true true false front end rest is none = is

none-left : (number place : ℕ) (bs : List ℕ) (gathered : List Character) (next : Character) → is_end bs ≡ true
    → are_framed_from number place bs (characters_of gathered ++ character_of next ∷ []) ≡ false
none-left number place [] [] next is = refl
none-left number place [] (c ∷ cs) next is = refl
none-left number place (b ∷ bs) gathered next is = cc

at-end : (number place : ℕ) (bs : List ℕ) → are_framed_from number place bs [] ≡ is_end bs
at-end number place [] = refl
at-end number place (b ∷ bs) = refl

-- the test of one frame
pub same-frame : (frame : WrittenFrame) (place : ℕ) (bytes : List ℕ) (gathered : List Character) (next : Character)
    → drop place frame.bytes ≡ bytes → StandIn frame gathered → StandsIn frame next.source
    → (are_front frame.number place gathered && ends_at frame.number (place + length gathered) next.byte next.source)
    ≡ are_framed_from frame.number place bytes (characters_of gathered ++ character_of next ∷ [])
same-frame frame place [] [] next here are is =
    ap (λ (n : ℕ). ends_at frame.number n next.byte next.source) (omega arith) ∙ (behind frame place next.byte next.source here is).1
same-frame frame place (b ∷ bs) [] next here are is =
    ap (λ (n : ℕ). ends_at frame.number n next.byte next.source) (omega arith) ∙ (one frame place b bs next here is).1
    ∙ ap (λ (l : Bool). next.byte == b && is_from frame.number place (origin_of next.source) && l) (sym (at-end frame.number (place + 1) bs))
same-frame frame place [] (c ∷ cs) next here are is =
    ap (λ (t : Bool). (t && are_front frame.number (place + 1) cs) && ends_at frame.number (place + length (c ∷ cs)) next.byte next.source)
    (behind frame place c.byte c.source here are.0).0
same-frame frame place (b ∷ bs) (c ∷ cs) next here are is =
    ap (λ (t : Bool). (t && are_front frame.number (place + 1) cs) && ends_at frame.number (place + length (c ∷ cs)) next.byte next.source)
    (one frame place b bs c here are.0).0
    ∙ ap (λ (n : ℕ). ((c.byte == b && is_from frame.number place (origin_of c.source) && not (is_end bs)) && are_front frame.number (place + 1) cs) && ends_at frame.number n next.byte next.source)
    (shifted (length cs))
    ∙ join (c.byte == b) (is_from frame.number place (origin_of c.source)) (is_end bs) (are_front frame.number (place + 1) cs)
    (ends_at frame.number (place + 1 + length cs) next.byte next.source)
    (are_framed_from frame.number (place + 1) bs (characters_of cs ++ character_of next ∷ []))
    (same-frame frame (place + 1) bs cs next (drop-rest place frame.bytes b bs here) are.1 is)
    (none-left frame.number (place + 1) bs cs next)
  where
    shifted : (n : ℕ) → place + suc n ≡ place + 1 + n
    shifted n = omega arith

-- the test that needs no frames
whole-from : (number : ℕ) (gathered : List Character) (byte : ℕ) (s : Source)
    → (are_front number 0 gathered && ends_at number (0 + length gathered) byte s) ≡ true → ends_frame gathered byte s ≡ true
whole-from number gathered byte (Frame at) is =
    let both = both-true (are_front number 0 gathered) (ends_at number (0 + length gathered) byte (Frame at)) is in
    let f : at.frame ≡ number = grind (arith, nat_tests, both.1) in
    let front : are_front at.frame 0 gathered ≡ true = ap (λ (n : ℕ). are_front n 0 gathered) f ∙ both.0 in
    grind (arith, nat_tests, both.1, front)
whole-from number gathered byte Control is =
    let both = both-true (are_front number 0 gathered) false is in cc
whole-from number gathered byte Noise is =
    let both = both-true (are_front number 0 gathered) false is in cc

pub record IsWholeOf (gathered : List Character) (byte : ℕ) (s : Source) : Type 0 where
  pub at : FramePlace
  pub source_is : s ≡ Frame at
  pub test : (are_front at.frame 0 gathered && ends_at at.frame (0 + length gathered) byte s) ≡ true

whole-to : (gathered : List Character) (byte : ℕ) (s : Source) → ends_frame gathered byte s ≡ true → IsWholeOf gathered byte s
whole-to gathered byte (Frame at) is = record {
  at = at;
  source_is = refl;
  test =
      let own : (at.frame == at.frame) ≡ true = grind (arith, nat_tests) in
      grind (arith, nat_tests, is, own);
}
whole-to gathered byte Control is = cc
whole-to gathered byte Noise is = cc

-- among all frames
pub whole-same : (frames : List WrittenFrame) (count : ℕ) (gathered : List Character) (next : Character) → AreNumbered frames count
    → AreFrom frames gathered → IsFrom frames next.source
    → is_whole gathered next ≡ is_some (whole_frame (characters_of gathered ++ character_of next ∷ []) frames)
whole-same frames count gathered next are from is = go (whole_frame all frames) refl
  where
    all : List order.Character
    all = characters_of gathered ++ character_of next ∷ []

    same : (frame : WrittenFrame) → Contains frames frame
        → (are_front frame.number 0 gathered && ends_at frame.number (0 + length gathered) next.byte next.source) ≡ are_all_of all frame
    same frame member =
        same-frame frame 0 frame.bytes gathered next refl (stand-in frames count frame gathered are member from)
        (stands-in frames count frame next.source are member is)

    none : whole_frame all frames ≡ None → (b : Bool) → is_whole gathered next ≡ b → b ≡ false
    none nothing false is_it = refl
    none nothing true is_it = absurd (apart (whole-to gathered next.byte next.source is_it))
      where
        apart : IsWholeOf gathered next.byte next.source → ⊥
        apart whole =
            let in_frame : IsInFrame frames whole.at = subst (λ (s : Source). IsFrom frames s) whole.source_is is in
            let frame : WrittenFrame = in_frame.frame in
            let fails = not_found (are_all_of all) frames frame nothing in_frame.is_written in
            let test = ap (λ (n : ℕ). are_front n 0 gathered && ends_at n (0 + length gathered) next.byte next.source) in_frame.number in
            let passes : are_all_of all frame ≡ true = sym (same frame in_frame.is_written) ∙ test ∙ whole.test in
            cc

    go : (it : Option WrittenFrame) → whole_frame all frames ≡ it → is_whole gathered next ≡ is_some it
    go None nothing = none nothing (is_whole gathered next) refl
    go (Some frame) some =
        let it = found (are_all_of all) frames frame some in
        whole-from frame.number gathered next.byte next.source (same frame it.0 ∙ it.1)
