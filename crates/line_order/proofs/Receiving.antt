-- The direction to an end, over a call of that end.
use Rattle.std.specs.Prelude.{◌≡◌, ◌<◌, ◌≤◌, ◌⊎◌, ℕ, true, ◌+◌, ◌*◌, List, [], ◌∷◌, ◌++◌, length, Option, Some, None, All, refl}
use Rattle.std.specs.List.{Contains}
use Rattle.std.proofs.Common.{sym, ap, ◌∙◌, subst, arith, inl, inr}
use Rattle.std.proofs.lemmas.List.{length-map, map-append}
use Rattle.std.proofs.lemmas.List.Elements.{All-cons, All-contains_itself}
use Rattle.std.proofs.lemmas.List.Kept.{AllPairs-cons}
use Rattle.block_codec.specs.Block.{BlockView}
use Rattle.block_codec.specs.Frame.{frame_bytes}
use Rattle.block_codec.proofs.Frames.{length-frame_bytes}
use Rattle.line_end.specs.declared.event.LineEvent.{LineEvent}
use Rattle.line_end.specs.declared.event.LineEvent.TheVariants.{Nothing, Arrived, Sent, Failed, Refused}
use Rattle.line_end.specs.Frames.{block_in}
use Rattle.line_end.specs.Runs.{taken_by}
use Rattle.line_end.specs.Step.{LineCall, line_step}
use Rattle.line_end.proofs.Framed.{block_in-frame_bytes}
use Rattle.line_order.specs.Acts.{arrived_after, received}
use Rattle.line_order.specs.Characters.{Character, framed_from}
use Rattle.line_order.specs.Laws.{IsGiven, IsNewer}
use Rattle.line_order.specs.Line.{Arrival, View, WrittenFrame, are_all_of, given_at, last_of, whole_frame}
use Rattle.line_order.proofs.Calls.{ArrivesWith, Gathers, arrives, last-all, last-back, last-none}
use Rattle.line_order.proofs.Flows.{AreOf, Flows, are_framed_from-same, are_of-back, are_of-frame, bytes-framed_from, flows-append, flows-first, flows-least, flows-one, flows-split, flows-wider}
use Rattle.line_order.proofs.Given.{contains-cases, found}
use Rattle.line_order.proofs.Sound.{IsSound, IsFlowing, IsHearing, IsOwnFrame, IsSending, bytes_of}

-- characters that were gathered are dropped, begin with those that are taken, or go on with them
abbrev pub IsKept : List Character → List Character → List Character → Type 0
IsKept gathered taken kept = (kept ≡ []) ⊎ ((kept ≡ taken) ⊎ (kept ≡ gathered ++ taken))

-- the last characters are those whose bytes the end has gathered
pub kept-bytes :
    (gathered taken : List Character) (new : List ℕ) → Gathers (bytes_of gathered) (bytes_of taken) new
    → IsKept gathered taken (last_of (length new) (gathered ++ taken))
    × (bytes_of (last_of (length new) (gathered ++ taken)) ≡ new)
kept-bytes gathered taken new (inl none) =
    let kept : last_of (length new) (gathered ++ taken) ≡ [] =
    ap (λ (bytes : List ℕ). last_of (length bytes) (gathered ++ taken)) none ∙ last-none (gathered ++ taken)
    in
    (inl kept, ap bytes_of kept ∙ sym none)
kept-bytes gathered taken new (inr (inl begun)) =
    let long : length new ≡ length taken = ap length begun ∙ length-map taken (λ (c : Character). c.byte) in
    let kept : last_of (length new) (gathered ++ taken) ≡ taken =
    ap (λ (n : ℕ). last_of n (gathered ++ taken)) long ∙ last-back gathered taken
    in
    (inr (inl kept), ap bytes_of kept ∙ sym begun)
kept-bytes gathered taken new (inr (inr further)) =
    let joined : new ≡ bytes_of (gathered ++ taken) = further ∙ sym (map-append (λ (c : Character). c.byte) gathered taken) in
    let long : length new ≡ length (gathered ++ taken) =
    ap length joined ∙ length-map (gathered ++ taken) (λ (c : Character). c.byte)
    in
    let kept : last_of (length new) (gathered ++ taken) ≡ gathered ++ taken =
    ap (λ (n : ℕ). last_of n (gathered ++ taken)) long ∙ last-all (gathered ++ taken)
    in
    (inr (inr kept), ap bytes_of kept ∙ sym joined)

-- nothing arrives
pub flowing-kept :
    (gathered taken kept way : List Character) (arrived : List Arrival) (written later lost : ℕ) → written ≤ later
    → IsKept gathered taken kept → IsFlowing gathered (taken ++ way) arrived written lost
    → IsFlowing kept way arrived later lost
flowing-kept gathered taken kept way arrived written later lost less keeps is = record {
  low = is.low;
  mid = parts.0;
  before = is.before;
  front = front keeps;
  back = flows-wider way parts.0 (300 * written) parts.0 (300 * later) (omega arith) (omega arith) parts.2;
  since = omega (arith, is.since, more);
}
  where
    parts : (mid : ℕ) × Flows taken is.mid mid × Flows way mid (300 * written)
    parts = flows-split taken way is.mid (300 * written) is.back

    more : is.mid ≤ parts.0
    more = flows-least taken is.mid parts.0 parts.1

    most : is.low ≤ is.mid
    most = flows-least gathered is.low is.mid is.front

    front : IsKept gathered taken kept → Flows kept is.low parts.0
    front (inl none) =
        let nothing : Flows [] is.low parts.0 = omega (arith, more, most) in
        subst (λ (xs : List Character). Flows xs is.low parts.0) (sym none) nothing
    front (inr (inl begun)) =
        subst (λ (xs : List Character). Flows xs is.low parts.0) (sym begun)
        (flows-wider taken is.mid parts.0 is.low parts.0 most (omega arith) parts.1)
    front (inr (inr further)) =
        subst (λ (xs : List Character). Flows xs is.low parts.0) (sym further)
        (flows-append gathered taken is.low is.mid parts.0 is.front parts.1)

-- a whole frame arrives: it is later than all that has arrived, and was written since the last power loss
pub record IsLater (arrived : List Arrival) (lost : ℕ) (frame : WrittenFrame) : Type 0 where
  pub later : (a : Arrival) → Contains arrived a → a.frame.number < frame.number
  pub since : lost ≤ frame.number

pub flowing-arrived :
    (gathered way : List Character) (last : Character) (arrived : List Arrival) (written later lost : ℕ) (block : BlockView)
    (frame : WrittenFrame) → written ≤ later → 0 < length frame.bytes → length frame.bytes ≤ 300
    → gathered ++ last ∷ [] ≡ framed_from frame.number 0 frame.bytes
    → IsFlowing gathered (last ∷ way) arrived written lost
    → IsLater arrived lost frame
    × IsFlowing [] way (record { block = block; frame = frame; lost = lost } ∷ arrived) later lost
flowing-arrived gathered way last arrived written later lost block frame less some most whole is = (
  record {
    later = λ a member. omega (arith, is.before a member, first.0);
    since = omega (arith, is.since, at_last);
  },
  record {
    low = parts.0;
    mid = parts.0;
    before = λ a member. before a (contains-cases new arrived a member);
    front = omega arith;
    back = flows-wider way parts.0 (300 * written) parts.0 (300 * later) (omega arith) (omega arith) parts.2;
    since = omega (arith, is.since, more);
  },
)
  where
    new : Arrival
    new = record { block = block; frame = frame; lost = lost }

    parts : (mid : ℕ) × Flows (last ∷ []) is.mid mid × Flows way mid (300 * written)
    parts = flows-split (last ∷ []) way is.mid (300 * written) is.back

    more : is.mid ≤ parts.0
    more = flows-least (last ∷ []) is.mid parts.0 parts.1

    all : Flows (framed_from frame.number 0 frame.bytes) is.low parts.0
    all =
        subst (λ (xs : List Character). Flows xs is.low parts.0) whole
        (flows-append gathered (last ∷ []) is.low is.mid parts.0 is.front parts.1)

    first : (is.low ≤ 300 * frame.number) × (300 * frame.number < parts.0)
    first = flows-first frame.number frame.bytes is.low parts.0 some all

    are : AreOf frame.number (last ∷ [])
    are =
        are_of-back frame.number gathered (last ∷ [])
        (subst (AreOf frame.number) (sym whole) (are_of-frame frame.number 0 frame.bytes (omega arith)))

    at_last : is.mid < 300 * frame.number + 300
    at_last = flows-one frame.number last is.mid parts.0 are parts.1

    before : (a : Arrival) → (a ≡ new) ⊎ Contains arrived a → 300 * a.frame.number < parts.0
    before a (inl same) =
        let number = ap (λ (x : Arrival). x.frame.number) same in
        let at : 300 * frame.number < parts.0 = first.1 in
        omega (arith, number, at)
    before a (inr member) =
        let old = is.before a member in
        let at : (is.low ≤ 300 * frame.number) × (300 * frame.number < parts.0) = first in
        omega (arith, old, at.0, at.1)

-- the block of a later frame is heard
pub hearing-arrived :
    (held : Option BlockView) (given : List BlockView) (frames : List WrittenFrame) (written lost : ℕ)
    (arrived : List Arrival) (block : BlockView) (frame : WrittenFrame)
    → IsSending held given frames written → Contains frames frame → given_at frame.place given ≡ Some block
    → IsLater arrived lost frame → IsHearing frames given arrived
    → IsHearing frames given (record { block = block; frame = frame; lost = lost } ∷ arrived)
hearing-arrived held given frames written lost arrived block frame sends member at is_later is = record {
  own = λ a in_arrived. own a (contains-cases new arrived a in_arrived);
  in_order = record {
    order = AllPairs-cons IsNewer new arrived newer is.in_order.order;
    blocks = All-cons (IsGiven given) new arrived (record { block = at; since = is_later.since }) is.in_order.blocks;
  };
}
  where
    new : Arrival
    new = record { block = block; frame = frame; lost = lost }

    own : (a : Arrival) → (a ≡ new) ⊎ Contains arrived a → Contains frames a.frame
    own a (inl same) = subst (λ (x : Arrival). Contains frames x.frame) (sym same) member
    own a (inr in_arrived) = is.own a in_arrived

    newer : All (IsNewer new) arrived
    newer = λ k d within.
        let in_arrived = All-contains_itself arrived k d within in
        let less = is_later.later _ in_arrived in
        record { place = sends.rises _ frame (is.own _ in_arrived) member less; number = less }

-- one character
pub one-character : (xs : List Character) (byte : ℕ) → bytes_of xs ≡ byte ∷ [] → (x : Character) × (xs ≡ x ∷ [])
one-character [] byte is = cc
one-character (x ∷ []) byte is = (x, refl)
one-character (x ∷ y ∷ xs) byte is = cc

-- what holds of the direction to the end here, when it has kept these characters and these blocks have arrived
abbrev pub IsReceived : View → ℕ → List Character → List Arrival → Type 0
IsReceived view later kept arrived =
    IsFlowing kept view.there.under_way arrived later view.lost
    × IsHearing view.there.frames view.there.given arrived

abbrev pub arrival_of : View → BlockView → WrittenFrame → List Arrival
arrival_of view block frame = record { block = block; frame = frame; lost = view.lost } ∷ view.here.arrived

-- a block arrives in a frame
pub received-block :
    (taken : List Character) (call : LineCall) (view : View) (later : ℕ) (block : BlockView) (frame : WrittenFrame)
    → view.written ≤ later → bytes_of taken ≡ taken_by call → (line_step view.here.state call).event ≡ Arrived block
    → whole_frame (received view.here taken) view.there.frames ≡ Some frame → IsSound taken view
    → IsReceived view later [] (arrival_of view block frame)
received-block taken call view later block frame less are told is_found is = (
  both.1,
  hearing-arrived view.there.state.held view.there.given view.there.frames view.written view.lost view.here.arrived
      block frame is.back.sending in_frames.0 at both.0 is.back.hearing,
)
  where
    with_it : ArrivesWith view.here.state call block
    with_it = arrives view.here.state call block told

    one : (x : Character) × (taken ≡ x ∷ [])
    one = one-character taken with_it.byte (are ∙ with_it.taken)

    in_frames : Contains view.there.frames frame × (are_all_of (received view.here taken) frame ≡ true)
    in_frames = found (are_all_of (received view.here taken)) view.there.frames frame is_found

    whole : view.here.gathered ++ taken ≡ framed_from frame.number 0 frame.bytes
    whole = are_framed_from-same frame.number 0 frame.bytes (received view.here taken) in_frames.1

    own : IsOwnFrame view.there.given view.written frame
    own = is.back.sending.own frame in_frames.0

    -- the bytes that the end has judged are those of the frame
    judged : view.here.state.gathered ++ with_it.byte ∷ [] ≡ frame_bytes own.block
    judged =
        ap (λ (front : List ℕ). front ++ with_it.byte ∷ []) (sym is.here_takes.bytes)
        ∙ ap (λ (back : List ℕ). bytes_of view.here.gathered ++ back) (sym (are ∙ with_it.taken))
        ∙ sym (map-append (λ (c : Character). c.byte) view.here.gathered taken)
        ∙ ap bytes_of whole ∙ bytes-framed_from frame.number 0 frame.bytes ∙ own.framed

    same : own.block ≡ block
    same = sym (block_in-frame_bytes own.block own.in_block) ∙ ap block_in (sym judged) ∙ with_it.block_is

    at : given_at frame.place view.there.given ≡ Some block
    at = own.at ∙ ap Some same

    size : length frame.bytes ≡ 13 + length own.block.body
    size = ap length own.framed ∙ length-frame_bytes own.block

    both : IsLater view.here.arrived view.lost frame
        × IsFlowing [] view.there.under_way (arrival_of view block frame) later view.lost
    both =
        let most = own.in_block.at_most_244 in
        let size_is : length frame.bytes ≡ 13 + length own.block.body = size in
        let flowing : List Character → Type 0 =
        λ xs. IsFlowing view.here.gathered (xs ++ view.there.under_way) view.here.arrived view.written view.lost
        in
        flowing-arrived view.here.gathered view.there.under_way one.0 view.here.arrived view.written later view.lost block
        frame less (omega arith) (omega arith)
        (ap (λ (xs : List Character). view.here.gathered ++ xs) (sym one.1) ∙ whole)
        (subst flowing one.1 is.back.flowing)

-- a call of the end here
pub received-call :
    (taken : List Character) (call : LineCall) (view : View) (later : ℕ) (kept : List Character)
    → view.written ≤ later → bytes_of taken ≡ taken_by call → IsKept view.here.gathered taken kept
    → ((line_step view.here.state call).next.gathered ≡ [] → kept ≡ []) → IsSound taken view
    → IsReceived view later kept
    (arrived_after view.lost (line_step view.here.state call).event
    (whole_frame (received view.here taken) view.there.frames) view.here.arrived)
received-call taken call view later kept less are keeps empties is =
    go (line_step view.here.state call).event (whole_frame (received view.here taken) view.there.frames) refl refl
  where
    quiet : IsReceived view later kept view.here.arrived
    quiet = (
      flowing-kept view.here.gathered taken kept view.there.under_way view.here.arrived view.written later view.lost less
          keeps is.back.flowing,
      is.back.hearing,
    )

    go : (event : LineEvent) (frame : Option WrittenFrame) → (line_step view.here.state call).event ≡ event
        → whole_frame (received view.here taken) view.there.frames ≡ frame
        → IsReceived view later kept (arrived_after view.lost event frame view.here.arrived)
    go (Arrived block) (Some frame) told is_found =
        let none : kept ≡ [] = empties (arrives view.here.state call block told).gathered in
        subst (λ (xs : List Character). IsReceived view later xs (arrival_of view block frame)) (sym none)
        (received-block taken call view later block frame less are told is_found is)
    go (Arrived block) None told is_found = quiet
    go Nothing frame told is_found = quiet
    go Sent frame told is_found = quiet
    go Failed frame told is_found = quiet
    go (Refused cause) frame told is_found = quiet
