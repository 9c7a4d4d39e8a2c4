-- What an end has gathered came since it granted the line.
use Rattle.std.specs.Prelude.{◌≡◌, ℕ, Bool, true, false, ◌==◌, ◌&&◌, nat_le, nat_lt, List, [], ◌∷◌, ◌++◌, length, slice_index, Option, Some, None, if◌then◌else◌, refl}
use Rattle.std.proofs.Common.{sym, ap, ◌∙◌, ◌+◌, append_assoc, append-nil}
use Rattle.block_codec.specs.Block.{BlockView}
use Rattle.block_codec.specs.Frame.{frame_bytes}
use Rattle.gl_base.specs.declared.side.Side.{Side}
use Rattle.gl_base.specs.declared.side.Side.TheVariants.{Equipment, Host}
use Rattle.line_end.specs.declared.event.LineCause.{LineCause}
use Rattle.line_end.specs.declared.event.LineEvent.TheVariants.{Arrived}
use Rattle.line_end.specs.declared.event.Phase.{Phase}
use Rattle.line_end.specs.declared.event.Phase.TheVariants.{Idle, AwaitEot, AwaitAck, AwaitLength, Gathering, Settling}
use Rattle.line_end.specs.Frames.{block_in, is_frame, sum_cause}
use Rattle.line_end.specs.Laws.{CameWhole}
use Rattle.line_end.specs.Runs.{characters, outcome_after, state_after, taken_by}
use Rattle.line_end.specs.State.{LineState}
use Rattle.line_end.specs.Step.{ack, enq, eot, LineCall, Outcome, arrives, contends, fails_try, gathered_in, gathers, is_due, line_row, line_step, quietly, refuses_at_last, settles}
use Rattle.line_end.specs.Step.LineCall.{Send, Resume, Cancel, Take, Tick}
use Rattle.line_end.specs.Step.LineInput.{Character, Deadline}
use Rattle.line_end.proofs.Framed.{frame_bytes-block_in}
use Rattle.line_end.proofs.ByTest.{by_test}

-- the characters of a frame that the end has granted, as far as they came
abbrev pub pending_in : Phase → List ℕ → Option (List ℕ)
pending_in AwaitLength gathered = Some []
pending_in Gathering gathered = Some gathered
pending_in _ gathered = None

abbrev pub pending : LineState → Option (List ℕ)
pending s = pending_in s.phase s.gathered

-- a call leaves no such frame, or grants a new one, or gives the present one a character
pub data Follows (s : LineState) (call : LineCall) (o : Outcome) : Type 0 where
  nothing_pends : pending o.next ≡ None → Follows s call o
  granted : o.written ≡ eot ∷ [] → pending o.next ≡ Some [] → Follows s call o
  further : (g : List ℕ) → pending s ≡ Some g → pending o.next ≡ Some (g ++ taken_by call) → Follows s call o

-- where nothing changes and nothing was taken
pub follows-same : (s : LineState) (call : LineCall) → taken_by call ≡ [] → Follows s call (quietly s)
follows-same s call none = go (pending s) refl
  where
    go : (p : Option (List ℕ)) → pending s ≡ p → Follows s call (quietly s)
    go None is = nothing_pends is
    go (Some g) is = further g is (is ∙ ap Some (sym (append-nil g)) ∙ ap (λ (more : List ℕ). Some (g ++ more)) (sym none))

pub follows-fails : (s : LineState) (call : LineCall) (now : ℕ) → Follows s call (fails_try s now)
follows-fails s call now =
    by_test (Follows s call) (s.try_number == s.times.rty + 1) (nothing_pends refl)
    (nothing_pends refl)

pub follows-contends :
    (side : Side) (s : LineState) (byte now : ℕ) → s.phase ≡ AwaitEot
    → Follows s (Take byte now) (contends side s now)
follows-contends Host s byte now is = granted refl refl
follows-contends Equipment s byte now is = nothing_pends (ap (λ (p : Phase). pending_in p s.gathered) is)

pub follows-gathered :
    (s : LineState) (byte now : ℕ) → s.phase ≡ Gathering
    → Follows s (Take byte now) (gathered_in (s.gathered ++ byte ∷ []) s now)
follows-gathered s byte now is =
    let all = s.gathered ++ byte ∷ [] in
    by_test (Follows s (Take byte now)) (nat_lt (length all) (slice_index all 0 + 3)) (further s.gathered (ap (λ (p : Phase). pending_in p s.gathered) is) refl)
    (by_test (Follows s (Take byte now)) (is_frame all) (nothing_pends refl) (nothing_pends refl))

-- a character, phase by phase
pub follows-character :
    (phase : Phase) (s : LineState) (byte now : ℕ) → s.phase ≡ phase
    → Follows s (Take byte now) (line_row phase (Character byte) s now)
follows-character Idle s byte now is =
    by_test (Follows s (Take byte now)) (byte == enq) (granted refl refl)
    (nothing_pends (ap (λ (p : Phase). pending_in p s.gathered) is))
follows-character AwaitEot s byte now is =
    by_test (Follows s (Take byte now)) (byte == eot) (nothing_pends refl)
    (by_test (Follows s (Take byte now)) (byte == enq) (follows-contends s.side s byte now is)
    (nothing_pends (ap (λ (p : Phase). pending_in p s.gathered) is)))
follows-character AwaitAck s byte now is =
    by_test (Follows s (Take byte now)) (byte == ack) (nothing_pends refl)
    (follows-fails s (Take byte now) now)
follows-character AwaitLength s byte now is =
    by_test (Follows s (Take byte now)) (nat_le 10 byte && nat_le byte 254) (further [] (ap (λ (p : Phase). pending_in p s.gathered) is) refl)
    (nothing_pends refl)
follows-character Gathering s byte now is = follows-gathered s byte now is
follows-character Settling s byte now is = nothing_pends (ap (λ (p : Phase). pending_in p s.gathered) is)

-- a deadline, phase by phase
pub follows-deadline :
    (phase : Phase) (s : LineState) (now : ℕ) → s.phase ≡ phase → Follows s (Tick now) (line_row phase Deadline s now)
follows-deadline Idle s now is = follows-same s (Tick now) refl
follows-deadline AwaitEot s now is = follows-fails s (Tick now) now
follows-deadline AwaitAck s now is = follows-fails s (Tick now) now
follows-deadline AwaitLength s now is = nothing_pends refl
follows-deadline Gathering s now is = nothing_pends refl
follows-deadline Settling s now is =
    elim s.cause as (λ (cause : Option LineCause). Follows s (Tick now) (refuses_at_last cause s))
    [ None ↦ follows-same s (Tick now) refl | Some cause ↦ nothing_pends refl ]

-- each call
pub follows : (s : LineState) (call : LineCall) → Follows s call (line_step s call)
follows s (Send block now) = nothing_pends refl
follows s (Resume now) = nothing_pends refl
follows s Cancel = nothing_pends refl
follows s (Take byte now) = follows-character s.phase s byte now refl
follows s (Tick now) =
    by_test (Follows s (Tick now)) (is_due s.deadline now) (follows-deadline s.phase s now refl)
    (follows-same s (Tick now) refl)

-- what pends came since the end granted the line
pub record CameSince (start : LineState) (calls : List LineCall) (gathered : List ℕ) : Type 0 where
  pub since : List LineCall
  pub granting : LineCall
  pub earlier : List LineCall
  pub parts : calls ≡ since ++ granting ∷ earlier
  pub granted : (outcome_after start earlier granting).written ≡ eot ∷ []
  pub came : characters since ≡ gathered

pub came_since :
    (start : LineState) → pending start ≡ None → (calls : List LineCall) (g : List ℕ)
    → pending (state_after start calls) ≡ Some g → CameSince start calls g
came_since start idle [] g pends = cc
came_since start idle (call ∷ before) g pends =
    go (follows (state_after start before) call) (came_since start idle before)
  where
    go : Follows (state_after start before) call (line_step (state_after start before) call)
        → ((f : List ℕ) → pending (state_after start before) ≡ Some f → CameSince start before f)
        → CameSince start (call ∷ before) g
    go (nothing_pends none) earlier = cc
    go (granted written empty) earlier = record {
      since = [];
      granting = call;
      earlier = before;
      parts = refl;
      granted = written;
      came = cc;
    }
    go (further f was is) earlier =
        let old = earlier f was in
        let all : f ++ taken_by call ≡ g = cc in
        record {
          since = call ∷ old.since;
          granting = old.granting;
          earlier = old.earlier;
          parts = ap (λ (calls : List LineCall). call ∷ calls) old.parts;
          granted = old.granted;
          came = ap (λ (front : List ℕ). front ++ taken_by call) old.came ∙ all;
        }

-- what the newest character of a frame leaves, by its two tests
abbrev pub decided : List ℕ → LineState → ℕ → Bool → Bool → Outcome
decided all s now more framed =
    if more then gathers all s now
    else if framed then arrives (block_in all) s
    else settles (sum_cause all) s now

-- what is told where the last character came
pub arrives-gathered :
    (all : List ℕ) (s : LineState) (now : ℕ) (block : BlockView)
    → (gathered_in all s now).event ≡ Arrived block
    → (all ≡ frame_bytes block) × ((gathered_in all s now).next.gathered ≡ [])
arrives-gathered all s now block = go (nat_lt (length all) (slice_index all 0 + 3)) (is_frame all) refl
  where
    go : (more framed : Bool) → is_frame all ≡ framed
        → (decided all s now more framed).event ≡ Arrived block
        → (all ≡ frame_bytes block) × ((decided all s now more framed).next.gathered ≡ [])
    go true framed is told = cc
    go false false is told = cc
    go false true is told =
        let same : block_in all ≡ block = cc in
        (frame_bytes-block_in all is ∙ ap frame_bytes same, refl)

-- a block that arrives is what was gathered with the character that was taken
abbrev pub Ended : LineState → LineCall → Outcome → BlockView → Type 0
Ended s call o block =
    o.event ≡ Arrived block
    → (s.phase ≡ Gathering) × (s.gathered ++ taken_by call ≡ frame_bytes block) × (o.next.gathered ≡ [])

pub ended-fails :
    (s : LineState) (call : LineCall) (now : ℕ) (block : BlockView) → Ended s call (fails_try s now) block
ended-fails s call now block =
    by_test (λ (o : Outcome). Ended s call o block) (s.try_number == s.times.rty + 1) (λ told. cc)
    (λ told. cc)

pub ended-contends :
    (side : Side) (s : LineState) (call : LineCall) (now : ℕ) (block : BlockView)
    → Ended s call (contends side s now) block
ended-contends Host s call now block = λ told. cc
ended-contends Equipment s call now block = λ told. cc

pub ended-character :
    (phase : Phase) (s : LineState) (byte now : ℕ) (block : BlockView) → s.phase ≡ phase
    → Ended s (Take byte now) (line_row phase (Character byte) s now) block
ended-character Idle s byte now block is =
    by_test (λ (o : Outcome). Ended s (Take byte now) o block) (byte == enq) (λ told. cc) (λ told. cc)
ended-character AwaitEot s byte now block is =
    by_test (λ (o : Outcome). Ended s (Take byte now) o block) (byte == eot) (λ told. cc)
    (by_test (λ (o : Outcome). Ended s (Take byte now) o block) (byte == enq) (ended-contends s.side s (Take byte now) now block)
    (λ told. cc))
ended-character AwaitAck s byte now block is =
    by_test (λ (o : Outcome). Ended s (Take byte now) o block) (byte == ack) (λ told. cc)
    (ended-fails s (Take byte now) now block)
ended-character AwaitLength s byte now block is =
    by_test (λ (o : Outcome). Ended s (Take byte now) o block) (nat_le 10 byte && nat_le byte 254) (λ told. cc)
    (λ told. cc)
ended-character Gathering s byte now block is =
    λ told. let whole = arrives-gathered (s.gathered ++ byte ∷ []) s now block told in (is, whole.0, whole.1)
ended-character Settling s byte now block is = λ told. cc

pub ended-deadline :
    (phase : Phase) (s : LineState) (call : LineCall) (now : ℕ) (block : BlockView) → Ended s call (line_row phase Deadline s now) block
ended-deadline Idle s call now block = λ told. cc
ended-deadline AwaitEot s call now block = ended-fails s call now block
ended-deadline AwaitAck s call now block = ended-fails s call now block
ended-deadline AwaitLength s call now block = λ told. cc
ended-deadline Gathering s call now block = λ told. cc
ended-deadline Settling s call now block =
    elim s.cause as (λ (cause : Option LineCause). Ended s call (refuses_at_last cause s) block)
    [ None ↦ λ told. cc | Some cause ↦ λ told. cc ]

pub ended : (s : LineState) (call : LineCall) (block : BlockView) → Ended s call (line_step s call) block
ended s (Send b now) block = λ told. cc
ended s (Resume now) block = λ told. cc
ended s Cancel block = λ told. cc
ended s (Take byte now) block = ended-character s.phase s byte now block refl
ended s (Tick now) block =
    by_test (λ (o : Outcome). Ended s (Tick now) o block) (is_due s.deadline now) (ended-deadline s.phase s (Tick now) now block)
    (λ told. cc)

-- the characters of all calls are those of the earlier calls, and then those of the later ones
pub characters-append :
    (since earlier : List LineCall) → characters (since ++ earlier) ≡ characters earlier ++ characters since
characters-append [] earlier = sym (append-nil (characters earlier))
characters-append (call ∷ since) earlier =
    ap (λ (front : List ℕ). front ++ taken_by call) (characters-append since earlier)
    ∙ append_assoc (characters earlier) (characters since) (taken_by call)

-- a block that arrives came whole
pub came_whole :
    (start : LineState) → pending start ≡ None → (before : List LineCall) (call : LineCall) (block : BlockView)
    → (outcome_after start before call).event ≡ Arrived block → CameWhole start (call ∷ before) block
came_whole start idle before call block told =
    let old = state_after start before in
    let last = ended old call block told in
    let pends : pending old ≡ Some old.gathered = ap (λ (p : Phase). pending_in p old.gathered) last.0 in
    let came = came_since start idle before old.gathered pends in
    let frame : characters came.since ++ taken_by call ≡ frame_bytes block =
    ap (λ (front : List ℕ). front ++ taken_by call) came.came ∙ last.1
    in
    let parts : call ∷ before ≡ (call ∷ came.since) ++ came.granting ∷ came.earlier =
    ap (λ (calls : List LineCall). call ∷ calls) came.parts
    in
    record {
      since = call ∷ came.since;
      granting = came.granting;
      earlier = came.earlier;
      parts = parts;
      granted = came.granted;
      frame = frame;
      last =
          ap characters parts
          ∙ characters-append (call ∷ came.since) (came.granting ∷ came.earlier)
          ∙ ap (λ (back : List ℕ). characters (came.granting ∷ came.earlier) ++ back) frame;
    }
