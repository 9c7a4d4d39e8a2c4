-- What a call of an end leaves, as far as the order of arrival wants to know.
use Rattle.std.specs.Prelude.{◌≡◌, ◌≢◌, ◌⊎◌, ℕ, Bool, true, false, ◌+◌, ◌-◌, nat_lt, List, [], ◌∷◌, ◌++◌, length, drop, slice_index, if◌then◌else◌, refl}
use Rattle.std.proofs.Common.{sym, ap, ◌∙◌, subst, arith, inl, inr, append-nil, length-append}
use Rattle.std.proofs.Math.Seq.{drop-append_seam, drop-length}
use Rattle.block_codec.specs.Block.{BlockView}
use Rattle.line_end.specs.declared.event.LineEvent.TheVariants.{Arrived}
use Rattle.line_end.specs.declared.event.Phase.{Phase}
use Rattle.line_end.specs.declared.event.Phase.TheVariants.{Idle, AwaitEot, AwaitAck, AwaitLength, Gathering, Settling}
use Rattle.line_end.specs.Frames.{block_in, is_frame}
use Rattle.line_end.specs.Laws.{IsGathered}
use Rattle.line_end.specs.Runs.{taken_by}
use Rattle.line_end.specs.State.{IsLineState, LineState}
use Rattle.line_end.specs.Step.{LineCall, Outcome, gathered_in, is_due, line_row, line_step, quietly}
use Rattle.line_end.specs.Step.LineCall.{Send, Resume, Cancel, Take, Tick}
use Rattle.line_end.specs.Step.LineInput.{Character, Deadline}
use Rattle.line_end.proofs.Arrivals.{decided}
use Rattle.line_end.proofs.ByTest.{by_test}
use Rattle.line_end.proofs.Small.{step_facts}
use Rattle.line_order.specs.Characters as chars
use Rattle.line_order.specs.Line.{last_of}

-- what was gathered is dropped, begins with what was taken, or goes on with it
abbrev pub Gathers : List ℕ → List ℕ → List ℕ → Type 0
Gathers old taken new = (new ≡ []) ⊎ ((new ≡ taken) ⊎ (new ≡ old ++ taken))

pub gathers-where : (s : LineState) (byte now : ℕ) → s.phase ≡ Gathering
    → Gathers s.gathered (byte ∷ []) (line_row s.phase (Character byte) s now).next.gathered
gathers-where s byte now is =
    let all = s.gathered ++ byte ∷ [] in
    let P : Outcome → Type 0 = λ o. Gathers s.gathered (byte ∷ []) o.next.gathered in
    subst (λ (phase : Phase). P (line_row phase (Character byte) s now)) (sym is)
    (by_test P (nat_lt (length all) (slice_index all 0 + 3)) (inr (inr refl)) (by_test P (is_frame all) (inl refl) (inl refl)))

-- an end has gathered something in one phase alone
pub gathers-take : (s : LineState) (byte now : ℕ) → IsLineState s
    → Gathers s.gathered (byte ∷ []) (line_step s (Take byte now)).next.gathered
gathers-take s byte now is = go s.phase refl
  where
    elsewhere : s.phase ≢ Gathering → Gathers s.gathered (byte ∷ []) (line_step s (Take byte now)).next.gathered
    elsewhere other = cases (step_facts s (Take byte now)).gathered
      where
        cases : IsGathered s.gathered (byte ∷ []) (line_step s (Take byte now)).next.gathered
            → Gathers s.gathered (byte ∷ []) (line_step s (Take byte now)).next.gathered
        cases (inl same) = inl (same ∙ is.ungathered other)
        cases (inr more) = more

    go : (phase : Phase) → s.phase ≡ phase → Gathers s.gathered (byte ∷ []) (line_step s (Take byte now)).next.gathered
    go Idle at = elsewhere (λ other. cc)
    go AwaitEot at = elsewhere (λ other. cc)
    go AwaitAck at = elsewhere (λ other. cc)
    go AwaitLength at = elsewhere (λ other. cc)
    go Settling at = elsewhere (λ other. cc)
    go Gathering at = gathers-where s byte now at

pub gathers-none : (s : LineState) (call : LineCall) → taken_by call ≡ []
    → Gathers s.gathered (taken_by call) (line_step s call).next.gathered
gathers-none s call none = go (step_facts s call).gathered
  where
    go : IsGathered s.gathered (taken_by call) (line_step s call).next.gathered
        → Gathers s.gathered (taken_by call) (line_step s call).next.gathered
    go (inl same) =
        inr (inr (same ∙ sym (append-nil s.gathered) ∙ ap (λ (more : List ℕ). s.gathered ++ more) (sym none)))
    go (inr more) = more

pub gathers : (s : LineState) (call : LineCall) → IsLineState s
    → Gathers s.gathered (taken_by call) (line_step s call).next.gathered
gathers s (Send block now) is = gathers-none s (Send block now) refl
gathers s (Resume now) is = gathers-none s (Resume now) refl
gathers s Cancel is = gathers-none s Cancel refl
gathers s (Take byte now) is = gathers-take s byte now is
gathers s (Tick now) is = gathers-none s (Tick now) refl

-- a block arrives with a character, as the block in all that was gathered
pub record ArrivesWith (s : LineState) (call : LineCall) (block : BlockView) : Type 0 where
  pub byte : ℕ
  pub taken : taken_by call ≡ byte ∷ []
  pub block_is : block_in (s.gathered ++ byte ∷ []) ≡ block
  pub gathered : (line_step s call).next.gathered ≡ []

pub arrives-in :
    (all : List ℕ) (s : LineState) (now : ℕ) (block : BlockView) → (gathered_in all s now).event ≡ Arrived block
    → block_in all ≡ block
arrives-in all s now block = go (nat_lt (length all) (slice_index all 0 + 3)) (is_frame all)
  where
    go : (more framed : Bool) → (decided all s now more framed).event ≡ Arrived block → block_in all ≡ block
    go true framed told = cc
    go false false told = cc
    go false true told = cc

pub arrives-take :
    (s : LineState) (byte now : ℕ) (block : BlockView) → (line_step s (Take byte now)).event ≡ Arrived block
    → ArrivesWith s (Take byte now) block
arrives-take s byte now block told =
    let ended = (step_facts s (Take byte now)).arrived block told in
    let row : (gathered_in (s.gathered ++ byte ∷ []) s now).event ≡ Arrived block =
    subst (λ (phase : Phase). (line_row phase (Character byte) s now).event ≡ Arrived block) ended.0 told
    in
    record {
      byte = byte;
      taken = refl;
      block_is = arrives-in (s.gathered ++ byte ∷ []) s now block row;
      gathered = ended.2;
    }

pub arrives-tick :
    (s : LineState) (now : ℕ) (block : BlockView) → (line_step s (Tick now)).event ≡ Arrived block
    → ArrivesWith s (Tick now) block
arrives-tick s now block told = absurd (go (is_due s.deadline now) row)
  where
    in_phase : Phase → Bool → Outcome
    in_phase phase due = if due then line_row phase Deadline s now else quietly s

    row : (in_phase Gathering (is_due s.deadline now)).event ≡ Arrived block
    row =
        let ended = (step_facts s (Tick now)).arrived block told in
        subst (λ (phase : Phase). (in_phase phase (is_due s.deadline now)).event ≡ Arrived block) ended.0 told

    go : (due : Bool) → (in_phase Gathering due).event ≡ Arrived block → ⊥
    go true row = cc
    go false row = cc

pub arrives : (s : LineState) (call : LineCall) (block : BlockView) → (line_step s call).event ≡ Arrived block
    → ArrivesWith s call block
arrives s (Send b now) block told = cc
arrives s (Resume now) block told = cc
arrives s Cancel block told = cc
arrives s (Take byte now) block told = arrives-take s byte now block told
arrives s (Tick now) block told = arrives-tick s now block told

-- the last of a list, by how many they are
pub last-none : (xs : List chars.Character) → last_of 0 xs ≡ []
last-none xs = ap (λ (n : ℕ). drop n xs) (sub-zero (length xs)) ∙ drop-length xs
  where
    sub-zero : (n : ℕ) → n - 0 ≡ n
    sub-zero n = omega arith

pub last-back : (xs ys : List chars.Character) → last_of (length ys) (xs ++ ys) ≡ ys
last-back xs ys =
    let long : length (xs ++ ys) - length ys ≡ length xs = omega (arith, length-append xs ys) in
    ap (λ (n : ℕ). drop n (xs ++ ys)) long ∙ drop-append_seam xs ys

pub last-all : (xs : List chars.Character) → last_of (length xs) xs ≡ xs
last-all xs =
    let none : length xs - length xs ≡ 0 = omega arith in
    ap (λ (n : ℕ). drop n xs) none
