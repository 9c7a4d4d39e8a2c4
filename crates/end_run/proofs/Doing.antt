-- Pieces of a run as the code carries them out, one behind the other.
use Rattle.std.proofs.Common.{◌≡◌, List, [], ◌++◌, Option, Some, None, refl, sym, ap, subst, ◌∙◌, append_assoc, append-nil}
use Rattle.end_run.specs.declared.ending.Ending.{Ending}
use Rattle.end_run.specs.declared.ending.Ending.TheVariants.{Closed, DiskFailed, Full, LinkFailed, NoMemory, NumbersSpent, Stopped, Turns, WriteFailed}
use Rattle.end_run.specs.Acts.{Act}
use Rattle.end_run.specs.Outcome.{Did, DiskFails, Does, IsSpent, LinkFails, Made, MadePart, Runs, WriteFails}
use Rattle.end_run.specs.Pieces.{Piece, and_more, and_on, behind, still}
use Rattle.end_run.specs.Scenes.{Scene}
use Rattle.end_run.proofs.Joining.{did_both, did_none, disk_before, disk_behind, link_before, link_behind, made_both, part_before, part_behind, spent_behind, write_before, write_behind}

module _ {S C : Type 0} {a b : Scene S C} (c : Scene S C) (first : List (Act S C)) (one : Did a b first) where
  -- more acts were to be done
  pub does_behind : (how : Option Ending) (second : List (Act S C)) (result : Option Ending)
      → Does b c how second result
      → Does a c how (first ++ second) result
  does_behind how second None two = (two.0, did_both c first second one two.1)
  does_behind how second (Some Stopped) two = (two.0, did_both c first second one two.1)
  does_behind how second (Some Closed) two = (two.0, did_both c first second one two.1)
  does_behind how second (Some Turns) two = (two.0, did_both c first second one two.1)
  does_behind how second (Some NumbersSpent) two =
      (two.0, made_both c first second second one.made two.1, spent_behind c first second one how second two.2)
  does_behind how second (Some Full) two =
      (two.0, made_both c first second second one.made two.1, spent_behind c first second one how second two.2)
  does_behind how second (Some DiskFailed) two = disk_behind c first second one two
  does_behind how second (Some LinkFailed) two = link_behind c first second one two
  does_behind how second (Some WriteFailed) two = write_behind c first second one how two
  does_behind how second (Some NoMemory) two = part_behind c first second one how two

  pub runs_behind : (piece : Piece S C) (result : Option Ending) → Runs b c piece result
      → Runs a c (behind first piece) result
  runs_behind piece result two = does_behind piece.ended piece.acts result two

-- the first piece went on
pub more_on : {S C : Type 0} (first : Piece S C) (more : S → Piece S C) → first.ended ≡ None
    → and_more first more ≡ behind first.acts (more first.end)
more_on first more on = ap (λ (ended : Option Ending). and_on ended first more) on

-- it ended the run
pub runs_stop :
    {S C : Type 0} (a b : Scene S C) (first : Piece S C) (more : S → Piece S C) (how : Ending)
    → Runs a b first (Some how)
    → Runs a b (and_more first more) (Some how)
runs_stop {S} {C} a b first more how one = go how one
  where
    same : (how : Ending) → first.ended ≡ Some how → and_more first more ≡ first
    same how is = ap (λ (ended : Option Ending). and_on ended first more) is

    exact : (how : Ending) → first.ended ≡ Some how → Did a b first.acts
        → ((and_more first more).ended ≡ Some how) × Did a b (and_more first more).acts
    exact how is did =
        subst (λ (piece : Piece S C). (piece.ended ≡ Some how) × Did a b piece.acts) (sym (same how is)) (is, did)

    spent : (how : Ending) → first.ended ≡ Some how → Made a b first.acts → IsSpent first.ended a b first.acts
        → ((and_more first more).ended ≡ Some how) × Made a b (and_more first more).acts
        × IsSpent (and_more first more).ended a b (and_more first more).acts
    spent how is made at =
        subst
        (λ (piece : Piece S C).
        (piece.ended ≡ Some how) × Made a b piece.acts × IsSpent piece.ended a b piece.acts)
        (sym (same how is)) (is, made, at)

    with_more : (P : List (Act S C) → Type 0) → P first.acts → ((second : List (Act S C)) → P (first.acts ++ second))
        → (ended : Option Ending) → P (and_on ended first more).acts
    with_more P all cut None = cut (more first.end).acts
    with_more P all cut (Some how) = all

    with_later : (P : Piece S C → Type 0) → P first
        → (first.ended ≡ None → (later : Piece S C) → P (behind first.acts later)) → (ended : Option Ending)
        → first.ended ≡ ended → P (and_on ended first more)
    with_later P all cut None on = cut on (more first.end)
    with_later P all cut (Some how) on = all

    go : (how : Ending) → Runs a b first (Some how) → Runs a b (and_more first more) (Some how)
    go Stopped one = exact Stopped one.0 one.1
    go Closed one = exact Closed one.0 one.1
    go Turns one = exact Turns one.0 one.1
    go NumbersSpent one = spent NumbersSpent one.0 one.1 one.2
    go Full one = spent Full one.0 one.1 one.2
    go DiskFailed one =
        with_more (λ acts. DiskFails a b acts) one (λ second. disk_before a b first.acts second one) first.ended
    go LinkFailed one =
        with_more (λ acts. LinkFails a b acts) one (λ second. link_before a b first.acts second one) first.ended
    go WriteFailed one =
        with_later (λ piece. WriteFails piece.ended a b piece.acts) one
        (λ on later. write_before a b first.acts later.acts first.ended later.ended on one) first.ended refl
    go NoMemory one =
        with_later (λ piece. MadePart piece.ended a b piece.acts) one
        (λ on later. part_before a b first.acts later.acts first.ended later.ended on one) first.ended refl

-- a piece went on, and more was to be done
pub runs_more :
    {S C : Type 0} {a b : Scene S C} (c : Scene S C) (first : Piece S C) (more : S → Piece S C)
    (mid : S) (result : Option Ending)
    → Runs a b first None → mid ≡ first.end → Runs b c (more mid) result → Runs a c (and_more first more) result
runs_more {S} {C} {a} {b} c first more mid result one is two =
    subst (λ (piece : Piece S C). Runs a c piece result) (sym (more_on first more one.0))
    (runs_behind c first.acts one.1 (more first.end) result (subst (λ (s : S). Runs b c (more s) result) is two))

-- ---- what is left of a piece

-- these acts were done, and with what is left behind them they are the whole
pub record Leads {S C : Type 0} (a b : Scene S C) (whole left : Piece S C) : Type 0 where
  pub acts : List (Act S C)
  pub did : Did a b acts
  pub leads : whole ≡ behind acts left

pub leads_first : {S C : Type 0} (a : Scene S C) (whole : Piece S C) → Leads a a whole whole
leads_first a whole = record { acts = []; did = did_none a; leads = refl }

abbrev with_acts : {S C : Type 0} → Piece S C → List (Act S C) → Piece S C
with_acts piece acts = record { end = piece.end; acts = acts; ended = piece.ended }

pub behind_both : {S C : Type 0} (first second : List (Act S C)) (piece : Piece S C)
    → behind first (behind second piece) ≡ behind (first ++ second) piece
behind_both first second piece = ap (with_acts piece) (sym (append_assoc first second piece.acts))

module _ {S C : Type 0} {a b : Scene S C} (c : Scene S C) (whole left : Piece S C) (here : Leads a b whole left) where
  pub leads_on :
      (first : Piece S C) (more : S → Piece S C) (mid : S) → left ≡ and_more first more → Runs b c first None
      → mid ≡ first.end → Leads a c whole (more mid)
  leads_on first more mid is_left one is = record {
    acts = here.acts ++ first.acts;
    did = did_both c here.acts first.acts here.did one.1;
    leads = here.leads ∙ ap (behind here.acts) (is_left ∙ more_on first more one.0)
        ∙ behind_both here.acts first.acts (more first.end)
        ∙ ap (λ (s : S). behind (here.acts ++ first.acts) (more s)) (sym is);
  }

  pub leads_stop :
      (first : Piece S C) (more : S → Piece S C) (how : Ending) → left ≡ and_more first more → Runs b c first (Some how)
      → Runs a c whole (Some how)
  leads_stop first more how is_left one =
      subst (λ (piece : Piece S C). Runs a c piece (Some how)) (sym here.leads)
      (runs_behind c here.acts here.did left (Some how)
      (subst (λ (piece : Piece S C). Runs b c piece (Some how)) (sym is_left) (runs_stop b c first more how one)))

pub leads_done :
    {S C : Type 0} (a b : Scene S C) (whole left : Piece S C) (s : S) → Leads a b whole left → left ≡ still s
    → Runs a b whole None × (s ≡ whole.end)
leads_done {S} {C} a b whole left s here is =
    let same : whole ≡ behind here.acts (still s) = here.leads ∙ ap (behind here.acts) is in (
      (
        ap (λ (piece : Piece S C). piece.ended) same,
        subst (λ (acts : List (Act S C)). Did a b acts)
            (sym (append-nil here.acts) ∙ sym (ap (λ (piece : Piece S C). piece.acts) same)) here.did,
      ),
      sym (ap (λ (piece : Piece S C). piece.end) same),
    )
