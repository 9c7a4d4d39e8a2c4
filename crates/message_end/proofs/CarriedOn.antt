-- Each command keeps the law, and so does a list of them, with the calls of the line that they make.
use Rattle.std.proofs.Common.{refl, sym, ap, subst, ℕ, List, [], ◌∷◌, ◌++◌, Some}
use Rattle.std.proofs.lemmas.List.{append-nil, append_assoc}
use Rattle.line_end.specs.Plan.{LinePlanFits}
use Rattle.line_end.specs.Step.{LineCall}
use Rattle.trace_log.specs.Log.{Happening}
use Rattle.message_end.specs.Core.{EndView, Command, Step, Went, and_then, carry, carried, MayCarry, MayCarryAll}
use Rattle.message_end.specs.Core.Went.{Goes, Spent}
use Rattle.message_end.specs.Doings.{Doing}
use Rattle.message_end.specs.Drops.{AllDrop, Drops}
use Rattle.message_end.specs.Laws.{CarriesOn, GoesOn}
use Rattle.message_end.specs.LineCalls.{AreCallsOf, AreCallsOfAll, AreCallsOfFront}
use Rattle.message_end.specs.Plan.{EndPlan}
use Rattle.message_end.proofs.CallingLine.{IsDone, offer-made, take-made, tick-made}
use Rattle.message_end.proofs.CallingNone.{at-carry}
use Rattle.message_end.proofs.Steps.{CallsNone, Exactly, IsAt, IsTheMoment, Laws, OnWent, all-at-moment, at-such, goes-on}

by-call :
    {K : Type 0} (P : Command K → Type 0) → ((one : Command K) → CallsNone one → P one)
    → ((now : ℕ) → P (Command.Tick now)) → ((byte now : ℕ) → P (Command.Take byte now))
    → ((now : ℕ) → P (Command.Offer now))
    → (one : Command K) → P one
by-call P none tick take offer (Command.Note what) = none (Command.Note what) tt
by-call P none tick take offer (Command.Primary unsent) = none (Command.Primary unsent) tt
by-call P none tick take offer Command.Draw = none Command.Draw tt
by-call P none tick take offer (Command.DrawnPrimary unsent) = none (Command.DrawnPrimary unsent) tt
by-call P none tick take offer (Command.More count) = none (Command.More count) tt
by-call P none tick take offer (Command.Reply body) = none (Command.Reply body) tt
by-call P none tick take offer Command.Abort = none Command.Abort tt
by-call P none tick take offer (Command.Tick now) = tick now
by-call P none tick take offer (Command.Take byte now) = take byte now
by-call P none tick take offer (Command.Offer now) = offer now
by-call P none tick take offer (Command.DropDue now) = none (Command.DropDue now) tt
by-call P none tick take offer (Command.Expire now) = none (Command.Expire now) tt
by-call P none tick take offer (Command.Answer header) = none (Command.Answer header) tt
by-call P none tick take offer (Command.GiveUp header) = none (Command.GiveUp header) tt
by-call P none tick take offer (Command.End system) = none (Command.End system) tt
by-call P none tick take offer (Command.Recall header) = none (Command.Recall header) tt
by-call P none tick take offer (Command.Remove odd system) = none (Command.Remove odd system) tt
by-call P none tick take offer Command.DropFront = none Command.DropFront tt
by-call P none tick take offer Command.CloseStep = none Command.CloseStep tt
by-call P none tick take offer Command.Halt = none Command.Halt tt

none-called : {K : Type 0} (one : Command K) → CallsNone one → AreCallsOf one []
none-called (Command.Note what) none = refl
none-called (Command.Primary unsent) none = refl
none-called Command.Draw none = refl
none-called (Command.DrawnPrimary unsent) none = refl
none-called (Command.More count) none = refl
none-called (Command.Reply body) none = refl
none-called Command.Abort none = refl
none-called (Command.Tick now) none = absurd none
none-called (Command.Take byte now) none = absurd none
none-called (Command.Offer now) none = tt
none-called (Command.DropDue now) none = refl
none-called (Command.Expire now) none = refl
none-called (Command.Answer header) none = refl
none-called (Command.GiveUp header) none = refl
none-called (Command.End system) none = refl
none-called (Command.Recall header) none = refl
none-called (Command.Remove odd system) none = refl
none-called Command.DropFront none = refl
none-called Command.CloseStep none = refl
none-called Command.Halt none = refl

module _ {K : Type 0} (laws : Laws) (plan : EndPlan) (base : ℕ) (fits : LinePlanFits plan.line) (doings : List Doing)
    (Moment : ℕ → Type 0) where
  abbrev AtMade : List LineCall → Step (EndView K) Happening → Type 0
  AtMade made step = IsAt plan base doings Moment (Exactly made) step

  abbrev OnDone : List LineCall → Command K → Went (EndView K) Happening → Type 0
  OnDone made command (Goes step) = IsDone laws plan base fits doings Moment made command step
  OnDone made command (Spent step) = AtMade made step

  -- it has made no call
  uncalled :
      (made : List LineCall) (command : Command K) (went : Went (EndView K) Happening) → AreCallsOf command []
      → OnWent (AtMade made) went → OnDone made command went
  uncalled made command (Goes step) none at = record { newer = []; are = none; at = at }
  uncalled made command (Spent step) none at = at

  carry-made :
      (made : List LineCall) (one : Command K) (step : Step (EndView K) Happening) → Drops Moment one → MayCarry one
      → AtMade made step → OnDone made one (carry Some one step)
  carry-made made one step moment may is =
      by-call (λ (c : Command K). Drops Moment c → MayCarry c → OnDone made c (carry Some c step))
      (λ c none moment may. uncalled made c (carry Some c step) (none-called c none)
      (at-carry laws plan base fits doings Moment (Exactly made) c step none moment may is))
      (λ now moment may. record {
        newer = LineCall.Tick now ∷ [];
        are = refl;
        at = tick-made laws plan base fits doings Moment made now step is;
      })
      (λ byte now moment may. take-made laws plan base fits doings Moment made byte now step may is)
      (λ now moment may.
      offer-made laws plan base fits doings Moment made now step step.next.line.phase step.next.line.held refl refl is)
      one moment may

  -- these commands have made the newer calls
  record IsBehind (made : List LineCall) (Such : List LineCall → Type 0) (step : Step (EndView K) Happening) : Type 0
    where
      newer : List LineCall
      are : Such newer
      at : AtMade (newer ++ made) step

  abbrev OnBehind : List LineCall → List (Command K) → Went (EndView K) Happening → Type 0
  OnBehind made commands (Goes step) = IsBehind made (AreCallsOfAll commands) step
  OnBehind made commands (Spent step) = IsBehind made (AreCallsOfFront commands) step

  -- one command, and those behind it
  behind-more :
      (made first : List LineCall) (Such More : List LineCall → Type 0) (next : Step (EndView K) Happening)
      → ((newer : List LineCall) → Such newer → More (newer ++ first)) → IsBehind (first ++ made) Such next
      → IsBehind made More next
  behind-more made first Such More next more behind = record {
    newer = behind.newer ++ first;
    are = more behind.newer behind.are;
    at =
        subst (λ (all : List LineCall). AtMade all next) (sym (append_assoc behind.newer first made))
        behind.at;
  }

  carried-made :
      (made : List LineCall) (commands : List (Command K)) (step : Step (EndView K) Happening)
      → AllDrop Moment commands → MayCarryAll commands → AtMade made step
      → OnBehind made commands (carried Some commands step)
  carried-made made [] step moments may is = record { newer = []; are = refl; at = is }
  carried-made made (one ∷ commands) step moments may is =
      go (carry Some one step) (carry-made made one step moments.0 may.0 is)
      (λ more next at. carried-made more commands next moments.1 may.1 at)
    where
      joins : (rest : List (Command K)) (first newer : List LineCall) → AreCallsOf one first → AreCallsOfAll rest newer
          → AreCallsOfAll (one ∷ rest) (newer ++ first)
      joins rest first newer are newer_are =
          record { first = first; later = newer; are = refl; first_are = are; later_are = newer_are }

      later : (first : List LineCall) → AreCallsOf one first → (went : Went (EndView K) Happening)
          → OnBehind (first ++ made) commands went → OnBehind made (one ∷ commands) went
      later first are (Goes next) behind =
          behind-more made first (AreCallsOfAll commands) (AreCallsOfAll (one ∷ commands)) next
          (λ newer newer_are. joins commands first newer are newer_are) behind
      later first are (Spent next) behind =
          behind-more made first (AreCallsOfFront commands) (AreCallsOfFront (one ∷ commands)) next
          (λ newer so. record {
            front = one ∷ so.front;
            rest = so.rest;
            whole = ap (λ (cs : List (Command K)). one ∷ cs) so.whole;
            are = joins so.front first newer are so.are;
          })
          behind

      go : (went : Went (EndView K) Happening) → OnDone made one went
          → ((more : List LineCall) (next : Step (EndView K) Happening) → AtMade more next
          → OnBehind more commands (carried Some commands next))
          → OnBehind made (one ∷ commands) (and_then went (carried Some commands))
      go (Goes next) done more =
          later done.newer done.are (carried Some commands next) (more (done.newer ++ made) next done.at)
      go (Spent next) at more = record {
        newer = [];
        are = record { front = []; rest = one ∷ commands; whole = refl; are = refl };
        at = at;
      }

-- a list of commands, from nothing called
pub carries-on :
    {K : Type 0} (laws : Laws) (plan : EndPlan) (base : ℕ) (fits : LinePlanFits plan.line) (doings : List Doing)
    (commands : List (Command K)) (step : Step (EndView K) Happening)
    → MayCarryAll commands → IsAt plan base doings (IsTheMoment commands) (Exactly []) step
    → CarriesOn plan base doings commands (carried Some commands step)
carries-on {K} laws plan base fits doings commands step may is =
    go (carried Some commands step)
    (carried-made laws plan base fits doings (IsTheMoment commands) [] commands step
    (all-at-moment commands commands (λ now all. all)) may is)
  where
    such :
        (Such : List LineCall → Type 0) (next : Step (EndView K) Happening)
        → IsBehind laws plan base fits doings (IsTheMoment commands) [] Such next
        → GoesOn plan base doings commands Such next
    such Such next behind =
        goes-on plan base doings commands Such next
        (at-such Such (behind.newer ++ []) next
        (subst (λ (calls : List LineCall). Such calls) (sym (append-nil behind.newer)) behind.are) behind.at)

    go :
        (went : Went (EndView K) Happening)
        → OnBehind laws plan base fits doings (IsTheMoment commands) [] commands went
        → CarriesOn plan base doings commands went
    go (Goes next) behind = such (AreCallsOfAll commands) next behind
    go (Spent next) behind = such (AreCallsOfFront commands) next behind
