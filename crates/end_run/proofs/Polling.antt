-- Polls, one after the other, and the answers that come.
use Rattle.std.proofs.Common.{◌≡◌, ◌≢◌, ℕ, zero, suc, Bool, List, [], ◌∷◌, ◌++◌, drop, Option, Some, None, inl, inr, refl, sym, ap, subst, ◌∙◌, append_assoc, append-nil}
use Rattle.gl_base.specs.Events.{moment_after}
use Rattle.gl_base.specs.Link.{IsToldAnswer, LinkContents}
use Rattle.gl_base.specs.Sending.{WroteText}
use Rattle.gl_base.specs.Sink.{SinkHealth}
use Rattle.gl_base.specs.Told.{SinkTold}
use Rattle.gl_base.specs.declared.link.LinkIn.{LinkIn}
use Rattle.gl_base.specs.declared.link.LinkIn.TheVariants as link
use Rattle.gl_base.specs.declared.side.Side.{Side}
use Rattle.gl_base.proofs.Appending.{wrote_nothing}
use Rattle.message_end.specs.declared.end.Stop.{Stop}
use Rattle.message_end.specs.Core.{Went}
use Rattle.message_end.specs.Core.Went.{Goes, Spent}
use Rattle.message_end.specs.Ends.{Asked, Input, Machine}
use Rattle.message_end.specs.Ends.Input.{Char, Command, Time}
use Rattle.message_flow.specs.declared.step.StepOut.{StepOut}
use Rattle.trace_log.specs.Log.{Happening}
use Rattle.end_run.specs.declared.ending.Ending.{Ending}
use Rattle.end_run.specs.declared.ending.Ending.TheVariants as ending
use Rattle.end_run.specs.Acts.{Act, StepAt, taken_by, taken_of}
use Rattle.end_run.specs.Acts.Act.{Polls}
use Rattle.end_run.specs.Calls.{HasTurned, Left, PollFails, Turned}
use Rattle.end_run.specs.Commands.{Commands, Telling, wait_until}
use Rattle.end_run.specs.Commands.Telling.{IsOther, Says, Stops, Tells}
use Rattle.end_run.specs.Outcome.{AreToCome, ComesOver, Did, LinkFails, Lists, Runs, RunsOver}
use Rattle.end_run.specs.Pieces.{Piece, and_more, and_on, behind, stops}
use Rattle.end_run.specs.Run.{polled, turned, upon}
use Rattle.end_run.specs.Scenes.{Scene, StopAt, written}
use Rattle.end_run.specs.Steps.{all_told, answered, made, replied, sends, step_at, stepped, tells}
use Rattle.end_run.proofs.Doing.{behind_both, more_on, runs_behind, runs_stop}
use Rattle.end_run.proofs.Joining.{did_both, did_none, lists_still, taken_of-append}

-- ---- answers that are to come

-- all that a link still tells
abbrev pub rest_of : Option LinkContents → List LinkIn
rest_of None = []
rest_of (Some contents) = contents.left

pub rest_comes : (l : Option LinkContents) → AreToCome l (rest_of l)
rest_comes None = tt
rest_comes (Some contents) = refl

pub comes_behind :
    {S C : Type 0} (l l' : Option LinkContents) (acts : List (Act S C)) (coming : List LinkIn) → Lists l acts l'
    → AreToCome l' coming
    → AreToCome l (taken_of acts ++ coming)
comes_behind None l' acts coming listed comes = tt
comes_behind (Some a) None acts coming listed comes = absurd listed
comes_behind (Some a) (Some b) acts coming listed comes =
    listed.left ∙ ap (λ (answers : List LinkIn). taken_of acts ++ answers) comes

-- ---- steps take no answers

module _ {S C : Type 0} (machine : Machine S C) (side : Side) where
  sends-none : (characters : List ℕ) → taken_of (sends {S = S} {C = C} characters) ≡ []
  sends-none [] = refl
  sends-none (byte ∷ bytes) = refl

  made-none : (at : StepAt S C) (stops : List (List Happening)) (asked : Asked) (lacks_room : Bool) (reply : List ℕ)
      (went : Went S Happening) → taken_of (made at stops asked lacks_room reply went).acts ≡ []
  made-none at stops asked lacks_room reply (Goes step) = sends-none step.written
  made-none at stops asked lacks_room reply (Spent step) = refl

  replied-none : (reply : List ℕ) (now : ℕ) (input : Input C) (s : S)
      → taken_of (replied machine side reply now input s).acts ≡ []
  replied-none reply now input s =
      made-none (step_at side now input s) (machine.stops s input now) (machine.asks s input now)
      (machine.lacks_room s input now) reply (machine.act s input now)

  pub stepped-none : (now : ℕ) (input : Input C) (s : S) → taken_of (stepped machine side now input s).acts ≡ []
  stepped-none = replied-none []

  pub more-none : (first : Piece S C) (more : S → Piece S C) → taken_of first.acts ≡ []
      → ((s : S) → taken_of (more s).acts ≡ []) → taken_of (and_more first more).acts ≡ []
  more-none first more one two = go first.ended
    where
      go : (ended : Option Ending) → taken_of (and_on ended first more).acts ≡ []
      go None =
          taken_of-append first.acts (more first.end).acts
          ∙ ap (λ (answers : List LinkIn). answers ++ taken_of (more first.end).acts) one ∙ two first.end
      go (Some how) = one

  tells-none : (now : ℕ) (telling : Telling C) (s : S) → taken_of (tells machine side now telling s).acts ≡ []
  tells-none now (Tells command reply) s = replied-none reply now (Command command) s
  tells-none now (Says text) s = refl
  tells-none now Stops s = refl
  tells-none now IsOther s = refl

  told-none : (now : ℕ) (tellings : List (Telling C)) (s : S)
      → taken_of (all_told machine side now tellings s).acts ≡ []
  told-none now [] s = refl
  told-none now (telling ∷ tellings) s =
      more-none (tells machine side now telling s) (all_told machine side now tellings) (tells-none now telling s)
      (told-none now tellings)

  pub answered-none : (now : ℕ) (tellings : List (Telling C)) (input : Input C) (s : S)
      → taken_of (answered machine side now tellings input s).acts ≡ []
  answered-none now tellings input s =
      more-none (all_told machine side now tellings s) (stepped machine side now input) (told-none now tellings s)
      (stepped-none now input)

-- ---- polls

module _ {S C Q : Type 0} (machine : Machine S C) (due : S → Option ℕ) (commands : Commands Q C) (side : Side) where
  upon-none : (coming : Q) (before : ℕ) (answer : LinkIn) (s : S)
      → taken_of (upon machine due commands side coming before answer s).acts ≡ []
  upon-none coming before (link.Char byte now) s =
      answered-none machine side now (commands.come now coming) (Char byte) s
  upon-none coming before (link.Quiet now) s = answered-none machine side now (commands.come now coming) Time s
  upon-none coming before link.Closed s = refl
  upon-none coming before link.Failed s = refl

  turned-takes : (coming : Q) (before : ℕ) (answer : LinkIn) (s : S)
      → taken_of (turned machine due commands side coming before answer s).acts ≡ taken_by answer
  turned-takes coming before answer s =
      ap (λ (answers : List LinkIn). taken_by answer ++ answers) (upon-none coming before answer s)
      ∙ append-nil (taken_by answer)

  -- so many polls of an end that is on its way
  abbrev pub polls : ℕ → Left S Q → List LinkIn → Piece S C
  polls n here answers = polled machine due commands side n here.coming here.moment answers here.end

  -- some polls were made, and with those that are left they are the whole, whatever comes
  pub record IsPolled (a b : Scene S C) (whole left : List LinkIn → Piece S C) : Type 0 where
    pub acts : List (Act S C)
    pub did : Did a b acts
    pub leads : (rest : List LinkIn) → whole (taken_of acts ++ rest) ≡ behind acts (left rest)

  pub polled_as :
      (a b : Scene S C) (whole : List LinkIn → Piece S C) (here : Left S Q) (n m : ℕ) → n ≡ m
      → IsPolled a b whole (polls n here) → IsPolled a b whole (polls m here)
  polled_as a b whole here n m same is = subst (λ (k : ℕ). IsPolled a b whole (polls k here)) same is

  pub polled_first : (a : Scene S C) (whole : List LinkIn → Piece S C) → IsPolled a a whole whole
  polled_first a whole = record { acts = []; did = did_none a; leads = λ rest. refl }

  -- the answers that bring what a poll has brought
  record Brings (l : Option LinkContents) (n : ℕ) (here : Left S Q) (answer : LinkIn) : Type 0 where
    pub coming : List LinkIn
    pub comes : AreToCome l coming
    pub more : S → Piece S C
    pub is : polls (suc n) here coming
        ≡ and_more (turned machine due commands side here.coming here.moment answer here.end) more

  abbrev tail_of : Option LinkContents → List LinkIn
  tail_of None = []
  tail_of (Some contents) = drop 1 contents.left

  one_comes :
      (l : Option LinkContents) (answer : LinkIn) (n : ℕ) (here : Left S Q)
      → AreToCome l (answer ∷ tail_of l) → Brings l n here answer
  one_comes l answer n here comes = record {
    coming = answer ∷ tail_of l;
    comes = comes;
    more = λ s. polled machine due commands side n (commands.later (moment_after here.moment answer) here.coming)
        (moment_after here.moment answer) (tail_of l) s;
    is = refl;
  }

  brings : (l : Option LinkContents) (answer : LinkIn) (n : ℕ) (here : Left S Q) → IsToldAnswer l answer
      → answer ≢ link.Failed → Brings l n here answer
  brings None (link.Char byte now) n here told other = one_comes None (link.Char byte now) n here tt
  brings (Some contents) (link.Char byte now) n here told other =
      one_comes (Some contents) (link.Char byte now) n here told
  brings None (link.Quiet now) n here told other = one_comes None (link.Quiet now) n here tt
  brings (Some contents) (link.Quiet now) n here told other =
      one_comes (Some contents) (link.Quiet now) n here told
  brings None link.Closed n here told other =
      record { coming = []; comes = tt; more = λ s. stops ending.Closed s; is = refl }
  brings (Some contents) link.Closed n here told other =
      record { coming = []; comes = told; more = λ s. stops ending.Closed s; is = refl }
  brings l link.Failed n here told other = absurd (other refl)

  module _
      {E : Type 0} (known : E → Type 0) (left : S → Input C → ℕ → StepOut → Stop → E → Type 0) (end : E)
      {a b : Scene S C} (c : Option (StopAt S C) → Scene S C) (whole : List LinkIn → Piece S C) (n : ℕ)
      (before after : Left S Q) (ends : after.end ≡ (c None).end) (here : IsPolled a b whole (polls (suc n) before))
    where
      -- the run goes on
      turned_on :
          (answer : LinkIn) → Turned known left end machine due commands side b c before after None answer
          → IsPolled a (c None) whole (polls n after)
      turned_on answer is = go answer is
        where
          one : LinkIn → Piece S C
          one answer = turned machine due commands side before.coming before.moment answer before.end

          goes : (answer : LinkIn) → Turned known left end machine due commands side b c before after None answer
              → taken_by answer ≡ answer ∷ [] → IsPolled a (c None) whole (polls n after)
          goes answer is takes = record {
            acts = here.acts ++ (one answer).acts;
            did = did_both (c None) here.acts (one answer).acts here.did is.runs.0.1;
            leads = λ rest.
                ap whole (same rest) ∙ here.leads (answer ∷ rest)
                ∙ ap (behind here.acts) (more_on (one answer) (next rest) is.runs.0.0)
                ∙ behind_both here.acts (one answer).acts (next rest (one answer).end)
                ∙ ap (behind (here.acts ++ (one answer).acts)) (arrives rest);
          }
            where
              next : List LinkIn → S → Piece S C
              next rest s =
                  let now = moment_after before.moment answer in
                  polled machine due commands side n (commands.later now before.coming) now rest s

              same : (rest : List LinkIn)
                  → taken_of (here.acts ++ (one answer).acts) ++ rest ≡ taken_of here.acts ++ answer ∷ rest
              same rest =
                  ap (λ (answers : List LinkIn). answers ++ rest)
                  (taken_of-append here.acts (one answer).acts
                  ∙ ap (λ (answers : List LinkIn). taken_of here.acts ++ answers)
                  (turned-takes before.coming before.moment answer before.end ∙ takes))
                  ∙ append_assoc (taken_of here.acts) (answer ∷ []) rest

              arrives : (rest : List LinkIn) → next rest (one answer).end ≡ polls n after rest
              arrives rest =
                  ap (λ (s : S). next rest s) (sym (ends ∙ is.runs.2))
                  ∙ ap (λ (now : ℕ). polled machine due commands side n (commands.later now before.coming) now rest after.end)
                  (sym is.moment)
                  ∙ ap (λ (coming : Q). polled machine due commands side n coming after.moment rest after.end)
                  (sym is.coming)

          go : (answer : LinkIn) → Turned known left end machine due commands side b c before after None answer
              → IsPolled a (c None) whole (polls n after)
          go (link.Char byte now) is = goes (link.Char byte now) is refl
          go (link.Quiet now) is = goes (link.Quiet now) is refl
          go link.Closed is = let on = is.runs.0.0 in absurd (cc)
          go link.Failed is = let on = is.runs.0.0 in absurd (cc)

      -- what is left runs so, and the whole with it
      whole_runs :
          (d : Scene S C) (coming : List LinkIn) (how : Ending) → AreToCome b.contents coming
          → Runs b d (polls (suc n) before coming) (Some how)
          → RunsOver a d whole how
      whole_runs d coming how comes runs = record {
        answers = taken_of here.acts ++ coming;
        to_come = comes_behind a.contents b.contents here.acts coming here.did.made.linked.listed comes;
        runs =
            subst (λ (piece : Piece S C). Runs a d piece (Some how)) (sym (here.leads coming))
            (runs_behind d here.acts here.did (polls (suc n) before coming) (Some how) runs);
      }

      -- the run has ended
      turned_out :
          (how : Ending) (answer : LinkIn)
          → Turned known left end machine due commands side b c before after (Some how) answer
          → answer ≢ link.Failed → ComesOver known left end a c whole how
      turned_out how answer is other =
          let of = brings b.contents answer n before is.next other in
          let runs = is.runs in (
            runs.0,
            runs.1,
            whole_runs (c runs.0) of.coming how of.comes
                (subst (λ (piece : Piece S C). Runs b (c runs.0) piece (Some how)) (sym of.is)
                (runs_stop b (c runs.0) (turned machine due commands side before.coming before.moment answer before.end)
                of.more how runs.2)),
          )

      -- the next poll, where it is answered so
      abbrev poll : LinkIn → Act S C
      poll answer =
          Polls (wait_until (due before.end) (commands.asks before.coming)) answer
          (commands.early (moment_after before.moment answer) before.coming)

      -- it has failed: it is the first act of what is left, whatever was to come
      first_polls : (coming : List LinkIn)
          → (answer : LinkIn) × (later : List (Act S C))
          × ((polls (suc n) before coming).acts ≡ poll answer ∷ later)
      first_polls [] =
          (link.Closed, (upon machine due commands side before.coming before.moment link.Closed before.end).acts, refl)
      first_polls (answer ∷ answers) = go
          (upon machine due commands side before.coming before.moment answer before.end).ended
        where
          one : Piece S C
          one = turned machine due commands side before.coming before.moment answer before.end

          more : S → Piece S C
          more s =
              let now = moment_after before.moment answer in
              polled machine due commands side n (commands.later now before.coming) now answers s

          go : (ended : Option Ending)
              → (answer : LinkIn) × (later : List (Act S C))
              × ((and_on ended one more).acts ≡ poll answer ∷ later)
          go None = (
            answer,
            (upon machine due commands side before.coming before.moment answer before.end).acts
                ++ (more one.end).acts,
            refl,
          )
          go (Some how) = (answer, (upon machine due commands side before.coming before.moment answer before.end).acts, refl)

      poll_failed : PollFails b (c None) (Some ending.LinkFailed) → known end
          → ComesOver known left end a c whole ending.LinkFailed
      poll_failed is so =
          (None, so, whole_runs (c None) (rest_of b.contents) ending.LinkFailed (rest_comes b.contents) fails)
        where
          acts : List (Act S C)
          acts = (polls (suc n) before (rest_of b.contents)).acts

          of : (answer : LinkIn) × (later : List (Act S C))
              × (acts ≡ poll answer ∷ later)
          of = first_polls (rest_of b.contents)

          fails : LinkFails b (c None) acts
          fails = record {
            done = [];
            failed = poll of.0;
            later = of.1;
            whole = of.2;
            part = [];
            cut = refl;
            linked = record {
              listed = lists_still b.contents (c None).contents [] refl refl is.contents;
              clock = is.moment;
              timely = tt;
            };
            fault = is.fault;
            wrote = subst (λ (out : SinkTold). WroteText out []) (sym same) wrote_nothing;
            end = record { end = is.end; stop = is.stop };
          }
            where
              same : written b (c None) ≡ written b b
              same =
                  ap (λ (r : Option (List ℕ)). written b (record (c None) { received = r })) is.received
                  ∙ ap (λ (k : SinkHealth). written b (record (c None) { received = b.received; out = k })) is.out

      pub polled_on : HasTurned known left end machine due commands side b c before after None
          → IsPolled a (c None) whole (polls n after) × known end
      polled_on (inl fails) = let is = fails.0.is in absurd (cc)
      polled_on (inr turned) = (turned_on turned.0 turned.1, turned.1.runs.1)

      pub polled_out : (how : Ending) → HasTurned known left end machine due commands side b c before after (Some how)
          → ComesOver known left end a c whole how
      polled_out how (inl (fails, so)) =
          subst (λ (how : Ending). ComesOver known left end a c whole how) (is_failed how fails.is) (poll_failed
          (record {
            is = refl;
            contents = fails.contents;
            moment = fails.moment;
            fault = fails.fault;
            received = fails.received;
            out = fails.out;
            end = fails.end;
            stop = fails.stop;
          }) so)
        where
          is_failed : (how : Ending) → Some how ≡ Some ending.LinkFailed → ending.LinkFailed ≡ how
          is_failed how is = cc
      polled_out how (inr turned) = turned_out how turned.0 turned.1 turned.1.other

  -- no poll is left
  pub polled_over : (a b : Scene S C) (whole : List LinkIn → Piece S C) (here : Left S Q)
      → IsPolled a b whole (polls zero here) → RunsOver a b whole ending.Turns
  polled_over a b whole here is = record {
    answers = taken_of is.acts ++ rest_of b.contents;
    to_come =
        comes_behind a.contents b.contents is.acts (rest_of b.contents) is.did.made.linked.listed
        (rest_comes b.contents);
    runs =
        subst (λ (piece : Piece S C). Runs a b piece (Some ending.Turns)) (sym (is.leads (rest_of b.contents)))
        (refl, subst (λ (acts : List (Act S C)). Did a b acts) (sym (append-nil is.acts)) is.did);
  }
