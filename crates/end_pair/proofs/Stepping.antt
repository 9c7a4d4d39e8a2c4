-- One step of an end, as the code makes it.
use Rattle.std.proofs.Common.{◌≡◌, ℕ, ◌&&◌, Bool, true, false, List, ◌++◌, refl, sym, ap, subst, ◌∙◌}
use Rattle.disk_base.specs.declared.cut.CutChoice.{CutChoice}
use Rattle.std.specs.List.{flat_map}
use Rattle.gl_base.specs.declared.side.Side.{Side}
use Rattle.line_end.specs.Step.{is_due}
use Rattle.line_way.specs.Kept.{direction_to, makes_slip_in}
use Rattle.line_way.specs.Ways.{Ways}
use Rattle.message_end.specs.Core.{Went}
use Rattle.message_end.specs.Core.Went.{Goes, Spent}
use Rattle.message_end.specs.Ends.{HasGone, HasSpent, HasStoppedAt, Input, IsPassed, Loss, Machine, Passing, Reach}
use Rattle.message_end.specs.Ends.{passing, printed, wrote}
use Rattle.message_end.specs.Ends.Passing.{Cuts, Lacks, Passes}
use Rattle.message_end.proofs.Passing.{never-cut}
use Rattle.message_flow.specs.declared.step.Note.{Note}
use Rattle.message_flow.specs.declared.step.StepOut.{StepOut}
use Rattle.trace_log.specs.Laws.{NotesAreLines}
use Rattle.trace_log.specs.Log.{Happening}
use Rattle.trace_log.specs.Text.{note_line, text_of}
use Rattle.end_pair.specs.declared.answers.WorldStep.{WorldStep}
use Rattle.end_pair.specs.declared.answers.WorldStep.TheVariants as answer
use Rattle.end_pair.specs.Kept.{IfLeft, IfWent, PutPart, Puts}
use Rattle.end_pair.specs.Steps.{Stepped, entries_of, gives, made, slips, spent_for, stepped, stopped_at, stopped_for}
use Rattle.end_pair.proofs.Causes.{early-powered, how-by, never-early, never-on}
use Rattle.end_pair.proofs.Pieces.{left_no_more, put_all}
use Rattle.end_pair.proofs.Texts.{noted_text, step_text}

module _ {S C : Type 0} (machine : Machine S C) (side : Side) (now : ℕ) (reach : Reach) (choice : CutChoice)
    (input : Input C) (s : S) (ways : Ways) where
  abbrev Leaves : Stepped S → List ℕ → List ℕ → WorldStep → Type 0
  Leaves step old lines result = Puts step.went (text_of step.entries) old lines result

  abbrev here : Stepped S
  here = stepped machine side now reach choice input s ways

  abbrev passed : Passing S
  passed = passing reach (machine.losses s input now)

  abbrev stops : Bool → Loss S → Stepped S
  stops is_lost loss = stopped_at side now choice ways (stopped_for side is_lost) loss

  -- ---- none

  pub slips_not : (given : Bool) → given ≡ gives input
      → (given && makes_slip_in (machine.line s).phase (is_due (machine.line s).deadline now) (direction_to side ways))
      ≡ false
      → slips machine side now input s ways ≡ false
  slips_not given given_is none =
      ap (λ (b : Bool). b && makes_slip_in (machine.line s).phase (is_due (machine.line s).deadline now)
      (direction_to side ways)) (sym given_is) ∙ none

  -- all its calls are made
  abbrev pub IsWhole : Reach → Type 0
  IsWhole left = passed ≡ Passes left

  pub stepped-made : slips machine side now input s ways ≡ false → (left : Reach) → IsWhole left
      → (went : Went S Happening) → machine.act s input now ≡ went → here ≡ made machine side now left input s ways went
  stepped-made none left whole went is =
      how-by machine side now reach choice input s ways none (Passes left) whole
      ∙ ap (λ (w : Went S Happening). made machine side now left input s ways w) is

  -- the text of a step that goes on
  gone_text : NotesAreLines → (out : StepOut) (next : S) (gone : HasGone (machine.act s input now) next out)
      → flat_map (note_line now side) out.notes ++ flat_map (note_line now side) (printed (wrote out.line.items))
      ≡ text_of (entries_of side now (gone.step.notes ++ wrote gone.step.written))
  gone_text law out next gone =
      ap (λ (ns : List Note). flat_map (note_line now side) ns ++ flat_map (note_line now side)
      (printed (wrote out.line.items))) gone.notes
      ∙ ap (λ (w : List ℕ). flat_map (note_line now side) (printed gone.step.notes) ++ flat_map (note_line now side)
      (printed (wrote w))) gone.written
      ∙ sym (step_text law side now gone.step.notes gone.step.written)

  pub part_step : NotesAreLines → slips machine side now input s ways ≡ false → (left : Reach) → IsWhole left
      → (out : StepOut) (next : S)
      → HasGone (machine.act s input now) next out
      → (old lines : List ℕ)
      → PutPart (flat_map (note_line now side) out.notes ++ flat_map (note_line now side)
      (printed (wrote out.line.items))) old lines
      → Leaves here old lines answer.NoMemory
  part_step law none left whole out next gone old lines part =
      subst (λ (step : Stepped S). Leaves step old lines answer.NoMemory)
      (sym (stepped-made none left whole (Goes gone.step) gone.is))
      (subst (λ (t : List ℕ). PutPart t old lines) (gone_text law out next gone) part)

  pub whole_step : NotesAreLines → slips machine side now input s ways ≡ false → (left : Reach) → IsWhole left
      → (out : StepOut) (next : S)
      → HasGone (machine.act s input now) next out
      → (old lines : List ℕ)
      → lines ≡ old ++ (flat_map (note_line now side) out.notes ++ flat_map (note_line now side)
      (printed (wrote out.line.items)))
      → Leaves here old lines answer.Went
      × Leaves here old lines answer.NoMemory
  whole_step law none left whole out next gone old lines all =
      let text = text_of (entries_of side now (gone.step.notes ++ wrote gone.step.written)) in
      let same : lines ≡ old ++ text = all ∙ ap (λ (t : List ℕ). old ++ t) (gone_text law out next gone) in
      subst (λ (step : Stepped S). Leaves step old lines answer.Went × Leaves step old lines answer.NoMemory)
      (sym (stepped-made none left whole (Goes gone.step) gone.is)) ((refl, same), put_all text old lines same)

  made-reach : (left : Reach) (went : Went S Happening) → (made machine side now left input s ways went).reach ≡ left
  made-reach left (Goes step) = refl
  made-reach left (Spent step) = refl

  -- its disk goes so far then
  pub reach_left : slips machine side now input s ways ≡ false → (left : Reach) → IsWhole left → left ≡ here.reach
  reach_left none left whole =
      sym (ap (λ (step : Stepped S). step.reach) (stepped-made none left whole (machine.act s input now) refl)
      ∙ made-reach left (machine.act s input now))

  -- ---- it ends early

  pub spent_step : NotesAreLines → slips machine side now input s ways ≡ false → IsPassed passed → (lacks_room : Bool)
      (out : StepOut) → HasSpent (machine.act s input now) out → machine.lacks_room s input now ≡ lacks_room
      → (old lines : List ℕ) (result : WorldStep)
      → Puts (spent_for lacks_room) (flat_map (note_line now side) out.notes) old lines result
      → Leaves here old lines result
  spent_step law none all lacks_room out spent is old lines result puts = go passed refl all
    where
      go : (how : Passing S) → passed ≡ how → IsPassed how → Leaves here old lines result
      go (Passes left) whole all =
          subst (λ (step : Stepped S). Leaves step old lines result)
          (sym (stepped-made none left whole (Spent spent.step) spent.is))
          (subst (λ (b : Bool). Puts (spent_for b) (text_of (entries_of side now spent.step.notes)) old lines result)
          (sym is)
          (subst (λ (t : List ℕ). Puts (spent_for lacks_room) t old lines result)
          (ap (flat_map (note_line now side)) spent.notes ∙ sym (noted_text law side now spent.step.notes)) puts))
      go (Cuts loss) is all = absurd all
      go (Lacks loss) is all = absurd all

  -- ---- its disk stops it

  -- at a call, with what is noted by then; where its power is lost there, a start anew comes to what the loss says
  record IsAtLoss (is_lost : Bool) (anew : CutChoice → ℕ → Went S Happening) (out : StepOut) : Type 0 where
    loss : Loss S
    is : slips machine side now input s ways ≡ false → here ≡ stops is_lost loss
    notes : out.notes ≡ printed loss.front
    starts : is_lost ≡ true → (later : ℕ) → anew choice later ≡ machine.restart (loss.left choice) later

  at-loss : (is_lost : Bool) (anew : CutChoice → ℕ → Went S Happening) (out : StepOut)
      → HasStoppedAt machine passed is_lost anew out → IsAtLoss is_lost anew out
  at-loss true anew out lost = record {
    loss = lost.loss;
    is = λ none. how-by machine side now reach choice input s ways none (Cuts lost.loss) lost.is;
    notes = lost.notes;
    starts = λ is later. lost.starts choice later;
  }
  at-loss false anew out lacked = record {
    loss = lacked.loss;
    is = λ none. how-by machine side now reach choice input s ways none (Lacks lacked.loss) lacked.is;
    notes = lacked.notes;
    starts = λ is. absurd (cc);
  }

  pub stop_step : NotesAreLines → slips machine side now input s ways ≡ false → (is_lost : Bool)
      (anew : CutChoice → ℕ → Went S Happening) (out : StepOut) → HasStoppedAt machine passed is_lost anew out
      → (old lines : List ℕ) (result : WorldStep)
      → Puts (stopped_for side is_lost) (flat_map (note_line now side) out.notes) old lines result
      → Leaves here old lines result
  stop_step law none is_lost anew out stopped old lines result puts =
      let at = at-loss is_lost anew out stopped in
      subst (λ (step : Stepped S). Leaves step old lines result) (sym (at.is none))
      (subst (λ (t : List ℕ). Puts (stopped_for side is_lost) t old lines result)
      (ap (flat_map (note_line now side)) at.notes ∙ sym (noted_text law side now at.loss.front)) puts)

  -- what is left of the end then
  pub stop_left : slips machine side now input s ways ≡ false → (is_lost : Bool)
      (anew : CutChoice → ℕ → Went S Happening) (out : StepOut) (Going : Type 0) (text old lines : List ℕ)
      → HasStoppedAt machine passed is_lost anew out → (result : WorldStep)
      → Puts (stopped_for side is_lost) text old lines result
      → IfLeft result Going (λ whose. (later : ℕ) → anew choice later ≡ machine.restart here.end later)
  stop_left none is_lost anew out Going text old lines stopped result puts = go result puts
    where
      at : IsAtLoss is_lost anew out
      at = at-loss is_lost anew out stopped

      is-lost : (b : Bool) (whose : Side) → stopped_for side b ≡ answer.PowerLost whose → b ≡ true
      is-lost true whose is = refl
      is-lost false whose is = absurd (cc)

      go : (result : WorldStep) → Puts (stopped_for side is_lost) text old lines result
          → IfLeft result Going (λ whose. (later : ℕ) → anew choice later ≡ machine.restart here.end later)
      go (answer.PowerLost whose) puts = λ later.
          at.starts (is-lost is_lost whose puts.0) later
          ∙ ap (λ (step : Stepped S). machine.restart step.end later) (sym (at.is none))
      go answer.Went puts = absurd (never-on side is_lost puts.0)
      go answer.Slip puts = tt
      go answer.Turns puts = tt
      go answer.NumbersSpent puts = tt
      go answer.JournalFull puts = tt
      go answer.NoMemory puts = tt

  -- and of the line
  pub stop_ways : slips machine side now input s ways ≡ false → (is_lost : Bool)
      (anew : CutChoice → ℕ → Went S Happening) (out : StepOut) → HasStoppedAt machine passed is_lost anew out
      → (result : WorldStep) → IfLeft result (ways ≡ here.ways) (λ whose. ways ≡ here.ways)
  stop_ways none is_lost anew out stopped result = go result
    where
      same : ways ≡ here.ways
      same = sym (ap (λ (step : Stepped S). step.ways) ((at-loss is_lost anew out stopped).is none))

      go : (result : WorldStep) → IfLeft result (ways ≡ here.ways) (λ whose. ways ≡ here.ways)
      go (answer.PowerLost whose) = same
      go answer.Went = same
      go answer.Slip = tt
      go answer.Turns = tt
      go answer.NumbersSpent = tt
      go answer.JournalFull = tt
      go answer.NoMemory = tt

-- where no call is planned its power isn't lost
pub uncut_going :
    {S C : Type 0} (machine : Machine S C) (reach : Reach) (losses : List (Loss S)) → reach.cut ≡ 0 → (is_lost : Bool)
    (anew : CutChoice → ℕ → Went S Happening) (out : StepOut)
    → HasStoppedAt machine (passing reach losses) is_lost anew out → is_lost ≡ false
uncut_going machine reach losses uncut true anew out lost = absurd (never-cut reach losses uncut lost.loss lost.is)
uncut_going machine reach losses uncut false anew out lacked = refl

-- it never goes on
pub stop_never : (side : Side) (is_lost : Bool) (P : Type 0) (text old lines : List ℕ) (result : WorldStep)
    → Puts (stopped_for side is_lost) text old lines result → IfWent result P
stop_never side is_lost P text old lines answer.Went puts = absurd (never-on side is_lost puts.0)
stop_never side is_lost P text old lines (answer.PowerLost whose) puts = tt
stop_never side is_lost P text old lines answer.Slip puts = tt
stop_never side is_lost P text old lines answer.Turns puts = tt
stop_never side is_lost P text old lines answer.NumbersSpent puts = tt
stop_never side is_lost P text old lines answer.JournalFull puts = tt
stop_never side is_lost P text old lines answer.NoMemory puts = tt

-- nor does what ends early, and its power isn't lost
pub spent_never : (lacks_room : Bool) (P : Type 0) (Q : Side → Type 0) (text old lines : List ℕ) (result : WorldStep)
    → Puts (spent_for lacks_room) text old lines result → IfLeft result P Q
spent_never lacks_room P Q text old lines result puts =
    left_no_more P Q (spent_for lacks_room) text old lines result (never-early lacks_room) (early-powered lacks_room)
    puts
