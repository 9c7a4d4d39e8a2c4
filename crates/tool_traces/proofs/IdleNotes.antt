-- Notes of which nothing is said where S6F1 are spoken of, and what is read off the notes of a step.
use Rattle.std.proofs.Common.{◌≡◌, refl, sym, ap, subst, ◌∙◌, arith, ◌+◌, ◌≤◌, Bool, true, false, ℕ, List, [], ◌∷◌, ◌++◌, append-nil, if◌then◌else◌}
use Rattle.std.specs.Prelude.{bytes_eq}
use Rattle.std.proofs.lemmas.List.Concat.{flat_map-append}
use Rattle.spool_rule.specs.Rule.{is_spoolable}
use Rattle.gem_trace.specs.History.{Look, TraceEntry}
use Rattle.gem_trace.specs.Traces.{Running}
use Rattle.message_flow.specs.declared.message.Message.{Message}
use Rattle.trace_log.specs.Log.{Happening, Past}
use Rattle.message_end.specs.Course.{noted_behind}
use Rattle.tool_reports.specs.Reported.{count_of}
use Rattle.spool_law.specs.Listing.{AllStoredAreSpoolable}
use Rattle.tool_reports.specs.Sampled.{HaveWait, datas_in, is_data, setting_in, settings_in}
use Rattle.tool_reports.proofs.QuietNotes.{counted, one, one-behind}

-- no S6F1 W
abbrev pub IsNoData : Message → Type 0
IsNoData message = (before : List Happening) → is_data message before ≡ false

-- nothing is read off it: it is no S6F1, no start, no end of a step, nothing that the world notes, and nothing that the
-- host has asked for; and what it puts into the spool can be spooled
abbrev pub IsIdleNote : Happening → Type 0
IsIdleNote (Happening.EquipmentStarted found base) = ⊥
IsIdleNote (Happening.Sent message) = IsNoData message
IsIdleNote (Happening.Recorded (Past.Asked message)) = ⊥
IsIdleNote (Happening.Storing number message) = is_spoolable message.stream message.function ≡ true
IsIdleNote Happening.StepEnded = ⊥
IsIdleNote (Happening.Wrote characters) = ⊥
IsIdleNote Happening.Power = ⊥
IsIdleNote _ = Unit {0}

-- what is said of all notes
abbrev pub AreSound : List Happening → Type 0
AreSound notes = HaveWait notes × AllStoredAreSpoolable notes

-- it may stand in the middle of a step: it is no start, no end of a step, and nothing that the world notes
abbrev pub IsAmid : Happening → Type 0
IsAmid (Happening.EquipmentStarted found base) = ⊥
IsAmid Happening.StepEnded = ⊥
IsAmid (Happening.Wrote characters) = ⊥
IsAmid Happening.Power = ⊥
IsAmid _ = Unit {0}

abbrev pub AreAmid : List Happening → Type 0
AreAmid [] = Unit {0}
AreAmid (what ∷ notes) = IsAmid what × AreAmid notes

pub record IsIdle (what : Happening) : Type 0 where
  pub datas : (before : List Happening) → datas_in (what ∷ before) ≡ datas_in before
  pub asks : (look : Look) (running : List Running) → setting_in look running what ≡ []
  pub amid : IsAmid what
  pub sound : (before : List Happening) → AreSound before → AreSound (what ∷ before)

idle-sent : (message : Message) → IsNoData message → IsIdle (Happening.Sent message)
idle-sent message none = record {
  datas = λ before.
      ap (λ (b : Bool). if b then message.body ∷ datas_in before else datas_in before) (none before);
  asks = λ look running. refl;
  amid = tt;
  sound = λ before so. (((λ is. let e = none before in absurd (cc)), so.0), so.1);
}

pub idle-note : (what : Happening) → IsIdleNote what → IsIdle what
idle-note (Happening.EquipmentStarted found base) idle = absurd idle
idle-note (Happening.Sent message) idle = idle-sent message idle
idle-note (Happening.Recorded (Past.Asked message)) idle = absurd idle
idle-note (Happening.Recorded (Past.Commanded command)) idle =
    record { datas = λ before. refl; asks = λ look running. refl; amid = tt; sound = λ before so. so }
idle-note Happening.Power idle = absurd idle
idle-note (Happening.Wrote characters) idle = absurd idle
idle-note (Happening.Storing number message) idle = record {
  datas = λ before. refl;
  asks = λ look running. refl;
  amid = tt;
  sound = λ before so. (so.0, (idle, so.1));
}
idle-note Happening.StepEnded idle = absurd idle
idle-note what idle =
    record { datas = λ before. refl; asks = λ look running. refl; amid = tt; sound = λ before so. so }

pub amid-more : (notes more : List Happening) → AreAmid notes → AreAmid more → AreAmid (notes ++ more)
amid-more [] more one two = two
amid-more (what ∷ notes) more one two = (one.0, amid-more notes more one.1 two)

-- ---- what is read off the notes of a step

module _ (before : List Happening) (look : Look) (running : List Running) where
  -- the texts of the S6F1 that were sent by then, and what the host has asked for in the step
  pub record Reads (sent : List (List ℕ)) (asked : List TraceEntry) (notes : List Happening) : Type 0 where
    pub datas : datas_in (noted_behind notes before) ≡ sent
    pub asks : settings_in notes look running ≡ asked
    pub amid : AreAmid notes
    pub sound : AreSound (noted_behind notes before)

  pub reads-none : AreSound before → Reads (datas_in before) [] []
  reads-none sound = record { datas = refl; asks = refl; amid = tt; sound = sound }

  asks-more : (notes : List Happening) (what : Happening)
      → settings_in (notes ++ what ∷ []) look running ≡ settings_in notes look running ++ setting_in look running what
  asks-more notes what =
      flat_map-append (setting_in look running) notes (what ∷ [])
      ∙ ap (λ (l : List TraceEntry). settings_in notes look running ++ l)
      (append-nil (setting_in look running what))

  -- a note more
  pub reads-idle :
      (sent : List (List ℕ)) (asked : List TraceEntry) (notes : List Happening) (what : Happening) → IsIdle what
      → Reads sent asked notes → Reads sent asked (notes ++ what ∷ [])
  reads-idle sent asked notes what idle so = record {
    datas = ap datas_in (one-behind notes what before) ∙ idle.datas (noted_behind notes before) ∙ so.datas;
    asks =
        asks-more notes what
        ∙ ap (λ (l : List TraceEntry). settings_in notes look running ++ l) (idle.asks look running)
        ∙ append-nil (settings_in notes look running) ∙ so.asks;
    amid = amid-more notes (what ∷ []) so.amid (idle.amid, tt);
    sound = subst AreSound (sym (one-behind notes what before)) (idle.sound (noted_behind notes before) so.sound);
  }

  -- what the host has asked for
  pub reads-asked :
      (sent : List (List ℕ)) (notes : List Happening) (message : Message) → Reads sent [] notes
      → Reads sent (setting_in look running (Happening.Recorded (Past.Asked message)))
      (notes ++ Happening.Recorded (Past.Asked message) ∷ [])
  reads-asked sent notes message so = record {
    datas = ap datas_in (one-behind notes (Happening.Recorded (Past.Asked message)) before) ∙ so.datas;
    asks =
        asks-more notes (Happening.Recorded (Past.Asked message))
        ∙ ap
        (λ (l : List TraceEntry). l ++ setting_in look running (Happening.Recorded (Past.Asked message))) so.asks;
    amid = amid-more notes (Happening.Recorded (Past.Asked message) ∷ []) so.amid (tt, tt);
    sound = subst AreSound (sym (one-behind notes (Happening.Recorded (Past.Asked message)) before)) so.sound;
  }

  -- and of a whole step
  pub record ReadsWhole (sent : List (List ℕ)) (asked : List TraceEntry) (notes : List Happening) : Type 0 where
    pub datas : datas_in (noted_behind notes before) ≡ sent
    pub asks : settings_in notes look running ≡ asked
    pub sound : AreSound (noted_behind notes before)

  pub reads-ended : (sent : List (List ℕ)) (asked : List TraceEntry) (notes : List Happening)
      → Reads sent asked notes → ReadsWhole sent asked (notes ++ Happening.StepEnded ∷ [])
  reads-ended sent asked notes so = record {
    datas = ap datas_in (one-behind notes Happening.StepEnded before) ∙ so.datas;
    asks =
        asks-more notes Happening.StepEnded ∙ append-nil (settings_in notes look running) ∙ so.asks;
    sound = subst AreSound (sym (one-behind notes Happening.StepEnded before)) so.sound;
  }

  -- an S6F1
  pub record SentData (message : Message) (sent : List (List ℕ)) (asked : List TraceEntry) (notes : List Happening)
      : Type 0 where
    pub more : List (List ℕ)
    pub reads : Reads more asked (notes ++ Happening.Sent message ∷ [])
    pub few : (body : List ℕ) → count_of body more ≤ one (bytes_eq body message.body) + count_of body sent

  pub reads-sent :
      (message : Message) (sent : List (List ℕ)) (asked : List TraceEntry) (notes : List Happening)
      → message.wait ≡ true → Reads sent asked notes → SentData message sent asked notes
  reads-sent message sent asked notes waits so = go (is_data message (noted_behind notes before)) refl
    where
      go : (is : Bool) → is_data message (noted_behind notes before) ≡ is → SentData message sent asked notes
      go true is = record {
        more = message.body ∷ sent;
        reads = record {
          datas =
              ap datas_in (one-behind notes (Happening.Sent message) before)
              ∙ ap
              (λ (b : Bool). if b then message.body ∷ datas_in (noted_behind notes before)
              else datas_in (noted_behind notes before)) is
              ∙ ap (λ (all : List (List ℕ)). message.body ∷ all) so.datas;
          asks =
              asks-more notes (Happening.Sent message) ∙ append-nil (settings_in notes look running) ∙ so.asks;
          amid = amid-more notes (Happening.Sent message ∷ []) so.amid (tt, tt);
          sound =
              subst AreSound (sym (one-behind notes (Happening.Sent message) before))
              (((λ one_is. waits), so.sound.0), so.sound.1);
        };
        few = λ body. let e = counted (bytes_eq body) message.body sent in omega (arith, e);
      }
      go false is = record {
        more = sent;
        reads = record {
          datas =
              ap datas_in (one-behind notes (Happening.Sent message) before)
              ∙ ap
              (λ (b : Bool). if b then message.body ∷ datas_in (noted_behind notes before)
              else datas_in (noted_behind notes before)) is
              ∙ so.datas;
          asks =
              asks-more notes (Happening.Sent message) ∙ append-nil (settings_in notes look running) ∙ so.asks;
          amid = amid-more notes (Happening.Sent message ∷ []) so.amid (tt, tt);
          sound =
              subst AreSound (sym (one-behind notes (Happening.Sent message) before))
              (((λ one_is. waits), so.sound.0), so.sound.1);
        };
        few = λ body. omega (arith);
      }

-- ---- fewer notes

-- notes without a start bring no fewer S6F1
pub datas-grow :
    (body : List ℕ) (rest before : List Happening) → AreAmid rest
    → count_of body (datas_in before) ≤ count_of body (datas_in (noted_behind rest before))
datas-grow body [] before none = omega (arith)
datas-grow body (what ∷ rest) before none =
    let first = one_more what before none.0 in
    let more = datas-grow body rest (what ∷ before) none.1 in
    omega (arith, first, more)
  where
    same : (all : List (List ℕ)) → count_of body all ≤ count_of body all
    same all = omega (arith)

    sent : (message : Message) (past : List Happening) (is : Bool)
        → count_of body (datas_in past)
        ≤ count_of body (if is then message.body ∷ datas_in past else datas_in past)
    sent message past true =
        let e = counted (bytes_eq body) message.body (datas_in past) in
        omega (arith, e)
    sent message past false = same (datas_in past)

    one_more : (what : Happening) (past : List Happening) → IsAmid what
        → count_of body (datas_in past) ≤ count_of body (datas_in (what ∷ past))
    one_more (Happening.EquipmentStarted found base) past none = absurd none
    one_more (Happening.Sent message) past none = sent message past (is_data message past)
    one_more Happening.Power past none = absurd none
    one_more (Happening.Wrote characters) past none = absurd none
    one_more Happening.StepEnded past none = absurd none
    one_more what past none = same (datas_in past)

-- so is what is said of those before
pub sound-before : (rest before : List Happening) → AreSound (noted_behind rest before) → AreSound before
sound-before [] before so = so
sound-before (what ∷ rest) before so = one_less what before (sound-before rest (what ∷ before) so)
  where
    one_less : (what : Happening) (past : List Happening) → AreSound (what ∷ past) → AreSound past
    one_less (Happening.Sent message) past so = (so.0.1, so.1)
    one_less (Happening.Storing number message) past so = (so.0, so.1.1)
    one_less what past so = so
