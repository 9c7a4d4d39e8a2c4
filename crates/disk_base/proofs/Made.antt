-- What a call changes of a disk in memory.
use Rattle.std.proofs.Common.{◌≡◌, refl, ℕ, ◌+◌, ◌-◌, ◌<◌, ◌≤◌, Bool, true, false, not, ◌&&◌, ◌||◌, ◌==◌, nat_le, nat_lt, List, [], ◌∷◌, ◌++◌, length, take, if◌then◌else◌, sym, ap, subst, ◌∙◌, arith, length-append, vec_capacity, vec_len, Option}
use Rattle.std.proofs.lemmas.Bool.Decides.{nat_tests}
use Rattle.std.proofs.lemmas.List.{take_all, take-append-le}
use Rattle.disk_base.specs.Calls.{DiskCall, written_of}
use Rattle.disk_base.specs.Kept.{IsMemDisk, IsSettled, disk_state, effective_calls}
use Rattle.disk_base.specs.Log.{AreLogged, bytes_under, call_of, calls_of, settled_count, story_of}
use Rattle.disk_base.specs.Listed.{next_story}
use Rattle.disk_base.specs.MemDisk.{DiskState, answer_due, answer_planned, disk_size, after_call, after_entry, after_refusal, faults_after, is_full, spare_if, spare_now}
use Rattle.disk_base.specs.Plan.{next_answer, next_plan, stops_next}
use Rattle.disk_base.specs.Story.{Story}
use Rattle.disk_base.specs.declared.disk.CallKind.{CallKind}
use Rattle.disk_base.specs.declared.disk.DiskAnswer.{DiskAnswer}
use Rattle.disk_base.specs.declared.disk.DiskAnswer.TheVariants.{Failed}
use Rattle.disk_base.specs.declared.fault_plan.FaultPlan.{FaultPlan}
use Rattle.disk_base.specs.declared.log.LoggedCall.{LoggedCall}
use Rattle.disk_base.specs.declared.mem_disk.MemDisk.TheInside.{Inside}
use Rattle.disk_base.proofs.Logs.{IsPushed, length-calls, pushed, written_is}
use Rattle.disk_base.proofs.Steps.{one_more_call, settled_on}

-- the state with these fields
abbrev state : Story → List DiskCall → ℕ → ℕ → ℕ → ℕ → ℕ × ℕ → FaultPlan → ℕ → Option (List ℕ) → DiskState
state story calls made used most room spare plan faults file = record {
  story = story;
  calls = calls;
  made = made;
  used = used;
  most = most;
  room = room;
  spare = spare;
  plan = plan;
  faults = faults;
  file = file;
}

same_state : {s t : Story} {cs ds : List DiskCall} {a b u v m n r q : ℕ} {w x : ℕ × ℕ} {p o : FaultPlan} {f g : ℕ} {h k : Option (List ℕ)} →
    s ≡ t → cs ≡ ds → a ≡ b → u ≡ v → m ≡ n → r ≡ q → w ≡ x → p ≡ o → f ≡ g → h ≡ k →
    state s cs a u m r w p f h ≡ state t ds b v n q x o g k
same_state {s} {t} {cs} {ds} {a} {b} {u} {v} {m} {n} {r} {q} {w} {x} {p} {o} {f} {g} {h} {k} story calls made used most room spare plan faults file =
    ap (λ (y : Story). state y cs a u m r w p f h) story
    ∙ ap (λ (y : List DiskCall). state t y a u m r w p f h) calls
    ∙ ap (λ (y : ℕ). state t ds y u m r w p f h) made
    ∙ ap (λ (y : ℕ). state t ds b y m r w p f h) used
    ∙ ap (λ (y : ℕ). state t ds b v y r w p f h) most
    ∙ ap (λ (y : ℕ). state t ds b v n y w p f h) room
    ∙ ap (λ (y : ℕ × ℕ). state t ds b v n q y p f h) spare
    ∙ ap (λ (y : FaultPlan). state t ds b v n q x y f h) plan
    ∙ ap (λ (y : ℕ). state t ds b v n q x o y h) faults
    ∙ ap (λ (y : Option (List ℕ)). state t ds b v n q x o g y) file

-- whether the list is full, as it is counted
pub full_is : (d : Inside) (spare : ℕ × ℕ) (n : ℕ) (full : Bool) → spare ≡ spare_now (disk_state d) → vec_len d.entries ≡ length d.entries.items →
    full ≡ (nat_le (d.most + spare.0) (vec_len d.entries) || nat_lt (d.room + spare.1 - vec_len d.written) n) → is_full n (disk_state d) ≡ full
full_is d spare n full spare_is lens is =
    ap (λ (k : ℕ). nat_le (d.most + (spare_now (disk_state d)).0) k || nat_lt (d.room + (spare_now (disk_state d)).1 - vec_len d.written) n)
    (length-calls d.entries.items d.written.items ∙ sym lens)
    ∙ ap (λ (w : ℕ × ℕ). nat_le (d.most + w.0) (vec_len d.entries) || nat_lt (d.room + w.1 - vec_len d.written) n) (sym spare_is)
    ∙ sym is

-- a call that isn't in the list
pub refused : (d d' : Inside) (call : DiskCall) → disk_state d' ≡ after_refusal (disk_state d) → is_full (length call.bytes) (disk_state d) ≡ true →
    disk_state d' ≡ after_call call (disk_state d)
refused d d' call is full = is ∙ sym (ap (λ (b : Bool). if b then after_refusal (disk_state d) else after_entry call (disk_state d)) full)

-- one entry more in the list
pub record IsListed (d d' : Inside) (entry : LoggedCall) (bytes : List ℕ) : Type 0 where
  pub base : d'.base.items ≡ d.base.items
  pub entries : d'.entries.items ≡ d.entries.items ++ entry ∷ []
  pub written : d'.written.items ≡ d.written.items ++ bytes
  pub used : vec_len d'.written ≡ vec_len d.written + length bytes
  pub most : d'.most ≡ d.most
  pub room : d'.room ≡ d.room
  pub spare : ◌≡◌ {A = ℕ × ℕ} (d'.spare_calls, d'.spare_bytes) (d.spare_calls, d.spare_bytes)
  pub plan : d'.plan ≡ next_plan d.plan
  pub faults : d'.faults ≡ faults_after entry.answer d.faults
  pub file : d'.file.name ≡ d.file.name
  pub count : entry.count ≡ length bytes
  pub within : entry.at + entry.count ≤ length d.bytes.items
  pub enough : is_full (length bytes) (disk_state d) ≡ false

-- the room that is left
pub record HasRoom (d : Inside) : Type 0 where
  pub entries : vec_len d.entries ≤ d.most + d.spare_calls
  pub entries_room : d.most + d.spare_calls ≤ vec_capacity d.entries
  pub written : vec_len d.written ≤ d.room + d.spare_bytes
  pub written_room : d.room + d.spare_bytes ≤ vec_capacity d.written

-- the vectors are as long as what they hold
abbrev pub AreLong : Inside → Inside → Type 0
AreLong d d' =
    (vec_len d.entries ≡ length d.entries.items) × (vec_len d'.entries ≡ length d'.entries.items) × (vec_len d.written ≡ length d.written.items)

module _ (d d' : Inside) (entry : LoggedCall) (bytes : List ℕ) (is : IsMemDisk d) (listed : IsListed d d' entry bytes) (lens : AreLong d d') where
  abbrev all : List DiskCall
  all = calls_of d.entries.items d.written.items

  push : IsPushed (length d.bytes.items) d.entries.items d.written.items entry bytes
  push = pushed (length d.bytes.items) d.entries.items d.written.items entry bytes is.logged listed.count listed.within

  calls_now : calls_of d'.entries.items d'.written.items ≡ all ++ call_of entry bytes ∷ []
  calls_now =
      ap (λ es. calls_of es d'.written.items) listed.entries
      ∙ ap (λ w. calls_of (d.entries.items ++ entry ∷ []) w) listed.written
      ∙ push.calls

  logged_now : (size : ℕ) → size ≡ length d.bytes.items → AreLogged size d'.entries.items d'.written.items
  logged_now size same =
      subst (λ n. AreLogged n d'.entries.items d'.written.items) (sym same)
      (subst (λ es. AreLogged (length d.bytes.items) es d'.written.items) (sym listed.entries)
      (subst (λ w. AreLogged (length d.bytes.items) (d.entries.items ++ entry ∷ []) w) (sym listed.written) push.logged))

  entries_are : vec_len d.entries ≡ length d.entries.items
  entries_are = lens.0

  entries_are' : vec_len d'.entries ≡ length d'.entries.items
  entries_are' = lens.1

  written_are : vec_len d.written ≡ length d.written.items
  written_are = lens.2

  longer : length d'.entries.items ≡ length d.entries.items + 1
  longer = ap length listed.entries ∙ length-append d.entries.items (entry ∷ [])

  entered : {story : Story} → story_of d'.base.items (effective_calls d') ≡ story → d'.live ≡ (if d.plan.stopped then d.live else d.live + 1) →
      story ≡ (if d.plan.stopped then story_of d.base.items (effective_calls d) else next_story (story_of d.base.items (effective_calls d)) (call_of entry bytes)) →
      disk_state d' ≡ after_call (call_of entry bytes) (disk_state d)
  entered a made b =
      same_state (a ∙ b) calls_now made listed.used listed.most listed.room listed.spare listed.plan listed.faults listed.file
      ∙ sym (ap (λ (full : Bool). if full then after_refusal (disk_state d) else after_entry (call_of entry bytes) (disk_state d)) listed.enough)

  -- a call of a disk that has stopped
  module _ (stopped : d.plan.stopped ≡ true) (live : d'.live ≡ d.live) where
    same_calls : effective_calls d' ≡ effective_calls d
    same_calls =
        ap (λ (n : ℕ). take n (calls_of d'.entries.items d'.written.items)) live
        ∙ ap (λ (cs : List DiskCall). take d.live cs) calls_now
        ∙ take-append-le d.live all (call_of entry bytes ∷ []) (omega (arith, is.live, length-calls d.entries.items d.written.items))

    same_story : story_of d'.base.items (effective_calls d') ≡ story_of d.base.items (effective_calls d)
    same_story = ap (λ b. story_of b (effective_calls d')) listed.base ∙ ap (λ cs. story_of d.base.items cs) same_calls

    pub late_state : disk_state d' ≡ after_call (call_of entry bytes) (disk_state d)
    late_state = entered same_story (live ∙ sym (ap (λ (b : Bool). if b then d.live else d.live + 1) stopped)) (sym (ap (λ (b : Bool). if b then story_of d.base.items (effective_calls d) else next_story (story_of d.base.items (effective_calls d)) (call_of entry bytes)) stopped))

    stays : d'.plan.stopped ≡ true
    stays = ap (λ (p : FaultPlan). p.stopped) listed.plan ∙ ap (λ (b : Bool). b || d.plan.stop_in == 1) stopped

    pub late_kept : d'.bytes.items ≡ d.bytes.items → d'.synced ≡ d.synced → HasRoom d' → IsMemDisk d'
    late_kept same synced room = record {
      long = ap length listed.base ∙ is.long ∙ sym (ap length same);
      logged = logged_now (length d'.bytes.items) (ap length same);
      entries = room.entries;
      entries_room = room.entries_room;
      written = room.written;
      written_room = room.written_room;
      live = omega (arith, is.live, live, longer);
      all = λ on. absurd (grind (arith, on, stays));
      settled =
          subst (λ n. IsSettled d'.base.items d'.bytes.items (effective_calls d') n) (sym synced)
          (subst (λ b. IsSettled b d'.bytes.items (effective_calls d') d.synced) (sym listed.base)
          (subst (λ b. IsSettled d.base.items b (effective_calls d') d.synced) (sym same)
          (subst (λ cs. IsSettled d.base.items d.bytes.items cs d.synced) (sym same_calls) is.settled)));
      fits = λ on. absurd (grind (arith, on, stays));
      fitted = λ again. (
        omega (arith, (is.fitted stopped).0, live, listed.most),
        subst (λ (n : ℕ). written_of (take (n - 1) (calls_of d'.entries.items d'.written.items)) ≤ d'.room) (sym live)
            (subst (λ (cs : List DiskCall). written_of (take (d.live - 1) cs) ≤ d'.room) (sym calls_now)
            (subst (λ (cs : List DiskCall). written_of cs ≤ d'.room)
            (sym (take-append-le (d.live - 1) all (call_of entry bytes ∷ []) (omega (arith, is.live, length-calls d.entries.items d.written.items))))
            (omega (arith, (is.fitted stopped).1, listed.room)))),
      );
    }

  -- one of a disk that hasn't
  module _ (going : d.plan.stopped ≡ false) (live : d'.live ≡ d.live + 1) where
    whole : effective_calls d ≡ all
    whole = take_all d.live all (omega (arith, is.all going, length-calls d.entries.items d.written.items))

    more_calls : effective_calls d' ≡ effective_calls d ++ call_of entry bytes ∷ []
    more_calls =
        ap (λ (n : ℕ). take n (calls_of d'.entries.items d'.written.items)) live
        ∙ ap (λ (cs : List DiskCall). take (d.live + 1) cs) calls_now
        ∙ take_all (d.live + 1) (all ++ call_of entry bytes ∷ []) (omega (arith, is.all going, length-calls d.entries.items d.written.items, length-append all (call_of entry bytes ∷ [])))
        ∙ ap (λ (cs : List DiskCall). cs ++ call_of entry bytes ∷ []) (sym whole)

    next : story_of d'.base.items (effective_calls d') ≡ next_story (story_of d.base.items (effective_calls d)) (call_of entry bytes)
    next =
        ap (λ b. story_of b (effective_calls d')) listed.base
        ∙ ap (λ cs. story_of d.base.items cs) more_calls
        ∙ one_more_call d.base.items (effective_calls d) (call_of entry bytes)

    pub made_state : disk_state d' ≡ after_call (call_of entry bytes) (disk_state d)
    made_state = entered next (live ∙ sym (ap (λ (b : Bool). if b then d.live else d.live + 1) going)) (sym (ap (λ (b : Bool). if b then story_of d.base.items (effective_calls d) else next_story (story_of d.base.items (effective_calls d)) (call_of entry bytes)) going))

    counted : length (effective_calls d) + 1 ≡ d'.live
    counted = ap (λ (cs : List DiskCall). length cs + 1) whole ∙ omega (arith, is.all going, live, length-calls d.entries.items d.written.items)

    -- all that was listed before has found room, and the call where the disk doesn't stop at it
    all_before : take d.live (all ++ call_of entry bytes ∷ []) ≡ all
    all_before =
        take-append-le d.live all (call_of entry bytes ∷ []) (omega (arith, is.live, length-calls d.entries.items d.written.items))
        ∙ take_all d.live all (omega (arith, is.all going, length-calls d.entries.items d.written.items))

    next_by : (next : Bool) → (d.plan.stop_in == 1) ≡ next → (d.plan.stopped || next) ≡ false → stops_next d.plan ≡ false
    next_by true is none = let both : true ≡ false = sym (ap (λ (b : Bool). b || true) going) ∙ none in absurd cc
    next_by false is none = ap (λ (b : Bool). not d.plan.stopped && b) is ∙ by_stopped d.plan.stopped where
      by_stopped : (b : Bool) → (not b && false) ≡ false
      by_stopped true = refl
      by_stopped false = refl

    not_next : d'.plan.stopped ≡ false → stops_next d.plan ≡ false
    not_next on = next_by (d.plan.stop_in == 1) refl (sym (ap (λ (p : FaultPlan). p.stopped) listed.plan) ∙ on)

    room_by : (most calls left n : ℕ) (full : Bool) → nat_le most calls ≡ full → (full || nat_lt left n) ≡ false → (calls < most) × (n ≤ left)
    room_by most calls left n true is none = absurd (grind (arith, none))
    room_by most calls left n false is none = (grind (arith, nat_tests, is), grind (arith, nat_tests, none))

    enough : stops_next d.plan ≡ false → (vec_len d'.entries ≤ d'.most) × (vec_len d'.written ≤ d'.room)
    enough none =
        let no_spare : spare_now (disk_state d) ≡ (0, 0) = ap (λ (b : Bool). spare_if b (d.spare_calls, d.spare_bytes)) none in
        let fits : (length all < d.most + 0) × (length bytes ≤ d.room + 0 - vec_len d.written) =
        subst (λ (w : ℕ × ℕ). (length all < d.most + w.0) × (length bytes ≤ d.room + w.1 - vec_len d.written)) no_spare
        (room_by (d.most + (spare_now (disk_state d)).0) (length all) (d.room + (spare_now (disk_state d)).1 - vec_len d.written) (length bytes)
        (nat_le (d.most + (spare_now (disk_state d)).0) (length all)) refl listed.enough) in (
          omega (arith, fits.0, longer, entries_are', length-calls d.entries.items d.written.items, listed.most),
          omega (arith, fits.1, listed.used, listed.room, (is.fits going).1),
        )

    pub made_kept : d'.bytes.items ≡ bytes_under entry.kind entry.at bytes d.bytes.items → length d'.bytes.items ≡ length d.bytes.items →
        d'.synced ≡ settled_count entry.kind entry.answer d.synced d'.live → HasRoom d' → IsMemDisk d'
    made_kept changed same synced room = record {
      long = ap length listed.base ∙ is.long ∙ sym same;
      logged = logged_now (length d'.bytes.items) same;
      entries = room.entries;
      entries_room = room.entries_room;
      written = room.written;
      written_room = room.written_room;
      live = omega (arith, is.all going, live, longer);
      all = λ on. live ∙ ap (λ (n : ℕ). n + 1) (is.all going) ∙ sym longer;
      settled =
          subst (λ n. IsSettled d'.base.items d'.bytes.items (effective_calls d') n) (ap (λ n. settled_count entry.kind entry.answer d.synced n) counted ∙ sym synced)
          (subst (λ b. IsSettled b d'.bytes.items (effective_calls d') (settled_count entry.kind entry.answer d.synced (length (effective_calls d) + 1))) (sym listed.base)
          (subst (λ b. IsSettled d.base.items b (effective_calls d') (settled_count entry.kind entry.answer d.synced (length (effective_calls d) + 1))) (sym changed)
          (subst (λ cs. IsSettled d.base.items (bytes_under entry.kind entry.at bytes d.bytes.items) cs (settled_count entry.kind entry.answer d.synced (length (effective_calls d) + 1))) (sym more_calls)
          (settled_on d.base.items d.bytes.items (effective_calls d) d.synced (call_of entry bytes) is.settled))));
      fits = λ on. enough (not_next on);
      fitted = λ stops. (
        omega (arith, is.all going, (is.fits going).0, live, listed.most, entries_are),
        let before : d.live ≡ d'.live - 1 = omega (arith, live) in
            subst (λ (n : ℕ). written_of (take n (calls_of d'.entries.items d'.written.items)) ≤ d'.room) before
            (subst (λ (cs : List DiskCall). written_of (take d.live cs) ≤ d'.room) (sym calls_now)
            (subst (λ (cs : List DiskCall). written_of cs ≤ d'.room) (sym all_before)
            (omega (arith, written_is (length d.bytes.items) d.entries.items d.written.items is.logged, written_are, (is.fits going).1, listed.room)))),
      );
    }

-- what a call answers for which the list has room
pub due_is : (d : Inside) (kind : CallKind) (size held : ℕ) (planned answer : DiskAnswer) → IsMemDisk d → held ≡ length d.bytes.items →
    planned ≡ next_answer d.plan → answer ≡ answer_planned kind size held planned → answer ≡ answer_due kind size (disk_state d)
due_is d kind size held planned answer is held_is planned_is judged =
    judged
    ∙ ap (λ (n : ℕ). answer_planned kind size n planned) (held_is ∙ sym (ap length is.settled.bytes))
    ∙ ap (λ (a : DiskAnswer). answer_planned kind size (disk_size (disk_state d)) a) planned_is

-- what a call answers, by what is counted
pub answers : (d : Inside) (n : ℕ) (due : DiskAnswer) (full : Bool) → is_full n (disk_state d) ≡ full →
    (if is_full n (disk_state d) then Failed else due) ≡ (if full then Failed else due)
answers d n due full is = ap (λ (b : Bool). if b then Failed else due) is
