-- The 00s of a put, in the gates of its slots that are open.
use Rattle.std.proofs.Common.{◌≡◌, ◌⊎◌, inl, inr, ℕ, zero, suc, ◌+◌, ◌<◌, ◌≤◌, Bool, true, false, List, [], ◌∷◌, ◌++◌}
use Rattle.std.proofs.Common.{append-nil, append_assoc, drop, get_or, length, length-append, slice_index, take, ◌∙◌, refl}
use Rattle.std.proofs.Common.{sym, ap, subst, arith}
use Rattle.std.proofs.lemmas.Bool.{cases_eq}
use Rattle.std.proofs.lemmas.List.Sums.{fold-append}
use Rattle.disk_base.specs.Calls.{DiskCall, sync_call}
use Rattle.disk_base.specs.Listed.{next_story, story_under}
use Rattle.disk_base.specs.Story.{Story}
use Rattle.disk_base.specs.declared.disk.CallKind.{CallKind}
use Rattle.disk_base.specs.declared.disk.CallKind.TheVariants.{Write}
use Rattle.disk_base.specs.declared.disk.DiskAnswer.TheVariants.{Done, Failed}
use Rattle.disk_base.proofs.Marks.{length-part, not_either}
use Rattle.spool_file.specs.Area.{any_below}
use Rattle.spool_file.specs.Logs.{answered, calls_below}
use Rattle.spool_file.proofs.Firsts.{any_found}
use Rattle.spool_file.proofs.Stretches.{calls_first}
use Rattle.spool_slots.specs.Calls.{gate_shut, gate_shuts, number_place, synced}
use Rattle.spool_slots.specs.Carried.{story_behind}
use Rattle.spool_slots.specs.Losses.{opens}
use Rattle.spool_slots.specs.Put.{IsOpenGate, opens_in, shut_step, shut_steps}
use Rattle.spool_slots.proofs.GatesLeft.{else_part, here_part}
use Rattle.spool_slots.proofs.Going.{IsBut, KeepsEach, but_keeps, keeps_below, keeps_both}

-- ---- truth values in a row, as a list

abbrev pub bools : (ℕ → Bool) → ℕ → List Bool
bools f zero = []
bools f (suc n) = f 0 ∷ bools (λ p. f (suc p)) n

pub length-bools : (f : ℕ → Bool) (n : ℕ) → length (bools f n) ≡ n
length-bools f zero = refl
length-bools f (suc n) = ap suc (length-bools (λ p. f (suc p)) n)

pub bool_at : (f : ℕ → Bool) (n p : ℕ) → p < n → get_or (bools f n) p false ≡ f p
bool_at f zero p below = absurd (omega (arith, below))
bool_at f (suc n) zero below = refl
bool_at f (suc n) (suc p) below = bool_at (λ q. f (suc q)) n p (omega (arith, below))

pub bools_same : (f g : ℕ → Bool) (n : ℕ) → ((p : ℕ) → p < n → f p ≡ g p) → bools f n ≡ bools g n
bools_same f g zero same = refl
bools_same f g (suc n) same =
    ap (λ (b : Bool). b ∷ bools (λ p. f (suc p)) n) (same 0 (omega arith))
    ∙ ap (λ (rest : List Bool). g 0 ∷ rest)
    (bools_same (λ p. f (suc p)) (λ p. g (suc p)) n (λ p below. same (suc p) (omega (arith, below))))

-- whether the gate of a number's slot is open
abbrev pub opens_at : List ℕ → (slots number : ℕ) → Bool
opens_at bytes slots number = opens (slice_index bytes (number_place slots number))

pub opens_bools : (bytes : List ℕ) (slots number n : ℕ) →
    opens_in bytes slots number n ≡ bools (λ p. opens_at bytes slots (number + p)) n
opens_bools bytes slots number zero = refl
opens_bools bytes slots number (suc n) =
    let here : number ≡ number + 0 = omega arith in
    ap (λ (x : ℕ). opens_at bytes slots x ∷ opens_in bytes slots (number + 1) n) here
    ∙ ap (λ (rest : List Bool). opens_at bytes slots (number + 0) ∷ rest)
    (opens_bools bytes slots (number + 1) n
    ∙ bools_same (λ p. opens_at bytes slots (number + 1 + p)) (λ p. opens_at bytes slots (number + suc p)) n (λ p below.
    let next : number + 1 + p ≡ number + suc p = omega arith in ap (opens_at bytes slots) next))

pub open_at : (bytes : List ℕ) (slots number n p : ℕ) → p < n →
    get_or (opens_in bytes slots number n) p false ≡ opens_at bytes slots (number + p)
open_at bytes slots number n p below =
    ap (λ (all : List Bool). get_or all p false) (opens_bools bytes slots number n)
    ∙ bool_at (λ p. opens_at bytes slots (number + p)) n p below

-- ---- the calls, by steps and by the list

calls_front : (calls : ℕ → List DiskCall) (n : ℕ) →
    calls_below calls (suc n) ≡ calls 0 ++ calls_below (λ p. calls (suc p)) n
calls_front calls zero = sym (append-nil (calls 0))
calls_front calls (suc n) =
    ap (λ (row : List DiskCall). row ++ calls (suc n)) (calls_front calls n)
    ∙ append_assoc (calls 0) (calls_below (λ p. calls (suc p)) n) (calls (suc n))

calls_same : (f g : ℕ → List DiskCall) (n : ℕ) → ((p : ℕ) → p < n → f p ≡ g p) → calls_below f n ≡ calls_below g n
calls_same f g zero same = refl
calls_same f g (suc n) same =
    ap (λ (row : List DiskCall). row ++ f n) (calls_same f g n (λ p below. same p (omega (arith, below))))
    ∙ ap (λ (row : List DiskCall). calls_below g n ++ row) (same n (omega arith))

pub shuts_are : (slots number : ℕ) (f : ℕ → Bool) (n : ℕ) →
    calls_below (λ p. gate_shut slots (number + p) (f p)) n ≡ gate_shuts slots number (bools f n)
shuts_are slots number f zero = refl
shuts_are slots number f (suc n) =
    let here : number + 0 ≡ number = omega arith in
    calls_front (λ p. gate_shut slots (number + p) (f p)) n
    ∙ ap (λ (x : ℕ). gate_shut slots x (f 0) ++ calls_below (λ p. gate_shut slots (number + suc p) (f (suc p))) n) here
    ∙ ap (λ (row : List DiskCall). gate_shut slots number (f 0) ++ row)
    (calls_same (λ p. gate_shut slots (number + suc p) (f (suc p)))
    (λ p. gate_shut slots (number + 1 + p) (f (suc p))) n (λ p below.
    let next : number + suc p ≡ number + 1 + p = omega arith in ap (λ (x : ℕ). gate_shut slots x (f (suc p))) next)
    ∙ shuts_are slots (number + 1) (λ p. f (suc p)) n)

-- ---- whether there are any

module _ (slots number : ℕ) (gates : List ℕ) where
  abbrev is_on : ℕ → Bool
  is_on p = opens (slice_index gates p)

  pub none_shut : (n : ℕ) → any_below is_on n ≡ false → shut_steps slots number n gates ≡ []
  none_shut zero none = refl
  none_shut (suc n) none =
      let both = not_either (any_below is_on n) (is_on n) none in
      ap (λ (row : List DiskCall). row ++ shut_step slots number gates n) (none_shut n both.0)
      ∙ ap (gate_shut slots (number + n)) both.1

  pub some_shut : (n : ℕ) → any_below is_on n ≡ true → shut_steps slots number n gates ≡ [] → ⊥
  some_shut n any none =
      let one = any_found is_on n any in
      let rest = calls_first (shut_step slots number gates) one.0 n one.1 in
      let here : length (shut_step slots number gates one.0) ≡ 1 =
      ap (λ (b : Bool). length (gate_shut slots (number + one.0) b)) one.2 in
      let before = calls_below (shut_step slots number gates) one.0 in
      omega (
        arith,
        here,
        ap (length {A = DiskCall}) (sym none ∙ rest.1),
        length-append (before ++ shut_step slots number gates one.0) rest.0,
        length-append before (shut_step slots number gates one.0),
      )

-- ---- the one that failed

-- all of them are writes
abbrev AreWrites : List DiskCall → Type 0
AreWrites [] = Unit {0}
AreWrites (call ∷ calls) = (call.kind ≡ Write) × AreWrites calls

pub shuts_write : (slots number : ℕ) (gates : List Bool) → AreWrites (gate_shuts slots number gates)
shuts_write slots number [] = tt
shuts_write slots number (true ∷ gates) = (refl, shuts_write slots (number + 1) gates)
shuts_write slots number (false ∷ gates) = shuts_write slots (number + 1) gates

abbrev first_or : DiskCall → List DiskCall → DiskCall
first_or other [] = other
first_or other (call ∷ calls) = call

-- a write changes its bytes, whatever its answer
written_either : (call : DiskCall) (s : Story) → call.kind ≡ Write →
    next_story s (answered call Failed) ≡ next_story s call
written_either call s is =
    ap (λ (kind : CallKind). story_under kind Failed call.at call.bytes s) is
    ∙ sym (ap (λ (kind : CallKind). story_under kind call.answer call.at call.bytes s) is)

-- so where one of them failed, or their sync, it and those before it were written
pub stopped_shuts : (shuts before : List DiskCall) (call : DiskCall) (rest : List DiskCall) (s : Story) →
    AreWrites shuts → shuts ++ sync_call Done ∷ [] ≡ before ++ call ∷ rest →
    next_story (story_behind before s) (answered call Failed) ≡ story_behind (take (suc (length before)) shuts) s
stopped_shuts [] [] call rest s are split =
    ap (λ (c : DiskCall). next_story s (answered c Failed)) (sym (ap (first_or call) split))
stopped_shuts [] (b ∷ before) call rest s are split =
    let none = ap (λ (calls : List DiskCall). length (drop 1 calls)) split in
    absurd (omega (arith, none, length-append before (call ∷ rest)))
stopped_shuts (x ∷ shuts) [] call rest s are split =
    ap (λ (c : DiskCall). next_story s (answered c Failed)) (sym (ap (first_or call) split))
    ∙ written_either x s are.0
stopped_shuts (x ∷ shuts) (b ∷ before) call rest s are split =
    stopped_shuts shuts before call rest (next_story s b) are.1
    (ap (λ (calls : List DiskCall). drop 1 calls) split)
    ∙ ap (λ (c : DiskCall). story_behind (take (suc (length before)) shuts) (next_story s c))
    (sym (ap (first_or call) split))

-- ---- with the sync

pub synced_bytes : (xs : List DiskCall) (s : Story) →
    (story_behind (synced xs) s).now.bytes ≡ (story_behind xs s).now.bytes
synced_bytes [] s = refl
synced_bytes (x ∷ xs) s =
    ap (λ (t : Story). t.now.bytes) (fold-append next_story s (x ∷ xs) (sync_call Done ∷ []))

pub synced_settled : (xs : List DiskCall) (s : Story) → s.now.loose ≡ [] → (story_behind (synced xs) s).now.loose ≡ []
synced_settled [] s none = none
synced_settled (x ∷ xs) s none =
    ap (λ (t : Story). t.now.loose) (fold-append next_story s (x ∷ xs) (sync_call Done ∷ []))

synced_keeps : (P : List ℕ → Type 0) (size : ℕ) (xs : List DiskCall) → KeepsEach P size xs → KeepsEach P size (synced xs)
synced_keeps P size [] keeps = tt
synced_keeps P size (x ∷ xs) keeps = keeps_both P size (x ∷ xs) (sync_call Done ∷ []) keeps (tt, tt)

-- ---- what they leave of the bytes, where the gates are those that were read

-- the first k of the gates are closed, and all other bytes are as they were
pub record IsClosedTo (bytes : List ℕ) (slots number k : ℕ) (now : List ℕ) : Type 0 where
  pub long : length now ≡ length bytes
  pub either : (place : ℕ) → (get_or now place 0 ≡ get_or bytes place 0) ⊎ (get_or now place 0 ≡ 0)
  pub closed : (p : ℕ) → p < k → opens (get_or now (number_place slots (number + p)) 0) ≡ false

module _ (s : Story) (slots number n : ℕ) (gates : List ℕ)
    (are : (p : ℕ) → p < n → slice_index gates p ≡ slice_index s.now.bytes (number_place slots (number + p)))
    (fits : (p : ℕ) → number_place slots (number + p) + 4096 ≤ length s.now.bytes) where
  abbrev bytes : List ℕ
  bytes = s.now.bytes

  abbrev Open : ℕ → Type 0
  Open = IsOpenGate slots number (opens_in bytes slots number n)

  gate_open : (p : ℕ) → p < n → opens (slice_index gates p) ≡ true → Open (number_place slots (number + p))
  gate_open p below is = (
    p,
    omega (
      arith,
      below,
      ap (length {A = Bool}) (opens_bools bytes slots number n),
      length-bools (λ q. opens_at bytes slots (number + q)) n,
    ),
    open_at bytes slots number n p below ∙ sym (ap opens (are p below)) ∙ is,
    refl,
  )

  -- at other places nothing
  step_keeps : (p : ℕ) → p < n → (b : Bool) → opens (slice_index gates p) ≡ b →
      KeepsEach (IsBut Open bytes) (length bytes) (gate_shut slots (number + p) b)
  step_keeps p below false is = tt
  step_keeps p below true is = (
    but_keeps Open bytes (0 ∷ []) (number_place slots (number + p)) (length bytes) refl (omega (arith, fits p))
        (λ place from to. subst Open (at place from to) (gate_open p below is)),
    tt,
  ) where
    at : (place : ℕ) → number_place slots (number + p) ≤ place → place < number_place slots (number + p) + 1 →
        number_place slots (number + p) ≡ place
    at place from to = omega (arith, from, to)

  pub shuts_keep : KeepsEach (IsBut Open bytes) (length bytes) (synced (shut_steps slots number n gates))
  shuts_keep =
      synced_keeps (IsBut Open bytes) (length bytes) (shut_steps slots number n gates)
      (keeps_below (IsBut Open bytes) (length bytes) (shut_step slots number gates) n
      (λ p below. step_keeps p below (opens (slice_index gates p)) refl))

  module _ (k : ℕ) (below : k < n) (t : Story) (is : IsClosedTo bytes slots number k t.now.bytes) where
    abbrev at : ℕ
    at = number_place slots (number + k)

    within : at < length t.now.bytes
    within = omega (arith, fits k, is.long)

    either_by : (place : ℕ) → (place ≡ at) ⊎ (place ≡ at → ⊥) →
        (get_or (story_behind (gate_shut slots (number + k) true) t).now.bytes place 0 ≡ get_or bytes place 0)
        ⊎ (get_or (story_behind (gate_shut slots (number + k) true) t).now.bytes place 0 ≡ 0)
    either_by place (inl here) = inr (
        ap (λ (q : ℕ). get_or (story_behind (gate_shut slots (number + k) true) t).now.bytes q 0) here
        ∙ here_part t.now.bytes 0 0 at within)
    either_by place (inr other) = also (is.either place) where
      same : get_or (story_behind (gate_shut slots (number + k) true) t).now.bytes place 0 ≡ get_or t.now.bytes place 0
      same = else_part t.now.bytes 0 0 at place within other

      also : (get_or t.now.bytes place 0 ≡ get_or bytes place 0) ⊎ (get_or t.now.bytes place 0 ≡ 0) →
          (get_or (story_behind (gate_shut slots (number + k) true) t).now.bytes place 0 ≡ get_or bytes place 0)
          ⊎ (get_or (story_behind (gate_shut slots (number + k) true) t).now.bytes place 0 ≡ 0)
      also (inl was) = inl (same ∙ was)
      also (inr none) = inr (same ∙ none)

    closed_by : (p : ℕ) → p < suc k → (number_place slots (number + p) ≡ at) ⊎ (number_place slots (number + p) ≡ at → ⊥) →
        opens (get_or (story_behind (gate_shut slots (number + k) true) t).now.bytes (number_place slots (number + p)) 0)
        ≡ false
    closed_by p less (inl here) = ap opens (
        ap (λ (q : ℕ). get_or (story_behind (gate_shut slots (number + k) true) t).now.bytes q 0) here
        ∙ here_part t.now.bytes 0 0 at within)
    closed_by p less (inr other) =
        ap opens (else_part t.now.bytes 0 0 at (number_place slots (number + p)) within other)
        ∙ is.closed p (earlier p less other (cases_eq p k)) where
          earlier : (p : ℕ) → p < suc k → (number_place slots (number + p) ≡ at → ⊥) → (p ≡ k) ⊎ (p ≡ k → ⊥) → p < k
          earlier p less other (inl last) = absurd (other (ap (λ (q : ℕ). number_place slots (number + q)) last))
          earlier p less other (inr before) = grind (arith, less, before)

    -- one that was closed is so still
    still_closed : opens (slice_index gates k) ≡ false → (p : ℕ) → p < suc k → (p ≡ k) ⊎ (p ≡ k → ⊥) →
        opens (get_or t.now.bytes (number_place slots (number + p)) 0) ≡ false
    still_closed none p less (inr before) = is.closed p (grind (arith, less, before))
    still_closed none p less (inl last) =
        ap (λ (q : ℕ). opens (get_or t.now.bytes (number_place slots (number + q)) 0)) last
        ∙ by_either (is.either at) where
          by_either : (get_or t.now.bytes at 0 ≡ get_or bytes at 0) ⊎ (get_or t.now.bytes at 0 ≡ 0) →
              opens (get_or t.now.bytes at 0) ≡ false
          by_either (inl was) = ap opens (was ∙ sym (are k below)) ∙ none
          by_either (inr zeroed) = ap opens zeroed

    closed_on : (b : Bool) → opens (slice_index gates k) ≡ b →
        IsClosedTo bytes slots number (suc k) (story_behind (gate_shut slots (number + k) b) t).now.bytes
    closed_on true is_on = record {
      long = length-part t.now.bytes (0 ∷ []) at (omega (arith, within)) ∙ is.long;
      either = λ place. either_by place (cases_eq place at);
      closed = λ p less. closed_by p less (cases_eq (number_place slots (number + p)) at);
    }
    closed_on false is_off = record {
      long = is.long;
      either = is.either;
      closed = λ p less. still_closed is_off p less (cases_eq p k);
    }

  pub closed_to : (k : ℕ) → k ≤ n → IsClosedTo bytes slots number k (story_behind (shut_steps slots number k gates) s).now.bytes
  closed_to zero within = record {
    long = refl;
    either = λ place. inl refl;
    closed = λ p below. absurd (omega (arith, below));
  }
  closed_to (suc k) within =
      subst (IsClosedTo bytes slots number (suc k))
      (ap (λ (t : Story). t.now.bytes)
      (sym (fold-append next_story s (shut_steps slots number k gates) (shut_step slots number gates k))))
      (closed_on k (omega (arith, within)) (story_behind (shut_steps slots number k gates) s)
      (closed_to k (omega (arith, within))) (opens (slice_index gates k)) refl)
