-- What a crash leaves of gates that were closed and not synced, place by place.
use Rattle.std.proofs.Common.{◌≡◌, ◌⊎◌, inl, inr, ℕ, zero, suc, ◌+◌, ◌%◌, ◌<◌, ◌≤◌, Bool, true, false, List, [], ◌∷◌, ◌++◌}
use Rattle.std.proofs.Common.{append_assoc, fold, length, take, drop, get_or, replicate, ◌∙◌, refl, sym, ap}
use Rattle.std.proofs.Common.{subst, arith}
use Rattle.std.proofs.Math.ListN.{set}
use Rattle.std.proofs.Math.Seq.{get_or-append_seam}
use Rattle.std.proofs.lemmas.Bool.{cases_eq, cases_lt}
use Rattle.std.proofs.lemmas.List.{ext_get_or, get_or_past, get_or-set_other, get_or-set_same, length-replicate}
use Rattle.std.proofs.lemmas.List.{length-set, length-take-le}
use Rattle.std.proofs.lemmas.Nat.{mod_below}
use Rattle.disk_base.specs.Cut.{byte_left, bytes_left, choice_left, chosen_byte, image_of, marks_of, next_choice}
use Rattle.disk_base.specs.Cut.{settled_before, settled_bytes, settled_if}
use Rattle.disk_base.specs.Listed.{next_story}
use Rattle.disk_base.specs.Story.{Story, with_part, with_write}
use Rattle.disk_base.specs.declared.cut.CutChoice.{CutChoice}
use Rattle.disk_base.proofs.Marks.{AreIn, image_is, length-marks, length-part, outside_part}
use Rattle.spool_file.specs.File.{gates_below}
use Rattle.spool_file.specs.Slot.{is_open, slot_in, slot_place}
use Rattle.spool_file.proofs.Gates.{gate_at, length-gates}
use Rattle.spool_slots.specs.Calls.{gate_shuts, number_place}
use Rattle.spool_slots.specs.Losses.{gates_left, opens, shut_marks}

-- ---- what a choice leaves at a place

-- the choice behind the first n of some marks
unfoldable choice_at : CutChoice → List Bool → (n : ℕ) → CutChoice
choice_at choice marks zero = choice
choice_at choice marks (suc n) = choice_left (get_or marks n false) (choice_at choice marks n)

choice_first : (choice : CutChoice) (marks : List Bool) → choice_at choice marks zero ≡ choice
unfolding choice_at
choice_first choice marks = refl

choice_next : (choice : CutChoice) (marks : List Bool) (n : ℕ) →
    choice_at choice marks (suc n) ≡ choice_left (get_or marks n false) (choice_at choice marks n)
unfolding choice_at
choice_next choice marks n = refl

choice_behind : (choice : CutChoice) (mark : Bool) (marks : List Bool) (n : ℕ) →
    choice_at choice (mark ∷ marks) (suc n) ≡ choice_at (choice_left mark choice) marks n
unfolding choice_at
choice_behind choice mark marks zero = refl
choice_behind choice mark marks (suc n) = ap (choice_left (get_or marks n false)) (choice_behind choice mark marks n)

byte_at : (place : ℕ) (choice : CutChoice) (marks : List Bool) (settled now : List ℕ) → length marks ≡ length now →
    length settled ≡ length now → place < length now →
    get_or (bytes_left choice marks settled now) place 0
    ≡ byte_left (get_or marks place false) (choice_at choice marks place) (get_or settled place 0) (get_or now place 0)
byte_at place choice [] settled [] marked long below = absurd (omega (arith, below))
byte_at place choice [] settled (new ∷ now) marked long below = absurd (omega (arith, marked))
byte_at place choice (mark ∷ marks) settled [] marked long below = absurd (omega (arith, below))
byte_at place choice (mark ∷ marks) [] (new ∷ now) marked long below = absurd (omega (arith, long))
byte_at zero choice (mark ∷ marks) (old ∷ settled) (new ∷ now) marked long below =
    sym (ap (λ (c : CutChoice). byte_left mark c old new) (choice_first choice (mark ∷ marks)))
byte_at (suc place) choice (mark ∷ marks) (old ∷ settled) (new ∷ now) marked long below =
    byte_at place (choice_left mark choice) marks settled now (omega (arith, marked)) (omega (arith, long))
    (omega (arith, below))
    ∙ ap (λ (c : CutChoice). byte_left (get_or marks place false) c (get_or settled place 0) (get_or now place 0))
    (sym (choice_behind choice mark marks place))

abbrev gate_left : Bool → CutChoice → Bool → Bool
gate_left true choice gate = opens (chosen_byte choice 90 0)
gate_left false choice gate = gate

gate_of : (k : ℕ) (choice : CutChoice) (marks gates : List Bool) → length marks ≡ length gates → k < length gates →
    get_or (gates_left choice marks gates) k false
    ≡ gate_left (get_or marks k false) (choice_at choice marks k) (get_or gates k false)
gate_of k choice [] [] marked below = absurd (omega (arith, below))
gate_of k choice [] (gate ∷ gates) marked below = absurd (omega (arith, marked))
gate_of k choice (mark ∷ marks) [] marked below = absurd (omega (arith, below))
gate_of zero choice (true ∷ marks) (gate ∷ gates) marked below =
    sym (ap (λ (c : CutChoice). opens (chosen_byte c 90 0)) (choice_first choice (true ∷ marks)))
gate_of zero choice (false ∷ marks) (gate ∷ gates) marked below = refl
gate_of (suc k) choice (true ∷ marks) (gate ∷ gates) marked below =
    gate_of k (next_choice choice) marks gates (omega (arith, marked)) (omega (arith, below))
    ∙ ap (λ (c : CutChoice). gate_left (get_or marks k false) c (get_or gates k false))
    (sym (choice_behind choice true marks k))
gate_of (suc k) choice (false ∷ marks) (gate ∷ gates) marked below =
    gate_of k choice marks gates (omega (arith, marked)) (omega (arith, below))
    ∙ ap (λ (c : CutChoice). gate_left (get_or marks k false) c (get_or gates k false))
    (sym (choice_behind choice false marks k))

length-left : (choice : CutChoice) (marks gates : List Bool) → length marks ≡ length gates →
    length (gates_left choice marks gates) ≡ length gates
length-left choice [] [] marked = refl
length-left choice [] (gate ∷ gates) marked = absurd (omega (arith, marked))
length-left choice (mark ∷ marks) [] marked = absurd (omega (arith, marked))
length-left choice (true ∷ marks) (gate ∷ gates) marked =
    ap suc (length-left (next_choice choice) marks gates (omega (arith, marked)))
length-left choice (false ∷ marks) (gate ∷ gates) marked =
    ap suc (length-left choice marks gates (omega (arith, marked)))

-- ---- one element of a list in place of another

pub here_part : {A : Type 0} (all : List A) (x d : A) (at : ℕ) → at < length all →
    get_or (with_part all at (x ∷ [])) at d ≡ x
here_part {A} all x d at within =
    let long : length (take at all) ≡ at = length-take-le at all (omega (arith, within)) in
    ap (λ (xs : List A). get_or xs at d) (append_assoc (take at all) (x ∷ []) (drop (at + 1) all))
    ∙ ap (λ (i : ℕ). get_or (take at all ++ x ∷ drop (at + 1) all) i d) (sym long)
    ∙ get_or-append_seam (take at all) x (drop (at + 1) all) d

apart : (at place : ℕ) → (place ≡ at → ⊥) → (place < at) ⊎ (at ≤ place) → (place < at) ⊎ (at + 1 ≤ place)
apart at place other (inl before) = inl before
apart at place other (inr from) = inr (grind (arith, from, other))

pub else_part : {A : Type 0} (all : List A) (x d : A) (at place : ℕ) → at < length all → (place ≡ at → ⊥) →
    get_or (with_part all at (x ∷ [])) place d ≡ get_or all place d
else_part all x d at place within other =
    outside_part all (x ∷ []) at place d (omega (arith, within)) (apart at place other (cases_lt place at))

-- ---- some gates of slots were closed

-- the slots whose gates were, marked, each of which was such a one before
pub record IsShutTo (slots : ℕ) (Was : ℕ → Type 0) (old : List ℕ) (marks : List Bool) (t : Story) : Type 0 where
  pub long : length t.now.bytes ≡ length old
  pub settled : settled_bytes t ≡ old
  pub inside : AreIn (length t.now.bytes) t.now.loose
  pub marked : length marks ≡ slots
  -- their places are those that are loose
  pub at : (k : ℕ) → k < slots →
      get_or (marks_of (length t.now.bytes) t.now.loose) (slot_place k) false ≡ get_or marks k false
  pub are : (place : ℕ) → get_or (marks_of (length t.now.bytes) t.now.loose) place false ≡ true →
      (k : ℕ) × (k < slots) × (place ≡ slot_place k) × (get_or marks k false ≡ true)
  pub was : (k : ℕ) → k < slots → get_or marks k false ≡ true → Was k
  pub closed : (k : ℕ) → k < slots → get_or marks k false ≡ true → get_or t.now.bytes (slot_place k) 0 ≡ 0
  pub same : (place : ℕ) → get_or (marks_of (length t.now.bytes) t.now.loose) place false ≡ false →
      get_or t.now.bytes place 0 ≡ get_or old place 0

unmarked : (size place : ℕ) → get_or (replicate size false) place false ≡ false
unmarked zero place = refl
unmarked (suc size) zero = refl
unmarked (suc size) (suc place) = unmarked size place

pub none_shut : (slots : ℕ) (Was : ℕ → Type 0) (s : Story) → s.now.loose ≡ [] →
    IsShutTo slots Was s.now.bytes (replicate slots false) s
none_shut slots Was s none =
    let size = length s.now.bytes in
    let no_mark : (place : ℕ) → get_or (marks_of size s.now.loose) place false ≡ false =
    λ place. ap (λ (loose : List (ℕ × ℕ)). get_or (marks_of size loose) place false) none ∙ unmarked size place in
    record {
      long = refl;
      settled = ap (λ (loose : List (ℕ × ℕ)). settled_if loose s.now.bytes (settled_before s.past)) none;
      inside = subst (AreIn size) (sym none) tt;
      marked = length-replicate slots false;
      at = λ k below. no_mark (slot_place k) ∙ sym (unmarked slots k);
      are = λ place is. absurd (grind (arith, no_mark place, is));
      was = λ k below is. absurd (grind (arith, unmarked slots k, is));
      closed = λ k below is. absurd (grind (arith, unmarked slots k, is));
      same = λ place is. refl;
    }

-- one more
module _ (slots : ℕ) (Was : ℕ → Type 0) (old : List ℕ) (marks : List Bool) (t : Story) (j : ℕ) (below : j < slots)
    (fits : slot_place slots ≤ length old) (is : IsShutTo slots Was old marks t) (was : Was j) where
  abbrev at : ℕ
  at = slot_place j

  abbrev now : Story
  now = with_write at (0 ∷ []) t

  abbrev size : ℕ
  size = length t.now.bytes

  within : at < size
  within = omega (arith, below, fits, is.long)

  same_size : length now.now.bytes ≡ size
  same_size = length-part t.now.bytes (0 ∷ []) at (omega (arith, within))

  loose_within : at < length (marks_of size t.now.loose)
  loose_within = omega (arith, within, length-marks size t.now.loose is.inside)

  abbrev mark_now : (place : ℕ) → Bool
  mark_now place = get_or (marks_of (length now.now.bytes) now.now.loose) place false

  as_part : (place : ℕ) → mark_now place ≡ get_or (with_part (marks_of size t.now.loose) at (true ∷ [])) place false
  as_part place = ap (λ (n : ℕ). get_or (marks_of n now.now.loose) place false) same_size

  mark_here : mark_now at ≡ true
  mark_here = as_part at ∙ here_part (marks_of size t.now.loose) true false at loose_within

  mark_else : (place : ℕ) → (place ≡ at → ⊥) → mark_now place ≡ get_or (marks_of size t.now.loose) place false
  mark_else place other = as_part place ∙ else_part (marks_of size t.now.loose) true false at place loose_within other

  set_here : get_or (set marks j true) j false ≡ true
  set_here = get_or-set_same marks j true false (omega (arith, below, is.marked))

  set_else : (k : ℕ) → (k ≡ j → ⊥) → get_or (set marks j true) k false ≡ get_or marks k false
  set_else k other = get_or-set_other marks j k true false other

  place_else : (k : ℕ) → (k ≡ j → ⊥) → slot_place k ≡ at → ⊥
  place_else k other same = other (omega (arith, same))

  at_by : (k : ℕ) → (k ≡ j) ⊎ (k ≡ j → ⊥) → k < slots → mark_now (slot_place k) ≡ get_or (set marks j true) k false
  at_by k (inl here) less =
      ap (λ (i : ℕ). mark_now (slot_place i)) here ∙ mark_here ∙ sym set_here
      ∙ ap (λ (i : ℕ). get_or (set marks j true) i false) (sym here)
  at_by k (inr other) less = mark_else (slot_place k) (place_else k other) ∙ is.at k less ∙ sym (set_else k other)

  set_more : (k : ℕ) → (k ≡ j) ⊎ (k ≡ j → ⊥) → get_or marks k false ≡ true → get_or (set marks j true) k false ≡ true
  set_more k (inl here) before = ap (λ (i : ℕ). get_or (set marks j true) i false) here ∙ set_here
  set_more k (inr other) before = set_else k other ∙ before

  are_by : (place : ℕ) → (place ≡ at) ⊎ (place ≡ at → ⊥) → mark_now place ≡ true →
      (k : ℕ) × (k < slots) × (place ≡ slot_place k) × (get_or (set marks j true) k false ≡ true)
  are_by place (inl here) marked = (j, below, here, set_here)
  are_by place (inr other) marked =
      let one = is.are place (sym (mark_else place other) ∙ marked) in
      (one.0, one.1, one.2, set_more one.0 (cases_eq one.0 j) one.3)

  was_by : (k : ℕ) → (k ≡ j) ⊎ (k ≡ j → ⊥) → k < slots → get_or (set marks j true) k false ≡ true → Was k
  was_by k (inl here) less marked = subst Was (sym here) was
  was_by k (inr other) less marked = is.was k less (sym (set_else k other) ∙ marked)

  closed_by : (k : ℕ) → (k ≡ j) ⊎ (k ≡ j → ⊥) → k < slots → get_or (set marks j true) k false ≡ true →
      get_or now.now.bytes (slot_place k) 0 ≡ 0
  closed_by k (inl here) less marked =
      ap (λ (i : ℕ). get_or now.now.bytes (slot_place i) 0) here ∙ here_part t.now.bytes 0 0 at within
  closed_by k (inr other) less marked =
      else_part t.now.bytes 0 0 at (slot_place k) within (place_else k other)
      ∙ is.closed k less (sym (set_else k other) ∙ marked)

  same_by : (place : ℕ) → (place ≡ at) ⊎ (place ≡ at → ⊥) → mark_now place ≡ false →
      get_or now.now.bytes place 0 ≡ get_or old place 0
  same_by place (inl here) none =
      let both : mark_now at ≡ false = ap mark_now (sym here) ∙ none in absurd (grind (arith, both, mark_here))
  same_by place (inr other) none =
      else_part t.now.bytes 0 0 at place within other ∙ is.same place (sym (mark_else place other) ∙ none)

  pub one_shut : IsShutTo slots Was old (set marks j true) now
  one_shut = record {
    long = same_size ∙ is.long;
    settled = is.settled;
    inside = subst (λ (n : ℕ). AreIn n now.now.loose) (sym same_size) (omega (arith, within), is.inside);
    marked = length-set marks j true ∙ is.marked;
    at = λ k less. at_by k (cases_eq k j) less;
    are = λ place marked. are_by place (cases_eq place at) marked;
    was = λ k less marked. was_by k (cases_eq k j) less marked;
    closed = λ k less marked. closed_by k (cases_eq k j) less marked;
    same = λ place none. same_by place (cases_eq place at) none;
  }

-- the first m of those that are open, of slots of numbers in a row
pub shuts_marked : (slots number : ℕ) (Was : ℕ → Type 0) (old : List ℕ) (gates : List Bool) (m : ℕ) (marks : List Bool)
    (t : Story) → 1 ≤ slots → slot_place slots ≤ length old →
    ((p : ℕ) → p < length gates → get_or gates p false ≡ true → Was ((number + p) % slots)) →
    IsShutTo slots Was old marks t →
    IsShutTo slots Was old (shut_marks slots number gates m marks)
    (fold next_story t (take m (gate_shuts slots number gates)))
shuts_marked slots number Was old [] zero marks t some fits opened is = is
shuts_marked slots number Was old [] (suc m) marks t some fits opened is = is
shuts_marked slots number Was old (false ∷ gates) m marks t some fits opened is =
    shuts_marked slots (number + 1) Was old gates m marks t some fits (λ p below there.
    let next : number + suc p ≡ number + 1 + p = omega arith in
    subst (λ (x : ℕ). Was (x % slots)) next (opened (suc p) (omega (arith, below)) there)) is
shuts_marked slots number Was old (true ∷ gates) zero marks t some fits opened is = is
shuts_marked slots number Was old (true ∷ gates) (suc m) marks t some fits opened is =
    let here : number + 0 ≡ number = omega arith in
    shuts_marked slots (number + 1) Was old gates m (set marks (number % slots) true)
    (with_write (number_place slots number) (0 ∷ []) t) some fits (λ p below there.
    let next : number + suc p ≡ number + 1 + p = omega arith in
    subst (λ (x : ℕ). Was (x % slots)) next (opened (suc p) (omega (arith, below)) there))
    (one_shut slots Was old marks t (number % slots) (mod_below number slots (omega (arith, some))) fits is
    (subst (λ (x : ℕ). Was (x % slots)) here (opened 0 (omega arith) refl)))

-- ---- what a crash leaves of them

module _ (slots : ℕ) (Was : ℕ → Type 0) (old : List ℕ) (marks : List Bool) (t : Story) (choice : CutChoice)
    (is : IsShutTo slots Was old marks t) where
  abbrev present : List ℕ
  present = t.now.bytes

  abbrev loose : List Bool
  loose = marks_of (length present) t.now.loose

  abbrev image : List ℕ
  image = image_of choice t

  was_long : length (settled_bytes t) ≡ length present
  was_long = ap (length {A = ℕ}) is.settled ∙ sym is.long

  pub image_long : length image ≡ length old
  image_long = (image_is choice t is.inside was_long).long ∙ is.long

  image_at : (place : ℕ) → place < length present →
      get_or image place 0
      ≡ byte_left (get_or loose place false) (choice_at choice loose place) (get_or old place 0) (get_or present place 0)
  image_at place below =
      byte_at place choice loose (settled_bytes t) present (length-marks (length present) t.now.loose is.inside) was_long below
      ∙ ap (λ (bytes : List ℕ). byte_left (get_or loose place false) (choice_at choice loose place)
      (get_or bytes place 0) (get_or present place 0)) is.settled

  -- what isn't loose stays
  pub image_same : (place : ℕ) → get_or loose place false ≡ false → get_or image place 0 ≡ get_or old place 0
  image_same place none = by_place (cases_lt place (length present)) where
    by_place : (place < length present) ⊎ (length present ≤ place) → get_or image place 0 ≡ get_or old place 0
    by_place (inl below) =
        image_at place below
        ∙ ap (λ (b : Bool). byte_left b (choice_at choice loose place) (get_or old place 0) (get_or present place 0)) none
        ∙ is.same place none
    by_place (inr past) =
        get_or_past image place 0 (omega (arith, past, image_long, is.long))
        ∙ sym (get_or_past old place 0 (omega (arith, past, is.long)))

  pub not_loose : (place : ℕ) → ((k : ℕ) → k < slots → place ≡ slot_place k → Was k → ⊥) →
      get_or loose place false ≡ false
  not_loose place none = by_mark (get_or loose place false) refl where
    by_mark : (b : Bool) → get_or loose place false ≡ b → get_or loose place false ≡ false
    by_mark true marked =
        let one = is.are place marked in absurd (none one.0 one.1 one.2 (is.was one.0 one.1 one.3))
    by_mark false marked = marked

  -- ---- the choice at each gate

  quiet : (from n : ℕ) → ((place : ℕ) → from ≤ place → place < from + n → get_or loose place false ≡ false) →
      choice_at choice loose (from + n) ≡ choice_at choice loose from
  quiet from zero none = let same : from + 0 ≡ from = omega arith in ap (choice_at choice loose) same
  quiet from (suc n) none =
      let next : from + suc n ≡ suc (from + n) = omega arith in
      ap (choice_at choice loose) next
      ∙ choice_next choice loose (from + n)
      ∙ ap (λ (b : Bool). choice_left b (choice_at choice loose (from + n))) (none (from + n) (omega arith) (omega arith))
      ∙ quiet from n (λ place after to. none place after (omega (arith, to)))

  choice_there : (k : ℕ) → k ≤ slots → choice_at choice loose (slot_place k) ≡ choice_at choice marks k
  choice_there zero within =
      let place : slot_place 0 ≡ 0 + 4096 = omega arith in
      ap (choice_at choice loose) place
      ∙ quiet 0 4096 (λ p from to. not_loose p (λ k below same was. omega (arith, to, same)))
      ∙ choice_first choice loose ∙ sym (choice_first choice marks)
  choice_there (suc k) within =
      let next : slot_place (suc k) ≡ suc (slot_place k) + 4095 = omega arith in
      ap (choice_at choice loose) next
      ∙ quiet (suc (slot_place k)) 4095 (λ p from to. not_loose p (λ j below same was. omega (arith, from, to, same)))
      ∙ choice_next choice loose (slot_place k)
      ∙ ap (λ (b : Bool). choice_left b (choice_at choice loose (slot_place k))) (is.at k (omega (arith, within)))
      ∙ ap (choice_left (get_or marks k false)) (choice_there k (omega (arith, within)))
      ∙ sym (choice_next choice marks k)

  -- ---- so the gates are those of the choice

  module _ (fits : slot_place slots ≤ length old) (opened : (k : ℕ) → Was k → get_or old (slot_place k) 0 ≡ 90) where
    by_mark : (k : ℕ) → k < slots → (b : Bool) → get_or marks k false ≡ b →
        opens (get_or image (slot_place k) 0) ≡ gate_left b (choice_at choice marks k) (is_open (slot_in old k))
    by_mark k below true marked =
        let place = slot_place k in
        let here = choice_at choice marks k in
        ap opens (
        image_at place (omega (arith, below, fits, is.long))
        ∙ ap (λ (b : Bool). byte_left b (choice_at choice loose place) (get_or old place 0) (get_or present place 0))
        (is.at k below ∙ marked)
        ∙ ap (λ (c : CutChoice). chosen_byte c (get_or old place 0) (get_or present place 0))
        (choice_there k (omega (arith, below)))
        ∙ ap (λ (byte : ℕ). chosen_byte here byte (get_or present place 0)) (opened k (is.was k below marked))
        ∙ ap (λ (byte : ℕ). chosen_byte here 90 byte) (is.closed k below marked))
    by_mark k below false marked = ap opens (image_same (slot_place k) (is.at k below ∙ marked))

    gate_is : (k : ℕ) → k < slots →
        is_open (slot_in image k) ≡ get_or (gates_left choice marks (gates_below (slot_in old) slots)) k false
    gate_is k below =
        let gates = gates_below (slot_in old) slots in
        by_mark k below (get_or marks k false) refl
        ∙ ap (gate_left (get_or marks k false) (choice_at choice marks k)) (sym (gate_at (slot_in old) slots k below))
        ∙ sym (gate_of k choice marks gates (is.marked ∙ sym (length-gates (slot_in old) slots))
        (omega (arith, below, length-gates (slot_in old) slots)))

    pub gates_now : gates_below (slot_in image) slots ≡ gates_left choice marks (gates_below (slot_in old) slots)
    gates_now =
        let gates = gates_below (slot_in old) slots in
        ext_get_or false (gates_below (slot_in image) slots) (gates_left choice marks gates)
        (length-gates (slot_in image) slots
        ∙ sym (length-left choice marks gates (is.marked ∙ sym (length-gates (slot_in old) slots))
        ∙ length-gates (slot_in old) slots))
        (λ k within. let below : k < slots = omega (arith, within, length-gates (slot_in image) slots) in
        gate_at (slot_in image) slots k below ∙ gate_is k below)
