-- What the calls of a keeper come to, by what they found and wrote.
use Rattle.std.proofs.Common.{◌≡◌, refl, sym, ap, subst, ◌∙◌, ℕ, ◌-◌, ◌<◌, ◌≤◌, ◌⊎◌, inl, inr, true, false, is_some, nat_lt, List, [], ◌∷◌, length, Option, None, Some, if◌then◌else◌, arith}
use Rattle.std.proofs.lemmas.Bool.Decides.{nat_tests}
use Rattle.std.specs.FinMap.{contains_key, len}
use Rattle.std.specs.Option.{option_map, unwrap_or}
use Rattle.disk_base.specs.Calls.{DiskCall}
use Rattle.disk_base.specs.Disk.{TellsAsBefore}
use Rattle.disk_base.specs.Story.{Story}
use Rattle.disk_base.specs.Through.{EachImage}
use Rattle.disk_base.specs.declared.disk.Disk as disk
use Rattle.disk_base.specs.declared.disk.DiskAnswer.{DiskAnswer}
use Rattle.disk_base.specs.declared.disk.DiskAnswer.TheVariants.{Done, Failed}
use Rattle.disk_base.proofs.Moments.{only_now, starts}
use Rattle.disk_base.proofs.Told.{told_already}
use Rattle.gem_recipes.specs.Keeper.{IsOf, IsOldOrNew}
use Rattle.gem_recipes.specs.Recipes.{IsPpid, Recipes, after_put, has_space, most_body, put_answer, with_recipe}
use Rattle.gem_recipes.specs.declared.keeper.RecipePut.TheVariants as putting
use Rattle.recipe_disk.specs.Changes.{HasChanged, HasPut, HasWritten, HoldsEither, IsKept, PutsOn, Rests, put_writes, recipes_told}
use Rattle.recipe_disk.specs.File.{StandsFor, recipes_in}
use Rattle.recipe_disk.specs.Reading.{HasLooked, HasMade, IsAnyCall}
use Rattle.recipe_disk.specs.Slot.{slot_in, slot_place}
use Rattle.recipe_disk.specs.Survey.{IsSurvey, place_for}
use Rattle.recipe_disk.specs.declared.survey.Survey.{Survey}
use Rattle.recipe_disk.proofs.Made.{made_as, made_behind, made_none, made_settled}
use Rattle.recipe_disk.proofs.Putting.{Changes, put_changes, recipes_are}
use Rattle.recipe_disk.proofs.Stories.{at_last, same_story}
use Rattle.recipe_disk.proofs.Surveys.{HasPlace, free_there, has_place, next_is, no_place, replaces}

-- ---- what is told

some_recipes : (a b : Recipes) → Some a ≡ Some b → a ≡ b
some_recipes a b is = ap (λ (o : Option Recipes). unwrap_or o a) is

-- what is so of a told story is so of the recipes that are told
pub of_told : {A : Type 0} (told : Option Story) (asked : Recipes → A) (answer : A) → ((s : Story) → told ≡ Some s → asked (recipes_in s.now.bytes) ≡ answer) →
    IsOf (recipes_told told) asked answer
of_told None asked answer so recipes is = absurd cc
of_told (Some s) asked answer so recipes is =
    ap asked (sym (some_recipes (recipes_in s.now.bytes) recipes is)) ∙ so s refl

none_tells : (before after : Option Story) → TellsAsBefore before after → before ≡ None → after ≡ None
none_tells before None same none = refl
none_tells before (Some t) same none = absurd (grind (arith, same, ap (λ (o : Option Story). is_some o) none))

-- a file at rest stands for its recipes, whatever a crash leaves
pub rest_images : (slots : ℕ) (s : Story) → Rests slots s → EachImage (StandsFor slots (recipes_in s.now.bytes)) s.now
rest_images slots s rests image left =
    subst (StandsFor slots (recipes_in s.now.bytes)) (sym (only_now s.now image rests.settled left))
    (record { sound = rests.sound; slots_are = rests.slots_are; is = refl })

-- ---- nothing was changed

module _ {D : Type 0} (members : disk.Ghosts D) (slots : ℕ) (a b : D) (kept : IsKept members a slots) where
  pub unchanged : members.told b ≡ members.told a → (f : Recipes → Recipes) → HoldsEither slots (members.told a) (members.told b) f
  unchanged told f s is = (
    s,
    told ∙ is,
    starts s (λ image. StandsFor slots (recipes_in s.now.bytes) image ⊎ StandsFor slots (f (recipes_in s.now.bytes)) image)
        (λ image left. inl (rest_images slots s (kept.rests s is) image left)),
  )

  pub looked_kept : {answer : DiskAnswer} → HasLooked members a b answer → IsKept members b slots
  looked_kept looked = record {
    some = kept.some;
    most = kept.most;
    inside = subst (λ n. slot_place slots ≤ n) (sym looked.made.size) kept.inside;
    rests = λ t is. kept.rests t (sym looked.told ∙ is);
  }

  pub any_made : (Is : DiskCall → Type 0) (answer : DiskAnswer) → HasMade Is members a b answer → HasMade IsAnyCall members a b answer
  any_made Is answer made = made_as members Is IsAnyCall a b answer (λ call is. tt) made

-- ---- what was written

pub made_written : {D : Type 0} (members : disk.Ghosts D) (a b : D) (writes : List (ℕ × List ℕ)) (answer : DiskAnswer) → HasWritten members a b writes answer →
    HasMade IsAnyCall members a b answer
made_written members a b [] answer written =
    subst (λ d. HasMade IsAnyCall members a d answer) (sym written.0)
    (subst (λ (x : DiskAnswer). HasMade IsAnyCall members a a x) (sym written.1) (made_none members IsAnyCall a))
made_written members a b (write ∷ writes) answer (inl failed) =
    subst (λ (x : DiskAnswer). HasMade IsAnyCall members a b x) (sym failed.0)
    (made_settled members IsAnyCall write.0 write.1 a b Failed (λ x. tt) (λ x. tt) failed.1)
made_written members a b (write ∷ writes) answer (inr rest) =
    made_behind members IsAnyCall a rest.0 b answer
    (made_settled members IsAnyCall write.0 write.1 a rest.0 Done (λ x. tt) (λ x. tt) rest.1)
    (made_written members rest.0 b writes answer rest.2)

pub made_changed : {D : Type 0} (members : disk.Ghosts D) (a b : D) (writes : List (ℕ × List ℕ)) (answer : DiskAnswer) → HasChanged members a b writes answer →
    HasMade IsAnyCall members a b answer
made_changed members a b writes answer changed =
    made_behind members IsAnyCall a changed.0 b answer
    (made_as members _ IsAnyCall a changed.0 Done (λ call is. tt) changed.1.made)
    (made_written members changed.0 b writes answer changed.2)

-- ---- a change of the recipes

module _ {D : Type 0} (members : disk.Ghosts D) (slots : ℕ) (a b : D) (answer : DiskAnswer) (f : Recipes → Recipes) (kept : IsKept members a slots)
    (made : HasMade IsAnyCall members a b answer)
    (on : (s : Story) → members.told a ≡ Some s → Changes slots (f (recipes_in s.now.bytes)) s (members.told b) answer) where
  pub changed_images : HoldsEither slots (members.told a) (members.told b) f
  changed_images s is = let done = on s is in (done.0, done.1, done.2)

  abbrev Leaves : Option Story → Type 0
  Leaves before = recipes_told (members.told b) ≡ option_map f (recipes_told before)

  pub changed_done : answer ≡ Done → recipes_told (members.told b) ≡ option_map f (recipes_told (members.told a))
  changed_done is = by (members.told a) refl
    where
      by : (before : Option Story) → members.told a ≡ before → recipes_told (members.told b) ≡ option_map f (recipes_told before)
      by None none = ap recipes_told (none_tells (members.told a) (members.told b) made.same_disk.2 none)
      by (Some s) told =
          let done = on s told in
          ap recipes_told done.1 ∙ ap (λ (r : Recipes). Some r) (done.3 is).1

  pub changed_failed : IsOldOrNew (recipes_told (members.told a)) (option_map f (recipes_told (members.told a))) (recipes_told (members.told b))
  changed_failed = by (members.told a) refl
    where
      by : (before : Option Story) → members.told a ≡ before → IsOldOrNew (recipes_told before) (option_map f (recipes_told before)) (recipes_told (members.told b))
      by None none = inl (ap recipes_told (none_tells (members.told a) (members.told b) made.same_disk.2 none))
      by (Some s) told = left (on s told)
        where
          left : Changes slots (f (recipes_in s.now.bytes)) s (members.told b) answer →
              IsOldOrNew (Some (recipes_in s.now.bytes)) (Some (f (recipes_in s.now.bytes))) (recipes_told (members.told b))
          left done = either (at_last s done.0 (λ image. StandsFor slots (recipes_in s.now.bytes) image ⊎ StandsFor slots (f (recipes_in s.now.bytes)) image) done.2)
            where
              either : StandsFor slots (recipes_in s.now.bytes) done.0.now.bytes ⊎ StandsFor slots (f (recipes_in s.now.bytes)) done.0.now.bytes →
                  IsOldOrNew (Some (recipes_in s.now.bytes)) (Some (f (recipes_in s.now.bytes))) (recipes_told (members.told b))
              either (inl old) = inl (ap recipes_told done.1 ∙ ap (λ (r : Recipes). Some r) old.is)
              either (inr new) = inr (ap recipes_told done.1 ∙ ap (λ (r : Recipes). Some r) new.is)

  pub changed_kept : answer ≡ Done → IsKept members b slots
  changed_kept is = record {
    some = kept.some;
    most = kept.most;
    inside = subst (λ n. slot_place slots ≤ n) (sym made.size) kept.inside;
    rests = λ t told.
        let before = told_already (members.told a) (members.told b) t made.same_disk.2 told in
        let done = on before.0 before.1 in
        subst (Rests slots) (same_story done.0 t (sym done.1 ∙ told)) (done.3 is).0;
  }

-- ---- a put

answer_stored : (slots : ℕ) (name body : List ℕ) (R : Recipes) → length body ≤ most_body → has_space slots name R ≡ true → put_answer slots name body R ≡ putting.Stored
answer_stored slots name body R short space =
    let fits : nat_lt most_body (length body) ≡ false = grind (arith, nat_tests, short) in
    ap (λ b. if b then putting.TooLong else if has_space slots name R then putting.Stored else putting.NoSpace) fits
    ∙ ap (λ b. if b then putting.Stored else putting.NoSpace) space

answer_no_space : (slots : ℕ) (name body : List ℕ) (R : Recipes) → length body ≤ most_body → has_space slots name R ≡ false → put_answer slots name body R ≡ putting.NoSpace
answer_no_space slots name body R short space =
    let fits : nat_lt most_body (length body) ≡ false = grind (arith, nat_tests, short) in
    ap (λ b. if b then putting.TooLong else if has_space slots name R then putting.Stored else putting.NoSpace) fits
    ∙ ap (λ b. if b then putting.Stored else putting.NoSpace) space

after_stored : (slots : ℕ) (name body : List ℕ) (R : Recipes) → length body ≤ most_body → has_space slots name R ≡ true → with_recipe name body R ≡ after_put slots name body R
after_stored slots name body R short space =
    let fits : nat_lt most_body (length body) ≡ false = grind (arith, nat_tests, short) in
    sym (ap (λ b. if b then R else if has_space slots name R then with_recipe name body R else R) fits
    ∙ ap (λ b. if b then with_recipe name body R else R) space)

module _ {D : Type 0} (members : disk.Ghosts D) (slots : ℕ) (a : D) (name : List ℕ) (ppid : IsPpid name) (kept : IsKept members a slots) where
  pub put_too_long : (body : List ℕ) → most_body < length body → PutsOn members a a slots name body putting.TooLong
  put_too_long body long = record {
    answers = long;
    calls = refl;
    images = unchanged members slots a a kept refl (after_put slots name body);
    leaves = refl;
    kept = kept;
    made = made_none members IsAnyCall a;
  }

  pub put_not_looked : (b : D) (body : List ℕ) → HasLooked members a b Failed → PutsOn members a b slots name body putting.Failed
  put_not_looked b body looked = record {
    answers = tt;
    calls = inl looked;
    images = unchanged members slots a b kept looked.told (after_put slots name body);
    leaves = inl (ap recipes_told looked.told);
    kept = tt;
    made = any_made members slots a b kept _ Failed looked.made;
  }

  module _ (mid : D) (survey : Survey) (looked : HasLooked members a mid Done)
      (is : (s : Story) → members.told a ≡ Some s → IsSurvey (slot_in s.now.bytes) name slots survey) where
    pub no_room : (body : List ℕ) → length body ≤ most_body → place_for slots survey ≡ None → IsOf (recipes_told (members.told a)) (put_answer slots name body) putting.NoSpace
    no_room body short none =
        of_told (members.told a) (put_answer slots name body) putting.NoSpace
        (λ s told. answer_no_space slots name body (recipes_in s.now.bytes) short
        (no_place slots s (kept.rests s told) kept.some name survey (is s told) none))

    pub place_at : (p : ℕ) → place_for slots survey ≡ Some p → (s : Story) → members.told a ≡ Some s → HasPlace slots name (recipes_in s.now.bytes) survey p
    place_at p found s told = has_place slots s (kept.rests s told) kept.some name survey (is s told) p found

    pub some_room : (p : ℕ) (body : List ℕ) → length body ≤ most_body → place_for slots survey ≡ Some p →
        IsOf (recipes_told (members.told a)) (put_answer slots name body) putting.Stored
    some_room p body short found =
        of_told (members.told a) (put_answer slots name body) putting.Stored
        (λ s told. answer_stored slots name body (recipes_in s.now.bytes) short (place_at p found s told).space)

    pub put_no_space : (body : List ℕ) → length body ≤ most_body → place_for slots survey ≡ None → PutsOn members a mid slots name body putting.NoSpace
    put_no_space body short none = record {
      answers = (short, no_room body short none);
      calls = looked;
      images = unchanged members slots a mid kept looked.told (after_put slots name body);
      leaves = ap recipes_told looked.told;
      kept = looked_kept members slots a mid kept looked;
      made = any_made members slots a mid kept _ Done looked.made;
    }

    module _ (p : ℕ) (body : List ℕ) (short : length body ≤ most_body) (found : place_for slots survey ≡ Some p) (b : D) (answer : DiskAnswer)
        (written : HasWritten members mid b (put_writes p survey.found survey.next name body) answer) where
      stored_on : (s : Story) → members.told a ≡ Some s → Changes slots (with_recipe name body (recipes_in s.now.bytes)) s (members.told b) answer
      stored_on s told =
          let rests = kept.rests s told in
          let place = place_at p found s told in
          let free = free_there slots s rests kept.some name survey (is s told) p place.free in
          put_changes slots p survey.next name body s rests free.0 free.1 ppid short
          (next_is slots s rests kept.some name survey (is s told)) place.low
          (subst (λ (r : Recipes). contains_key r name ≡ false → len r < slots - 1) (sym (recipes_are slots s rests)) place.room)
          members mid b (looked.told ∙ told) answer survey.found (replaces slots s rests name survey.found (is s told).found) written

      put_on : (s : Story) → members.told a ≡ Some s → Changes slots (after_put slots name body (recipes_in s.now.bytes)) s (members.told b) answer
      put_on s told =
          subst (λ (r : Recipes). Changes slots r s (members.told b) answer)
          (after_stored slots name body (recipes_in s.now.bytes) short (place_at p found s told).space) (stored_on s told)

      put_made : HasMade IsAnyCall members a b answer
      put_made = made_changed members a b (put_writes p survey.found survey.next name body) answer (mid, looked, written)

      has_put : HasPut members a b slots name body answer
      has_put = record {
        slot = p;
        replaced = survey.found;
        number = survey.next;
        chosen = λ s told. record {
          free = sym (is s told).free ∙ (place_at p found s told).free;
          old_is = (is s told).found;
          number_is = next_is slots s (kept.rests s told) kept.some name survey (is s told);
        };
        changed = (mid, looked, written);
      }

    pub put_stored : (p : ℕ) (body : List ℕ) → length body ≤ most_body → place_for slots survey ≡ Some p → (b : D) →
        HasWritten members mid b (put_writes p survey.found survey.next name body) Done → PutsOn members a b slots name body putting.Stored
    put_stored p body short found b written = record {
      answers = (short, some_room p body short found);
      calls = has_put p body short found b Done written;
      images = changed_images members slots a b Done (after_put slots name body) kept (put_made p body short found b Done written) (put_on p body short found b Done written);
      leaves = changed_done members slots a b Done (with_recipe name body) kept (put_made p body short found b Done written) (stored_on p body short found b Done written) refl;
      kept = changed_kept members slots a b Done (with_recipe name body) kept (put_made p body short found b Done written) (stored_on p body short found b Done written) refl;
      made = put_made p body short found b Done written;
    }

    pub put_failed : (p : ℕ) (body : List ℕ) → length body ≤ most_body → place_for slots survey ≡ Some p → (b : D) →
        HasWritten members mid b (put_writes p survey.found survey.next name body) Failed → PutsOn members a b slots name body putting.Failed
    put_failed p body short found b written = record {
      answers = tt;
      calls = inr (has_put p body short found b Failed written);
      images = changed_images members slots a b Failed (after_put slots name body) kept (put_made p body short found b Failed written) (put_on p body short found b Failed written);
      leaves = changed_failed members slots a b Failed (after_put slots name body) kept (put_made p body short found b Failed written) (put_on p body short found b Failed written);
      kept = tt;
      made = put_made p body short found b Failed written;
    }
