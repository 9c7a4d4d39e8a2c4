-- How far the calls of a step come: up to the planned one, or to the first for which there is no room, or all of them.
use Rattle.std.proofs.Common.{◌≡◌, ◌⊎◌, inl, inr, refl, sym, ap, subst, ◌∙◌, arith, zero, suc, ◌+◌, ◌-◌, ◌<◌, ◌≤◌, ◌==◌, ◌||◌}
use Rattle.std.proofs.Common.{nat_lt, Bool, true, false, ℕ, List, [], ◌∷◌, ◌++◌, length, Some, if◌then◌else◌}
use Rattle.std.proofs.lemmas.Bool.Decides.{nat_tests}
use Rattle.std.proofs.lemmas.List.Sums.{sum_by-cons}
use Rattle.std.specs.List.{sum_by}
use Rattle.disk_base.specs.Faults.{IsAmong}
use Rattle.message_end.specs.Ends.{Asked, Loss, Passing, Reach, call_of, lacks, passing, past_call}
use Rattle.message_end.specs.Ends.Passing.{Cuts, Lacks, Passes}

-- ---- one call

not-cut : (cut n : ℕ) (is : Bool) → (cut == 1) ≡ is → (IsAmong cut (suc n) → ⊥) → is ≡ false
not-cut cut n true e none = absurd (none (grind (arith, nat_tests, e), grind (arith, nat_tests, e)))
not-cut cut n false e none = refl

not-lacking : (room : Asked) (n : ℕ) (none less : Bool) → (room.calls == 0) ≡ none → nat_lt room.bytes n ≡ less
    → 1 ≤ room.calls → n ≤ room.bytes → (none || less) ≡ false
not-lacking room n true less e f calls bytes = absurd (grind (arith, nat_tests, e, calls))
not-lacking room n false true e f calls bytes = absurd (grind (arith, nat_tests, f, bytes))
not-lacking room n false false e f calls bytes = refl

lacking-by : (room : Asked) (n : ℕ) (none less : Bool) → (room.calls == 0) ≡ none → nat_lt room.bytes n ≡ less
    → (room.calls < 1) ⊎ (room.bytes < n) → (none || less) ≡ true
lacking-by room n true less e f short = refl
lacking-by room n false true e f short = refl
lacking-by room n false false e f (inl none) = absurd (grind (arith, nat_tests, e, none))
lacking-by room n false false e f (inr less) = absurd (grind (arith, nat_tests, f, less))

module _ {S : Type 0} where
  -- ---- where it stops

  abbrev IsAt : Passing S → Loss S → Type 0
  IsAt (Passes left) loss = ⊥
  IsAt (Cuts one) loss = one ≡ loss
  IsAt (Lacks one) loss = one ≡ loss

  abbrev Placed : List (Loss S) → Loss S → Type 0
  Placed losses loss = (call : ℕ) × (call_of call losses ≡ Some loss)

  placed-behind : (one loss : Loss S) (losses : List (Loss S)) → Placed losses loss → Placed (one ∷ losses) loss
  placed-behind one loss losses (zero, none) = absurd cc
  placed-behind one loss losses (suc n, is) = (suc (suc n), is)

  at-call : (losses : List (Loss S)) (reach : Reach) (loss : Loss S) → IsAt (passing reach losses) loss
      → Placed losses loss
  at-call [] reach loss at = absurd at
  at-call (one ∷ losses) reach loss at =
      go (at-call losses (past_call one.bytes reach) loss) (reach.cut == 1) (lacks reach.room one.bytes) at
    where
      go : (IsAt (passing (past_call one.bytes reach) losses) loss → Placed losses loss) → (cut lacking : Bool)
          → IsAt (if cut then Cuts one
          else if lacking then Lacks one
          else passing (past_call one.bytes reach) losses) loss
          → Placed (one ∷ losses) loss
      go more true lacking same = (suc zero, ap (λ (l : Loss S). Some l) same)
      go more false true same = (suc zero, ap (λ (l : Loss S). Some l) same)
      go more false false at = placed-behind one loss losses (more at)

  -- at one of its calls
  pub cut-place : (reach : Reach) (losses : List (Loss S)) (loss : Loss S) → passing reach losses ≡ Cuts loss
      → Placed losses loss
  cut-place reach losses loss is =
      at-call losses reach loss (subst (λ (passed : Passing S). IsAt passed loss) (sym is) refl)

  pub lack-place : (reach : Reach) (losses : List (Loss S)) (loss : Loss S) → passing reach losses ≡ Lacks loss
      → Placed losses loss
  lack-place reach losses loss is =
      at-call losses reach loss (subst (λ (passed : Passing S). IsAt passed loss) (sym is) refl)

  -- ---- by how many calls there are, and what they write

  abbrev pub written_by : List (Loss S) → ℕ
  written_by losses = sum_by (λ (loss : Loss S). loss.bytes) losses

  written-cons : (loss : Loss S) (losses : List (Loss S)) → written_by (loss ∷ losses) ≡ loss.bytes + written_by losses
  written-cons loss losses = sum_by-cons (λ (l : Loss S). l.bytes) loss losses

  -- behind these
  abbrev pub behind_all : Reach → List (Loss S) → Reach
  behind_all reach [] = reach
  behind_all reach (loss ∷ losses) = behind_all (past_call loss.bytes reach) losses

  -- none of them is planned, and there is room for them
  pub record AreMade (reach : Reach) (losses : List (Loss S)) : Type 0 where
    pub uncut : IsAmong reach.cut (length losses) → ⊥
    pub calls : length losses ≤ reach.room.calls
    pub bytes : written_by losses ≤ reach.room.bytes

  passed-by : (cut lacking : Bool) (loss : Loss S) (more : Passing S) → cut ≡ false → lacking ≡ false
      → (if cut then Cuts loss else if lacking then Lacks loss else more) ≡ more
  passed-by true lacking loss more uncut room = absurd cc
  passed-by false true loss more uncut room = absurd cc
  passed-by false false loss more uncut room = refl

  one-passed : (reach : Reach) (loss : Loss S) (losses : List (Loss S)) → (IsAmong reach.cut 1 → ⊥)
      → 1 ≤ reach.room.calls → loss.bytes ≤ reach.room.bytes
      → passing reach (loss ∷ losses) ≡ passing (past_call loss.bytes reach) losses
  one-passed reach loss losses uncut calls bytes =
      passed-by (reach.cut == 1) (lacks reach.room loss.bytes) loss (passing (past_call loss.bytes reach) losses)
      (not-cut reach.cut 0 (reach.cut == 1) refl uncut)
      (not-lacking reach.room loss.bytes (reach.room.calls == 0) (nat_lt reach.room.bytes loss.bytes) refl refl calls
      bytes)

  -- the first ones
  pub passes-first : (first rest : List (Loss S)) (reach : Reach) → AreMade reach first
      → passing reach (first ++ rest) ≡ passing (behind_all reach first) rest
  passes-first [] rest reach made = refl
  passes-first (loss ∷ first) rest reach made =
      let wrote = written-cons loss first in
      let calls = made.calls in
      let bytes = made.bytes in
      one-passed reach loss (first ++ rest) (λ among. made.uncut (among.0, let most = among.1 in omega (arith, most)))
      (omega (arith, calls)) (omega (arith, wrote, bytes))
      ∙ passes-first first rest (past_call loss.bytes reach) (record {
        uncut = λ among.
            let some = among.0 in let most = among.1 in made.uncut (omega (arith, some), omega (arith, some, most));
        calls = omega (arith, calls);
        bytes = omega (arith, wrote, bytes);
      })

  -- what is left behind them
  pub cut-behind : (losses : List (Loss S)) (reach : Reach) → (behind_all reach losses).cut ≡ reach.cut - length losses
  cut-behind [] reach = omega arith
  cut-behind (loss ∷ losses) reach =
      let more = cut-behind losses (past_call loss.bytes reach) in omega (arith, more)

  pub calls-behind : (losses : List (Loss S)) (reach : Reach)
      → (behind_all reach losses).room.calls ≡ reach.room.calls - length losses
  calls-behind [] reach = omega arith
  calls-behind (loss ∷ losses) reach =
      let more = calls-behind losses (past_call loss.bytes reach) in omega (arith, more)

  pub bytes-behind : (losses : List (Loss S)) (reach : Reach)
      → (behind_all reach losses).room.bytes ≡ reach.room.bytes - written_by losses
  bytes-behind [] reach = omega arith
  bytes-behind (loss ∷ losses) reach =
      let more = bytes-behind losses (past_call loss.bytes reach) in
      let wrote = written-cons loss losses in
      omega (arith, more, wrote)

  -- ---- all of them, or up to one

  pub passes-all : (losses : List (Loss S)) (reach : Reach) → AreMade reach losses
      → passing reach losses ≡ Passes (behind_all reach losses)
  passes-all [] reach made = refl
  passes-all (loss ∷ losses) reach made =
      let wrote = written-cons loss losses in
      let calls = made.calls in
      let bytes = made.bytes in
      one-passed reach loss losses (λ among. made.uncut (among.0, let most = among.1 in omega (arith, most)))
      (omega (arith, calls)) (omega (arith, wrote, bytes))
      ∙ passes-all losses (past_call loss.bytes reach) (record {
        uncut = λ among.
            let some = among.0 in let most = among.1 in made.uncut (omega (arith, some), omega (arith, some, most));
        calls = omega (arith, calls);
        bytes = omega (arith, wrote, bytes);
      })

  cut-now : (cut lacking : Bool) (loss : Loss S) (more : Passing S) → cut ≡ true
      → (if cut then Cuts loss else if lacking then Lacks loss else more) ≡ Cuts loss
  cut-now true lacking loss more is = refl
  cut-now false lacking loss more is = absurd cc

  lacks-now : (cut lacking : Bool) (loss : Loss S) (more : Passing S) → cut ≡ false → lacking ≡ true
      → (if cut then Cuts loss else if lacking then Lacks loss else more) ≡ Lacks loss
  lacks-now true lacking loss more uncut is = absurd cc
  lacks-now false true loss more uncut is = refl
  lacks-now false false loss more uncut is = absurd cc

  pub cuts-at : (first rest : List (Loss S)) (loss : Loss S) (reach : Reach) → AreMade reach first
      → reach.cut ≡ length first + 1 → passing reach (first ++ loss ∷ rest) ≡ Cuts loss
  cuts-at first rest loss reach made here =
      passes-first first (loss ∷ rest) reach made
      ∙ cut-now ((behind_all reach first).cut == 1) (lacks (behind_all reach first).room loss.bytes) loss
      (passing (past_call loss.bytes (behind_all reach first)) rest)
      (let one = cut-behind first reach in grind (arith, nat_tests, one, here))

  -- the room that is left behind the first ones doesn't do for the next one
  short-behind : (first : List (Loss S)) (n : ℕ) (reach : Reach) → AreMade reach first
      → (reach.room.calls < length first + 1) ⊎ (reach.room.bytes < written_by first + n)
      → ((behind_all reach first).room.calls < 1) ⊎ ((behind_all reach first).room.bytes < n)
  short-behind first n reach made (inl none) =
      let calls = calls-behind first reach in let most = made.calls in inl (omega (arith, none, calls, most))
  short-behind first n reach made (inr less) =
      let bytes = bytes-behind first reach in let most = made.bytes in inr (omega (arith, less, bytes, most))

  pub lacks-at : (first rest : List (Loss S)) (loss : Loss S) (reach : Reach) → AreMade reach first
      → (reach.cut ≡ length first + 1 → ⊥)
      → (reach.room.calls < length first + 1) ⊎ (reach.room.bytes < written_by first + loss.bytes)
      → passing reach (first ++ loss ∷ rest) ≡ Lacks loss
  lacks-at first rest loss reach made other short =
      passes-first first (loss ∷ rest) reach made
      ∙ lacks-now ((behind_all reach first).cut == 1) (lacks (behind_all reach first).room loss.bytes) loss
      (passing (past_call loss.bytes (behind_all reach first)) rest)
      (not-cut (behind_all reach first).cut 0 ((behind_all reach first).cut == 1) refl
      (λ among.
      let one = cut-behind first reach in let some = among.0 in let most = among.1 in
      other (omega (arith, one, some, most))))
      (lacking-by (behind_all reach first).room loss.bytes ((behind_all reach first).room.calls == 0)
      (nat_lt (behind_all reach first).room.bytes loss.bytes) refl refl (short-behind first loss.bytes reach made short))

  -- ---- where there is no room

  abbrev IsShortAt : Reach → List (Loss S) → Passing S → Type 0
  IsShortAt reach losses (Passes left) = Unit {0}
  IsShortAt reach losses (Cuts loss) = Unit {0}
  IsShortAt reach losses (Lacks loss) =
      (reach.room.calls < length losses) ⊎ (reach.room.bytes < written_by losses)

  short-at : (losses : List (Loss S)) (reach : Reach) → IsShortAt reach losses (passing reach losses)
  short-at [] reach = tt
  short-at (loss ∷ losses) reach =
      go (reach.cut == 1) (reach.room.calls == 0) (nat_lt reach.room.bytes loss.bytes) refl refl
      (passing (past_call loss.bytes reach) losses) (short-at losses (past_call loss.bytes reach))
    where
      go : (cut none less : Bool) → (reach.room.calls == 0) ≡ none → nat_lt reach.room.bytes loss.bytes ≡ less
          → (more : Passing S) → IsShortAt (past_call loss.bytes reach) losses more
          → IsShortAt reach (loss ∷ losses)
          (if cut then Cuts loss else if none || less then Lacks loss else more)
      go true none less e f more short = tt
      go false true less e f more short = inl (grind (arith, nat_tests, e))
      go false false true e f more short =
          let wrote = written-cons loss losses in
          let some : reach.room.bytes < loss.bytes = grind (arith, nat_tests, f) in
          inr (omega (arith, some, wrote))
      go false false false e f (Passes left) short = tt
      go false false false e f (Cuts one) short = tt
      go false false false e f (Lacks one) (inl calls) = inl (omega (arith, calls))
      go false false false e f (Lacks one) (inr bytes) =
          let wrote = written-cons loss losses in inr (omega (arith, bytes, wrote))

  -- all of them, together, ask for more than there is
  pub lacks-short : (reach : Reach) (losses : List (Loss S)) (loss : Loss S) → passing reach losses ≡ Lacks loss
      → (reach.room.calls < length losses) ⊎ (reach.room.bytes < written_by losses)
  lacks-short reach losses loss is = subst (IsShortAt reach losses) is (short-at losses reach)

  -- ---- where none is planned

  abbrev IsUncut : Passing S → Type 0
  IsUncut (Passes left) = Unit {0}
  IsUncut (Cuts loss) = ⊥
  IsUncut (Lacks loss) = Unit {0}

  uncut-at : (losses : List (Loss S)) (reach : Reach) → reach.cut ≡ 0 → IsUncut (passing reach losses)
  uncut-at [] reach none = tt
  uncut-at (loss ∷ losses) reach none =
      go (reach.cut == 1) refl (lacks reach.room loss.bytes) (passing (past_call loss.bytes reach) losses)
      (uncut-at losses (past_call loss.bytes reach) (omega (arith, none)))
    where
      go : (cut : Bool) → (reach.cut == 1) ≡ cut → (lacking : Bool) (more : Passing S) → IsUncut more
          → IsUncut (if cut then Cuts loss else if lacking then Lacks loss else more)
      go true e lacking more uncut = grind (arith, nat_tests, e, none)
      go false e true more uncut = tt
      go false e false more uncut = uncut

  pub never-cut : (reach : Reach) (losses : List (Loss S)) → reach.cut ≡ 0 → (loss : Loss S)
      → passing reach losses ≡ Cuts loss → ⊥
  never-cut reach losses none loss is = subst IsUncut is (uncut-at losses reach none)
