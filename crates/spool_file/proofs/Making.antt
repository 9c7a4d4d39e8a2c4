-- Calls of a disk in a row: some and then more.
use Rattle.std.proofs.Common.{◌≡◌, inl, inr, ℕ, ◌+◌, ◌<◌, List, [], ◌∷◌, ◌++◌, length, length-append, Option}
use Rattle.std.proofs.Common.{◌∙◌, refl, sym, ap, subst, arith}
use Rattle.disk_base.specs.Calls.{DiskCall, with_call}
use Rattle.disk_base.specs.Faults.{DiskHealth, HasCause, IsLeftOut}
use Rattle.disk_base.specs.declared.disk.DiskAnswer.{DiskAnswer}
use Rattle.disk_base.specs.declared.disk.DiskAnswer.TheVariants.{Done, Failed}
use Rattle.disk_base.proofs.Stretches.{cause_behind, fault_wider, left_out_behind, logs_wider, used_none}
use Rattle.spool_file.specs.Logs.{LogsAll, MakesAll, answered, written_by}

pub written_both : (xs ys : List DiskCall) → written_by (xs ++ ys) ≡ written_by xs + written_by ys
written_both [] ys = omega arith
written_both (x ∷ xs) ys = let more = written_both xs ys in omega (arith, more)

-- ---- in the list

-- for another want
all_wider : (calls : List DiskCall) (C E : ℕ → ℕ → Type 0) (before after : Option (List DiskCall)) →
    ((made n : ℕ) → C made n → E made n) → LogsAll calls C before after Failed → LogsAll calls E before after Failed
all_wider [] C E before after more none = absurd none
all_wider (call ∷ calls) C E before after more (inl is) =
    inl (logs_wider (answered call) (C 0 (length call.bytes)) (E 0 (length call.bytes)) before after
    (more 0 (length call.bytes)) is)
all_wider (call ∷ calls) C E before after more (inr is) =
    inr (all_wider calls (λ made n. C (1 + made) (length call.bytes + n))
    (λ made n. E (1 + made) (length call.bytes + n)) (with_call call before) after
    (λ made n. more (1 + made) (length call.bytes + n)) is)

done_then : (xs ys : List DiskCall) (C F E : ℕ → ℕ → Type 0) (before mid after : Option (List DiskCall)) →
    LogsAll xs C before mid Done → LogsAll ys F mid after Done → LogsAll (xs ++ ys) E before after Done
done_then [] [] C F E before mid after same logs = logs ∙ same
done_then [] (y ∷ ys) C F E before mid after same logs =
    done_then [] ys C F E (with_call y before) (with_call y mid) after (ap (with_call y) same) logs
done_then (x ∷ xs) ys C F E before mid after first second =
    done_then xs ys C F E (with_call x before) mid after first second

pub failed_then : (xs ys : List DiskCall) (C F E : ℕ → ℕ → Type 0) (before mid after : Option (List DiskCall)) →
    ((made n all both : ℕ) → all ≡ length xs + made → both ≡ written_by xs + n → F made n → E all both) →
    LogsAll xs C before mid Done → LogsAll ys F mid after Failed → LogsAll (xs ++ ys) E before after Failed
failed_then [] ys C F E before mid after more same logs =
    subst (λ (told : Option (List DiskCall)). LogsAll ys E told after Failed) same
    (all_wider ys F E mid after (λ made n. more made n made n (omega arith) (omega arith)) logs)
failed_then (x ∷ xs) ys C F E before mid after more first second =
    inr (failed_then xs ys C F (λ made n. E (1 + made) (length x.bytes + n)) (with_call x before) mid after
    (λ made n all both is_all is_both.
    more made n (1 + all) (length x.bytes + both) (omega (arith, is_all)) (omega (arith, is_both))) first second)

pub failed_before : (xs ys : List DiskCall) (C : ℕ → ℕ → Type 0) (before after : Option (List DiskCall)) →
    LogsAll xs C before after Failed → LogsAll (xs ++ ys) C before after Failed
failed_before [] ys C before after none = absurd none
failed_before (x ∷ xs) ys C before after (inl is) = inl is
failed_before (x ∷ xs) ys C before after (inr is) =
    inr (failed_before xs ys (λ made n. C (1 + made) (length x.bytes + n)) (with_call x before) after is)

-- ---- with what they count

pub makes_none : (a : DiskHealth) (told : Option (List DiskCall)) → MakesAll a a told told [] Done
makes_none a told = record { cause = used_none a; logs = refl }

module _ (a b c : DiskHealth) (before mid after : Option (List DiskCall)) where
  -- all of some, and then more
  pub makes_then : (xs ys : List DiskCall) (answer : DiskAnswer) → MakesAll a b before mid xs Done →
      MakesAll b c mid after ys answer → MakesAll a c before after (xs ++ ys) answer
  makes_then xs ys answer one two = record {
    cause = cause_behind a b (length xs) (written_by xs) one.cause c (length ys) (written_by ys) (length (xs ++ ys))
        (written_by (xs ++ ys)) (b.room < written_by ys) (a.room < written_by (xs ++ ys)) answer (sym long) (sym wrote)
        (λ less. let left = one.cause.room_left in omega (arith, less, left, wrote)) two.cause;
    logs = logged answer two.logs;
  }
    where
      long : length (xs ++ ys) ≡ length xs + length ys
      long = length-append xs ys

      wrote : written_by (xs ++ ys) ≡ written_by xs + written_by ys
      wrote = written_both xs ys

      logged : (said : DiskAnswer) → LogsAll ys (IsLeftOut b c) mid after said →
          LogsAll (xs ++ ys) (IsLeftOut a c) before after said
      logged Done logs = done_then xs ys (IsLeftOut a b) (IsLeftOut b c) (IsLeftOut a c) before mid after one.logs logs
      logged Failed logs =
          failed_then xs ys (IsLeftOut a b) (IsLeftOut b c) (IsLeftOut a c) before mid after
          (λ made n all both is_all is_both is.
          left_out_behind a b (length xs) (written_by xs) one.cause c made n all both (sym is_all)
          (omega (arith, is_both)) is) one.logs logs

module _ (a c : DiskHealth) (before after : Option (List DiskCall)) where
  -- one of some, whatever was to come behind them
  pub makes_before : (xs ys : List DiskCall) → MakesAll a c before after xs Failed →
      MakesAll a c before after (xs ++ ys) Failed
  makes_before xs ys one =
      let long = length-append xs ys in let wrote = written_both xs ys in record {
        cause = fault_wider a c (length xs) (length (xs ++ ys)) (a.room < written_by xs)
            (a.room < written_by (xs ++ ys))
            (omega (arith, long)) (λ less. omega (arith, less, wrote)) one.cause;
        logs = failed_before xs ys (IsLeftOut a c) before after one.logs;
      }

  -- with their numbers said otherwise
  pub makes_as : (calls : List DiskCall) (answer : DiskAnswer) (k n : ℕ) → k ≡ length calls → n ≡ written_by calls →
      HasCause a c k n (a.room < n) answer → LogsAll calls (IsLeftOut a c) before after answer →
      MakesAll a c before after calls answer
  makes_as calls answer k n long wrote cause logs = record {
    cause = subst (λ (m : ℕ). HasCause a c m (written_by calls) (a.room < written_by calls) answer) long
        (subst (λ (m : ℕ). HasCause a c k m (a.room < m) answer) wrote cause);
    logs = logs;
  }
