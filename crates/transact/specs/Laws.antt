-- What holds of all calls.
use Rattle.std.specs.Prelude.{◌≡◌, ℕ, ◌+◌, List, [], ◌++◌, fold, map, replicate, Some, None}
use Rattle.std.specs.List.{range_with_len}
use Rattle.transact.specs.History.{Call, after_call, begun_and_not_ended, events_of}
use Rattle.transact.specs.Numbers.{draws, numbers_from}
use Rattle.transact.specs.Transactions.{TransactionsView}

abbrev pub no_transactions : {K : Type 0} → ℕ → TransactionsView K
no_transactions t3 = record { t3 = t3; begun = [] }

-- after any calls the open transactions are those that have begun and not ended, in their order, each with its T3
-- (SEMI E5, transaction)
abbrev pub OpenAreBegunAndNotEnded : Type 0 → Type 0
OpenAreBegunAndNotEnded K =
    (t3 : ℕ) (calls : List (Call K))
    → (fold after_call (no_transactions t3) calls).begun ≡ begun_and_not_ended t3 (events_of (no_transactions t3) calls)

-- so many draws give each number once, from the first on, and every further draw gives none (SEMI E5, system bytes)
abbrev pub NumbersComeOnce : Type 0
NumbersComeOnce =
    (first count more : ℕ)
    → draws (numbers_from first count) (count + more)
    ≡ map (λ number. Some number) (range_with_len first count) ++ replicate more None
