-- The transactions of one side: the primaries that it has begun and that have not ended.
use Rattle.std.specs.Prelude.{◌≡◌, ◌≢◌, ℕ, Bool, false, ◌≤◌, ◌==◌, nat_le, List, [], ◌∷◌, ◌++◌, length, set, All, Result, Ok, Err, Option, Some, None, if◌then◌else◌}
use Rattle.std.specs.List.{AllPairs, find, list_any, position, position_or_len, remove}
use Rattle.block_codec.specs.Header.{Fits}
use Rattle.block_codec.specs.declared.header.Header.{Header}
use Rattle.transact.specs.declared.begun.Begun.{Begun}
use Rattle.transact.specs.declared.transactions.Beginning.{Beginning}
use Rattle.transact.specs.declared.transactions.Beginning.TheVariants.{Full, NoMemory, Same}
use Rattle.transact.specs.declared.transactions.Match.{Match}
use Rattle.transact.specs.declared.transactions.Match.TheVariants.{Abort, Reply, Stranger}
use Rattle.transact.specs.Matching.{AwaitsReply, matches}

-- T3, and the primaries in the order in which they were begun
pub record TransactionsView (K : Type 0) : Type 0 where
  pub t3 : ℕ
  pub begun : List (Begun K)

abbrev pub system_of : {K : Type 0} → Begun K → ℕ
system_of begun = begun.header.system

-- its primary awaits a reply
abbrev pub IsOpen : {K : Type 0} → Begun K → Type 0
IsOpen begun = AwaitsReply begun.header

-- two have different system bytes
abbrev pub AreApart : {K : Type 0} → Begun K → Begun K → Type 0
AreApart one other = system_of one ≢ system_of other

-- at most 64 are open (this profile), each of a primary that awaits a reply, and no two with the same system bytes
-- (SEMI E5, system bytes)
pub record IsTransactions {K : Type 0} (transactions : TransactionsView K) : Type 0 where
  pub few : length transactions.begun ≤ 64
  pub primaries : All IsOpen transactions.begun
  pub distinct : AllPairs AreApart transactions.begun

-- a transaction has these system bytes
abbrev pub has_system : {K : Type 0} → ℕ → Begun K → Bool
has_system system begun = begun.header.system == system

-- a header is of an answer to a transaction's primary
abbrev pub is_answered_by : {K : Type 0} → Header → Begun K → Bool
is_answered_by header begun = matches begun.header header

-- T3 has run out on a transaction at this moment (SEMI E4, T3)
abbrev pub has_come : ℕ → Option ℕ → Bool
has_come now None = false
has_come now (Some deadline) = nat_le deadline now

abbrev pub is_due : {K : Type 0} → ℕ → Begun K → Bool
is_due now begun = has_come now begun.deadline

-- a transaction begins; T3 does not run before its last block is sent (SEMI E4, T3)
abbrev pub new_begun : {K : Type 0} → Header → K → Begun K
new_begun header kind = record { header = header; kind = kind; deadline = None }

-- why a primary begins no transaction, the first that holds: one with its system bytes is open, 64 are open (this
-- profile)
abbrev pub refusal_of : {K : Type 0} → TransactionsView K → Header → Option Beginning
refusal_of transactions header =
    if list_any (has_system header.system) transactions.begun then Some (Same header.system)
    else if nat_le 64 (length transactions.begun) then Some Full
    else None

-- a refusal is the first cause, and where there is none memory alone may be wanting
abbrev pub BeginAnswer : {K : Type 0} → TransactionsView K → Header → Result (Unit {0}) Beginning → Type 0
BeginAnswer transactions header (Ok done) = refusal_of transactions header ≡ None
BeginAnswer transactions header (Err NoMemory) = refusal_of transactions header ≡ None
BeginAnswer transactions header (Err Full) = refusal_of transactions header ≡ Some Full
BeginAnswer transactions header (Err (Same system)) = refusal_of transactions header ≡ Some (Same system)

-- a primary's transaction is the last
abbrev pub with_primary : {K : Type 0} → Header → K → TransactionsView K → TransactionsView K
with_primary header kind t = record t { begun = t.begun ++ new_begun header kind ∷ [] }

-- the first transaction that passes has this deadline, or none
abbrev pub with_found : {K : Type 0} → Option (Begun K) → ℕ → Option ℕ → List (Begun K) → List (Begun K)
with_found None place deadline begun = begun
with_found (Some found) place deadline begun = set begun place (record found { deadline = deadline })

abbrev pub with_deadline : {K : Type 0} → (Begun K → Bool) → Option ℕ → TransactionsView K → TransactionsView K
with_deadline test deadline t =
    record t { begun = with_found (find test t.begun) (position_or_len test t.begun) deadline t.begun }

-- the first transaction that passes is no more there
abbrev pub without_first : {K : Type 0} → (Begun K → Bool) → TransactionsView K → TransactionsView K
without_first test t = record t { begun = remove t.begun (position_or_len test t.begun) }

-- this holds of each test whose first transaction stands at the place
abbrev pub AtFirst : {K : Type 0} → List (Begun K) → Option ℕ → ((Begun K → Bool) → Type 0) → Type 0
AtFirst {K} begun place P = (test : Begun K → Bool) → place ≡ position test begun → P test

-- what a header's message is to the transaction that it answers: function 0 is an abort (SEMI E5, function)
abbrev pub match_of : {K : Type 0} → Header → Option (Begun K) → Match K
match_of header None = Stranger
match_of header (Some begun) = if header.function == 0 then Abort begun.kind else Reply begun.kind

-- the primary's header, and its kind
abbrev pub primary_of : {K : Type 0} → Begun K → Header × K
primary_of begun = (begun.header, begun.kind)

-- the header of a primary that is handed out fits
abbrev pub PrimaryFits : {K : Type 0} → Option (Header × K) → Type 0
PrimaryFits None = Unit {0}
PrimaryFits (Some primary) = Fits primary.0

abbrev pub kind_of : {K : Type 0} → Begun K → K
kind_of begun = begun.kind

abbrev pub deadline_of : {K : Type 0} → Begun K → Option ℕ
deadline_of begun = begun.deadline
