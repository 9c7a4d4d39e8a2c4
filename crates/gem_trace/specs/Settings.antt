-- How S2F23 is answered: the first test that it doesn't pass decides.
use Rattle.std.specs.Prelude.{ℕ, ◌*◌, ◌==◌, ◌||◌, Bool, List, length, nat_le, nat_lt, is_none, Option, Some, None, if◌then◌else◌}
use Rattle.std.specs.List.{find}
use Rattle.gem_vars.specs.Tables.{VarsTable, value_in}
use Rattle.gem_trace.specs.declared.request.TraceRequest.{TraceRequest}
use Rattle.gem_trace.specs.declared.request.Tiaack.{Tiaack}
use Rattle.gem_trace.specs.declared.request.Tiaack.TheVariants as tiaack
use Rattle.gem_trace.specs.Period.{period_of}
use Rattle.gem_trace.specs.Traces.{Running, others}

-- the group is 0, or larger than the total, or makes an S6F1 of more than 4,096 values (this profile)
abbrev pub is_bad_group : TraceRequest → Bool
is_bad_group request =
    request.group == 0 || nat_lt request.total request.group || nat_lt 4096 (request.group * length request.svids)

-- the first of these that is no variable
abbrev pub first_unknown : VarsTable → List ℕ → Option ℕ
first_unknown vars svids = find (λ svid. is_none (value_in vars svid)) svids

-- whether 16 other traces run (this profile)
abbrev pub is_full_for : ℕ → List Running → Bool
is_full_for trid running = nat_le 16 (length (others trid running))

-- the answer where all variables are known, and else the first that isn't
abbrev pub answer_to_svids : Option ℕ → Bool → Tiaack
answer_to_svids (Some svid) is_full = tiaack.Unknown svid
answer_to_svids None is_full = if is_full then tiaack.NoMore else tiaack.Done

-- the answer to a request with a total and a period
abbrev pub answer_of : VarsTable → List Running → TraceRequest → Tiaack
answer_of vars running request =
    if is_bad_group request then tiaack.BadGroup
    else if nat_lt 256 (length request.svids) then tiaack.TooMany
    else answer_to_svids (first_unknown vars request.svids) (is_full_for request.trid running)

-- a total of 0 is taken whatever else the request says (SEMI E5, TIAACK; this profile)
abbrev pub tiaack_of : VarsTable → List Running → TraceRequest → Tiaack
tiaack_of vars running request =
    if request.total == 0 then tiaack.Done
    else if is_none (period_of request.dsper) then tiaack.BadPeriod
    else answer_of vars running request
