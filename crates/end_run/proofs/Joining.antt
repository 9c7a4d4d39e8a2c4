-- Acts one after another, and what link, output and end have of them.
use Rattle.std.proofs.Common.{◌≡◌, ◌⊎◌, inl, inr, ℕ, ◌+◌, List, [], ◌∷◌, ◌++◌, length, take, Option, Some, None, refl, sym, ap, subst, ◌∙◌, append_assoc, append-nil, arith, length-append}
use Rattle.gl_base.specs.Faults.{one_more}
use Rattle.gl_base.specs.Link.{IsCarriedOn, LinkContents, LinkFault, LinkHealth}
use Rattle.gl_base.specs.Sending.{WroteText}
use Rattle.gl_base.specs.Sink.{IsWrittenOn, SinkHealth, WriteFault, with_bytes}
use Rattle.gl_base.specs.declared.link.LinkEntry.{LinkEntry}
use Rattle.gl_base.specs.declared.link.LinkIn.{LinkIn}
use Rattle.gl_base.proofs.Appending.{wrote_both, wrote_nothing}
use Rattle.message_end.specs.Ends.{Asked, IsLeft as LeavesRoom, IsShort, asked_both, none_asked}
use Rattle.trace_log.specs.Log.{Entry}
use Rattle.trace_log.specs.Text.{text_of}
use Rattle.end_run.specs.declared.ending.Ending.{Ending}
use Rattle.end_run.specs.Acts.{Act, StepAt, AreTimely, asked_by, end_by, end_with, lines_of, list_of, listed, moment_by, moment_with, taken, taken_of, written_in}
use Rattle.end_run.specs.Acts.Act.{Connects, Polls, Sends, Stands, Writes}
use Rattle.end_run.specs.Outcome.{Did, DiskFails, GoesOn, HasListed, IsLeft, IsSpent, LacksMemory, LinkFails, Linked, Lists, Made, MadePart, PutsLast, WriteFails}
use Rattle.end_run.specs.Scenes.{Scene, StopAt, written}
use Rattle.end_run.specs.Steps.{spent_for}

-- ---- lists of acts

pub list_of-append : {S C : Type 0} (first second : List (Act S C))
    → list_of (first ++ second) ≡ list_of first ++ list_of second
list_of-append [] second = refl
list_of-append (act ∷ first) second =
    ap (λ (es : List LinkEntry). listed act ++ es) (list_of-append first second)
    ∙ sym (append_assoc (listed act) (list_of first) (list_of second))

pub taken_of-append : {S C : Type 0} (first second : List (Act S C))
    → taken_of (first ++ second) ≡ taken_of first ++ taken_of second
taken_of-append [] second = refl
taken_of-append (act ∷ first) second =
    ap (λ (answers : List LinkIn). taken act ++ answers) (taken_of-append first second)
    ∙ sym (append_assoc (taken act) (taken_of first) (taken_of second))

pub lines_of-append : {S C : Type 0} (first second : List (Act S C))
    → lines_of (first ++ second) ≡ lines_of first ++ lines_of second
lines_of-append [] second = refl
lines_of-append (act ∷ first) second =
    ap (λ (text : List ℕ). written_in act ++ text) (lines_of-append first second)
    ∙ sym (append_assoc (written_in act) (lines_of first) (lines_of second))

list-length : {S C : Type 0} (first second : List (Act S C)) → length (list_of (first ++ second))
    ≡ length (list_of first) + length (list_of second)
list-length first second = ap length (list_of-append first second) ∙ length-append (list_of first) (list_of second)

-- ---- the link's clock

moment_by-append : {S C : Type 0} (before : ℕ) (first second : List (Act S C))
    → moment_by before (first ++ second) ≡ moment_by (moment_by before first) second
moment_by-append before [] second = refl
moment_by-append before (act ∷ first) second = moment_by-append (moment_with before act) first second

timely_both : {S C : Type 0} (before mid : ℕ) (first second : List (Act S C)) → mid ≡ moment_by before first
    → AreTimely before first → AreTimely mid second → AreTimely before (first ++ second)
timely_both before mid [] second is one two = subst (λ (m : ℕ). AreTimely m second) is two
timely_both before mid (act ∷ first) second is one two =
    (one.0, timely_both (moment_with before act) mid first second is one.1 two)

-- ---- the end

left_on : {S C : Type 0} (acts : List (Act S C)) (before : Option S) (mid now : S) → IsLeft before mid
    → IsLeft (end_by (Some mid) acts) now → IsLeft (end_by before acts) now
left_on [] None mid now is more = absurd is
left_on [] (Some before) mid now is more = more ∙ is
left_on (Stands at stops asked end ∷ acts) before mid now is more = more
left_on (Connects ∷ acts) before mid now is more = left_on acts before mid now is more
left_on (Polls until answer early ∷ acts) before mid now is more = left_on acts before mid now is more
left_on (Writes entries text ∷ acts) before mid now is more = left_on acts before mid now is more
left_on (Sends characters ∷ acts) before mid now is more = left_on acts before mid now is more

end_by-append : {S C : Type 0} (before : Option S) (first second : List (Act S C))
    → end_by before (first ++ second) ≡ end_by (end_by before first) second
end_by-append before [] second = refl
end_by-append before (act ∷ first) second = end_by-append (end_with before act) first second

pub left_both : {S C : Type 0} (before mid now : S) (first second : List (Act S C))
    → IsLeft (end_by (Some before) first) mid
    → IsLeft (end_by (Some mid) second) now → IsLeft (end_by (Some before) (first ++ second)) now
left_both {S} {C} before mid now first second one two =
    subst (λ (left : Option S). IsLeft left now) (sym (end_by-append (Some before) first second))
    (left_on second (end_by (Some before) first) mid now one two)

-- ---- its disk

asked-calls : {S C : Type 0} (first second : List (Act S C))
    → (asked_by (first ++ second)).calls ≡ (asked_by first).calls + (asked_by second).calls
asked-calls [] second = omega arith
asked-calls (act ∷ first) second =
    let more = asked-calls first second in omega (arith, more)

asked-bytes : {S C : Type 0} (first second : List (Act S C))
    → (asked_by (first ++ second)).bytes ≡ (asked_by first).bytes + (asked_by second).bytes
asked-bytes [] second = omega arith
asked-bytes (act ∷ first) second =
    let more = asked-bytes first second in omega (arith, more)

pub room_none : (room : Asked) → LeavesRoom room none_asked room
room_none room = record { calls = omega arith; bytes = omega arith }

room_both : {S C : Type 0} (a b c : Asked) (first second : List (Act S C)) → LeavesRoom a (asked_by first) b
    → LeavesRoom b (asked_by second) c → LeavesRoom a (asked_by (first ++ second)) c
room_both a b c first second one two =
    let calls = asked-calls first second in
    let bytes = asked-bytes first second in
    record { calls = omega (arith, calls, one.calls, two.calls); bytes = omega (arith, bytes, one.bytes, two.bytes) }

short_both : {S C : Type 0} (a b asked : Asked) (first second : List (Act S C)) → LeavesRoom a (asked_by first) b
    → IsShort b (asked_both (asked_by second) asked) → IsShort a (asked_both (asked_by (first ++ second)) asked)
short_both a b asked first second one (inl few) =
    let calls = asked-calls first second in inl (omega (arith, calls, one.calls, few))
short_both a b asked first second one (inr few) =
    let bytes = asked-bytes first second in inr (omega (arith, bytes, one.bytes, few))

-- ---- what a link lists

listed_both :
    {S C : Type 0} (a b c : LinkContents) (first second : List (Act S C)) → HasListed a first b → HasListed b second c
    → HasListed a (first ++ second) c
listed_both a b c first second one two = record {
  entries = two.entries ∙ ap (λ (es : List LinkEntry). es ++ list_of second) one.entries
      ∙ append_assoc a.entries (list_of first) (list_of second)
      ∙ ap (λ (es : List LinkEntry). a.entries ++ es) (sym (list_of-append first second));
  left = one.left ∙ ap (λ (answers : List LinkIn). taken_of first ++ answers) two.left
      ∙ sym (append_assoc (taken_of first) (taken_of second) c.left)
      ∙ ap (λ (answers : List LinkIn). answers ++ c.left) (sym (taken_of-append first second));
}

lists_both :
    {S C : Type 0} (a b c : Option LinkContents) (first second : List (Act S C)) → Lists a first b → Lists b second c
    → Lists a (first ++ second) c
lists_both None None c first second one two = two
lists_both None (Some b) c first second one two = absurd (cc)
lists_both (Some a) None c first second one two = absurd one
lists_both (Some a) (Some b) None first second one two = absurd two
lists_both (Some a) (Some b) (Some c) first second one two = listed_both a b c first second one two

-- acts that a link lists nothing of, and that take nothing from it
pub lists_still : {S C : Type 0} (a b : Option LinkContents) (acts : List (Act S C)) → list_of acts ≡ []
    → taken_of acts ≡ []
    → b ≡ a → Lists a acts b
lists_still {S} {C} a b acts none no_answer is = subst (λ (after : Option LinkContents). Lists a acts after)
    (sym is) (go a)
  where
    go : (a : Option LinkContents) → Lists a acts a
    go None = refl
    go (Some a) = record {
      entries = sym (ap (λ (es : List LinkEntry). a.entries ++ es) none ∙ append-nil a.entries);
      left = sym (ap (λ (answers : List LinkIn). answers ++ a.left) no_answer);
    }

-- ---- what is counted

pub carried_none : (a : LinkHealth) → IsCarriedOn a a 0
carried_none a = record { same = refl; relied = λ is. is; used = omega arith }

carried_both :
    (a b c : LinkHealth) (m n k : ℕ) → k ≡ m + n → IsCarriedOn a b m → IsCarriedOn b c n → IsCarriedOn a c k
carried_both a b c m n k sum one two = record {
  same = two.same ∙ one.same;
  relied = λ is. two.relied (one.relied is);
  used = omega (arith, one.used, two.used, sum);
}

fault_behind :
    (a b c : LinkHealth) (m n k : ℕ) → k ≡ m + n → IsCarriedOn a b m → LinkFault b c n → LinkFault a c k
fault_behind a b c m n k sum one two = record {
  rose = record {
    by_one = two.rose.by_one ∙ ap (λ f. one_more f) one.same;
    later = omega (arith, one.same, two.rose.later);
  };
  lacking = λ is. let less = two.lacking (one.relied is) in omega (arith, one.used, less, sum);
  relied = λ is. two.relied (one.relied is);
}

write_fault_behind :
    (a b c : SinkHealth) (m n k : ℕ) → k ≡ m + n → IsWrittenOn a b m → WriteFault b c n → WriteFault a c k
write_fault_behind a b c m n k sum one two = record {
  rose = record {
    by_one = two.rose.by_one ∙ ap (λ f. one_more f) one.same;
    later = omega (arith, one.same, two.rose.later);
  };
  crowded = omega (arith, one.used, two.crowded, sum);
}

-- ---- acts that were done, and what came of more

wrote_behind : {S C : Type 0} (a b c : Scene S C) (first more : List (Act S C))
    → WroteText (written a b) (lines_of first)
    → WroteText (written b c) (lines_of more) → WroteText (written a c) (lines_of (first ++ more))
wrote_behind a b c first more one two =
    subst (λ (t : List ℕ). WroteText (written a c) t) (sym (lines_of-append first more))
    (wrote_both (lines_of first) (lines_of more) one two)

with_both : (was : Option (List ℕ)) (s t : List ℕ) → with_bytes (with_bytes was s) t ≡ with_bytes was (s ++ t)
with_both None s t = refl
with_both (Some was) s t = ap Some (append_assoc was s t)

written-length : {S C : Type 0} (first done : List (Act S C)) (text : List ℕ)
    → length (lines_of (first ++ done) ++ text) ≡ length (lines_of first) + length (lines_of done ++ text)
written-length first done text =
    ap (λ (t : List ℕ). length (t ++ text)) (lines_of-append first done)
    ∙ ap length (append_assoc (lines_of first) (lines_of done) text)
    ∙ length-append (lines_of first) (lines_of done ++ text)

-- the same of a text that was put as far as could be
put_behind : {S C : Type 0} (a b c : Scene S C) (first done : List (Act S C)) (text : List ℕ)
    → WroteText (written a b) (lines_of first) → PutsLast b c (lines_of done) text
    → PutsLast a c (lines_of (first ++ done)) text
put_behind a b c first done text one (inl all) =
    inl (subst (λ (t : List ℕ). WroteText (written a c) t)
    (sym (append_assoc (lines_of first) (lines_of done) text)
    ∙ ap (λ (t : List ℕ). t ++ text) (sym (lines_of-append first done)))
    (wrote_both (lines_of first) (lines_of done ++ text) one all))
put_behind a b c first done text one (inr (inl short)) = inr (inl (record {
  count = short.count;
  short = short.short;
  received =
      short.received
      ∙ ap (λ (r : Option (List ℕ)). with_bytes r (lines_of done ++ take short.count text)) one.received
      ∙ with_both a.received (lines_of first) (lines_of done ++ take short.count text)
      ∙ ap (λ (t : List ℕ). with_bytes a.received t)
      (sym (append_assoc (lines_of first) (lines_of done) (take short.count text))
      ∙ ap (λ (t : List ℕ). t ++ take short.count text) (sym (lines_of-append first done)));
  fault = write_fault_behind a.out b.out c.out _ _ _ (written-length first done text) one.health short.fault;
}))
put_behind a b c first done text one (inr (inr none)) = inr (inr (wrote_behind a b c first done one none))

module _ {S C : Type 0} {a b : Scene S C} (c : Scene S C) (first second : List (Act S C)) where
  linked_both : (more : List (Act S C)) → Linked a b first → Linked b c more → Linked a c (first ++ more)
  linked_both more one two = record {
    listed = lists_both a.contents b.contents c.contents first more one.listed two.listed;
    clock = two.clock ∙ ap (λ (m : ℕ). moment_by m more) one.clock ∙ sym (moment_by-append a.moment first more);
    timely = timely_both a.moment b.moment first more one.clock one.timely two.timely;
  }

  pub made_both : (more : List (Act S C)) → Made a b first → Made b c more → Made a c (first ++ more)
  made_both more one two = record {
    linked = linked_both more one.linked two.linked;
    carried = carried_both a.link b.link c.link _ _ _ (list-length first more) one.carried two.carried;
    wrote = wrote_behind a b c first more one.wrote two.wrote;
  }

  module _ (one : Did a b first) where
    pub did_both : Did b c second → Did a c (first ++ second)
    did_both two = record {
      made = made_both second one.made two.made;
      end = left_both a.end b.end c.end first second one.end two.end;
      room = room_both a.room b.room c.room first second one.room two.room;
      stop = two.stop ∙ one.stop;
    }

    -- how the end stands
    goes_behind : (more : List (Act S C)) → GoesOn b c more → GoesOn a c (first ++ more)
    goes_behind more two = record {
      end = left_both a.end b.end c.end first more one.end two.end;
      stop = two.stop ∙ one.stop;
    }

    abbrev pub spent_behind :
        (how : Option Ending) (more : List (Act S C)) → IsSpent how b c more → IsSpent how a c (first ++ more)
    spent_behind how more two = record {
      first = first ++ two.first;
      at = two.at;
      stops = two.stops;
      asked = two.asked;
      later = two.later;
      whole = ap (λ (acts : List (Act S C)). first ++ acts) two.whole ∙ sym (append_assoc first two.first _);
      before = left_both a.end b.end two.at.state first two.first one.end two.before;
      out = two.out;
      lacks_room = two.lacks_room;
      ended = two.ended;
      stop = two.stop;
    }

    lacks_behind : (more later : List (Act S C)) → LacksMemory b c more later → LacksMemory a c (first ++ more) later
    lacks_behind more later two = record {
      at = two.at;
      stops = two.stops;
      asked = two.asked;
      end = two.end;
      more = two.more;
      whole = two.whole;
      before = left_both a.end b.end two.at.state first more one.end two.before;
      out = two.out;
      stop = two.stop;
    }

    pub part_behind : (how : Option Ending) → MadePart how b c second → MadePart how a c (first ++ second)
    part_behind how two = record {
      done = first ++ two.done;
      later = two.later;
      whole = ap (λ (acts : List (Act S C)). first ++ acts) two.whole ∙ sym (append_assoc first two.done two.later);
      made = made_both two.done one.made two.made;
      end = ends two.end;
    }
      where
        ends : GoesOn b c two.done ⊎ (IsSpent how b c two.done ⊎ LacksMemory b c two.done two.later)
            → GoesOn a c (first ++ two.done)
            ⊎ (IsSpent how a c (first ++ two.done) ⊎ LacksMemory a c (first ++ two.done) two.later)
        ends (inl goes) = inl (goes_behind two.done goes)
        ends (inr (inl spent)) = inr (inl (spent_behind how two.done spent))
        ends (inr (inr lacks)) = inr (inr (lacks_behind two.done two.later lacks))

    pub link_behind : LinkFails b c second → LinkFails a c (first ++ second)
    link_behind two = record {
      done = first ++ two.done;
      failed = two.failed;
      later = two.later;
      whole = ap (λ (acts : List (Act S C)). first ++ acts) two.whole
          ∙ sym (append_assoc first two.done (two.failed ∷ two.later));
      part = two.part;
      cut = two.cut;
      linked =
          subst (λ (acts : List (Act S C)). Linked a c acts) (sym (append_assoc first two.done two.part))
          (linked_both (two.done ++ two.part) one.made.linked two.linked);
      fault = fault_behind a.link b.link c.link _ _ _ sum one.made.carried two.fault;
      wrote = wrote_behind a b c first two.done one.made.wrote two.wrote;
      end = goes_behind two.done two.end;
    }
      where
        sum : length (list_of (first ++ two.done) ++ listed two.failed)
            ≡ length (list_of first) + length (list_of two.done ++ listed two.failed)
        sum =
            ap (λ (es : List LinkEntry). length (es ++ listed two.failed)) (list_of-append first two.done)
            ∙ ap length (append_assoc (list_of first) (list_of two.done) (listed two.failed))
            ∙ length-append (list_of first) (list_of two.done ++ listed two.failed)

    pub write_behind : (how : Option Ending) → WriteFails how b c second → WriteFails how a c (first ++ second)
    write_behind how two = record {
      done = first ++ two.done;
      entries = two.entries;
      text = two.text;
      later = two.later;
      whole = ap (λ (acts : List (Act S C)). first ++ acts) two.whole ∙ sym (append_assoc first two.done _);
      linked = linked_both two.done one.made.linked two.linked;
      carried = carried_both a.link b.link c.link _ _ _ (list-length first two.done) one.made.carried two.carried;
      count = two.count;
      short = two.short;
      received = received;
      fault =
          write_fault_behind a.out b.out c.out _ _ _ (written-length first two.done two.text)
          one.made.wrote.health two.fault;
      end = ends two.end;
    }
      where
        ends : GoesOn b c two.done ⊎ IsSpent how b c two.done
            → GoesOn a c (first ++ two.done) ⊎ IsSpent how a c (first ++ two.done)
        ends (inl goes) = inl (goes_behind two.done goes)
        ends (inr spent) = inr (spent_behind how two.done spent)

        rest : List ℕ
        rest = take two.count two.text

        received : c.received ≡ with_bytes a.received (lines_of (first ++ two.done) ++ rest)
        received =
            two.received ∙ ap (λ (r : Option (List ℕ)). with_bytes r
            (lines_of two.done ++ rest)) one.made.wrote.received
            ∙ with_both a.received (lines_of first) (lines_of two.done ++ rest)
            ∙ ap (λ (t : List ℕ). with_bytes a.received t)
            (sym (append_assoc (lines_of first) (lines_of two.done) rest)
            ∙ ap (λ (t : List ℕ). t ++ rest) (sym (lines_of-append first two.done)))

    pub disk_behind : DiskFails b c second → DiskFails a c (first ++ second)
    disk_behind two = record {
      done = first ++ two.done;
      at = two.at;
      stops = two.stops;
      asked = two.asked;
      end = two.end;
      newer = two.newer;
      entries = two.entries;
      text = two.text;
      later = two.later;
      whole = ap (λ (acts : List (Act S C)). first ++ acts) two.whole ∙ sym (append_assoc first two.done _);
      before = left_both a.end b.end two.at.state first two.done one.end two.before;
      front = two.front;
      noted = two.noted;
      out = two.out;
      notes = two.notes;
      stop = two.stop;
      may = two.may;
      linked = linked_both two.done one.made.linked two.linked;
      carried = carried_both a.link b.link c.link _ _ _ (list-length first two.done) one.made.carried two.carried;
      put = put_behind a b c first two.done (text_of two.entries) one.made.wrote two.put;
      short = short_both a.room b.room two.asked first two.done one.room two.short;
    }

-- ---- with more acts behind, which weren't done

module _ {S C : Type 0} (a b : Scene S C) (first second : List (Act S C)) where
  -- none of acts with which nothing was to end has ended early
  not_spent : (how : Option Ending) (done : List (Act S C)) → how ≡ None → IsSpent how a b done → ⊥
  not_spent how done on spent = none_some (spent_for spent.lacks_room) (sym on ∙ spent.ended)
    where
      none_some : (ended : Ending) → None ≡ Some ended → ⊥
      none_some ended is = cc

  pub part_before :
      (how more : Option Ending) → how ≡ None → MadePart how a b first → MadePart more a b (first ++ second)
  part_before how more on one = record {
    done = one.done;
    later = one.later ++ second;
    whole = ap (λ (acts : List (Act S C)). acts ++ second) one.whole ∙ append_assoc one.done one.later second;
    made = one.made;
    end = ends one.end;
  }
    where
      ends : GoesOn a b one.done ⊎ (IsSpent how a b one.done ⊎ LacksMemory a b one.done one.later)
          → GoesOn a b one.done ⊎ (IsSpent more a b one.done ⊎ LacksMemory a b one.done (one.later ++ second))
      ends (inl goes) = inl goes
      ends (inr (inl spent)) = absurd (not_spent how one.done on spent)
      ends (inr (inr lacks)) = inr (inr (record {
        at = lacks.at;
        stops = lacks.stops;
        asked = lacks.asked;
        end = lacks.end;
        more = lacks.more ++ second;
        whole = ap (λ (acts : List (Act S C)). acts ++ second) lacks.whole;
        before = lacks.before;
        out = lacks.out;
        stop = lacks.stop;
      }))

  pub link_before : LinkFails a b first → LinkFails a b (first ++ second)
  link_before one = record {
    done = one.done;
    failed = one.failed;
    later = one.later ++ second;
    whole = ap (λ (acts : List (Act S C)). acts ++ second) one.whole
        ∙ append_assoc one.done (one.failed ∷ one.later) second;
    part = one.part;
    cut = one.cut;
    linked = one.linked;
    fault = one.fault;
    wrote = one.wrote;
    end = one.end;
  }

  pub write_before :
      (how more : Option Ending) → how ≡ None → WriteFails how a b first → WriteFails more a b (first ++ second)
  write_before how more on one = record {
    done = one.done;
    entries = one.entries;
    text = one.text;
    later = one.later ++ second;
    whole = ap (λ (acts : List (Act S C)). acts ++ second) one.whole ∙ append_assoc one.done _ second;
    linked = one.linked;
    carried = one.carried;
    count = one.count;
    short = one.short;
    received = one.received;
    fault = one.fault;
    end = ends one.end;
  }
    where
      ends : GoesOn a b one.done ⊎ IsSpent how a b one.done → GoesOn a b one.done ⊎ IsSpent more a b one.done
      ends (inl goes) = inl goes
      ends (inr spent) = absurd (not_spent how one.done on spent)

  pub disk_before : DiskFails a b first → DiskFails a b (first ++ second)
  disk_before one = record {
    done = one.done;
    at = one.at;
    stops = one.stops;
    asked = one.asked;
    end = one.end;
    newer = one.newer;
    entries = one.entries;
    text = one.text;
    later = one.later ++ second;
    whole = ap (λ (acts : List (Act S C)). acts ++ second) one.whole ∙ append_assoc one.done _ second;
    before = one.before;
    front = one.front;
    noted = one.noted;
    out = one.out;
    notes = one.notes;
    stop = one.stop;
    may = one.may;
    linked = one.linked;
    carried = one.carried;
    put = one.put;
    short = one.short;
  }

-- ---- nothing was done

-- the same scene with another end, its room, and the step that has stopped it
abbrev pub with_end : {S C : Type 0} → Scene S C → S → Asked → Option (StopAt S C) → Scene S C
with_end a end room stop = record a { end = end; room = room; stop = stop }

module _ {S C : Type 0} (a : Scene S C) (end : S) (room : Asked) (stop : Option (StopAt S C)) where
  linked_none : Linked a (with_end a end room stop) []
  linked_none = record { listed = lists_still a.contents a.contents [] refl refl refl; clock = refl; timely = tt }

  -- but by the end
  pub made_none : Made a (with_end a end room stop) []
  made_none = record { linked = linked_none; carried = carried_none a.link; wrote = wrote_nothing }

  module _ (at : StepAt S C) (stops : List (List Entry)) (asked : Asked) where
    -- the end has made a step
    pub made_step : (left : Option S) → Made a (with_end a end room stop) (Stands at stops asked left ∷ [])
    made_step left = record {
      linked = record {
        listed = lists_still a.contents a.contents (Stands at stops asked left ∷ []) refl refl refl;
        clock = refl;
        timely = (tt, tt);
      };
      carried = carried_none a.link;
      wrote = wrote_nothing;
    }

-- and goes on
pub did_step : {S C : Type 0} (a : Scene S C) (end : S) (room : Asked) (at : StepAt S C) (stops : List (List Entry))
    (asked : Asked) (left : Option S) → IsLeft left end → LeavesRoom a.room asked room
    → Did a (with_end a end room a.stop) (Stands at stops asked left ∷ [])
did_step a end room at stops asked left is used = record {
  made = made_step a end room a.stop at stops asked left;
  end = is;
  room = record { calls = omega (arith, used.calls); bytes = omega (arith, used.bytes) };
  stop = refl;
}

pub did_none : {S C : Type 0} (a : Scene S C) → Did a a []
did_none a = record {
  made = record {
    linked = record { listed = lists_still a.contents a.contents [] refl refl refl; clock = refl; timely = tt };
    carried = carried_none a.link;
    wrote = wrote_nothing;
  };
  end = refl;
  room = room_none a.room;
  stop = refl;
}

-- the end has stayed as it was
pub goes_none : {S C : Type 0} (a : Scene S C) → GoesOn a a []
goes_none a = record { end = refl; stop = refl }
