-- Text that goes to a sink behind other text, and a page on the way to it.
use Rattle.std.proofs.Common.{◌≡◌, ℕ, ◌+◌, ◌-◌, ◌≤◌, List, [], ◌++◌, length, take, drop, Option, Some, None, refl, sym, ap, subst, ◌∙◌, append_assoc, append-nil, arith, length-append, length-drop}
use Rattle.std.proofs.Math.Seq.{take-add, take-append-add}
use Rattle.std.proofs.lemmas.List.{length-take-le, take-append-le, take_all}
use Rattle.gl_base.specs.Faults.{one_more}
use Rattle.gl_base.specs.Sink.{IsWrittenOn, SinkHealth, with_bytes}
use Rattle.gl_base.specs.Sending.{IsUnderWay, Passes, Sends, WrotePart, WroteShort, WroteText}
use Rattle.gl_base.specs.Told.{SinkTold}
use Rattle.gl_base.specs.declared.copying.SinkAnswer.{SinkAnswer}
use Rattle.gl_base.specs.declared.copying.SinkAnswer.TheVariants.{Done, Failed}

-- what a sink told, by its parts
abbrev pub told : Option (List ℕ) → Option (List ℕ) → SinkHealth → SinkHealth → SinkTold
told before after health health_after =
    record { before = before; after = after; health = health; health_after = health_after }

with_bytes-nil : (received : Option (List ℕ)) → received ≡ with_bytes received []
with_bytes-nil None = refl
with_bytes-nil (Some bytes) = ap Some (sym (append-nil bytes))

with_bytes-twice : (received : Option (List ℕ)) (first second : List ℕ)
    → with_bytes (with_bytes received first) second ≡ with_bytes received (first ++ second)
with_bytes-twice None first second = refl
with_bytes-twice (Some before) first second = ap Some (append_assoc before first second)

-- what was received in two parts
in_two : (was mid now : Option (List ℕ)) (first second : List ℕ) → mid ≡ with_bytes was first
    → now ≡ with_bytes mid second
    → now ≡ with_bytes was (first ++ second)
in_two was mid now first second one two = two ∙ ap (λ r. with_bytes r second) one ∙ with_bytes-twice was first second

pub wrote_nothing : {was : Option (List ℕ)} {a : SinkHealth} → WroteText (told was was a a) []
wrote_nothing {was} {a} = record { received = with_bytes-nil was; health = record { same = refl; used = omega arith } }

-- nothing went out, and the page is empty
pub under_way_first : {was : Option (List ℕ)} {a : SinkHealth} (page : List ℕ) → page ≡ []
    → IsUnderWay (told was was a a) [] page
under_way_first page empty = record { sent = []; wrote = wrote_nothing; whole = sym empty }

-- more was put straight into the page
pub under_way_put : {out : SinkTold} (text page more page' : List ℕ) → IsUnderWay out text page → page' ≡ page ++ more
    → IsUnderWay out (text ++ more) page'
under_way_put text page more page' under put = record {
  sent = under.sent;
  wrote = under.wrote;
  whole = ap (λ (t : List ℕ). t ++ more) under.whole ∙ append_assoc under.sent page more
      ∙ ap (λ (t : List ℕ). under.sent ++ t) (sym put);
}

module _ {was mid now : Option (List ℕ)} {a b c : SinkHealth} where
  pub wrote_both : (first second : List ℕ) → WroteText (told was mid a b) first → WroteText (told mid now b c) second
      → WroteText (told was now a c) (first ++ second)
  wrote_both first second one two =
      let used = one.health in
      let more = two.health in
      record {
        received = in_two was mid now first second one.received two.received;
        health = record {
          same = more.same ∙ used.same;
          used =
              omega (arith, used.used, more.used, length-append first second);
        };
      }

  -- a text was cut short behind another that went out
  pub cut_behind : (first second : List ℕ) → WroteText (told was mid a b) first → WroteShort (told mid now b c) second
      → WroteShort (told was now a c) (first ++ second)
  cut_behind first second one two =
      let used = one.health in
      let fault = two.fault in
      record {
        count = length first + two.count;
        short = omega (arith, two.short, length-append first second);
        received = in_two was mid now first (take two.count second) one.received two.received
            ∙ ap (with_bytes was) (sym (take-append-add first second two.count));
        fault = record {
          rose = record {
            by_one = fault.rose.by_one ∙ ap (λ n. one_more n) used.same;
            later = omega (arith, used.same, fault.rose.later);
          };
          crowded = omega (arith, used.used, fault.crowded, length-append first second);
        };
      }

  -- a page that held the end of a text went on its way
  pub under_way_on : (text page page' : List ℕ) → IsUnderWay (told was mid a b) text page
      → IsUnderWay (told mid now b c) page page'
      → IsUnderWay (told was now a c) text page'
  under_way_on text page page' one two = record {
    sent = one.sent ++ two.sent;
    wrote = wrote_both one.sent two.sent one.wrote two.wrote;
    whole = one.whole ∙ ap (λ (t : List ℕ). one.sent ++ t) two.whole ∙ sym (append_assoc one.sent two.sent page');
  }

  -- the same with more behind it
  pub under_way_more : (text page more page' : List ℕ) → IsUnderWay (told was mid a b) text page
      → IsUnderWay (told mid now b c) (page ++ more) page' → IsUnderWay (told was now a c) (text ++ more) page'
  under_way_more text page more page' one two =
      under_way_on (text ++ more) (page ++ more) page' (under_way_put text page more _ one refl) two

-- the same of an answer
module _ {was mid : Option (List ℕ)} {a b : SinkHealth} (now : Option (List ℕ)) (c : SinkHealth) where
  pub copies_behind : (first second : List ℕ) (answer : SinkAnswer) → WroteText (told was mid a b) first
      → Sends (told mid now b c) second answer → Sends (told was now a c) (first ++ second) answer
  copies_behind first second Done one two = wrote_both first second one two
  copies_behind first second Failed one two = cut_behind first second one two

  -- what a page held was to go out, and with it the whole text did
  pub finished : (text page : List ℕ) (answer : SinkAnswer) → IsUnderWay (told was mid a b) text page
      → Sends (told mid now b c) page answer → Sends (told was now a c) text answer
  finished text page answer one two =
      subst (λ (t : List ℕ). Sends (told was now a c) t answer) (sym one.whole)
      (copies_behind one.sent page answer one.wrote two)

  pub passes_on : (text page page' : List ℕ) (answer : SinkAnswer) → IsUnderWay (told was mid a b) text page
      → Passes (told mid now b c) page page' answer → Passes (told was now a c) text page' answer
  passes_on text page page' Done one two = under_way_on text page page' one two
  passes_on text page page' Failed one two = finished text page Failed one two

  -- the same with more behind it
  pub passes_behind : (text page more page' : List ℕ) (answer : SinkAnswer) → IsUnderWay (told was mid a b) text page
      → Passes (told mid now b c) (page ++ more) page' answer → Passes (told was now a c) (text ++ more) page' answer
  passes_behind text page more page' answer one two =
      passes_on (text ++ more) (page ++ more) page' answer (under_way_put text page more _ one refl) two

-- what was cut short is cut short with more behind it
pub cut_before : {out : SinkTold} (first second : List ℕ) → WroteShort out first → WroteShort out (first ++ second)
cut_before {out} first second cut =
    let short = cut.short in
    let fault = cut.fault in
    record {
      count = cut.count;
      short = omega (arith, short, length-append first second);
      received = cut.received
          ∙ ap (with_bytes out.before) (sym (take-append-le cut.count first second (omega (arith, short))));
      fault = record { rose = fault.rose; crowded = omega (arith, fault.crowded, length-append first second) };
    }

-- a front that went out is a part
pub part_before : {out : SinkTold} (first second : List ℕ) → WroteText out first → WrotePart out (first ++ second)
part_before first second wrote = record { front = first; rest = second; whole = refl; wrote = wrote }

-- a slice `[at..]` is `take (length - at) (drop at ..)`
rest-drop : (bytes : List ℕ) (at : ℕ) → take (length bytes - at) (drop at bytes) ≡ drop at bytes
rest-drop bytes at = take_all _ _ (omega (arith, length-drop at bytes))

-- one more write took bytes
pub took_more : {was mid now : Option (List ℕ)} {a b c : SinkHealth} (bytes slice : List ℕ) (at n : ℕ) →
    slice ≡ take (length bytes - at) (drop at bytes) → n ≤ length slice → WroteText (told was mid a b) (take at bytes) →
    now ≡ with_bytes mid (take n slice) → IsWrittenOn b c n → WroteText (told was now a c) (take (at + n) bytes)
took_more {was} {mid} {now} {a} {b} {c} bytes slice at n is_slice within one went health =
    let all : take at bytes ++ take n slice ≡ take (at + n) bytes =
    ap (λ (t : List ℕ). take at bytes ++ take n t) (is_slice ∙ rest-drop bytes at) ∙ sym (take-add at n bytes) in
    let more : WroteText (told mid now b c) (take n slice) = record {
      received = went;
      health = record { same = health.same; used = omega (arith, health.used, length-take-le n slice within) };
    } in
    subst (λ (t : List ℕ). WroteText (told was now a c) t) all (wrote_both (take at bytes) (take n slice) one more)
