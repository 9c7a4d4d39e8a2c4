-- Bytes that change nothing but how many are to come, passed over in one move.
use Rattle.std.proofs.Common.{◌≡◌, ℕ, zero, suc, ◌+◌, ◌-◌, ◌≤◌, List, [], ◌∷◌, length, take, drop, sym, ap, subst, ◌∙◌, length-take, take-append-drop, arith}
use Rattle.std.proofs.lemmas.List.Sums.{fold-append}
use Rattle.secs_items.specs.declared.item_fault.ItemFault.{ItemFault}
use Rattle.secs_items.specs.declared.point.Point.{Point}
use Rattle.secs_items.specs.declared.point.Point.TheVariants as point
use Rattle.secs_items.specs.Checking.{Checking, MayPass, fed_with, passed, stands_at, with_byte}

moved : (p : Point) (lists : List ℕ) (fed other : ℕ) → fed ≡ other → stands_at fed lists p ≡ stands_at other lists p
moved p lists fed other e = ap (λ (n : ℕ). stands_at n lists p) e

content_moved : (lists : List ℕ) (fed other more less : ℕ) → fed ≡ other → more ≡ less
    → stands_at fed lists (point.Content more) ≡ stands_at other lists (point.Content less)
content_moved lists fed other more less e f =
    moved (point.Content more) lists fed other e ∙ ap (λ (n : ℕ). stands_at other lists (point.Content n)) f

content : (fed : ℕ) (lists : List ℕ) (more : ℕ) (bytes : List ℕ) → length bytes ≤ more
    → fed_with (stands_at fed lists (point.Content more)) bytes ≡ stands_at (fed + length bytes) lists (point.Content (more - length bytes))
content fed lists more [] few = content_moved lists fed (fed + 0) more (more - 0) (omega arith) (omega arith)
content fed lists zero (byte ∷ bytes) few = absurd (omega (arith, few))
content fed lists (suc more) (byte ∷ bytes) few =
    content (fed + 1) lists more bytes (omega (arith, few))
    ∙ content_moved lists (fed + 1 + length bytes) (fed + suc (length bytes)) (more - length bytes) (suc more - suc (length bytes)) (omega arith) (omega arith)

broken : (fed : ℕ) (lists : List ℕ) (e : ItemFault) (bytes : List ℕ)
    → fed_with (stands_at fed lists (point.Broken e)) bytes ≡ stands_at (fed + length bytes) lists (point.Broken e)
broken fed lists e [] = moved (point.Broken e) lists fed (fed + 0) (omega arith)
broken fed lists e (byte ∷ bytes) =
    broken (fed + 1) lists e bytes ∙ moved (point.Broken e) lists (fed + 1 + length bytes) (fed + suc (length bytes)) (omega arith)

none : (fed : ℕ) (lists : List ℕ) (p : Point) (bytes : List ℕ) → length bytes ≡ 0
    → fed_with (stands_at fed lists p) bytes ≡ stands_at (fed + length bytes) lists p
none fed lists p [] e = moved p lists fed (fed + 0) (omega arith)
none fed lists p (byte ∷ bytes) e = absurd (omega (arith, e))

pass_over : (fed : ℕ) (lists : List ℕ) (p : Point) (bytes : List ℕ) → MayPass (length bytes) p
    → fed_with (stands_at fed lists p) bytes ≡ passed (length bytes) (stands_at fed lists p)
pass_over fed lists point.Format bytes may = none fed lists point.Format bytes may
pass_over fed lists (point.Three at kind) bytes may = none fed lists (point.Three at kind) bytes may
pass_over fed lists (point.Two at kind high) bytes may = none fed lists (point.Two at kind high) bytes may
pass_over fed lists (point.One at kind high) bytes may = none fed lists (point.One at kind high) bytes may
pass_over fed lists (point.Content more) bytes may = content fed lists more bytes may
pass_over fed lists point.Whole bytes may = none fed lists point.Whole bytes may
pass_over fed lists (point.Broken e) bytes may = broken fed lists e bytes

-- the front of a piece
pub passes_front : (c new : Checking) (piece front rest : List ℕ) (count : ℕ) → front ≡ take count piece → rest ≡ drop count piece
    → count ≤ length piece → MayPass count c.point → new ≡ passed count c → fed_with new rest ≡ fed_with c piece
passes_front c new piece front rest count taken left within may is =
    let long : length (take count piece) ≡ count = omega (arith, length-take count piece, within) in
    let over = pass_over c.fed c.lists c.point (take count piece) (subst (λ (n : ℕ). MayPass n c.point) (sym long) may) in
    let same : new ≡ fed_with c (take count piece) = is ∙ ap (λ (n : ℕ). passed n c) (sym long) ∙ sym over in
    ap (λ (d : Checking). fed_with d rest) same ∙ ap (fed_with (fed_with c (take count piece))) left
    ∙ sym (fold-append with_byte c (take count piece) (drop count piece)) ∙ ap (fed_with c) (take-append-drop count piece)
