-- Texts that are put one after another.
use Rattle.std.proofs.Common.{◌≡◌, ℕ, ◌+◌, ◌≤◌, List, ◌++◌, length, take, drop, sym, ap, ◌∙◌, append_assoc, subst, arith}
use Rattle.std.proofs.lemmas.List.{length-append, length-take, length-drop}
use Rattle.std.proofs.lemmas.Slice.{drop-append-drop}
use Rattle.std.proofs.Math.Seq.{take-append_seam}
use Rattle.report.specs.declared.cursor.Cursor.{Cursor}
use Rattle.report.specs.Puts.{put, Countable, Puts}

pub length-put : (at : ℕ) (text out : List ℕ) → at + length text ≤ length out → length (put at text out) ≡ length out
length-put at text out h =
    let r = drop (at + length text) out in
    omega (arith, length-append (take at out) (text ++ r), length-append text r, length-take at out, length-drop (at + length text) out, h)

-- The front of what is put, up to the end of the text, and the rest.
front : (at : ℕ) (xs out : List ℕ) → at + length xs ≤ length out → length (take at out ++ xs) ≡ at + length xs
front at xs out h = omega (arith, length-append (take at out) xs, length-take at out, h)

put-append : (at : ℕ) (xs ys out : List ℕ) → at + length xs ≤ length out → put (at + length xs) ys (put at xs out) ≡ put at (xs ++ ys) out
put-append at xs ys out h =
    let n = at + length xs in
    let p : List ℕ = take at out ++ xs in
    let l : length p ≡ n = front at xs out h in
    let e : put at xs out ≡ p ++ drop n out = sym (append_assoc (take at out) xs (drop n out)) in
    let t : take n (put at xs out) ≡ p = ap (take n) e ∙ ap (λ k. take k (p ++ drop n out)) (sym l) ∙ take-append_seam p (drop n out) in
    let d : drop (n + length ys) (put at xs out) ≡ drop (n + length ys) out = ap (drop (n + length ys)) e ∙ drop-append-drop n out p (n + length ys) (omega arith) l in
    let m : n + length ys ≡ at + length (xs ++ ys) = omega (arith, length-append xs ys) in
    let r = drop (at + length (xs ++ ys)) out in
    rw (t, d, m) (append_assoc (take at out) xs (ys ++ r) ∙ ap (λ z. take at out ++ z) (sym (append_assoc xs ys r)))

pub then : (xs ys : List ℕ) {a b c : Cursor} → Puts xs a b → Puts ys b c → Puts (xs ++ ys) a c
then xs ys {a} {b} {c} p q = record {
  same = q.same ∙ p.same;
  ends = omega (arith, p.ends, q.ends, length-append xs ys);
  long = q.long ∙ p.long;
  holds = λ h.
      let fits : a.at + length xs ≤ length a.out.now = omega (arith, h, p.ends, q.ends, p.long, q.long) in
      q.holds h ∙ ap (put b.at ys) (p.holds (omega (arith, fits, p.ends, p.long))) ∙ ap (λ k. put k ys (put a.at xs a.out.now)) p.ends
      ∙ put-append a.at xs ys a.out.now fits;
}

-- Where the end of both texts can be counted, that of the first can, and behind it that of the second.
pub first_countable : (a : Cursor) (xs ys : List ℕ) → Countable (xs ++ ys) a → Countable xs a
first_countable a xs ys h = omega (arith, length-append xs ys, h)

pub rest_countable : (xs ys : List ℕ) {a b : Cursor} → Countable (xs ++ ys) a → Puts xs a b → Countable ys b
rest_countable xs ys h p = omega (arith, length-append xs ys, h, p.ends)

pub puts_same : {xs ys : List ℕ} {a b : Cursor} → xs ≡ ys → Puts xs a b → Puts ys a b
puts_same {a = a} {b = b} e p = subst (λ (z : List ℕ). Puts z a b) e p
