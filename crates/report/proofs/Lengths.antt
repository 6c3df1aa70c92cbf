-- How long the parts of a report's text can be.
use Rattle.std.proofs.Common.{ℕ, zero, suc, ◌+◌, ◌*◌, ◌/◌, ◌%◌, ◌^◌, ◌<◌, ◌≤◌, Bool, true, false, List, [], ◌∷◌, ◌++◌, length, codes, decimal, arith}
use Rattle.std.proofs.lemmas.List.{length-append}
use Rattle.std.specs.Prelude.{if◌then◌else◌, ◌==◌}
use Rattle.std.specs.Fmt.{digits, digits_onto, digit_glyph}
use Rattle.kripke.specs.declared.node.Node.{Node}
use Rattle.report.specs.Text.{field, node_line, node_lines, node_count, report_text}
use Rattle.report.specs.declared.report.Report.{Report}
use Rattle.report.specs.declared.report.Report.TheVariants.{Alike, Different}

length-either : (t : Bool) (a b : List ℕ) (m : ℕ) → length a ≤ m → length b ≤ m → length (if t then a else b) ≤ m
length-either true a b m p q = p
length-either false a b m p q = q

length-digits_onto : (k base : ℕ) (upper : Bool) (n : ℕ) (acc : List ℕ) → length (digits_onto k base upper n acc) ≤ k + length acc
length-digits_onto zero base upper n acc = omega arith
length-digits_onto (suc k) base upper n acc =
    let more = digit_glyph upper (n % base) ∷ acc in
    length-either (n / base == 0) more (digits_onto k base upper (n / base) more) (suc k + length acc) (omega arith)
    (omega (arith, length-digits_onto k base upper (n / base) more))

length-decimal : (n : ℕ) → length (decimal n) ≤ 64
unfolding digits
length-decimal n = length-digits_onto 64 10 false n []

length-field : (n b : ℕ) → length (field n b) ≤ 65
length-field n b = omega (arith, length-append (decimal n) (b ∷ []), length-decimal n)

length-line : (i : ℕ) (n : Node) → length (node_line i n) ≤ 260
length-line i n =
    let p = field i 32 in
    let q = field n.code 32 in
    let r = field n.a 32 in
    let s = field n.b 10 in
    omega (arith, length-append p (q ++ (r ++ s)), length-append q (r ++ s), length-append r s, length-field i 32, length-field n.code 32, length-field n.a 32, length-field n.b 10)

length-lines : (i : ℕ) (ns : List Node) → length (node_lines i ns) ≤ 260 * length ns
length-lines i [] = omega arith
length-lines i (n ∷ ns) = omega (arith, length-append (node_line i n) (node_lines (suc i) ns), length-line i n, length-lines (suc i) ns)

pub length-report : (r : Report) → node_count r ≤ 2045 → length (report_text r) < 2 ^ 64
length-report (Alike k) h = omega (arith, length-append (codes "alike ") (field k 10), length-field k 10)
length-report (Different k ns) h =
    let ls = node_lines 0 ns.now in
    omega (
      arith,
      length-append (codes "differ ") (field k 32 ++ (field (length ns.now) 10 ++ ls)),
      length-append (field k 32) (field (length ns.now) 10 ++ ls),
      length-append (field (length ns.now) 10) ls,
      length-field k 32,
      length-field (length ns.now) 10,
      length-lines 0 ns.now,
      h,
    )
