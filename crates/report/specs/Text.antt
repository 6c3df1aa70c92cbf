-- The text of a report, and when a report is refused.
use Rattle.std.specs.Prelude.{◌≡◌, ℕ, suc, ◌<◌, ◌≤◌, ◌⊎◌, List, [], ◌∷◌, ◌++◌, length, Ok, Err, codes, decimal, Result}
use Rattle.kripke.specs.declared.node.Node.{Node}
use Rattle.kripke.specs.declared.refusal.Cause.{Cause}
use Rattle.kripke.specs.declared.refusal.Cause.TheVariants.{ReportSize}
use Rattle.kripke.specs.declared.refusal.Layer.TheVariants as layer
use Rattle.kripke.specs.declared.refusal.Refusal.{Refusal}
use Rattle.report.specs.declared.report.Report.{Report}
use Rattle.report.specs.declared.report.Report.TheVariants.{Alike, Different}

abbrev pub space : ℕ
space = 32

abbrev pub line_feed : ℕ
line_feed = 10

-- A number, and the byte after it.
abbrev pub field : ℕ → ℕ → List ℕ
field n after = decimal n ++ (after ∷ [])

-- The line of node i: its number, its code, a and b.
abbrev pub node_line : ℕ → Node → List ℕ
node_line i n = field i space ++ (field n.code space ++ (field n.a space ++ field n.b line_feed))

-- The lines of nodes that are numbered from i on.
abbrev pub node_lines : ℕ → List Node → List ℕ
node_lines i [] = []
node_lines i (n ∷ ns) = node_line i n ++ node_lines (suc i) ns

-- The verdict and its rounds; of different models also the number of nodes, and the nodes.
abbrev pub alike_text : ℕ → List ℕ
alike_text rounds = codes "alike " ++ field rounds line_feed

abbrev pub differ_text : ℕ → List Node → List ℕ
differ_text rounds nodes = codes "differ " ++ (field rounds space ++ (field (length nodes) line_feed ++ node_lines 0 nodes))

abbrev pub report_text : Report → List ℕ
report_text (Alike rounds) = alike_text rounds
report_text (Different rounds nodes) = differ_text rounds nodes.now

abbrev pub node_count : Report → ℕ
node_count (Alike rounds) = 0
node_count (Different rounds nodes) = length nodes.now

-- A report for `room` bytes has too many nodes, or no room for its text.
abbrev pub Exceeds : Report → ℕ → Type 0
Exceeds report room = (2045 < node_count report) ⊎ (room < length (report_text report))

-- The one breach of a report.
pub data ReportBreach (report : Report) (room : ℕ) : Cause → ℕ → Type 0 where
  size : Exceeds report room → ReportBreach report room ReportSize 0

-- The length of a report's text; the refusal of a report with too many nodes.
abbrev pub Measured : Report → Result ℕ Refusal → Type 0
Measured report (Ok n) = (node_count report ≤ 2045) × (n ≡ length (report_text report))
Measured report (Err e) = (2045 < node_count report) × (e ≡ record { cause = ReportSize; layer = layer.Report; place = 0 })
