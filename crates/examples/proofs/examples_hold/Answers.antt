use Rattle.std.proofs.Common.{refl}
use Rattle.kripke.specs.Tests.{same, settled}
use Rattle.kripke.specs.Nodes.{formulas, grown}
use Rattle.labels.specs.Kinds.{bits}
use Rattle.reader.specs.Tokens.{tokens}
use Rattle.examples.specs.Table.{table}
use Rattle.examples.proofs.Tests.{marks, enough}
use Rattle.examples.proofs.Outcomes.{each_right}
use Rattle.examples.proofs.examples_hold.Goals as goal

pub returns : goal.returns
unfolding bits same settled marks enough formulas grown tokens
returns c = each_right 0 table refl
