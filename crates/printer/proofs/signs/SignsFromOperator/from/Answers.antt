use Rattle.printer.proofs.Operators.{signs}
use Rattle.printer.proofs.signs.SignsFromOperator.from.Goals as goal

pub returns-in-Not : goal.returns-in-Not
returns-in-Not c = rw c.in-Not.is (search signs)

pub returns-in-And : goal.returns-in-And
returns-in-And c = rw c.in-And.is (search signs)

pub returns-in-Or : goal.returns-in-Or
returns-in-Or c = rw c.in-Or.is (search signs)

pub returns-in-EX : goal.returns-in-EX
returns-in-EX c = rw c.in-EX.is (search signs)

pub returns-in-AX : goal.returns-in-AX
returns-in-AX c = rw c.in-AX.is (search signs)

pub returns-in-EF : goal.returns-in-EF
returns-in-EF c = rw c.in-EF.is (search signs)

pub returns-in-AF : goal.returns-in-AF
returns-in-AF c = rw c.in-AF.is (search signs)

pub returns-in-EG : goal.returns-in-EG
returns-in-EG c = rw c.in-EG.is (search signs)

pub returns-in-AG : goal.returns-in-AG
returns-in-AG c = rw c.in-AG.is (search signs)

pub returns-in-EU : goal.returns-in-EU
returns-in-EU c = rw c.in-EU.is (search signs)

pub returns-in-AU : goal.returns-in-AU
returns-in-AU c = rw c.in-AU.is (search signs)
