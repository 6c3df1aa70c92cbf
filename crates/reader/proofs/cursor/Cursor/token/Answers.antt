use Rattle.std.proofs.Common.{rules}
use Rattle.reader.proofs.Ahead.{token_fits, token_cut, token_passed}
use Rattle.reader.proofs.cursor.Cursor.token.Goals as goal

pub overflow_sub-self : goal.overflow_sub-self
overflow_sub-self c = search (rules, token_fits)

pub returns-clause-cut : goal.returns-clause-cut
returns-clause-cut c = search (rules, token_cut)

pub returns-clause-passed : goal.returns-clause-passed
returns-clause-passed c = search (rules, token_passed)
