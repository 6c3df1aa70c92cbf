use Rattle.reader.proofs.cursor.Cursor.close.Goals as goal

pub returns-in-Pair : goal.returns-in-Pair
returns-in-Pair c = rw c.in-Pair.is c.expect.ensures

pub returns-in-Until : goal.returns-in-Until
returns-in-Until c = rw c.in-Until.is c.expect-in-Until.ensures
