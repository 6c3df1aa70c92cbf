use Rattle.std.proofs.Common.{refl}
use Rattle.reader.proofs.cursor.Cursor.open.Goals as goal

pub returns-in-Pair : goal.returns-in-Pair
returns-in-Pair c = rw c.in-Pair.is (λ n. record { value = tt; is = tt; after = refl; good = tt })

pub returns-in-Until : goal.returns-in-Until
returns-in-Until c = rw c.in-Until.is c.expect.ensures
