use Rattle.std.proofs.Common.{refl}
use Rattle.reader.proofs.cursor.Cursor.middle.Goals as goal

pub returns-in-Pair : goal.returns-in-Pair
returns-in-Pair c = rw c.in-Pair.is c.link.ensures

pub returns-in-Exists : goal.returns-in-Exists
returns-in-Exists c = rw (c.in-Until.is, c.in-Exists.is) (λ n. let z = c.in_ok-expect-in-Until.ensures n in record { value = tt; is = refl; after = z.after; good = z.good })

pub returns-in-ForAll : goal.returns-in-ForAll
returns-in-ForAll c = rw (c.in-Until.is, c.in-ForAll.is) (λ n. let z = c.in_ok-expect-in-Until.ensures n in record { value = tt; is = refl; after = z.after; good = z.good })
