use Rattle.std.proofs.Common.{refl}
use Rattle.reader.proofs.Made.{made}
use Rattle.reader.proofs.Room.{few_tokens}
use Rattle.reader.proofs.cursor.Cursor.new.Goals as goal

pub returns : goal.returns
returns c = record { whole = refl; parts = made 0 0 c.args.text.now; few = few_tokens 0 0 c.args.text.now }
