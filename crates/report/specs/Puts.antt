-- Text that is put into given bytes.
use Rattle.std.specs.Prelude.{◌≡◌, ℕ, ◌+◌, ◌^◌, ◌<◌, ◌≤◌, List, ◌++◌, length, take, drop}
use Rattle.report.specs.declared.cursor.Cursor.{Cursor}

-- The bytes, with a text written over them from an offset on.
abbrev pub put : ℕ → List ℕ → List ℕ → List ℕ
put at text out = take at out ++ (text ++ drop (at + length text) out)

-- The text's end can be counted.
abbrev pub Countable : List ℕ → Cursor → Type 0
Countable text c = c.at + length text < 2 ^ 64

-- From c to d a text has been counted, and written if it ends within the bytes.
pub record Puts (text : List ℕ) (c d : Cursor) : Type 0 where
  pub same : d.out.ghost_name ≡ c.out.ghost_name
  pub ends : d.at ≡ c.at + length text
  pub long : length d.out.now ≡ length c.out.now
  pub holds : d.at ≤ length d.out.now → d.out.now ≡ put c.at text c.out.now

-- The text stands at the start of the bytes and has length n, and the rest of the bytes is as before.
pub record Written (text before : List ℕ) (n : ℕ) (after : List ℕ) : Type 0 where
  pub long : n ≡ length text
  pub holds : after ≡ text ++ drop n before
