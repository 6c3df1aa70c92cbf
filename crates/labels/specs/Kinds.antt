-- What the two label kinds answer, and how each is coded in four bytes.
use Rattle.std.specs.Prelude.{ℕ, ◌+◌, ◌*◌, ◌/◌, ◌%◌, ◌^◌, Bool, cond, ◌&&◌, List, [], ◌∷◌, map, Some, None, Ok, Err, Option, Result, ◌≡◌, ◌≢◌, codes, ◌==◌, nat_le, nat_lt, slice_index}
use Rattle.std.specs.List.{range_with_len}
use Rattle.labels.specs.declared.kind.Kind.{Kind}
use Rattle.labels.specs.declared.kind.Kind.TheVariants.{SignalWords, Readings}
use Rattle.labels.specs.declared.kind.UnknownKind.{UnknownKind}

-- The number of each kind in an image, and its name.
abbrev pub kind_number : Kind → ℕ
kind_number SignalWords = 1
kind_number Readings = 2

abbrev pub names : Kind → List ℕ
names SignalWords = codes "signal words"
names Readings = codes "readings"

-- A number is read as the kind that has it, and refused where none has.
abbrev pub Names : ℕ → Result Kind UnknownKind → Type 0
Names n (Ok kind) = n ≡ kind_number kind
Names n (Err e) = (n ≢ 1) × (n ≢ 2) × (e.0 ≡ n)

-- The kind that an image names by its first byte: readings where that is 2, else signal words.
abbrev pub named : List ℕ → Kind
named image = cond (slice_index image 0 == 2) Readings SignalWords

-- The bit of value 2 ^ i of a word.
abbrev pub bit : ℕ → ℕ → Bool
bit word i = word / 2 ^ i % 2 == 1

-- A signal word answers 32 questions, question i by that bit.
unfoldable pub bits : ℕ → List Bool
bits word = map (λ i. bit word i) (range_with_len 0 32)

-- A reading answers three: fault, pre-alarm, alarm.
abbrev pub bands : ℕ → ℕ → ℕ → ℕ → List Bool
bands level fault pre_alarm alarm = nat_le level fault ∷ nat_le pre_alarm level ∷ nat_le alarm level ∷ []

-- How a label kind stands in an image: the kind's number, the answers of the label that four bytes code (none where they code no label), and the bytes of a fresh holder's label.
pub record Coding : Type 0 where
  pub kind : ℕ
  pub decoded : List ℕ → Option (List Bool)
  pub fresh : List ℕ

abbrev pub at : List ℕ → ℕ → ℕ
at bytes i = slice_index bytes i

-- A word has its low byte first.
abbrev pub word : List ℕ → ℕ
word bytes = at bytes 0 + at bytes 1 * 256 + at bytes 2 * 65536 + at bytes 3 * 16777216

abbrev pub words : Coding
words = record { kind = 1; decoded = λ bytes. Some (bits (word bytes)); fresh = 0 ∷ 0 ∷ 0 ∷ 0 ∷ [] }

-- A reading's bytes are its level and its fault, pre-alarm and alarm limits, which rise.
abbrev pub stored : ℕ → ℕ → ℕ → ℕ → List ℕ
stored level fault pre_alarm alarm = level ∷ fault ∷ pre_alarm ∷ alarm ∷ []

abbrev pub readings : Coding
readings =
    record {
      kind = 2;
      decoded = λ bytes.
          cond (nat_lt (at bytes 1) (at bytes 2) && nat_lt (at bytes 2) (at bytes 3))
          (Some (bands (at bytes 0) (at bytes 1) (at bytes 2) (at bytes 3))) None;
      fresh = 0 ∷ 0 ∷ 1 ∷ 2 ∷ [];
    }
