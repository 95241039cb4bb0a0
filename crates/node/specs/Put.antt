-- What writing to the file slice ensures. Assumes nothing.
use Rattle.std.specs.Prelude.{◌≡◌, Option, List, [], ◌∷◌, ◌++◌, ℕ, ◌+◌, length, take}
use Rattle.std.specs.Prelude as Std
use Rattle.std.proofs.Math.Option as maybe
use Rattle.definition.specs.Source as S
use Rattle.definition.specs.Places.{place_of}
use Rattle.definition.specs.Node.{Num, byte, two, eight, Rec, rec_bytes}
use Rattle.definition.specs.Numbers.{tag_number}
use Rattle.definition.specs.declared.place.Place.{Place}
use Rattle.definition.specs.declared.tag.Tag.{Tag}
use Rattle.node.specs.declared.Numbers.{Numbers}
use Rattle.node.specs.declared.Numbers.TheVariants.{None, Byte, Two, Eight, ByteTwo}
use Rattle.node.specs.declared.Record.{Record}

-- the place of a record, and its bytes
abbrev pub place_in : Option Place → maybe.Option S.Place
place_in Std.None = maybe.none
place_in (Std.Some p) = maybe.some (place_of p)

abbrev pub place_size : Option Place → ℕ
place_size Std.None = 0
place_size (Std.Some p) = 4

-- the numbers of a record, and their width in bytes
abbrev pub nums_of : Numbers → List Num
nums_of None = []
nums_of (Byte b) = byte b ∷ []
nums_of (Two n) = two n ∷ []
nums_of (Eight n) = eight n ∷ []
nums_of (ByteTwo b n) = byte b ∷ two n ∷ []

abbrev pub width_of : Numbers → ℕ
width_of None = 0
width_of (Byte b) = 1
width_of (Two n) = 2
width_of (Eight n) = 8
width_of (ByteTwo b n) = 3

-- a record as the definition has it: with a place, and without one
abbrev pub placed : Place → Tag → Numbers → List ℕ → Rec
placed p tag numbers text =
    record { tag = tag_number tag; place = maybe.some (place_of p); numbers = nums_of numbers; text = text }

abbrev pub bare_of : ℕ → Numbers → List ℕ → Rec
bare_of tag numbers text = record { tag = tag; place = maybe.none; numbers = nums_of numbers; text = text }

abbrev pub rec_of : Record → Rec
rec_of r = record { tag = tag_number r.tag; place = place_in r.place; numbers = nums_of r.numbers; text = r.text.now }

-- its length in bytes
abbrev pub num_size : Num → ℕ
num_size (byte n) = 1
num_size (two n) = 2
num_size (eight n) = 8

abbrev pub nums_size : List Num → ℕ
nums_size [] = 0
nums_size (n ∷ ns) = num_size n + nums_size ns

abbrev pub head_size : maybe.Option S.Place → ℕ
head_size maybe.none = 3
head_size (maybe.some p) = 7

abbrev pub size_of : Rec → ℕ
size_of r = head_size r.place + nums_size r.numbers + length r.text

-- the record r is written from p to q
pub record Wrote (o : List ℕ) (p : ℕ) (r : Rec) (o' : List ℕ) (q : ℕ) : Type 0 where
  pub end : q ≡ p + size_of r
  pub is : take q o' ≡ take p o ++ rec_bytes r
