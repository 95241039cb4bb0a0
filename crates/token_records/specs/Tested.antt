-- Parts of the validation of a token record. Assumes nothing.
use Rattle.std.specs.Prelude.{◌≡◌, Bool, true, false, ◌&&◌, List, ℕ, ◌-◌, eqb, leb, length, take, drop, Option, MatchOption}
use Rattle.definition.specs.Kind as K
use Rattle.definition.specs.Choice.{pick}
use Rattle.definition.specs.Numbers.{kind_number}
use Rattle.definition.specs.Source.{utf8}
use Rattle.definition.specs.Records as R
use Rattle.definition.specs.Records.{TokenWords, has_text, integer_text}
use Rattle.token_records.specs.declared.Token.{Token}

-- the part of the text slice from start to end
abbrev pub part_fits : List ℕ → ℕ → ℕ → Bool
part_fits text start end = leb end 16384 && leb end (length text) && utf8 (take (end - start) (drop start text))

-- the rules on the part of the text
abbrev pub text_fits : List ℕ → TokenWords → Bool
text_fits text w =
    pick (has_text w.kind) (R.text_fits text w) (eqb w.start 0 && eqb w.size 0)
    && pick (eqb w.kind K.Integer) (integer_text w.base (R.part text w)) true

abbrev pub words_of : Token → TokenWords
words_of t = record { kind = kind_number t.kind; line = t.place.line; column = t.place.column; start = t.start; size = t.size; base = t.base; seventh = pick t.lost 1 0; eighth = 0 }

-- the token of the words of a record, or none where they are not valid
abbrev pub Validates : List ℕ → TokenWords → Option Token → Type 0
Validates text w r = MatchOption r (R.valid_alone text w ≡ false) (λ t. (R.valid_alone text w ≡ true) × (words_of t ≡ w))
