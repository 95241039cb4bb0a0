-- Maps the classes of the code to those of the definition. Assumes nothing.
use Rattle.std.specs.Prelude.{◌≡◌, ℕ, ⊤}
use Rattle.definition.specs.Tokenizer as Z
use Rattle.definition.specs.Numbers.{kind_number}
use Rattle.classes.specs.declared.character.Class.{Class}

abbrev pub class_of : Class → Z.Class
class_of Class.White = Z.White
class_of Class.Comment = Z.Comment
class_of (Class.Pair kind) = Z.Pair
class_of (Class.Symbol kind) = Z.Symbol
class_of Class.Quote = Z.Quote
class_of Class.Word = Z.Word
class_of Class.Dash = Z.Dash
class_of Class.Zero = Z.Zero
class_of Class.Digit = Z.Digit
class_of Class.Unknown = Z.Unknown

-- the kind that goes with a symbol's class is the symbol's
abbrev pub Carries : Class → ℕ → ℕ → Type 0
Carries (Class.Pair kind) c d = kind_number kind ≡ Z.pair c d
Carries (Class.Symbol kind) c d = kind_number kind ≡ Z.symbol c
Carries x c d = ⊤
