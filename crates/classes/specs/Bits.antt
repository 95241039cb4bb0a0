-- The classes of a character as the table names them, a bit for each. Assumes nothing.
use Rattle.std.specs.Prelude.{Bool, not, ◌&&◌, ℕ, ◌+◌, eqb, ltb}
use Rattle.std.specs.Int.RustNames.{bit_and}
use Rattle.definition.specs.Choice.{pick}
use Rattle.definition.specs.Classes as C
use Rattle.classes.specs.declared.character.TheConstants.{WHITE, LETTER, NUMERIC, BINARY, DECIMAL, HEXADECIMAL, BLANK, WORD_BYTE}

-- whether a first byte is a character by itself, of a class
abbrev pub one_byte : (ℕ → Bool) → ℕ → Bool
one_byte class b = ltb b 128 && class b

-- exactly those that it has: no other bit is set
abbrev pub classes_of : ℕ → ℕ
classes_of c =
    pick (C.is_white c) WHITE 0 + pick (C.is_letter c) LETTER 0 + pick (C.is_numeric c) NUMERIC 0
    + pick (C.is_binary c) BINARY 0 + pick (C.is_digit c) DECIMAL 0 + pick (C.is_hexadecimal c) HEXADECIMAL 0
    + pick (one_byte C.is_white c) BLANK 0 + pick (one_byte C.is_word c) WORD_BYTE 0

-- whether it has one of some classes
abbrev pub has_any : ℕ → ℕ → Bool
has_any some c = not (eqb (bit_and (classes_of c) some) 0)
