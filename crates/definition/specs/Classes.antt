-- Classes of characters, by their numbers: those of Rust, of all below 256. Above 255 only `is_foreign` holds. Assumes
-- nothing.
use Rattle.std.specs.Prelude.{Bool, ◌&&◌, ◌||◌, ℕ, eqb, ltb, leb}
use Rattle.definition.specs.Ascii.{char}
use Rattle.definition.specs.Choice.{pick}

abbrev pub between : ℕ → ℕ → ℕ → Bool
between lo hi c = leb lo c && leb c hi

-- what is refused where a class is asked for
abbrev pub is_foreign : ℕ → Bool
is_foreign c = ltb 255 c

-- `is_whitespace`: 133 and 160 too
abbrev pub is_white : ℕ → Bool
is_white c = between 9 13 c || eqb c 32 || eqb c 133 || eqb c 160

abbrev pub is_digit : ℕ → Bool
is_digit c = between (char "0") (char "9") c

-- above 127: the two ordinals, the micro sign, and all from 192 on but the signs of multiplication and division
abbrev pub is_alphabetic : ℕ → Bool
is_alphabetic c =
    between (char "A") (char "Z") c || between (char "a") (char "z") c || eqb c 170 || eqb c 181 || eqb c 186
    || between 192 214 c || between 216 246 c || between 248 255 c

-- digits, and above 127 superscripts and fractions
abbrev pub is_numeric : ℕ → Bool
is_numeric c = is_digit c || between 178 179 c || eqb c 185 || between 188 190 c

-- the first character of a word
abbrev pub is_letter : ℕ → Bool
is_letter c = is_alphabetic c || eqb c (char "_")

-- a character after the first of a word
abbrev pub is_word : ℕ → Bool
is_word c = is_letter c || is_numeric c

abbrev pub is_binary : ℕ → Bool
is_binary c = between (char "0") (char "1") c

abbrev pub is_hexadecimal : ℕ → Bool
is_hexadecimal c = is_digit c || between (char "A") (char "F") c || between (char "a") (char "f") c

-- a digit of base 2, 10 or 16
abbrev pub is_digit_of : ℕ → ℕ → Bool
is_digit_of base c = pick (eqb base 2) (is_binary c) (pick (eqb base 10) (is_digit c) (is_hexadecimal c))
