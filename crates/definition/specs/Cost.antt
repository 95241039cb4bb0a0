-- An upper bound of the file bytes for each token. Not part of the operations' definition: contracts and the law of
-- room cite it. Assumes nothing.
use Rattle.std.specs.Prelude.{List, [], ◌∷◌, ℕ, ◌+◌, ◌*◌, min, length}
use Rattle.definition.specs.Token.{Tok}

abbrev pub cost : Tok → ℕ
cost t = 16 * min t.kind 1 + length t.text

unfoldable pub spend : List Tok → ℕ
spend [] = 0
spend (t ∷ ts) = cost t + spend ts
