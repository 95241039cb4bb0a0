-- Losses that the Rust does not report (docs/FORMAT.md, Losses): entries of the full list that are made before parsing
-- begins. Assumes nothing.
use Rattle.std.specs.Prelude.{true, false, List, [], ◌∷◌, ℕ, leb, length}
use Rattle.definition.specs.ParseError as E
use Rattle.definition.specs.Kind as K
use Rattle.definition.specs.Choice.{pick}
use Rattle.definition.specs.Fallible.{Err}
use Rattle.definition.specs.Token.{Tok, ◌is◌}
use Rattle.definition.specs.Act.{Items, Res, refused}
use Rattle.definition.specs.Parser.{error, parse_module_within}

-- the entry for a token that lost something: a Minus the character after it, assembly its end
abbrev pub loss : Tok → Err
loss t = error (pick (t is K.Minus) E.CharacterLost E.AssemblyNotClosed) t.place 0 0

-- those of a script's tokens, in order
unfoldable pub losses : List Tok → List Err
losses [] = []
losses (t ∷ ts) = elim t.lost [ true ↦ loss t ∷ losses ts | false ↦ losses ts ]

-- parses tokens, with their losses first in the full list, where at most n counted calls may be open
unfoldable pub parse_tokens_within : ℕ → List Tok → Res Items
unfolding losses parse_module_within
parse_tokens_within n ts = elim (leb (length (losses ts)) 255) [ true ↦ parse_module_within n (losses ts) ts | false ↦ refused 12 ]

unfoldable pub parse_tokens : List Tok → Res Items
unfolding parse_tokens_within
parse_tokens ts = parse_tokens_within 96 ts
