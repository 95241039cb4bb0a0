-- The parts of the definition's functions for which the code has functions of their own. Assumes nothing.
use Rattle.std.specs.Prelude.{not, List, [], ◌∷◌, ◌++◌, ℕ, leb}
use Rattle.definition.specs.Tag as Tag
use Rattle.definition.specs.Source.{Place}
use Rattle.definition.specs.Node.{byte, two}
use Rattle.definition.specs.Fallible.{Fallible, Ans}
use Rattle.definition.specs.Kind as K
use Rattle.definition.specs.Act as A
use Rattle.definition.specs.Token.{Tok, ◌is◌}
use Rattle.definition.specs.Act.{Items, Node, Act, done, peek, next, panic, loop, when◌then◌else◌, ◌>>=◌, ◌>>?◌}
use Rattle.definition.specs.Parser as P
unfoldable pub use Rattle.definition.specs.Parser.{alias_rule, path_rule}
use Rattle.expression_laws.specs.Post.{as_answer}

-- the return type of a function at the place p
abbrev pub return_rule : Place → Act (Ans Node)
return_rule p = peek λ t. when t is K.RArrow then (next λ _. P.parse_type) else P.good (P.node [] Tag.Void p [] []) []

-- the parameters and the return type: the records in reading order, the errors of the type first
abbrev pub signed : Items → Fallible Node → Items
signed ps r = record { count = ps.count; recs = ps.recs ++ r.item.recs; errors = r.errors ++ ps.errors }

unfoldable pub signature_rule : Place → Act (Ans Items)
signature_rule p =
    P.parse_list A.Parameters >>= λ ps.
    return_rule p >>? λ r.
    as_answer (signed ps r)

-- the token that names an item, of the kind k, and what follows it: the end is refused, another token is the error e
abbrev pub naming : ℕ → ℕ → (Tok → Act (Ans Node)) → Act (Ans Node)
naming k e m =
    next λ n.
    when n is K.End then panic else
    when not (n is k) then P.raise (P.error e n.place 0 0) else
    m n

-- the body, and the record of the function
abbrev pub function_on : Place → ℕ → List ℕ → Fallible Items → Act (Ans Node)
function_on p external name x =
    when leb 1 external then
    (P.expect K.Semicolon >>? λ _.
    P.good (P.node x.item.recs Tag.FunctionDefinition p (byte 1 ∷ two x.item.count ∷ []) name) x.errors) else
    (P.parse_body >>= λ b.
    P.good (P.node (x.item.recs ++ (P.node b.recs Tag.Block p (two b.count ∷ []) []).recs) Tag.FunctionDefinition p (byte 0 ∷ two x.item.count ∷ []) name) (b.errors ++ x.errors))

-- the loop of a module
abbrev pub items_on : Items → Act Items
items_on i = loop (A.Module i) done
