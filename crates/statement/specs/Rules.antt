-- The parts of the definition's functions for which the code has functions of their own. Assumes nothing.
use Rattle.std.specs.Prelude.{◌++◌}
use Rattle.definition.specs.Fallible.{Ans}
use Rattle.definition.specs.Act.{Node, Act, ◌>>?◌}
use Rattle.definition.specs.Parser as P

-- a condition and the statement it guards, without a record of their own
abbrev pub guarded_rule : Act (Ans Node)
guarded_rule =
    P.parse_expression >>? λ c.
    P.parse_statement >>? λ b.
    P.good (record { place = b.item.place; recs = c.item.recs ++ b.item.recs }) (c.errors ++ b.errors)
