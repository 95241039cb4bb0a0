use Rattle.std.proofs.Common.{rules}
use Rattle.classes.proofs.Bits.{entry_names}
use Rattle.classes.proofs.character.classes.Goals as goal

pub returns : goal.returns
returns c = search (entry_names, rules)
