-- Places as the code has them. Assumes nothing.
use Rattle.definition.specs.Source as S
use Rattle.definition.specs.declared.place.Place.{Place}

-- the definition's place
abbrev pub place_of : Place → S.Place
place_of p = S.place_at p.line p.column
