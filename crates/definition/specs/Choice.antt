-- Defines a choice between two values, and among several: the first test that holds decides. Assumes nothing.
use Rattle.std.specs.Prelude.{Bool, true, false, List, [], ◌∷◌}

abbrev pub pick : {A : Type 0} → Bool → A → A → A
pick true a b = a
pick false a b = b

pub record Case (A : Type 0) : Type 0 where
  pub test : Bool
  pub answer : A

infix 40 ◌⇒◌
abbrev pub ◌⇒◌ : {A : Type 0} → Bool → A → Case A
b ⇒ a = record { test = b; answer = a }

unfoldable pub first : {A : Type 0} → List (Case A) → A → A
first [] other = other
first (c ∷ cs) other = pick c.test c.answer (first cs other)
