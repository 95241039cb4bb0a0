-- Kinds of tokens and their numbers. Assumes nothing.
use mathlib.Core.Path.{◌≡◌, sym, ap, ◌∙◌}
use mathlib.Core.Bool.{Bool, true, false}
use denote.Enum.Bare.{sameb, same_true, same_false, tag_one}
use Rattle.definition.specs.Numbers.{kind_number}
use Rattle.definition.specs.contracts.kind.Kind.{the_type}
use Rattle.definition.specs.declared.kind.Kind.{Kind}
use Rattle.definition.proofs.Positions.{position}

module _ {a b : Kind} where
  -- a kind has one number
  pub same_number : a ≡ b → kind_number a ≡ kind_number b
  same_number e = ap kind_number e

  -- two kinds have two numbers
  pub other_number : (a ≡ b → ⊥) → kind_number a ≡ kind_number b → ⊥
  other_number h e = h (tag_one the_type tt a b (position a ∙ e ∙ sym (position b)))

-- what a test of two kinds says of their numbers
module _ (a b : Kind) {r : Bool} (e : r ≡ sameb the_type a b) where
  pub equal_kinds : r ≡ true → kind_number a ≡ kind_number b
  equal_kinds h = same_number (same_true the_type tt a b (sym e ∙ h))

  pub unequal_kinds : r ≡ false → kind_number a ≡ kind_number b → ⊥
  unequal_kinds h = other_number (same_false the_type a b (sym e ∙ h))
