use mathlib.Core.Path.{refl}
use mathlib.Core.Logic.{inl, inr}
use Rattle.definition.specs.Go.{go}
use Rattle.definition.specs.Act.{run}
use Rattle.steps.proofs.SameKind.{same_number, other_number}
use Rattle.items.proofs.Modules.{item_reads, item_assembly, item_other}
use Rattle.items.proofs.top_level_item.Goals as goal

pub returns-in-KwFn : goal.returns-in-KwFn
unfolding go run
returns-in-KwFn c = elim c.in-KwFn.is [
  | inl e ↦ item_reads c.peek-t.ensures (same_number e) (λ S. refl) c.function_definition.ensures
  | inr e ↦ item_reads c.peek-t.ensures (same_number e) (λ S. refl) c.function_definition.ensures
]

pub returns-in-KwType : goal.returns-in-KwType
unfolding go run
returns-in-KwType c = elim c.in-KwType.is [
  | inl e ↦ item_reads c.peek-t.ensures (same_number e) (λ S. refl) c.type_alias.ensures
  | inr (inl e) ↦ item_reads c.peek-t.ensures (same_number e) (λ S. refl) c.type_alias.ensures
  | inr (inr e) ↦ item_reads c.peek-t.ensures (same_number e) (λ S. refl) c.type_alias.ensures
]

pub returns-in-KwUse : goal.returns-in-KwUse
unfolding go run
returns-in-KwUse c = item_reads c.peek-t.ensures (same_number c.in-KwUse.is) (λ S. refl) (c.use_path.ensures _)

pub returns-in-KwVar : goal.returns-in-KwVar
unfolding go run
returns-in-KwVar c = item_reads c.peek-t.ensures (same_number c.in-KwVar.is) (λ S. refl) c.top_level_var_declaration.ensures

pub returns-in-InlineAssemblyFragment : goal.returns-in-InlineAssemblyFragment
returns-in-InlineAssemblyFragment c =
    item_assembly c.peek-t.ensures c.requires (same_number c.in-InlineAssemblyFragment.is) c.leaf.ensures

pub returns-in_default : goal.returns-in_default
returns-in_default c =
    item_other c.peek-t.ensures c.requires (other_number c.in_default.not-KwFn)
    (other_number c.in_default.not-KwExtern) (other_number c.in_default.not-KwType)
    (other_number c.in_default.not-KwDistinct) (other_number c.in_default.not-KwInternal)
    (other_number c.in_default.not-KwUse) (other_number c.in_default.not-KwVar)
    (other_number c.in_default.not-InlineAssemblyFragment) c.new-error.ensures
    c.raise.ensures
