-- An identifier with no suffix and no arguments is a whole operand. Assumes nothing.
use mathlib.Core.Path.{◌≡◌, refl, sym, ◌∙◌, subst}
use mathlib.Core.Bool.{Bool, false, not, ◌||◌}
use mathlib.Core.List.{List}
use Prim.Native.Nat.{ℕ, ◌-◌}
use native.Mathlib.Omega.{arith}
use lib.Dec.{eqb}
use lib.ListN.{length}
use borrow.Author.Tests.{eqb-false, not-false}
use Rattle.definition.specs.Numbers.{kind_number}
use Rattle.definition.specs.Parser as P
use Rattle.fallible.specs.declared.parser.State.{State}
use Rattle.fallible.specs.Answer.{Answer}
use Rattle.steps.specs.declared.tokens.Token.{Token}
use Rattle.steps.specs.Tokens.{Seen}
use Rattle.steps.specs.Shows.{Asked, Reads, node, NodeWritten}
use Rattle.leaves.specs.Leaves.{there, identifier, is_name_alone}
use Rattle.leaves.proofs.Choices.{neither, NameAlone, name_alone, no_prefix}
use Rattle.leaves.proofs.Atoms.{name_reads}
use Rattle.expression_laws.specs.Post.{suffixes_on}
use Rattle.expression_laws.proofs.Joins.{then_asked, goes_on}
use Rattle.expression_laws.proofs.Suffixes.{suffix_none}
use Rattle.expression_laws.proofs.Calls.{call_on, call_none, sizeof_other, unary_none}
use Rattle.fallible.specs.declared.error.Error.{Error}

module _ {w x : List ℕ} {n : ℕ} {o : List ℕ} {r f : List Error} {o1 : List ℕ} {s : State} {t u : Token} {a : Answer}
    (q : Asked w n o r f s) (v : Seen w x n s.at t) (e : Seen w x n a.state.at u)
    (F : NodeWritten o (there s t) (identifier t) o1 a) (same : length o1 ≡ length o) where
  name_access : (d : ℕ) → NameAlone (kind_number t.kind) (kind_number u.kind) → Reads node w x n d P.parse_field_access_or_index o r f s o1 r f a
  unfolding P.parse_field_access_or_index
  name_access d m =
      let b = name_reads (record { asked = q; bare = λ z. omega (arith, m.name, v.kind x, z) }) v m.name F d in
      then_asked suffixes_on q b (suffix_none (goes_on q b same refl refl) F.is.0 e m.dot m.star m.bracket)

  name_call : (d : ℕ) → NameAlone (kind_number t.kind) (kind_number u.kind) → Reads node w x n d P.parse_call o r f s o1 r f a
  unfolding P.parse_call
  name_call d m =
      let b = sizeof_other q v (λ z. omega (arith, m.name, z)) (name_access d m) in
      then_asked call_on q b (call_none (goes_on q b same refl refl) F.is.0 e m.paren)

module _ {w x : List ℕ} {n d : ℕ} {o : List ℕ} {r f : List Error} {o1 : List ℕ} {s : State} {t u : Token} {a : Answer}
    (q : Asked w n o r f s) (v : Seen w x n s.at t) (e : Seen w x n t.next u) where
  pub name_operand : {b : Bool} → b ≡ is_name_alone (kind_number t.kind) (kind_number u.kind) → (eqb d 0 || not b) ≡ false
      → NodeWritten o (there s t) (identifier t) o1 a → length o1 ≡ length o
      → Reads node w x n d P.parse_unary o r f s o1 r f a
  name_operand {b} g h F same =
      let p = neither (eqb d 0) (not b) h in
      let m = name_alone (kind_number t.kind) (kind_number u.kind) (sym g ∙ not-false b p.1) in
      unary_none q (eqb-false d 0 p.0) v (no_prefix m.name) refl
      (name_call q v (subst (λ (k : ℕ). Seen w x n k u) (sym F.at) e) F same (d - 1) m)
