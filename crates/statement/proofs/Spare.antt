-- What a parsed part leaves of the budget: an expression leaves at least eight bytes of its tokens' share, room for
-- the record of a statement that ends with it. Assumes nothing.
use mathlib.Core.Path.{◌≡◌, refl, sym, ap, ◌∙◌, subst}
use mathlib.Core.List.{List, []}
use Prim.Native.Nat.{ℕ, ◌+◌, ◌≤◌}
use native.Mathlib.Omega.{arith}
use lib.ListN.{length, take, length-append}
use lib.Seq.{length-take-le}
use Rattle.definition.specs.Node.{Rec, recs_bytes}
use Rattle.definition.specs.Fallible.{Fallible, ok}
use Rattle.definition.specs.Act.{Node, Expression, St, gives}
use Rattle.definition.specs.Parser as P
use Rattle.definition.specs.Parser.{parse}
use Rattle.definition.proofs.Later.{After}
use Rattle.definition.proofs.Size as Z
use Rattle.definition.proofs.Room.{recs_length}
use Rattle.definition.proofs.Flat.{go_call}
use Rattle.fallible.specs.declared.parser.State.{State}
use Rattle.fallible.specs.Answer.{Status, Done, Fatal, Refused, Answer}
use Rattle.node.specs.Put.{size_of}
use Rattle.steps.specs.Tokens.{budget, Parts}
use Rattle.steps.specs.Shows.{Asked, Moved, Good, Reads, node, NodeWrittenOf, NodeWritten}
use Rattle.steps.proofs.Records.{budget_spend}
use Rattle.steps.proofs.Answers.{good_of}
use Rattle.expression_laws.proofs.Types.{node_written_moved}
use Rattle.fallible.specs.declared.error.Error.{Error}

-- the definition's law for an expression
spared : (n : ℕ) (s : St) (x : Fallible Node) (s' : St) → parse n Expression s ≡ gives (ok x) s'
    → Z.weight x.item.recs + 8 + Z.budget s'.tokens ≤ Z.budget s.tokens
spared n s x s' e = (subst (After _) e (Z.goal_size (λ _. 1) n Expression s)).1.0

module _ {w x : List ℕ} {n d : ℕ} {o : List ℕ} {r f : List Error} {o' : List ℕ} {r' f' : List Error} {s : State} {a : Answer} (parts : Parts w x n) (q : Asked w n o r f s)
    (u : Reads node w x n d P.parse_expression o r f s o' r' f' a) where
  -- an expression leaves at least eight bytes of its tokens' share
  pub expression_spares : length o' ≡ length o → a.status ≡ Done
      → a.state.pos + budget w n a.state.at + 8 ≤ s.pos + budget w n s.at
  expression_spares l z =
      let g : Good node (take s.pos o) _ [] [] w x n o' r' f' a _ = good_of z (u.is []) in
      let e : a.state.pos ≡ s.pos + length (recs_bytes g.item.recs) = sym
      (length-take-le a.state.pos o' (omega (arith, u.moved.room, q.room))) ∙ ap length g.tree
      ∙ length-append (take s.pos o) _ ∙ ap (λ (k : ℕ). k + length (recs_bytes g.item.recs))
      (length-take-le s.pos o (omega (arith, q.room))) in
      omega (
        arith,
        e,
        recs_length g.item.recs,
        spared d _ _ _ (sym (go_call d Expression _) ∙ g.is),
        budget_spend s.at parts,
        budget_spend a.state.at parts,
      )

-- a record after an answer: only a good answer needs room for it
pub written_moved : {w : List ℕ} {n i j : ℕ} {o o' : List ℕ} {s : State} {a y : Answer} {v : Rec} → Moved w n i j s a.state
    → (a.status ≡ Done → a.state.pos + budget w n a.state.at + size_of v ≤ s.pos + budget w n s.at)
    → NodeWritten o a v o' y → Moved w n i j s y.state
written_moved {w} {n} {i} {j} {o} {o'} {s} {a} {y} {v} M paid F = one a.status refl F.is
  where
    one : (h : Status) → a.status ≡ h → NodeWrittenOf h o a v o' y → Moved w n i j s y.state
    one Done z m = node_written_moved M (paid z) F
    one Fatal z m = rw m.0 M
    one (Refused u) z m = rw m.0 M
