-- Which operator, comparison or prefix a kind is. Assumes nothing.
use mathlib.Core.Path.{◌≡◌, refl, sym, ◌∙◌}
use mathlib.Core.Bool.{Bool, true, false, not, ◌||◌}
use mathlib.Core.List.{List, [], ◌∷◌}
use Prim.Native.Nat.{ℕ, zero, suc, ◌<◌}
use native.Mathlib.Omega.{arith}
use lib.Dec.{eqb}
use borrow.Author.Tests.{eqb-true, eqb-false, not-true}
use Rattle.std.specs.Prelude.{Option, Some, None}
use Rattle.definition.specs.Choice.{pick}
use Rattle.definition.specs.Fallible.{Ans}
use Rattle.definition.specs.Token.{Tok, next_token}
use Rattle.definition.specs.Act as A
use Rattle.definition.specs.Act.{Node, Act, St, run}
use Rattle.definition.specs.Kind as K
use Rattle.definition.specs.Parser as P
use Rattle.definition.specs.Go.{go}
use Rattle.definition.proofs.Tests.{clash, parts_true}
use Rattle.leaves.specs.declared.Level.{Level}
use lib.ListN.{get_or}
use Rattle.leaves.specs.Leaves.{levels, level_of, level_at, operator_of, is_arithmetic, prefixes, is_name_alone}

-- ---- the search in a table

module _ (t : Tok) (k : ℕ) (e : t.kind ≡ k) (found : ℕ → Act (Ans Node)) (other : Act (Ans Node)) (d : ℕ) (S : St) where
  finds : (ops : List P.Op) → go d (P.find t ops found other) S
      ≡ go d (elim (operator_of ops k) [ None ↦ other | Some o ↦ found o ]) S
  unfolding go run
  finds [] = refl
  finds (o ∷ os) = one (finds os) (eqb k o.kind) refl
    where
      one : go d (P.find t os found other) S ≡ go d (elim (operator_of os k) [ None ↦ other | Some o ↦ found o ]) S
          → (b : Bool) → eqb k o.kind ≡ b → go d (P.find t (o ∷ os) found other) S
          ≡ go d (elim (pick b (Some o.op) (operator_of os k)) [ None ↦ other | Some o ↦ found o ]) S
      one i true h = rw (run, e, h)
      one i false h = rw (run, e, h) i

  module _ (ops : List P.Op) {r : Option ℕ} (g : r ≡ operator_of ops k) where
    -- the kind is no operator of the table, or it is one
    pub none_found : r ≡ None → go d (P.find t ops found other) S ≡ go d other S
    none_found h = finds ops ∙ rw (sym g ∙ h)

    pub one_found : {o : ℕ} → r ≡ Some o → go d (P.find t ops found other) S ≡ go d (found o) S
    one_found h = finds ops ∙ rw (sym g ∙ h)

-- the end is no operator
pub operator_real : (ops : List P.Op) (k : ℕ) {r : Option ℕ} {o : ℕ} → operator_of ops 0 ≡ None → r ≡ operator_of ops k → r ≡ Some o
    → 0 < k
operator_real ops zero z g h = cc (z, g, h)
operator_real ops (suc k) z g h = omega arith

pub level_end : (l : A.Level) → operator_of (P.mapping l) 0 ≡ None
level_end A.BitOr = refl
level_end A.BitXor = refl
level_end A.BitAnd = refl
level_end A.Shift = refl
level_end A.AddSub = refl
level_end A.Mul = refl

-- a level before the end does not depend on what stands for one past it
pub level_there : (k : ℕ) (l : Level) → k < 6 → level_of (get_or levels k l) ≡ level_at k
level_there zero l h = refl
level_there (suc zero) l h = refl
level_there (suc (suc zero)) l h = refl
level_there (suc (suc (suc zero))) l h = refl
level_there (suc (suc (suc (suc zero)))) l h = refl
level_there (suc (suc (suc (suc (suc zero))))) l h = refl
level_there (suc (suc (suc (suc (suc (suc k)))))) l h = absurd (omega arith)

-- ---- no operator of any level

pub neither : (a b : Bool) → (a || b) ≡ false → (a ≡ false) × (b ≡ false)
neither true b e = clash e
neither false b e = (refl, e)

pub no_operator : (k : ℕ) → is_arithmetic k ≡ false → (l : A.Level) → operator_of (P.mapping l) k ≡ None
no_operator k e l =
    let star = neither _ (eqb k K.Star) e in
    let minus = neither _ (eqb k K.Minus) star.0 in
    let plus = neither _ (eqb k K.Plus) minus.0 in
    let right = neither _ (eqb k K.RightShift) plus.0 in
    let left = neither _ (eqb k K.LeftShift) right.0 in
    let ampersand = neither _ (eqb k K.Ampersand) left.0 in
    let caret = neither _ (eqb k K.Caret) ampersand.0 in
    nowhere caret.0 caret.1 ampersand.1 left.1 right.1 plus.1 minus.1 star.1 l
  where
    nowhere : eqb k K.Bar ≡ false → eqb k K.Caret ≡ false → eqb k K.Ampersand ≡ false → eqb k K.LeftShift ≡ false
        → eqb k K.RightShift ≡ false → eqb k K.Plus ≡ false → eqb k K.Minus ≡ false → eqb k K.Star ≡ false
        → (l : A.Level) → operator_of (P.mapping l) k ≡ None
    nowhere bar caret ampersand left right plus minus star A.BitOr = rw bar
    nowhere bar caret ampersand left right plus minus star A.BitXor = rw caret
    nowhere bar caret ampersand left right plus minus star A.BitAnd = rw ampersand
    nowhere bar caret ampersand left right plus minus star A.Shift = rw (left, right)
    nowhere bar caret ampersand left right plus minus star A.AddSub = rw (plus, minus)
    nowhere bar caret ampersand left right plus minus star A.Mul = rw star

-- ---- prefixes

-- an operand begins with a prefix, or is a call
pub unary_finds : (d : ℕ) (S : St)
    → go d P.unary_rule S ≡ go d (P.find (next_token S.tokens) prefixes P.prefix P.parse_call) S
unfolding go run P.unary_rule
unary_finds d S = refl

pub no_prefix : {k : ℕ} → k ≡ K.Identifier → None ≡ operator_of prefixes k
no_prefix z = rw z

-- ---- a name alone

-- an identifier, followed by neither a suffix nor `(`
pub record NameAlone (k next : ℕ) : Type 0 where
  pub name : k ≡ K.Identifier
  pub dot : next ≡ K.Dot → ⊥
  pub star : next ≡ K.DotStar → ⊥
  pub bracket : next ≡ K.LBracket → ⊥
  pub paren : next ≡ K.LParen → ⊥

pub name_alone : (k next : ℕ) → is_name_alone k next ≡ true → NameAlone k next
name_alone k next e =
    parts_true _ (not (eqb next K.LParen)) e λ a paren.
    parts_true _ (not (eqb next K.LBracket)) a λ b bracket.
    parts_true _ (not (eqb next K.DotStar)) b λ c star.
    parts_true (eqb k K.Identifier) (not (eqb next K.Dot)) c λ name dot.
    record {
      name = eqb-true k K.Identifier name;
      dot = other K.Dot dot;
      star = other K.DotStar star;
      bracket = other K.LBracket bracket;
      paren = other K.LParen paren;
    }
  where
    other : (m : ℕ) → not (eqb next m) ≡ true → next ≡ m → ⊥
    other m z = eqb-false next m (not-true _ z)
