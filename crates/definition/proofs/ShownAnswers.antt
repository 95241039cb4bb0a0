-- What the answers of a reading without errors show, and the steps of such a reading. Assumes nothing.
use mathlib.Core.Path.{◌≡◌}
use mathlib.Core.Bool.{true, false}
use mathlib.Core.List.{List, [], ◌++◌}
use Prim.Native.Nat.{ℕ, zero, suc, ◌<◌}
use lib.ListN.{length}
use Rattle.definition.specs.Choice.{pick}
use Rattle.definition.specs.Kind as K
use Rattle.definition.specs.Source.{Place}
use Rattle.definition.specs.Fallible.{Err, Fallible, Ans}
use Rattle.definition.specs.Token.{Tok, next_token, ◌is◌}
use Rattle.definition.specs.Act.{Node, Items, Goal, Statement, Expression, Unary, Type', Loop, Module, Body, ListOf, Operators, Casts, Suffixes, Modifiers, Listed, Left, Role, Act, done, call, St, advance, ◌>>=◌, ◌>>?◌}
use Rattle.definition.specs.Parser as P
use Rattle.definition.proofs.Strip.{Norm}
use Rattle.definition.proofs.Later.{Later, next_state}
use Rattle.definition.proofs.Ind.{wp, Sure, try_sure}
use Rattle.definition.proofs.Unparse.{sym1, comma}
use Rattle.definition.proofs.Shown.{Fresh, Distinct, Grew, ◌▸◌, Shows, ShowsItems}

-- ---- what is shown of an answer

-- what else holds of a goal: an expression's place is fresh, a type is not empty
abbrev pub Extra : Goal → Place → List Norm → St → Type 0
Extra Statement p ts s = Unit {0}
Extra Expression p ts s = Fresh p s.tokens
Extra Unary p ts s = Fresh p s.tokens
Extra Type' p ts s = 0 < length ts

-- the records of an answer show the tokens that were read, and no error is reported
pub record Shown (g : Goal) (s : St) (x : Fallible Node) (s' : St) : Type 0 where
  pub toks : List Norm
  pub grew : Grew s toks s'
  pub shows : Shows x.item.recs x.item.place toks
  pub none : x.errors ≡ []
  pub extra : Extra g x.item.place toks s'

-- a loop continues the operand e
pub record Tail (e : Fallible Node) (s : St) (x : Fallible Node) (s' : St) : Type 0 where
  pub toks : List Norm
  pub grew : Grew s toks s'
  pub shows : (ts : List Norm) → Fresh e.item.place s.tokens → Shows e.item.recs e.item.place ts
      → Shows x.item.recs x.item.place (ts ++ toks)
  pub fresh : Fresh e.item.place s.tokens → Fresh x.item.place s'.tokens
  pub none : e.errors ≡ [] → x.errors ≡ []

-- a loop continues the items i, up to the tokens `end`
pub record Sequel (end : List Norm) (i : Items) (s : St) (a : Items) (s' : St) : Type 0 where
  pub toks : List Norm
  pub grew : Grew s (toks ++ end) s'
  pub shows : (ts : List Norm) → ShowsItems [] i ts → ShowsItems [] a (ts ++ toks)
  pub none : i.errors ≡ [] → a.errors ≡ []

-- the tokens of a list, with those that come before the next item
abbrev pub lead : ℕ → List Norm → List Norm
lead zero ts = []
lead (suc n) ts = ts ++ comma

abbrev pub start : Listed → Items → List Norm → Tok → List Norm
start k i ts t = pick (t is P.closer k) ts (lead i.count ts)

-- the tokens due are those of the items and the closer
pub record Rest (k : Listed) (a : Items) (due : List Norm) : Type 0 where
  pub all : List Norm
  pub shows : ShowsItems comma a all
  pub whole : due ≡ all ++ sym1 (P.closer k)

-- a loop continues the items i of a list
pub record ListSequel (k : Listed) (i : Items) (s : St) (a : Items) (s' : St) : Type 0 where
  pub toks : List Norm
  pub grew : Grew s toks s'
  pub there : next_token s.tokens is K.End ≡ false
  pub shows : (ts : List Norm) → ShowsItems comma i ts → Rest k a (start k i ts (next_token s.tokens) ++ toks)
  pub none : i.errors ≡ [] → a.errors ≡ []

-- the invariants for `wp`: no token has the place of another, and no error is made
abbrev pub G : Goal → St → Ans Node → St → Type 0
G g s a s' = Sure (Shown g s) a s'

abbrev pub TailOf : Fallible Node → St → Ans Node → St → Type 0
TailOf e s a s' = Sure (Tail e s) a s'

abbrev pub L : (l : Loop) → St → Left l → St → Type 0
L (Module i) s a s' = Sequel [] i s a s'
L (Body i) s a s' = Sequel (sym1 K.RBrace) i s a s'
L (ListOf k i) s a s' = ListSequel k i s a s'
L (Operators l e) s a s' = TailOf e s a s'
L (Casts e) s a s' = TailOf e s a s'
L (Suffixes e) s a s' = TailOf e s a s'
L (Modifiers w) s a s' = Grew s [] s'

abbrev pub R : St → Type 0
R s = Distinct s.tokens

abbrev pub M : Err → St → Type 0
M e s = ⊥

abbrev pub cwp : {A : Type 0} → Act A → (A → St → Type 0) → St → Type 0
cwp m Q s = wp G L R M m Q s

-- ---- steps

-- `expect(..)?`
pub expects : {B : Type 0} (r : Role) (k : ℕ) (f : Fallible Tok → Act (Ans B)) (Q : Ans B → St → Type 0) (s : St)
    → (next_token s.tokens is k ≡ true → Distinct s.tokens
    → cwp (f (record { item = next_token s.tokens; errors = [] })) Q (advance (λ _. r) s))
    → cwp (P.expect_as r k >>? f) Q s
unfolding ◌>>=◌
expects r k f Q s h = λ d. (λ i. h i d, λ _. (λ _ m. absurd m, λ _ m. absurd m))

pub identifier : {B : Type 0} (f : Fallible Tok → Act (Ans B)) (Q : Ans B → St → Type 0) (s : St)
    → (next_token s.tokens is K.Identifier ≡ true → Distinct s.tokens
    → cwp (f (record { item = next_token s.tokens; errors = [] })) Q (next_state s))
    → cwp (P.expect_identifier >>? f) Q s
unfolding ◌>>=◌
identifier f Q s h = λ d. (λ i. h i d, λ _. (λ _ m. absurd m, λ _ m. absurd m))

-- a call, under `?`
pub calls : {B : Type 0} (g : Goal) (f : Fallible Node → Act (Ans B)) (Q : Ans B → St → Type 0) (s : St)
    → ((x : Fallible Node) (s' : St) → Later s s' → Shown g s x s' → cwp (f x) Q s') → cwp (call g done >>? f) Q s
unfolding ◌>>=◌
calls g f Q s h = (h, λ es s' l p. absurd p)

-- another function, under `?`
pub uses : {B : Type 0} (g : Goal) (m : Act (Ans Node)) (f : Fallible Node → Act (Ans B)) (Q : Ans B → St → Type 0) (s : St)
    → cwp m (G g s) s → ((x : Fallible Node) (s' : St) → Later s s' → Shown g s x s' → cwp (f x) Q s') → cwp (m >>? f) Q s
uses g m f Q s w h = try_sure G L R M (Shown g s) m f Q s w h

pub joined : {e x : List Err} → e ≡ [] → x ≡ [] → e ++ x ≡ []
joined p q = rw (p, q)

-- an operand, and the loop that continues it
pub goes_on : (s t u : St) (e x : Fallible Node) → Shown Expression s e t → Tail e t x u → Shown Expression s x u
goes_on s t u e x p q =
    record {
      toks = p.toks ++ q.toks;
      grew = p.grew ▸ q.grew;
      shows = q.shows p.toks p.extra p.shows;
      none = q.none p.none;
      extra = q.fresh p.extra;
    }
