-- The induction over the parser with an invariant of the tokens left. Assumes nothing.
use mathlib.Core.List.{List, []}
use Rattle.definition.specs.Fallible.{Err, Ans, ok, fatal}
use Rattle.definition.specs.Token.{Tok, next_token, tail}
use Rattle.definition.specs.Act.{Node, Goal, Loop, Module, Left, Act, done, peek, consume, make, when◌then◌else◌, call, loop, panic, St, begin, advance, push}
use Rattle.definition.specs.Parser.{rule, turn, parse_module, no_items}
use Rattle.definition.proofs.Later.{Later, After, weaken}
use Rattle.definition.proofs.Ind.{wp, each, to_each, module_ind}

-- I: an invariant of the tokens left
module _ (G : Goal → St → Ans Node → St → Type 0) (L : (l : Loop) → St → Left l → St → Type 0) (I : List Tok → Type 0)
    (I_tail : (ts : List Tok) → I ts → I (tail ts)) (I_later : (s s' : St) → Later s s' → I s.tokens → I s'.tokens)
  where
    abbrev pub Known : St → Type 0
    Known s = I s.tokens

    abbrev pub Any : Err → St → Type 0
    Any e s = Unit {0}

    abbrev None : St → Type 0
    None s = Unit {0}

    abbrev G' : Goal → St → Ans Node → St → Type 0
    G' g s a s' = I s.tokens → G g s a s'

    abbrev L' : (l : Loop) → St → Left l → St → Type 0
    L' l s a s' = I s.tokens → L l s a s'

    carry : {A : Type 0} (X : Type 0) (Q : A → St → Type 0) (m : Act A) (s : St) → (X → I s.tokens)
        → (X → wp G L Known Any m Q s) → wp G' L' None Any m (λ a s'. X → Q a s') s
    carry X Q (done a) s i h = h
    carry X Q (peek k) s i h = carry X Q (k (next_token s.tokens)) s i h
    carry X Q (consume r k) s i h =
        λ _. carry X Q (k (next_token s.tokens)) (advance r s) (λ x. I_tail s.tokens (i x)) (λ x. h x (i x))
    carry X Q (make e m) s i h = λ _. carry X Q m (push e s) i (λ x. h x tt)
    carry X Q (when◌then◌else◌ b m n) s i h = (λ d. carry X Q m s i (λ x. (h x).0 d), λ d. carry X Q n s i (λ x. (h x).1 d))
    carry X Q (call g k) s i h = (
      λ y s' l p. carry X Q (k (ok y)) s' (λ x. I_later s s' l (i x)) (λ x. (h x).0 y s' l (p (i x))),
      λ es s' l p. carry X Q (k (fatal es)) s' (λ x. I_later s s' l (i x)) (λ x. (h x).1 es s' l (p (i x))),
    )
    carry X Q (loop g k) s i h =
        to_each g (λ a. (s' : St) → Later s s' → L' g s a s' → wp G' L' None Any (k a) (λ a s'. X → Q a s') s')
        (λ a s' l p. carry X Q (k a) s' (λ x. I_later s s' l (i x))
        (λ x. each g (λ a. (s' : St) → Later s s' → L g s a s' → wp G L Known Any (k a) Q s') (h x) a s' l (p (i x))))
    carry X Q panic s i h = tt

    module _ (rules : (g : Goal) (s : St) → I s.tokens → wp G L Known Any (rule g) (G g s) s)
        (turns : (l : Loop) (s : St) → I s.tokens → wp G L Known Any (turn l) (L l s) s) where
      -- what holds after a whole reading, if the invariant I holds of its tokens
      pub module_known : (full : List Err) (ts : List Tok) → I ts
          → After (λ i s'. L (Module (no_items [])) (begin full ts) i s') (parse_module full ts)
      module_known full ts i =
          weaken (parse_module full ts) (λ a s' p. p.1 i)
          (module_ind G' L' None Any (λ s. tt) (λ e s. tt)
          (λ g s. carry (I s.tokens) (G g s) (rule g) s (λ x. x) (rules g s))
          (λ l s. carry (I s.tokens) (L l s) (turn l) s (λ x. x) (turns l s)) full ts)
