-- A later state: it has read tokens from the front of those left, and made errors. Assumes nothing.
use mathlib.Core.Path.{◌≡◌, refl, sym, ap, ◌∙◌}
use mathlib.Core.List.{List, [], ◌∷◌, ◌++◌, map, append-nil, append_assoc, map-append}
use Prim.Native.Nat.{◌≤◌}
use native.Mathlib.Omega.{arith}
use lib.ListN.{length, length-append}
use Rattle.definition.specs.Fallible.{Err}
use Rattle.definition.specs.Token.{Tok, tail}
use Rattle.definition.specs.Act.{Role, plain, Consumed, St, Res, gives, refused, now_read, advance, push}

-- the tokens that were read, without their roles
abbrev pub toks : List Consumed → List Tok
toks cs = map (λ c. c.tok) cs

-- eaten are the tokens read from s to s', made the errors made
pub record Later (s s' : St) : Type 0 where
  pub eaten : List Consumed
  pub made : List Err
  pub read : s'.read ≡ s.read ++ eaten
  pub tokens : s.tokens ≡ toks eaten ++ s'.tokens
  pub full : s'.full ≡ s.full ++ made

pub later_refl : (s : St) → Later s s
later_refl s = record { eaten = []; made = []; read = sym (append-nil s.read); tokens = refl; full = sym (append-nil s.full) }

pub later_trans : {s t u : St} → Later s t → Later t u → Later s u
later_trans {s} {t} {u} p q = record {
  eaten = p.eaten ++ q.eaten;
  made = p.made ++ q.made;
  read = q.read ∙ ap (λ (x : List Consumed). x ++ q.eaten) p.read ∙ append_assoc s.read p.eaten q.eaten;
  tokens =
      p.tokens ∙ ap (λ (x : List Tok). toks p.eaten ++ x) q.tokens
      ∙ sym (append_assoc (toks p.eaten) (toks q.eaten) u.tokens)
      ∙ ap (λ (x : List Tok). x ++ u.tokens) (sym (map-append (λ (c : Consumed). c.tok) p.eaten q.eaten));
  full = q.full ∙ ap (λ (x : List Err). x ++ q.made) p.full ∙ append_assoc s.full p.made q.made;
}

one_read : (r : Tok → Role) (ts : List Tok) → ts ≡ toks (now_read r ts) ++ tail ts
one_read r [] = refl
one_read r (t ∷ ts) = refl

pub later_advance : (r : Tok → Role) (s : St) → Later s (advance r s)
later_advance r s =
    record {
      eaten = now_read r s.tokens;
      made = [];
      read = refl;
      tokens = one_read r s.tokens;
      full = sym (append-nil s.full);
    }

pub later_push : (e : Err) (s : St) → Later s (push e s)
later_push e s = record { eaten = []; made = e ∷ []; read = sym (append-nil s.read); tokens = refl; full = refl }

-- the state after a token is read in the plain role
abbrev pub next_state : St → St
next_state s = advance (λ _. plain) s

-- the tokens left never become more, the errors made never fewer
pub later_left : {s s' : St} → Later s s' → length s'.tokens ≤ length s.tokens
later_left {s} {s'} p = omega (arith, simp length-append at (ap length p.tokens))

pub later_full : {s s' : St} → Later s s' → length s.full ≤ length s'.full
later_full {s} {s'} p = omega (arith, simp length-append at (ap length p.full))

-- what holds of an answer and the state after it, if not refused
abbrev pub After : {A : Type 0} → (A → St → Type 0) → Res A → Type 0
After P (gives a s) = P a s
After P (refused n) = Unit {0}

pub weaken : {A : Type 0} {P Q : A → St → Type 0} (r : Res A) → ((a : A) (s : St) → P a s → Q a s) → After P r → After Q r
weaken (gives a s) f p = f a s p
weaken (refused n) f p = tt
