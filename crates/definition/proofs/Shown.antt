-- Records that show stripped tokens, and the laws that combine the parts of a record. Assumes nothing.
use mathlib.Core.Path.{◌≡◌, refl, sym, ap, ◌∙◌, subst}
use mathlib.Core.Bool.{Bool, true, false, not, ◌&&◌, ◌||◌}
use mathlib.Core.List.{List, [], ◌∷◌, ◌++◌, append-nil, append_assoc}
use Prim.Native.Nat.{ℕ, zero, suc}
use native.Mathlib.Omega.{arith}
use lib.Dec.{eqb, ltb, T, eqb_refl, ltb→lt}
use Rattle.definition.specs.Choice.{pick}
use Rattle.definition.specs.Kind as K
use Rattle.definition.specs.Source.{Place, same_place}
use Rattle.definition.specs.Node.{Rec}
use Rattle.definition.specs.Fallible.{Err, Fallible, ok}
use Rattle.definition.specs.Token.{Tok, next_token, tail, ◌is◌, end_token, number}
use Rattle.definition.specs.Act.{Node, Items, Role, plain, size, Consumed, St, now_read, advance}
use Rattle.definition.specs.Parser as P
use Rattle.definition.proofs.Tests.{passed, is_kind}
use Rattle.definition.proofs.Strip.{Norm, symbol, named, integer, sized, is_named, norm, strip}
use Rattle.definition.specs.Demand.{is_modifier}
use Rattle.definition.proofs.Later.{Later, toks}
use Rattle.definition.proofs.Unparse.{Entry, entry, Gathered, gathered, gather, unparse, unparse_append, step, sym1, extend, gather_one_more}

-- ---- places: no two tokens left have the same place

-- p is the place of none of the tokens
abbrev pub Apart : Place → List Tok → Type 0
Apart p [] = Unit {0}
Apart p (t ∷ ts) = (same_place p t.place ≡ false) × Apart p ts

pub record Fresh (p : Place) (ts : List Tok) : Type 0 where
  pub apart : Apart p ts

abbrev pub Distinct : List Tok → Type 0
Distinct [] = Unit {0}
Distinct (t ∷ ts) = Apart t.place ts × Distinct ts

apart_tail : (p : Place) (ts : List Tok) → Apart p ts → Apart p (tail ts)
apart_tail p [] h = tt
apart_tail p (t ∷ ts) h = h.1

pub fresh_tail : {p : Place} {ts : List Tok} → Fresh p ts → Fresh p (tail ts)
fresh_tail {p} {ts} h = record { apart = apart_tail p ts h.apart }

pub distinct_tail : (ts : List Tok) → Distinct ts → Distinct (tail ts)
distinct_tail [] h = tt
distinct_tail (t ∷ ts) h = h.1

apart_drop : (p : Place) (xs ys : List Tok) → Apart p (xs ++ ys) → Apart p ys
apart_drop p [] ys h = h
apart_drop p (x ∷ xs) ys h = apart_drop p xs ys h.1

distinct_drop : (xs ys : List Tok) → Distinct (xs ++ ys) → Distinct ys
distinct_drop [] ys h = h
distinct_drop (x ∷ xs) ys h = distinct_drop xs ys h.1

pub fresh_later : {p : Place} {s s' : St} → Later s s' → Fresh p s.tokens → Fresh p s'.tokens
fresh_later {p} {s} {s'} l h =
    record {
      apart = apart_drop p (toks l.eaten) s'.tokens
          (subst (λ (ts : List Tok). Apart p ts) l.tokens h.apart);
    }

pub distinct_later : (s s' : St) → Later s s' → Distinct s.tokens → Distinct s'.tokens
distinct_later s s' l h = distinct_drop (toks l.eaten) s'.tokens (subst Distinct l.tokens h)

-- the place of the token that is read is not that of a later token
pub fresh_head : (ts : List Tok) → Distinct ts → Fresh (next_token ts).place (tail ts)
fresh_head [] h = record { apart = tt }
fresh_head (t ∷ ts) h = record { apart = h.0 }

-- a token of the kind k is not the end
not_none : (k : ℕ) → T (ltb 0 k) → end_token is k ≡ true → ⊥
not_none k h i = omega (arith, is_kind end_token k i, ltb→lt 0 k h)

-- the next token is not at a place that is fresh
pub differs : (p : Place) (ts : List Tok) (k : ℕ) → T (ltb 0 k) → next_token ts is k ≡ true → Fresh p ts → same_place p (next_token ts).place ≡ false
differs p [] k z i h = absurd (not_none k z i)
differs p (t ∷ ts) k z i h = h.apart.0

pub same_self : (p : Place) → same_place p p ≡ true
same_self p = rw (passed (eqb p.line p.line) (eqb_refl p.line)) (passed (eqb p.column p.column) (eqb_refl p.column))

-- ---- the tokens read, stripped

pub strip_append : (xs ys : List Consumed) → strip (xs ++ ys) ≡ strip xs ++ strip ys
unfolding strip
strip_append [] ys = refl
strip_append (x ∷ xs) ys =
    ap (λ (l : List Norm). norm x.role x.tok ++ l) (strip_append xs ys)
    ∙ sym (append_assoc (norm x.role x.tok) (strip xs) (strip ys))

-- between s and s' the tokens ts were read
pub record Grew (s : St) (ts : List Norm) (s' : St) : Type 0 where
  pub by : strip s'.read ≡ strip s.read ++ ts

pub grew_refl : (s : St) → Grew s [] s
grew_refl s = record { by = sym (append-nil (strip s.read)) }

infixl 60 ◌▸◌
-- first xs, then ys were read
pub ◌▸◌ : {s t u : St} {xs ys : List Norm} → Grew s xs t → Grew t ys u → Grew s (xs ++ ys) u
◌▸◌ {s} {t} {u} {xs} {ys} p q = record { by = q.by ∙ ap (λ (l : List Norm). l ++ ys) p.by ∙ append_assoc (strip s.read) xs ys }

-- the same with an equal list
pub grew_as : {s u : St} {xs ys : List Norm} → Grew s xs u → xs ≡ ys → Grew s ys u
grew_as {s} {u} p e = subst (λ (l : List Norm). Grew s l u) e p

-- reading a token of the kind k adds its stripped form
pub took : (r : Tok → Role) (k : ℕ) → T (ltb 0 k) → (s : St) → next_token s.tokens is k ≡ true
    → Grew s (norm (r (next_token (tail s.tokens))) (next_token s.tokens)) (advance r s)
unfolding strip
took r k h s i =
    record {
      by = strip_append s.read (now_read r s.tokens)
          ∙ ap (λ (l : List Norm). strip s.read ++ l) (go s.tokens i);
    }
  where
    go : (ts : List Tok) → next_token ts is k ≡ true → strip (now_read r ts) ≡ norm (r (next_token (tail ts))) (next_token ts)
    go [] i = absurd (not_none k h i)
    go (t ∷ ts) i = append-nil (norm (r (next_token ts)) t)

-- the kinds without text, apart from the modifiers
abbrev pub is_symbol : ℕ → Bool
is_symbol k = ltb 0 k && not (is_named k || eqb k K.Integer || is_modifier k)

and_left : (a b : Bool) → T (a && b) → T a
and_left true b t = tt
and_left false b t = t

pub symbol_norm : (k : ℕ) → T (is_symbol k) → (t : Tok) → t.kind ≡ k → norm plain t ≡ symbol k ∷ []
symbol_norm k h t e = rw e (go (ltb 0 k) (is_named k) (eqb k K.Integer) (is_modifier k) h)
  where
    go : (z a b m : Bool) → T (z && not (a || b || m))
        → pick m [] (pick a (named k t.text) (pick b (integer t.base t.text) (symbol k)) ∷ [])
        ≡ symbol k ∷ []
    go false a b m h = absurd h
    go true true b m h = absurd h
    go true false true m h = absurd h
    go true false false true h = absurd h
    go true false false false h = refl

pub took_symbol : (k : ℕ) → T (is_symbol k) → (s : St) → next_token s.tokens is k ≡ true → Grew s (sym1 k) (advance (λ _. plain) s)
took_symbol k h s i =
    grew_as (took (λ _. plain) k (and_left (ltb 0 k) _ h) s i)
    (symbol_norm k h (next_token s.tokens) (is_kind (next_token s.tokens) k i))

-- `distinct` or `internal`: stripped
pub took_modifier : (k : ℕ) → T (ltb 0 k && is_modifier k) → (s : St) → next_token s.tokens is k ≡ true → Grew s [] (advance (λ _. plain) s)
took_modifier k h s i =
    grew_as (took (λ _. plain) k (and_left (ltb 0 k) _ h) s i)
    (rw (is_kind (next_token s.tokens) k i) (go (ltb 0 k) (is_modifier k) _ h))
  where
    go : (z m : Bool) (x : List Norm) → T (z && m) → pick m [] x ≡ []
    go true true x h = refl
    go true false x h = absurd h
    go false m x h = absurd h

abbrev pub is_name : ℕ → Bool
is_name k = ltb 0 k && (is_named k && not (is_modifier k))

pub took_name : (k : ℕ) → T (is_name k) → (s : St) → next_token s.tokens is k ≡ true
    → Grew s (named k (next_token s.tokens).text ∷ []) (advance (λ _. plain) s)
took_name k h s i =
    grew_as (took (λ _. plain) k (and_left (ltb 0 k) _ h) s i)
    (rw (is_kind (next_token s.tokens) k i) (go (ltb 0 k) (is_named k) (is_modifier k) h))
  where
    go : (z a m : Bool) → T (z && (a && not m))
        → pick m [] (pick a (named k (next_token s.tokens).text)
        (pick (eqb k K.Integer) (integer (next_token s.tokens).base (next_token s.tokens).text) (symbol k)) ∷ [])
        ≡ named k (next_token s.tokens).text ∷ []
    go true true false h = refl
    go true true true h = absurd h
    go true false m h = absurd h
    go false a m h = absurd h

pub took_integer : (s : St) → next_token s.tokens is K.Integer ≡ true
    → Grew s (integer (next_token s.tokens).base (next_token s.tokens).text ∷ []) (advance (λ _. plain) s)
took_integer s i = grew_as (took (λ _. plain) K.Integer tt s i) (rw (is_kind (next_token s.tokens) K.Integer i) refl)

-- the size of an array
pub took_size : (s : St) → next_token s.tokens is K.Integer ≡ true
    → Grew s (sized K.Integer (number (next_token s.tokens).base 0 (next_token s.tokens).text) ∷ [])
    (advance (λ _. size) s)
took_size s i = grew_as (took (λ _. size) K.Integer tt s i) (rw (is_kind (next_token s.tokens) K.Integer i) refl)

-- ---- records that show tokens

-- unparsing the records rs pushes one entry, with the place p and the tokens ts
pub record Shows (rs : List Rec) (p : Place) (ts : List Norm) : Type 0 where
  pub on : (st : List Entry) → unparse rs st ≡ entry p ts ∷ st

pub shows_as : {rs : List Rec} {p : Place} {ts us : List Norm} → Shows rs p ts → ts ≡ us → Shows rs p us
shows_as {rs} {p} h e = subst (λ (l : List Norm). Shows rs p l) e h

-- unparsing a record after none, one, two and three parts
pub after0 : (r : Rec) (st : List Entry) → unparse (r ∷ []) st ≡ step r st
unfolding unparse
after0 r st = refl

pub after1 : {xs : List Rec} {p : Place} {ts : List Norm} → Shows xs p ts → (r : Rec) (st : List Entry)
    → unparse (xs ++ (r ∷ [])) st ≡ step r (entry p ts ∷ st)
after1 {xs} h r st = unparse_append xs (r ∷ []) st ∙ after0 r (unparse xs st) ∙ ap (λ (l : List Entry). step r l) (h.on st)

pub shows2 : {xs ys : List Rec} {p q : Place} {ts us : List Norm} → Shows xs p ts → Shows ys q us → (st : List Entry)
    → unparse (xs ++ ys) st ≡ entry q us ∷ entry p ts ∷ st
shows2 {xs} {ys} {p} {q} {ts} {us} h k st =
    unparse_append xs ys st ∙ ap (λ (l : List Entry). unparse ys l) (h.on st) ∙ k.on (entry p ts ∷ st)

pub after2 : {xs ys : List Rec} {p q : Place} {ts us : List Norm} → Shows xs p ts → Shows ys q us
    → (r : Rec) (st : List Entry) → unparse (xs ++ ys ++ (r ∷ [])) st ≡ step r (entry q us ∷ entry p ts ∷ st)
after2 {xs} {ys} h k r st =
    unparse_append (xs ++ ys) (r ∷ []) st ∙ after0 r (unparse (xs ++ ys) st)
    ∙ ap (λ (l : List Entry). step r l) (shows2 h k st)

pub after3 : {xs ys zs : List Rec} {p q w : Place} {ts us vs : List Norm} → Shows xs p ts → Shows ys q us → Shows zs w vs
    → (r : Rec) (st : List Entry)
    → unparse (xs ++ ys ++ zs ++ (r ∷ [])) st ≡ step r (entry w vs ∷ entry q us ∷ entry p ts ∷ st)
after3 {xs} {ys} {zs} {p} {q} {w} {ts} {us} h k j r st =
    unparse_append (xs ++ ys ++ zs) (r ∷ []) st ∙ after0 r (unparse (xs ++ ys ++ zs) st)
    ∙ ap (λ (l : List Entry). step r l)
    (unparse_append (xs ++ ys) zs st ∙ ap (λ (l : List Entry). unparse zs l) (shows2 h k st)
    ∙ j.on (entry q us ∷ entry p ts ∷ st))

-- unparsing the items leaves `count` entries, which gather to the tokens ts, with a separator between items
pub record ShowsItems (sep : List Norm) (i : Items) (ts : List Norm) : Type 0 where
  pub on : (st : List Entry) → gather sep i.count (unparse i.recs st) ≡ gathered ts st

pub items_none : (sep : List Norm) (es : List Err) → ShowsItems sep (P.no_items es) []
unfolding unparse
items_none sep es = record { on = λ st. refl }

pub items_more : (sep : List Norm) (i : Items) (x : Fallible Node) {ts us : List Norm} {p : Place} → ShowsItems sep i ts
    → Shows x.item.recs p us → ShowsItems sep (P.integrate i (ok x)) (extend sep i.count ts us)
items_more sep i x {ts} {us} {p} h k = record {
  on = λ st.
      ap (λ (l : List Entry). gather sep (suc i.count) l) (unparse_append i.recs x.item.recs st ∙ k.on (unparse i.recs st))
      ∙ gather_one_more sep i.count (entry p us) (unparse i.recs st) st ts (h.on st);
}

-- without a separator
pub items_join : (i : Items) (x : Fallible Node) {ts us : List Norm} {p : Place} → ShowsItems [] i ts
    → Shows x.item.recs p us → ShowsItems [] (P.integrate i (ok x)) (ts ++ us)
items_join i x {ts} {us} h k =
    record {
      on = λ st. (items_more [] i x h k).on st ∙ ap (λ (l : List Norm). gathered l st)
          (go i.count (ap (λ (g : Gathered). g.toks) (h.on [])));
    }
  where
    go : (n : ℕ) → (gather [] n (unparse i.recs [])).toks ≡ ts → extend [] n ts us ≡ ts ++ us
    go zero e = ap (λ (l : List Norm). l ++ us) e
    go (suc n) e = ap (λ (l : List Norm). l ++ us) (append-nil ts)
