-- Entering the losses of tokens, and parsing them from there on: one law for each return. Assumes nothing.
use mathlib.Core.Path.{◌≡◌, refl, sym, ap, ◌∙◌, subst}
use mathlib.Core.List.{List, [], ◌∷◌, ◌++◌, append-nil, append_assoc}
use Prim.Native.Nat.{ℕ, suc, ◌+◌, ◌*◌, ◌≤◌, ◌<◌}
use native.Mathlib.Omega.{arith}
use borrow.Author.Tests.{eq-eqb, ne_eqb}
use lib.ListN.{length, length-append, get_or}
use Rattle.definition.specs.Fallible as F
use Rattle.definition.specs.Fallible.{Fallible, Ans, ok, fatal}
use Rattle.definition.specs.Token.{Tok, next_token}
use Rattle.definition.specs.Act.{Items, St, begin, Res, gives, refused, after, run, ◌>>=◌}
use Rattle.definition.specs.Parser as P
use Rattle.definition.specs.Parser.{parse_module}
use Rattle.definition.specs.Losses.{loss, losses, parse_tokens}
use Rattle.definition.specs.Go.{go}
use Rattle.definition.proofs.Flat.{go_bind, go_module}
use Rattle.definition.proofs.Losses.{losses_lost, losses_kept, tokens_parsed, tokens_refused}
use Rattle.std.specs.Prelude.{Result, MatchResult, Ok, Err}
use Rattle.definition.specs.Numbers.{refusal_number}
use Rattle.definition.specs.declared.refusal.Refusal.{Refusal}
use Rattle.fallible.specs.Answer.{Status, Done, Refused, Answer, list_answer}
use Rattle.fallible.specs.Answers.{Entered, Filled}
use Rattle.fallible.specs.declared.error.Error.{Error}
use Rattle.fallible.specs.declared.parser.State.{State}
use Rattle.fallible.specs.Lists.{err_of, errs}
use Rattle.steps.specs.declared.tokens.Token.{Token}
use Rattle.steps.specs.Tokens.{tok_at, rest, Seen}
use Rattle.steps.specs.Shows.{st_of, ShowsOf, items}
use Rattle.steps.proofs.Records.{rest_cons, rest_nil}
use Rattle.steps.proofs.Answers.{good_of}
use Rattle.expression_laws.specs.Post.{as_answer, LoopOn}
use Rattle.items.specs.Rules.{items_on}
use Rattle.items.specs.Items.{ReadsModule}
use Rattle.items.proofs.Modules.{module_reads}
use Rattle.parser.specs.Losses as L
use Rattle.parser.specs.Losses.{begun, token_of, Parsed}

-- ---- the entry of a token

-- it speaks of the token's kind and place alone
loss_same : (t u : Tok) → t.kind ≡ u.kind → t.place ≡ u.place → loss t ≡ loss u
loss_same t u e f = rw (e, f) refl

-- ---- the loop over the tokens

-- the state with one entry more
abbrev more : State → State
more s = record { at = s.at; pos = s.pos; reported = s.reported; full = s.full + 1 }

-- the invariant: what is entered and the losses of the tokens left are all losses
pub record Entering (w x : List ℕ) (n : ℕ) (f : List Error) (s : State) (i : ℕ) : Type 0 where
  pub state : s ≡ begun s.full
  pub few : s.full ≤ 255
  pub count : s.full + length (losses (rest w x n i)) ≡ length (losses (rest w x n 0))
  pub is : errs f s.full ++ losses (rest w x n i) ≡ losses (rest w x n 0)

pub entering : {w x : List ℕ} {n : ℕ} {f : List Error} {s : State} → s ≡ begun 0 → Entering w x n f s 0
unfolding errs
entering e = rw e (record { state = refl; few = omega arith; count = omega arith; is = refl })

module _ {w x : List ℕ} {n : ℕ} {f : List Error} {s : State} {i : ℕ} (q : Entering w x n f s i) where
  entering_by : {g : List Error} {s' : State} → s' ≡ begun s'.full → s'.full ≤ 255 → (es : List F.Err)
      → losses (rest w x n i) ≡ es ++ losses (rest w x n (i + 1)) → s'.full ≡ s.full + length es
      → errs g s'.full ≡ errs f s.full ++ es → Entering w x n g s' (i + 1)
  entering_by {s' = s'} e l es h k p =
      record {
        state = e;
        few = l;
        count = omega (arith, k, ap length h, length-append es (losses (rest w x n (i + 1))), q.count);
        is = ap (λ (xs : List F.Err). xs ++ losses (rest w x n (i + 1))) p
            ∙ append_assoc (errs f s.full) es (losses (rest w x n (i + 1)))
            ∙ ap (λ (xs : List F.Err). errs f s.full ++ xs) (sym h) ∙ q.is;
      }

  module _ (l : i < n) where
    head : rest w x n i ≡ tok_at w x i ∷ rest w x n (i + 1)
    head = rest_cons w x n i l

    pub entering_kept : (get_or w (8 * i + 6) 0 ≡ 1 → ⊥) → Entering w x n f s (i + 1)
    entering_kept h =
        entering_by q.state q.few [] (ap losses head ∙ losses_kept (tok_at w x i) (rest w x n (i + 1)) (ne_eqb _ 1 h))
        (omega arith) (sym (append-nil (errs f s.full)))

    module _ (h : get_or w (8 * i + 6) 0 ≡ 1) where
      one : losses (rest w x n i) ≡ loss (tok_at w x i) ∷ losses (rest w x n (i + 1))
      one = ap losses head ∙ losses_lost (tok_at w x i) (rest w x n (i + 1)) (eq-eqb _ 1 h)

      pub entering_one : {t : Token} {e : Error} {g : List Error} {s' : State} → Seen w x n i t → err_of e ≡ loss (token_of t)
          → Entered f s e g s' → Entering w x n g s' (i + 1)
      entering_one {t} {e} {g} {s'} v p b =
          let u : next_token (rest w x n i) ≡ tok_at w x i = ap next_token head in
          let k : loss (tok_at w x i) ≡ err_of e =
          loss_same (tok_at w x i) (token_of t) (ap (λ (y : Tok). y.kind) (sym u) ∙ v.kind x)
          (ap (λ (y : Tok). y.place) (sym u) ∙ v.place x) ∙ sym p in
          let y : s' ≡ begun (s.full + 1) = b.state ∙ ap more q.state in
          let m : s'.full ≡ s.full + 1 = ap (λ (z : State). z.full) y in
          entering_by (y ∙ ap begun (sym m)) (omega (arith, b.few, m)) (err_of e ∷ [])
          (one ∙ ap (λ (z : F.Err). z ∷ losses (rest w x n (i + 1))) k) m (ap (errs g) m ∙ b.full)

      pub entering_refused : {m : Refusal} → Filled s m → L.Refused w x n m
      entering_refused z = record { many = omega (arith, z.many, q.count, ap length one); refusal = z.refusal }

  pub entering_done : n ≤ i → L.Entered w x n f s
  unfolding losses
  entering_done l =
      let z : rest w x n i ≡ [] = rest_nil w x n i l in
      let none : length (losses (rest w x n i)) ≡ 0 = ap (λ (ts : List Tok). length (losses ts)) z in
      record {
        few = omega (arith, q.few, q.count, none);
        state = q.state ∙ ap begun (omega (arith, q.count, none));
        is = sym (append-nil (errs f s.full)) ∙ ap (λ (ts : List Tok). errs f s.full ++ losses ts) (sym z) ∙ q.is;
      }

-- ---- the answer of `module`

abbrev answered : ℕ → Res Items → Res (Ans Items)
answered d q = after q (λ i S. go d (as_answer i) S)

item_of : Res (Ans Items) → Items
item_of (gives (ok y) S) = y.item
item_of (gives (fatal es) S) = P.no_items []
item_of (refused n) = P.no_items []

errors_in : Res (Ans Items) → List F.Err
errors_in (gives (ok y) S) = y.errors
errors_in (gives (fatal es) S) = es
errors_in (refused n) = []

state_in : St → Res (Ans Items) → St
state_in T (gives y S) = S
state_in T (refused n) = T

number_of : Res (Ans Items) → ℕ
number_of (gives y S) = 0
number_of (refused n) = suc n

-- items as an answer are those items
gave : (d : ℕ) (q : Res Items) (y : Fallible Items) (T : St) → answered d q ≡ gives (ok y) T
    → (q ≡ gives y.item T) × (y.item.errors ≡ y.errors)
unfolding go run item_of errors_in state_in number_of
gave d (gives i S) y T e =
    let a : i ≡ y.item = ap item_of e in
    let b : S ≡ T = ap (state_in T) e in
    (rw (a, b), sym (ap (λ (j : Items). j.errors) a) ∙ ap errors_in e)
gave d (refused n) y T e = absurd (let z : suc n ≡ 0 = ap number_of e in omega (arith, z))

refuses : (d : ℕ) (q : Res Items) (n : ℕ) → answered d q ≡ refused n → q ≡ refused n
unfolding go run number_of
refuses d (gives i S) n e = absurd (let z : 0 ≡ suc n = ap number_of e in omega (arith, z))
refuses d (refused m) n e = let z : suc m ≡ suc n = ap number_of e in let y : m ≡ n = omega (arith, z) in rw y

module _ {w x : List ℕ} {n : ℕ} {full : List F.Err} {o : List ℕ} {r f : List Error} {a : Answer} (B : ReadsModule w x n 96 full o r f a) where
  -- the answer of `module` is that of the definition's parser
  parsed : answered 96 (parse_module full (rest w x n 0))
      ≡ go 96 (items_on (P.no_items []) >>= as_answer) (begin full (rest w x n 0))
  parsed = sym (go_bind 96 (items_on (P.no_items [])) as_answer _ ∙ ap (λ (q : Res Items). answered 96 q) (go_module full (rest w x n 0)))

  -- tokens whose losses began the full list
  module _ (few : length (losses (rest w x n 0)) ≤ 255) (e : full ≡ losses (rest w x n 0)) where
    from : parse_tokens (rest w x n 0) ≡ parse_module full (rest w x n 0)
    from = tokens_parsed (rest w x n 0) few ∙ ap (λ (es : List F.Err). parse_module es (rest w x n 0)) (sym e)

    pub parsed_done : a.status ≡ Done → Parsed w x n o r f a.state a.count
    parsed_done z =
        let g = good_of z B.is in
        let y = gave 96 (parse_module full (rest w x n 0)) _ _ (parsed ∙ g.is) in
        record {
          tree = g.item;
          state = st_of w x n f g.read a.state;
          is = from ∙ y.0;
          full = refl;
          recs = g.tree;
          reported = g.reported ∙ sym y.1;
          count = g.holds;
          room = B.room;
          fewer = B.reported;
          few = B.few;
        }

    pub parsed_refused : (k : ℕ) → a.status ≡ Refused k → parse_tokens (rest w x n 0) ≡ refused k
    parsed_refused k z =
        from ∙ refuses 96 (parse_module full (rest w x n 0)) k (parsed
        ∙ subst (λ (h : Status). ShowsOf h items [] [] [] [] w x n o r f a
        (go 96 (items_on (P.no_items []) >>= as_answer) (begin full (rest w x n 0)))) z
        B.is.told)

-- ---- `parse_tokens`

pub losses_refused : {w x : List ℕ} {n : ℕ} {m : Refusal} → L.Refused w x n m → parse_tokens (rest w x n 0) ≡ refused (refusal_number m)
losses_refused {w} {x} {n} z = rw z.refusal (tokens_refused (rest w x n 0) z.many)

module _ {w x : List ℕ} {n : ℕ} {f : List Error} {s : State} (q : L.Entered w x n f s) where
  entered : errs f (length (losses (rest w x n 0))) ≡ losses (rest w x n 0)
  entered = ap (errs f) (sym (ap (λ (y : State). y.full) q.state)) ∙ q.is

  pub parse_reads : (y : Result ℕ Refusal) {o o1 : List ℕ} {r r1 f1 : List Error} {s1 : State}
      → LoopOn items_on w x n 96 0 o r f s o1 r1 f1 (list_answer y s1)
      → MatchResult y (Parsed w x n o1 r1 f1 s1) (λ m. parse_tokens (rest w x n 0) ≡ refused (refusal_number m))
  parse_reads (Ok k) l = parsed_done (module_reads (rw q.state at l)) q.few entered refl
  parse_reads (Err m) l = parsed_refused (module_reads (rw q.state at l)) q.few entered (refusal_number m) refl
