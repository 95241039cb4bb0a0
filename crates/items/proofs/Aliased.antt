-- Type aliases, `use` and variables at the top level: one law for each return of the functions. Assumes nothing.
use mathlib.Core.Path.{◌≡◌, refl, sym, ap, ◌∙◌}
use mathlib.Core.Bool.{false}
use mathlib.Core.List.{List, [], ◌∷◌}
use Prim.Native.Nat.{ℕ, ◌+◌, ◌≤◌, ◌<◌}
use native.Mathlib.Omega.{arith}
use lib.ListN.{length}
use lib.Seq.{length-take-le}
use Rattle.definition.specs.Numbers.{kind_number}
use Rattle.definition.specs.Source.{Place}
use Rattle.definition.specs.declared.place.Place as Declared
use Rattle.definition.specs.Node.{byte}
use Rattle.definition.specs.Fallible.{Err, Fallible, Ans}
use Rattle.definition.specs.Token.{Tok, next_token}
use Rattle.definition.specs.Act as A
use Rattle.definition.specs.Act.{Act, done, loop, Loop, Left, next, Node, Consumed, plain, St, Res, after, or_return, run, ◌>>=◌, ◌>>?◌}
use Rattle.definition.specs.Parser as P
use Rattle.definition.specs.Go.{go}
use Rattle.definition.specs.Places.{place_of}
use Rattle.definition.proofs.Flat.{go_bind, go_loop}
use Rattle.definition.specs.declared.tag.Tag.{Tag}
use Rattle.fallible.proofs.Grown.{errs_length}
use Rattle.fallible.specs.declared.parser.State.{State}
use Rattle.fallible.specs.Answer.{Done, Answer}
use Rattle.fallible.specs.Lists.{err_of, error_at, errs}
use Rattle.fallible.specs.Answers.{refused_at, raised, Raised}
use Rattle.node.specs.Put.{placed}
use Rattle.node.specs.declared.Numbers.TheVariants.{None, Byte}
use Rattle.steps.specs.declared.tokens.Token.{Token}
use Rattle.steps.specs.Tokens.{rest, present, Seen}
use Rattle.steps.specs.Shows.{st_of, Asks, Asked, Good, Reads, node, token, Expects, Follows, Expected, NodeWritten}
use Rattle.steps.proofs.Records.{present_within, yes, no, other, fore, adv}
use Rattle.steps.proofs.Moves.{refused_moved, fore_moved, moved_trans}
use Rattle.steps.proofs.Answers.{Stopped, say, good_of, stops, follows, wrapped, raise_same}
use Rattle.steps.proofs.Following.{expecting, expects_after}
use Rattle.leaves.proofs.Errors.{raise_reads}
use Rattle.expression_laws.proofs.Types.{moved_onward, shown_from, record_reads, past}
use Rattle.expression_laws.proofs.Calls.{expect_seam}
use Rattle.statement.proofs.Statements.{clean}
use Rattle.items.specs.Rules.{naming, alias_rule, path_rule}
use Rattle.items.specs.Items.{words_of, Modifies, NamedBy}
use Rattle.fallible.specs.declared.error.Error.{Error}

-- ---- `modifiers`

module _ {w x : List ℕ} {n at : ℕ} {v : A.Words} {t : Token} (u : Seen w x n at t) where
  pub modifiers_none : at ≤ n → (kind_number t.kind ≡ 20 → ⊥) → (kind_number t.kind ≡ 21 → ⊥) → Modifies w n v at v at
  unfolding go run P.modifiers_turn
  modifiers_none h m20 m21 = record {
    up = omega arith;
    end = h;
    room = omega arith;
    read = λ x rd. rd;
    is =
        λ x d rd es. go_loop d (A.Modifiers v) (record { tokens = rest w x n at; read = rd; full = es })
        ∙ rw (run, no u m20, no u m21);
  }

  module _ {v' : A.Words} {next : ℕ} where
    -- a modifier is consumed
    modifiers_on : {v₁ : A.Words} → Modifies w n v₁ t.next v' next
        → ((x : List ℕ) (d : ℕ) (rd : List Consumed) (es : List Err)
        → go d (P.modifiers_turn v) (record { tokens = rest w x n at; read = rd; full = es })
        ≡ go d (loop (A.Modifiers v₁) done) (record { tokens = rest w x n t.next; read = past w x n at rd; full = es }))
        → Modifies w n v at v' next
    modifiers_on M step = record {
      up = omega arith;
      end = M.end;
      room = omega arith;
      read = λ x rd. M.read x (past w x n at rd);
      is =
          λ x d rd es. go_loop d (A.Modifiers v) (record { tokens = rest w x n at; read = rd; full = es })
          ∙ step x d rd es ∙ M.is x d (past w x n at rd) es;
    }

    pub modifiers_distinct : kind_number t.kind ≡ 20
        → Modifies w n (record { distinct = 1; internal = v.internal }) t.next v' next → Modifies w n v at v' next
    unfolding go run P.modifiers_turn
    modifiers_distinct h M = modifiers_on M (λ x d rd es. rw (run, yes u h, u.tail))

    pub modifiers_internal : kind_number t.kind ≡ 21
        → Modifies w n (record { distinct = v.distinct; internal = 2 }) t.next v' next → Modifies w n v at v' next
    unfolding go run P.modifiers_turn
    modifiers_internal h M = modifiers_on M (λ x d rd es. rw (run, other u h 20 refl, yes u h, u.tail))

-- ---- a keyword, and what follows it

module _ {w x : List ℕ} {n d k : ℕ} {o : List ℕ} {r f r1 f1 : List Error} {s : State} {a : Answer} {M : Act (Ans Node)} (m : Act (Ans Node)) (X : Expects w n (λ role. P.expect_as role k) r f s r1 f1 a)
    (step : (rd : List Consumed) → go d M (st_of w x n f rd s) ≡ go d (P.expect k >>? λ _. m) (st_of w x n f rd s)) where
  pub keyword_stops : Stopped a → Reads node w x n d M o r f s o r1 f1 a
  keyword_stops nd =
      record {
        moved = X.moved;
        on = X.on;
        is = λ rd. say (step rd ∙ go_bind d (P.expect k) (or_return (λ _. m)) _)
            (stops d (λ _. m) _ nd (X.is x plain d rd o));
      }

  pub keyword_on : {o1 : List ℕ} {r2 f2 : List Error} {y : Answer} → a.status ≡ Done → Reads node w x n d m o r1 f1 a.state o1 r2 f2 y
      → Reads node w x n d M o r f s o1 r2 f2 y
  keyword_on z B = record {
    moved = moved_onward X.moved B.moved;
    on = omega arith;
    is =
        λ rd. let g = good_of z (X.is x plain d rd o) in
        say (step rd ∙ go_bind d (P.expect k) (or_return (λ _. m)) _ ∙ follows d (λ _. m) g.is)
        (shown_from B X.pos (X.kept z).1 g.read);
  }

-- ---- the token that names the construct: the end is refused, another token is an error

module _ (k number : ℕ) {w x : List ℕ} {n : ℕ} {r f : List Error} {s : State} {t : Token} (q : Asks n r f s) (u : Seen w x n s.at t)
    (d : ℕ) (m : Tok → Act (Ans Node)) (o : List ℕ) where
  pub named_end : {y : Answer} → kind_number t.kind ≡ 0 → y ≡ refused_at n s 11 → Reads node w x n d (naming k number m) o r f s o r f y
  unfolding go run
  named_end h e =
      rw e (record {
        moved = refused_moved q 11;
        on = present_within n s.at q.at;
        is = λ rd. record { told = rw (run, yes u h) };
      })

  pub named_other : {e : Error} {r1 f1 : List Error} {y : Answer} → (kind_number t.kind ≡ 0 → ⊥) → (kind_number t.kind ≡ k → ⊥)
      → err_of e ≡ error_at number t.place 0 0
      → Raised (raised n (fore s t)) r f (fore s t) e r1 f1 y
      → Reads node w x n d (naming k number m) o r f s o r1 f1 y
  unfolding go run
  named_other m0 mk i g =
      raise_reads q u plain g d
      (λ rd. rw (run, no u m0, no u mk) (raise_same d (rw u.place (sym i)) (adv s u (λ _. plain) f rd _)))

  named_by : 0 < k → kind_number t.kind ≡ k → (rd : List Consumed)
      → go d (naming k number m) (st_of w x n f rd s)
      ≡ go d (m (next_token (rest w x n s.at))) (st_of w x n f (past w x n s.at rd) (fore s t))
  unfolding go run
  named_by g h rd =
      rw (run, no {k = 0} u (λ z. omega arith), yes u h)
      (ap (λ (S : St). go d (m (next_token (rest w x n s.at))) S) (adv s u (λ _. plain) f rd _))

-- `expect` after it
module _ {w x : List ℕ} {n k : ℕ} {r f r1 f1 r2 f2 : List Error} {s s1 : State} {t : Token} {a : Answer} {m : A.Role → Act (Ans Tok)} where
  pub named_on : NamedBy w x n k r f s r1 f1 s1 t → Expects w n m r1 f1 s1 r2 f2 a → Expects w n m r f (fore s t) r2 f2 a
  named_on N X = rw (N.state, N.reported, N.full) at X

-- ---- `alias`

-- the continuations after the type, after `=`, and after the name
abbrev aliased : ℕ → Place → Tok → Fallible Node → Act (Ans Node)
aliased words p n ty = wrapped node [] [] 0x51 (λ _. p) (λ _. byte words ∷ []) n.text ty

abbrev equals_on : ℕ → Place → Tok → Act (Ans Node)
equals_on words p n = P.parse_type >>? λ ty. P.expect 50 >>? λ _. aliased words p n ty

abbrev name_on : ℕ → Place → Tok → Act (Ans Node)
name_on words p n = P.expect 26 >>? λ _. equals_on words p n

module _ (d words : ℕ) (place : Declared.Place) {w x : List ℕ} {n : ℕ} {o : List ℕ} {r f : List Error} {s : State} {t : Token}
    (q : Asked w n o r f s) (u : Seen w x n s.at t) where
  module _ {r1 f1 : List Error} {a : Answer} (h : kind_number t.kind ≡ 1) (X : Expects w n (λ role. P.expect_as role 26) r f (fore s t) r1 f1 a) where
    alias_named : (rd : List Consumed)
        → go d (alias_rule words (place_of place)) (st_of w x n f rd s)
        ≡ after (go d (P.expect 26) (st_of w x n f (past w x n s.at rd) (fore s t)))
        (λ z S. go d (or_return (λ _. equals_on words (place_of place) (next_token (rest w x n s.at))) z) S)
    unfolding alias_rule
    alias_named rd =
        named_by 1 16 q.asks u d (name_on words (place_of place)) o (omega arith) h rd
        ∙ go_bind d (P.expect 26)
        (or_return (λ _. equals_on words (place_of place) (next_token (rest w x n s.at))))
        (st_of w x n f (past w x n s.at rd) (fore s t))

    pub alias_stops : Stopped a → Reads node w x n d (alias_rule words (place_of place)) o r f s o r1 f1 a
    alias_stops nd =
        record {
          moved = moved_onward (fore_moved q.asks u) X.moved;
          on = omega arith;
          is = λ rd. say (alias_named rd) (stops d _ _ nd (X.is x plain d (past w x n s.at rd) o));
        }

    -- after the type: what `expect(..)?` ensures, or that the type stopped
    pub alias_done : {o1 : List ℕ} {r2 f2 r3 f3 : List Error} {o2 : List ℕ} {b c y : Answer} → a.status ≡ Done
        → Reads node w x n d P.parse_type o r1 f1 a.state o1 r2 f2 b → length r2 ≡ length r
        → length f2 ≡ length f → (Follows n r2 f2 b s.pos s.reported → Expected w n 50 s.pos s.reported r2 f2 b r3 f3 c)
        → {k : ℕ} → k ≡ words → NodeWritten o1 c (placed place Tag.TypeAlias (Byte k) t.text.now) o2 y
        → Reads node w x n d (alias_rule words (place_of place)) o r f s o2 r3 f3 y
    alias_done {r2 = r2} {f2 = f2} {r3 = r3} {f3 = f3} {b = b} {c = c} z B lr lf after_type e F =
        let p : Follows n r2 f2 b s.pos s.reported = omega (arith, (X.kept z).0) in
        let C : Expected w n 50 s.pos s.reported r2 f2 b r3 f3 c = after_type p in
        let g : (rd : List Consumed) → Good _ _ _ [] [] w x n o r1 f1 a (go d (P.expect 26) (st_of w x n f (past w x n s.at rd) (fore s t))) =
        λ rd. good_of z (X.is x plain d (past w x n s.at rd) o) in
        let end : Fallible Node → Act (Ans Node) = aliased words (place_of place) (next_token (rest w x n s.at)) in
        record_reads {K = node} (place_of place) (λ _. byte words ∷ []) (next_token (rest w x n s.at)).text F
        (moved_trans (moved_trans (moved_trans (fore_moved q.asks u) X.moved) B.moved) C.moved)
        (omega arith) (omega arith)
        (λ _ _. rw (u.text, e))
        (λ rd. after (go d P.parse_type (st_of w x n f1 (g rd).read a.state)) (λ z S. go d (or_return (expecting plain 50) z) S))
        (λ rd. alias_named rd ∙ follows d
        (λ _. equals_on words (place_of place) (next_token (rest w x n s.at))) (g rd).is ∙ go_bind d
        P.parse_type (or_return (λ ty. P.expect 50 >>? λ _. end ty)) (st_of w x n f1 (g rd).read a.state)
        ∙ expect_seam d plain 50 end (go d P.parse_type (st_of w x n f1 (g rd).read a.state)))
        (λ rd. expects_after p C plain d
        (length-take-le s.pos o (omega arith))
        (errs_length r s.reported (omega arith))
        (shown_from B X.pos (X.kept z).1 (g rd).read))

-- ---- `type_alias`

-- a loop, and what follows it
loop_bind : {B : Type 0} (d : ℕ) (l : Loop) (k : Left l → Act B) (S : St)
    → go d (loop l k) S ≡ after (go d (loop l done) S) (λ a T. go d (k a) T)
unfolding ◌>>=◌
loop_bind d l k S = go_bind d (loop l done) k S

-- the state at a later token
abbrev pub onto : State → ℕ → State
onto s at = record { at = at; pos = s.pos; reported = s.reported; full = s.full }

abbrev typed_on : Place → A.Words → Act (Ans Node)
typed_on p v = P.expect 15 >>? λ _. alias_rule (v.distinct + v.internal) p

module _ (d : ℕ) {w x : List ℕ} {n : ℕ} {o : List ℕ} {r f : List Error} {s : State} {t : Token} {v : A.Words} {next : ℕ}
    (q : Asked w n o r f s) (u : Seen w x n s.at t) (M : Modifies w n (words_of false false) s.at v next) where
  modified_step : (rd : List Consumed)
      → go d P.parse_type_alias (st_of w x n f rd s)
      ≡ go d (P.expect 15 >>? λ _. alias_rule (v.distinct + v.internal) (place_of t.place))
      (st_of w x n f (M.read x rd) (onto s next))
  unfolding go run P.parse_type_alias alias_rule
  modified_step rd =
      let p : Place = (next_token (rest w x n s.at)).place in
      let S : St = st_of w x n f (M.read x rd) (onto s next) in
      loop_bind d (A.Modifiers (words_of false false)) (typed_on p) (st_of w x n f rd s)
      ∙ ap (λ (z : Res A.Words). after z (λ v T. go d (typed_on p v) T)) (M.is x d rd (errs f s.full))
      ∙ ap (λ (p : Place). go d (P.expect 15 >>? λ _. alias_rule (v.distinct + v.internal) p) S) (u.place x)

  -- the modifiers, and what follows them
  pub modified_reads : {o1 : List ℕ} {r1 f1 : List Error} {y : Answer}
      → Reads node w x n d (P.expect 15 >>? λ _. alias_rule (v.distinct + v.internal) (place_of t.place)) o r f (onto s next) o1 r1 f1 y
      → Reads node w x n d P.parse_type_alias o r f s o1 r1 f1 y
  unfolding present
  modified_reads R = record { moved = omega arith; on = omega arith; is = λ rd. say (modified_step rd) (R.is (M.read x rd)) }

-- ---- `path`

-- the continuation after the string
abbrev string_on : Place → Tok → Act (Ans Node)
string_on p n = P.expect 50 >>? λ _. P.good (P.node [] 0x52 p [] n.text) []

module _ (d : ℕ) (place : Declared.Place) {w x : List ℕ} {n : ℕ} {o : List ℕ} {r f : List Error} {s : State} {t : Token}
    (q : Asked w n o r f s) (u : Seen w x n s.at t) where
  module _ {r1 f1 : List Error} {a : Answer} (h : kind_number t.kind ≡ 3) (X : Expects w n (λ role. P.expect_as role 50) r f (fore s t) r1 f1 a) where
    pub path_done : {o1 : List ℕ} {y : Answer}
        → NodeWritten o a (placed place Tag.Use None t.text.now) o1 y
        → Reads node w x n d (path_rule (place_of place)) o r f s o1 r1 f1 y
    unfolding path_rule
    path_done F =
        let text : List ℕ = (next_token (rest w x n s.at)).text in
        let end : Fallible Tok → Act (Ans Node) = wrapped (token (next_token (rest w x n t.next))) [] [] 0x52
        (λ _. place_of place) (λ _. []) text in
        record_reads (place_of place) (λ _. []) text F (moved_onward (fore_moved q.asks u) X.moved)
        (omega arith) (omega arith) (λ _ _. rw u.text)
        (λ rd. go d (P.expect 50) (st_of w x n f (past w x n s.at rd) (fore s t)))
        (λ rd. named_by 3 17 q.asks u d (string_on (place_of place)) o (omega arith) h rd ∙ clean d 50 end
        (P.good (P.node [] 0x52 (place_of place) [] text) []) (λ _. refl)
        (st_of w x n f (past w x n s.at rd) (fore s t)) ∙ go_bind d (P.expect 50) (or_return end)
        (st_of w x n f (past w x n s.at rd) (fore s t)))
        (λ rd. X.is x plain d (past w x n s.at rd) o)

-- ---- `use_path`, `top_level_var_declaration`

module _ (d : ℕ) (S : St) {p : Place} (e : (next_token S.tokens).place ≡ p) where
  pub use_step : go d P.parse_use S ≡ go d (P.expect 18 >>? λ _. path_rule p) S
  unfolding go run P.parse_use path_rule
  use_step = ap (λ (p : Place). go d (P.expect 18 >>? λ _. path_rule p) S) e

  pub var_step : go d P.parse_top_level_var_declaration S ≡ go d (P.expect 5 >>? λ _. P.declaration 0x53 p) S
  unfolding go run P.parse_top_level_var_declaration
  var_step = ap (λ (p : Place). go d (P.expect 5 >>? λ _. P.declaration 0x53 p) S) e
