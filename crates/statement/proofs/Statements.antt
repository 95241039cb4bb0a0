-- Statements that begin with a keyword: one law for each return of the functions. Assumes nothing.
use mathlib.Core.Path.{◌≡◌, refl, sym, ap, ◌∙◌}
use mathlib.Core.Bool.{Bool, true, false}
use mathlib.Core.List.{List, [], ◌∷◌, ◌++◌, append-nil, append_assoc}
use Prim.Native.Nat.{ℕ, ◌<◌}
use native.Mathlib.Omega.{arith}
use lib.ListN.{length, take}
use lib.Seq.{length-take-le}
use Rattle.definition.specs.Numbers.{kind_number}
use Rattle.definition.specs.Source as S
use Rattle.definition.specs.declared.place.Place.{Place}
use Rattle.definition.specs.Node.{byte, two, recs_bytes}
use Rattle.definition.specs.Fallible.{Err, Fallible, Ans, ok, fatal}
use Rattle.definition.specs.Kind as K
use Rattle.definition.specs.Token.{Tok, next_token, ◌is◌}
use Rattle.definition.specs.Act.{Act, done, peek, next, when◌then◌else◌, Node, Consumed, plain, St, Res, gives, refused, after, or_return, run, advance, ◌>>=◌, ◌>>?◌}
use Rattle.definition.specs.Parser as P
use Rattle.definition.specs.Go.{go}
use Rattle.definition.specs.Places.{place_of}
use Rattle.definition.proofs.Flat.{go_bind}
use Rattle.definition.specs.declared.tag.Tag.{Tag}
use Rattle.fallible.proofs.Grown.{errs_length}
use Rattle.fallible.specs.declared.parser.State.{State}
use Rattle.fallible.specs.Answer.{nowhere, Status, Done, Fatal, Refused, Answer}
use Rattle.fallible.specs.Lists.{err_of, error_at, errs}
use Rattle.fallible.specs.Answers.{raised, Raised, Abandoned}
use Rattle.node.specs.Put.{placed}
use Rattle.node.specs.declared.Numbers.TheVariants.{None, Byte, Two}
use Rattle.steps.specs.declared.tokens.Token.{Token}
use Rattle.steps.specs.Tokens.{rest, budget, Seen}
use Rattle.steps.specs.Shows.{st_of, Asked, Moved, ShowsOf, Shows, Reads, node, items, token, Expects, Follows, Expected, NodeWritten}
use Rattle.steps.proofs.Records.{yes, no, other, fore, adv}
use Rattle.steps.proofs.Moves.{making_moved, fore_moved, moved_trans, asks_moved, abandoned_moved}
use Rattle.steps.proofs.Answers.{Stopped, say, good_of, stops, follows, abandons, wrapped, writes_node, raise_shows, raise_same}
use Rattle.steps.proofs.Constructs.{then_stops}
use Rattle.steps.proofs.Following.{expects_after}
use Rattle.leaves.specs.Leaves.{there}
use Rattle.leaves.proofs.Atoms.{leaf_reads}
use Rattle.expression_laws.specs.Post.{as_answer}
use Rattle.expression_laws.proofs.Types.{moved_onward, node_written_moved, record_reads, past, through}
use Rattle.expression_laws.proofs.Calls.{wraps_token, expect_seam}
use Rattle.statement.specs.Rules.{guarded_rule}
use Rattle.statement.specs.Post.{up, ReadsPaid, ReadsBody}
use Rattle.fallible.specs.declared.error.Error.{Error}

-- the place of the first token of a statement
abbrev here : List ℕ → List ℕ → ℕ → State → S.Place
here w x n s = (next_token (rest w x n s.at)).place

-- ---- a condition and the statement it guards

-- the condition and the statement as one item
abbrev pub guarding : Fallible Node → Fallible Node → Fallible Node
guarding c b = record { item = record { place = b.item.place; recs = c.item.recs ++ b.item.recs }; errors = c.errors ++ b.errors }

module _ (d : ℕ) (m : Fallible Node → Fallible Node → Act (Ans Node)) (k : Fallible Node → Act (Ans Node))
    (e : (c b : Fallible Node) (S : St) → go d (m c b) S ≡ go d (k (guarding c b)) S) where
  -- parsing both and continuing with m is parsing them by `guarded_rule` and continuing with k
  pub guarded_seam : (S : St) → go d (P.parse_expression >>? λ c. P.parse_statement >>? m c) S ≡ go d (guarded_rule >>? k) S
  unfolding go run
  guarded_seam S =
      go_bind d P.parse_expression (or_return (λ c. P.parse_statement >>? m c)) S ∙ one (go d P.parse_expression S)
      ∙ sym (go_bind d guarded_rule (or_return k) S
      ∙ ap (λ (q : Res (Ans Node)). after q (λ z S. go d (or_return k z) S))
      (go_bind d P.parse_expression (or_return (λ c. P.parse_statement >>? λ b. done (ok (guarding c b)))) S))
    where
      two : (c : Fallible Node) (q : Res (Ans Node))
          → after q (λ z S. go d (or_return (m c) z) S)
          ≡ after (after q (λ z S. go d (or_return (λ b. done (ok (guarding c b))) z) S))
          (λ z S. go d (or_return k z) S)
      two c (gives (ok b) S) = e c b S
      two c (gives (fatal es) S) = refl
      two c (refused n) = refl

      one : (q : Res (Ans Node))
          → after q (λ z S. go d (or_return (λ c. P.parse_statement >>? m c) z) S)
          ≡ after
          (after q (λ z S. go d (or_return (λ c. P.parse_statement >>? λ b. done (ok (guarding c b))) z) S))
          (λ z S. go d (or_return k z) S)
      one (gives (ok c) S) =
          go_bind d P.parse_statement (or_return (m c)) S ∙ two c (go d P.parse_statement S)
          ∙ sym (ap (λ (q : Res (Ans Node)). after q (λ z S. go d (or_return k z) S))
          (go_bind d P.parse_statement (or_return (λ b. done (ok (guarding c b)))) S))
      one (gives (fatal es) S) = refl
      one (refused n) = refl

-- a node after another, without a record of their own
joins : {T : List ℕ} {E : List Err} {w x : List ℕ} {n : ℕ} {o : List ℕ} {r f : List Error} {c : Answer} {q : Res (Ans Node)}
    (d : ℕ) (y : Fallible Node)
    → Shows node T E y.item.recs y.errors w x n o r f c q
    → Shows node T E [] [] w x n o r f c (after q (λ z S. go d (or_return (λ b. done (ok (guarding y b))) z) S))
unfolding go run
joins {T} {E} {w} {x} {n} {o} {r} {f} {c} {q} d y v = record { told = one c.status v.told }
  where
    one : (h : Status) → ShowsOf h node T E y.item.recs y.errors w x n o r f c q
        → ShowsOf h node T E [] [] w x n o r f c
        (after q (λ z S. go d (or_return (λ b. done (ok (guarding y b))) z) S))
    one Done g =
        record {
          item = record { place = g.item.place; recs = y.item.recs ++ g.item.recs };
          errors = y.errors ++ g.errors;
          read = g.read;
          is = rw g.is;
          tree = g.tree;
          reported = g.reported;
          holds = g.holds;
        }
    one Fatal g = record { errors = g.errors; read = g.read; is = rw g.is; tree = g.tree; reported = g.reported }
    one (Refused m) g = rw g

-- ---- `if`, after its first branch

-- `else` and its statement, if it follows; then the record
abbrev pub else_on : S.Place → Fallible Node → Act (Ans Node)
else_on p e =
    peek λ t. when◌then◌else◌ (t is K.KwElse) (next λ _. P.parse_statement >>? λ b. P.good
    (P.node (e.item.recs ++ b.item.recs) 0x49 p (byte 3 ∷ []) []) (e.errors ++ b.errors))
    (P.good (P.node e.item.recs 0x49 p (byte 2 ∷ []) []) e.errors)

abbrev if_parts : S.Place → Fallible Node → Fallible Node → Act (Ans Node)
if_parts p c a =
    peek λ t.
    when◌then◌else◌ (t is K.KwElse)
    (next λ _. P.parse_statement >>? λ b. P.good
    (P.node (c.item.recs ++ a.item.recs ++ b.item.recs) 0x49 p (byte 3 ∷ []) [])
    (c.errors ++ a.errors ++ b.errors))
    (P.good (P.node (c.item.recs ++ a.item.recs) 0x49 p (byte 2 ∷ []) []) (c.errors ++ a.errors))

if_joined : (d : ℕ) (p : S.Place) (c b : Fallible Node) (S : St) → go d (if_parts p c b) S ≡ go d (else_on p (guarding c b)) S
if_joined d p c b S = simp append_assoc refl

-- ---- `expect` reports nothing if the token is there

chosen : (b : Bool) (X Y Z : Res (Ans Node)) → X ≡ Y
    → ◌≡◌ {A = Res (Ans Node)} (elim b as (λ _. Res (Ans Node)) [ true ↦ X | false ↦ Z ])
    (elim b as (λ _. Res (Ans Node)) [ true ↦ Y | false ↦ Z ])
chosen true X Y Z e = e
chosen false X Y Z e = refl

-- after `expect(..)?` the item of the token does not matter
pub clean : (d k : ℕ) (f : Fallible Tok → Act (Ans Node)) (g : Act (Ans Node))
    → ((t : Tok) → f (record { item = t; errors = [] }) ≡ g) → (S : St)
    → go d (P.expect k >>? λ _. g) S ≡ go d (P.expect k >>? f) S
unfolding go run ◌>>=◌
clean d k f g e S =
    chosen (next_token S.tokens is k) _ _ _
    (ap (λ (m : Act (Ans Node)). go d m (advance (λ _. plain) S)) (sym (e (next_token S.tokens))))

-- ---- `statement_rule`

module _ {w x : List ℕ} {n d : ℕ} {o : List ℕ} {r f : List Error} {s : State} {t : Token} (q : Asked w n o r f s)
    (u : Seen w x n s.at t) where
  pub block_reads : {o1 : List ℕ} {r1 f1 : List Error} {o2 : List ℕ} {b y : Answer} → kind_number t.kind ≡ K.LBrace
      → ReadsBody w x n d o r f s o1 r1 f1 b → NodeWritten o1 b (placed t.place Tag.Block (Two b.count) []) o2 y
      → Reads node w x n d P.statement_rule o r f s o2 r1 f1 y
  unfolding go run P.statement_rule
  block_reads h B F =
      record_reads {K = items} (here w x n s) (λ i. two i.count ∷ []) [] F B.moved B.on (omega (arith, B.spare, u.present, h))
      (λ i e. rw (e, u.place)) (λ rd. go d (P.parse_body >>= as_answer) (st_of w x n f rd s))
      (λ rd. rw (run, other u h 6 refl, other u h 5 refl, yes u h) (through d P.parse_body _
      (wrapped items [] [] 0x40 (λ _. here w x n s) (λ i. two i.count ∷ []) []) (λ i. refl) (st_of w x n f rd s))) B.is

  pub loop_reads : {o1 : List ℕ} {r1 f1 : List Error} {o2 : List ℕ} {b y : Answer} → kind_number t.kind ≡ K.KwLoop
      → Reads node w x n d P.parse_statement o r f (fore s t) o1 r1 f1 b
      → NodeWritten o1 b (placed t.place Tag.Loop None []) o2 y → Reads node w x n d P.statement_rule o r f s o2 r1 f1 y
  unfolding go run P.statement_rule
  loop_reads h B F =
      wraps_token (λ _. here w x n s) (λ _. []) [] q u B F (omega (arith, h)) (λ i e. rw u.place) (past w x n s.at)
      (λ rd. rw (run, other u h 6 refl, other u h 5 refl, other u h 39 refl, yes u h) (ap
      (λ (S : St). go d (P.parse_statement >>? wrapped node [] [] 0x46 (λ _. here w x n s) (λ _. []) []) S)
      (adv s u (λ _. plain) f rd _)))

  pub while_reads : {o1 : List ℕ} {r1 f1 : List Error} {o2 : List ℕ} {b y : Answer} → kind_number t.kind ≡ K.KwWhile
      → Reads node w x n d guarded_rule o r f (fore s t) o1 r1 f1 b
      → NodeWritten o1 b (placed t.place Tag.While None []) o2 y → Reads node w x n d P.statement_rule o r f s o2 r1 f1 y
  unfolding go run P.statement_rule
  while_reads h B F =
      wraps_token (λ _. here w x n s) (λ _. []) [] q u B F (omega (arith, h)) (λ i e. rw u.place) (past w x n s.at)
      (λ rd. rw (run, other u h 6 refl, other u h 5 refl, other u h 39 refl, other u h 7 refl, yes u h) (guarded_seam d
      (λ c b. done (ok (P.binary 0x47 [] (here w x n s) c b)))
      (wrapped node [] [] 0x47 (λ _. here w x n s) (λ _. []) []) (λ c b S. refl)
      (advance (λ _. plain) (st_of w x n f rd s)) ∙ ap
      (λ (S : St). go d (guarded_rule >>? wrapped node [] [] 0x47 (λ _. here w x n s) (λ _. []) []) S)
      (adv s u (λ _. plain) f rd _)))

  pub break_reads : {r1 f1 : List Error} {o2 : List ℕ} {a y : Answer} → kind_number t.kind ≡ K.KwBreak
      → Expects w n (λ role. P.expect_as role 50) r f (fore s t) r1 f1 a
      → NodeWritten o a (placed t.place Tag.Break None []) o2 y → Reads node w x n d P.statement_rule o r f s o2 r1 f1 y
  unfolding go run P.statement_rule
  break_reads h X F =
      let k : Fallible Tok → Act (Ans Node) = wrapped (token (next_token (rest w x n t.next))) [] [] 0x48 (λ _. here w x n s) (λ _. []) [] in
      record_reads (here w x n s) (λ _. []) [] F (moved_onward (fore_moved q.asks u) X.moved)
      (omega (arith, X.moved.at, u.on, u.present)) (omega (arith, X.moved, u.pays, h)) (λ i _. rw u.place)
      (λ rd. go d (P.expect 50) (st_of w x n f (past w x n s.at rd) (fore s t)))
      (λ rd. rw (run, other u h 6 refl, other u h 5 refl, other u h 39 refl, other u h 7 refl, other u h 8 refl, yes u h) (ap
      (λ (S : St). go d (P.expect 50 >>? λ _. P.good (P.node [] 0x48 (here w x n s) [] []) []) S)
      (adv s u (λ _. plain) f rd _)
      ∙ clean d 50 k (P.good (P.node [] 0x48 (here w x n s) [] []) []) (λ _. refl) _ ∙ go_bind d (P.expect 50) (or_return k) _))
      (λ rd. X.is x plain d (past w x n s.at rd) o)

  pub assembly_reads : {o2 : List ℕ} {y : Answer} → kind_number t.kind ≡ K.InlineAssemblyFragment
      → NodeWritten o (there s t) (placed t.place Tag.InlineAssembly None t.text.now) o2 y
      → Reads node w x n d P.statement_rule o r f s o2 r f y
  unfolding go run P.statement_rule
  assembly_reads h F =
      leaf_reads q.asks u [] (next_token (rest w x n s.at)).text F (omega (arith, h)) (rw (u.place, u.text)) d
      (λ rd. rw (
        run,
        other u h 6 refl,
        other u h 5 refl,
        other u h 39 refl,
        other u h 7 refl,
        other u h 8 refl,
        other u h 9 refl,
        other u h 10 refl,
        yes u h,
      ))

  -- the act m parses what follows the first token
  keyword : {o1 : List ℕ} {r1 f1 : List Error} {y : Answer} (m : Act (Ans Node)) → 0 < kind_number t.kind
      → ((rd : List Consumed)
      → go d P.statement_rule (st_of w x n f rd s) ≡ go d m (st_of w x n f (past w x n s.at rd) (fore s t)))
      → ReadsPaid w x n d m o r f (fore s t) o1 r1 f1 y → Reads node w x n d P.statement_rule o r f s o1 r1 f1 y
  keyword m k step B =
      record {
        moved = omega (arith, B.moved, u.pays, u.up, k);
        on = omega (arith, B.moved.at, u.on, u.present);
        is = λ rd. say (step rd) (B.is (past w x n s.at rd));
      }

  pub return_reads : {o1 : List ℕ} {r1 f1 : List Error} {y : Answer} → kind_number t.kind ≡ K.KwReturn
      → ReadsPaid w x n d (P.parse_return (place_of t.place)) o r f (fore s t) o1 r1 f1 y
      → Reads node w x n d P.statement_rule o r f s o1 r1 f1 y
  unfolding go run P.statement_rule
  return_reads h B =
      keyword (P.parse_return (place_of t.place)) (omega (arith, h)) (λ rd. rw (run, yes u h, u.place)
      (ap (λ (S : St). go d (P.parse_return (place_of t.place)) S) (adv s u (λ _. plain) f rd _))) B

  pub var_reads : {o1 : List ℕ} {r1 f1 : List Error} {y : Answer} → kind_number t.kind ≡ K.KwVar
      → Reads node w x n d (P.declaration 0x42 (place_of t.place)) o r f (fore s t) o1 r1 f1 y
      → Reads node w x n d P.statement_rule o r f s o1 r1 f1 y
  unfolding go run P.statement_rule
  var_reads h B =
      keyword (P.declaration 0x42 (place_of t.place)) (omega (arith, h)) (λ rd. rw (run, other u h 6 refl, yes u h, u.place)
      (ap (λ (S : St). go d (P.declaration 0x42 (place_of t.place)) S) (adv s u (λ _. plain) f rd _)))
      (record { moved = omega (arith, B.moved); is = B.is })

  pub if_reads : {o1 : List ℕ} {r1 f1 : List Error} {y : Answer} → kind_number t.kind ≡ K.KwIf
      → ReadsPaid w x n d (P.parse_if (place_of t.place)) o r f (fore s t) o1 r1 f1 y
      → Reads node w x n d P.statement_rule o r f s o1 r1 f1 y
  unfolding go run P.statement_rule
  if_reads h B =
      keyword (P.parse_if (place_of t.place)) (omega (arith, h)) (λ rd. rw (
        run,
        other u h 6 refl,
        other u h 5 refl,
        other u h 39 refl,
        other u h 7 refl,
        other u h 8 refl,
        other u h 9 refl,
        yes u h,
        u.place,
      )
      (ap (λ (S : St). go d (P.parse_if (place_of t.place)) S) (adv s u (λ _. plain) f rd _))) B

  pub end_reads : {e : Error} {r1 f1 : List Error} {y : Answer} → kind_number t.kind ≡ 0
      → err_of e ≡ error_at 6 nowhere 0 0 → Raised (raised n s) r f s e r1 f1 y
      → Reads node w x n d P.statement_rule o r f s o r1 f1 y
  unfolding go run P.statement_rule
  end_reads {e} {y = y} z i g =
      let M : Moved w n s.pos s.reported s y.state = rw g.is (making_moved q.asks Fatal) in
      record {
        moved = M;
        on = omega (arith, M.at, u.present, z);
        is = λ rd. say
            (rw (
              run,
              other u z 6 refl,
              other u z 5 refl,
              other u z 39 refl,
              other u z 7 refl,
              other u z 8 refl,
              other u z 9 refl,
              other u z 10 refl,
              other u z 54 refl,
              yes u z,
            )
            (raise_same d {S = st_of w x n f rd s} (sym i) refl)) (raise_shows node q.asks g d rd o);
      }

module _ {w x : List ℕ} {n d : ℕ} {o : List ℕ} {r f : List Error} {s : State} {t : Token} (u : Seen w x n s.at t) where
  pub other_reads : {o1 : List ℕ} {r1 f1 : List Error} {y : Answer} → (kind_number t.kind ≡ 6 → ⊥) → (kind_number t.kind ≡ 5 → ⊥)
      → (kind_number t.kind ≡ 39 → ⊥) → (kind_number t.kind ≡ 7 → ⊥) → (kind_number t.kind ≡ 8 → ⊥)
      → (kind_number t.kind ≡ 9 → ⊥) → (kind_number t.kind ≡ 10 → ⊥) → (kind_number t.kind ≡ 54 → ⊥)
      → (kind_number t.kind ≡ 0 → ⊥)
      → Reads node w x n d (P.expression_statement (place_of t.place)) o r f s o1 r1 f1 y
      → Reads node w x n d P.statement_rule o r f s o1 r1 f1 y
  unfolding go run P.statement_rule
  other_reads m6 m5 m39 m7 m8 m9 m10 m54 z B =
      record {
        moved = B.moved;
        on = B.on;
        is = λ rd. say
            (rw (run, no u m6, no u m5, no u m39, no u m7, no u m8, no u m9, no u m10, no u m54, no u z, u.place)) (B.is rd);
      }

-- ---- `return`, after the keyword

-- the share of the keyword pays for the record
paid_moved : {w : List ℕ} {n i j : ℕ} {s t : State} → Moved w n i j s t → Moved w n i j (up 16 s) t
paid_moved M = omega (arith, M)

module _ {w x : List ℕ} {n d : ℕ} {o : List ℕ} {r f : List Error} {s : State} {t : Token} {place : Place} (q : Asked w n o r f s)
    (v : Seen w x n s.at t) where
  pub return_none : {o2 : List ℕ} {y : Answer} → kind_number t.kind ≡ 50
      → NodeWritten o (record { status = Done; state = fore s t; place = place; count = 0 }) (placed place Tag.Return (Byte 0) []) o2 y
      → ReadsPaid w x n d (P.parse_return (place_of place)) o r f s o2 r f y
  unfolding go run P.parse_return recs_bytes
  return_none {o2} {y} h F =
      let item : Node = record { place = place_of place; recs = [] } in
      record {
        moved = node_written_moved (paid_moved (fore_moved q.asks v)) (omega (arith, v.pays)) F;
        is = λ rd.
            say (rw (run, yes v h)
            (ap (λ (S : St). go d (P.good (P.node [] 0x45 (place_of place) (byte 0 ∷ []) []) []) S)
            (adv s v (λ _. plain) f rd _)))
            (writes_node {K = node} {rs = []} {es = []} {q = gives (ok (record { item = item; errors = [] })) (st_of w x n f (past w x n s.at rd) (fore s t))} d (λ _. place_of place) (λ _. byte 0 ∷ []) [] F (λ _ _. refl)
            (record {
              told = record {
                item = item;
                errors = [];
                read = past w x n s.at rd;
                is = refl;
                tree = sym (append-nil (take s.pos o));
                reported = sym (append-nil (errs r s.reported));
                holds = refl;
              };
            }));
      }

  -- a value and `;`: X is what `expect(..)?` ensures, or that the call before it stopped
  pub return_value : {o1 : List ℕ} {r1 f1 r2 f2 : List Error} {o2 : List ℕ} {b c y : Answer} → (kind_number t.kind ≡ 50 → ⊥)
      → Reads node w x n d P.parse_expression o r f s o1 r1 f1 b → length r1 ≡ length r → length f1 ≡ length f
      → (Follows n r1 f1 b s.pos s.reported → Expected w n 50 s.pos s.reported r1 f1 b r2 f2 c)
      → NodeWritten o1 c (placed place Tag.Return (Byte 1) []) o2 y
      → ReadsPaid w x n d (P.parse_return (place_of place)) o r f s o2 r2 f2 y
  unfolding go run P.parse_return
  return_value {r1 = r1} {f1 = f1} {b = b} h B lr lf X F =
      let k : Fallible Node → Act (Ans Node) = wrapped node [] [] 0x45 (λ _. place_of place) (λ _. byte 1 ∷ []) [] in
      let p : Follows n r1 f1 b s.pos s.reported = record {
        asks = asks_moved q.asks B.moved lr lf;
        pos = B.moved.pos;
        reported = B.moved.reported;
      } in
      let Y = X p in
      record {
        moved = node_written_moved (paid_moved (moved_trans B.moved Y.moved)) (omega (arith, B.moved, Y.moved)) F;
        is = λ rd.
            say (rw (run, no v h) (go_bind d P.parse_expression (or_return (λ e. P.expect 50 >>? λ _. k e)) _
            ∙ expect_seam d plain 50 k (go d P.parse_expression (st_of w x n f rd s))))
            (writes_node d (λ _. place_of place) (λ _. byte 1 ∷ []) [] F (λ _ _. refl)
            (expects_after p Y plain d (length-take-le s.pos o (omega (arith, q.room)))
            (errs_length r s.reported (omega (arith, q.asks))) (B.is rd)));
      }

-- ---- `if`, after the keyword

module _ {w x : List ℕ} {n d : ℕ} {o : List ℕ} {r f : List Error} {o1 : List ℕ} {r1 f1 : List Error} {s : State} {a : Answer} (place : Place) (q : Asked w n o r f s)
    (B : Reads node w x n d guarded_rule o r f s o1 r1 f1 a) where
  -- the condition and the first branch
  if_guarded : (rd : List Consumed)
      → go d (P.parse_if (place_of place)) (st_of w x n f rd s)
      ≡ after (go d guarded_rule (st_of w x n f rd s)) (λ z S. go d (or_return (else_on (place_of place)) z) S)
  unfolding P.parse_if
  if_guarded rd =
      guarded_seam d (if_parts (place_of place)) (else_on (place_of place)) (if_joined d (place_of place)) _
      ∙ go_bind d guarded_rule (or_return (else_on (place_of place))) _

  pub if_stops : Stopped a → ReadsPaid w x n d (P.parse_if (place_of place)) o r f s o1 r1 f1 a
  if_stops nd =
      record {
        moved = paid_moved B.moved;
        is = λ rd. say (if_guarded rd) (stops d (else_on (place_of place)) _ nd (B.is rd));
      }

  module _ {t : Token} (z : a.status ≡ Done) (v : Seen w x n a.state.at t) where
    -- without `else`, and with it
    pub if_two : {o2 : List ℕ} {y : Answer} → (kind_number t.kind ≡ 11 → ⊥) → NodeWritten o1 a (placed place Tag.If (Byte 2) []) o2 y
        → ReadsPaid w x n d (P.parse_if (place_of place)) o r f s o2 r1 f1 y
    unfolding go run
    if_two {o2} {y} h F =
        let k : Fallible Node → Act (Ans Node) = wrapped node [] [] 0x49 (λ _. place_of place) (λ _. byte 2 ∷ []) [] in
        record {
          moved = node_written_moved (paid_moved B.moved) (omega (arith, B.moved)) F;
          is = λ rd.
              let g = good_of z (B.is rd) in
              let step : go d (else_on (place_of place) (record { item = g.item; errors = g.errors })) (st_of w x n f1 g.read a.state) ≡ go d (k (record { item = g.item; errors = g.errors })) (st_of w x n f1 g.read a.state) =
              rw (run, no v h) in
              say
              (if_guarded rd ∙ follows d (else_on (place_of place)) g.is ∙ step ∙ sym (follows d k g.is))
              (writes_node d (λ _. place_of place) (λ _. byte 2 ∷ []) [] F (λ _ _. refl) (B.is rd));
        }

    pub if_three : {o2 : List ℕ} {r2 f2 r3 : List Error} {o3 : List ℕ} {b c y : Answer} → kind_number t.kind ≡ 11
        → Reads node w x n d P.parse_statement o1 r1 f1 (fore a.state t) o2 r2 f2 b → length r1 ≡ length r
        → Abandoned r2 b s.pos s.reported a.state.reported r3 c
        → NodeWritten o2 c (placed place Tag.If (Byte 3) []) o3 y → ReadsPaid w x n d (P.parse_if (place_of place)) o r f s o3 r3 f2 y
    unfolding go run
    if_three {b = b} {c = c} {y = y} h D lr C F =
        let e : budget w n c.state.at ≡ budget w n b.state.at = ap (λ (k : ℕ). budget w n k) C.at in
        let M : Moved w n s.pos s.reported s c.state = omega (arith, C, D.moved, v.up, v.pays, B.moved) in
        record {
          moved = node_written_moved (paid_moved M) (omega (arith, M)) F;
          is = λ rd.
              let g = good_of z (B.is rd) in
              let k : Fallible Node → Act (Ans Node) = wrapped node g.item.recs g.errors 0x49
              (λ _. place_of place) (λ _. byte 3 ∷ []) [] in
              let step : go d (else_on (place_of place) (record { item = g.item; errors = g.errors })) (st_of w x n f1 g.read a.state) ≡ go d (P.parse_statement >>? k) (st_of w x n f1 (past w x n a.state.at g.read) (fore a.state t)) =
              rw (run, yes v h)
              (ap (λ (S : St). go d (P.parse_statement >>? k) S) (adv a.state v (λ _. plain) f1 g.read _)) in
              say (if_guarded rd ∙ follows d (else_on (place_of place)) g.is ∙ step ∙ go_bind d P.parse_statement (or_return k) _)
              (writes_node d (λ _. place_of place) (λ _. byte 3 ∷ []) [] F (λ _ _. refl)
              (abandons {T = take s.pos o} {E = errs r s.reported} g.tree g.reported
              (length-take-le s.pos o (omega (arith, q.room)))
              (errs_length r s.reported (omega (arith, q.asks)))
              (errs_length r1 a.state.reported (omega (arith, q.asks, B.moved, lr))) C
              (omega (arith, D.moved.pos, B.moved.pos))
              (omega (arith, D.moved.reported, B.moved.reported))
              (D.is (past w x n a.state.at g.read))));
        }

-- ---- a condition and the statement it guards

module _ {w x : List ℕ} {n d : ℕ} {o : List ℕ} {r f : List Error} {o1 : List ℕ} {r1 f1 : List Error} {s : State} {a : Answer} (q : Asked w n o r f s)
    (B : Reads node w x n d P.parse_expression o r f s o1 r1 f1 a) where
  pub guarded_stops : Stopped a → Reads node w x n d guarded_rule o r f s o1 r1 f1 a
  guarded_stops nd = then_stops _ B nd

  module _ {o2 : List ℕ} {r2 f2 r3 : List Error} {b c : Answer} (z : a.status ≡ Done)
      (D : Reads node w x n d P.parse_statement o1 r1 f1 a.state o2 r2 f2 b) (lr : length r1 ≡ length r)
      (C : Abandoned r2 b s.pos s.reported a.state.reported r3 c) where
    pub guarded_reads : Reads node w x n d guarded_rule o r f s o2 r3 f2 c
    guarded_reads =
        record {
          moved = moved_trans B.moved (abandoned_moved D.moved C);
          on = omega (arith, C.at, D.moved.at, B.on);
          is = λ rd.
              let g = good_of z (B.is rd) in
              let y : Fallible Node = record { item = g.item; errors = g.errors } in
              say (go_bind d P.parse_expression
              (or_return (λ c. P.parse_statement >>? λ b. done (ok (guarding c b)))) _
              ∙ follows d (λ c. P.parse_statement >>? λ b. done (ok (guarding c b))) g.is
              ∙ go_bind d P.parse_statement (or_return (λ b. done (ok (guarding y b)))) _)
              (joins d y (abandons {T = take s.pos o} {E = errs r s.reported} g.tree g.reported
              (length-take-le s.pos o (omega (arith, q.room)))
              (errs_length r s.reported (omega (arith, q.asks)))
              (errs_length r1 a.state.reported (omega (arith, q.asks, B.moved, lr))) C
              (omega (arith, D.moved.pos, B.moved.pos))
              (omega (arith, D.moved.reported, B.moved.reported)) (D.is g.read)));
        }
