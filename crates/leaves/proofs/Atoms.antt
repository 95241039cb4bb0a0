-- A node of one token; one law for each return of `literal`; the end of a group. Assumes nothing.
use mathlib.Core.Path.{subst, ◌≡◌, refl, sym, ap, ◌∙◌}
use mathlib.Core.Option.{some}
use mathlib.Core.List.{List, [], ◌∷◌, ◌++◌, append-nil}
use Prim.Native.Nat.{ℕ, min, ◌+◌, ◌*◌, ◌%◌, ◌≤◌}
use native.Mathlib.Omega.{arith}
use lib.ListN.{length, take}
use Rattle.definition.specs.Node.{Rec, Num, byte, recs_bytes}
use Rattle.definition.specs.Fallible.{Ans, ok}
use Rattle.definition.specs.Token.{next_token}
use Rattle.definition.specs.Act.{Node, Act, plain, Consumed, St, gives, advance, now_read, run}
use Rattle.definition.specs.Numbers.{kind_number}
use Rattle.definition.specs.Parser as P
use Rattle.definition.specs.Go.{go}
use Rattle.definition.specs.declared.tag.Tag.{Tag}
use Rattle.node.specs.Put.{placed, size_of}
use Rattle.node.specs.declared.Numbers.TheVariants.{None, Byte}
use Rattle.fallible.specs.declared.parser.State.{State}
use Rattle.fallible.specs.Answer.{nowhere, Status, Done, Fatal, Refused, Answer}
use Rattle.fallible.specs.Lists.{err_of, error_at, errs}
use Rattle.fallible.specs.Answers.{raised, Raised}
use Rattle.steps.specs.declared.tokens.Token.{Token}
use Rattle.steps.specs.Tokens.{rest, budget, Seen}
use Rattle.steps.specs.Shows.{st_of, Asks, node, token, Reads, Expects, NodeWritten}
use Rattle.steps.proofs.Records.{yes, no, other, fore, adv}
use Rattle.steps.proofs.Answers.{say, writes_node, raise_same}
use Rattle.leaves.specs.Leaves.{there, identifier, Literal, ClosingOf, ClosedOf, Closed}
use Rattle.leaves.proofs.Errors.{raise_reads}
use Rattle.fallible.specs.declared.error.Error.{Error}

-- ---- a token that is a node: the record z is written for it

module _ {w x : List ℕ} {n : ℕ} {o o' : List ℕ} {r f : List Error} {s : State} {t : Token} {z : Rec} {y : Answer}
    {m : Act (Ans Node)} (q : Asks n r f s) (v : Seen w x n s.at t) (ns : List Num) (text : List ℕ)
    (u : NodeWritten o (there s t) z o' y) where
  -- an act that reads the token and writes its record reads a node
  pub leaf_reads : size_of z ≤ 16 * min (kind_number t.kind) 1 + length t.text.now
      → z
      ≡ record { tag = z.tag; place = some (next_token (rest w x n s.at)).place; numbers = ns; text = text }
      → (d : ℕ)
      → ((rd : List Consumed)
      → go d m (st_of w x n f rd s)
      ≡ go d (P.good (P.node [] z.tag (next_token (rest w x n s.at)).place ns text) [])
      (advance (λ _. plain) (st_of w x n f rd s)))
      → Reads node w x n d m o r f s o' r f y
  unfolding recs_bytes
  leaf_reads h e d g = record {
    moved =
        let b : budget w n y.state.at ≡ budget w n t.next = ap (λ (k : ℕ). budget w n k) u.at in
        record {
          at = omega arith;
          end = omega arith;
          pos = u.low;
          room = omega arith;
          reported = omega arith;
          less = omega arith;
          full = omega arith;
          few = omega arith;
        };
    on = omega (arith, v.present, v.on, u.at);
    is =
        λ rd. say (g rd
        ∙ ap (λ (S : St). go d (P.good (P.node [] z.tag (next_token (rest w x n s.at)).place ns text) []) S)
        (adv s v (λ _. plain) f rd _))
        (writes_node {K = token (next_token (rest w x n s.at))} {rs = []} {es = []} {q = gives (ok (record { item = next_token (rest w x n s.at); errors = [] })) (st_of w x n f (rd ++ now_read (λ _. plain) (rest w x n s.at)) (fore s t))} d (λ _. (next_token (rest w x n s.at)).place) (λ _. ns) text u (λ _ _. e)
        (record {
          told = record {
            item = next_token (rest w x n s.at);
            errors = [];
            read = rd ++ now_read (λ _. plain) (rest w x n s.at);
            is = refl;
            tree = sym (append-nil (take s.pos o));
            reported = sym (append-nil (errs r s.reported));
            holds = (refl, v.place x);
          };
        }));
  }

-- ---- `literal`

-- `parse_atom`, at any nesting
abbrev pub Atom : List ℕ → List ℕ → ℕ → List ℕ → List Error → List Error → State → List ℕ → List Error → List Error → Answer → Type 0
Atom w x n o r f s o' r' f' y = (d : ℕ) → Reads node w x n d P.parse_atom o r f s o' r' f' y

module _ {w x : List ℕ} {n : ℕ} {o : List ℕ} {r f : List Error} {s : State} {t : Token} (q : Literal w x n o r f s) (v : Seen w x n s.at t) where
  pub integer_reads : {o' : List ℕ} {y : Answer} → kind_number t.kind ≡ 2
      → NodeWritten o (there s t) (placed t.place Tag.Integer (Byte (t.base % 256)) t.text.now) o' y → Atom w x n o r f s o' r f y
  unfolding go run P.parse_atom
  integer_reads z u d =
      let b : t.base % 256 ≡ t.base = omega (arith, v.bases) in
      leaf_reads q.asked.asks v (byte (next_token (rest w x n s.at)).base ∷ [])
      (next_token (rest w x n s.at)).text u (omega arith) (rw (v.place, v.text, v.base, b)) d
      (λ rd. rw (run, yes v z))

  pub name_reads : {o' : List ℕ} {y : Answer} → kind_number t.kind ≡ 1 → NodeWritten o (there s t) (identifier t) o' y → Atom w x n o r f s o' r f y
  unfolding go run P.parse_atom
  name_reads z u d =
      leaf_reads q.asked.asks v [] (next_token (rest w x n s.at)).text u (omega arith)
      (rw (v.place, v.text)) d (λ rd. rw (run, other v z 2 refl, yes v z))

  pub string_reads : {o' : List ℕ} {y : Answer} → kind_number t.kind ≡ 3 → NodeWritten o (there s t) (placed t.place Tag.String None t.text.now) o' y
      → Atom w x n o r f s o' r f y
  unfolding go run P.parse_atom
  string_reads z u d =
      leaf_reads q.asked.asks v [] (next_token (rest w x n s.at)).text u (omega arith)
      (rw (v.place, v.text)) d (λ rd. rw (run, other v z 2 refl, other v z 1 refl, yes v z))

  pub true_reads : {o' : List ℕ} {y : Answer} → kind_number t.kind ≡ 12 → NodeWritten o (there s t) (placed t.place Tag.Boolean (Byte 1) []) o' y
      → Atom w x n o r f s o' r f y
  unfolding go run P.parse_atom
  true_reads z u d =
      leaf_reads q.asked.asks v (byte 1 ∷ []) [] u (omega arith) (rw v.place) d
      (λ rd. rw (run, other v z 2 refl, other v z 1 refl, other v z 3 refl, yes v z))

  pub false_reads : {o' : List ℕ} {y : Answer} → kind_number t.kind ≡ 13 → NodeWritten o (there s t) (placed t.place Tag.Boolean (Byte 0) []) o' y
      → Atom w x n o r f s o' r f y
  unfolding go run P.parse_atom
  false_reads z u d =
      leaf_reads q.asked.asks v (byte 0 ∷ []) [] u (omega arith) (rw v.place) d
      (λ rd. rw (run, other v z 2 refl, other v z 1 refl, other v z 3 refl, other v z 12 refl, yes v z))

  module _ {e : Error} {r' f' : List Error} {y : Answer} (g : Raised (raised n (fore s t)) r f (fore s t) e r' f' y) where
    pub end_reads : kind_number t.kind ≡ 0 → err_of e ≡ error_at 8 nowhere 0 0 → Atom w x n o r f s o r' f' y
    unfolding go run P.parse_atom
    end_reads z i d =
        raise_reads q.asked.asks v plain g d (λ rd. rw
        (run, other v z 2 refl, other v z 1 refl, other v z 3 refl, other v z 12 refl, other v z 13 refl, other v z 41 refl, yes v z)
        (raise_same d (sym i) (adv s v (λ _. plain) f rd _)))

    pub other_reads : (kind_number t.kind ≡ 2 → ⊥) → (kind_number t.kind ≡ 1 → ⊥) → (kind_number t.kind ≡ 3 → ⊥) → (kind_number t.kind ≡ 12 → ⊥) → (kind_number t.kind ≡ 13 → ⊥)
        → (kind_number t.kind ≡ 0 → ⊥) → err_of e ≡ error_at 7 t.place 0 (kind_number t.kind) → Atom w x n o r f s o r' f' y
    unfolding go run P.parse_atom
    other_reads m2 m1 m3 m12 m13 z i d =
        raise_reads q.asked.asks v plain g d (λ rd. rw
        (run, no v m2, no v m1, no v m3, no v m12, no v m13, no v (λ b. q.bare (v.kind x ∙ b)), no v z)
        (raise_same d (rw (v.place, v.kind) (sym i)) (adv s v (λ _. plain) f rd _)))

-- ---- `close`

-- the answer is refused, or it is not
abbrev pub Ended : Answer → Type 0
Ended a = (m : ℕ) × (a.status ≡ Refused m)

abbrev pub Alive : Answer → Type 0
Alive a = (m : ℕ) → a.status ≡ Refused m → ⊥

pub if_ended : (C : Status → Type 0) (h : Status) → (m : ℕ) × (h ≡ Refused m) → ((m : ℕ) → C (Refused m)) → C h
if_ended C h e p = subst C (sym e.1) (p e.0)

pub if_alive : (C : Status → Type 0) (h : Status) → ((m : ℕ) → h ≡ Refused m → ⊥) → C Done → C Fatal → C h
if_alive C Done e p q = p
if_alive C Fatal e p q = q
if_alive C (Refused m) e p q = absurd (e m refl)

module _ {w : List ℕ} {n : ℕ} {r f : List Error} {a : Answer} (q : Asks n r f a.state) where
  module _ {r' f' : List Error} {b : Answer} (l : Alive a) (e : Expects w n (λ role. P.expect_as role 42) r f a.state r' f' b) where
    -- what `expect` answers decides
    closes : (y : Answer) → y.state ≡ b.state → ClosingOf b.status a b y → Closed w n r f a r' f' y
    closes y z i =
        record {
          moved = rw z e.moved;
          pos = rw z e.pos;
          is = if_alive (λ k. ClosedOf k w n r f a r' f' y) a.status l (record { b = b; expects = e; is = i })
              (record { b = b; expects = e; is = i });
        }

    -- refused at `)`; else the answer a with the state after `)`
    pub close_refused : Ended b → Closed w n r f a r' f' b
    close_refused h = closes b refl (if_ended (λ k. ClosingOf k a b b) b.status h (λ m. refl))

    pub close_on : Alive b → Closed w n r f a r' f' (record { status = a.status; state = b.state; place = a.place; count = a.count })
    close_on h =
        closes _ refl (if_alive
        (λ k. ClosingOf k a b (record { status = a.status; state = b.state; place = a.place; count = a.count }))
        b.status h refl refl)
