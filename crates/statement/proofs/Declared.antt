-- Compounds and declarations: one law for each return of the functions. Assumes nothing.
use mathlib.Core.Path.{◌≡◌, refl, sym, ap, ◌∙◌, subst}
use mathlib.Core.Option.{some-injective}
use mathlib.Core.List.{List, [], ◌∷◌}
use Prim.Native.Nat.{ℕ, ◌+◌, ◌≤◌, ◌<◌}
use native.Mathlib.Omega.{arith}
use lib.Dec.{eqb}
use lib.ListN.{length, take}
use lib.Seq.{length-take-le}
use Rattle.definition.specs.Numbers.{kind_number, tag_number}
use Rattle.definition.specs.Source as S
use Rattle.definition.specs.declared.place.Place.{Place}
use Rattle.definition.specs.Node.{two}
use Rattle.definition.specs.Fallible.{Err, Fallible, Ans}
use Rattle.definition.specs.Token.{next_token}
use Rattle.definition.specs.Act as A
use Rattle.definition.specs.Act.{Act, Node, peek, when◌then◌else◌, plain, Consumed, Res, after, or_return, run, ◌>>=◌, ◌>>?◌}
use Rattle.definition.specs.Parser as P
use Rattle.definition.specs.Go.{go}
use Rattle.definition.specs.Places.{place_of}
use Rattle.definition.proofs.Flat.{go_bind}
use Rattle.definition.specs.declared.tag.Tag.{Tag}
use Rattle.fallible.proofs.Grown.{errs_length}
use Rattle.fallible.specs.declared.parser.State.{State}
use Rattle.fallible.specs.Answer.{nowhere, Status, Done, Fatal, Refused, done_of, Answer}
use Rattle.fallible.specs.Lists.{err_of, error_at, errs}
use Rattle.fallible.specs.Answers.{raised, Raised}
use Rattle.node.specs.Put.{placed}
use Rattle.node.specs.declared.Numbers.TheVariants.{None, Two}
use Rattle.steps.specs.declared.tokens.Token.{Token}
use Rattle.steps.specs.Tokens.{rest, present, Seen}
use Rattle.steps.specs.Shows.{st_of, Asks, Asked, Moved, ShowsOf, Shows, Reads, node, items, typed, Expects, Follows, Expected, NodeWrittenOf, NodeWritten}
use Rattle.steps.proofs.Records.{yes, no}
use Rattle.steps.proofs.Moves.{making_moved, moved_trans, asks_moved}
use Rattle.steps.proofs.Answers.{Stopped, say, good_of, stops, follows, wrapped, wrote, raise_shows, raise_same}
use Rattle.steps.proofs.Following.{expects_after}
use Rattle.leaves.specs.Leaves.{name_in}
use Rattle.expression_laws.specs.Post.{as_answer, name_of, ReadsList}
use Rattle.expression_laws.proofs.Names.{name_length}
use Rattle.expression_laws.proofs.Types.{record_reads, through}
use Rattle.expression_laws.proofs.Calls.{expect_seam}
use Rattle.statement.proofs.Spare.{written_moved}
use Rattle.statement.specs.Post.{ReadsDeclared}
use Rattle.fallible.specs.declared.error.Error.{Error}

-- ---- `compound`

-- the values, and their record
abbrev pub values_rule : A.Listed → ℕ → S.Place → Act (Ans Node)
values_rule k tag p = P.parse_list k >>= λ i. P.good (P.node i.recs tag p (two i.count ∷ []) []) i.errors

module _ {w x : List ℕ} {n d : ℕ} {o : List ℕ} {r f : List Error} {o1 : List ℕ} {r1 f1 : List Error} {o2 : List ℕ} {s : State} {b y : Answer} (k : A.Listed) (tag : Tag) (place : Place) (there : 0 < present n s.at) (B : ReadsList w x n d k o r f s o1 r1 f1 b)
    (F : NodeWritten o1 b (placed place tag (Two b.count) []) o2 y) where
  values_reads : Reads node w x n d (values_rule k (tag_number tag) (place_of place)) o r f s o2 r1 f1 y
  values_reads =
      record_reads {K = items} (place_of place) (λ i. two i.count ∷ []) [] F B.moved B.on (omega (arith, B.spare, there))
      (λ i e. rw e) (λ rd. go d (P.parse_list k >>= as_answer) (st_of w x n f rd s))
      (λ rd. through d (P.parse_list k) _
      (wrapped items [] [] (tag_number tag) (λ _. place_of place) (λ i. two i.count ∷ []) []) (λ i. refl) (st_of w x n f rd s))
      B.is

-- the continuation after `#`
abbrev pub hashed : Act (Ans Node)
hashed =
    peek λ t.
    when◌then◌else◌ (eqb t.kind 0) (P.raise (P.error 18 S.nowhere 0 0))
    (when◌then◌else◌ (eqb t.kind 43) (values_rule A.ArrayValues 0x30 t.place)
    (when◌then◌else◌ (eqb t.kind 39) (values_rule A.StructValues 0x31 t.place)
    (P.raise (P.error 19 t.place 0 t.kind))))

module _ {w x : List ℕ} {n d : ℕ} {o : List ℕ} {r f r1 f1 : List Error} {s : State} {a : Answer}
    (X : Expects w n (λ role. P.expect_as role 38) r f s r1 f1 a) where
  pub compound_stops : Stopped a → Reads node w x n d P.parse_compound o r f s o r1 f1 a
  unfolding P.parse_compound
  compound_stops nd =
      record {
        moved = X.moved;
        on = X.on;
        is = λ rd. say (go_bind d (P.expect 38) (or_return (λ _. hashed)) _)
            (stops d (λ _. hashed) _ nd (X.is x plain d rd o));
      }

  module _ (z : a.status ≡ Done) where
    -- m parses what follows `#`
    compound_on : {o1 : List ℕ} {r2 f2 : List Error} {y : Answer} (m : Act (Ans Node))
        → ((rd : List Consumed)
        → go d hashed (st_of w x n f1 rd a.state) ≡ go d m (st_of w x n f1 rd a.state))
        → Moved w n a.state.pos a.state.reported a.state y.state
        → ((rd : List Consumed)
        → Shows node (take a.state.pos o) (errs r1 a.state.reported) [] [] w x n o1 r2 f2 y
        (go d m (st_of w x n f1 rd a.state)))
        → Reads node w x n d P.parse_compound o r f s o1 r2 f2 y
    unfolding P.parse_compound
    compound_on {o1} {r2} {f2} {y} m step M shown =
        let kept = X.kept z in
        record {
          moved = omega (arith, X.moved, X.pos, kept.0, M);
          on = omega (arith, X.on, M.at);
          is = λ rd.
              let g = good_of z (X.is x plain d rd o) in
              say (go_bind d (P.expect 38) (or_return (λ _. hashed)) _ ∙ follows d (λ _. hashed) g.is ∙ step g.read)
              (subst (λ (T : List ℕ). Shows node T (errs r s.reported) [] [] w x n o1 r2 f2 y (go d m (st_of w x n f1 g.read a.state))) (ap (λ (k : ℕ). take k o) X.pos)
              (subst (λ (E : List Err). Shows node (take a.state.pos o) E [] [] w x n o1 r2 f2 y
              (go d m (st_of w x n f1 g.read a.state))) kept.1 (shown g.read)));
        }

    module _ {t : Token} (u : Seen w x n a.state.at t) where
      -- the rest is the values; or they are read, and their record is written
      module _ {o1 : List ℕ} {r2 f2 : List Error} {y : Answer} where
        pub compound_array : kind_number t.kind ≡ 43
            → Reads node w x n d (values_rule A.ArrayValues 0x30 (place_of t.place)) o r1 f1 a.state o1 r2 f2 y
            → Reads node w x n d P.parse_compound o r f s o1 r2 f2 y
        unfolding go run
        compound_array h R =
            compound_on (values_rule A.ArrayValues 0x30 (place_of t.place))
            (λ rd. rw (run, no {k = 0} u (λ e. omega (arith, h)), yes u h)
            (ap (λ (p : S.Place). go d (values_rule A.ArrayValues 0x30 p) (st_of w x n f1 rd a.state)) (u.place x)))
            R.moved R.is

        pub compound_struct : kind_number t.kind ≡ 39
            → Reads node w x n d (values_rule A.StructValues 0x31 (place_of t.place)) o r1 f1 a.state o1 r2 f2 y
            → Reads node w x n d P.parse_compound o r f s o1 r2 f2 y
        unfolding go run
        compound_struct h R =
            compound_on (values_rule A.StructValues 0x31 (place_of t.place))
            (λ rd. rw (run, no {k = 0} u (λ e. omega (arith, h)), no {k = 43} u (λ e. omega (arith, h)), yes u h)
            (ap (λ (p : S.Place). go d (values_rule A.StructValues 0x31 p) (st_of w x n f1 rd a.state)) (u.place x)))
            R.moved R.is

        module _ {o2 : List ℕ} {b : Answer} where
          pub array_reads : kind_number t.kind ≡ 43 → ReadsList w x n d A.ArrayValues o r1 f1 a.state o2 r2 f2 b
              → NodeWritten o2 b (placed t.place Tag.CompoundArray (Two b.count) []) o1 y
              → Reads node w x n d P.parse_compound o r f s o1 r2 f2 y
          array_reads h B F = compound_array h (values_reads A.ArrayValues Tag.CompoundArray t.place (omega (arith, u.present, h)) B F)

          pub struct_reads : kind_number t.kind ≡ 39 → ReadsList w x n d A.StructValues o r1 f1 a.state o2 r2 f2 b
              → NodeWritten o2 b (placed t.place Tag.CompoundStruct (Two b.count) []) o1 y
              → Reads node w x n d P.parse_compound o r f s o1 r2 f2 y
          struct_reads h B F = compound_struct h (values_reads A.StructValues Tag.CompoundStruct t.place (omega (arith, u.present, h)) B F)

      module _ {e : Error} {r2 f2 : List Error} {y : Answer} (q : Asks n r1 f1 a.state)
          (g : Raised (raised n a.state) r1 f1 a.state e r2 f2 y) where
        failed : ((rd : List Consumed)
            → go d hashed (st_of w x n f1 rd a.state)
            ≡ go d (P.raise (err_of e)) (st_of w x n f1 rd a.state))
            → Reads node w x n d P.parse_compound o r f s o r2 f2 y
        failed step = compound_on (P.raise (err_of e)) step (rw g.is (making_moved q Fatal)) (λ rd. raise_shows node q g d rd o)

        pub compound_end : kind_number t.kind ≡ 0 → err_of e ≡ error_at 18 nowhere 0 0 → Reads node w x n d P.parse_compound o r f s o r2 f2 y
        unfolding go run
        compound_end z i = failed (λ rd. rw (run, yes u z) (raise_same d {S = st_of w x n f1 rd a.state} (sym i) refl))

        pub compound_other : (kind_number t.kind ≡ 0 → ⊥) → (kind_number t.kind ≡ 43 → ⊥) → (kind_number t.kind ≡ 39 → ⊥)
            → err_of e ≡ error_at 19 t.place 0 (kind_number t.kind)
            → Reads node w x n d P.parse_compound o r f s o r2 f2 y
        unfolding go run
        compound_other m0 m43 m39 i =
            failed (λ rd. rw (run, no u m0, no u m43, no u m39)
            (raise_same d {S = st_of w x n f1 rd a.state} (rw (u.place, u.kind) (sym i)) refl))

-- ---- `declaration`

-- the record of a declaration, after its type and value
abbrev declares : ℕ → S.Place → Fallible P.Typed → Act (Ans Node)
declares tag p x = P.good (P.node x.item.type tag p [] x.item.name) x.errors

names : {T : List ℕ} {E : List Err} {w x : List ℕ} {n : ℕ} {o o' : List ℕ} {r f : List Error} {b y : Answer}
    {place : Place} {name : List ℕ} {q : Res (Ans P.Typed)} (tag : Tag) (d : ℕ)
    → NodeWritten o b (placed place tag None name) o' y
    → Shows (typed name) T E [] [] w x n o r f b q
    → Shows node T E [] [] w x n o' r f y (after q (λ z S. go d (or_return (declares (tag_number tag) (place_of place)) z) S))
unfolding go run
names {T} {E} {w} {x} {n} {o} {o'} {r} {f} {b} {y} {place} {name} {q} tag d N v =
    record { told = one b.status refl N.is v.told }
  where
    one : (h : Status) → b.status ≡ h → NodeWrittenOf h o b (placed place tag None name) o' y
        → ShowsOf h (typed name) T E [] [] w x n o r f b q
        → ShowsOf y.status node T E [] [] w x n o' r f y
        (after q (λ z S. go d (or_return (declares (tag_number tag) (place_of place)) z) S))
    one Done z m g =
        rw m.0 (record {
          item = P.node g.item.type (tag_number tag) (place_of place) [] g.item.name;
          errors = g.errors;
          read = g.read;
          is = rw (g.is, N.at, N.full);
          tree = wrote T g.item.type m.1.0 g.tree (ap (λ (t : List ℕ). placed place tag None t) g.holds);
          reported = ap (λ (k : ℕ). errs r k) N.reported ∙ g.reported;
          holds = some-injective _ _ (sym m.1.1);
        })
    one Fatal z m g = rw (m.0, m.1, z) (record { errors = g.errors; read = g.read; is = rw g.is; tree = g.tree; reported = g.reported })
    one (Refused k) z m g = rw (m.0, z, g)

module _ {w x : List ℕ} {n d : ℕ} {o : List ℕ} {r f : List Error} {o1 : List ℕ} {r1 f1 r2 f2 : List Error} {s : State} {t : Token} {a b : Answer} (q : Asked w n o r f s) (u : Seen w x n s.at t) (D : ReadsDeclared w x n d o r f s o1 r1 f1 a) where
  pub declaration_room : Expected w n 50 s.pos s.reported r1 f1 a r2 f2 b → b.status ≡ Done → length o1 ≡ length o
      → b.state.pos + 16 + length (name_in t) ≤ length o1
  declaration_room X z l =
      let one : done_of b.status ≡ 1 = rw z in
      omega (arith, q.room, D.spare, X.high, X.pays, name_length t, ap length u.text)

  pub declaration_reads : {o2 : List ℕ} {y : Answer} {place : Place}
      → (Follows n r1 f1 a s.pos s.reported → Expected w n 50 s.pos s.reported r1 f1 a r2 f2 b)
      → (tag : Tag) → length r1 ≡ length r → length f1 ≡ length f
      → NodeWritten o1 b (placed place tag None (name_in t)) o2 y
      → Reads node w x n d (P.declaration (tag_number tag) (place_of place)) o r f s o2 r2 f2 y
  unfolding P.declaration
  declaration_reads {y = y} {place = place} X tag lr lf N =
      let name : name_of (next_token (rest w x n s.at)) ≡ name_in t = rw (u.kind, u.text) in
      let p : Follows n r1 f1 a s.pos s.reported = record {
        asks = asks_moved q.asks D.moved lr lf;
        pos = D.moved.pos;
        reported = D.moved.reported;
      } in
      let Y = X p in
      record {
        moved = written_moved (moved_trans D.moved Y.moved) (λ z. let one : done_of b.status ≡ 1 = rw z in
            omega (arith, name_length t, ap length u.text, Y.high, Y.pays, D.spare)) N;
        on = omega (arith, N.at, Y.moved.at, D.on);
        is = λ rd.
            say (go_bind d P.parse_var_like_declaration
            (or_return (λ x. P.expect 50 >>? λ _. declares (tag_number tag) (place_of place) x)) _
            ∙ expect_seam d plain 50 (declares (tag_number tag) (place_of place))
            (go d P.parse_var_like_declaration (st_of w x n f rd s)))
            (names tag d N (expects_after p Y plain d (length-take-le s.pos o (omega (arith, q.room)))
            (errs_length r s.reported (omega (arith, q.asks))) (rw name at (D.is rd))));
      }
