-- Declarations without their place: one law for each return of `var_like_declaration`. Assumes nothing.
use mathlib.Core.Path.{◌≡◌, refl, sym, ap, ◌∙◌, subst}
use mathlib.Core.List.{List, [], ◌∷◌, ◌++◌, append-nil, append_assoc}
use Prim.Native.Nat.{ℕ, ◌+◌, ◌*◌, ◌≤◌, ◌<◌}
use native.Mathlib.Omega.{arith}
use lib.Dec.{eqb}
use lib.ListN.{length}
use lib.Seq.{length-take-le}
use Rattle.definition.specs.Numbers.{kind_number, tag_number}
use Rattle.definition.specs.declared.tag.Tag.{Tag}
use Rattle.definition.specs.Node.{Rec, recs_bytes}
use Rattle.definition.specs.Fallible.{Err, Fallible, Ans, ok}
use Rattle.definition.specs.Act.{Act, Node, peek, next, when◌then◌else◌, plain, Consumed, St, Res, gives, after, or_return, run, ◌>>?◌}
use Rattle.definition.specs.Kind as K
use Rattle.definition.specs.Tag as T
use Rattle.definition.specs.Parser as P
use Rattle.definition.specs.Go.{go}
use Rattle.definition.specs.Places.{place_of}
use Rattle.definition.proofs.Flat.{go_bind}
use Rattle.fallible.proofs.Grown.{errs_length}
use Rattle.fallible.specs.declared.parser.State.{State}
use Rattle.fallible.specs.Answer.{nowhere, Status, Done, Fatal, Refused, done_of, Answer}
use Rattle.fallible.specs.Lists.{errs}
use Rattle.fallible.specs.Answers.{Abandoned}
use Rattle.node.specs.Put.{bare_of, Wrote}
use Rattle.node.specs.declared.Numbers.TheVariants.{None}
use Rattle.steps.specs.declared.tokens.Token.{Token}
use Rattle.steps.specs.Tokens.{budget, Seen}
use Rattle.steps.specs.Shows.{st_of, Asked, Moved, ShowsOf, Shows, Reads, GoesOn, node, typed}
use Rattle.steps.proofs.Records.{yes, no, fore, adv}
use Rattle.steps.proofs.Moves.{asked_moved}
use Rattle.steps.proofs.Answers.{Stopped, say, good_of, is_good, stops, follows, abandons, wrote, not_done, done_le}
use Rattle.expression_laws.specs.Post.{ReadsTyped}
use Rattle.expression_laws.proofs.Types.{past}
use Rattle.statement.specs.declared.declarations.Tags.{Tags}
use Rattle.statement.specs.Post.{up, Given, given_tag, ValueOf, Valued, ReadsDeclared}
use Rattle.fallible.specs.declared.error.Error.{Error}

-- ---- the record of an initial value

-- a record with an empty body after an answer
abbrev pub BaredOf : Status → List ℕ → Answer → ℕ → List ℕ → Answer → Type 0
BaredOf Done o a tag o' y = (y.status ≡ Done) × Wrote o a.state.pos (bare_of tag None []) o' y.state.pos
BaredOf Fatal o a tag o' y = (y ≡ a) × (o' ≡ o)
BaredOf (Refused m) o a tag o' y = (y ≡ a) × (o' ≡ o)

pub record Bared (o : List ℕ) (a : Answer) (tag : ℕ) (o' : List ℕ) (y : Answer) : Type 0 where
  pub at : y.state.at ≡ a.state.at
  pub reported : y.state.reported ≡ a.state.reported
  pub full : y.state.full ≡ a.state.full
  pub low : a.state.pos ≤ y.state.pos
  pub high : y.state.pos ≤ a.state.pos + 3 * done_of a.status
  pub is : BaredOf a.status o a tag o' y

-- the initial value after a typed identifier
abbrev pub value_on : Fallible P.Typed → Act (Ans P.Typed)
value_on x =
    peek λ t.
    when◌then◌else◌ (eqb t.kind K.Equals)
    (next λ _. P.parse_expression >>? λ e. P.declared x (P.bare e.item.recs T.AssignedValue []) e.errors)
    (when◌then◌else◌ (eqb t.kind K.LArrow)
    (next λ _. P.parse_compound >>? λ c. P.declared x (P.bare c.item.recs T.CompoundValue []) c.errors)
    (P.declared x (P.bare [] T.NoValue []) []))

-- after a typed identifier, in a construct that began at i and j; no token accounts for the record of an absent value
pub record ValueOn (w x : List ℕ) (n d i j : ℕ) (o : List ℕ) (r f : List Error) (a : Answer) (o' : List ℕ) (r' f' : List Error) (y : Answer) : Type 0 where
  pub moved : Moved w n i j (up (3 * done_of a.status) a.state) y.state
  pub there : done_of y.status ≤ done_of a.status
  pub is : (name : List ℕ) (T : List ℕ) (E : List Err) (q : Res (Ans P.Typed)) → length T ≡ i → length E ≡ j → Shows (typed name) T E [] [] w x n o r f a q
      → Shows (typed name) T E [] [] w x n o' r' f' y (after q (λ z S. go d (or_return value_on z) S))

pub bare_stops : {o : List ℕ} {a : Answer} {tag : ℕ} → Stopped a → Bared o a tag o a
bare_stops {o} {a} {tag} nd =
    record {
      at = refl;
      reported = refl;
      full = refl;
      low = omega arith;
      high = omega arith;
      is = one a.status (not_done a.status nd);
    }
  where
    one : (h : Status) → done_of h ≡ 0 → BaredOf h o a tag o a
    one Done z = absurd (omega arith)
    one Fatal z = (refl, refl)
    one (Refused m) z = (refl, refl)

pub bare_on : {o o2 : List ℕ} {a : Answer} {tag p : ℕ} → a.status ≡ Done
    → Wrote o a.state.pos (bare_of tag None []) o2 p
    → Bared o a tag o2 (record {
      status = a.status;
      state = record { at = a.state.at; pos = p; reported = a.state.reported; full = a.state.full };
      place = nowhere;
      count = 0;
    })
bare_on {o} {o2} {a} {tag} {p} z v =
    let one : done_of a.status ≡ 1 = rw z in
    record {
      at = refl;
      reported = refl;
      full = refl;
      low = omega (arith, v.end);
      high = omega (arith, v.end, one);
      is = subst (λ (h : Status). BaredOf h o a tag o2 (record {
        status = a.status;
        state = record { at = a.state.at; pos = p; reported = a.state.reported; full = a.state.full };
        place = nowhere;
        count = 0;
      })) (sym z) (z, v);
    }

-- ---- a value after what is declared

-- the record of the value, after the records of the value itself
valued : {T : List ℕ} {E : List Err} {w x : List ℕ} {n : ℕ} {o o' : List ℕ} {r f : List Error} {c y : Answer} {tag : ℕ}
    {q : Res (Ans Node)} (name : List ℕ) (d : ℕ) (X : Fallible P.Typed)
    → X.item.name ≡ name → Bared o c tag o' y → Shows node T E X.item.type X.errors w x n o r f c q
    → Shows (typed name) T E [] [] w x n o' r f y
    (after q (λ z S. go d (or_return (λ e. P.declared X (P.bare e.item.recs tag []) e.errors) z) S))
unfolding go run
valued {T} {E} {w} {x} {n} {o} {o'} {r} {f} {c} {y} {tag} {q} name d X nm W v = record { told = one c.status refl W.is v.told }
  where
    one : (h : Status) → c.status ≡ h → BaredOf h o c tag o' y
        → ShowsOf h node T E X.item.type X.errors w x n o r f c q
        → ShowsOf y.status (typed name) T E [] [] w x n o' r f y
        (after q (λ z S. go d (or_return (λ e. P.declared X (P.bare e.item.recs tag []) e.errors) z) S))
    one Done z m g =
        rw m.0 (record {
          item = record { name = X.item.name; type = X.item.type ++ (P.bare g.item.recs tag []).recs };
          errors = X.errors ++ g.errors;
          read = g.read;
          is = rw (g.is, W.at, W.full);
          tree = wrote T (X.item.type ++ g.item.recs) m.1 g.tree refl
              ∙ ap (λ (l : List Rec). T ++ recs_bytes l)
              (append_assoc X.item.type g.item.recs (bare_of tag None [] ∷ []));
          reported = ap (λ (k : ℕ). errs r k) W.reported ∙ g.reported;
          holds = nm;
        })
    one Fatal z m g = rw (m.0, m.1, z) (record { errors = g.errors; read = g.read; is = rw g.is; tree = g.tree; reported = g.reported })
    one (Refused k) z m g = rw (m.0, z, g)

module _ {w x : List ℕ} {n d i j : ℕ} {o : List ℕ} {r f : List Error} {a : Answer} (q : GoesOn w n o r f a i j) where
  pub value_stops : Stopped a → ValueOn w x n d i j o r f a o r f a
  value_stops nd = record {
    moved = omega (arith, q);
    there = omega arith;
    is = λ name T E p li lj v. stops d value_on p nd v;
  }

  module _ {t : Token} (z : a.status ≡ Done) (u : Seen w x n a.state.at t) where
    -- m parses a value, after the token
    module _ {o1 : List ℕ} {r1 f1 r2 : List Error} {o2 : List ℕ} {b c y : Answer} {m : Act (Ans Node)} {tag : ℕ}
        (B : Reads node w x n d m o r f (fore a.state t) o1 r1 f1 b)
        (C : Abandoned r1 b i j a.state.reported r2 c) (G : Bared o1 c tag o2 y) where
      given : 0 < kind_number t.kind
          → ((X : Fallible P.Typed) (rd : List Consumed)
          → go d (value_on X) (st_of w x n f rd a.state)
          ≡ go d (m >>? λ e. P.declared X (P.bare e.item.recs tag []) e.errors)
          (st_of w x n f (past w x n a.state.at rd) (fore a.state t)))
          → done_of y.status ≤ 1 → ValueOn w x n d i j o r f a o2 r2 f1 y
      given k step le =
          let e : budget w n y.state.at ≡ budget w n b.state.at = ap (λ (k : ℕ). budget w n k) (G.at ∙ C.at) in
          let one : done_of a.status ≡ 1 = rw z in
          let three : done_of c.status ≤ 1 = done_le c.status in
          record {
            moved = omega (arith, G, C, B.moved, u.up, u.pays, k);
            there = omega (arith, one, le);
            is = λ name T E p li lj v.
                let g = good_of z v in
                let X : Fallible P.Typed = record { item = g.item; errors = g.errors } in
                say (follows d value_on g.is ∙ step X g.read
                ∙ go_bind d m (or_return (λ e. P.declared X (P.bare e.item.recs tag []) e.errors)) _)
                (valued name d X g.holds G (abandons {T = T} {E = E} g.tree g.reported li lj
                (errs_length r a.state.reported (omega (arith, q.asked.asks))) C
                (omega (arith, q.pos, B.moved.pos)) (omega (arith, q.reported, B.moved.reported))
                (B.is (past w x n a.state.at g.read))));
          }

    value_assigned : {o1 : List ℕ} {r1 f1 r2 : List Error} {o2 : List ℕ} {b c y : Answer} → kind_number t.kind ≡ 26
        → Reads node w x n d P.parse_expression o r f (fore a.state t) o1 r1 f1 b
        → Abandoned r1 b i j a.state.reported r2 c → Bared o1 c 0x34 o2 y
        → ValueOn w x n d i j o r f a o2 r2 f1 y
    unfolding go run
    value_assigned {y = y} h B C G =
        given B C G (omega (arith, h)) (λ X rd. rw (run, yes u h) (ap
        (λ (S : St). go d (P.parse_expression >>? λ e. P.declared X (P.bare e.item.recs 0x34 []) e.errors)
        S) (adv a.state u (λ _. plain) f rd _))) (done_le y.status)

    value_compound : {o1 : List ℕ} {r1 f1 r2 : List Error} {o2 : List ℕ} {b c y : Answer} → kind_number t.kind ≡ 52
        → Reads node w x n d P.parse_compound o r f (fore a.state t) o1 r1 f1 b
        → Abandoned r1 b i j a.state.reported r2 c → Bared o1 c 0x35 o2 y
        → ValueOn w x n d i j o r f a o2 r2 f1 y
    unfolding go run
    value_compound {y = y} h B C G =
        given B C G (omega (arith, h)) (λ X rd. rw (run, no {k = 26} u (λ e. omega (arith, h)), yes u h) (ap
        (λ (S : St). go d (P.parse_compound >>? λ e. P.declared X (P.bare e.item.recs 0x35 []) e.errors) S)
        (adv a.state u (λ _. plain) f rd _))) (done_le y.status)

    none_given : {o2 : List ℕ} {y : Answer} → (kind_number t.kind ≡ 26 → ⊥) → (kind_number t.kind ≡ 52 → ⊥) → Bared o a 0x33 o2 y
        → ValueOn w x n d i j o r f a o2 r f y
    unfolding go run
    none_given {o2} {y} m26 m52 G =
        let e : budget w n y.state.at ≡ budget w n a.state.at = ap (λ (k : ℕ). budget w n k) G.at in
        let one : done_of a.status ≡ 1 = rw z in
        record {
          moved = omega (arith, G, q);
          there = omega (arith, one, done_le y.status);
          is = λ name T E p li lj v.
              let g = good_of z v in
              let X : Fallible P.Typed = record { item = g.item; errors = g.errors } in
              let none : Fallible Node = record {
                item = record { place = place_of a.place; recs = [] };
                errors = [];
              } in
              let shown : Shows node T E X.item.type X.errors w x n o r f a (gives (ok none) (st_of w x n f g.read a.state)) =
              is_good z (record {
                item = none.item;
                errors = [];
                read = g.read;
                is = refl;
                tree = g.tree ∙ ap (λ (l : List Rec). T ++ recs_bytes l) (sym (append-nil X.item.type));
                reported = g.reported ∙ ap (λ (l : List Err). E ++ l) (sym (append-nil X.errors));
                holds = refl;
              }) in
              let step : go d (value_on X) (st_of w x n f g.read a.state) ≡ go d (P.declared X (P.bare [] 0x33 []) []) (st_of w x n f g.read a.state) =
              rw (run, no u m26, no u m52) in
              say (follows d value_on g.is ∙ step) (valued name d X g.holds G shown);
        }

    value_none : {r2 : List Error} {o2 : List ℕ} {c y : Answer} → (kind_number t.kind ≡ 26 → ⊥) → (kind_number t.kind ≡ 52 → ⊥)
        → Abandoned r (record { status = Done; state = a.state; place = nowhere; count = 0 }) i j a.state.reported r2 c
        → Bared o c 0x33 o2 y → ValueOn w x n d i j o r f a o2 r2 f y
    value_none {r2} {o2} {c} {y} m26 m52 C F =
        let one : done_of a.status ≡ 1 = rw z in
        let G = rw C.is.0 at F in
        rw C.is.1 (none_given m26 m52 (record {
          at = G.at;
          reported = G.reported;
          full = G.full;
          low = G.low;
          high = omega (arith, G.high, one);
          is = rw z G.is;
        }))

  -- whichever there is
  module _ {tags : Tags} {tag : Tag} {o1 : List ℕ} {r1 f1 r2 : List Error} {o2 : List ℕ} {b c y : Answer} (z : a.status ≡ Done)
      (V : Valued w x n d tags o r f a.state o1 r1 f1 b tag) (C : Abandoned r1 b i j a.state.reported r2 c)
      (G : Bared o1 c (tag_number tag) o2 y) where
    pub value_reads : tags ≡ record { expression = Tag.AssignedValue; compound = Tag.CompoundValue; nothing = Tag.NoValue }
        → ValueOn w x n d i j o r f a o2 r2 f1 y
    value_reads e = one V.given (V.tagged ∙ ap (given_tag V.given) e) V.is
      where
        one : (g : Given) → tag ≡ given_tag g (record { expression = Tag.AssignedValue; compound = Tag.CompoundValue; nothing = Tag.NoValue })
            → ValueOf g w x n d V.t o r f a.state o1 r1 f1 b → ValueOn w x n d i j o r f a o2 r2 f1 y
        one Given.Expression e v = value_assigned z V.seen v.0 v.1 C (rw e at G)
        one Given.Compound e v = value_compound z V.seen v.0 v.1 C (rw e at G)
        one Given.Nothing e v = rw v.1.1.1.1 (value_none z V.seen v.0.0 v.0.1 (rw (v.1.0, v.1.1.1.0) at C) (rw (e, v.1.1.0) at G))

-- ---- `var_like_declaration`

-- what follows the type requires of its answer
pub typed_on : {w x : List ℕ} {n d : ℕ} {o : List ℕ} {r f : List Error} {o1 : List ℕ} {r1 f1 : List Error} {s : State} {a : Answer}
    → Asked w n o r f s → ReadsTyped w x n d o r f s o1 r1 f1 a → length o1 ≡ length o → length r1 ≡ length r
    → length f1 ≡ length f → GoesOn w n o1 r1 f1 a s.pos s.reported
typed_on q B lo lr lf = record { asked = asked_moved q B.moved lo lr lf; pos = B.moved.pos; reported = B.moved.reported }

module _ {w x : List ℕ} {n d : ℕ} {o : List ℕ} {r f : List Error} {o1 : List ℕ} {r1 f1 : List Error} {o2 : List ℕ} {r2 f2 : List Error} {s : State} {a y : Answer}
    (q : Asked w n o r f s) (B : ReadsTyped w x n d o r f s o1 r1 f1 a)
    (G : ValueOn w x n d s.pos s.reported o1 r1 f1 a o2 r2 f2 y) where
  pub declared_reads : ReadsDeclared w x n d o r f s o2 r2 f2 y
  unfolding P.parse_var_like_declaration
  declared_reads =
      let le : done_of a.status ≤ 1 = done_le a.status in
      record {
        moved = omega (arith, B.moved, B.spare, G.moved);
        on = omega (arith, B.on, G.moved.at);
        spare = omega (arith, B.spare, G.moved.room, G.there);
        is =
            λ rd. say (go_bind d P.parse_typed_identifier (or_return value_on) _)
            (G.is _ _ _ _ (length-take-le s.pos o (omega (arith, q.room)))
            (errs_length r s.reported (omega (arith, q.asks))) (B.is rd));
      }
