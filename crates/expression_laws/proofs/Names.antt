-- One law for each return of `bare_name`, `typed`, `typed_name`, `named` and `field`. Assumes nothing.
use mathlib.Core.Path.{◌≡◌, refl, sym, ap, ◌∙◌}
use mathlib.Core.Bool.{Bool, true, false}
use mathlib.Core.List.{List, [], ◌∷◌, ◌++◌, append-nil}
use Prim.Native.Nat.{ℕ, ◌+◌, ◌*◌, ◌≤◌, ◌<◌}
use native.Mathlib.Omega.{arith}
use lib.Dec.{eqb}
use lib.ListN.{length, take}
use lib.Seq.{length-take-le}
use borrow.Author.Tests.{eq-eqb, ne_eqb}
use Rattle.definition.specs.declared.place.Place.{Place}
use Rattle.definition.specs.Kind as K
use Rattle.definition.specs.Choice.{pick}
use Rattle.definition.specs.Numbers.{kind_number}
use Rattle.definition.specs.Ascii.{ascii}
use Rattle.definition.specs.Node.{recs_bytes}
use Rattle.definition.specs.Fallible.{Err, Fallible, Ans, ok}
use Rattle.definition.specs.Token.{Tok, next_token}
use Rattle.definition.specs.Act.{Node, Act, make, plain, Consumed, St, Res, gives, after, or_return, run, ◌>>?◌}
use Rattle.definition.specs.Parser as P
use Rattle.definition.specs.Go.{go}
use Rattle.definition.proofs.Flat.{go_bind}
use Rattle.definition.specs.declared.tag.Tag.{Tag}
use Rattle.node.specs.Put.{placed, bare_of, Wrote}
use Rattle.node.specs.declared.Numbers.TheVariants.{None}
use Rattle.fallible.specs.declared.parser.State.{State}
use Rattle.fallible.specs.Answer.{nowhere, Status, Done, Fatal, Refused, done_of, Answer}
use Rattle.fallible.specs.Lists.{err_of, error_at, errs}
use Rattle.fallible.specs.Answers.{refused_at, one_more, raised, noted, Raised, AbandonedOf, Abandoned}
use Rattle.fallible.proofs.Grown.{errs_length}
use Rattle.steps.specs.declared.tokens.Token.{Token}
use Rattle.steps.specs.Tokens.{Held, rest, budget, Seen}
use Rattle.steps.specs.Shows.{st_of, Asked, Moved, View, Good, ShowsOf, Shows, node, typed, token, Reads, Expects, NodeWritten, Follows, Followed, ExpectedOf, Expected}
use Rattle.steps.proofs.Records.{yes, no, other, fore, adv}
use Rattle.steps.proofs.Moves.{spent, refused_moved, asks_fore, asks_moved, fore_moved, moved_trans, abandoned_moved}
use Rattle.steps.proofs.Answers.{alike, Stopped, say, good_of, not_done, done_le, stops, follows, abandons, wrote, wrapped, raise_same}
use Rattle.leaves.specs.Leaves.{name_in}
use Rattle.leaves.proofs.Errors.{made_so, makes, makes_none, raise_reads}
use Rattle.expression_laws.specs.Post.{name_of, NameRoom, BareNamedOf, BareNamed, ReadsTyped, TypedOn}
use Rattle.expression_laws.proofs.Types.{moved_onward, past, paid, record_reads, shown_from}
use Rattle.fallible.specs.declared.error.Error.{Error}

-- ---- `bare_name`

-- a name is no longer than the token's text, or than `<?>`
pub name_length : (t : Token) → length (name_in t) ≤ 3 + length t.text.now
unfolding ascii
name_length t = go (eqb (kind_number t.kind) K.Identifier)
  where
    go : (b : Bool) → length (pick b t.text.now (ascii "<?>")) ≤ 3 + length t.text.now
    go true = omega arith
    go false = omega arith

module _ {w x : List ℕ} {n : ℕ} {o : List ℕ} {a : Answer} {tag at : ℕ} where
  pub bare_stops : Stopped a → BareNamed w x n o a tag at o a
  bare_stops nd = record { at = refl; reported = refl; full = refl; low = omega arith; high = omega arith; is = one a.status nd }
    where
      one : (h : Status) → (h ≡ Done → ⊥) → BareNamedOf h w x n o a tag at o a
      one Done nd = absurd (nd refl)
      one Fatal nd = (refl, refl)
      one (Refused m) nd = (refl, refl)

  module _ {t : Token} (z : a.status ≡ Done) (v : Seen w x n at t) where
    pub bare_name : {o' : List ℕ} {p : ℕ} → Wrote o a.state.pos (bare_of tag None (name_in t)) o' p
        → BareNamed w x n o a tag at o' (record {
          status = a.status;
          state = record { at = a.state.at; pos = p; reported = a.state.reported; full = a.state.full };
          place = nowhere;
          count = 0;
        })
    bare_name u =
        let d : done_of a.status ≡ 1 = rw z in
        record {
          at = refl;
          reported = refl;
          full = refl;
          low = omega (arith, u.end);
          high = omega (arith, u.end, ap length v.text, name_length t);
          is = rw (z, v.kind x, v.text) (refl, (u, refl));
        }

-- there is room for the name
pub bare_room : {w x : List ℕ} {n : ℕ} {o : List ℕ} {a : Answer} {at : ℕ} {t : Token} → NameRoom w x n o a at → a.status ≡ Done → Seen w x n at t
    → a.state.pos + 15 + length (name_in t) ≤ length o
bare_room {t = t} q z v = let d = ap done_of z in omega (arith, q.room, ap length v.text, name_length t)

-- ---- `typed`

-- what `?` makes of a good answer is the same answer
pub kept_done : {r r' : List Error} {b c : Answer} {i j k : ℕ} → Abandoned r b i j k r' c → c.status ≡ Done → (c ≡ b) × (r' ≡ r)
kept_done {r} {r'} {b} {c} {i} {j} {k} v z = one b.status refl v.is
  where
    one : (h : Status) → b.status ≡ h → AbandonedOf h r b i j k r' c → (c ≡ b) × (r' ≡ r)
    one Done y m = m
    one Fatal y m = let g = m.status in let e : ◌≡◌ {A = ℕ} 0 1 = cc in absurd (omega arith)
    one (Refused u) y m = m

-- the continuations after the type, and after `:`
abbrev type_on : List ℕ → List Err → Fallible Node → Act (Ans P.Typed)
type_on name es y = P.good (record { name = name; type = y.item.recs }) (es ++ y.errors)

abbrev colon_on : List ℕ → List Err → Fallible Tok → Act (Ans P.Typed)
colon_on name es _ = P.parse_type >>? type_on name es

typed_shows : {T : List ℕ} {E es : List Err} {w x : List ℕ} {n : ℕ} {o : List ℕ} {r f : List Error} {a : Answer} {q : Res (Ans Node)}
    (d : ℕ) (name : List ℕ)
    → Shows node T E [] es w x n o r f a q
    → Shows (typed name) T E [] [] w x n o r f a (after q (λ z S. go d (or_return (type_on name es) z) S))
unfolding go run
typed_shows {T} {E} {es} {w} {x} {n} {o} {r} {f} {a} {q} d name v = record { told = one a.status v.told }
  where
    one : (h : Status) → ShowsOf h node T E [] es w x n o r f a q
        → ShowsOf h (typed name) T E [] [] w x n o r f a (after q (λ z S. go d (or_return (type_on name es) z) S))
    one Done g =
        record {
          item = record { name = name; type = g.item.recs };
          errors = es ++ g.errors;
          read = g.read;
          is = rw g.is;
          tree = g.tree;
          reported = g.reported;
          holds = refl;
        }
    one Fatal g = record { errors = g.errors; read = g.read; is = rw g.is; tree = g.tree; reported = g.reported }
    one (Refused u) g = rw g

module _ {w : List ℕ} {n : ℕ} {o : List ℕ} {r f : List Error} {s : State} (q : Asked w n o r f s) where
  -- the file up to the position, and the reported errors, have these lengths
  pub len_pos : length (take s.pos o) ≡ s.pos
  len_pos = length-take-le s.pos o (omega (arith, q.room))

  pub len_reported : length (errs r s.reported) ≡ s.reported
  len_reported = errs_length r s.reported (omega (arith, q.asks))

module _ {w x : List ℕ} {n d j : ℕ} {o : List ℕ} {r f r1 f1 r2 : List Error} {s : State} {a b : Answer}
    (q : Asked w n o r f s × (j ≤ s.reported))
    (e : Expects w n (λ role. P.expect_as role 49) r f s r1 f1 a)
    (v : Abandoned r1 a s.pos j s.reported r2 b) where
  -- `:` is missing: returned by `?`; else the type follows
  pub typed_colon : Stopped b → TypedOn w x n d j o r f s o r2 f1 b
  unfolding P.typed recs_bytes
  typed_colon nd =
      let m = abandoned_moved e.moved v in
      record {
        moved = m;
        spare = omega (arith, m.room, not_done b.status nd);
        is =
            λ rd name E es le h. say (go_bind d (P.expect 49) (or_return (colon_on name es)) _)
            (stops d (colon_on name es) _ nd
            (abandons {T = take s.pos o} {E = E} {rs = []} {es = es} (sym (append-nil _)) h (len_pos q.0)
            le (len_reported q.0) v e.moved.pos (omega (arith, q.1, e.moved.reported)) (e.is x plain d rd o)));
      }

  module _ {o3 : List ℕ} {r3 f3 r4 : List Error} {c y : Answer} where
    -- where `:` is there, `?` changes nothing
    typed_there : a.status ≡ Done → Reads node w x n d P.parse_type o r1 f1 a.state o3 r3 f3 c
        → Abandoned r3 c s.pos j a.state.reported r4 y → TypedOn w x n d j o r f s o3 r4 f3 y
    unfolding P.typed recs_bytes
    typed_there z u k =
        let m = abandoned_moved (moved_onward e.moved u.moved) k in
        let b : budget w n y.state.at ≡ budget w n c.state.at = ap (λ (i : ℕ). budget w n i) k.at in
        let g : (rd : List Consumed) → Good (token (next_token (rest w x n s.at))) (take s.pos o) (errs r s.reported) [] [] w x n o r1 f1 a (go d (P.expect 49) (st_of w x n f rd s)) =
        λ rd. good_of z (e.is x plain d rd o) in
        let da : done_of a.status ≡ 1 = rw z in
        record {
          moved = m;
          spare = omega (arith, e.pays, e.pos, u.moved.room, k.high, done_le y.status);
          is =
              λ rd name E es le h. say
              (go_bind d (P.expect 49) (or_return (colon_on name es)) _ ∙ follows d (colon_on name es) (g rd).is
              ∙ go_bind d P.parse_type (or_return (type_on name es)) _)
              (typed_shows d name (abandons {T = take s.pos o} {E = E} {rs = []} {es = es}
              (ap (λ (i : ℕ). take i o) e.pos ∙ sym (append-nil _)) ((e.kept z).1 ∙ h) (len_pos q.0) le
              (ap length (e.kept z).1 ∙ len_reported q.0 ∙ sym (e.kept z).0) k
              (omega (arith, e.moved.pos, u.moved.pos))
              (omega (arith, q.1, e.moved.reported, u.moved.reported)) (u.is (g rd).read)));
        }

    pub typed_type : b.status ≡ Done → Reads node w x n d P.parse_type o r2 f1 b.state o3 r3 f3 c
        → Abandoned r3 c s.pos j b.state.reported r4 y → TypedOn w x n d j o r f s o3 r4 f3 y
    typed_type z u k = let h = kept_done v z in typed_there (rw h.0 at z) (rw (h.0, h.1) at u) (rw h.0 at k)

-- the same where `expect(..)?` is one step
module _ {w x : List ℕ} {n d j : ℕ} {o : List ℕ} {r f r2 f1 : List Error} {s : State} {p : Place} {k : ℕ} {b : Answer}
    (q : Asked w n o r f s × (j ≤ s.reported))
    (X : Expected w n 49 s.pos j r f (record { status = Done; state = s; place = p; count = k }) r2 f1 b) where
  pub colon_stops : Stopped b → TypedOn w x n d j o r f s o r2 f1 b
  colon_stops nd =
      let F = X.is in
      let t : TypedOn w x n d j o r f s o r2 f1 F.c = typed_colon q F.expects F.abandoned (λ z. nd (F.status ∙ z)) in
      record {
        moved = rw F.state t.moved;
        spare = rw (F.state, F.status) t.spare;
        is = λ rd name E es le h. alike F.status F.state (λ z. absurd (nd z)) (t.is rd name E es le h);
      }

  pub colon_read : {o3 : List ℕ} {r3 f3 r4 : List Error} {c y : Answer} → b.status ≡ Done → Reads node w x n d P.parse_type o r2 f1 b.state o3 r3 f3 c
      → Abandoned r3 c s.pos j b.state.reported r4 y → TypedOn w x n d j o r f s o3 r4 f3 y
  colon_read z u v = let F = X.is in typed_type q F.expects F.abandoned (sym F.status ∙ z) (rw F.state at u) (rw F.state at v)

-- ---- an error is noted: there is room for it, or not

module _ (n : ℕ) {e : Error} {r f r' f' : List Error} {s : State} {b : Answer} (g : Raised (noted n s) r f s e r' f' b) where
  pub note_there : b.status ≡ Done → (s.full < 255) × (b ≡ record { status = Done; state = one_more s; place = nowhere; count = 0 })
  note_there z =
      made_so Done n s (λ y. y.status ≡ Done → (s.full < 255)
      × (y ≡ record { status = Done; state = one_more s; place = nowhere; count = 0 })) g.is (λ l _. (l, refl))
      (λ l y. let e : ◌≡◌ {A = ℕ} 0 1 = cc in absurd (omega arith)) z

  pub note_none : Stopped b → (255 ≤ s.full) × (b ≡ refused_at n s 12)
  note_none nd =
      made_so Done n s (λ y. Stopped y → (255 ≤ s.full) × (y ≡ refused_at n s 12)) g.is
      (λ l y. absurd (y refl)) (λ l _. (l, refl)) nd

-- ---- `typed_name`

-- the same for an equal name
renamed : {u u' : List ℕ} {T : List ℕ} {E : List Err} {w x : List ℕ} {n : ℕ} {o : List ℕ} {r f : List Error} {a : Answer}
    {q : Res (Ans P.Typed)}
    → u ≡ u' → Shows (typed u') T E [] [] w x n o r f a q → Shows (typed u) T E [] [] w x n o r f a q
renamed e v = rw e v

error_same : (d : ℕ) {X Y : Err} {S S' : St} → X ≡ Y → S ≡ S'
    → go d (make X (P.typed (ascii "<?>") (X ∷ []))) S ≡ go d (make Y (P.typed (ascii "<?>") (Y ∷ []))) S'
error_same d p q = rw (p, q)

module _ {w x : List ℕ} {n : ℕ} {o : List ℕ} {r f : List Error} {s : State} {t : Token} (q : Asked w n o r f s) (v : Seen w x n s.at t) where
  -- the first token is an identifier, the end, or another token: error 4 is refused or noted
  pub identifier_name : {d : ℕ} {o1 : List ℕ} {r1 f1 : List Error} {a : Answer} → kind_number t.kind ≡ 1
      → TypedOn w x n d s.reported o r f (fore s t) o1 r1 f1 a → ReadsTyped w x n d o r f s o1 r1 f1 a
  unfolding go run P.parse_typed_identifier
  identifier_name {d} {a = a} z u = record {
    moved = moved_trans (fore_moved q.asks v) u.moved;
    on = omega (arith, v.present, v.on, u.moved.at);
    spare = omega (arith, ap length v.text, v.pays, u.spare, done_le a.status);
    is =
        λ rd. renamed (rw (eq-eqb _ _ (v.kind x ∙ z))) (say (rw (run, yes v z)
        (ap (λ (S : St). go d (P.typed (next_token (rest w x n s.at)).text []) S) (adv s v (λ _. plain) f rd _)))
        (u.is (past w x n s.at rd) (next_token (rest w x n s.at)).text (errs r s.reported) [] (len_reported q)
        (sym (append-nil _))));
  }

  pub identifier_end : {d : ℕ} {e : Error} {r' f' : List Error} {a : Answer} → kind_number t.kind ≡ 0 → err_of e ≡ error_at 5 nowhere 0 0
      → Raised (raised n (fore s t)) r f (fore s t) e r' f' a → ReadsTyped w x n d o r f s o r' f' a
  unfolding go run P.parse_typed_identifier
  identifier_end {d} {a = a} z i g =
      let u : Reads (typed (name_of (next_token (rest w x n s.at)))) w x n d P.parse_typed_identifier o r f s o _ _ a =
      raise_reads q.asks v plain g d
      (λ rd. rw (run, other v z 1 refl, yes v z) (raise_same d (sym i) (adv s v (λ _. plain) f rd _))) in
      record {
        moved = u.moved;
        on = u.on;
        spare =
            made_so Fatal n (fore s t)
            (λ y. y.state.pos + budget w n y.state.at + 32 * done_of y.status + length
            (next_token (rest w x n s.at)).text ≤ s.pos + budget w n s.at) g.is
            (λ _. omega (arith, ap length v.text, v.pays))
            (λ _. omega (arith, ap length v.text, v.pays, spent w n));
        is = u.is;
      }

  module _ {e : Error} {r1 f1 : List Error} {b : Answer} (m1 : kind_number t.kind ≡ 1 → ⊥) (m0 : kind_number t.kind ≡ 0 → ⊥)
      (i : err_of e ≡ error_at 4 t.place 0 0)
      (g : Raised (noted n (fore s t)) r f (fore s t) e r1 f1 b) where
    -- the definition makes error 4
    unnamed : (d : ℕ) (rd : List Consumed)
        → go d P.parse_typed_identifier (st_of w x n f rd s)
        ≡ go d (make (err_of e) (P.typed (ascii "<?>") (err_of e ∷ [])))
        (st_of w x n f (past w x n s.at rd) (fore s t))
    unfolding go run P.parse_typed_identifier
    unnamed d rd = rw (run, no v m1, no v m0) (error_same d (rw v.place (sym i)) (adv s v (λ _. plain) f rd _))

    pub identifier_refused : {d : ℕ} → Stopped b → ReadsTyped w x n d o r f s o r1 f1 b
    identifier_refused {d} nd =
        let h = note_none n g nd in
        rw h.1 (record {
          moved = moved_trans (fore_moved q.asks v) (refused_moved (asks_fore q.asks v) 12);
          on = omega (arith, v.present, v.on, v.end);
          spare = omega (arith, ap length v.text, v.pays, spent w n);
          is = λ rd. record { told = unnamed d rd ∙ makes_none (asks_fore q.asks v) g d _ _ w x h.0 };
        })

    pub identifier_noted : {d : ℕ} {o2 : List ℕ} {r2 f2 : List Error} {a : Answer} → b.status ≡ Done
        → TypedOn w x n d s.reported o r1 f1 b.state o2 r2 f2 a → ReadsTyped w x n d o r f s o2 r2 f2 a
    identifier_noted {d} {o2} {r2} {f2} {a} z u =
        let h = note_there n g z in
        let k : TypedOn w x n d s.reported o r1 f1 (one_more (fore s t)) o2 r2 f2 a = rw h.1 at u in
        let m : Moved w n s.pos s.reported s a.state = omega (arith, v, k.moved) in
        record {
          moved = m;
          on = omega (arith, v.present, v.on, k.moved.at);
          spare = omega (arith, ap length v.text, v.pays, k.spare, done_le a.status);
          is =
              λ rd. renamed {u' = ascii "<?>"} (rw (ne_eqb _ _ (λ y. m1 (sym (v.kind x) ∙ y))))
              (say (unnamed d rd ∙ makes (asks_fore q.asks v) g d _ _ w x h.0)
              (k.is (past w x n s.at rd) (ascii "<?>") (errs r s.reported) (err_of e ∷ []) (len_reported q)
              (g.reported h.0)));
        }

-- ---- `named`

-- the continuation after a typed identifier
abbrev name_on : Fallible P.Typed → Act (Ans Node)
name_on y = P.good (P.bare y.item.type 21 y.item.name) y.errors

bare_shows : {T : List ℕ} {E : List Err} {w x : List ℕ} {n at : ℕ} {o : List ℕ} {r f : List Error} {o' : List ℕ} {a y : Answer}
    {q : Res (Ans P.Typed)} (d : ℕ)
    → BareNamed w x n o a 21 at o' y → Shows (typed (name_of (next_token (rest w x n at)))) T E [] [] w x n o r f a q
    → Shows node T E [] [] w x n o' r f y (after q (λ z S. go d (or_return name_on z) S))
unfolding go run
bare_shows {T} {E} {w} {x} {n} {at} {o} {r} {f} {o'} {a} {y} {q} d u v = record { told = one a.status refl u.is v.told }
  where
    one : (h : Status) → a.status ≡ h → BareNamedOf h w x n o a 21 at o' y
        → ShowsOf h (typed (name_of (next_token (rest w x n at)))) T E [] [] w x n o r f a q
        → ShowsOf y.status node T E [] [] w x n o' r f y (after q (λ z S. go d (or_return name_on z) S))
    one Done z m g =
        rw m.0 (record {
          item = P.bare g.item.type 21 g.item.name;
          errors = g.errors;
          read = g.read;
          is = rw (g.is, u.at, u.full);
          tree = wrote T g.item.type m.1.0 g.tree (rw g.holds);
          reported = ap (λ (k : ℕ). errs r k) u.reported ∙ g.reported;
          holds = sym (rw m.1.1);
        })
    one Fatal z m g = rw (m.0, m.1, z) (record { errors = g.errors; read = g.read; is = rw g.is; tree = g.tree; reported = g.reported })
    one (Refused k) z m g = rw (m.0, z, g)

module _ {w x : List ℕ} {n d : ℕ} {o : List ℕ} {r f : List Error} {o1 : List ℕ} {r1 f1 : List Error} {s : State} {a : Answer} (q : Asked w n o r f s)
    (u : ReadsTyped w x n d o r f s o1 r1 f1 a) where
  pub named_reads : {o2 : List ℕ} {y : Answer} → BareNamed w x n o1 a 21 s.at o2 y
      → Reads node w x n d P.parse_named_type o r f s o2 r1 f1 y
  unfolding P.parse_named_type
  named_reads {o2} {y} b =
      let e : budget w n y.state.at ≡ budget w n a.state.at = ap (λ (k : ℕ). budget w n k) b.at in
      let m = u.moved in
      record {
        moved =
            record {
              at = omega (arith, m, b.at);
              end = omega (arith, m, b.at);
              pos = omega (arith, m.pos, b.low);
              room = omega (arith, u.spare, b.high);
              reported = omega (arith, m.reported, b.reported);
              less = omega (arith, m.less, b.reported, b.full);
              full = omega (arith, m.full, b.full);
              few = omega (arith, m.few, b.full);
            };
        on = omega (arith, u.on, b.at);
        is = λ rd. say (go_bind d P.parse_typed_identifier (or_return name_on) _) (bare_shows d b (u.is rd));
      }

-- ---- `expect` after an answer

-- the expected token is there
pub record Met (w x : List ℕ) (n k : ℕ) (r f : List Error) (a : Answer) (r' f' : List Error) (y : Answer) : Type 0 where
  pub there : a.status ≡ Done
  pub pos : y.state.pos ≡ a.state.pos
  pub reported : y.state.reported ≡ a.state.reported
  pub kept : errs r' y.state.reported ≡ errs r a.state.reported
  pub place : y.place ≡ a.place
  pub item : ℕ → List Consumed → Fallible Tok
  pub read : ℕ → List Consumed → List Consumed
  pub is : (d : ℕ) (rd : List Consumed)
      → go d (P.expect k) (st_of w x n f rd a.state)
      ≡ gives (ok (item d rd)) (st_of w x n f' (read d rd) y.state)

pub expected_there : {w x : List ℕ} {n k i j : ℕ} {r f r' f' : List Error} {a y : Answer} → Expected w n k i j r f a r' f' y
    → y.status ≡ Done → Met w x n k r f a r' f' y
expected_there {w} {x} {n} {k} {i} {j} {r} {f} {r'} {f'} {a} {y} v z = one a.status refl v.is
  where
    never : {h : Status} → a.status ≡ h → y ≡ a → (h ≡ Done → ⊥) → ⊥
    never e u m = m (sym e ∙ ap (λ (b : Answer). b.status) (sym u) ∙ z)

    on : a.status ≡ Done → (F : Followed w n k i j r f a r' f' y) → F.c.status ≡ Done
        → (F.c ≡ F.b) × (r' ≡ F.between) → Met w x n k r f a r' f' y
    on e F zc h =
        let zb : F.b.status ≡ Done = ap (λ (b : Answer). b.status) (sym h.0) ∙ zc in
        let st : y.state ≡ F.b.state = F.state ∙ ap (λ (b : Answer). b.state) h.0 in
        let g : (d : ℕ) (rd : List Consumed) → Good (token (next_token (rest w x n a.state.at))) (take a.state.pos []) (errs r a.state.reported) [] [] w x n [] F.between f' F.b (go d (P.expect k) (st_of w x n f rd a.state)) =
        λ d rd. good_of zb (F.expects.is x plain d rd []) in
        record {
          there = e;
          pos = rw st F.expects.pos;
          reported = rw st (F.expects.kept zb).0;
          kept = rw (st, h.1) (F.expects.kept zb).1;
          place = (F.numbers z).0;
          item = λ d rd. record { item = (g d rd).item; errors = (g d rd).errors };
          read = λ d rd. (g d rd).read;
          is =
              λ d rd. (g d rd).is ∙ ap
              (λ (u : State). gives (ok (record { item = (g d rd).item; errors = (g d rd).errors }))
              (st_of w x n f' (g d rd).read u)) (sym st);
        }

    one : (h : Status) → a.status ≡ h → ExpectedOf h w n k i j r f a r' f' y → Met w x n k r f a r' f' y
    one Done e F = let zc : F.c.status ≡ Done = sym F.status ∙ z in on e F zc (kept_done F.abandoned zc)
    one Fatal e m = absurd (never e m.0 (λ u. let c : ◌≡◌ {A = ℕ} 0 1 = cc in omega arith))
    one (Refused p) e m = absurd (never e m.0 (λ u. let c : ◌≡◌ {A = ℕ} 0 1 = cc in omega arith))

-- a fatal or refused answer, or a missing token, is the answer of all that follows under `?`
pub expected_stops : {A B : Type 0} {K : View A} {L : View B} {T : List ℕ} {E : List Err} {w x : List ℕ} {n k i j : ℕ}
    {o : List ℕ} {r f r' f' : List Error} {a y : Answer} {q : Res (Ans A)} (d : ℕ)
    (on : Fallible A → Fallible Tok → Act (Ans B))
    → Follows n r f a i j → Expected w n k i j r f a r' f' y → Stopped y → length T ≡ i → length E ≡ j
    → Shows K T E [] [] w x n o r f a q
    → Shows L T E [] [] w x n o r' f' y (after q (λ z S. go d (or_return (λ e. P.expect k >>? on e) z) S))
expected_stops {A} {B} {K} {L} {T} {E} {w} {x} {n} {k} {i} {j} {o} {r} {f} {r'} {f'} {a} {y} {q} d on p v nd li lj u =
    one a.status refl v.is
  where
    one : (h : Status) → a.status ≡ h → ExpectedOf h w n k i j r f a r' f' y
        → Shows L T E [] [] w x n o r' f' y (after q (λ z S. go d (or_return (λ e. P.expect k >>? on e) z) S))
    one Done e F =
        let g = good_of e u in
        let nc : Stopped F.c = λ k. nd (F.status ∙ k) in
        say (follows d (λ e. P.expect k >>? on e) g.is
        ∙ go_bind d (P.expect k) (or_return (on (record { item = g.item; errors = g.errors }))) _)
        (alike F.status F.state (λ k. absurd (nd k)) (stops d (on (record { item = g.item; errors = g.errors })) _ nc
        (abandons {T = T} {E = E} g.tree g.reported li lj
        (errs_length r a.state.reported (omega (arith, p.asks))) F.abandoned
        (omega (arith, p.pos, F.expects.moved.pos))
        (omega (arith, p.reported, F.expects.moved.reported)) (F.expects.is x plain d g.read o))))
    one Fatal e m = let na : Stopped a = rw m.0 at nd in rw (m.0, m.1.0, m.1.1) (stops d (λ e. P.expect k >>? on e) q na u)
    one (Refused c) e m = let na : Stopped a = rw m.0 at nd in rw (m.0, m.1.0, m.1.1) (stops d (λ e. P.expect k >>? on e) q na u)

-- ---- `field`

-- the continuations after the value, and after `=`
abbrev value_on : Fallible Tok → Fallible Node → Act (Ans Node)
value_on id y = wrapped node [] [] 50 (λ _. id.item.place) (λ _. []) id.item.text y

abbrev equals_on : Fallible Tok → Fallible Tok → Act (Ans Node)
equals_on id _ = P.parse_expression >>? value_on id

abbrev field_on : Fallible Tok → Act (Ans Node)
field_on id = P.expect 26 >>? equals_on id

module _ {w x : List ℕ} {n : ℕ} {o : List ℕ} {r f r1 f1 : List Error} {s : State} {t : Token} {a : Answer}
    (held : Held w n) (q : Asked w n o r f s) (v : Seen w x n s.at t)
    (e : Expects w n (λ role. P.expect_identifier) r f s r1 f1 a) where
  pub field_follows : length r1 ≡ length r → length f1 ≡ length f → Follows n r1 f1 a s.pos s.reported
  field_follows l k = record { asks = asks_moved q.asks e.moved l k; pos = e.moved.pos; reported = e.moved.reported }

  module _ {r2 f2 : List Error} {b : Answer} (u : Expected w n 26 s.pos s.reported r1 f1 a r2 f2 b) where
    pub field_stops : {d : ℕ} → length r1 ≡ length r → length f1 ≡ length f → Stopped b
        → Reads node w x n d P.parse_compound_struct_field o r f s o r2 f2 b
    unfolding P.parse_compound_struct_field
    field_stops {d} l k nd = record {
      moved = moved_trans e.moved u.moved;
      on = omega (arith, e.on, u.moved.at);
      is =
          λ rd. say (go_bind d P.expect_identifier (or_return field_on) _)
          (expected_stops d equals_on (field_follows l k) u nd (len_pos q) (len_reported q) (e.is x plain d rd o));
    }

    module _ {d : ℕ} {o3 : List ℕ} {r3 f3 : List Error} {c : Answer} (z : b.status ≡ Done)
        (h : Reads node w x n d P.parse_expression o r2 f2 b.state o3 r3 f3 c) where
      -- the tokens account for the record
      field_paid : c.state.pos + budget w n c.state.at + 16 + length t.text.now ≤ s.pos + budget w n s.at
      field_paid =
          let db : done_of b.status ≡ 1 = rw z in
          omega (
            arith,
            h.moved.room,
            u.pays,
            u.high,
            e.pos,
            paid s.at a.state.at held e.on x,
            ap length v.text,
          )

      pub field_room : length o3 ≡ length o → c.state.pos + 16 + length t.text.now ≤ length o3
      field_room l = omega (arith, field_paid, q.room)

      pub field_done : {o4 : List ℕ} {y : Answer}
          → NodeWritten o3 c (placed b.place Tag.CompoundField None t.text.now) o4 y
          → Reads node w x n d P.parse_compound_struct_field o r f s o4 r3 f3 y
      unfolding P.parse_compound_struct_field
      field_done F =
          let m = expected_there u z in
          let g : (rd : List Consumed) → Good (token (next_token (rest w x n s.at))) (take s.pos o) (errs r s.reported) [] [] w x n o r1 f1 a (go d P.expect_identifier (st_of w x n f rd s)) =
          λ rd. good_of m.there (e.is x plain d rd o) in
          let id : List Consumed → Fallible Tok = λ rd. record { item = (g rd).item; errors = (g rd).errors } in
          record_reads {K = node} (next_token (rest w x n s.at)).place (λ _. []) (next_token (rest w x n s.at)).text F
          (moved_onward (moved_trans e.moved u.moved) h.moved)
          (omega (arith, e.on, u.moved.at, h.moved.at)) (omega (arith, field_paid))
          (λ _ _. rw (m.place, (g []).holds.1, v.text))
          (λ rd. go d P.parse_expression (st_of w x n f2 (m.read d (g rd).read) b.state))
          (λ rd. go_bind d P.expect_identifier (or_return field_on) _ ∙ follows d field_on (g rd).is ∙ go_bind d (P.expect 26) (or_return (equals_on (id rd))) _ ∙ follows d (equals_on (id rd)) (m.is d (g rd).read)
          ∙ go_bind d P.parse_expression (or_return (value_on (id rd))) _
          ∙ ap (λ (k : Tok). after (go d P.parse_expression (st_of w x n f2 (m.read d (g rd).read) b.state))
          (λ z S. go d (or_return (value_on (record { item = k; errors = [] })) z) S)) (g rd).holds.0)
          (λ rd. shown_from h (m.pos ∙ e.pos) (m.kept ∙ (e.kept m.there).1) (m.read d (g rd).read))
