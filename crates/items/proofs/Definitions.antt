-- Function definitions: one law for each return of `external_function`, `whole_function` and `function_definition`. Assumes nothing.
use mathlib.Core.Path.{◌≡◌, refl, sym, ap, ◌∙◌}
use mathlib.Core.Bool.{Bool, true, false}
use mathlib.Core.List.{List, [], ◌∷◌, ◌++◌, append_assoc}
use Prim.Native.Nat.{ℕ, ◌+◌, ◌≤◌}
use native.Mathlib.Omega.{arith}
use lib.ListN.{length, take}
use lib.Seq.{length-take-le}
use Rattle.definition.specs.Numbers.{kind_number}
use Rattle.definition.specs.Source.{Place}
use Rattle.definition.specs.declared.place.Place as Declared
use Rattle.definition.specs.Node.{byte, two, Rec}
use Rattle.definition.specs.Fallible.{Err, Fallible, Ans, ok, fatal}
use Rattle.definition.specs.Kind as K
use Rattle.definition.specs.Token.{Tok, next_token, ◌is◌}
use Rattle.definition.specs.Act as A
use Rattle.definition.specs.Act.{Act, Items, Node, peek, next, when◌then◌else◌, plain, St, Res, gives, refused, after, or_return, advance, run, ◌>>=◌, ◌>>?◌}
use Rattle.definition.specs.Parser as P
use Rattle.definition.specs.Parser.{parse}
use Rattle.definition.specs.Go.{go}
use Rattle.definition.specs.Places.{place_of}
use Rattle.definition.proofs.Flat.{go_bind}
use Rattle.definition.specs.declared.tag.Tag.{Tag}
use Rattle.fallible.proofs.Grown.{errs_length}
use Rattle.fallible.specs.declared.parser.State.{State}
use Rattle.fallible.specs.Answer.{nowhere, Done, done_of, Answer}
use Rattle.fallible.specs.Orders.{Exchanged}
use Rattle.node.specs.Put.{placed}
use Rattle.node.specs.declared.Numbers.TheVariants.{Two, ByteTwo}
use Rattle.steps.specs.declared.tokens.Token.{Token}
use Rattle.steps.specs.Tokens.{rest, budget, Held, Seen}
use Rattle.steps.specs.Shows.{st_of, Asked, Good, Shows, Reads, node, token, items, Expects, Expected, NodeWritten}
use Rattle.steps.proofs.Records.{yes, no, fore, adv}
use Rattle.steps.proofs.Answers.{Stopped, say, good_of, stops, follows, wrapped, writes_node}
use Rattle.steps.proofs.Following.{expects_after}
use Rattle.expression_laws.specs.Post.{as_answer}
use Rattle.expression_laws.proofs.Types.{paid, past, through}
use Rattle.expression_laws.proofs.Calls.{rebased, expect_seam}
use Rattle.statement.specs.Post.{ReadsBody}
use Rattle.items.specs.Rules.{return_rule, signed, signature_rule, function_on}
use Rattle.items.specs.Items.{flag, ReadsSignature, FunctionAsked, FunctionOn}
use Rattle.items.proofs.Orders.{shown_as, turned, real}
use Rattle.fallible.specs.declared.error.Error.{Error}

-- ---- `external_function`

-- the record of an external function, after its signature
abbrev outside : Place → List ℕ → Fallible Items → Act (Ans Node)
outside p name = wrapped items [] [] 0x50 (λ _. p) (λ i. byte 1 ∷ two i.count ∷ []) name

outside_seam : (d : ℕ) (p : Place) (name : List ℕ) (q : Res (Ans Items))
    → after q (λ z S. go d (or_return (function_on p 1 name) z) S)
    ≡ after q (λ z S. go d (or_return (λ e. P.expect_as plain 50 >>? λ _. outside p name e) z) S)
unfolding go run
outside_seam d p name (gives (ok y) S) = refl
outside_seam d p name (gives (fatal es) S) = refl
outside_seam d p name (refused n) = refl

module _ {w x : List ℕ} {n i j : ℕ} {name : List ℕ} {o : List ℕ} {r f : List Error} {a : Answer} (q : FunctionAsked w n o r f name a i j)
    {r1 f1 : List Error} {b : Answer} (X : Expected w n 50 i j r f a r1 f1 b) where
  pub external_on : {o2 : List ℕ} {y : Answer} {place : Declared.Place} (d : ℕ)
      → NodeWritten o b (placed place Tag.FunctionDefinition (ByteTwo 1 b.count) name) o2 y
      → FunctionOn w x n d 1 (place_of place) name i j o r f a o2 r1 f1 y
  external_on {o2} {y} {place} d F =
      let e : budget w n y.state.at ≡ budget w n b.state.at = ap (λ (k : ℕ). budget w n k) F.at in
      record {
        moved = omega arith;
        is = λ T E p li lj v.
            say (outside_seam d (place_of place) name p ∙ expect_seam d plain 50 (outside (place_of place) name) p)
            (writes_node {K = items} d (λ _. place_of place) (λ i. byte 1 ∷ two i.count ∷ []) name F (λ i h. rw h)
            (expects_after (record { asks = q.asked.asks; pos = q.pos; reported = q.reported }) X plain d li lj v));
      }

-- ---- `whole_function`

-- a body after the signature e, with the record of the block and that of the function
abbrev bodied : Place → List ℕ → Fallible Items → Fallible Items → Act (Ans Node)
bodied p name e b =
    P.good (P.node (e.item.recs ++ (P.node b.item.recs 0x40 p (two b.item.count ∷ []) []).recs) 0x50 p
    (byte 0 ∷ two e.item.count ∷ []) name) (b.errors ++ e.errors)

body_first : (d : ℕ) (p : Place) (name : List ℕ) (e : Fallible Items) (S : St)
    → go d (function_on p 0 name e) S
    ≡ after (go d (P.parse_body >>= as_answer) S) (λ z S. go d (or_return (bodied p name e) z) S)
unfolding go run
body_first d p name e S = through d P.parse_body _ (bodied p name e) (λ i. refl) S

-- the items of the body, with all errors in the order of the report
abbrev reported : Fallible Items → Fallible Items → Fallible Items
reported e b = record { item = b.item; errors = b.errors ++ e.errors }

-- the two records, one after the other
records_seam : (d : ℕ) (p : Place) (name : List ℕ) (e b : Fallible Items) (S : St)
    → go d (bodied p name e b) S
    ≡ after (after (gives (ok (reported e b)) S)
    (λ z S. go d (or_return (wrapped items e.item.recs [] 0x40 (λ _. p) (λ k. two k.count ∷ []) []) z) S))
    (λ z S. go d
    (or_return (wrapped node [] [] 0x50 (λ _. p) (λ _. byte 0 ∷ two e.item.count ∷ []) name) z) S)
unfolding go run
records_seam d p name e b S =
    ap (λ (l : List Rec). gives (ok (record {
      item = P.node l 0x50 p (byte 0 ∷ two e.item.count ∷ []) name;
      errors = b.errors ++ e.errors;
    })) S) (sym (append_assoc e.item.recs b.item.recs _))

module _ {w x : List ℕ} {n d i j : ℕ} {name : List ℕ} {o : List ℕ} {r f : List Error} {a : Answer} (q : FunctionAsked w n o r f name a i j) where
  -- a fatal or refused signature is returned; so is a refused body
  pub whole_stops : {k : ℕ} {p : Place} → Stopped a → FunctionOn w x n d k p name i j o r f a o r f a
  whole_stops {k} {p} nd = record {
    moved = omega arith;
    is = λ T E h li lj v. stops d (function_on p k name) h nd v;
  }

  module _ {o1 : List ℕ} {r1 f1 : List Error} {b : Answer} (z : a.status ≡ Done) (B : ReadsBody w x n d o r f a.state o1 r1 f1 b) where
    pub whole_refused : {p : Place} → Stopped b → FunctionOn w x n d 0 p name i j o r f a o1 r1 f1 b
    whole_refused {p} nd = record {
      moved = omega arith;
      is = λ T E h li lj v.
          let g = good_of z v in
          say (follows d (function_on p 0 name) g.is
          ∙ body_first d p name (record { item = g.item; errors = g.errors })
          (st_of w x n f g.read a.state))
          (stops d (bodied p name (record { item = g.item; errors = g.errors })) _ nd
          (rebased B.never g.item.recs g.errors g.tree g.reported (B.is g.read)));
    }

-- after a body with `count` statements
module _ {w x : List ℕ} {n d i j count : ℕ} {name : List ℕ} {o : List ℕ} {r f : List Error} {a : Answer} (q : FunctionAsked w n o r f name a i j)
    {o1 : List ℕ} {r1 f1 r2 : List Error} {o2 o3 : List ℕ} {s : State} {c y : Answer} {place : Declared.Place} (z : a.status ≡ Done)
    (B : ReadsBody w x n d o r f a.state o1 r1 f1 (record { status = Done; state = s; place = nowhere; count = count }))
    (X : Exchanged r1 j a.state.reported s.reported r2)
    (F : NodeWritten o1 (record { status = Done; state = s; place = nowhere; count = count }) (placed place Tag.Block (Two count) []) o2 c)
    (G : NodeWritten o2 c (placed place Tag.FunctionDefinition (ByteTwo 0 a.count) name) o3 y) where
  -- after the signature g, with the body b
  module _ {T : List ℕ} {E : List Err} {k : Res (Ans Items)} (lj : length E ≡ j)
      (g : Good items T E [] [] w x n o r f a k)
      (b : Good items T E g.item.recs g.errors w x n o1 r1 f1 (record { status = Done; state = s; place = nowhere; count = count }) (go d (P.parse_body >>= as_answer) (st_of w x n f g.read a.state))) where
    -- the body, and all errors in the order of the report
    turned_body : Shows items T E g.item.recs [] w x n o1 r2 f1 (record { status = Done; state = s; place = nowhere; count = count })
        (gives (ok (reported (record { item = g.item; errors = g.errors })
        (record { item = b.item; errors = b.errors }))) (st_of w x n f1 b.read s))
    turned_body = record {
      told = record {
        item = b.item;
        errors = b.errors ++ g.errors;
        read = b.read;
        is = refl;
        tree = b.tree;
        reported = turned E g.errors b.errors X q.reported B.moved.reported lj
            (ap length (sym g.reported) ∙ errs_length r a.state.reported (omega arith))
            b.reported;
        holds = b.holds;
      };
    }

    whole_shown : Shows node T E [] [] w x n o3 r2 f1 y
        (after k (λ z S. go d (or_return (function_on (place_of place) 0 name) z) S))
    whole_shown =
        let p : Place = place_of place in
        let e : Fallible Items = record { item = g.item; errors = g.errors } in
        say (follows d (function_on p 0 name) g.is ∙ body_first d p name e (st_of w x n f g.read a.state)
        ∙ follows d (bodied p name e) b.is
        ∙ records_seam d p name e (record { item = b.item; errors = b.errors }) (st_of w x n f1 b.read s))
        (writes_node d (λ _. p) (λ _. byte 0 ∷ two g.item.count ∷ []) name G (λ k _. rw g.holds)
        (writes_node {K = items} d (λ _. p) (λ k. two k.count ∷ []) [] F (λ k e. rw e) turned_body))

  pub whole_reads : FunctionOn w x n d 0 (place_of place) name i j o r f a o3 r2 f1 y
  whole_reads = record {
    moved = let e : budget w n y.state.at ≡ budget w n s.at = ap (λ (k : ℕ). budget w n k) (G.at ∙ F.at) in omega arith;
    is =
        λ T E k li lj v. let g = good_of z v in
        whole_shown lj g
        (good_of refl (rebased B.never g.item.recs g.errors g.tree g.reported (B.is g.read)));
  }

-- ---- the signature and what follows it, as the code and as the definition divide them

abbrev void_at : Place → Fallible Node
void_at p = record { item = P.node [] 0x11 p [] []; errors = [] }

-- the continuation after the parameters
abbrev returning : Place → ℕ → Tok → Items → Act (Ans Node)
returning p external name ps =
    peek λ t. when◌then◌else◌ (t is K.RArrow)
    (next λ _. P.parse_type >>? λ r. P.function_body p external name ps r)
    (P.function_body p external name ps (void_at p))

-- the continuation after the name
abbrev headed : Place → ℕ → Fallible Tok → Act (Ans Node)
headed p external name = P.parse_list A.Parameters >>= λ ps. returning p external name.item ps

module _ (d : ℕ) (p : Place) (external : ℕ) (name : Tok) where
  -- the body, after the items of a signature
  signed_body : (ps : Items) (r : Fallible Node) (S : St)
      → go d (P.function_body p external name ps r) S
      ≡ go d (function_on p external name.text (record { item = signed ps r; errors = r.errors ++ ps.errors })) S
  unfolding P.function_body
  signed_body ps r S = simp append_assoc refl

  typed_body : (ps : Items) (q : Res (Ans Node))
      → after q (λ z S. go d (or_return (λ r. P.function_body p external name ps r) z) S)
      ≡ after (after q (λ z S. go d (or_return (λ r. as_answer (signed ps r)) z) S))
      (λ z S. go d (or_return (function_on p external name.text) z) S)
  unfolding go run
  typed_body ps (gives (ok r) S) = signed_body ps r S
  typed_body ps (gives (fatal es) S) = refl
  typed_body ps (refused n) = refl

  -- with a return type or without
  arrowed : (ps : Items) (S : St) (t : Bool)
      → go d (when◌then◌else◌ t (next λ _. P.parse_type >>? λ r. P.function_body p external name ps r)
      (P.function_body p external name ps (void_at p))) S
      ≡ after
      (go d (when◌then◌else◌ t (next λ _. P.parse_type) (P.good (P.node [] 0x11 p [] []) []) >>? λ r. as_answer
      (signed ps r)) S) (λ z S. go d (or_return (function_on p external name.text) z) S)
  unfolding go run ◌>>=◌
  arrowed ps S true = typed_body ps (parse d A.Type' (advance (λ _. plain) S))
  arrowed ps S false = signed_body ps (void_at p) S

  headed_seam : (S : St)
      → go d (P.parse_list A.Parameters >>= returning p external name) S
      ≡ after (go d (signature_rule p) S) (λ z S. go d (or_return (function_on p external name.text) z) S)
  unfolding go run signature_rule ◌>>=◌
  headed_seam S =
      go_bind d (P.parse_list A.Parameters) (returning p external name) S ∙ one (go d (P.parse_list A.Parameters) S)
      ∙ sym (ap (λ (q : Res (Ans Items)). after q (λ z S. go d (or_return (function_on p external name.text) z) S))
      (go_bind d (P.parse_list A.Parameters) (λ ps. return_rule p >>? λ r. as_answer (signed ps r)) S))
    where
      one : (q : Res Items)
          → after q (λ ps S. go d (returning p external name ps) S)
          ≡ after (after q (λ ps S. go d (return_rule p >>? λ r. as_answer (signed ps r)) S))
          (λ z S. go d (or_return (function_on p external name.text) z) S)
      one (gives ps S) = arrowed ps S (next_token S.tokens is K.RArrow)
      one (refused n) = refl

-- ---- `function_definition`

fn_first : (d external : ℕ) (p : Place) (S : St)
    → go d (P.function p external) S
    ≡ after (go d (P.expect 4) S) (λ z S. go d (or_return (λ _. P.expect_identifier >>? headed p external) z) S)
unfolding P.function
fn_first d external p S = go_bind d (P.expect 4) (or_return (λ _. P.expect_identifier >>? headed p external)) S

module _ {w x : List ℕ} {n d : ℕ} {o : List ℕ} {r f r1 f1 : List Error} {s : State} {a : Answer}
    (X : Expects w n (λ role. P.expect_as role 4) r f s r1 f1 a) where
  -- `fn` or the name is missing
  pub function_stops : (external : ℕ) (p : Place) → Stopped a → Reads node w x n d (P.function p external) o r f s o r1 f1 a
  function_stops external p nd =
      record {
        moved = X.moved;
        on = X.on;
        is = λ rd. say (fn_first d external p (st_of w x n f rd s))
            (stops d (λ _. P.expect_identifier >>? headed p external) _ nd (X.is x plain d rd o));
      }

  module _ {r2 f2 : List Error} {b : Answer} (z : a.status ≡ Done)
      (Y : Expects w n (λ role. P.expect_identifier) r1 f1 a.state r2 f2 b) where
    pub function_unnamed : (external : ℕ) (p : Place) → Stopped b → Reads node w x n d (P.function p external) o r f s o r2 f2 b
    function_unnamed external p nd =
        let kept = X.kept z in
        record {
          moved = omega arith;
          on = omega arith;
          is = λ rd.
              let g = good_of z (X.is x plain d rd o) in
              say (fn_first d external p (st_of w x n f rd s)
              ∙ follows d (λ _. P.expect_identifier >>? headed p external) g.is
              ∙ go_bind d P.expect_identifier (or_return (headed p external))
              (st_of w x n f1 g.read a.state))
              (stops {K = token (next_token (rest w x n a.state.at))} {rs = []} {es = []} d (headed p external) _ nd
              (shown_as (ap (λ (k : ℕ). take k o) X.pos) kept.1 (Y.is x plain d g.read o)));
        }

    -- after the name and the signature
    module _ {t : Token} (u : Seen w x n a.state.at t) {p : Place} {o3 : List ℕ} {r3 f3 : List Error} {c : Answer} (q : Asked w n o r f s) (y : b.status ≡ Done)
        (G : ReadsSignature w x n d p o r2 f2 b.state o3 r3 f3 c) (held : Held w n) where
      -- `fn` and the name account for the records of the type, the block and the function
      function_pays : c.state.pos + budget w n c.state.at + 25 + length t.text.now ≤ s.pos + budget w n s.at
      function_pays =
          let da : done_of a.status ≡ 1 = rw z in
          let db : done_of b.status ≡ 1 = rw y in
          let k = real w n a.state.at (omega arith) in
          let l : length (next_token (rest w x n a.state.at)).text ≡ length t.text.now = rw u.text in
          omega (arith, paid a.state.at b.state.at held Y.on x)

      pub function_asked : length o3 ≡ length o → length r3 ≡ length r → length f3 ≡ length f
          → FunctionAsked w n o3 r3 f3 t.text.now c s.pos s.reported
      function_asked lo lr lf = omega (arith, function_pays, (X.kept z).0, (Y.kept y).0)

      pub function_reads : {o4 : List ℕ} {r4 f4 : List Error} {v : Answer} {k external : ℕ} → external ≡ k
          → FunctionOn w x n d k p t.text.now s.pos s.reported o3 r3 f3 c o4 r4 f4 v
          → Reads node w x n d (P.function p external) o r f s o4 r4 f4 v
      function_reads {o4} {r4} {f4} {v} {k} {external} same B =
          let W : FunctionOn w x n d external p t.text.now s.pos s.reported o3 r3 f3 c o4 r4 f4 v = rw same B in
          record {
            moved = omega (arith, function_pays);
            on = omega arith;
            is = λ rd.
                let g = good_of z (X.is x plain d rd o) in
                let h = good_of y (Y.is x plain d g.read o) in
                let text : h.item.text ≡ t.text.now = ap (λ (k : Tok). k.text) h.holds.0 ∙ u.text in
                say
                (fn_first d external p (st_of w x n f rd s) ∙ follows d (λ _. P.expect_identifier >>? headed p external) g.is
                ∙ go_bind d P.expect_identifier (or_return (headed p external)) (st_of w x n f1 g.read a.state)
                ∙ follows d (headed p external) h.is ∙ headed_seam d p external h.item (st_of w x n f2 h.read b.state)
                ∙ ap (λ (k : List ℕ). after (go d (signature_rule p) (st_of w x n f2 h.read b.state))
                (λ z S. go d (or_return (function_on p external k) z) S)) text)
                (W.is _ _ _ (length-take-le s.pos o (omega arith)) (errs_length r s.reported (omega arith))
                (shown_as (ap (λ (k : ℕ). take k o) (Y.pos ∙ X.pos)) ((Y.kept y).1 ∙ (X.kept z).1) (G.is h.read)));
          }

-- after the first token t, consumed if it is `extern`: what the rest of a definition is required and shows, from the
-- lists r' and f' and the state s' on
pub record Opened (w x : List ℕ) (n d : ℕ) (o : List ℕ) (r f : List Error) (s : State) (t : Token) (external : Bool) (r' f' : List Error) (s' : State) : Type 0 where
  pub asked : Asked w n o r' f' s'
  pub reads : {o1 : List ℕ} {r1 f1 : List Error} {y : Answer}
      → Reads node w x n d (P.function (place_of t.place) (flag external)) o r' f' s' o1 r1 f1 y
      → Reads node w x n d P.parse_function_definition o r f s o1 r1 f1 y

module _ {w x : List ℕ} {n d : ℕ} {o : List ℕ} {r f : List Error} {s : State} {t : Token} (u : Seen w x n s.at t)
    {o1 : List ℕ} {r1 f1 : List Error} {y : Answer} where
  pub definition_external : kind_number t.kind ≡ 19
      → Reads node w x n d (P.function (place_of t.place) 1) o r f (fore s t) o1 r1 f1 y
      → Reads node w x n d P.parse_function_definition o r f s o1 r1 f1 y
  unfolding go run P.parse_function_definition
  definition_external h B = record {
    moved = omega arith;
    on = omega arith;
    is =
        λ rd. say (rw (run, yes u h)
        (ap (λ (S : St). go d (P.function (next_token (rest w x n s.at)).place 1) S) (adv s u (λ _. plain) f rd _)
        ∙ ap (λ (p : Place). go d (P.function p 1) (st_of w x n f (past w x n s.at rd) (fore s t))) (u.place x)))
        (B.is (past w x n s.at rd));
  }

  pub definition_whole : (kind_number t.kind ≡ 19 → ⊥) → Reads node w x n d (P.function (place_of t.place) 0) o r f s o1 r1 f1 y
      → Reads node w x n d P.parse_function_definition o r f s o1 r1 f1 y
  unfolding go run P.parse_function_definition
  definition_whole m B = record {
    moved = B.moved;
    on = B.on;
    is = λ rd. say
        (rw (run, no u m) (ap (λ (p : Place). go d (P.function p 0) (st_of w x n f rd s)) (u.place x)))
        (B.is rd);
  }
