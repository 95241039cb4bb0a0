-- `expect(..)?` after an answer. Assumes nothing.
use mathlib.Core.Path.{◌≡◌, refl, sym, ap, ◌∙◌, subst}
use mathlib.Core.List.{List, [], ◌++◌}
use Prim.Native.Nat.{ℕ}
use native.Mathlib.Omega.{arith}
use lib.ListN.{length, take}
use Rattle.definition.specs.Node.{Rec}
use Rattle.definition.specs.Fallible.{Err, Fallible, Ans, ok}
use Rattle.definition.specs.Token.{next_token}
use Rattle.definition.specs.Act.{Act, Role, done, St, Res, after, or_return, run, ◌>>?◌}
use Rattle.definition.specs.Parser as P
use Rattle.definition.specs.Go.{go}
use Rattle.definition.proofs.Flat.{go_bind}
use Rattle.fallible.proofs.Grown.{errs_length}
use Rattle.fallible.specs.declared.error.Error.{Error}
use Rattle.fallible.specs.Answer.{Status, Done, Fatal, Refused, Answer}
use Rattle.fallible.specs.Lists.{errs}
use Rattle.fallible.specs.Answers.{AbandonedOf}
use Rattle.steps.specs.Tokens.{rest}
use Rattle.steps.specs.Shows.{st_of, View, Good, Bad, ShowsOf, Shows, token, Follows, Followed, ExpectedOf, Expected}
use Rattle.steps.proofs.Answers.{alike, abandons, follows}

-- the continuation after the item
abbrev pub expecting : {A : Type 0} → Role → ℕ → Fallible A → Act (Ans A)
expecting role k e = P.expect_as role k >>? λ _. done (ok e)

module _ {A : Type 0} {K : View A} {w x : List ℕ} {n k i j : ℕ} {r f r' f' : List Error} {a y : Answer}
    (p : Follows n r f a i j) (u : Expected w n k i j r f a r' f' y) (role : Role) (d : ℕ) {T : List ℕ}
    {E : List Err} {rs : List Rec} {es : List Err} {o : List ℕ} {q : Res (Ans A)} (li : length T ≡ i)
    (lj : length E ≡ j) where
  -- the answer is done
  there : a.status ≡ Done → Good K T E rs es w x n o r f a q → Followed w n k i j r f a r' f' y
      → Shows K T E rs es w x n o r' f' y (after q (λ z S. go d (or_return (expecting role k) z) S))
  unfolding go run
  there z g v =
      alike v.status v.state v.numbers (record {
        told = one v.b.status refl v.abandoned.is (v.expects.is x role d g.read o).told;
      })
    where
      S : St
      S = st_of w x n f g.read a.state

      step : after q (λ z S. go d (or_return (expecting role k) z) S)
          ≡ after (go d (P.expect_as role k) S)
          (λ z S. go d (or_return (λ _. done (ok (record { item = g.item; errors = g.errors }))) z) S)
      step =
          follows d (expecting role k) g.is
          ∙ go_bind d (P.expect_as role k)
          (or_return (λ _. done (ok (record { item = g.item; errors = g.errors })))) S

      lost : Bad T E w x n o r' f' v.c (go d (P.expect_as role k) S)
          → Bad T E w x n o r' f'
          (record { status = v.c.status; state = v.c.state; place = a.place; count = a.count })
          (after q (λ z S. go d (or_return (expecting role k) z) S))
      lost c = record { errors = c.errors; read = c.read; is = step ∙ rw c.is; tree = c.tree; reported = c.reported }

      one : (h : Status) → v.b.status ≡ h → AbandonedOf h v.between v.b i j a.state.reported r' v.c
          → ShowsOf h (token (next_token (rest w x n a.state.at))) (take a.state.pos o)
          (errs r a.state.reported) [] [] w x n o v.between f' v.b (go d (P.expect_as role k) S)
          → ShowsOf v.c.status K T E rs es w x n o r' f'
          (record { status = v.c.status; state = v.c.state; place = a.place; count = a.count })
          (after q (λ z S. go d (or_return (expecting role k) z) S))
      one Done h m t =
          rw (m.0, h) (record {
            item = g.item;
            errors = g.errors;
            read = t.read;
            is = step ∙ rw t.is;
            tree = ap (λ (l : ℕ). take l o) v.expects.pos ∙ g.tree;
            reported = rw m.1 (v.expects.kept h).1 ∙ g.reported;
            holds = g.holds;
          })
      one Fatal h m t =
          let b : Shows (token (next_token (rest w x n a.state.at))) T E (rs ++ K.recs g.item) (es ++ g.errors) w x n o r' f' v.c (go d (P.expect_as role k) S) =
          abandons {T = T} {E = E} g.tree g.reported li lj (errs_length r a.state.reported (omega arith))
          v.abandoned (omega (arith, p.pos, v.expects.pos))
          (omega (arith, p.reported, v.expects.moved.reported)) (record {
            told = subst
                (λ (h : Status). ShowsOf h (token (next_token (rest w x n a.state.at))) (take a.state.pos o)
                (errs r a.state.reported) [] [] w x n o v.between f' v.b (go d (P.expect_as role k) S))
                (sym h) t;
          }) in
          let c : Bad T E w x n o r' f' v.c (go d (P.expect_as role k) S) = subst
          (λ (h : Status). ShowsOf h (token (next_token (rest w x n a.state.at))) T E (rs ++ K.recs g.item)
          (es ++ g.errors) w x n o r' f' v.c (go d (P.expect_as role k) S)) m.status b.told in
          subst (λ (h : Status). ShowsOf h K T E rs es w x n o r' f'
          (record { status = v.c.status; state = v.c.state; place = a.place; count = a.count })
          (after q (λ z S. go d (or_return (expecting role k) z) S))) (sym m.status) (lost c)
      one (Refused u) h m t = rw (m.0, h) (step ∙ rw t)

  -- `expect_after` represents `expect(..)?` after the answer
  pub expects_after : Shows K T E rs es w x n o r f a q
      → Shows K T E rs es w x n o r' f' y (after q (λ z S. go d (or_return (expecting role k) z) S))
  unfolding go run
  expects_after v = one a.status refl u.is v.told
    where
      one : (h : Status) → a.status ≡ h → ExpectedOf h w n k i j r f a r' f' y
          → ShowsOf h K T E rs es w x n o r f a q
          → Shows K T E rs es w x n o r' f' y (after q (λ z S. go d (or_return (expecting role k) z) S))
      one Done z m g = there z g m
      one Fatal z m g =
          rw (m.0, m.1.0, m.1.1) (record {
            told = rw z
                (record { errors = g.errors; read = g.read; is = rw g.is; tree = g.tree; reported = g.reported });
          })
      one (Refused u) z m g = rw (m.0, m.1.0, m.1.1) (record { told = rw (z, g) })
