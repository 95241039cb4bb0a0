-- Loops that collect items: one law for each way in which a turn ends. Assumes nothing.
use mathlib.Core.Path.{◌≡◌, refl, sym, ap, ◌∙◌}
use mathlib.Core.List.{List, [], ◌∷◌, ◌++◌}
use Prim.Native.Nat.{ℕ, ◌≤◌}
use native.Mathlib.Omega.{arith}
use lib.ListN.{length, take}
use Rattle.definition.specs.Numbers.{kind_number}
use Rattle.definition.specs.Node.{recs_bytes}
use Rattle.definition.specs.Fallible.{Err, Ans, ok, fatal}
use Rattle.definition.specs.Act.{Act, Items, Node, done, make, Consumed, Res, gives, refused, after, run, ◌>>=◌}
use Rattle.definition.specs.Parser as P
use Rattle.definition.specs.Go.{go}
use Rattle.definition.proofs.Flat.{go_bind}
use Rattle.fallible.specs.declared.parser.State.{State}
use Rattle.fallible.specs.Answer.{nowhere, Status, Done, Fatal, Refused, Answer}
use Rattle.fallible.specs.Lists.{err_of, errs}
use Rattle.fallible.specs.Answers.{noted, Raised}
use Rattle.steps.specs.declared.tokens.Token.{Token}
use Rattle.steps.specs.Tokens.{Seen}
use Rattle.steps.specs.Shows.{st_of, Asked, View, ShowsOf, Shows, Reads, node, items}
use Rattle.steps.proofs.Records.{fore}
use Rattle.steps.proofs.Moves.{fore_moved, making_moved, asked_moved}
use Rattle.steps.proofs.Answers.{alike, say, tree_join, errs_join}
use Rattle.leaves.specs.Leaves.{count_of, Counted}
use Rattle.leaves.proofs.Errors.{made_so, makes, makes_none}
use Rattle.leaves.proofs.Atoms.{Ended, Alive}
use Rattle.expression_laws.specs.Post.{as_answer, LoopOn}
use Rattle.expression_laws.proofs.Types.{moved_onward, past}
use Rattle.fallible.specs.declared.error.Error.{Error}

-- the items as an answer
abbrev pub answered : ℕ → Res Items → Res (Ans Items)
answered d q = after q (λ i S. go d (as_answer i) S)

-- ---- refusals

-- a refused answer is not fatal
pub not_fatal : (h : Status) → (m : ℕ) × (h ≡ Refused m) → h ≡ Fatal → ⊥
not_fatal h e z = let y : Fatal ≡ Refused e.0 = sym z ∙ e.1 in cc

-- a refusal is also the answer of what follows
pub refusal : {A : Type 0} {K : View A} {T : List ℕ} {E : List Err} {w x : List ℕ} {n : ℕ} {o : List ℕ} {r f : List Error} {o' : List ℕ} {r' f' : List Error}
    {T' : List ℕ} {E' : List Err} {a : Answer} {q : Res (Ans A)} {q' : Res (Ans Items)}
    → Ended a → ((m : ℕ) → q ≡ refused m → q' ≡ refused m)
    → Shows {A = A} K T E [] [] w x n o r f a q → Shows items T' E' [] [] w x n o' r' f' a q'
refusal {A} {K} {T} {E} {w} {x} {n} {o} {r} {f} {o'} {r'} {f'} {T'} {E'} {a} {q} {q'} e h v = record { told = one a.status e v.told }
  where
    one : (k : Status) → (m : ℕ) × (k ≡ Refused m) → ShowsOf k K T E [] [] w x n o r f a q → ShowsOf k items T' E' [] [] w x n o' r' f' a q'
    one Done e g = absurd (let y : Done ≡ Refused e.0 = e.1 in cc)
    one Fatal e g = absurd (let y : Fatal ≡ Refused e.0 = e.1 in cc)
    one (Refused m) e g = h m g

-- ---- a turn that ends the loop `on`

module _ {w x : List ℕ} {n d count : ℕ} (on : Items → Act Items) {o : List ℕ} {r f : List Error} {s : State} {t : Token}
    (q : Asked w n o r f s × (count ≤ s.at)) (v : Seen w x n s.at t) where
  -- the closing token is read
  pub loop_closed : ((rd : List Consumed) (l : Items)
      → go d (on l) (st_of w x n f rd s) ≡ gives l (st_of w x n f (past w x n s.at rd) (fore s t)))
      → LoopOn on w x n d count o r f s o r f (record { status = Done; state = fore s t; place = nowhere; count = count })
  unfolding go run
  loop_closed step = record {
    moved = fore_moved q.0.asks v;
    never = λ y. let e : ◌≡◌ {A = ℕ} 0 1 = cc in omega arith;
    is =
        λ rd T E l et ee ec. record {
          told = record {
            item = l;
            errors = l.errors;
            read = past w x n s.at rd;
            is = go_bind d (on l) as_answer _ ∙ ap (answered d) (step rd l);
            tree = et;
            reported = ee;
            holds = ec;
          };
        };
  }

  -- the end of the script, with an error
  pub loop_ended : {e : Error} {r1 f1 : List Error} {b : Answer} → Raised (noted n s) r f s e r1 f1 b
      → ((rd : List Consumed) (l : Items)
      → go d (on l) (st_of w x n f rd s)
      ≡ go d (make (err_of e) (done (P.with_error l (err_of e)))) (st_of w x n f rd s))
      → LoopOn on w x n d count o r f s o r1 f1 (record { status = b.status; state = b.state; place = nowhere; count = count })
  unfolding go run
  loop_ended {e} {r1} {f1} {b} g step = record {
    moved = rw g.is (making_moved q.0.asks Done);
    never =
        made_so Done n s (λ y. y.status ≡ Fatal → ⊥) g.is (λ _ y. let e : ◌≡◌ {A = ℕ} 0 1 = cc in omega arith)
        (λ _ y. let e : ◌≡◌ {A = ℕ} 0 1 = cc in omega arith);
    is = λ rd T E l et ee ec.
        let made : go d (on l >>= as_answer) (st_of w x n f rd s) ≡ answered d (go d (make (err_of e) (done (P.with_error l (err_of e)))) (st_of w x n f rd s)) =
        go_bind d (on l) as_answer _ ∙ ap (answered d) (step rd l) in
        made_so Done n s (λ y. Shows items T E [] [] w x n o r1 f1
        (record { status = y.status; state = y.state; place = nowhere; count = count })
        (go d (on l >>= as_answer) (st_of w x n f rd s))) g.is
        (λ h. record {
          told = record {
            item = P.with_error l (err_of e);
            errors = l.errors ++ (err_of e ∷ []);
            read = rd;
            is = made ∙ ap (answered d) (makes q.0.asks g d (done (P.with_error l (err_of e))) rd w x h);
            tree = et;
            reported = errs_join E l.errors (err_of e ∷ []) ee (g.reported h);
            holds = ec;
          };
        })
        (λ h. record { told = made ∙ ap (answered d) (makes_none q.0.asks g d (done (P.with_error l (err_of e))) rd w x h) });
  }

-- ---- a turn that reads an item

-- the answer of an item is added to the items before it, and the loop continues with `next`
pub record Joined (w x : List ℕ) (n d : ℕ) (next : Items → Act Items) (T : List ℕ) (E : List Err) (o : List ℕ) (r f : List Error) (b : Answer) (count : ℕ) (q : Res (Ans Items)) : Type 0 where
  pub list : Items
  pub read : List Consumed
  pub is : q ≡ answered d (go d (next list) (st_of w x n f read b.state))
  pub tree : take b.state.pos o ≡ T ++ recs_bytes list.recs
  pub reported : errs r b.state.reported ≡ E ++ list.errors
  pub counts : list.count ≡ count_of b.status count

-- For a loop `on`, whose turn at s reads an item by the act m and continues with `next`.
module _ {w x : List ℕ} {n d : ℕ} {o : List ℕ} {r f : List Error} {o1 : List ℕ} {r1 f1 : List Error} {s : State} {b : Answer} (on next : Items → Act Items) (m : Act (Ans Node)) (step : (rd : List Consumed) (l : Items) → go d (on l) (st_of w x n f rd s) ≡ go d (m >>= λ a. next (P.integrate l a)) (st_of w x n f rd s))
    (u : Reads node w x n d m o r f s o1 r1 f1 b) where
  -- the item, and what follows it
  item_first : (rd : List Consumed) (l : Items)
      → go d (on l >>= as_answer) (st_of w x n f rd s)
      ≡ answered d (after (go d m (st_of w x n f rd s)) (λ a S. go d (next (P.integrate l a)) S))
  item_first rd l =
      go_bind d (on l) as_answer (st_of w x n f rd s)
      ∙ ap (answered d) (step rd l ∙ go_bind d m (λ a. next (P.integrate l a)) (st_of w x n f rd s))

  -- an item that is refused is returned
  pub loop_refused : {count : ℕ} → Ended b → LoopOn on w x n d count o r f s o1 r1 f1 b
  loop_refused h =
      record {
        moved = u.moved;
        never = not_fatal b.status h;
        is = λ rd T E l et ee ec. refusal h (λ m g. item_first rd l ∙ rw g) (u.is rd);
      }

  pub joined : {count : ℕ} → Alive b → (rd : List Consumed) (T : List ℕ) (E : List Err) (l : Items)
      → take s.pos o ≡ T ++ recs_bytes l.recs → errs r s.reported ≡ E ++ l.errors → l.count ≡ count
      → Joined w x n d next T E o1 r1 f1 b count (go d (on l >>= as_answer) (st_of w x n f rd s))
  joined {count} alive rd T E l et ee ec = one b.status refl alive (u.is rd).told
    where
      one : (h : Status) → b.status ≡ h → ((m : ℕ) → h ≡ Refused m → ⊥)
          → ShowsOf h node (take s.pos o) (errs r s.reported) [] [] w x n o1 r1 f1 b
          (go d m (st_of w x n f rd s))
          → Joined w x n d next T E o1 r1 f1 b count (go d (on l >>= as_answer) (st_of w x n f rd s))
      one Done z h i =
          record {
            list = P.integrate l (ok (record { item = i.item; errors = i.errors }));
            read = i.read;
            is = item_first rd l ∙ rw i.is;
            tree = tree_join T l.recs i.item.recs et i.tree;
            reported = errs_join E l.errors i.errors ee i.reported;
            counts = rw z (omega (arith, ec));
          }
      one Fatal z h i =
          record {
            list = P.integrate l (fatal i.errors);
            read = i.read;
            is = item_first rd l ∙ rw i.is;
            tree = i.tree ∙ et;
            reported = errs_join E l.errors i.errors ee i.reported;
            counts = rw z ec;
          }
      one (Refused m) z h i = absurd (h m refl)

-- a loop that continues with itself
module _ {w x : List ℕ} {n d : ℕ} {o : List ℕ} {r f : List Error} {o1 : List ℕ} {r1 f1 : List Error} {s : State} {b : Answer} (on : Items → Act Items) (m : Act (Ans Node)) (step : (rd : List Consumed) (l : Items) → go d (on l) (st_of w x n f rd s) ≡ go d (m >>= λ a. on (P.integrate l a)) (st_of w x n f rd s))
    (u : Reads node w x n d m o r f s o1 r1 f1 b) where
  pub loop_next : {count k : ℕ} {o3 : List ℕ} {r3 f3 : List Error} {y : Answer} → Alive b → Counted b.status count k
      → LoopOn on w x n d k o1 r1 f1 b.state o3 r3 f3 y → LoopOn on w x n d count o r f s o3 r3 f3 y
  loop_next alive ck h = record {
    moved = moved_onward u.moved h.moved;
    never = h.never;
    is =
        λ rd T E l et ee ec. let j = joined on on m step u alive rd T E l et ee ec in
        say (j.is ∙ sym (go_bind d (on j.list) as_answer _))
        (h.is j.read T E j.list j.tree j.reported (j.counts ∙ sym ck.is));
  }

-- what the next turn requires: an item consumes the token that begins it
pub loop_asked : {w x : List ℕ} {n d count k : ℕ} {m : Act (Ans Node)} {o : List ℕ} {r f : List Error} {o1 : List ℕ} {r1 f1 : List Error} {s : State} {b : Answer}
    {t : Token}
    → Asked w n o r f s × (count ≤ s.at) → Seen w x n s.at t → (kind_number t.kind ≡ 0 → ⊥)
    → Reads node w x n d m o r f s o1 r1 f1 b → Counted b.status count k → length o1 ≡ length o
    → length r1 ≡ length r → length f1 ≡ length f
    → Asked w n o1 r1 f1 b.state × (k ≤ b.state.at)
loop_asked q v m0 u c lo lr lf = (asked_moved q.0 u.moved lo lr lf, omega (arith, q.1, v.present, m0, u.on, c.high))

-- only the status and the state of an answer that is not done matter
pub loop_alike : {on : Items → Act Items} {w x : List ℕ} {n d count : ℕ} {o : List ℕ} {r f : List Error} {o' : List ℕ} {r' f' : List Error} {s : State} {y z : Answer}
    → z.status ≡ y.status → z.state ≡ y.state → (z.status ≡ Done → (z.place ≡ y.place) × (z.count ≡ y.count))
    → LoopOn on w x n d count o r f s o' r' f' y → LoopOn on w x n d count o r f s o' r' f' z
loop_alike hs ht hn u =
    record {
      moved = rw ht u.moved;
      never = λ k. u.never (sym hs ∙ k);
      is = λ rd T E i p q r. alike hs ht hn (u.is rd T E i p q r);
    }
