-- How answers follow one another: an error is made, an answer is returned by `?`, one is abandoned, a record is
-- written after one. Assumes nothing.
use mathlib.Core.Path.{◌≡◌, refl, sym, ap, ◌∙◌, subst}
use mathlib.Core.Bool.{Bool, true, false}
use mathlib.Core.Option.{Option, none, some}
use mathlib.Core.List.{List, [], ◌∷◌, ◌++◌, append-nil, append_assoc, map, map-append}
use Prim.Native.Nat.{ℕ, zero, suc, ◌≤◌}
use native.Mathlib.Omega.{arith}
use lib.Dec.{ltb}
use lib.ListN.{length, take, drop}
use lib.Seq.{take-take, take_at, drop_at}
use borrow.Author.Tests.{ltb-true}
use Rattle.definition.specs.Choice.{pick}
use Rattle.definition.specs.Source as S
use Rattle.definition.specs.Node.{Num, Rec, rec_bytes, recs_bytes}
use Rattle.definition.specs.Fallible.{Err, Fallible, Ans, ok, fatal}
use Rattle.definition.specs.Act.{Act, Node, Consumed, St, Res, gives, after, or_return, run}
use Rattle.definition.specs.Parser as P
use Rattle.definition.specs.Go.{go}
use Rattle.definition.proofs.Room.{recs_append}
use Rattle.fallible.proofs.Grown.{errs_length}
use Rattle.fallible.specs.declared.error.Error.{Error}
use Rattle.fallible.specs.declared.parser.State.{State}
use Rattle.fallible.specs.Answer.{nowhere, Status, Done, Fatal, Refused, done_of, Answer}
use Rattle.fallible.specs.Lists.{err_of, errs}
use Rattle.fallible.specs.Answers.{refused_at, one_more, raised, Raised, Cut, AbandonedOf, Abandoned}
use Rattle.node.specs.Put.{Wrote}
use Rattle.steps.specs.Tokens.{rest}
use Rattle.steps.specs.Shows.{st_of, Asks, View, Good, ShowsOf, Shows, node, NodeWrittenOf, NodeWritten, Goes}

-- an answer that is fatal or refused
abbrev pub Stopped : Answer → Type 0
Stopped a = a.status ≡ Done → ⊥

-- ---- what an answer represents

-- a fatal answer has no numbers, so only the status and the state of an answer that is not done matter
pub alike : {A : Type 0} {K : View A} {T : List ℕ} {E : List Err} {rs : List Rec} {es : List Err} {w x : List ℕ}
    {n : ℕ} {o : List ℕ} {r f : List Error} {a y : Answer} {q : Res (Ans A)}
    → y.status ≡ a.status → y.state ≡ a.state → (y.status ≡ Done → (y.place ≡ a.place) × (y.count ≡ a.count))
    → Shows K T E rs es w x n o r f a q → Shows K T E rs es w x n o r f y q
alike {K = K} {T = T} {E = E} {rs = rs} {es = es} {w = w} {x = x} {n = n} {o = o} {r = r} {f = f} {a = a} {y = y} {q = q} hs ht hn v =
    record { told = one y.status refl (subst (λ (h : Status). ShowsOf h K T E rs es w x n o r f a q) (sym hs) v.told) }
  where
    one : (h : Status) → y.status ≡ h → ShowsOf h K T E rs es w x n o r f a q → ShowsOf h K T E rs es w x n o r f y q
    one Done z g =
        record {
          item = g.item;
          errors = g.errors;
          read = g.read;
          is = rw ht g.is;
          tree = rw ht g.tree;
          reported = rw ht g.reported;
          holds = rw ((hn z).0, (hn z).1) g.holds;
        }
    one Fatal z g =
        record { errors = g.errors; read = g.read; is = rw ht g.is; tree = rw ht g.tree; reported = rw ht g.reported }
    one (Refused m) z g = g

module _ {A : Type 0} {K : View A} {T : List ℕ} {E : List Err} {rs : List Rec} {es : List Err} {w x : List ℕ}
    {n : ℕ} {o : List ℕ} {r f : List Error} {a : Answer} {q : Res (Ans A)} where
  -- the same for an equal answer of the definition
  pub say : {q' : Res (Ans A)} → q ≡ q' → Shows K T E rs es w x n o r f a q' → Shows K T E rs es w x n o r f a q
  say e v = subst (λ (z : Res (Ans A)). Shows K T E rs es w x n o r f a z) (sym e) v

  -- an answer that is done is good, and the converse
  pub good_of : a.status ≡ Done → Shows K T E rs es w x n o r f a q → Good K T E rs es w x n o r f a q
  good_of z v = subst (λ (h : Status). ShowsOf h K T E rs es w x n o r f a q) z v.told

  pub is_good : a.status ≡ Done → Good K T E rs es w x n o r f a q → Shows K T E rs es w x n o r f a q
  is_good z g = record { told = subst (λ (h : Status). ShowsOf h K T E rs es w x n o r f a q) (sym z) g }

pub goes_alike : {A B : Type 0} {K : View A} {L : View B} {w x : List ℕ} {n d : ℕ} {k : Fallible A → Act (Ans B)}
    {i j : ℕ} {o : List ℕ} {r f : List Error} {o' : List ℕ} {r' f' : List Error} {a y z : Answer}
    → z.status ≡ y.status → z.state ≡ y.state → (z.status ≡ Done → (z.place ≡ y.place) × (z.count ≡ y.count))
    → Goes K L w x n d k i j o r f a o' r' f' y → Goes K L w x n d k i j o r f a o' r' f' z
goes_alike hs ht hn u =
    record { moved = rw ht u.moved; is = λ T E q li lj v. alike hs ht hn (u.is T E q li lj v) }

pub not_done : (h : Status) → (h ≡ Done → ⊥) → done_of h ≡ 0
not_done Done nd = absurd (nd refl)
not_done Fatal nd = refl
not_done (Refused u) nd = refl

pub done_le : (h : Status) → done_of h ≤ 1
done_le Done = omega arith
done_le Fatal = omega arith
done_le (Refused u) = omega arith

-- a fatal or refused answer is also the answer of what follows under `?`
pub stops : {A B : Type 0} {K : View A} {L : View B} {T : List ℕ} {E : List Err} {rs rs' : List Rec} {es es' : List Err}
    {w x : List ℕ} {n : ℕ} {o : List ℕ} {r f : List Error} {a : Answer} (d : ℕ) (k : Fallible A → Act (Ans B))
    (q : Res (Ans A))
    → Stopped a → Shows K T E rs es w x n o r f a q → Shows L T E rs' es' w x n o r f a (after q (λ z S. go d (or_return k z) S))
unfolding go run
stops {K = K} {L = L} {T = T} {E = E} {rs = rs} {rs' = rs'} {es = es} {es' = es'} {w = w} {x = x} {n = n} {o = o} {r = r} {f = f} {a = a} d k q nd v =
    record { told = one a.status nd v.told }
  where
    one : (h : Status) → (h ≡ Done → ⊥) → ShowsOf h K T E rs es w x n o r f a q
        → ShowsOf h L T E rs' es' w x n o r f a (after q (λ z S. go d (or_return k z) S))
    one Done nd i = absurd (nd refl)
    one Fatal nd i = record { errors = i.errors; read = i.read; is = rw i.is; tree = i.tree; reported = i.reported }
    one (Refused u) nd i = rw i

-- after a good answer the continuation runs
pub follows : {A B : Type 0} (d : ℕ) (k : Fallible A → Act (Ans B)) {q : Res (Ans A)} {y : Fallible A} {S : St}
    → q ≡ gives (ok y) S → after q (λ z S. go d (or_return k z) S) ≡ go d (k y) S
follows d k e = rw e

-- ---- an error is made

pub raise_same : {A : Type 0} (d : ℕ) {X Y : Err} {S S' : St} → X ≡ Y → S ≡ S' → go d (P.raise {A = A} X) S ≡ go d (P.raise {A = A} Y) S'
raise_same d p q = rw (p, q)

module _ {A : Type 0} (K : View A) {w x : List ℕ} {n : ℕ} {r f r' f' : List Error} {s : State} {e : Error} {a : Answer}
    (q : Asks n r f s) (v : Raised (raised n s) r f s e r' f' a) (d : ℕ) (rd : List Consumed) (o : List ℕ) where
  -- `raise` represents the definition's `raise`
  pub raise_shows : Shows K (take s.pos o) (errs r s.reported) [] [] w x n o r' f' a
      (go d (P.raise {A = A} (err_of e)) (st_of w x n f rd s))
  unfolding go run
  raise_shows = rw v.is (record { told = one (ltb s.full 255) refl })
    where
      few : length (errs f s.full) ≡ s.full
      few = errs_length f s.full (omega arith)

      one : (b : Bool) → ltb s.full 255 ≡ b
          → ShowsOf
          (pick b (record { status = Fatal; state = one_more s; place = nowhere; count = 0 }) (refused_at n s 12)).status K
          (take s.pos o) (errs r s.reported) [] [] w x n o r' f'
          (pick b (record { status = Fatal; state = one_more s; place = nowhere; count = 0 }) (refused_at n s 12))
          (go d (P.raise {A = A} (err_of e)) (st_of w x n f rd s))
      one true l =
          record {
            errors = err_of e ∷ [];
            read = rd;
            is = rw (few, l, run) (ap (λ (z : List Err). gives (fatal (err_of e ∷ []))
                (record { tokens = rest w x n s.at; read = rd; full = z })) (sym (v.full (ltb-true _ _ l))));
            tree = refl;
            reported = v.reported (ltb-true _ _ l);
          }
      one false l = rw (few, l, run)

-- ---- records and errors after others

pub tree_join : {T' l : List ℕ} (T : List ℕ) (rs ys : List Rec) → T' ≡ T ++ recs_bytes rs → l ≡ T' ++ recs_bytes ys
    → l ≡ T ++ recs_bytes (rs ++ ys)
tree_join T rs ys e h =
    h ∙ ap (λ (z : List ℕ). z ++ recs_bytes ys) e ∙ append_assoc T (recs_bytes rs) (recs_bytes ys)
    ∙ ap (λ (z : List ℕ). T ++ z) (sym (recs_append rs ys))

pub errs_join : {E' l : List Err} (E es ys : List Err) → E' ≡ E ++ es → l ≡ E' ++ ys → l ≡ E ++ (es ++ ys)
errs_join E es ys e h = h ∙ ap (λ (z : List Err). z ++ ys) e ∙ append_assoc E es ys

-- one more record is written
pub wrote : {o o' : List ℕ} {p q : ℕ} {z y : Rec} (T : List ℕ) (rs : List Rec) → Wrote o p z o' q
    → take p o ≡ T ++ recs_bytes rs → y ≡ z → take q o' ≡ T ++ recs_bytes (rs ++ (y ∷ []))
unfolding recs_bytes
wrote {z = z} {y = y} T rs v e i =
    v.is ∙ ap (λ (l : List ℕ). l ++ rec_bytes z) e ∙ append_assoc T (recs_bytes rs) (rec_bytes z)
    ∙ ap (λ (l : List ℕ). T ++ (recs_bytes rs ++ l))
    (sym (append-nil (rec_bytes z)) ∙ ap (λ (u : Rec). rec_bytes u ++ []) (sym i))
    ∙ ap (λ (l : List ℕ). T ++ l) (sym (recs_append rs (y ∷ [])))

-- ---- what `?` drops

map_take : (j : ℕ) (l : List Error) → map (λ e. err_of e) (take j l) ≡ take j (map (λ e. err_of e) l)
map_take zero l = refl
map_take (suc j) [] = refl
map_take (suc j) (z ∷ l) = ap (λ (y : List Err). err_of z ∷ y) (map_take j l)

map_drop : (j : ℕ) (l : List Error) → map (λ e. err_of e) (drop j l) ≡ drop j (map (λ e. err_of e) l)
map_drop zero l = refl
map_drop (suc j) [] = refl
map_drop (suc j) (z ∷ l) = map_drop j l

-- the first j of the first k errors
pub errs_take : (l : List Error) (j k : ℕ) → j ≤ k → errs l j ≡ take j (errs l k)
unfolding errs
errs_take l j k h = ap (λ (z : List Error). map (λ e. err_of e) z) (sym (take-take j k l h)) ∙ map_take j (take k l)

cut_errs : {r r' : List Error} {a a' : Answer} {i j k : ℕ} (E es bs : List Err) → Cut r a i j k r' a' → length E ≡ j
    → length (E ++ es) ≡ k → j ≤ a.state.reported → errs r a.state.reported ≡ (E ++ es) ++ bs
    → errs r' a'.state.reported ≡ E ++ bs
unfolding errs
cut_errs {r} {r'} {a} {a'} {i} {j} {k} E es bs c le lk h e =
    ap (λ (z : List Error). map (λ e. err_of e) z) c.is ∙ map-append (λ e. err_of e) (take j r) (drop k (take a.state.reported r))
    ∙ ap (λ (z : List Err). z ++ map (λ e. err_of e) (drop k (take a.state.reported r)))
    (errs_take r j a.state.reported h ∙ ap (λ (z : List Err). take j z) (e ∙ append_assoc E es bs)
    ∙ take_at E (es ++ bs) j le)
    ∙ ap (λ (z : List Err). E ++ z)
    (map_drop k (take a.state.reported r) ∙ ap (λ (z : List Err). drop k z) e ∙ drop_at (E ++ es) bs k lk)

-- The answer b of a call in a construct that so far has the records rs after T and the errors es after E.
module _ {A : Type 0} {K : View A} {T T' : List ℕ} {E E' : List Err} {rs : List Rec} {es : List Err} {w x : List ℕ} {n : ℕ} {o : List ℕ} {r r' f : List Error} {b c : Answer} {i j k : ℕ} {q : Res (Ans A)}
    (tree : T' ≡ T ++ recs_bytes rs) (reps : E' ≡ E ++ es) (li : length T ≡ i) (lj : length E ≡ j) (lk : length E' ≡ k) (v : Abandoned r b i j k r' c) where
  -- after `abandon`, the answer is that of `?` in the construct
  pub abandons : i ≤ b.state.pos → j ≤ b.state.reported → Shows K T' E' [] [] w x n o r f b q → Shows K T E rs es w x n o r' f c q
  abandons hi hj u = record { told = one b.status refl v.is u.told }
    where
      one : (h : Status) → b.status ≡ h → AbandonedOf h r b i j k r' c → ShowsOf h K T' E' [] [] w x n o r f b q
          → ShowsOf c.status K T E rs es w x n o r' f c q
      one Done z m g =
          rw (m.0, m.1, z) (record {
            item = g.item;
            errors = g.errors;
            read = g.read;
            is = g.is;
            tree = tree_join T rs (K.recs g.item) tree g.tree;
            reported = errs_join E es g.errors reps g.reported;
            holds = g.holds;
          })
      one Fatal z m g =
          rw m.status (record {
            errors = g.errors;
            read = g.read;
            is = g.is ∙ ap (λ (s : St). gives (fatal g.errors) s) (sym (rw (v.at, v.full)));
            tree = ap (λ (z : ℕ). take z o) m.pos ∙ sym (take-take i b.state.pos o hi)
                ∙ ap (λ (z : List ℕ). take i z) (g.tree ∙ tree) ∙ take_at T (recs_bytes rs) i li;
            reported = cut_errs E es g.errors m lj (ap length (sym reps) ∙ lk) hj
                (g.reported ∙ ap (λ (z : List Err). z ++ g.errors) reps);
          })
      one (Refused u) z m g = rw (m.0, z) g

-- ---- a record after an answer

-- the place of a record that has one
place_in : Option S.Place → S.Place
place_in p = elim p [ none ↦ S.nowhere | some p ↦ p ]

-- The node made of an item: a record after the records rs and the errors es of the construct so far; its place and
-- numbers may depend on the item.
abbrev pub wrapped : {A : Type 0} → View A → List Rec → List Err → ℕ → (A → S.Place) → (A → List Num) → List ℕ → Fallible A → Act (Ans Node)
wrapped K rs es tag p ns text e = P.good (P.node (rs ++ K.recs e.item) tag (p e.item) (ns e.item) text) (es ++ e.errors)

module _ {A : Type 0} {K : View A} {T : List ℕ} {E : List Err} {rs : List Rec} {es : List Err} {w x : List ℕ}
    {n : ℕ} {o o' : List ℕ} {r f : List Error} {a y : Answer} {v : Rec} {q : Res (Ans A)} (d : ℕ) (p : A → S.Place)
    (ns : A → List Num) (text : List ℕ) (u : NodeWritten o a v o' y) where
  -- writing a record after an answer represents wrapping its item
  pub writes_done : (a.status ≡ Done → (i : A) → K.fine a.place a.count i
      → v ≡ record { tag = v.tag; place = some (p i); numbers = ns i; text = text })
      → Shows K T E rs es w x n o r f a q
      → Shows node T E [] [] w x n o' r f y (after q (λ z S. go d (or_return (wrapped K rs es (v.tag) p ns text) z) S))
  unfolding go run place_in
  writes_done e h = record { told = one a.status refl u.is h.told }
    where
      one : (k : Status) → a.status ≡ k → NodeWrittenOf k o a v o' y → ShowsOf k K T E rs es w x n o r f a q
          → ShowsOf y.status node T E [] [] w x n o' r f y
          (after q (λ z S. go d (or_return (wrapped K rs es (v.tag) p ns text) z) S))
      one Done z m g =
          rw m.0 (record {
            item = P.node (rs ++ K.recs g.item) (v.tag) (p g.item) (ns g.item) text;
            errors = es ++ g.errors;
            read = g.read;
            is = rw (g.is, u.at, u.full);
            tree = wrote T (rs ++ K.recs g.item) m.1.0 g.tree (sym (e z g.item g.holds));
            reported = ap (λ (k : ℕ). errs r k) u.reported ∙ g.reported;
            holds = sym (ap place_in (m.1.1 ∙ ap (λ (z : Rec). z.place) (e z g.item g.holds)));
          })
      one Fatal z m g = rw (m.0, m.1, z) (record { errors = g.errors; read = g.read; is = rw g.is; tree = g.tree; reported = g.reported })
      one (Refused k) z m g = rw (m.0, z, g)

  -- the same where the record does not depend on the status
  pub writes_node : ((i : A) → K.fine a.place a.count i
      → v ≡ record { tag = v.tag; place = some (p i); numbers = ns i; text = text })
      → Shows K T E rs es w x n o r f a q
      → Shows node T E [] [] w x n o' r f y (after q (λ z S. go d (or_return (wrapped K rs es (v.tag) p ns text) z) S))
  writes_node e h = writes_done (λ _. e) h
