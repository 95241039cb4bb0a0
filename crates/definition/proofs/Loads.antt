-- Every file that the whole operation writes is accepted by `load`, with its records and errors as steps.
-- Assumes nothing.
use mathlib.Core.Path.{◌≡◌, refl, sym, ap, ◌∙◌, subst}
use mathlib.Core.Bool.{Bool, true, false, ◌&&◌, ◌||◌}
use mathlib.Core.Option.{Option, none, some}
use mathlib.Core.List.{List, [], ◌∷◌, ◌++◌, append-nil, append_assoc}
use Prim.Native.Nat.{ℕ, zero, suc, ◌+◌, ◌*◌, ◌≤◌, ◌<◌}
use native.Mathlib.Omega.{arith}
use borrow.Author.Tests.{le-leb, le-ltb, eq-eqb}
use lib.Dec.{eqb}
use lib.ListN.{length, length-append}
use Rattle.definition.specs.Choice.{pick}
use Rattle.definition.specs.Tag as Tag
use Rattle.definition.specs.Source.{Place, is_some}
use Rattle.definition.specs.Node.{Rec, at_place, nums_bytes, rec_bytes, recs_bytes}
use Rattle.definition.specs.Fallible.{Err, err_body, err_bytes, errs_bytes}
use Rattle.definition.specs.Token.{Tok}
use Rattle.definition.specs.Act.{Items, St, gives}
use Rattle.definition.specs.Losses.{losses, parse_tokens}
use Rattle.definition.specs.Operations.{whole, file_bytes}
use Rattle.definition.specs.Demand.{file_of}
use Rattle.definition.specs.Format as F
use Rattle.definition.specs.Format.{Part, Row, rows, find, Numbers, no_numbers, numbers_of, children_of, module_rec}
use Rattle.definition.specs.Stored.{is_place, numbers, Phase, waiting, closed, pop, judge, Step, steps, ahead, walk, load, load_into}
use Rattle.definition.specs.StoredTerms.{child_count, rec_step, rec_steps, err_steps, file_steps}
use Rattle.definition.proofs.Tests.{both_true, between_true, All, all_map}
use Rattle.definition.proofs.Later.{After}
use Rattle.definition.proofs.Size as Z
use Rattle.definition.proofs.Tokens.{Fault}
use Rattle.definition.proofs.Accepted.{Accepted, accepted}
use Rattle.definition.proofs.Room.{recs_length, recs_append, light, room}
use Rattle.definition.proofs.Leaves.{Leaves, Rooted, none_left, also, made}
use Rattle.definition.proofs.LeavesAnswers.{Known}
use Rattle.definition.proofs.LeavesStatements.{module_leaves}
use Rattle.definition.proofs.Fit.{recs_length_append}
use Rattle.definition.proofs.Claim.{file_is}
use Rattle.definition.proofs.ErrorsMade.{Somewhere, FineTo, Fine, Kept, errors_fine, full_fine}
use Rattle.definition.proofs.StoredFields.{taken, two_bytes, placed, numbers_body}
use Rattle.definition.proofs.StoredWalk.{ahead_none, ahead_both, walk_found}

-- ---- steps ahead

rec_steps_append : (xs ys : List Rec) (n : ℕ)
    → rec_steps n (xs ++ ys) ≡ rec_steps n xs ++ rec_steps (n + length (recs_bytes xs)) ys
unfolding rec_steps recs_bytes
rec_steps_append [] ys n = ap (λ (m : ℕ). rec_steps m ys) (omega arith)
rec_steps_append (x ∷ xs) ys n =
    let k : ℕ = n + length (rec_bytes x) in
    let e : k + length (recs_bytes xs) ≡ n + length (rec_bytes x ++ recs_bytes xs) =
    omega (arith, length-append (rec_bytes x) (recs_bytes xs)) in
    ap (λ (l : List Step). rec_step n x ∷ l)
    (rec_steps_append xs ys k ∙ ap (λ (m : ℕ). rec_steps k xs ++ rec_steps m ys) e)

-- ---- the tree

-- kinds put on a stack, the last on top
abbrev put : List ℕ → List ℕ → List ℕ
put [] st = st
put (k ∷ ks) st = put ks (k ∷ st)

put_append : (ks ls st : List ℕ) → put ls (put ks st) ≡ put (ks ++ ls) st
put_append [] ls st = refl
put_append (k ∷ ks) ls st = put_append ks ls (k ∷ st)

pop_put : (ks st : List ℕ) → pop ks (put ks st) ≡ some st
unfolding pop
pop_put [] st = refl
pop_put (k ∷ ks) st = rw (pop_put ks (k ∷ st), eq-eqb k k refl)

-- the walk over the records, which finds the one phase and leaves the other
abbrev Walks : List Rec → Phase → Phase → Type 0
Walks rs p q =
    (n : ℕ) (rest : List ℕ)
    → walk 0 n p (recs_bytes rs ++ rest) ≡ ahead (rec_steps n rs) (walk 0 (n + length (recs_bytes rs)) q rest)

walks_both : (xs ys : List Rec) (p q r : Phase) → Walks xs p q → Walks ys q r → Walks (xs ++ ys) p r
walks_both xs ys p q r f g n rest =
    let k : ℕ = n + length (recs_bytes xs) in
    let e : k + length (recs_bytes ys) ≡ n + length (recs_bytes (xs ++ ys)) = omega (arith, recs_length_append xs ys) in
    ap (λ (l : List ℕ). walk 0 n p (l ++ rest)) (recs_append xs ys)
    ∙ ap (walk 0 n p) (append_assoc (recs_bytes xs) (recs_bytes ys) rest)
    ∙ f n (recs_bytes ys ++ rest)
    ∙ ap (ahead (rec_steps n xs)) (g k rest)
    ∙ ahead_both (rec_steps n xs) (rec_steps k ys) (walk 0 (k + length (recs_bytes ys)) r rest)
    ∙ ap (λ (m : ℕ). ahead (rec_steps n xs ++ rec_steps k ys) (walk 0 m r rest)) e
    ∙ ap (λ (ss : List Step). ahead ss (walk 0 (n + length (recs_bytes (xs ++ ys))) r rest))
    (sym (rec_steps_append xs ys n))

-- over one record, whose body its row has
walks_one : (r : Rec) (w : Row) (p q : Phase) → find r.tag rows ≡ some w
    → numbers w.body (at_place r.place ++ nums_bytes r.numbers ++ r.text) no_numbers
    ≡ some (numbers_of r.numbers no_numbers)
    → length (recs_bytes (r ∷ [])) < 65536 → judge w.sort (children_of w r) p ≡ some q → Walks (r ∷ []) p q
unfolding rec_steps recs_bytes rec_bytes
walks_one r w p q f e h j n rest =
    let body : List ℕ = at_place r.place ++ nums_bytes r.numbers ++ r.text in
    let one : rec_bytes r ++ [] ≡ rec_bytes r = append-nil (rec_bytes r) in
    let c : length (children_of w r) ≡ child_count (find r.tag rows) r =
    sym (ap (λ (o : Option Row). child_count o r) f) in
    let s : ℕ → Step = λ (m : ℕ). record { tag = r.tag; children = m; offset = n + 3; size = length body } in
    ap (λ (l : List ℕ). walk 0 n p (l ++ rest)) one
    ∙ walk_found r.tag body rest w (numbers_of r.numbers no_numbers) n p q (omega (arith, ap length one)) f e j
    ∙ ap (λ (m : ℕ). ahead (s m ∷ []) (walk 0 (n + length (rec_bytes r)) q rest)) c
    ∙ ap (λ (l : List ℕ). ahead (rec_step n r ∷ []) (walk 0 (n + length l) q rest)) (sym one)

-- over records that leave nodes of the kinds ks, which are put on the stack
walks_leaves : {rs : List Rec} {ks : List ℕ} → Leaves rs ks → length (recs_bytes rs) < 65536 → (st : List ℕ)
    → Walks rs (waiting st) (waiting (put ks st))
walks_leaves none_left h st =
    λ n rest. unfold recs_bytes rec_steps in
    (ap (λ (m : ℕ). walk 0 m (waiting st) rest) (omega arith) ∙ ahead_none (walk 0 (n + 0) (waiting st) rest))
walks_leaves (also {xs} {ys} {ks} {ls} a b) h st =
    let l : length (recs_bytes (xs ++ ys)) ≡ length (recs_bytes xs) + length (recs_bytes ys) =
    recs_length_append xs ys in
    let top : List ℕ = put ks st in
    subst (λ (st' : List ℕ). Walks (xs ++ ys) (waiting st) (waiting st')) (put_append ks ls st)
    (walks_both xs ys (waiting st) (waiting top) (waiting (put ls top)) (walks_leaves a (omega arith) st)
    (walks_leaves b (omega arith) top))
walks_leaves (made {rs} {w} {k} r f s b a) h st =
    let l : length (recs_bytes (rs ++ (r ∷ []))) ≡ length (recs_bytes rs) + length (recs_bytes (r ∷ [])) =
    recs_length_append rs (r ∷ []) in
    let top : List ℕ = put (children_of w r) st in
    walks_both rs (r ∷ []) (waiting st) (waiting top) (waiting (k ∷ st)) (walks_leaves a (omega arith) st)
    (walks_one r w (waiting top) (waiting (k ∷ st)) f (numbers_body b) (omega arith)
    (rw (s, pop_put (children_of w r) st)))

-- ---- errors

-- each error of a list is one that the row can have
abbrev Fitting : Row → List Err → Type 0
Fitting w es = All (λ e. is_some (numbers w.body (err_body e) no_numbers) ≡ true) es

known : {A : Type 0} (o : Option A) → is_some o ≡ true → (x : A) × (o ≡ some x)
known none e = let z : ◌≡◌ {A = ℕ} 0 1 = cc in absurd (omega arith)
known (some x) e = (x, refl)

-- over the errors of one list
walks_errors : (tag turn : ℕ) (w : Row) → find tag rows ≡ some w → w.sort ≡ F.error turn
    → ((b c : ℕ) → w.children b c ≡ []) → (es : List Err) → Fitting w es → (n m : ℕ) → m ≤ turn
    → (rest : List ℕ) (ss : List Step)
    → ((k : ℕ) → k ≤ turn → walk 0 (n + 10 * length es) (closed k) rest ≡ steps ss)
    → walk 0 n (closed m) (errs_bytes tag es ++ rest) ≡ steps (err_steps n tag es ++ ss)
unfolding errs_bytes err_steps
walks_errors tag turn w f i c [] a n m h rest ss go = ap (λ (k : ℕ). walk 0 k (closed m) rest) (omega arith) ∙ go m h
walks_errors tag turn w f i c (e ∷ es) a n m h rest ss go =
    let x : (m : Numbers) × (numbers w.body (err_body e) no_numbers ≡ some m) =
    known (numbers w.body (err_body e) no_numbers) a.0 in
    let s : ℕ → Step = λ (k : ℕ). record { tag = tag; children = k; offset = n + 3; size = 7 } in
    ap (walk 0 n (closed m)) (append_assoc (err_bytes tag e) (errs_bytes tag es) rest)
    ∙ walk_found tag (err_body e) (errs_bytes tag es ++ rest) w x.0 n (closed m) (closed turn) (omega arith) f x.1
    (rw (i, le-leb m turn h))
    ∙ ap (λ (l : List ℕ). ahead (s (length l) ∷ []) (walk 0 (n + 10) (closed turn) (errs_bytes tag es ++ rest)))
    (c x.0.byte x.0.count)
    ∙ ap (ahead (s 0 ∷ [])) (walks_errors tag turn w f i c es a.1 (n + 10) turn (omega arith) rest ss
    (λ k l. ap (λ (j : ℕ). walk 0 j (closed k) rest) (omega arith) ∙ go k l))

-- a place of the script, or 0:0
some_place : (l c : ℕ) → l ≤ 16384 → c ≤ 16384 → l ≤ 16384 * c → c ≤ 16384 * l
    → is_place l c || (eqb l 0 && eqb c 0) ≡ true
some_place zero c a b d e = both_true refl (eq-eqb c 0 (omega arith))
some_place (suc l) c a b d e =
    let p : is_place (suc l) c ≡ true =
    both_true (between_true (omega arith) a) (between_true (omega arith) b) in
    rw p

somewhere : (p : Place) (ps : List Part) (bs : List ℕ) (n : Numbers) → Somewhere p
    → numbers (F.place_or_nowhere ∷ ps) (at_place (some p) ++ bs) n ≡ numbers ps bs n
somewhere p ps bs n h =
    taken F.place_or_nowhere ps (at_place (some p) ++ bs) n (omega arith)
    (rw (two_bytes p.line (omega arith), two_bytes p.column (omega arith))
    (some_place p.line p.column h.line h.column h.line_too h.column_too))

-- an error's body: its number, its place, two kinds up to k
abbrev four : ℕ → Part → ℕ → List Part
four top q k = F.byte 1 top ∷ q ∷ F.byte 0 k ∷ F.byte 0 k ∷ []

error_body : (top k : ℕ) (q : Part) (e : Err)
    → ((ps : List Part) (bs : List ℕ) (n : Numbers)
    → numbers (q ∷ ps) (at_place (some e.place) ++ bs) n ≡ numbers ps bs n)
    → 1 ≤ e.number → e.number ≤ top → e.expected ≤ k → e.got ≤ k
    → is_some (numbers (four top q k) (err_body e) no_numbers) ≡ true
unfolding numbers
error_body top k q e h a b c d =
    let m : Numbers = record { byte = e.number; count = 0 } in
    let kinds : List ℕ = e.expected ∷ e.got ∷ [] in
    ap is_some
    (taken (F.byte 1 top) (q ∷ F.byte 0 k ∷ F.byte 0 k ∷ []) (err_body e) no_numbers (omega arith) (between_true a b)
    ∙ h (F.byte 0 k ∷ F.byte 0 k ∷ []) kinds m
    ∙ taken (F.byte 0 k) (F.byte 0 k ∷ []) kinds m (omega arith) (between_true (omega arith) c)
    ∙ taken (F.byte 0 k) [] (e.got ∷ []) (record { byte = e.expected; count = 0 }) (omega arith)
    (between_true (omega arith) d))

-- whether an error is one of a list whose numbers go up to `top`: the reported one to 19, the full one to 21
abbrev fits : ℕ → Err → Bool
fits top e = is_some (numbers (four top F.place_or_nowhere 54) (err_body e) no_numbers)

fine_fits : (top : ℕ) (e : Err) → FineTo top e → fits top e ≡ true
fine_fits top e f =
    error_body top 54 F.place_or_nowhere e (λ ps bs n. somewhere e.place ps bs n f.place) f.low f.high f.expected f.got

fault_fits : (e : Err) → Fault e → is_some (numbers (four 4 F.place 0) (err_body e) no_numbers) ≡ true
fault_fits e f =
    error_body 4 0 F.place e (λ ps bs n. placed e.place ps bs n f.placed) f.low f.high (omega (arith, f.expected))
    (omega (arith, f.got))

-- What is reported was made beside the losses: since all that was made fits, so does what is reported.
miss : Err → ℕ
miss e = pick (fits 19 e) 0 1

no_miss : (es : List Err) → All Fine es → Z.tally miss es ≡ 0
unfolding miss
no_miss [] a = refl
no_miss (e ∷ es) a = rw (fine_fits 19 e a.0) (omega (arith, no_miss es a.1))

all_fit : (es : List Err) → Z.tally miss es ≤ 0 → All (λ e. fits 19 e ≡ true) es
unfolding miss
all_fit [] h = tt
all_fit (e ∷ es) h = (go (fits 19 e) (omega arith), all_fit es (omega arith))
  where
    go : (b : Bool) → pick b 0 1 ≤ 0 → b ≡ true
    go true l = refl
    go false l = absurd (omega arith)

-- what is reported fits, beside the losses
reported_fine : (ts : List Tok) → Known ts → (i : Items) (s : St) → parse_tokens ts ≡ gives i s → Z.tally miss i.errors ≤ 0
reported_fine ts d i s e =
    let k : Kept (losses ts) s.full = errors_fine ts d i s e in
    omega (
      arith,
      (subst (After Sums) e (Z.tokens_size miss ts)).1,
      ap (Z.tally miss) k.full,
      Z.tally_append miss (losses ts) k.made,
      no_miss k.made k.fine,
    )
  where
    Sums : Items → St → Type 0
    Sums i s' = (Z.weight i.recs ≤ Z.budget ts) × (Z.tally miss (losses ts) + Z.tally miss i.errors ≤ Z.tally miss s'.full)

-- ---- the file

module _ (es : List Err) (i : Items) (full : List Err) (r : Rooted i.recs (module_rec i.count))
    (h : length (recs_bytes i.recs) < 60000) where
  root : Rec
  root = module_rec i.count

  tree : List Rec
  tree = i.recs ++ (root ∷ [])

  root_length : length (recs_bytes (root ∷ [])) ≡ 5
  unfolding root recs_bytes rec_bytes nums_bytes
  root_length = refl

  tree_length : length (recs_bytes tree) ≡ length (recs_bytes i.recs) + 5
  unfolding tree
  tree_length = omega (arith, recs_length_append i.recs (root ∷ []), root_length)

  walks_tree : Walks tree (waiting []) (closed 0)
  unfolding tree root
  walks_tree =
      let ks : List ℕ = children_of r.row root in
      walks_both i.recs (root ∷ []) (waiting []) (waiting (put ks [])) (closed 0)
      (walks_leaves r.leaves (omega arith) [])
      (walks_one root r.row (waiting (put ks [])) (closed 0) r.found (numbers_body r.holds) (omega (arith, root_length))
      (rw (r.root, pop_put ks [])))

  tail : List ℕ
  tail =
      errs_bytes Tag.TokenError es
      ++ (errs_bytes Tag.ReportedError i.errors ++ (errs_bytes Tag.FullError full ++ []))

  flat : file_bytes es i full ≡ recs_bytes tree ++ tail
  unfolding file_bytes tail tree root recs_bytes rec_bytes nums_bytes
  flat = rw (recs_append, append-nil (errs_bytes Tag.FullError full)) (simp append_assoc)

  walks_file : All Fault es → All (FineTo 21) full → Z.tally miss i.errors ≤ 0
      → walk 0 0 (waiting []) (file_bytes es i full) ≡ steps (file_steps es i full)
  unfolding file_steps tail tree root find rows walk
  walks_file a b t =
      ap (walk 0 0 (waiting [])) flat
      ∙ walks_tree 0 tail
      ∙ ap (λ (m : ℕ). ahead (rec_steps 0 tree) (walk 0 m (closed 0) tail)) (omega (arith, tree_length))
      ∙ ap (ahead (rec_steps 0 tree)) (errors (length (recs_bytes i.recs) + 5))
      ∙ ap steps (simp append_assoc refl)
    where
      full_fit : All (λ e. fits 21 e ≡ true) full
      full_fit = all_map (FineTo 21) (λ e. fits 21 e ≡ true) (fine_fits 21) full b

      reported_fit : All (λ e. fits 19 e ≡ true) i.errors
      reported_fit = all_fit i.errors t

      errors : (n : ℕ)
          → walk 0 n (closed 0) tail
          ≡ steps (err_steps n Tag.TokenError es
          ++ (err_steps (n + 10 * length es) Tag.ReportedError i.errors
          ++ err_steps (n + 10 * length es + 10 * length i.errors) Tag.FullError full))
      errors n =
          let second : ℕ = n + 10 * length es in
          let third : ℕ = second + 10 * length i.errors in
          let last : List ℕ = errs_bytes Tag.FullError full ++ [] in
          walks_errors Tag.TokenError 1 _ refl refl (λ b c. refl) es (all_map Fault _ fault_fits es a) n 0 (omega arith)
          (errs_bytes Tag.ReportedError i.errors ++ last) _
          (λ j u. walks_errors Tag.ReportedError 2 _ refl refl (λ b c. refl) i.errors reported_fit second j
          (omega arith) last _
          (λ k v. walks_errors Tag.FullError 3 _ refl refl (λ b c. refl) full full_fit third k (omega arith) [] []
          (λ m _. refl)
          ∙ ap steps (append-nil (err_steps third Tag.FullError full))))

-- the steps of what an accepted script was read to
pub loads : (s o : List ℕ) (a : Accepted s o) → (whole s o).number ≡ 0
    → load (file_of s o) ≡ steps (file_steps a.errors a.items a.last.full)
unfolding load
loads s o a z =
    let k : Known a.toks = (a.made.good, a.made.tokens) in
    let l : _ = module_leaves a.toks k a.items a.last a.parsed in
    let b : Z.tally miss a.items.errors ≤ 0 = reported_fine a.toks k a.items a.last a.parsed in
    let n : length (file_bytes a.errors a.items a.last.full) ≤ 65536 = omega (arith, room s o z, a.bytes) in
    ap load (file_is s o a)
    ∙ rw (load, le-ltb 65536 (length (file_bytes a.errors a.items a.last.full)) n)
    (walks_file a.errors a.items a.last.full l.0 (omega (arith, recs_length a.items.recs, (light a).0)) a.made.faults
    (full_fine a.toks k a.items a.last a.parsed) b)

-- Every file that the whole operation writes of an accepted script is accepted, with its records and errors as steps.
pub whole_loads : (s o : List ℕ) (z : (whole s o).number ≡ 0)
    → load (file_of s o) ≡ steps (file_steps (accepted s o z).errors (accepted s o z).items (accepted s o z).last.full)
whole_loads s o z = loads s o (accepted s o z) z

-- So the operation answers 0, on a slice of at least 87,380 words.
pub whole_accepted : (s o r : List ℕ) → (whole s o).number ≡ 0 → 87380 ≤ length r
    → (load_into (file_of s o) r).number ≡ 0
unfolding load_into
whole_accepted s o r z h = rw (load_into, le-ltb (length r) 87380 h, whole_loads s o z)
