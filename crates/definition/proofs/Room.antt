-- An accepted reading has read every token, and its file fits into 65,536 bytes. Assumes nothing.
use mathlib.Core.Path.{◌≡◌, refl, sym, ap, ◌∙◌, subst}
use mathlib.Core.Bool.{true, false}
use mathlib.Core.Option.{Option, none, some}
use mathlib.Core.List.{List, [], ◌∷◌, ◌++◌, append-nil, append_assoc}
use Prim.Native.Nat.{ℕ, zero, suc, ◌+◌, ◌*◌, ◌≤◌}
use native.Mathlib.Omega.{arith}
use lib.Dec.{ltb, ltb→lt}
use lib.ListN.{length, length-append}
use Rattle.definition.specs.Kind as K
use Rattle.definition.specs.Source.{Place}
use Rattle.definition.specs.Node.{Num, byte, two, eight, Rec, at_place, nums_bytes, rec_bytes, recs_bytes}
use Rattle.definition.specs.Fallible.{Err, errs_bytes, Ans}
use Rattle.definition.specs.Token.{Tok, next_token, ◌is◌}
use Rattle.definition.specs.Act.{Node, Items, Goal, Loop, Module, Body, ListOf, Operators, Casts, Suffixes, Modifiers, Left, Act, done, peek, consume, make, when◌then◌else◌, call, loop, panic, St, begin, Res, gives, advance, push, run}
use Rattle.definition.specs.Parser as P
use Rattle.definition.specs.Parser.{rule, turn, loops, parse, parse_module}
use Rattle.definition.specs.Losses.{losses, parse_tokens}
use Rattle.definition.specs.Operations.{whole, file_bytes}
use Rattle.definition.proofs.Later.{Later, toks, After, weaken}
use Rattle.definition.proofs.Ind.{join, limit, wp, wp_always, wp_bind, module_ind}
use Rattle.definition.proofs.Losses.{tokens_after}
use Rattle.definition.proofs.Tests.{is_kind}
use Rattle.definition.proofs.Size as Z
use Rattle.definition.proofs.Tokens.{Kinds, texts}
use Rattle.definition.proofs.Accepted.{Accepted, accepted}

-- ---- every token is read

abbrev G : Goal → St → Ans Node → St → Type 0
G g s a s' = Unit {0}

abbrev L : (l : Loop) → St → Left l → St → Type 0
L (Module i) s a s' = next_token s'.tokens is K.End ≡ true
L (Body i) s a s' = Unit {0}
L (ListOf k i) s a s' = Unit {0}
L (Operators l e) s a s' = Unit {0}
L (Casts e) s a s' = Unit {0}
L (Suffixes e) s a s' = Unit {0}
L (Modifiers w) s a s' = Unit {0}

abbrev R : St → Type 0
R s = Unit {0}

abbrev M : Err → St → Type 0
M e s = Unit {0}

turns : (l : Loop) (s : St) → wp G L R M (turn l) (L l s) s
unfolding P.module_turn
turns (Module i) s = (
  λ e. e,
  λ _. wp_bind G L R M P.parse_top_level_item _ _ s
      (wp_always G L R M _ P.parse_top_level_item s (λ a s' b s'' l q. q)),
)
turns (Body i) s = wp_always G L R M (L (Body i) s) (turn (Body i)) s (λ a s'. tt)
turns (ListOf k i) s = wp_always G L R M (L (ListOf k i) s) (turn (ListOf k i)) s (λ a s'. tt)
turns (Operators l e) s = wp_always G L R M (L (Operators l e) s) (turn (Operators l e)) s (λ a s'. tt)
turns (Casts e) s = wp_always G L R M (L (Casts e) s) (turn (Casts e)) s (λ a s'. tt)
turns (Suffixes e) s = wp_always G L R M (L (Suffixes e) s) (turn (Suffixes e)) s (λ a s'. tt)
turns (Modifiers w) s = wp_always G L R M (L (Modifiers w) s) (turn (Modifiers w)) s (λ a s'. tt)

kinds_drop : (xs ys : List Tok) → Kinds (xs ++ ys) → Kinds ys
kinds_drop [] ys h = h
kinds_drop (x ∷ xs) ys h = kinds_drop xs ys h.1

at_end : (ts : List Tok) → Kinds ts → next_token ts is K.End ≡ true → ts ≡ []
at_end [] k e = refl
at_end (t ∷ ts) k e = absurd (omega (arith, is_kind t K.End e, k.0))

-- a reading that is not refused has read all tokens
pub all_read : (ts : List Tok) → Kinds ts → (i : Items) (s : St) → parse_tokens ts ≡ gives i s → toks s.read ≡ ts
all_read ts k i s e = go (subst (After Ended) e (tokens_after Ended ts (λ _. ended)))
  where
    start : St
    start = begin (losses ts) ts

    Ended : Items → St → Type 0
    Ended i s' = Later start s' × (next_token s'.tokens is K.End ≡ true)

    ended : After Ended (parse_module (losses ts) ts)
    ended =
        module_ind G L R M (λ s. tt) (λ e s. tt) (λ g s. wp_always G L R M (G g s) (rule g) s (λ a s'. tt)) turns
        (losses ts) ts

    go : Ended i s → toks s.read ≡ ts
    go h =
        let l : Later start s = h.0 in
        let n : s.tokens ≡ [] = at_end s.tokens (kinds_drop (toks l.eaten) s.tokens (subst Kinds l.tokens k)) h.1 in
        ap toks l.read ∙ sym (l.tokens ∙ ap (λ (x : List Tok). toks l.eaten ++ x) n ∙ append-nil (toks l.eaten))

-- ---- at most 255 errors

abbrev Few : {A : Type 0} → A → St → Type 0
Few a s = length s.full ≤ 255

module _ (c : Goal → St → Res (Ans Node)) (o : (l : Loop) → St → Res (Left l))
    (c_few : (g : Goal) (s : St) → length s.full ≤ 255 → After Few (c g s))
    (o_few : (l : Loop) (s : St) → length s.full ≤ 255 → After Few (o l s)) where
  run_few : {A : Type 0} (m : Act A) (s : St) → length s.full ≤ 255 → After Few (run c o m s)
  unfolding run
  run_few (done a) s h = h
  run_few (peek k) s h = run_few (k (next_token s.tokens)) s h
  run_few (consume r k) s h = run_few (k (next_token s.tokens)) (advance r s) h
  run_few (make e m) s h =
      limit Few (ltb (length s.full) 255) (run c o m (push e s)) (λ t. run_few m (push e s)
      (omega (arith, ltb→lt (length s.full) 255 t, length-append s.full (e ∷ []))))
  run_few (when◌then◌else◌ true m n) s h = run_few m s h
  run_few (when◌then◌else◌ false m n) s h = run_few n s h
  run_few (call g k) s h = join Few Few (c g s) (λ a s'. run c o (k a) s') (c_few g s h) (λ a s' p. run_few (k a) s' p)
  run_few (loop g k) s h = join Few Few (o g s) (λ a s'. run c o (k a) s') (o_few g s h) (λ a s' p. run_few (k a) s' p)
  run_few panic s h = tt

loops_few : (c : Goal → St → Res (Ans Node)) → ((g : Goal) (s : St) → length s.full ≤ 255 → After Few (c g s))
    → (n : ℕ) (l : Loop) (s : St) → length s.full ≤ 255 → After Few (loops c n l s)
unfolding loops
loops_few c f zero l s h = tt
loops_few c f (suc n) l s h = run_few c (λ m t. loops c n m t) f (λ m t k. loops_few c f n m t k) (turn l) s h

parse_few : (n : ℕ) (g : Goal) (s : St) → length s.full ≤ 255 → After Few (parse n g s)
unfolding parse
parse_few zero g s h = tt
parse_few (suc n) g s h =
    run_few (λ h t. parse n h t) (λ l t. loops (λ h u. parse n h u) (suc (suc (length t.tokens))) l t)
    (λ g t k. parse_few n g t k)
    (λ l t k. loops_few (λ h u. parse n h u) (λ h u j. parse_few n h u j) (suc (suc (length t.tokens))) l t k)
    (rule g) s h

module_few : (full : List Err) (ts : List Tok) → length full ≤ 255 → After Few (parse_module full ts)
unfolding parse_module
module_few full ts h =
    loops_few (λ g s. parse 96 g s) (λ g s h. parse_few 96 g s h) (suc (suc (length ts)))
    (Module (P.no_items [])) (begin full ts) h

-- ---- lengths

pub nums_length : (ns : List Num) → length (nums_bytes ns) ≡ Z.nums_size ns
unfolding nums_bytes
nums_length [] = refl
nums_length (byte n ∷ ns) = omega (arith, nums_length ns)
nums_length (two n ∷ ns) = omega (arith, nums_length ns)
nums_length (eight n ∷ ns) = omega (arith, nums_length ns)

pub place_length : (p : Option Place) → length (at_place p) ≡ Z.place_size p
place_length none = refl
place_length (some p) = omega arith

pub recs_length : (rs : List Rec) → length (recs_bytes rs) ≤ Z.weight rs
unfolding recs_bytes rec_bytes
recs_length [] = omega arith
recs_length (r ∷ rs) = simp length-append (omega (arith, place_length r.place, nums_length r.numbers, recs_length rs))

pub recs_append : (xs ys : List Rec) → recs_bytes (xs ++ ys) ≡ recs_bytes xs ++ recs_bytes ys
unfolding recs_bytes
recs_append [] ys = refl
recs_append (x ∷ xs) ys =
    ap (λ (l : List ℕ). rec_bytes x ++ l) (recs_append xs ys)
    ∙ sym (append_assoc (rec_bytes x) (recs_bytes xs) (recs_bytes ys))

pub errs_length : (tag : ℕ) (es : List Err) → length (errs_bytes tag es) ≡ 10 * length es
unfolding errs_bytes
errs_length tag [] = refl
errs_length tag (e ∷ es) = omega (arith, errs_length tag es)

tally_one : (es : List Err) → Z.tally (λ _. 1) es ≡ length es
tally_one [] = refl
tally_one (e ∷ es) = omega (arith, tally_one es)

budget_bound : (ts : List Tok) → Z.budget ts ≤ 16 * length ts + texts ts
unfolding Z.budget
budget_bound [] = omega arith
budget_bound (t ∷ ts) = omega (arith, budget_bound ts)

-- the records weigh at most 49,152 bytes, and at most as many errors are reported as made, which are at most 255
abbrev pub Light : Items → St → Type 0
Light i s = (Z.weight i.recs ≤ 49152) × (length i.errors ≤ length s.full) × (length s.full ≤ 255)

-- readings of tokens within the limits are light
pub light_reading : (ts : List Tok) → length ts ≤ 2048 → texts ts ≤ 16384 → (i : Items) (s : St) → parse_tokens ts ≡ gives i s
    → Light i s
light_reading ts n x i s e =
    let w : Paid i s = subst (After Paid) e (weaken (parse_tokens ts) (λ i s' p. omega arith) (Z.tokens_size (λ _. 1) ts)) in (
      omega (arith, w.0, budget_bound ts),
      omega (arith, w.1, tally_one i.errors, tally_one s.full),
      subst (After Few) e (tokens_after Few ts (module_few (losses ts) ts)),
    )
  where
    Paid : Items → St → Type 0
    Paid i s = (Z.weight i.recs ≤ Z.budget ts) × (Z.tally (λ _. 1) i.errors ≤ Z.tally (λ _. 1) s.full)

-- the file of a light reading fits into 65,536 bytes
pub file_room : (es : List Err) (i : Items) (s : St) → length es ≤ 255 → Light i s
    → length (file_bytes es i s.full) ≤ 65536
unfolding file_bytes
file_room es i s h l =
    let e = errs_length 0x62 es in
    let r = errs_length 0x60 i.errors in
    let f = errs_length 0x61 s.full in simp length-append (omega (arith, recs_length i.recs))

pub light : {s o : List ℕ} (a : Accepted s o) → Light a.items a.last
light a = light_reading a.toks a.made.tokens a.made.text a.items a.last a.parsed

-- the file of an accepted script fits into 65,536 bytes
pub room : (s o : List ℕ) → (whole s o).number ≡ 0 → (whole s o).bytes ≤ 65536
room s o e =
    let a : Accepted s o = accepted s o e in
    rw a.bytes (file_room a.errors a.items a.last a.made.errors (light a))
