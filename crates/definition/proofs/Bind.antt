-- Running an act and its continuation. Assumes nothing.
use mathlib.Core.Path.{◌≡◌, refl}
use mathlib.Core.Bool.{Bool, true, false}
use lib.Dec.{ltb}
use lib.ListN.{length}
use Rattle.definition.specs.Fallible.{Ans}
use Rattle.definition.specs.Token.{next_token}
use Rattle.definition.specs.Act.{Node, Goal, Loop, Left, Act, done, peek, consume, make, when◌then◌else◌, call, loop, panic, St, Res, gives, refused, after, advance, push, run, ◌>>=◌}

cut : {A B : Type 0} (b : Bool) (r : Res B) (q : Res A) (f : A → St → Res B) → r ≡ after q f
    → ◌≡◌ {A = Res B} (elim b as (λ _. Res B) [ true ↦ r | false ↦ refused 12 ])
    (after (elim b as (λ _. Res A) [ true ↦ q | false ↦ refused 12 ]) f)
cut true r q f h = h
cut false r q f h = refl

assoc : {A B C : Type 0} (r : Res A) (f : A → St → Res B) (g : B → St → Res C) (h : A → St → Res C)
    → ((a : A) (t : St) → h a t ≡ after (f a t) g) → after r h ≡ after (after r f) g
assoc (gives a t) f g h e = e a t
assoc (refused n) f g h e = refl

-- running `m >>= f` is running m, then f on its answer
pub run_bind : {A B : Type 0} (c : Goal → St → Res (Ans Node)) (o : (l : Loop) → St → Res (Left l)) (m : Act A)
    (f : A → Act B) (s : St)
    → run c o (m >>= f) s ≡ after (run c o m s) (λ a t. run c o (f a) t)
unfolding run ◌>>=◌
run_bind c o (done a) f s = refl
run_bind c o (peek k) f s = run_bind c o (k (next_token s.tokens)) f s
run_bind c o (consume r k) f s = run_bind c o (k (next_token s.tokens)) f (advance r s)
run_bind {A} {B} c o (make e m) f s =
    cut (ltb (length s.full) 255) (run c o (m >>= f) (push e s)) (run c o m (push e s))
    (λ a t. run c o (f a) t) (run_bind c o m f (push e s))
run_bind c o (when◌then◌else◌ true m n) f s = run_bind c o m f s
run_bind c o (when◌then◌else◌ false m n) f s = run_bind c o n f s
run_bind c o (call g k) f s =
    assoc (c g s) (λ a t. run c o (k a) t) (λ a t. run c o (f a) t) (λ a t. run c o (k a >>= f) t)
    (λ a t. run_bind c o (k a) f t)
run_bind c o (loop l k) f s =
    assoc (o l s) (λ a t. run c o (k a) t) (λ a t. run c o (f a) t) (λ a t. run c o (k a >>= f) t)
    (λ a t. run_bind c o (k a) f t)
run_bind c o panic f s = refl
