-- The order in which the errors of a function definition are reported, and steps that its laws share. Assumes nothing.
use mathlib.Core.Path.{◌≡◌, sym, ap, ◌∙◌}
use mathlib.Core.List.{List, [], ◌++◌, append_assoc}
use Prim.Native.Nat.{ℕ, ◌≤◌}
use native.Mathlib.Omega.{arith}
use native.Mathlib.Decide.{dec_le}
use lib.ListN.{length, take}
use lib.Seq.{take_at}
use Rattle.definition.specs.Fallible.{Err, Ans}
use Rattle.definition.specs.Act.{Res}
use Rattle.fallible.specs.Answer.{Status, Done, Fatal, Refused, Answer}
use Rattle.fallible.specs.Lists.{errs}
use Rattle.fallible.specs.Answers.{AbandonedOf, Abandoned}
use Rattle.fallible.specs.Orders.{Exchanged}
use Rattle.fallible.proofs.Exchanges.{exchange_errs}
use Rattle.steps.specs.Tokens.{budget, present}
use Rattle.steps.proofs.Records.{budget_nil, present_before}
use Rattle.steps.specs.Shows.{View, Shows}
use Rattle.steps.proofs.Answers.{errs_take}
use Rattle.fallible.specs.declared.error.Error.{Error}

-- a good answer after `?` is the answer before it
pub still : {r r' : List Error} {i j k : ℕ} {b c : Answer} → Abandoned r b i j k r' c → c.status ≡ Done → c ≡ b
still {r} {r'} {i} {j} {k} {b} {c} v z = one b.status v.is
  where
    one : (h : Status) → AbandonedOf h r b i j k r' c → c ≡ b
    one Done m = m.0
    one Fatal m = let y : Fatal ≡ Done = sym m.status ∙ z in cc
    one (Refused n) m = m.0

-- what was there before, said in another way
pub shown_as : {A : Type 0} {K : View A} {T T' : List ℕ} {E E' : List Err} {w x : List ℕ} {n : ℕ} {o : List ℕ} {r f : List Error}
    {a : Answer} {q : Res (Ans A)} → T ≡ T' → E ≡ E' → Shows K T E [] [] w x n o r f a q → Shows K T' E' [] [] w x n o r f a q
shown_as e h v = rw (← e, ← h) v

-- the errors of the later part come before those of the earlier
pub turned : {r r' : List Error} {j k m : ℕ} (E es fs : List Err) → Exchanged r j k m r' → j ≤ k → k ≤ m → length E ≡ j
    → length (E ++ es) ≡ k → errs r m ≡ E ++ (es ++ fs) → errs r' m ≡ E ++ (fs ++ es)
turned {r} {r'} {j} {k} {m} E es fs x jk km lj lk e =
    exchange_errs x jk km E es fs
    (errs_take r j m (omega arith) ∙ ap (λ (l : List Err). take j l) e ∙ take_at E (es ++ fs) j lj)
    (errs_take r k m km ∙ ap (λ (l : List Err). take k l) (e ∙ sym (append_assoc E es fs)) ∙ take_at (E ++ es) fs k lk)
    (e ∙ sym (append_assoc E es fs))

-- if the budget from i on is at least 16, a token is there
pub real : (w : List ℕ) (n i : ℕ) → 16 ≤ budget w n i → present n i ≡ 1
real w n i h =
    elim (dec_le n i)
    [ yes g ↦ absurd (omega (arith, budget_nil w n i g, h)) | no g ↦ present_before n i (omega (arith, g)) ]
