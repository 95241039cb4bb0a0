-- The starred scripts of docs/FORMAT.md: the answers of the operation, for any file slice. Assumes nothing.
use mathlib.Core.Path.{◌≡◌, refl, sym, ap, ◌∙◌}
use mathlib.Core.Bool.{Bool, true, false}
use mathlib.Core.Option.{Option, none, some}
use mathlib.Core.List.{List, [], ◌∷◌, map}
use Prim.Native.Nat.{ℕ, ◌-◌, ◌≤◌}
use native.Mathlib.Omega.{arith}
use lib.Dec.{ltb}
use lib.ListN.{length, replicate, length-replicate}
use lib.Seq.{take_at}
use borrow.Author.Tests.{le-ltb}
use Rattle.definition.specs.Source.{Ch, characters}
use Rattle.definition.specs.Tokenizer.{tokenize}
use Rattle.definition.specs.Operations as O
use Rattle.definition.specs.Operations.{written, read_tokenised, whole}
use Rattle.definition.specs.Table as T
use Rattle.definition.specs.Table.{Row, answered, table, holds}
use Rattle.std.specs.Prelude.{Result}
use Rattle.definition.specs.declared.refusal.Refusal.{Refusal}
use Rattle.parser.specs.Answer.{answer}
use Rattle.reader.proofs.Cases.{whole_by, whole_is}

-- ---- the file does not depend on the slice

written_anywhere : (o p : List ℕ) (r : O.Outcome) → T.file (written o r) ≡ T.file (written p r)
written_anywhere o p (O.file f) =
    ap (λ (bs : List ℕ). record { number = 0; bytes = bs })
    (take_at f (replicate (length o - length f) 0) (length f) refl
    ∙ sym (take_at f (replicate (length p - length f) 0) (length f) refl))
written_anywhere o p (O.refused n) = refl

by_anywhere : (o p : List ℕ) (b : Bool) (x : Option (List Ch)) → T.file (whole_by o b x false) ≡ T.file (whole_by p b x false)
unfolding whole_by
by_anywhere o p true x = refl
by_anywhere o p false none = refl
by_anywhere o p false (some cs) = written_anywhere o p (read_tokenised (tokenize cs))

anywhere : (s o p : List ℕ) → 65536 ≤ length o → 65536 ≤ length p → T.file (whole s o) ≡ T.file (whole s p)
anywhere s o p h g =
    ap T.file (whole_is s o ∙ ap (λ (c : Bool). whole_by o (ltb 16384 (length s)) (characters s) c) (le-ltb (length o) 65536 h))
    ∙ by_anywhere o p (ltb 16384 (length s)) (characters s)
    ∙ sym (ap T.file (whole_is s p ∙ ap (λ (c : Bool). whole_by p (ltb 16384 (length s)) (characters s) c) (le-ltb (length p) 65536 g)))

-- ---- the rows

-- each answer of `read_script` has the number and the bytes of the row
abbrev pub Holds : Row → Type 0
Holds x = (o o' : List ℕ) (r : Result ℕ Refusal) → 65536 ≤ length o → answer r o' ≡ whole x.script o → T.file (answer r o') ≡ x.file

-- all rows hold
pub data Each : List Row → Type 0 where
  none_left : Each []
  one_more : {x : Row} {xs : List Row} → Holds x → Each xs → Each (x ∷ xs)

row_holds : (x : Row) → answered x ≡ x → Holds x
unfolding answered
row_holds x e o o' r h a =
    ap T.file a ∙ anywhere x.script o (replicate 65536 1) h (omega (arith, length-replicate {A = ℕ} 65536 1))
    ∙ ap (λ (y : Row). y.file) e

next_token_or : Row → List Row → Row
next_token_or x [] = x
next_token_or x (y ∷ ys) = y

tail_of : List Row → List Row
tail_of [] = []
tail_of (y ∷ ys) = ys

each : (xs : List Row) → map answered xs ≡ xs → Each xs
unfolding next_token_or tail_of
each [] e = none_left
each (x ∷ xs) e = one_more (row_holds x (ap (next_token_or x) e)) (each xs (ap tail_of e))

pub starred : Each table
starred = each table holds
