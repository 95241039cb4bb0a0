-- `fallible.rs` (docs/FORMAT.md, Answers): errors, and answers that carry them. Assumes nothing.
use Rattle.std.specs.Prelude.{List, [], ◌∷◌, ◌++◌, ℕ}
use Rattle.definition.specs.Source.{Place}
use Rattle.definition.specs.Node.{field, place_bytes}

-- an error of the tokenizer or the parser; expected and got are kinds of tokens, or 0
pub record Err : Type 0 where
  pub number : ℕ
  pub place : Place
  pub expected : ℕ
  pub got : ℕ

-- `Fallible<T>`: a value with the errors reported for it
pub record Fallible (A : Type 0) : Type 0 where
  pub item : A
  pub errors : List Err

-- `Fallible<MaybeFatal<T>>`
pub data Ans (A : Type 0) : Type 0 where
  ok : Fallible A → Ans A
  fatal : List Err → Ans A

abbrev pub err_body : Err → List ℕ
err_body e = e.number ∷ place_bytes e.place ++ (e.expected ∷ e.got ∷ [])

abbrev pub err_bytes : ℕ → Err → List ℕ
err_bytes tag e = field tag (err_body e)

-- the fields of a list of errors: tag 62 for token errors, 60 for the reported list, 61 for the full list
unfoldable pub errs_bytes : ℕ → List Err → List ℕ
errs_bytes tag [] = []
errs_bytes tag (e ∷ es) = err_bytes tag e ++ errs_bytes tag es
