-- The laws of `sentence`: what is found in a script, and the sentence at a position. Assumes nothing.
use mathlib.Core.Path.{◌≡◌, refl, sym, ap, ◌∙◌}
use mathlib.Core.Option as maybe
use mathlib.Core.List.{List, [], ◌∷◌, map}
use Prim.Native.Nat.{ℕ, zero, suc, ◌<◌, ◌≤◌}
use native.Mathlib.Omega.{arith}
use borrow.Author.Tests.{le-ltb}
use lib.ListN.{length, get_or, take, get_elem?}
use Rattle.std.specs.Simd.{first_chunks}
use Rattle.std.specs.Prelude.{Option, Some, Result, Ok, Err}
use Rattle.std.specs.Result.{result_ok}
use Rattle.definition.specs.Source.{Ch}
use Rattle.definition.specs.Fallible as F
use Rattle.definition.specs.Token.{Tok}
use Rattle.definition.specs.Tokenizer as Z
use Rattle.definition.specs.Tokenizer.{tokenize}
use Rattle.definition.specs.Act as A
use Rattle.definition.specs.Act.{Items, Res}
use Rattle.definition.specs.Losses.{parse_tokens}
use Rattle.definition.specs.Operations as O
use Rattle.definition.specs.Operations.{kept}
use Rattle.definition.specs.Sentence as S
use Rattle.definition.specs.Sentence.{Found, sentence_at, said}
use Rattle.definition.proofs.Lengths.{sentence_at_short}
use Rattle.definition.specs.Numbers as N
use Rattle.definition.specs.declared.refusal.Refusal.{Refusal}
use Rattle.source.specs.Place as P
use Rattle.source.specs.Place.{Stands, origin}
use Rattle.token_records.specs.declared.State.{State}
use Rattle.fallible.specs.declared.error.Error.{Error}
use Rattle.fallible.specs.declared.parser.State as W
use Rattle.fallible.specs.Lists.{err_of, errs}
use Rattle.error_fields.proofs.Records.{records_are}
use Rattle.steps.specs.Tokens.{rest}
use Rattle.tokenizer.specs.Run.{Done, NotDone}
use Rattle.tokenizer.proofs.Answer.{the_characters, within_limit}
use Rattle.parser.specs.Answer.{answer}
use Rattle.parser.specs.Losses.{Parsed}
use Rattle.sentences.specs.Said.{Short}
use Rattle.reader.specs.declared.found.ErrorList.{ErrorList}
use Rattle.reader.specs.Found.{entry_of, found_of}
use Rattle.reader.specs.declared.found.NoErrorList.{NoErrorList}
use Rattle.reader.specs.Lists.{list_number, ErrorListOf}
use Rattle.reader.specs.Sentences.{listed, token_said, said_in, sentence_of}
use Rattle.reader.proofs.Cases.{records}

-- ---- what is found

-- the result of parsing
abbrev result : List Ch → List Tok → List F.Err → Res Items → S.Examined
result cs ts es (A.gives i st) =
    S.found (record { chars = cs; toks = ts; token_errors = es; reported = i.errors; full = st.full })
result cs ts es (A.refused n) = S.refused n

parsed_by : (cs : List Ch) (ts : List Tok) (es : List F.Err) (q : Res Items) → (length ts ≡ 0 → ⊥) → parse_tokens ts ≡ q
    → S.parsed cs (Z.tokens ts es) ≡ result cs ts es q
unfolding S.parsed
parsed_by cs [] es q n e = absurd (n refl)
parsed_by cs (t ∷ ts) es q n e = one (parse_tokens (t ∷ ts)) ∙ ap (result cs (t ∷ ts) es) e
  where
    one : (p : Res Items) → elim p as (λ _. S.Examined) [
      | A.gives i st ↦ S.found
          (record { chars = cs; toks = t ∷ ts; token_errors = es; reported = i.errors; full = st.full })
      | A.refused n ↦ S.refused n
    ]
        ≡ result cs (t ∷ ts) es p
    one (A.gives i st) = refl
    one (A.refused n) = refl

same_found : (cs : List Ch) (ts : List Tok) {es es' rs rs' fs fs' : List F.Err} → es ≡ es' → rs ≡ rs' → fs ≡ fs'
    → S.found (record { chars = cs; toks = ts; token_errors = es; reported = rs; full = fs })
    ≡ S.found (record { chars = cs; toks = ts; token_errors = es'; reported = rs'; full = fs' })
same_found cs ts p q r = rw (p, q, r)

-- the definition after its tests
module _ (s : List ℕ) (z : Stands s origin) (h : length s ≤ 16384) where
  examine_by : S.examine s ≡ S.parsed (P.rest s origin) (tokenize (P.rest s origin))
  unfolding S.examine
  examine_by = rw (S.examine, le-ltb 16384 (length s) h, the_characters s z)

  -- refused by the tokenizer
  pub examine_stopped : {x : Refusal} → NotDone 2048 (P.rest s origin) x → S.examine s ≡ S.refused (N.refusal_number x)
  unfolding S.parsed
  examine_stopped d = examine_by ∙ ap (S.parsed (P.rest s origin)) (within_limit (P.rest s origin) ∙ d.is)

  module _ {T E X : List ℕ} {f : State} (d : Done 2048 (P.rest s origin) T E X f) where
    tokenized : S.examine s ≡ S.parsed (P.rest s origin) (Z.tokens (rest T X f.tokens 0) d.es)
    tokenized =
        examine_by ∙ ap (S.parsed (P.rest s origin)) (within_limit (P.rest s origin) ∙ d.is
        ∙ ap (λ (ts : List Tok). Z.tokens ts d.es) (sym (records s z h d).tokens))

    pub examine_none : f.tokens ≡ 0 → S.examine s ≡ S.refused 9
    unfolding S.parsed
    examine_none k = go (rest T X f.tokens 0) (ap length (records s z h d).tokens ∙ sym d.holds.tokens
        ∙ k) tokenized
      where
        go : (ts : List Tok) → length ts ≡ 0 → S.examine s ≡ S.parsed (P.rest s origin) (Z.tokens ts d.es)
            → S.examine s ≡ S.refused 9
        go [] m e = e
        go (t ∷ ts) m e = absurd (omega arith)

    module _ (k : f.tokens ≡ 0 → ⊥) where
      -- by the reading of the tokens
      reading : (q : Res Items) → parse_tokens (rest T X f.tokens 0) ≡ q
          → S.examine s ≡ result (P.rest s origin) (rest T X f.tokens 0) d.es q
      reading q e =
          tokenized ∙ parsed_by (P.rest s origin) (rest T X f.tokens 0) d.es q
          (λ m. k (d.holds.tokens ∙ sym (ap length (records s z h d).tokens) ∙ m)) e

      pub examine_refused : (m : Refusal) → parse_tokens (rest T X f.tokens 0) ≡ A.refused (N.refusal_number m)
          → S.examine s ≡ S.refused (N.refusal_number m)
      examine_refused m x = reading (A.refused (N.refusal_number m)) x

      pub examine_found : {o : List ℕ} {r l : List Error} {u : W.State} {k : ℕ} → Parsed T X f.tokens o r l u k
          → S.examine s ≡ S.found (found_of s (rest T X f.tokens 0) (first_chunks 4 f.errors E) (take u.reported r) (take u.full l))
      unfolding errs
      examine_found g =
          reading (A.gives g.tree g.state) g.is
          ∙ same_found (P.rest s origin) (rest T X f.tokens 0) (sym (records_are entry_of (λ w v. refl) E f.errors 0 d.es (records s z h d).errors))
          (sym g.reported) g.full

-- ---- the entry at a position

module _ {A B : Type 0} (f : A → B) where
  entry_past : (xs : List A) (i : ℕ) → length xs ≤ i → get_elem? (map f xs) i ≡ maybe.none
  entry_past [] i h = refl
  entry_past (x ∷ xs) zero h = absurd (omega arith)
  entry_past (x ∷ xs) (suc i) h = entry_past xs i (omega arith)

  entry_there : (xs : List A) (i : ℕ) (x : A) → i < length xs → get_elem? (map f xs) i ≡ maybe.some (f (get_or xs i x))
  entry_there [] i x h = absurd (omega arith)
  entry_there (y ∷ xs) zero x h = refl
  entry_there (y ∷ xs) (suc i) x h = entry_there xs i x (omega arith)

-- of a list of the parser's errors
module _ (ts : List Tok) (es : List Error) (i : ℕ) where
  pub listed_past : length es ≤ i → [] ≡ listed ts (map err_of es) i
  listed_past h = rw (listed, entry_past err_of es i h) refl

  pub listed_at : (e : Error) → i < length es → e ≡ get_or es i e → S.parser_sentence (S.parser_meaning ts (err_of e)) ≡ listed ts (map err_of es) i
  listed_at e h k = rw (listed, entry_there err_of es i e h, sym k) refl

-- of the token errors
module _ (cs : List Ch) (rs : List (List ℕ)) (i : ℕ) where
  pub token_past : length rs ≤ i → [] ≡ token_said cs (map entry_of rs) i
  token_past h = rw (token_said, entry_past entry_of rs i h) refl

  pub token_at : (w : List ℕ) → i < length rs → w ≡ get_or rs i w
      → S.token_sentence (S.token_meaning cs (entry_of w)) ≡ token_said cs (map entry_of rs) i
  token_at w h k = rw (token_said, entry_there entry_of rs i w h, sym k) refl

-- ---- the list

pub in_token : (f : Found) {l : Option ErrorList} {t : ErrorList} (i : ℕ) → l ≡ Some t → t ≡ ErrorList.Token → token_said f.chars f.token_errors i ≡ said_in f l i
in_token f i e k = rw (e, k) refl

-- the sentence is the definition's for the list's tag
said_is : (f : Found) (n : ℕ) (r : Result ErrorList NoErrorList) (i : ℕ) → ErrorListOf n r
    → said_in f (result_ok r) i ≡ sentence_at f n i
unfolding sentence_at
said_is f n (Err k) i e = rw (sentence_at, e.1.0, e.1.1.0, e.1.1.1) refl
said_is f n (Ok ErrorList.Token) i e = rw (sym e) refl
said_is f n (Ok ErrorList.Reported) i e = rw (sym e) refl
said_is f n (Ok ErrorList.Full) i e = rw (sym e) refl

-- it is short enough to be counted
pub found_short : (s : List ℕ) (f : Found) → S.examine s ≡ S.found f → (l : ErrorList) (i : ℕ) → Short (said_in f (Some l) i) 0
found_short s f e l i =
    record { below = omega (arith, sentence_at_short s f e (list_number l) i, ap length (said_is f (list_number l) (Ok l) i refl)) }

-- ---- the operation

-- the operation, for a list and for its tag
pub sentence_is : (s : List ℕ) (n : ℕ) (r : Result ErrorList NoErrorList) (i : ℕ) (o : List ℕ) → ErrorListOf n r
    → sentence_of (S.examine s) (result_ok r) i o ≡ S.sentence s n i o
unfolding S.sentence
sentence_is s n r i o e = one (S.examine s)
  where
    one : (x : S.Examined) → sentence_of x (result_ok r) i o ≡ elim x as (λ _. O.Written) [ S.found f ↦ said o (sentence_at f n i) | S.refused k ↦ kept k o ]
    one (S.found f) = ap (said o) (said_is f n r i e)
    one (S.refused k) = refl

pub sentence_stopped : (s : List ℕ) (m : Refusal) → S.examine s ≡ S.refused (N.refusal_number m) → (n i : ℕ) (o : List ℕ)
    → answer (Err m) o ≡ S.sentence s n i o
unfolding S.sentence
sentence_stopped s m e n i o = rw (S.sentence, e) refl
