-- The sentences of a script's errors: the token or the character that one names stands at the error's place, and two
-- errors of one list that differ in what they name have different sentences. And the operation `sentence` beside the
-- whole operation. Assumes nothing.
use mathlib.Core.Path.{◌≡◌, refl, sym, ap, ◌∙◌, subst}
use mathlib.Core.Bool.{Bool, true, false, ◌&&◌}
use mathlib.Core.Option.{Option, none, some}
use mathlib.Core.List.{List, [], ◌∷◌}
use Prim.Native.Nat.{ℕ, zero, suc, ◌+◌, ◌≤◌, ◌<◌}
use native.Mathlib.Omega.{arith}
use borrow.Author.Tests.{ltb-false, le-ltb, eqb-true, eqb-false, ne_eqb, eq-eqb}
use lib.Dec.{eqb, ltb, T}
use lib.ListN.{length, take, get_elem?}
use lib.Seq.{take_at}
use Rattle.definition.specs.Ascii.{ascii}
use Rattle.definition.specs.Choice.{pick}
use Rattle.definition.specs.Classes.{between}
use Rattle.definition.specs.Tag as Tag
use Rattle.definition.specs.Kind as K
use Rattle.definition.specs.ParseError as E
use Rattle.definition.specs.TokenError as TokenError
use Rattle.definition.specs.Source.{Place, same_place, Ch, characters}
use Rattle.definition.specs.Fallible.{Err}
use Rattle.definition.specs.Token.{Tok, end_token}
use Rattle.definition.specs.Tokenizer as Z
use Rattle.definition.specs.Tokenizer.{tokenize}
use Rattle.definition.specs.Act as A
use Rattle.definition.specs.Act.{Items, Res}
use Rattle.definition.specs.Losses.{parse_tokens}
use Rattle.definition.specs.Parser.{error}
use Rattle.definition.specs.Operations.{Outcome, file, file_bytes, read_tokens, read_tokenised, Written, kept, written, whole}
use Rattle.definition.specs.Sentence.{Meaning, Part, expected, got, parser_messages, token_sentence, parser_sentence, sentence_of, token_at, character_at, character_of, token_meaning, token_got, parser_meaning}
use Rattle.definition.specs.Sentence.{Found, Examined, found, refused, parsed, examine, entries, meaning, sentence_at, said, sentence}
use Rattle.definition.specs.Understood.{wording, number_of, names, message, telling, understood, understood_token, understood_in}
use Rattle.definition.proofs.Tests.{clash, never_both, both_true, parts_true, between_bounds, passed, chosen, All, all_at, ◌∈◌, here, there, all_in, in_drop, is_in, is_in_all, is_in_each}
use Rattle.definition.proofs.Characters.{spelling}
use Rattle.definition.proofs.Shown.{Apart, Distinct, same_self}
use Rattle.definition.proofs.Tokens.{Good, Fault, TokensOf, script_tokens, AtCharacter, Stand, errors_stand, character_there}
use Rattle.definition.proofs.Total.{Moves}
use Rattle.definition.proofs.Losses.{tokens_move}
use Rattle.definition.proofs.Reported.{same_error, times, same_error_equal, same_error_self, reported_is_made}
use Rattle.definition.proofs.Examined.{FoundIn, examined, found_made}
use Rattle.definition.proofs.Recover as R
use Rattle.definition.proofs.Recover.{Worded, IsKind, says, Occurs, neither, expects, gets, understands, OccursToken, told, shown, understands_token}
use Rattle.definition.proofs.Named.{naming_none, naming_got, expected_kinds, Right, alone, expecting, both, getting, top_level, compound, full_right}

-- ---- the token at an error's place

same_place_true : (p q : Place) → same_place p q ≡ true → same_place q p ≡ true
same_place_true p q e =
    parts_true (eqb p.line q.line) (eqb p.column q.column) e
    λ l c. both_true (eq-eqb q.line p.line (sym (eqb-true _ _ l)))
    (eq-eqb q.column p.column (sym (eqb-true _ _ c)))

apart_from : (p : Place) (t : Tok) (ts : List Tok) → Apart p ts → t ∈ ts → same_place p t.place ≡ false
apart_from p t ts h here = h.0
apart_from p t ts h (there m) = apart_from p t _ h.1 m

-- no two tokens share a place, so the token found at a token's place is that token
pub token_there : (t : Tok) (ts : List Tok) → Distinct ts → t ∈ ts → token_at t.place ts ≡ t
unfolding token_at
token_there t ts d here = rw (token_at, same_self t.place)
token_there t ts d (there {y = u} {xs = us} m) = go (same_place t.place u.place) refl (token_there t us d.1 m)
  where
    go : (b : Bool) → same_place t.place u.place ≡ b → token_at t.place us ≡ t
        → elim b as (λ _. Tok) [ true ↦ u | false ↦ token_at t.place us ] ≡ t
    go true e h = never_both (same_place_true t.place u.place e) (apart_from u.place t us d.0 m)
    go false e h = h

-- ---- the meanings of errors occur

worded : (n : ℕ) (ps : List Part) → R.readable (message n) ≡ true → number_of (wording (message n)) ≡ n
    → names (message n) ≡ ps → Worded n ps
worded n ps r e w = record { readable = r; number = e; names = w }

is_none : List Part → Bool
is_none [] = true
is_none (p ∷ ps) = false

none_there : (ps : List Part) → is_none ps ≡ true → ps ≡ []
unfolding is_none
none_there [] e = refl
none_there (p ∷ ps) e = clash (sym e)

none_test : ℕ → Bool
unfolding ascii parser_messages number_of wording names is_none
none_test n = R.readable (message n) && (eqb (number_of (wording (message n))) n && is_none (names (message n)))

none_worded : (n : ℕ) → is_in n naming_none ≡ true → Worded n []
unfolding none_test
none_worded n e =
    parts_true _ _ (is_in_each none_test n naming_none e refl)
    λ r q. parts_true _ _ q λ m z. worded n [] r (eqb-true _ _ m) (none_there (names (message n)) z)

got_worded : (n : ℕ) → is_in n naming_got ≡ true → Worded n (got ∷ [])
unfolding ascii parser_messages number_of wording names
got_worded n e = is_in_all (λ n. Worded n (got ∷ [])) n naming_got e (search (worded) depth 60)

top_level_worded : Worded E.TopLevel (got ∷ [])
unfolding ascii parser_messages number_of wording names
top_level_worded = worded E.TopLevel (got ∷ []) refl refl refl

compound_worded : Worded E.Compound (got ∷ [])
unfolding ascii parser_messages number_of wording names
compound_worded = worded E.Compound (got ∷ []) refl refl refl

expected_worded : Worded E.ExpectedAtEnd (expected ∷ [])
unfolding ascii parser_messages number_of wording names
expected_worded = worded E.ExpectedAtEnd (expected ∷ []) refl refl refl

both_worded : Worded E.Expected (expected ∷ got ∷ [])
unfolding ascii parser_messages number_of wording names
both_worded = worded E.Expected (expected ∷ got ∷ []) refl refl refl

expected_kind : (k : ℕ) → is_in k expected_kinds ≡ true → IsKind k
expected_kind k e =
    let b = between_bounds K.KwFn K.Comma k (is_in_each (λ j. between K.KwFn K.Comma j) k expected_kinds e refl) in
    record { low = omega arith; high = omega arith }

module _ (ts : List Tok) (g : All Good ts) (d : Distinct ts) where
  got_token : (n k : ℕ) (t : Tok) → t ∈ ts → token_got ts (error n t.place k t.kind) ≡ t
  unfolding token_got
  got_token n k t m =
      rw (token_got, ne_eqb t.kind K.End (λ z. omega (arith, (all_in Good t ts g m).formed.low)))
      (token_there t ts d m)

  pub got_there : (n k : ℕ) (t : Tok) → t ∈ ts → says n k t ≡ parser_meaning ts (error n t.place k t.kind)
  unfolding parser_meaning token_got
  got_there n k t m =
      ap (λ (u : Tok). record { number = n; expected = k; got = t.kind; text = u.text; base = u.base })
      (sym (got_token n k t m))

  got_occurs : (n : ℕ) (t : Tok) → Worded n (got ∷ []) → t ∈ ts
      → Occurs (parser_meaning ts (error n t.place K.End t.kind))
  got_occurs n t w m = subst Occurs (got_there n K.End t m) (gets n t w (all_in Good t ts g m).formed)

  parser_occurs : (e : Err) → Right ts e → Occurs (parser_meaning ts e)
  unfolding parser_meaning token_got
  parser_occurs e (alone n p h) = neither n (none_worded n h)
  parser_occurs e (expecting k h) = expects E.ExpectedAtEnd k expected_worded (expected_kind k h)
  parser_occurs e (both k t h m) =
      subst Occurs (got_there E.Expected k t m)
      (R.both E.Expected k t both_worded (expected_kind k h) (all_in Good t ts g m).formed)
  parser_occurs e (getting n t h m) = got_occurs n t (got_worded n h) m
  parser_occurs e (top_level t a m) = got_occurs E.TopLevel t top_level_worded m
  parser_occurs e (compound t m) = got_occurs E.Compound t compound_worded (in_drop 2 ts m)

token_occurs : (cs : List Ch) (e : Err) → Fault e → OccursToken (token_meaning cs e)
unfolding token_meaning character_of
token_occurs cs e f = go (eqb e.number TokenError.UnknownCharacter) refl
  where
    go : (b : Bool) → eqb e.number TokenError.UnknownCharacter ≡ b
        → OccursToken (telling e.number (elim b as (λ _. List ℕ) [ true ↦ character_at e.place cs | false ↦ [] ]))
    go true h =
        subst (λ (n : ℕ). OccursToken (telling n (character_at e.place cs))) (sym (eqb-true e.number 4 h))
        (shown (character_at e.place cs))
    go false h = told e.number f.low (omega (arith, f.high, eqb-false e.number 4 h))

-- the meaning of an error, and what is known of it, of the list 62 and of the others
abbrev pub meant_in : Bool → Found → Err → Meaning
meant_in b f e = elim b as (λ _. Meaning) [ true ↦ token_meaning f.chars e | false ↦ parser_meaning f.toks e ]

abbrev Occurring : Bool → Meaning → Type 0
Occurring true m = OccursToken m
Occurring false m = Occurs m

-- ---- the entries of the three lists

-- an error at a position is in the list at least once, and one that is there has what all have
times_at : (es : List Err) (i : ℕ) (e : Err) → get_elem? es i ≡ some e → 1 ≤ times e es
times_at [] i e h = absurd (let z : ◌≡◌ {A = ℕ} 0 1 = cc in omega arith)
times_at (x ∷ es) zero e h =
    let q : x ≡ e = cc in
    subst (λ (y : Err). 1 ≤ times e (y ∷ es)) (sym q) (rw (same_error_self e) (omega arith))
times_at (x ∷ es) (suc i) e h = omega (arith, times_at es i e h)

all_times : (P : Err → Type 0) (es : List Err) (e : Err) → All P es → 1 ≤ times e es → P e
all_times P [] e a h = absurd (omega arith)
all_times P (x ∷ es) e a h = go (same_error e x) refl h (λ k. all_times P es e a.1 k)
  where
    go : (b : Bool) → same_error e x ≡ b → 1 ≤ pick b 1 0 + times e es → (1 ≤ times e es → P e) → P e
    go true s k f = subst P (sym (same_error_equal e x s)) a.0
    go false s k f = f (omega arith)

module _ {s : List ℕ} {f : Found} (i : FoundIn s f) where
  full_all : All (Right f.toks) f.full
  full_all = subst (All (Right f.toks)) i.full (full_right f.toks i.items i.state i.reading)

  reported_times : (e : Err) → times e f.reported ≤ times e f.full
  reported_times e =
      omega (
        arith,
        reported_is_made e f.toks i.items i.state i.reading,
        ap (times e) i.reported,
        ap (times e) i.full,
      )

  -- of 60 and 61
  pub right_at : (list j : ℕ) (e : Err) → eqb list Tag.TokenError ≡ false → get_elem? (entries f list) j ≡ some e
      → Right f.toks e
  right_at list j e n h = go (eqb list Tag.ReportedError) (eqb list Tag.FullError) (rw n at h)
    where
      go : (a b : Bool) → get_elem? (pick a f.reported (pick b f.full [])) j ≡ some e → Right f.toks e
      go true b h =
          all_times (Right f.toks) f.full e full_all
          (omega (arith, reported_times e, times_at f.reported j e h))
      go false true h = all_at (Right f.toks) f.full j e full_all h
      go false false h = absurd (let z : ◌≡◌ {A = ℕ} 0 1 = cc in omega arith)

  -- of 62
  fault_at : (list j : ℕ) (e : Err) → eqb list Tag.TokenError ≡ true → get_elem? (entries f list) j ≡ some e → Fault e
  fault_at list j e c h = all_at Fault f.token_errors j e (found_made i).faults (rw c at h)

  occurs_at : (list j : ℕ) (e : Err) → get_elem? (entries f list) j ≡ some e
      → Occurring (eqb list Tag.TokenError) (meaning f list e)
  occurs_at list j e h = go (eqb list Tag.TokenError) refl
    where
      go : (b : Bool) → eqb list Tag.TokenError ≡ b → Occurring b (meant_in b f e)
      go true c = token_occurs f.chars e (fault_at list j e c h)
      go false c =
          parser_occurs f.toks (found_made i).good (found_made i).distinct e (right_at list j e c h)

-- ---- where an error stands

-- a token of the script, of the error's kind and at its place: the one that its sentence names
pub record Stands (ts : List Tok) (e : Err) : Type 0 where
  pub tok : Tok
  pub among : tok ∈ ts
  pub place : tok.place ≡ e.place
  pub kind : tok.kind ≡ e.got
  pub named : token_got ts e ≡ tok

module _ (ts : List Tok) (g : All Good ts) (d : Distinct ts) where
  stands : (n k : ℕ) (t : Tok) → t ∈ ts → Stands ts (error n t.place k t.kind)
  stands n k t m = record { tok = t; among = m; place = refl; kind = refl; named = got_token ts g d n k t m }

  right_stands : (e : Err) → Right ts e → (e.got ≡ K.End → ⊥) → Stands ts e
  right_stands e (alone n p h) z = absurd (z refl)
  right_stands e (expecting k h) z = absurd (z refl)
  right_stands e (both k t h m) z = stands E.Expected k t m
  right_stands e (getting n t h m) z = stands n K.End t m
  right_stands e (top_level t a m) z = stands E.TopLevel K.End t m
  right_stands e (compound t m) z = stands E.Compound K.End t (in_drop 2 ts m)

-- An entry whose got is not 0 stands at a token of that kind
pub got_stands : (s : List ℕ) (f : Found) → examine s ≡ found f → (list j : ℕ) (e : Err)
    → get_elem? (entries f list) j ≡ some e → (e.got ≡ K.End → ⊥) → Stands f.toks e
got_stands s f x list j e h z = go (eqb list Tag.TokenError) refl
  where
    i : FoundIn s f
    i = examined s f x

    go : (b : Bool) → eqb list Tag.TokenError ≡ b → Stands f.toks e
    go true c = absurd (z (fault_at i list j e c h).got)
    go false c = right_stands f.toks (found_made i).good (found_made i).distinct e (right_at i list j e c h) z

-- a character of the script, at the error's place: the one that the sentence of token error 4 shows
pub record Shows (cs : List Ch) (e : Err) : Type 0 where
  pub char : Ch
  pub among : char ∈ cs
  pub place : char.place ≡ e.place
  pub shown : character_at e.place cs ≡ spelling char

-- A token error stands at a character
pub error_shows : (s : List ℕ) (f : Found) → examine s ≡ found f → (j : ℕ) (e : Err)
    → get_elem? f.token_errors j ≡ some e → Shows f.chars e
error_shows s f x j e h =
    let i = examined s f x in
    let a : AtCharacter f.chars e =
    all_at (AtCharacter f.chars) f.token_errors j e
    (subst (Stand f.chars) i.tokens (errors_stand s f.chars i.size i.chars)) h in
    record {
      char = a.char;
      among = a.among;
      place = a.place;
      shown =
          subst (λ (p : Place). character_at p f.chars ≡ spelling a.char) a.place
          (character_there s f.chars i.size i.chars a.char a.among);
    }

-- ---- read back

-- the sentence of a meaning, of the list 62 and of the others
abbrev pub said_in : Bool → Meaning → List ℕ
said_in b m = elim b as (λ _. List ℕ) [ true ↦ token_sentence m | false ↦ parser_sentence m ]

sentence_there : (f : Found) (list j : ℕ) (e : Err) → get_elem? (entries f list) j ≡ some e
    → sentence_at f list j ≡ sentence_of list (meaning f list e)
unfolding sentence_at
sentence_there f list j e h = rw (sentence_at, h)

-- The sentence of an error, read back, gives the error's meaning
pub read_back : (s : List ℕ) (f : Found) → examine s ≡ found f → (list j : ℕ) (e : Err)
    → get_elem? (entries f list) j ≡ some e → understood_in list (sentence_at f list j) ≡ meaning f list e
read_back s f x list j e h =
    ap (understood_in list) (sentence_there f list j e h)
    ∙ go (eqb list Tag.TokenError) (meaning f list e) (occurs_at (examined s f x) list j e h)
  where
    go : (b : Bool) (m : Meaning) → Occurring b m
        → elim b as (λ _. Meaning) [ true ↦ understood_token (said_in b m) | false ↦ understood (said_in b m) ] ≡ m
    go true m o = understands_token m o
    go false m o = understands m o

-- so equal sentences of one list have equal meanings
same_meaning : (s t : List ℕ) (f g : Found) → examine s ≡ found f → examine t ≡ found g → (list i j : ℕ) (d e : Err)
    → get_elem? (entries f list) i ≡ some d → get_elem? (entries g list) j ≡ some e
    → sentence_at f list i ≡ sentence_at g list j → meaning f list d ≡ meaning g list e
same_meaning s t f g x y list i j d e h k q =
    sym (read_back s f x list i d h) ∙ ap (understood_in list) q ∙ read_back t g y list j e k

-- what two errors of a list have in common: number, kinds, and the text and base of the token got; of 62 the character
pub record Alike (f g : Found) (list : ℕ) (d e : Err) : Type 0 where
  pub number : d.number ≡ e.number
  pub expected : d.expected ≡ e.expected
  pub got : d.got ≡ e.got
  pub text : (token_got f.toks d).text ≡ (token_got g.toks e).text
  pub base : (token_got f.toks d).base ≡ (token_got g.toks e).base
  pub character : list ≡ Tag.TokenError → character_of f.chars d ≡ character_of g.chars e

-- Recoverable: for any two errors of one list, of any two scripts, equal sentences have equal number, expected, got,
-- text and base, and of the list 62 an equal character
pub recoverable : (s t : List ℕ) (f g : Found) → examine s ≡ found f → examine t ≡ found g → (list i j : ℕ) (d e : Err)
    → get_elem? (entries f list) i ≡ some d → get_elem? (entries g list) j ≡ some e
    → sentence_at f list i ≡ sentence_at g list j → Alike f g list d e
unfolding token_meaning parser_meaning token_got
recoverable s t f g x y list i j d e h k q =
    go (eqb list Tag.TokenError) refl (same_meaning s t f g x y list i j d e h k q)
  where
    no_token : (ts : List Tok) (c : Err) → c.got ≡ K.End → token_got ts c ≡ end_token
    no_token ts c z = rw (token_got, z)

    go : (b : Bool) → eqb list Tag.TokenError ≡ b → meant_in b f d ≡ meant_in b g e → Alike f g list d e
    go true c m =
        let u = fault_at (examined s f x) list i d c h in
        let v = fault_at (examined t g y) list j e c k in
        let n : token_got f.toks d ≡ token_got g.toks e =
        no_token f.toks d u.got ∙ sym (no_token g.toks e v.got) in
        record {
          number = ap (λ (z : Meaning). z.number) m;
          expected = u.expected ∙ sym v.expected;
          got = u.got ∙ sym v.got;
          text = ap (λ (z : Tok). z.text) n;
          base = ap (λ (z : Tok). z.base) n;
          character = λ _. ap (λ (z : Meaning). z.text) m;
        }
    go false c m = record {
      number = ap (λ (z : Meaning). z.number) m;
      expected = ap (λ (z : Meaning). z.expected) m;
      got = ap (λ (z : Meaning). z.got) m;
      text = ap (λ (z : Meaning). z.text) m;
      base = ap (λ (z : Meaning). z.base) m;
      character = λ z. never_both (eq-eqb list Tag.TokenError z) c;
    }

-- ---- the whole operation

-- a refusal is the whole operation's; the lists found are those that it writes
abbrev pub Agrees : List ℕ → Written → Examined → Type 0
Agrees o w (refused n) = (w.number ≡ n) × (n ≡ 0 → ⊥)
Agrees o w (found f) =
    (i : Items) × (i.errors ≡ f.reported) × (w ≡ written o (file (file_bytes f.token_errors i f.full)))

not_zero : (lo hi n : ℕ) → 0 < lo → T (between lo hi n) → n ≡ 0 → ⊥
not_zero lo hi n h t e = omega (arith, between_bounds lo hi n (passed _ t))

parsed_agrees : (o : List ℕ) (cs : List Ch) (t : Z.Tokens) → TokensOf t
    → Agrees o (written o (read_tokenised t)) (parsed cs t)
unfolding parsed read_tokens
parsed_agrees o cs (Z.tokens [] es) m = (refl, λ z. omega arith)
parsed_agrees o cs (Z.tokens (t ∷ ts) es) m = go (parse_tokens (t ∷ ts)) (tokens_move (t ∷ ts))
  where
    go : (r : Res Items) → Moves r → Agrees o
        (written o (elim r as (λ _. Outcome) [
          | A.gives i s ↦ file (file_bytes es i s.full)
          | A.refused n ↦ Outcome.refused n
        ]))
        (elim r as (λ _. Examined) [
          | A.gives i s ↦ found (record { chars = cs; toks = t ∷ ts; token_errors = es; reported = i.errors; full = s.full })
          | A.refused n ↦ refused n
        ])
    go (A.gives i s) v = (i, refl, refl)
    go (A.refused n) v = (refl, not_zero 10 12 n (omega arith) v)
parsed_agrees o cs (Z.refused n) m = (refl, not_zero 4 7 n (omega arith) m)

-- `examine` refuses with the number of the whole operation, and otherwise finds what that writes
pub as_whole : (s o : List ℕ) → 65536 ≤ length o → Agrees o (whole s o) (examine s)
unfolding whole examine
as_whole s o h = go (ltb 16384 (length s)) refl (characters s) refl (ltb (length o) 65536) (le-ltb (length o) 65536 h)
  where
    go : (b : Bool) → ltb 16384 (length s) ≡ b → (c : Option (List Ch)) → characters s ≡ c → (d : Bool) → d ≡ false
        → Agrees o
        (elim b as (λ _. Written) [
          | true ↦ kept 1 o
          | false ↦ elim c as (λ _. Written) [
            | none ↦ kept 2 o
            | some cs ↦ elim d as (λ _. Written) [ true ↦ kept 3 o | false ↦ written o (read_tokenised (tokenize cs)) ]
          ]
        ])
        (elim b as (λ _. Examined) [
          | true ↦ refused 1
          | false ↦ elim c as (λ _. Examined) [ none ↦ refused 2 | some cs ↦ parsed cs (tokenize cs) ]
        ])
    go true b c x d e = (refl, λ z. omega arith)
    go false b none x d e = (refl, λ z. omega arith)
    go false b (some cs) x true e = clash e
    go false b (some cs) x false e =
        parsed_agrees o cs (tokenize cs) (script_tokens s cs (ltb-false 16384 (length s) b) x)

-- A script that the whole operation refuses keeps its number, whatever list, position and slice are, and the slice is
-- untouched
pub sentence_refused : (s w : List ℕ) → 65536 ≤ length w → ((whole s w).number ≡ 0 → ⊥) → (list i : ℕ) (o : List ℕ)
    → sentence s list i o ≡ kept (whole s w).number o
unfolding sentence
sentence_refused s w h n list i o = go (examine s) (as_whole s w h)
  where
    go : (x : Examined) → Agrees w (whole s w) x
        → elim x as (λ _. Written) [ found f ↦ said o (sentence_at f list i) | refused n ↦ kept n o ] ≡ kept (whole s w).number o
    go (found f) a = absurd (n (ap (λ (y : Written). y.number) a.2))
    go (refused k) a = ap (λ (j : ℕ). kept j o) (sym a.0)

-- what is written of an accepted script is the sentence
pub sentence_written : (s : List ℕ) (f : Found) → examine s ≡ found f → (list i : ℕ) (o : List ℕ)
    → (sentence s list i o).number ≡ 0
    → take (sentence s list i o).bytes (sentence s list i o).file ≡ sentence_at f list i
unfolding sentence
sentence_written s f x list i o z = go (examine s) x z
  where
    bs : List ℕ
    bs = sentence_at f list i

    Says : Written → Type 0
    Says w = w.number ≡ 0 → take w.bytes w.file ≡ bs

    go : (y : Examined) → y ≡ found f
        → Says (elim y as (λ _. Written) [ found g ↦ said o (sentence_at g list i) | refused n ↦ kept n o ])
    go y e =
        subst
        (λ (v : Examined). Says (elim v as (λ _. Written) [ found g ↦ said o (sentence_at g list i) | refused n ↦ kept n o ]))
        (sym e)
        (chosen Says (ltb (length o) (length bs)) (kept 13 o) (written o (file bs)) (λ _ z. absurd (omega arith))
        (λ _ z. take_at bs _ (length bs) refl))
