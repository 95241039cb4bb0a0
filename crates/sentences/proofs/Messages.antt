-- The token or the character that an error names, and the sentences. Assumes nothing.
use mathlib.Core.Path.{◌≡◌, refl, sym, ap, ◌∙◌}
use mathlib.Core.Bool.{true, false}
use mathlib.Core.List.{List, [], ◌∷◌}
use Prim.Native.Nat.{ℕ, zero, suc, ◌-◌, ◌<◌, ◌≤◌}
use native.Mathlib.Omega.{arith}
use borrow.Author.Tests.{eq-eqb, ne_eqb}
use lib.ListN.{length, get_or, take, drop}
use lib.Seq.{drop-cons}
use native.Mathlib.Numerals.{add-one}
use Rattle.definition.specs.Numbers.{kind_number}
use Rattle.definition.specs.Classes.{between}
use Rattle.definition.specs.Kind as K
use Rattle.definition.specs.Source as Def
use Rattle.definition.specs.Source.{same_place, lead}
use Rattle.definition.specs.Places.{place_of}
use Rattle.definition.specs.Token.{Tok, next_token, tail}
use Rattle.definition.specs.Sentence as S
use Rattle.definition.specs.Sentence.{token_messages, compose, token_at, character_at, token_got}
use Rattle.definition.specs.declared.kind.Kind.{Kind}
use Rattle.definition.specs.declared.place.Place.{Place}
use Rattle.definition.specs.Records.{error_at, error_of}
use Rattle.source.specs.Place as P
use Rattle.source.specs.Place.{Stands, Stepped, origin, more}
use Rattle.source.specs.declared.Cursor.{Cursor}
use Rattle.source.proofs.Laws.{rest_head, rest_end}
use Rattle.fallible.specs.Lists.{err_of}
use Rattle.fallible.specs.declared.error.Error.{Error}
use Rattle.steps.specs.declared.tokens.Token.{Token}
use Rattle.steps.specs.Tokens.{Seen, present, rest}
use Rattle.steps.proofs.Records.{rest_nil}
use Rattle.sentences.specs.Messages.{Decodes, first_bytes, StandsAt}
use Rattle.sentences.specs.Messages as M

-- ---- the token at a place

first_there : (p : Def.Place) (ts : List Tok) → ((next_token ts).kind ≡ 0 → ⊥) → same_place p (next_token ts).place ≡ true
    → token_at p ts ≡ next_token ts
unfolding token_at
first_there p [] n e = absurd (n refl)
first_there p (t ∷ ts) n e = rw (token_at, e)

later_there : (p : Def.Place) (ts : List Tok) → ((next_token ts).kind ≡ 0 → ⊥) → same_place p (next_token ts).place
    ≡ false → token_at p ts ≡ token_at p (tail ts)
unfolding token_at
later_there p [] n e = absurd (n refl)
later_there p (t ∷ ts) n e = rw (token_at, e)

-- the invariant: the token is among those from i on
pub record Seeking (w x : List ℕ) (n : ℕ) (place : Place) (i : ℕ) : Type 0 where
  pub within : i ≤ n
  pub same : token_at (place_of place) (rest w x n 0) ≡ token_at (place_of place) (rest w x n i)

-- past the last token
none_left : {w x : List ℕ} {n i : ℕ} {t : Token} → Seen w x n i t → kind_number t.kind ≡ 0 → rest w x n i ≡ []
unfolding present
none_left {w} {x} {n} {i} u z = rest_nil w x n i (omega (arith, u.present, z))

-- what `peek` decodes
decodes : {w x : List ℕ} {n i : ℕ} {t : Token} {v : Tok} → Seen w x n i t → v ≡ next_token (rest w x n i) → Decodes v t
decodes {w} {x} {n} {i} u e = rw e (record { text = u.text; base = u.base x })

module _ {w x : List ℕ} {n : ℕ} {place : Place} {i : ℕ} {t : Token} (q : Seeking w x n place i) (u : Seen w x n i t) where
  pub seeking_none : kind_number t.kind ≡ 0 → Decodes (token_at (place_of place) (rest w x n 0)) t
  unfolding token_at
  seeking_none z = let e = none_left u z in decodes u (q.same ∙ ap (token_at (place_of place)) e ∙ ap next_token (sym e))

  module _ (nz : kind_number t.kind ≡ 0 → ⊥) where
    -- there is a token
    there : (next_token (rest w x n i)).kind ≡ 0 → ⊥
    there e = nz (sym (u.kind x) ∙ e)

    pub seeking_found : same_place (place_of place) (place_of t.place) ≡ true → Decodes (token_at (place_of place) (rest w x n 0)) t
    seeking_found e = decodes u (q.same ∙ first_there (place_of place) (rest w x n i) there (rw (u.place x) e))

    pub seeking_more : same_place (place_of place) (place_of t.place) ≡ false → Seeking w x n place t.next
    seeking_more h = record {
      within = u.end;
      same = q.same ∙ later_there (place_of place) (rest w x n i) there (rw (u.place x) h) ∙ ap (token_at (place_of place)) (u.tail x);
    }

-- ---- the token got

-- its kind is the error's
pub as_kind : {u : Tok} {t : Token} (k : Kind) → Decodes u t
    → Decodes u (record { kind = k; place = t.place; text = t.text; base = t.base; next = t.next })
as_kind k d = record { text = d.text; base = d.base }

module _ (w x : List ℕ) (n : ℕ) (e : Error) {t : Token} where
  pub got_none : kind_number e.got ≡ 0 → Seen w x n n t → Decodes (token_got (rest w x n 0) (err_of e)) t
  unfolding token_got
  got_none z u = decodes u (rw (token_got, eq-eqb (kind_number e.got) K.End z) (ap next_token (sym (rest_nil w x n n (omega arith)))))

  pub got_some : (kind_number e.got ≡ 0 → ⊥) → Decodes (token_at (place_of e.place) (rest w x n 0)) t
      → Decodes (token_got (rest w x n 0) (err_of e)) t
  unfolding token_got
  got_some z d = rw (token_got, ne_eqb (kind_number e.got) K.End z) d

-- ---- the character at a place

-- the invariant: the character is among those from the cursor on
pub record Walking (s : List ℕ) (p : Def.Place) (c : Cursor) : Type 0 where
  pub stands : Stands s c
  pub same : character_at p (P.rest s origin) ≡ character_at p (P.rest s c)

module _ {s : List ℕ} {p : Def.Place} {c : Cursor} (q : Walking s p c) where
  pub walking_end : length s ≤ c.at → StandsAt s p c
  unfolding character_at
  walking_end h =
      let e = rest_end s c h in
      record { stands = q.stands; is = q.same ∙ ap (character_at p) e ∙ ap first_bytes (sym e) }

  module _ (h : c.at < length s) where
    pub walking_found : same_place p (P.placed c) ≡ true → StandsAt s p c
    unfolding character_at
    walking_found t =
        let e = rest_head q.stands h in
        record {
          stands = q.stands;
          is = q.same ∙ ap (character_at p) e ∙ rw (character_at, t) (ap first_bytes (sym e));
        }

  pub walking_more : {d : Cursor} → same_place p (P.placed c) ≡ false → Stepped s c d → Walking s p d
  unfolding character_at
  walking_more t st = record {
    stands = st.stands;
    same = q.same ∙ ap (character_at p) st.chars ∙ rw
        (character_at, t);
  }

-- its bytes
module _ {s : List ℕ} {p : Def.Place} {c : Cursor} (q : StandsAt s p c) where
  pub character_none : length s ≤ c.at → [] ≡ character_at p (P.rest s origin)
  character_none h = sym (q.is ∙ ap first_bytes (rest_end s c h))

  pub character_there : {d : Cursor} → c.at < length s → Stepped s c d
      → take (d.at - c.at) (drop c.at s) ≡ character_at p (P.rest s origin)
  character_there {d} h t =
      let z : d.at - c.at ≡ suc (more (lead (get_or s c.at 0))) = omega (arith, t.wide) in
      rw (z, drop-cons s c.at 0 h, ← add-one c.at) (sym (q.is ∙ ap first_bytes t.chars))

-- ---- the sentences

-- what the code says of an error of the parser and the token got
pub parser_says : (w x : List ℕ) (n : ℕ) (e : Error) {t : Token} → Decodes (token_got (rest w x n 0) (err_of e)) t → t.kind ≡ e.got
    → S.parser_sentence (M.parser_meaning e.error e.expected t) ≡ M.parser_sentence w x n e
unfolding S.parser_meaning
parser_says w x n e d k = rw (sym d.text, sym d.base, k) refl

-- of a record that has no token error's number nothing is said
pub token_none : (s w : List ℕ) → between 1 4 (get_or w 0 0) ≡ false → M.token_sentence s w ≡ []
unfolding S.token_sentence token_messages compose S.token_meaning
token_none s w h = ap (compose (S.token_meaning (P.rest s origin) (error_of (error_at w 0)))) (go (get_or w 0 0) h)
  where
    go : (n : ℕ) → between 1 4 n ≡ false → get_or token_messages n [] ≡ []
    go zero h = refl
    go (suc zero) h = absurd (cc h)
    go (suc (suc zero)) h = absurd (cc h)
    go (suc (suc (suc zero))) h = absurd (cc h)
    go (suc (suc (suc (suc zero)))) h = absurd (cc h)
    go (suc (suc (suc (suc (suc n))))) h = refl
