-- The bytes that the definition decodes are those that the library calls UTF-8. Assumes nothing.
use mathlib.Core.Path.{◌≡◌, refl, sym, ap, ap₂, ◌∙◌}
use mathlib.Core.Bool.{Bool, true, false, cond, ◌&&◌}
use mathlib.Core.List.{List, [], ◌∷◌, ◌++◌, map}
use mathlib.Core.Option.{Option, none, some}
use mathlib.Core.Logic.{◌⊎◌, ⊎_elim}
use Prim.Native.Nat.{ℕ, suc, ◌+◌, ◌/◌, ◌<◌, ◌≤◌}
use native.Mathlib.Omega.{arith}
use borrow.Author.Tests.{eqb-true, eqb-false, ltb-true, ltb-false, lt-ltb, le-ltb, le-leb, lt-leb, leb-false}
use lib.Dec.{eqb, ltb, leb}
use lib.Utf8.{scalar, scalars, scalar_cases}
use lib.Utf8 as U
use Rattle.std.proofs.lemmas.Bool.{and_parts, and_from}
use Rattle.std.specs.Prelude.{Result, Ok, Err, MatchResult, is_ok}
use Rattle.std.proofs.lemmas.Bool.Decides.{nat_tests}
use Rattle.std.proofs.lemmas.Str.{chars-encodes}
use Rattle.std.specs.Str.{IsUtf8, chars}
use Rattle.definition.specs.Choice.{first}
use Rattle.definition.specs.Source.{At, Ch, single, with_more, lead, char_at, past, fresh, within, and_then, decode, start, characters, code, is_some, utf8}
use Rattle.definition.specs.Understood as D
use Rattle.definition.proofs.Codes.{Coded}
use Rattle.definition.proofs.Characters.{Whole, Spelt, beyond, spelt}

and_some : (c : Ch) (o : Option (List Ch)) → is_some (and_then c o) ≡ is_some o
and_some c none = refl
and_some c (some cs) = refl

-- ---- what the library calls UTF-8 is decoded

-- all bytes are decoded, from any place
record Decodes (bs : List ℕ) : Type 0 where
  all : (p : At) → is_some (decode fresh p bs) ≡ true

decodes_none : Decodes []
unfolding decode
decodes_none = record { all = λ p. refl }

lead_one : (b : ℕ) → b < 0x80 → lead b ≡ single
unfolding lead first
lead_one b h = rw (lt-ltb b 0x80 h)

goes_on : (l : ℕ) (m : List ℕ) (n lo hi x : ℕ) (p : At) (bs : List ℕ) → lo ≤ x → x ≤ hi
    → decode (within l m (suc (suc n)) lo hi) p (x ∷ bs) ≡ decode (within l (m ++ (x ∷ [])) (suc n) 0x80 0xBF) p bs
unfolding decode
goes_on l m n lo hi x p bs h k = rw (decode, le-leb lo x h, le-leb x hi k, lt-leb (suc (suc n)) 1 (omega arith))

led : (bs : List ℕ) (b n lo hi : ℕ) → lead b ≡ with_more n lo hi
    → ((p : At) → is_some (decode (within b [] n lo hi) p bs) ≡ true) → Decodes (b ∷ bs)
unfolding decode
led bs b n lo hi e f =
    record { all = λ p. let i : decode fresh p (b ∷ bs) ≡ decode (within b [] n lo hi) p bs = rw (decode, e) in ap is_some i ∙ f p }

module _ {bs : List ℕ} (d : Decodes bs) where
  ended : (c : Ch) (p : At) → is_some (and_then c (decode fresh p bs)) ≡ true
  ended c p = and_some c (decode fresh p bs) ∙ d.all p

  -- a character of one byte, and the last byte of a longer one
  one : {b : ℕ} → b < 0x80 → Decodes (b ∷ bs)
  unfolding decode
  one {b} h =
      record {
        all = λ p.
            let i : decode fresh p (b ∷ bs) ≡ and_then (char_at p b []) (decode fresh (past p b []) bs) = rw (decode, lead_one b h) in
            ap is_some i ∙ ended (char_at p b []) (past p b []);
      }

  ends : (l : ℕ) (m : List ℕ) (lo hi x : ℕ) (p : At) → lo ≤ x → x ≤ hi → is_some (decode (within l m 1 lo hi) p (x ∷ bs)) ≡ true
  unfolding decode
  ends l m lo hi x p h k =
      let i : decode (within l m 1 lo hi) p (x ∷ bs) ≡ and_then (char_at p l (m ++ (x ∷ []))) (decode fresh (past p l (m ++ (x ∷ []))) bs) =
      rw (decode, le-leb lo x h, le-leb x hi k) in
      ap is_some i ∙ ended (char_at p l (m ++ (x ∷ []))) (past p l (m ++ (x ∷ [])))

-- the first bytes of two, three and four
lead_two : (b : ℕ) → 0xC2 ≤ b → b < 0xE0 → lead b ≡ with_more 1 0x80 0xBF
unfolding lead first
lead_two b h k = grind (arith, nat_tests)

lead_three : (b : ℕ) → 0xE0 < b → b < 0xF0 → (b ≡ 0xED → ⊥) → lead b ≡ with_more 2 0x80 0xBF
unfolding lead first
lead_three b h k n = grind (arith, nat_tests)

lead_four : (b : ℕ) → 0xF0 < b → b < 0xF4 → lead b ≡ with_more 3 0x80 0xBF
unfolding lead first
lead_four b h k = grind (arith, nat_tests)

lead_e0 : lead 0xE0 ≡ with_more 2 0xA0 0xBF
unfolding lead first
lead_e0 = refl

lead_ed : lead 0xED ≡ with_more 2 0x80 0x9F
unfolding lead first
lead_ed = refl

lead_f0 : lead 0xF0 ≡ with_more 3 0x90 0xBF
unfolding lead first
lead_f0 = refl

lead_f4 : lead 0xF4 ≡ with_more 3 0x80 0x8F
unfolding lead first
lead_f4 = refl

abbrev Next : ℕ → Type 0
Next x = (0x80 ≤ x) × (x ≤ 0xBF)

module _ {bs : List ℕ} (d : Decodes bs) where
  two : {b x : ℕ} → 0xC2 ≤ b → b < 0xE0 → Next x → Decodes (b ∷ x ∷ bs)
  two {b} {x} h k n = led (x ∷ bs) b 1 0x80 0xBF (lead_two b h k) (λ p. ends d b [] 0x80 0xBF x p n.0 n.1)

  threes : {b lo hi x y : ℕ} → lead b ≡ with_more 2 lo hi → lo ≤ x → x ≤ hi → Next y → Decodes (b ∷ x ∷ y ∷ bs)
  threes {b} {lo} {hi} {x} {y} e h k n =
      led (x ∷ y ∷ bs) b 2 lo hi e
      (λ p. ap is_some (goes_on b [] 0 lo hi x p (y ∷ bs) h k) ∙ ends d b (x ∷ []) 0x80 0xBF y p n.0 n.1)

  fours : {b lo hi x y z : ℕ} → lead b ≡ with_more 3 lo hi → lo ≤ x → x ≤ hi → Next y → Next z → Decodes (b ∷ x ∷ y ∷ z ∷ bs)
  fours {b} {lo} {hi} {x} {y} {z} e h k n m =
      led (x ∷ y ∷ z ∷ bs) b 3 lo hi e
      (λ p. ap is_some (goes_on b [] 1 lo hi x p (y ∷ z ∷ bs) h k ∙ goes_on b (x ∷ []) 0 0x80 0xBF y p (z ∷ bs) n.0 n.1)
      ∙ ends d b (x ∷ y ∷ []) 0x80 0xBF z p m.0 m.1)

  -- no shorter spelling would do, and the number is no surrogate
  three : {b x y : ℕ} → 0xE0 ≤ b → b < 0xF0 → (b ≡ 0xE0 → 0xA0 ≤ x) → (b ≡ 0xED → x ≤ 0x9F) → Next x → Next y → Decodes (b ∷ x ∷ y ∷ bs)
  three {b} {x} {y} h k low high n m = go (eqb b 0xE0) refl (eqb b 0xED) refl
    where
      go : (t : Bool) → eqb b 0xE0 ≡ t → (u : Bool) → eqb b 0xED ≡ u → Decodes (b ∷ x ∷ y ∷ bs)
      go true e u f = let i : b ≡ 0xE0 = eqb-true b 0xE0 e in rw i (threes {lo = 0xA0} {hi = 0xBF} lead_e0 (low i) n.1 m)
      go false e true f = let i : b ≡ 0xED = eqb-true b 0xED f in rw i (threes {lo = 0x80} {hi = 0x9F} lead_ed n.0 (high i) m)
      go false e false f = threes (lead_three b (omega (arith, eqb-false b 0xE0 e)) k (eqb-false b 0xED f)) n.0 n.1 m

  -- nor too large
  four : {b x y z : ℕ} → 0xF0 ≤ b → b ≤ 0xF4 → (b ≡ 0xF0 → 0x90 ≤ x) → (b ≡ 0xF4 → x ≤ 0x8F) → Next x → Next y → Next z
      → Decodes (b ∷ x ∷ y ∷ z ∷ bs)
  four {b} {x} {y} {z} h k low high n m o = go (eqb b 0xF0) refl (eqb b 0xF4) refl
    where
      go : (t : Bool) → eqb b 0xF0 ≡ t → (u : Bool) → eqb b 0xF4 ≡ u → Decodes (b ∷ x ∷ y ∷ z ∷ bs)
      go true e u f = let i : b ≡ 0xF0 = eqb-true b 0xF0 e in rw i (fours {lo = 0x90} {hi = 0xBF} lead_f0 (low i) n.1 m o)
      go false e true f = let i : b ≡ 0xF4 = eqb-true b 0xF4 f in rw i (fours {lo = 0x80} {hi = 0x8F} lead_f4 n.0 (high i) m o)
      go false e false f = fours (lead_four b (omega (arith, eqb-false b 0xF0 e)) (omega (arith, eqb-false b 0xF4 f))) n.0 n.1 m o

  encoded : (c : ℕ) → scalar c ≡ true → Decodes (U.encode c ++ bs)
  unfolding U.encode
  encoded c e = go (ltb c 0x80) refl (ltb c 0x800) refl (ltb c 0x10000) refl (scalar_cases c e)
    where
      go : (t : Bool) → ltb c 0x80 ≡ t → (u : Bool) → ltb c 0x800 ≡ u → (v : Bool) → ltb c 0x10000 ≡ v
          → (c < 55296) ⊎ ((57344 ≤ c) × (c < 1114112)) → Decodes (cond t (c ∷ []) (cond u ((192 + c / 64) ∷ U.next c ∷ [])
          (cond v ((224 + c / 4096) ∷ U.next (c / 64) ∷ U.next c ∷ []) ((240 + c / 262144) ∷ U.next (c / 4096) ∷ U.next (c / 64) ∷ U.next c ∷ []))) ++ bs)
      go true e u f v g s = one d (ltb-true c 0x80 e)
      go false e true f v g s =
          two (omega (arith, ltb-false c 0x80 e)) (omega (arith, ltb-true c 0x800 f)) (omega arith, omega arith)
      go false e false f true g s =
          let h : 0x800 ≤ c = ltb-false c 0x800 f in
          let k : c < 0x10000 = ltb-true c 0x10000 g in
          three (omega arith) (omega arith) (λ i. omega arith)
          (λ i. ⊎_elim (λ (j : c < 55296). omega arith) (λ (j : (57344 ≤ c) × (c < 1114112)). absurd (omega arith)) s)
          (omega arith, omega arith) (omega arith, omega arith)
      go false e false f false g s =
          let h : 0x10000 ≤ c = ltb-false c 0x10000 g in
          let k : c < 1114112 = ⊎_elim (λ (j : c < 55296). omega arith) (λ (j : (57344 ≤ c) × (c < 1114112)). j.1) s in
          four (omega arith) (omega arith) (λ i. omega arith) (λ i. omega arith)
          (omega arith, omega arith) (omega arith, omega arith) (omega arith, omega arith)

-- what the library calls UTF-8 is decoded
all_decoded : (cs : List ℕ) → scalars cs ≡ true → Decodes (U.encodes cs)
all_decoded [] e = decodes_none
all_decoded (c ∷ cs) e = let h = and_parts (scalar c) (scalars cs) e in encoded (all_decoded cs h.1) c h.0

-- ---- what is decoded the library calls UTF-8

-- a surrogate would begin with the byte 0xED and one that may not follow it
no_surrogate : (x : ℕ) (bs : List ℕ) (p : At) → 0x9F < x → decode fresh p (0xED ∷ x ∷ bs) ≡ none
unfolding decode
no_surrogate x bs p h = rw (decode, le-leb 0x80 x (omega arith), lt-leb x 0x9F h)

-- so the numbers of the characters are none
plain : (c : Ch) → Whole c → Coded c → scalar (code c) ≡ true
unfolding decode
plain c w q = go (ltb (code c) 0xD800) refl (leb 0xE000 (code c)) refl
  where
    none_some : {A : Type 0} {x : Ch} {xs : List Ch} → none ≡ some (x ∷ xs) → A
    none_some e = absurd cc

    go : (t : Bool) → ltb (code c) 0xD800 ≡ t → (u : Bool) → leb 0xE000 (code c) ≡ u → cond t true (u && ltb (code c) 0x110000) ≡ true
    go true e u f = refl
    go false e true f = lt-ltb _ _ q.small
    go false e false f =
        let h : 0xD800 ≤ code c = ltb-false _ _ e in
        let k : code c < 0xE000 = leb-false _ _ f in
        let b : 0xE0 + code c / 4096 ≡ 0xED = omega arith in
        let x : 0x9F < D.last_six (code c / 64) = omega arith in
        let i : D.encode (code c) ≡ 0xED ∷ D.last_six (code c / 64) ∷ D.last_six (code c) ∷ [] =
        rw (le-ltb (code c) 0x80 (omega arith), le-ltb (code c) 0x800 (omega arith), lt-ltb (code c) 0x10000 (omega arith), b) in
        let j = ap (λ (bs : List ℕ). decode fresh start (bs ++ [])) (sym i ∙ q.bytes) ∙ w start [] in
        none_some (sym (no_surrogate _ (D.last_six (code c) ∷ []) start x) ∙ j)

same_encode : (n : ℕ) → U.encode n ≡ D.encode n
unfolding U.encode
same_encode n = refl

spelt_scalars : (cs : List Ch) (p : At) (bs : List ℕ) → Spelt p bs cs → scalars (map code cs) ≡ true
spelt_scalars [] p bs s = refl
spelt_scalars (c ∷ cs) p bs s = and_from _ _ (plain c s.3.0 s.3.1) (spelt_scalars cs (beyond p c) s.0 s.4)

spelt_encodes : (cs : List Ch) (p : At) (bs : List ℕ) → Spelt p bs cs → U.encodes (map code cs) ≡ bs
spelt_encodes [] p bs s = sym s
spelt_encodes (c ∷ cs) p bs s =
    ap₂ ◌++◌ (same_encode (code c) ∙ s.3.1.bytes) (spelt_encodes cs (beyond p c) s.0 s.4) ∙ sym s.2

pub utf8_true : (bs : List ℕ) → IsUtf8 bs → utf8 bs ≡ true
unfolding utf8 characters
utf8_true bs (cs, h) = rw (sym h.1) ((all_decoded cs h.0).all start)

pub utf8_false : (bs : List ℕ) → (IsUtf8 bs → ⊥) → utf8 bs ≡ false
unfolding utf8
utf8_false bs n = go (characters bs) refl
  where
    go : (o : Option (List Ch)) → characters bs ≡ o → is_some o ≡ false
    go none e = refl
    go (some cs) e = let s = spelt bs cs e in absurd (n (map code cs, (spelt_scalars cs start bs s, spelt_encodes cs start bs s)))

-- and its characters are the same numbers
pub same_chars : (bs : List ℕ) (cs : List Ch) → characters bs ≡ some cs → chars bs ≡ map code cs
same_chars bs cs e =
    let s = spelt bs cs e in
    ap chars (sym (spelt_encodes cs start bs s)) ∙ chars-encodes (map code cs) (spelt_scalars cs start bs s)

pub utf8_ok : {T E : Type 0} (P : T → Type 0) (Q : E → Type 0) (r : Result T E) (bs : List ℕ)
    → MatchResult r (λ x. P x × IsUtf8 bs) (λ e. (¬ IsUtf8 bs) × Q e) → is_ok r ≡ utf8 bs
utf8_ok P Q (Ok x) bs h = sym (utf8_true bs h.1)
utf8_ok P Q (Err e) bs h = sym (utf8_false bs h.0)
