-- One step of a cursor, in terms of the decoder. Assumes nothing.
use mathlib.Core.Path.{◌≡◌, refl, sym, ap, ◌∙◌, subst}
use mathlib.Core.Bool.{Bool, true, false, ◌&&◌}
use mathlib.Core.List.{List, [], ◌∷◌, ◌++◌, append_assoc}
use mathlib.Core.Option.{Option, none, some}
use Prim.Native.Nat.{ℕ, zero, suc, pred, ◌+◌, ◌-◌, ◌<◌, ◌≤◌}
use native.Mathlib.Numerals.{add-one}
use native.Mathlib.Omega.{arith}
use borrow.Author.Tests.{leb-true, leb-false, lt-ltb, le-ltb, ne_eqb}
use lib.Dec.{eqb, ltb, leb}
use lib.ListN.{length, get_or, take, drop, length-drop, drop_of_length-le}
use lib.Seq.{drop-cons, drop-drop, length-take-le}
use Rattle.definition.specs.Source.{At, Ch, Lead, single, with_more, wrong, lead, after, char_at, past, fresh, within, and_then, decode, characters, six_more, code, is_some, utf8}
use Rattle.definition.specs.Choice.{pick, first}
use Rattle.definition.proofs.Tests.{All}
use Rattle.definition.proofs.Codes.{Coded, coded_first, coded_foreign, coded_second}
use Rattle.definition.specs.declared.refusal.Refusal.{Refusal}
use Rattle.std.specs.Prelude.{Ok, Err}
use Rattle.definition.proofs.Characters.{decode_coded}
use Rattle.source.specs.declared.Cursor.{Cursor}
use Rattle.source.specs.Place.{more, placed, at_of, or_none, rest, Stands, Stepped, CodeAt, char, along_line, origin}

abbrev pub Small : Lead → Type 0
Small single = Unit {0}
Small (with_more n lo hi) = (1 ≤ n) × (n ≤ 3) × (128 ≤ lo)
Small wrong = Unit {0}

pick_small : (t : Bool) (x y : Lead) → Small x → Small y → Small (pick t x y)
pick_small true x y p q = p
pick_small false x y p q = q

pub lead_small : (b : ℕ) → Small (lead b)
unfolding lead first
lead_small b =
    pick_small (ltb b 128) _ _ tt
    (pick_small (ltb b 194) _ _ tt (pick_small (ltb b 224) _ _ (omega arith) (pick_small (eqb b 224) _ _ (omega arith)
    (pick_small (eqb b 237) _ _ (omega arith) (pick_small (ltb b 240) _ _ (omega arith) (pick_small (eqb b 240) _ _ (omega arith) (pick_small (ltb b 244) _ _ (omega arith)
    (pick_small (eqb b 244) _ _ (omega arith) tt))))))))

abbrev pub after_lead : At → ℕ → List ℕ → Lead → Option (List Ch)
after_lead p b bs x =
    elim x
    [ single ↦ and_then (char_at p b []) (decode fresh (past p b []) bs) | with_more n lo hi ↦ decode (within b [] n lo hi) p bs | wrong ↦ none ]

abbrev pub after_more : ℕ → List ℕ → ℕ → At → ℕ → List ℕ → Bool → Bool → Option (List Ch)
after_more l m n p b bs t u =
    elim t [
      | true ↦ elim u [
        | true ↦ and_then (char_at p l (m ++ (b ∷ []))) (decode fresh (past p l (m ++ (b ∷ []))) bs)
        | false ↦ decode (within l (m ++ (b ∷ [])) (pred n) 128 191) p bs
      ]
      | false ↦ none
    ]

-- ---- one step of a cursor

-- a character ends after n bytes, and the others follow it
pub record Ended (bs : List ℕ) (n : ℕ) (ch : Ch) (p : At) (cs : List Ch) : Type 0 where
  pub fits : n ≤ length bs
  pub next_token : cs ≡ ch ∷ or_none (decode fresh p (drop n bs))
  pub tail : decode fresh p (drop n bs) ≡ some (or_none (decode fresh p (drop n bs)))

pub none_some : {A : Type 0} {x : Option (List Ch)} {cs : List Ch} → x ≡ none → x ≡ some cs → A
none_some e f = absurd (let z : ◌≡◌ {A = ℕ} 0 1 = cc in omega arith)

pub and_then_head : (c : Ch) (o : Option (List Ch)) (cs : List Ch) → and_then c o ≡ some cs → cs ≡ c ∷ or_none o
and_then_head c none cs e = none_some {x = none} refl e
and_then_head c (some xs) cs e = cc

pub and_then_tail : (c : Ch) (o : Option (List Ch)) (cs : List Ch) → and_then c o ≡ some cs → o ≡ some (or_none o)
and_then_tail c none cs e = none_some {x = none} refl e
and_then_tail c (some xs) cs e = refl

Within : List ℕ → Type 0
Within bs =
    (l : ℕ) (m : List ℕ) (n lo hi : ℕ) (p : At) (cs : List Ch) → 1 ≤ n
    → decode (within l m n lo hi) p bs ≡ some cs
    → Ended bs n (char_at p l (m ++ take n bs)) (past p l (m ++ take n bs)) cs

within_tests : (b : ℕ) (bs : List ℕ) → Within bs → (l : ℕ) (m : List ℕ) (k : ℕ) (p : At) (cs : List Ch) (t u : Bool)
    → leb (suc k) 1 ≡ u → after_more l m (suc k) p b bs t u ≡ some cs →
    Ended (b ∷ bs) (suc k) (char_at p l (m ++ take (suc k) (b ∷ bs))) (past p l (m ++ take (suc k) (b ∷ bs))) cs
unfolding Within
within_tests b bs ih l m k p cs false u e f = none_some {x = none} refl f
within_tests b bs ih l m zero p cs true true e f =
    record {
      fits = omega arith;
      next_token = and_then_head _ (decode fresh (past p l (m ++ (b ∷ []))) bs) _ f;
      tail = and_then_tail (char_at p l (m ++ (b ∷ []))) (decode fresh (past p l (m ++ (b ∷ []))) bs)
          _ f;
    }
within_tests b bs ih l m (suc j) p cs true true e f = absurd (omega (arith, leb-true (suc (suc j)) 1 e))
within_tests b bs ih l m k p cs true false e f =
    let g = ih l (m ++ (b ∷ [])) k 128 191 p cs (omega (arith, leb-false (suc k) 1 e)) f in
    record { fits = omega (arith, g.fits); next_token = rw append_assoc at g.next_token; tail = rw append_assoc at g.tail }

within_law : (bs : List ℕ) → Within bs
unfolding Within decode
within_law [] l m n lo hi p cs h e = none_some {x = none} refl e
within_law (b ∷ bs) l m zero lo hi p cs h e = absurd (omega arith)
within_law (b ∷ bs) l m (suc k) lo hi p cs h e = within_tests b bs (within_law bs) l m k p cs (leb lo b && leb b hi) (leb (suc k) 1) refl e

fresh_lead : (b : ℕ) (bs : List ℕ) (p : At) (cs : List Ch) (x : Lead) → Small x → after_lead p b bs x ≡ some cs
    → Ended bs (more x) (char_at p b (take (more x) bs)) (past p b (take (more x) bs)) cs
unfolding Within
fresh_lead b bs p cs single h e =
    record {
      fits = omega arith;
      next_token = and_then_head _ (decode fresh (past p b []) bs) _ e;
      tail = and_then_tail (char_at p b []) (decode fresh (past p b []) bs) _ e;
    }
fresh_lead b bs p cs (with_more n lo hi) h e = within_law bs b [] n lo hi p cs h.0 e
fresh_lead b bs p cs wrong h e = none_some {x = none} refl e

decode_step : (b : ℕ) (bs : List ℕ) (p : At) (cs : List Ch) → decode fresh p (b ∷ bs) ≡ some cs
    → Ended bs (more (lead b)) (char_at p b (take (more (lead b)) bs)) (past p b (take (more (lead b)) bs)) cs
unfolding decode
decode_step b bs p cs e = fresh_lead b bs p cs (lead b) (lead_small b) e

module _ {s : List ℕ} {c : Cursor} (z : Stands s c) (h : c.at < length s) where
  -- where the next character stands
  abbrev next : At
  next = past (at_of c) (get_or s c.at 0) (take (more (lead (get_or s c.at 0))) (drop (c.at + 1) s))

  here : Ended (drop (c.at + 1) s) (more (lead (get_or s c.at 0))) (char s c) next (rest s c)
  here = rw add-one (decode_step _ _ _ _ (rw (drop-cons s c.at 0 h) at z.is))

  -- the characters from the cursor on begin with the character there
  pub rest_head : rest s c ≡ char s c ∷ or_none (decode fresh next (drop (more (lead (get_or s c.at 0))) (drop (c.at + 1) s)))
  rest_head = here.next_token

  -- the character at the cursor ends within the script
  pub step_inside : c.at + (more (lead (get_or s c.at 0)) + 1) ≤ length s
  step_inside = omega (arith, here.fits, length-drop (c.at + 1) s)

  -- a cursor with the next offset and place is a step
  pub step_law : {r : Cursor} → r.at ≡ c.at + (more (lead (get_or s c.at 0)) + 1)
      → placed r ≡ after (get_or s c.at 0) (placed c) → r.line ≤ c.line + 1 → r.column ≤ c.column + 1
      → Stepped s c r
  unfolding rest
  step_law {r} e f g k =
      let q : c.at + 1 + more (lead (get_or s c.at 0)) ≡ r.at = omega arith in
      let d : drop (more (lead (get_or s c.at 0))) (drop (c.at + 1) s) ≡ drop r.at s = drop-drop
      (more (lead (get_or s c.at 0))) (c.at + 1) s ∙ ap (λ (n : ℕ). drop n s) q in
      let o : suc (length (take (more (lead (get_or s c.at 0))) (drop (c.at + 1) s))) + c.at ≡ r.at =
      omega (arith, length-take-le (more (lead (get_or s c.at 0))) (drop (c.at + 1) s) here.fits) in
      record {
        chars = rw (d, sym f, o) at here.next_token;
        stands =
            record {
              is = rw (d, sym f, o) at here.tail;
              inside = omega (arith, step_inside);
              lined = omega (arith, z.lined);
              columned = omega (arith, z.columned);
            };
        wide = omega arith;
      }

-- a character of one byte
pub ascii_lead : (b : ℕ) → b < 128 → more (lead b) ≡ 0
unfolding lead first
ascii_lead b l = rw (lt-ltb b 128 l)

pub ascii_code : (s : List ℕ) (c : Cursor) → get_or s c.at 0 < 128 → code (char s c) ≡ get_or s c.at 0
ascii_code s c l = rw (ascii_lead _ l) refl

-- the step over a character of one byte that is not a newline
pub along_law : {s : List ℕ} {c r : Cursor} → Stands s c → c.at < length s → get_or s c.at 0 < 128
    → (get_or s c.at 0 ≡ 10 → ⊥) → r ≡ along_line c 1 → Stepped s c r
along_law {s} {c} {r} z h l n e =
    rw e (step_law z h (omega (arith, ascii_lead _ l)) (rw (ne_eqb (get_or s c.at 0) 10 n, add-one)) (omega arith) (omega arith))

pub along_next : (c : Cursor) (n : ℕ) → along_line c (n + 1) ≡ along_line (along_line c n) 1
along_next c n =
    let a : c.at + (n + 1) ≡ c.at + n + 1 = omega arith in
    let k : c.column + (n + 1) ≡ c.column + n + 1 = omega arith in
    λ i. record { at = a i; line = c.line; column = k i }

-- the start of a UTF-8 script is a valid cursor
pub at_start : (s : List ℕ) {v : Bool} → v ≡ utf8 s → v ≡ true → Stands s origin
unfolding utf8 characters rest
at_start s e n = record { is = go _ (sym e ∙ n); inside = omega arith; lined = omega arith; columned = omega arith }
  where
    go : (o : Option (List Ch)) → is_some o ≡ true → o ≡ some (or_none o)
    go none f = absurd (let z : ◌≡◌ {A = ℕ} 0 1 = cc in omega arith)
    go (some cs) f = refl

pub no_characters : (s : List ℕ) {v : Bool} → v ≡ utf8 s → v ≡ false → characters s ≡ none
unfolding utf8
no_characters s e n = go (characters s) (sym e ∙ n)
  where
    go : (o : Option (List Ch)) → is_some o ≡ false → o ≡ none
    go none f = refl
    go (some cs) f = absurd (let z : ◌≡◌ {A = ℕ} 0 1 = cc in omega arith)

-- each character from there on is coded
pub stands_coded : {s : List ℕ} {c : Cursor} → Stands s c → All Coded (rest s c)
stands_coded {s} {c} z = decode_coded (at_of c) (drop c.at s) (rest s c) z.is

-- ---- the number of the character at a cursor

module _ {s : List ℕ} {c : Cursor} (z : Stands s c) (h : c.at < length s) where
  pub coded_here : Coded (char s c)
  coded_here = (subst (All Coded) (rest_head z h) (stands_coded z)).0

  pub code_ascii : get_or s c.at 0 < 128 → CodeAt s c (Ok (get_or s c.at 0))
  code_ascii l = (sym (ascii_code s c l), rw (ascii_code s c l, le-ltb 255 (get_or s c.at 0) (omega (arith, l))) refl)

  pub code_foreign : 0xC3 < get_or s c.at 0 → CodeAt s c (Err Refusal.ForeignCharacter)
  code_foreign l = (refl, coded_foreign coded_here l)

  -- a character of two bytes
  module _ (a : 128 ≤ get_or s c.at 0) (u : get_or s c.at 0 ≤ 0xC3) where
    pub first_low : 0xC2 ≤ get_or s c.at 0
    first_low = coded_first coded_here a

    two_lead : more (lead (get_or s c.at 0)) ≡ 1
    unfolding lead first
    two_lead =
        rw (le-ltb (get_or s c.at 0) 0x80 a, le-ltb (get_or s c.at 0) 0xC2 first_low, lt-ltb (get_or s c.at 0) 0xE0 (omega (arith, u)))

    pub second_inside : c.at + 1 < length s
    second_inside = omega (arith, step_inside z h, two_lead)

    second : (char s c).more ≡ get_or s (c.at + 1) 0 ∷ []
    second = rw (two_lead, drop-cons s (c.at + 1) 0 second_inside) refl

    pub second_bounds : get_or s (c.at + 1) 0 < 256 → (0x80 ≤ get_or s (c.at + 1) 0) × (get_or s (c.at + 1) 0 ≤ 0xBF)
    second_bounds k = coded_second (rw second at coded_here) first_low u k

    pub code_two : get_or s (c.at + 1) 0 < 256 → CodeAt s c (Ok (six_more (get_or s c.at 0 - 0xC0) (get_or s (c.at + 1) 0)))
    code_two k =
        let b = second_bounds k in
        rw second (refl, le-ltb 255 (six_more (get_or s c.at 0 - 0xC0) (get_or s (c.at + 1) 0)) (omega (arith, b, u)))

-- no characters are left at the end
pub rest_end : (s : List ℕ) (c : Cursor) → length s ≤ c.at → rest s c ≡ []
unfolding rest decode
rest_end s c h = rw (drop_of_length-le s h)
