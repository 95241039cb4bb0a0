-- A text that is ASCII is UTF-8. Assumes nothing.
use mathlib.Core.Path.{◌≡◌, refl, sym, ap, ◌∙◌, subst}
use mathlib.Core.Bool.{Bool, true, false}
use mathlib.Core.Option.{Option, none, some}
use mathlib.Core.List.{List, [], ◌∷◌}
use Prim.Native.Nat.{ℕ, zero, suc, ◌+◌, ◌-◌, ◌≤◌, ◌<◌}
use native.Mathlib.Omega.{arith}
use borrow.Author.Tests.{lt-ltb, ltb-true, ltb-false}
use lib.Dec.{ltb}
use lib.ListN.{length, drop, get_or, drop_of_length-le}
use lib.Seq.{drop-cons}
use Rattle.definition.specs.Choice.{first}
use Rattle.definition.specs.Source.{Ch, At, start, past, char_at, lead, and_then, fresh, decode, is_some, utf8}
use Rattle.std.specs.Int.Bits.{bit_or}
use Rattle.std.proofs.lemmas.Nat.{le_or_l, le_or_r}
use Rattle.stored.specs.Parts.{Bounded, Ascii}

pub ascii_start : (bs : List ℕ) → Ascii bs 0
unfolding utf8
ascii_start bs = record { place = start; same = refl }

kept : (c : Ch) (o : Option (List Ch)) → is_some (and_then c o) ≡ is_some o
kept c none = refl
kept c (some cs) = refl

one_byte : (p : At) (b : ℕ) (bs : List ℕ) → b < 0x80
    → is_some (decode fresh p (b ∷ bs)) ≡ is_some (decode fresh (past p b []) bs)
unfolding decode lead first
one_byte p b bs h = rw (decode, lead, first, lt-ltb b 0x80 h) (kept (char_at p b []) (decode fresh (past p b []) bs))

pub ascii_more : {bs : List ℕ} {i : ℕ} → Ascii bs i → i < length bs → get_or bs i 0 < 0x80 → Ascii bs (i + 1)
ascii_more {bs} {i} a l h =
    let one : suc i ≡ i + 1 = omega arith in
    let next : drop i bs ≡ get_or bs i 0 ∷ drop (i + 1) bs = drop-cons bs i 0 l ∙ ap (λ k. get_or bs i 0 ∷ drop k bs) one in
    record {
      place = past a.place (get_or bs i 0) [];
      same = a.same ∙ ap (λ cs. is_some (decode fresh a.place cs)) next ∙ one_byte a.place (get_or bs i 0) (drop (i + 1) bs) h;
    }

pub ascii_end : {bs : List ℕ} {i : ℕ} → Ascii bs i → length bs ≤ i → utf8 bs ≡ true
unfolding decode
ascii_end {bs} {i} a l = a.same ∙ ap (λ cs. is_some (decode fresh a.place cs)) (drop_of_length-le bs {i = i} l)

-- as many more as no byte is above n
pub ascii_on : (bs : List ℕ) (i at k n m : ℕ) → Ascii bs i → Bounded bs at k n → n < 0x80 → at ≤ i
    → i + m ≤ at + k → i + m ≤ length bs → Ascii bs (i + m)
ascii_on bs i at k n zero a b h x y l = subst (Ascii bs) (omega arith) a
ascii_on bs i at k n (suc m) a b h x y l =
    let c : Ascii bs (i + m) = ascii_on bs i at k n m a b h x (omega arith) (omega arith) in
    let same : at + (i + m - at) ≡ i + m = omega arith in
    let low : get_or bs (i + m) 0 < 0x80 =
    subst (λ j. get_or bs j 0 < 0x80) same (omega (arith, b (i + m - at) (omega arith))) in
    subst (Ascii bs) (omega arith) (ascii_more c (omega arith) low)

-- ---- the bits of bytes

pub bounded_start : (bs : List ℕ) (at : ℕ) → Bounded bs at 0 0
bounded_start bs at j h = absurd (omega arith)

pub bounded_more : (bs : List ℕ) (at k n : ℕ) → Bounded bs at k n
    → Bounded bs at (k + 1) (bit_or n (get_or bs (at + k) 0))
bounded_more bs at k n b j h = go (ltb j k) refl
  where
    go : (t : Bool) → ltb j k ≡ t → get_or bs (at + j) 0 ≤ bit_or n (get_or bs (at + k) 0)
    go true e = omega (arith, b j (ltb-true j k e), le_or_l n (get_or bs (at + k) 0))
    go false e =
        let same : j ≡ k = omega (arith, ltb-false j k e, h) in
        subst (λ i. get_or bs (at + i) 0 ≤ bit_or n (get_or bs (at + k) 0)) (sym same) (le_or_r n (get_or bs (at + k) 0))
