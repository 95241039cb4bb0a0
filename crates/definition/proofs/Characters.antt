-- The characters of a script: the bytes of each decode to it at any place and before any bytes. Hence the laws about
-- their places and offsets, and about UTF-8. Assumes nothing.
use mathlib.Core.Path.{◌≡◌, refl, sym, ap, ap₂, ◌∙◌, subst}
use mathlib.Core.Bool.{Bool, true, false, ◌&&◌}
use mathlib.Core.Option.{Option, none, some}
use mathlib.Core.List.{List, [], ◌∷◌, ◌++◌, map}
use Prim.Native.Nat.{ℕ, suc, ◌+◌, ◌<◌, ◌≤◌, pred}
use native.Mathlib.Omega.{arith}
use borrow.Author.Tests.{lt-ltb}
use lib.Dec.{eqb, leb}
use lib.ListN.{length, length-append, take, drop}
use lib.Seq.{append_snoc, take-append_seam, drop-append_seam, drop-drop}
use Rattle.definition.specs.Choice.{pick}
use Rattle.definition.specs.Classes.{between}
use Rattle.definition.specs.Source.{Place, At, Ch, Lead, single, with_more, wrong, lead, char_at, past, place_at, Pending, fresh, within, and_then, decode, start, characters, code, is_some, utf8}
use Rattle.definition.specs.Understood.{encode}
use Rattle.definition.proofs.Tests.{between_bounds, All}
use Rattle.definition.proofs.Codes.{Coded, coded_single, Completes, completes_end, completes_more, LeadCompletes, lead_completes}

-- ---- the bytes of a character

-- all bytes of a character
abbrev pub spelling : Ch → List ℕ
spelling c = c.byte ∷ c.more

-- the character at another place
abbrev pub at : At → Ch → Ch
at p c = char_at p c.byte c.more

-- where the character after it stands
abbrev pub beyond : At → Ch → At
beyond p c = past p c.byte c.more

-- the bytes of the character decode to it, at any place and before any bytes
abbrev pub Whole : Ch → Type 0
Whole c = (p : At) (bs : List ℕ) → decode fresh p (spelling c ++ bs) ≡ and_then (at p c) (decode fresh (beyond p c) bs)

-- what holds of each character that the decoder gives
abbrev pub Sound : Ch → Type 0
Sound c = Whole c × Coded c

-- the bytes are those of the characters, the first of which is at the place p
abbrev pub Spelt : At → List ℕ → List Ch → Type 0
Spelt p bs [] = bs ≡ []
Spelt p bs (c ∷ cs) = (rest : List ℕ) × (c ≡ at p c) × (bs ≡ spelling c ++ rest) × Sound c × Spelt (beyond p c) rest cs

abbrev SpeltOf : At → List ℕ → Option (List Ch) → Type 0
SpeltOf p bs none = Unit {0}
SpeltOf p bs (some cs) = Spelt p bs cs

-- the bytes of a character that is not yet complete
abbrev held : Pending → List ℕ
held fresh = []
held (within l m n lo hi) = l ∷ m

abbrev Reached : Pending → Type 0
Reached w = (p : At) (bs : List ℕ) → decode fresh p (held w ++ bs) ≡ decode w p bs

-- whatever bytes complete it, its number will be as its first byte says
abbrev Going : Pending → Type 0
Going fresh = Unit {0}
Going (within l m n lo hi) = Completes l m n lo hi

spelt_char : (p : At) (c : Ch) (bs rest : List ℕ) (o : Option (List Ch)) → bs ≡ spelling c ++ rest → Sound c
    → SpeltOf (beyond p c) rest o → SpeltOf p bs (and_then (at p c) o)
spelt_char p c bs rest none e w s = tt
spelt_char p c bs rest (some cs) e w s = (rest, refl, e, w, s)

spelt_from : (bs : List ℕ) (w : Pending) (p : At) → Reached w → Going w → SpeltOf p (held w ++ bs) (decode w p bs)
unfolding decode
spelt_from [] fresh p r g = refl
spelt_from [] (within l m n lo hi) p r g = tt
spelt_from (b ∷ bs) fresh p r g =
    go (lead b) refl (lead_completes b) (λ w q i. spelt_from bs w p q i) (spelt_from bs fresh (past p b []) (λ _ _. refl) tt)
  where
    go : (x : Lead) → lead b ≡ x → LeadCompletes b x
        → ((w : Pending) → Reached w → Going w → SpeltOf p (held w ++ bs) (decode w p bs))
        → SpeltOf (past p b []) bs (decode fresh (past p b []) bs)
        → SpeltOf p (b ∷ bs) (elim x as (λ _. Option (List Ch))
        [ single ↦ and_then (char_at p b []) (decode fresh (past p b []) bs) | with_more n lo hi ↦ decode (within b [] n lo hi) p bs | wrong ↦ none ])
    go single e i f s =
        spelt_char p (char_at p b []) (b ∷ bs) bs (decode fresh (past p b []) bs) refl
        (λ q cs. rw (decode, e), coded_single b i) s
    go (with_more n lo hi) e i f s = f (within b [] n lo hi) (λ q cs. rw (decode, e)) i
    go wrong e i f s = tt
spelt_from (b ∷ bs) (within l m n lo hi) p r g =
    go (leb lo b && leb b hi) refl (leb n 1) refl
    (spelt_from bs (within l (m ++ (b ∷ [])) (pred n) 0x80 0xBF) p)
    (spelt_from bs fresh (beyond p c) (λ _ _. refl) tt)
  where
    c : Ch
    c = char_at p l (m ++ (b ∷ []))

    -- with one more byte
    more : (bs' : List ℕ) → (l ∷ m ++ (b ∷ [])) ++ bs' ≡ (l ∷ m) ++ (b ∷ bs')
    more bs' = ap (λ (x : List ℕ). l ∷ x) (append_snoc m b bs')

    bounds : between lo hi b ≡ true → (lo ≤ b) × (b ≤ hi)
    bounds = between_bounds lo hi b

    go : (x : Bool) → leb lo b && leb b hi ≡ x → (y : Bool) → leb n 1 ≡ y
        → (Reached (within l (m ++ (b ∷ [])) (pred n) 0x80 0xBF) → Completes l (m ++ (b ∷ [])) (pred n) 0x80 0xBF
        → SpeltOf p ((l ∷ m ++ (b ∷ [])) ++ bs) (decode (within l (m ++ (b ∷ [])) (pred n) 0x80 0xBF) p bs))
        → SpeltOf (beyond p c) bs (decode fresh (beyond p c) bs)
        → SpeltOf p ((l ∷ m) ++ (b ∷ bs)) (elim x as (λ _. Option (List Ch)) [
          | true ↦ elim y as (λ _. Option (List Ch))
              [ true ↦ and_then c (decode fresh (beyond p c) bs) | false ↦ decode (within l (m ++ (b ∷ [])) (pred n) 0x80 0xBF) p bs ]
          | false ↦ none
        ])
    go true e true d f s =
        spelt_char p c ((l ∷ m) ++ (b ∷ bs)) bs (decode fresh (beyond p c) bs) (sym (more bs)) (
          λ q bs'. ap (decode fresh q) (more bs') ∙ r q (b ∷ bs') ∙ rw (decode, e, d),
          completes_end l m n lo hi b g (bounds e).0 (bounds e).1 d,
        )
        s
    go true e false d f s =
        subst (λ (x : List ℕ). SpeltOf p x (decode (within l (m ++ (b ∷ [])) (pred n) 0x80 0xBF) p bs))
        (more bs) (f (λ q bs'. ap (decode fresh q) (more bs') ∙ r q (b ∷ bs') ∙ rw (decode, e, d))
        (completes_more l m n lo hi b g (bounds e).0 (bounds e).1 d))
    go false e y d f s = tt

spelt_at : (p : At) (bs : List ℕ) (cs : List Ch) → decode fresh p bs ≡ some cs → Spelt p bs cs
spelt_at p bs cs e = subst (SpeltOf p bs) e (spelt_from bs fresh p (λ _ _. refl) tt)

-- the bytes of a script are those of its characters
pub spelt : (bs : List ℕ) (cs : List Ch) → characters bs ≡ some cs → Spelt start bs cs
unfolding characters
spelt bs cs e = spelt_at start bs cs e

spelt_coded : (cs : List Ch) (p : At) (bs : List ℕ) → Spelt p bs cs → All Coded cs
spelt_coded [] p bs s = tt
spelt_coded (c ∷ cs) p bs s = (s.3.1, spelt_coded cs (beyond p c) s.0 s.4)

-- each character that the decoder gives is coded
pub decode_coded : (p : At) (bs : List ℕ) (cs : List Ch) → decode fresh p bs ≡ some cs → All Coded cs
decode_coded p bs cs e = spelt_coded cs p bs (spelt_at p bs cs e)

-- the bytes of characters, by their numbers
abbrev pub encode_all : List Ch → List ℕ
encode_all [] = []
encode_all (c ∷ cs) = encode (code c) ++ encode_all cs

spelt_encoded : (cs : List Ch) (p : At) (bs : List ℕ) → Spelt p bs cs → encode_all cs ≡ bs
spelt_encoded [] p bs s = sym s
spelt_encoded (c ∷ cs) p bs s = ap₂ ◌++◌ s.3.1.bytes (spelt_encoded cs (beyond p c) s.0 s.4) ∙ sym s.2

-- the numbers of a script's characters give its bytes back
pub encoded : (bs : List ℕ) (cs : List Ch) → characters bs ≡ some cs → encode_all cs ≡ bs
encoded bs cs e = spelt_encoded cs start bs (spelt bs cs e)

-- ---- UTF-8 at any place

-- bytes that decode at any place
abbrev pub Utf8 : List ℕ → Type 0
Utf8 bs = (p : At) → is_some (decode fresh p bs) ≡ true

pub utf8_none : Utf8 []
unfolding decode
utf8_none p = refl

-- a character followed by UTF-8 is UTF-8
pub utf8_char : (c : Ch) (bs : List ℕ) → Whole c → Utf8 bs → Utf8 (spelling c ++ bs)
utf8_char c bs w u p = rw (w p bs) (there (decode fresh (beyond p c) bs) (u (beyond p c)))
  where
    there : (o : Option (List Ch)) → is_some o ≡ true → is_some (and_then (at p c) o) ≡ true
    there none e = e
    there (some cs) e = refl

single_whole : (b : ℕ) (p : At) → b < 128 → Whole (char_at p b [])
unfolding decode lead
single_whole b p h q bs = rw (decode, lead, lt-ltb b 128 h)

pub utf8_byte : (b : ℕ) (bs : List ℕ) → b < 128 → Utf8 bs → Utf8 (b ∷ bs)
utf8_byte b bs h u = utf8_char (char_at start b []) bs (single_whole b start h) u

pub utf8_true : (bs : List ℕ) → Utf8 bs → utf8 bs ≡ true
unfolding utf8
utf8_true bs u = u start

-- ---- columns count characters

-- the places of characters with these first bytes, where the first is at line l and column c
abbrev pub places : ℕ → ℕ → List ℕ → List Place
places l c [] = []
places l c (b ∷ bs) = place_at l c ∷ pick (eqb b 10) (places (suc l) 1 bs) (places l (suc c) bs)

spelt_places : (cs : List Ch) (o l c : ℕ) (bs : List ℕ) → Spelt (record { offset = o; place = place_at l c }) bs cs
    → map (λ x. x.place) cs ≡ places l c (map (λ x. x.byte) cs)
spelt_places [] o l c bs s = refl
spelt_places (x ∷ cs) o l c bs s =
    ap₂ ◌∷◌ (ap (λ (y : Ch). y.place) s.1) (go (eqb x.byte 10) s.4 (λ m d t. spelt_places cs _ m d s.0 t))
  where
    next : ℕ
    next = suc (length x.more) + o

    go : (b : Bool)
        → Spelt (record { offset = next; place = pick b (place_at (suc l) 1) (place_at l (suc c)) }) s.0 cs
        → ((m d : ℕ) → Spelt (record { offset = next; place = place_at m d }) s.0 cs
        → map (λ y. y.place) cs ≡ places m d (map (λ y. y.byte) cs))
        → map (λ y. y.place) cs ≡ pick b (places (suc l) 1 (map (λ y. y.byte) cs)) (places l (suc c) (map (λ y. y.byte) cs))
    go true t f = f (suc l) 1 t
    go false t f = f l (suc c) t

-- a script's first character is at 1:1, each other one column after the one before, or first in the next line
pub columns_count_characters : (s : List ℕ) (cs : List Ch) → characters s ≡ some cs
    → map (λ x. x.place) cs ≡ places 1 1 (map (λ x. x.byte) cs)
columns_count_characters s cs e = spelt_places cs 0 1 1 s (spelt s cs e)

-- ---- offsets

-- from the offset o to the end of the bytes each character's bytes stand at its offset, one character right after the other
abbrev pub Laid : List ℕ → ℕ → List Ch → Type 0
Laid bs o [] = o ≡ length bs
Laid bs o (c ∷ cs) = (c.offset ≡ o) × (take (length (spelling c)) (drop o bs) ≡ spelling c) × Laid bs (length (spelling c) + o) cs

spelt_laid : (cs : List Ch) (p : At) (bs ds : List ℕ) → drop p.offset bs ≡ ds → p.offset + length ds ≡ length bs → Spelt p ds cs
    → Laid bs p.offset cs
spelt_laid [] p bs ds e h s = omega (arith, h, ap length s)
spelt_laid (c ∷ cs) p bs ds e h s =
    let n = length (spelling c) in
    let l : p.offset + n ≡ n + p.offset = omega arith in
    let k : length ds ≡ n + length s.0 = omega (arith, simp length-append at (ap length s.2)) in (
      ap (λ (x : Ch). x.offset) s.1,
      ap (take n) (e ∙ s.2) ∙ take-append_seam (spelling c) s.0,
      spelt_laid cs (beyond p c) bs s.0
          (ap (λ (i : ℕ). drop i bs) (sym l) ∙ sym (drop-drop n p.offset bs) ∙ ap (drop n) (e ∙ s.2) ∙ drop-append_seam (spelling c) s.0)
          (omega (arith, h, k)) s.4,
    )

-- a script's first character is at 0, and each after the bytes of the previous
pub offsets_count_bytes : (s : List ℕ) (cs : List Ch) → characters s ≡ some cs → Laid s 0 cs
offsets_count_bytes s cs e = spelt_laid cs start s s refl (omega arith) (spelt s cs e)
