-- Demand 3 (docs/FORMAT.md, Two scripts with one tree): the theorem. Assumes nothing.
use mathlib.Core.Path.{◌≡◌, refl, sym, ap, ap₂, ◌∙◌, subst}
use mathlib.Core.Bool.{Bool, true, false, ◌&&◌, ◌||◌}
use mathlib.Core.List.{List, [], ◌∷◌, ◌++◌, map}
use Prim.Native.Nat.{ℕ, ◌<◌}
use native.Mathlib.Omega.{arith}
use lib.Dec.{eqb}
use lib.ListN.{length}
use borrow.Author.Tests.{eqb-true}
use lib.Seq.{take_at}
use Rattle.definition.specs.Choice.{pick}
use Rattle.definition.specs.Node.{u16, field, recs_bytes}
use Rattle.definition.specs.Fallible.{Err}
use Rattle.definition.specs.Kind as K
use Rattle.definition.specs.Token.{Tok, number}
use Rattle.definition.specs.Act.{Role, plain, group, final, size, Consumed}
use Rattle.definition.specs.Losses.{losses, parse_tokens}
use Rattle.definition.specs.Pieces.{LostNothing}
use Rattle.definition.specs.Records.{has_text}
use Rattle.definition.specs.Operations.{file_bytes, whole}
use Rattle.definition.specs.Demand.{tree, full_entries, file_of, tokens_of_script, read_by, reading, is_modifier, is_struck, strike, is_size, value, Same, Agree, none_left, one_more, OneReading}
use Rattle.definition.proofs.Tests.{never_both, All, all_map}
use Rattle.definition.proofs.Later.{toks}
use Rattle.definition.proofs.Strip.{Norm, symbol, named, integer, sized, is_named, spelling, norm, strip}
use Rattle.definition.proofs.Unique.{unique}
use Rattle.definition.proofs.LeavesStatements.{module_leaves}
use Rattle.definition.proofs.Fit.{Fit, leaves_fit}
use Rattle.definition.proofs.ErrorsMade.{Kept, errors_fine}
use Rattle.definition.proofs.Pieces.{shared}
use Rattle.definition.proofs.Inject.{same_tree, Both}
use Rattle.definition.proofs.Formed.{Formed}
use Rattle.definition.proofs.Tokens.{Good}
use Rattle.definition.proofs.Accepted.{Accepted, accepted}
use Rattle.definition.proofs.Room.{all_read, recs_length, light}
use Rattle.definition.proofs.Fields.{tree_of_file, entries_of_file}

-- ---- the stripped tokens determine the tokens, up to the spelling of array sizes

-- the stripped form of a token that is not struck
tell : Role → Tok → Norm
tell r t = pick (is_size r) (sized t.kind (number t.base 0 t.text)) (spelling t)

-- the stripped forms of the tokens that are left
told : List Consumed → List Norm
told cs = map (λ c. tell c.role c.tok) cs

module _ (t : Tok) (xs : List Norm) (cs : List Consumed) (h : xs ≡ told cs) where
  unless : (r : Role) (n : Norm) → tell r t ≡ n → (m : Bool)
      → pick m [] (n ∷ []) ++ xs
      ≡ told (elim m as (λ _. List Consumed) [ true ↦ cs | false ↦ record { tok = t; role = r } ∷ cs ])
  unfolding told
  unless r n e true = h
  unless r n e false = cc

  one_told : (r : Role)
      → norm r t ++ xs
      ≡ told (elim (is_struck r t.kind) as (λ _. List Consumed)
      [ true ↦ cs | false ↦ record { tok = t; role = r } ∷ cs ])
  unfolding tell
  one_told plain = unless plain (spelling t) refl (is_modifier t.kind)
  one_told group = h
  one_told final = h
  one_told size = unless size (sized t.kind (number t.base 0 t.text)) refl (is_modifier t.kind)

strip_told : (cs : List Consumed) → strip cs ≡ told (strike cs)
unfolding strip strike told
strip_told [] = refl
strip_told (c ∷ cs) = one_told c.tok (strip cs) (strike cs) (strip_told cs) c.role

no_text : (a b c d : Bool) → a || c || d ≡ false → b ≡ false → a || b || c || d ≡ false
no_text true b c d h k = h
no_text false true c d h k = k
no_text false false c d h k = h

untexted : (t : Tok) → is_named t.kind ≡ false → eqb t.kind K.Integer ≡ false → has_text t.kind ≡ false
untexted t h k =
    no_text (eqb t.kind K.Identifier) (eqb t.kind K.Integer) (eqb t.kind K.String)
    (eqb t.kind K.InlineAssemblyFragment) h k

-- the four forms are distinct
form : Norm → ℕ
form (symbol k) = 0
form (named k x) = 1
form (integer k x) = 2
form (sized k x) = 3

clash : {x y : Norm} {A : Type 0} → x ≡ y → (form x ≡ form y → ⊥) → A
clash e f = absurd (f (ap form e))

-- only an Integer has a base
baseless : (t : Tok) → Formed t → eqb t.kind K.Integer ≡ false → t.base ≡ 0
baseless t f e = eqb-true t.base 0 (rw e at f.base)

named_baseless : (t : Tok) → Formed t → is_named t.kind ≡ true → t.base ≡ 0
named_baseless t f n = go (eqb t.kind K.Integer) refl
  where
    go : (b : Bool) → eqb t.kind K.Integer ≡ b → t.base ≡ 0
    go true e = never_both n (rw (eqb-true t.kind K.Integer e))
    go false e = baseless t f e

-- the spelling determines the kind, the text and the base
abbrev Spelt : Tok → Tok → Type 0
Spelt t u = (t.kind ≡ u.kind) × (t.text ≡ u.text) × (t.base ≡ u.base)

spelt : (t u : Tok) → Formed t → Formed u → spelling t ≡ spelling u → Spelt t u
unfolding form
spelt t u a b e =
    go (is_named t.kind) (eqb t.kind K.Integer) (is_named u.kind) (eqb u.kind K.Integer) refl refl refl refl e
  where
    go : (p q r v : Bool)
        → is_named t.kind ≡ p → eqb t.kind K.Integer ≡ q → is_named u.kind ≡ r → eqb u.kind K.Integer ≡ v
        → pick p (named t.kind t.text) (pick q (integer t.base t.text) (symbol t.kind))
        ≡ pick r (named u.kind u.text) (pick v (integer u.base u.text) (symbol u.kind))
        → Spelt t u
    go true q true v x y z w e = (cc, cc, named_baseless t a x ∙ sym (named_baseless u b z))
    go true q false true x y z w e = clash e (λ n. omega arith)
    go true q false false x y z w e = clash e (λ n. omega arith)
    go false true true v x y z w e = clash e (λ n. omega arith)
    go false true false true x y z w e = (eqb-true _ _ y ∙ sym (eqb-true _ _ w), cc, cc)
    go false true false false x y z w e = clash e (λ n. omega arith)
    go false false true v x y z w e = clash e (λ n. omega arith)
    go false false false true x y z w e = clash e (λ n. omega arith)
    go false false false false x y z w e =
        (cc, a.textless (untexted t x y) ∙ sym (b.textless (untexted u z w)), baseless t a y ∙ sym (baseless u b w))

spelling_form : (t : Tok) → form (spelling t) < 3
unfolding form
spelling_form t = go (is_named t.kind) (eqb t.kind K.Integer)
  where
    go : (p q : Bool) → form (pick p (named t.kind t.text) (pick q (integer t.base t.text) (symbol t.kind))) < 3
    go true q = omega arith
    go false true = omega arith
    go false false = omega arith

same_told : (c d : Consumed) → Formed c.tok → Formed d.tok → tell c.role c.tok ≡ tell d.role d.tok → Same c d
unfolding tell form
same_told c d a b e = go (is_size c.role) (is_size d.role) refl refl e
  where
    go : (p q : Bool) → is_size c.role ≡ p → is_size d.role ≡ q
        → pick p (sized c.tok.kind (value c)) (spelling c.tok)
        ≡ pick q (sized d.tok.kind (value d)) (spelling d.tok)
        → Same c d
    go true true x y e =
        let n = ap₂ ◌&&◌ x y in record { kind = cc; text = λ h. never_both n h; base = λ h. never_both n h; value = λ h. cc }
    go true false x y e = clash e (λ n. omega (arith, spelling_form d.tok))
    go false true x y e = clash e (λ n. omega (arith, spelling_form c.tok))
    go false false x y e =
        let z : Spelt c.tok d.tok = spelt c.tok d.tok a b e in
        record { kind = z.0; text = λ h. z.1; base = λ h. z.2; value = λ h. never_both h (ap₂ ◌&&◌ x y) }

told_agree : (cs ds : List Consumed) → All Formed (toks cs) → All Formed (toks ds) → told cs ≡ told ds → Agree cs ds
unfolding told
told_agree [] [] a b e = none_left
told_agree [] (d ∷ ds) a b e = let z : ◌≡◌ {A = ℕ} 0 1 = cc in absurd (omega arith)
told_agree (c ∷ cs) [] a b e = let z : ◌≡◌ {A = ℕ} 0 1 = cc in absurd (omega arith)
told_agree (c ∷ cs) (d ∷ ds) a b e = one_more (same_told c d a.0 b.0 cc) (told_agree cs ds a.1 b.1 cc)

formed_strike : (cs : List Consumed) → All Formed (toks cs) → All Formed (toks (strike cs))
unfolding strike
formed_strike [] a = tt
formed_strike (c ∷ cs) a = go (is_struck c.role c.tok.kind) (formed_strike cs a.1)
  where
    go : (b : Bool) → All Formed (toks (strike cs))
        → All Formed (toks (elim b as (λ _. List Consumed) [ true ↦ strike cs | false ↦ c ∷ strike cs ]))
    go true h = h
    go false h = (a.0, h)

-- ---- the theorem

module _ (s o : List ℕ) (a : Accepted s o) where
  -- the file of an accepted script has the bytes of its errors and items
  pub file_is : file_of s o ≡ file_bytes a.errors a.items a.last.full
  file_is = rw (a.bytes, a.file) (take_at _ _ _ refl)

  -- the tokens of an accepted script are those that were parsed
  pub tokens_are : tokens_of_script s ≡ a.toks
  unfolding tokens_of_script
  tokens_are = rw (tokens_of_script, a.decoded, a.tokenised)

  reading_is : reading s ≡ a.last.read
  unfolding reading
  reading_is = ap read_by (ap parse_tokens tokens_are ∙ a.parsed)

  reading_own : map (λ c. c.tok) (reading s) ≡ tokens_of_script s
  reading_own = ap toks reading_is ∙ all_read a.toks a.made.kinds a.items a.last a.parsed ∙ sym tokens_are

  clean : full_entries (file_of s o) ≡ 0 → a.last.full ≡ []
  clean h =
      none_of a.last.full
      (sym (entries_of_file a.errors a.items a.last.full (omega (arith, (light a).0)))
      ∙ ap full_entries (sym file_is) ∙ h)
    where
      none_of : (es : List Err) → length es ≡ 0 → es ≡ []
      none_of [] h = refl
      none_of (e ∷ es) h = absurd (omega arith)

  lost_nothing : full_entries (file_of s o) ≡ 0 → LostNothing s
  lost_nothing h =
      let k : Kept (losses a.toks) a.last.full = errors_fine a.toks (a.made.good, a.made.tokens) a.items a.last a.parsed in
      record {
        chars = a.chars;
        toks = a.toks;
        errors = a.errors;
        decoded = a.decoded;
        tokenised = a.tokenised;
        shared = shared s a.chars a.toks a.errors a.decoded a.tokenised (first_none (losses a.toks) k.made (sym k.full ∙ clean h));
      }
    where
      first_none : (xs ys : List Err) → xs ++ ys ≡ [] → xs ≡ []
      first_none [] ys e = refl
      first_none (x ∷ xs) ys e = absurd (let z = ap length e in omega arith)

  tree_is : tree (file_of s o) ≡ recs_bytes a.items.recs ++ field 0x5F (u16 a.items.count)
  tree_is = ap tree file_is ∙ tree_of_file a.errors a.items a.last.full (omega (arith, (light a).0))

  fits : All Fit a.items.recs × (a.items.count < 65536)
  fits =
      let l : _ = module_leaves a.toks (a.made.good, a.made.tokens) a.items a.last a.parsed in
      (leaves_fit l.0.leaves (omega (arith, recs_length a.items.recs, (light a).0)), omega (arith, l.1))

  formed : All Formed (toks (strike (reading s)))
  formed =
      let all : All Formed a.toks = all_map Good Formed (λ t g. g.formed) a.toks a.made.good in
      formed_strike (reading s) (subst (All Formed) (sym (reading_own ∙ tokens_are)) all)

-- For any two scripts s and t, read on file slices o and p: if both are accepted, neither file has an entry of the
-- full list, and the trees are equal, then each was read with its own tokens, and after striking these agree.
pub one_tree : (s t o p : List ℕ) → (whole s o).number ≡ 0 → (whole t p).number ≡ 0 → full_entries (file_of s o) ≡ 0
    → full_entries (file_of t p) ≡ 0 → tree (file_of s o) ≡ tree (file_of t p) → OneReading s t
one_tree s t o p x y h k e =
    let a : Accepted s o = accepted s o x in
    let b : Accepted t p = accepted t p y in
    let r : Both (a.items.recs ≡ b.items.recs) (a.items.count ≡ b.items.count) = same_tree
    a.items.recs b.items.recs a.items.count b.items.count (fits s o a).0
    (fits t p b).0 (fits s o a).1 (fits t p b).1 (sym (tree_is s o a) ∙ e ∙ tree_is t p b) in
    let u : strip a.last.read ≡ strip b.last.read = unique a.toks b.toks a.made.distinct
    b.made.distinct a.items b.items a.last b.last a.parsed b.parsed (clean s o a h)
    (clean t p b k) r.left r.right in
    record {
      first = reading_own s o a;
      second = reading_own t p b;
      agree = told_agree (strike (reading s)) (strike (reading t)) (formed s o a) (formed t p b)
          (sym (strip_told (reading s)) ∙ ap strip (reading_is s o a) ∙ u ∙ sym (ap strip (reading_is t p b))
          ∙ strip_told (reading t));
    }

-- Of a script that is accepted without an entry of the full list nothing is lost.
pub clean_lost_nothing : (s o : List ℕ) → (whole s o).number ≡ 0 → full_entries (file_of s o) ≡ 0 → LostNothing s
clean_lost_nothing s o z h = lost_nothing s o (accepted s o z) h
