-- The laws of a comment, byte by byte: no byte within a character is a newline. Assumes nothing.
use mathlib.Core.Path.{◌≡◌, refl, sym, ap, ◌∙◌}
use mathlib.Core.Bool.{Bool, true, false, ◌&&◌}
use mathlib.Core.List.{List, [], ◌∷◌, ◌++◌}
use mathlib.Core.Option.{some}
use Prim.Native.Nat.{ℕ, zero, suc, pred, ◌+◌, ◌-◌, ◌<◌, ◌≤◌}
use native.Mathlib.Numerals.{add-one}
use native.Mathlib.Omega.{arith}
use borrow.Author.Tests.{ne_eqb, lt-leb}
use lib.Dec.{leb}
use lib.ListN.{length, get_or, drop, length-append, drop_of_length-le}
use lib.Seq.{drop-cons}
use Rattle.definition.specs.Choice.{first}
use Rattle.definition.specs.Source.{At, Ch, Pending, fresh, within, Lead, single, with_more, wrong, lead, char_at, past, and_then, decode}
use Rattle.definition.specs.Tokenizer.{comment}
use Rattle.source.specs.declared.Cursor.{Cursor}
use Rattle.source.specs.Place.{Stands, rest, at_of, or_none}
use Rattle.source.proofs.Laws.{Small, lead_small, after_lead, after_more, none_some, and_then_head, and_then_tail}
use Rattle.scan.specs.Scan.{LineEnd, Passed}
use Rattle.scan.proofs.Laws.{comment_go, comment_stop}

-- the decoder is between two characters at an offset, or within one that is no newline
abbrev Open : Pending → ℕ → ℕ → Type 0
Open fresh o at = o ≡ at
Open (within l m n lo hi) o at = (l ≡ 10 → ⊥) × (128 ≤ lo) × (suc (length m) + o ≡ at)

-- from an offset on, the decoder gives the characters of the comment that are left, in its line
record Inside (bs : List ℕ) (at line : ℕ) (cs : List Ch) : Type 0 where
  q : Pending
  p : At
  ds : List Ch
  is : decode q p bs ≡ some ds
  same : comment ds ≡ comment cs
  shorter : length ds ≤ length cs
  on_line : p.place.line ≡ line
  between : Open q p.offset at

within_on : {bs : List ℕ} {at line : ℕ} {ds cs : List Ch} → comment ds ≡ comment cs → length ds ≤ length cs
    → Inside bs at line ds → Inside bs at line cs
within_on e l i =
    record {
      q = i.q;
      p = i.p;
      ds = i.ds;
      is = i.is;
      same = i.same ∙ e;
      shorter = omega (arith, i.shorter, l);
      on_line = i.on_line;
      between = i.between;
    }

-- ---- a byte that is no newline

-- it ends a character
ends : {bs : List ℕ} (p : At) {l at line : ℕ} (m : List ℕ) {ds : List Ch} → (l ≡ 10 → ⊥)
    → and_then (char_at p l m) (decode fresh (past p l m) bs) ≡ some ds → p.place.line ≡ line
    → suc (length m) + p.offset ≡ at → Inside bs at line ds
ends {bs} p {l} m h e f o =
    let left = decode fresh (past p l m) bs in
    let d = and_then_head (char_at p l m) left _ e in
    record {
      q = fresh;
      p = past p l m;
      ds = or_none left;
      is = and_then_tail (char_at p l m) left _ e;
      same = sym (ap comment d ∙ comment_go _ _ h);
      shorter = omega (arith, ap length d);
      on_line = rw (ne_eqb l 10 h) f;
      between = o;
    }

-- it begins a character
begins : {bs : List ℕ} (p : At) {b at line : ℕ} {ds : List Ch} (x : Lead) → Small x → (b ≡ 10 → ⊥)
    → after_lead p b bs x ≡ some ds → p.place.line ≡ line → p.offset ≡ at → Inside bs (at + 1) line ds
begins p single k h e f o = ends p [] h e f (omega (arith, o))
begins p {b} {ds = ds} (with_more n lo hi) k h e f o =
    record {
      q = within b [] n lo hi;
      p = p;
      ds = ds;
      is = e;
      same = refl;
      shorter = omega arith;
      on_line = f;
      between = (h, k.2, omega (arith, o));
    }
begins p wrong k h e f o = none_some refl e

-- it goes on with a character
goes_on : {bs : List ℕ} (p : At) (b l n : ℕ) (m : List ℕ) {at line : ℕ} {ds : List Ch} (t u : Bool) → (l ≡ 10 → ⊥)
    → after_more l m n p b bs t u ≡ some ds → p.place.line ≡ line → suc (length m) + p.offset ≡ at → Inside bs (at + 1) line ds
goes_on p b l n m false u h e f o = none_some refl e
goes_on p b l n m true true h e f o = ends p (m ++ (b ∷ [])) h e f (omega (arith, o, length-append m (b ∷ [])))
goes_on p b l n m {ds = ds} true false h e f o =
    record {
      q = within l (m ++ (b ∷ [])) (pred n) 128 191;
      p = p;
      ds = ds;
      is = e;
      same = refl;
      shorter = omega arith;
      on_line = f;
      between = (h, omega arith, omega (arith, o, length-append m (b ∷ [])));
    }

one_more : {bs : List ℕ} {b at line : ℕ} {cs : List Ch} → (b ≡ 10 → ⊥) → Inside (b ∷ bs) at line cs
    → Inside bs (at + 1) line cs
unfolding decode
one_more {bs} {b} {at} {line} h i = within_on i.same i.shorter (go i.q i.between i.is)
  where
    go : (q : Pending) → Open q i.p.offset at → decode q i.p (b ∷ bs) ≡ some i.ds → Inside bs (at + 1) line i.ds
    go fresh o e = begins i.p (lead b) (lead_small b) h e i.on_line o
    go (within l m n lo hi) o e = goes_on i.p b l n m (leb lo b && leb b hi) (leb n 1) o.0 e i.on_line o.2

-- ---- the newline, and the end

-- the place after it
abbrev line_after : ℕ → ℕ → At
line_after at line = record { offset = at + 1; place = record { line = line + 1; column = 1 } }

at_newline : {bs : List ℕ} {at line : ℕ} {cs : List Ch} → Inside (10 ∷ bs) at line cs
    → (decode fresh (line_after at line) bs ≡ some (comment cs)) × (length (comment cs) ≤ length cs)
unfolding decode lead first
at_newline {bs} {at} {line} {cs} i = go i.q i.between i.is
  where
    go : (q : Pending) → Open q i.p.offset at → decode q i.p (10 ∷ bs) ≡ some i.ds
        → (decode fresh (line_after at line) bs ≡ some (comment cs)) × (length (comment cs) ≤ length cs)
    go fresh o e =
        let newline = char_at i.p 10 [] in
        let left = decode fresh (past i.p 10 []) bs in
        let d : i.ds ≡ newline ∷ or_none left = and_then_head newline left _ e in
        let same : or_none left ≡ comment cs = sym (comment_stop newline _ refl) ∙ sym (ap comment d) ∙ i.same in
        let x : 1 + i.p.offset ≡ at + 1 = omega (arith, o) in
        let y : suc i.p.place.line ≡ line + 1 = omega (arith, i.on_line) in (
          rw (sym x, sym y) (and_then_tail newline left _ e ∙ ap some same),
          omega (arith, i.shorter, ap length d, ap length same),
        )
    go (within l m n lo hi) o e =
        let f : after_more l m n i.p 10 bs (leb lo 10 && leb 10 hi) (leb n 1) ≡ some i.ds = e in
        none_some refl (rw (lt-leb lo 10 (omega (arith, o.1))) at f)

at_end : {at line : ℕ} {cs : List Ch} → Inside [] at line cs → comment cs ≡ []
unfolding decode comment
at_end {at} {cs = cs} i = go i.q i.between i.is
  where
    go : (q : Pending) → Open q i.p.offset at → decode q i.p [] ≡ some i.ds → comment cs ≡ []
    go fresh o e = let d : [] ≡ i.ds = cc in sym i.same ∙ ap comment (sym d)
    go (within l m n lo hi) o e = none_some refl e

-- ---- a comment, from the cursor c on

module _ {s : List ℕ} {c : Cursor} (z : Stands s c) {r : ℕ} (e : LineEnd s c.at r) where
  at_byte : (at : ℕ) → at < length s → drop at s ≡ get_or s at 0 ∷ drop (at + 1) s
  at_byte at h = rw add-one (drop-cons s at 0 h)

  before_end : (k at : ℕ) → at ≡ c.at + k → at ≤ r → Inside (drop at s) at c.line (rest s c)
  before_end zero at f h =
      let start : Inside (drop c.at s) c.at c.line (rest s c) = record {
        q = fresh;
        p = at_of c;
        ds = rest s c;
        is = z.is;
        same = refl;
        shorter = omega arith;
        on_line = refl;
        between = refl;
      } in
      let g : at ≡ c.at = omega (arith, f) in
      rw g start
  before_end (suc k) at f h =
      let m : ℕ = c.at + k in
      let g : at ≡ m + 1 = omega (arith, f) in
      rw g (one_more (e.earlier m (omega arith) (omega (arith, g, h)))
      (rw (at_byte m (omega (arith, g, h, e.inside))) at (before_end k m refl (omega (arith, g, h)))))

  at_the_end : Inside (drop r s) r c.line (rest s c)
  at_the_end = let f : r ≡ c.at + (r - c.at) = omega (arith, e.from) in before_end (r - c.at) r f (omega arith)

  pub comment_past : (r ≡ length s → ⊥) → Passed s c (comment (rest s c)) (record { at = r + 1; line = c.line + 1; column = 1 })
  unfolding rest
  comment_past n =
      let d : drop r s ≡ 10 ∷ drop (r + 1) s = rw (e.there n) at (at_byte r (omega (arith, n, e.inside))) in
      let a = at_newline (rw d at at_the_end) in
      let f : decode fresh (line_after r c.line) (drop (r + 1) s) ≡ some (comment (rest s c)) = a.0 in
      record {
        stands =
            record {
              is = f ∙ ap some (sym (ap or_none f));
              inside = omega (arith, n, e.inside);
              lined = omega (arith, z.lined, e.from);
              columned = omega arith;
            };
        is = ap or_none f;
        forward = omega (arith, e.from);
        shorter = omega (arith, a.1, ap length (ap or_none f));
      }

  pub comment_out : r ≡ length s → Passed s c (comment (rest s c)) (record { at = r; line = c.line; column = c.column })
  unfolding decode rest
  comment_out n =
      let d : drop r s ≡ [] = drop_of_length-le s (omega (arith, n)) in
      record {
        stands =
            record {
              is = rw d refl;
              inside = e.inside;
              lined = omega (arith, z.lined, e.from);
              columned = omega (arith, z.columned, e.from);
            };
        is = rw d (sym (at_end (rw d at at_the_end)));
        forward = e.from;
        shorter = rw d (omega arith);
      }
