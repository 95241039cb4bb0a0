-- A token decoded without its text: within the records, at their end, with its text, what it decides, and from one that has
-- its text. Assumes nothing.
use mathlib.Core.Path.{◌≡◌, refl, sym, ap, ◌∙◌}
use mathlib.Core.Bool.{Bool, true, false}
use mathlib.Core.List.{List, ◌++◌}
use Prim.Native.Nat.{ℕ, ◌+◌, ◌*◌, ◌-◌, ◌≤◌, ◌<◌}
use native.Mathlib.Omega.{arith}
use lib.Dec.{eqb, ltb}
use lib.ListN.{length, take, drop, get_or, length-drop}
use lib.Seq.{length-take-le}
use borrow.Author.Tests.{eq-eqb, ne_eqb, ltb-true, ltb-false}
use Rattle.definition.specs.Source.{place_at, nowhere}
use Rattle.definition.specs.Numbers.{kind_number}
use Rattle.definition.specs.Places.{place_of}
use Rattle.definition.specs.Slices.{Slice}
use Rattle.definition.specs.declared.kind.Kind.{Kind}
use Rattle.definition.specs.Token.{Tok, next_token, ◌is◌}
use Rattle.definition.specs.Act.{Role, Consumed, advance, now_read}
use Rattle.fallible.specs.declared.error.Error.{Error}
use Rattle.fallible.specs.declared.parser.State.{State}
use Rattle.steps.specs.declared.tokens.Decoded.{Decoded}
use Rattle.steps.specs.declared.tokens.Token.{Token}
use Rattle.steps.specs.Tokens.{rest, present, Held, Parts, Peeked, Seen}
use Rattle.steps.specs.Shows.{Asks, Moved, st_of}
use Rattle.steps.proofs.Records.{rest_cons, rest_nil, rest_length, budget_cons, present_before, at_index}
use Rattle.steps.proofs.Moves.{asks_later, later_moved}

module _ {w : List ℕ} {n at : ℕ} {t : Decoded} where
  pub seen_wide : Held w n → at < n → kind_number t.kind ≡ get_or w (8 * at) 0
      → place_of t.place ≡ place_at (get_or w (8 * at + 1) 0) (get_or w (8 * at + 2) 0)
      → t.start ≡ get_or w (8 * at + 3) 0 → t.length ≡ get_or w (8 * at + 4) 0 → t.base ≡ get_or w (8 * at + 5) 0
      → t.next ≡ at + 1 → Peeked w n at t
  unfolding present
  seen_wide q h k p e l b z =
      let s = q.each at h in
      record {
        kind = λ y. rw (rest_cons w y n at h) (sym k);
        place = λ y. rw (rest_cons w y n at h) (sym p);
        text = λ y. rw (rest_cons w y n at h, e, l);
        part = λ parts. omega (arith, e, l, parts.each at h);
        base = λ y. rw (rest_cons w y n at h) (sym b);
        tail = λ y. rw (rest_cons w y n at h, z);
        pays = rw z (omega (arith, budget_cons w n at h, k, l));
        present = omega (arith, k, s.real);
        on = omega (arith, k, z);
        up = omega (arith, z);
        end = omega (arith, z);
        bases = omega (arith, b, s.base);
        based = λ i. omega (arith, b, s.based (sym k ∙ i));
      }

  pub seen_end : at ≤ n → n ≤ at → t.kind ≡ Kind.End → place_of t.place ≡ nowhere → t.start ≡ 0 → t.length ≡ 0 → t.base ≡ 0
      → t.next ≡ at → Peeked w n at t
  unfolding present
  seen_end g h k p e l b z =
      record {
        kind = λ y. rw (rest_nil w y n at h, k);
        place = λ y. rw (rest_nil w y n at h) (sym p);
        text = λ y. rw (rest_nil w y n at h, l);
        part = λ parts. omega (arith, e, l);
        base = λ y. rw (rest_nil w y n at h) (sym b);
        tail = λ y. rw (z, rest_nil w y n at h);
        pays = rw (z, k, l) (omega arith);
        present = rw k (omega arith);
        on = rw k (omega (arith, z));
        up = omega (arith, z);
        end = omega (arith, z);
        bases = omega (arith, b);
        based = λ i. absurd (cc);
      }

module _ {w : List ℕ} {n at : ℕ} {t : Decoded} (v : Peeked w n at t) where
  -- with its text, a part of x
  pub seen_text : {x : List ℕ} {text : Slice} → t.start + t.length ≤ length x
      → text.now ≡ take (t.start + t.length - t.start) (drop t.start x)
      → Seen w x n at (record { kind = t.kind; place = t.place; text = text; base = t.base; next = t.next })
  seen_text {x = x} {text = text} h e =
      let z : t.start + t.length - t.start ≡ t.length = omega arith in
      let here : text.now ≡ take t.length (drop t.start x) = rw z at e in
      let l : length text.now ≡ t.length = ap length here ∙ length-take-le _ _ (simp length-drop (omega arith)) in
      record {
        kind = v.kind;
        place = v.place;
        text = v.text x ∙ sym here;
        base = v.base;
        tail = v.tail;
        pays = omega (arith, v.pays, l);
        present = v.present;
        on = v.on;
        up = v.up;
        end = v.end;
        bases = v.bases;
        based = v.based;
      }

  -- a test of the kind in the code decides that of the definition
  pub yes : {k : ℕ} → kind_number t.kind ≡ k → (y : List ℕ) → next_token (rest w y n at) is k ≡ true
  yes e y = eq-eqb _ _ (v.kind y ∙ e)

  pub no : {k : ℕ} → (kind_number t.kind ≡ k → ⊥) → (y : List ℕ) → next_token (rest w y n at) is k ≡ false
  no e y = ne_eqb _ _ (λ z. e (sym (v.kind y) ∙ z))

  -- a token of one kind is of no other
  pub other : {k : ℕ} → kind_number t.kind ≡ k → (j : ℕ) → eqb k j ≡ false → (y : List ℕ) → next_token (rest w y n at) is j ≡ false
  other e j h y = rw (v.kind y, e) h

-- the state after a token
abbrev pub fore : State → Decoded → State
fore s t = at_index s t.next

-- reading a token advances the definition's state
pub adv : {w : List ℕ} {n : ℕ} {t : Decoded} (s : State) → Peeked w n s.at t
    → (role : Tok → Role) (f : List Error) (rd : List Consumed) (y : List ℕ)
    → advance role (st_of w y n f rd s) ≡ st_of w y n f (rd ++ now_read role (rest w y n s.at)) (fore s t)
adv s v role f rd y = rw v.tail

module _ {w : List ℕ} {n : ℕ} {r f : List Error} {s : State} {t : Decoded} (q : Asks n r f s) (v : Peeked w n s.at t) where
  pub asks_fore : Asks n r f (fore s t)
  asks_fore = asks_later q v.end

  pub fore_moved : Moved w n s.pos s.reported s (fore s t)
  fore_moved = later_moved q v.up v.end (omega arith)

-- where the part of the token at an index starts, 0 if there is none
abbrev pub start_at : List ℕ → ℕ → ℕ → ℕ
start_at w n at = present n at * get_or w (8 * at + 3) 0

module _ {w x : List ℕ} {n at : ℕ} {t : Token} (v : Seen w x n at t) where
  -- its part is that of its record, or empty at the end
  part_there : at < n → (start_at w n at ≡ get_or w (8 * at + 3) 0) × (length t.text.now ≡ get_or w (8 * at + 4) 0)
  part_there h =
      let k : get_or w (8 * at) 0 ≡ kind_number t.kind = rw (rest_cons w x n at h) at (v.kind x) in
      let l = ap length (rw (rest_cons w x n at h) at (v.tail x)) in
      let e : t.next ≡ at + 1 = omega (arith, l, rest_length w x n (at + 1), rest_length w x n t.next, v.end) in
      (rw (present_before n at h) (omega arith), omega (arith, budget_cons w n at h, k, rw e at v.pays))

  part_end : n ≤ at → (start_at w n at ≡ 0) × (length t.text.now ≡ 0)
  part_end h =
      let p : present n at ≡ 0 = omega (arith, v.present, v.on, v.end) in
      (rw p (omega arith), ap length (sym (rw (rest_nil w x n at h) at v.text)))

  -- a token with its text is a decoded one: the laws of `Peeked` hold of it
  pub seen_decoded : Peeked w n at (record {
    kind = t.kind;
    place = t.place;
    start = start_at w n at;
    length = length t.text.now;
    base = t.base;
    next = t.next;
  })
  seen_decoded = record {
    kind = v.kind;
    place = v.place;
    text = λ y. text y (ltb at n) refl;
    part = λ parts. part parts (ltb at n) refl;
    base = v.base;
    tail = v.tail;
    pays = v.pays;
    present = v.present;
    on = v.on;
    up = v.up;
    end = v.end;
    bases = v.bases;
    based = v.based;
  }
    where
      text : (y : List ℕ) (b : Bool) → ltb at n ≡ b
          → (next_token (rest w y n at)).text ≡ take (length t.text.now) (drop (start_at w n at) y)
      text y true b = let h = ltb-true at n b in rw (rest_cons w y n at h, (part_there h).0, (part_there h).1)
      text y false b = let h = ltb-false at n b in rw (rest_nil w y n at h, (part_end h).1)

      part : {y : List ℕ} → Parts w y n → (b : Bool) → ltb at n ≡ b → start_at w n at + length t.text.now ≤ length y
      part parts true b = let h = ltb-true at n b in rw ((part_there h).0, (part_there h).1) (parts.each at h)
      part parts false b = let h = ltb-false at n b in rw ((part_end h).0, (part_end h).1) (omega arith)
