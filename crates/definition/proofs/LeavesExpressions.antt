-- The records of an item of a list, of an expression and of a type leave one node, whatever errors are made.
-- Assumes nothing.
use mathlib.Core.Path.{◌≡◌, refl}
use mathlib.Core.Bool.{Bool, true, false, not, ◌||◌}
use mathlib.Core.List.{List, [], ◌∷◌}
use Prim.Native.Nat.{ℕ, ◌+◌, ◌^◌, ◌≤◌, ◌<◌}
use native.Mathlib.Omega.{arith}
use borrow.Author.Tests.{ltb-true, not-false}
use lib.Dec.{ltb, T}
use lib.ListN.{length, replicate}
use Rattle.definition.specs.Tag as Tag
use Rattle.definition.specs.Ascii.{ascii}
use Rattle.definition.specs.Kind as K
use Rattle.definition.specs.Source.{Place, utf8}
use Rattle.definition.specs.Node.{byte, Rec}
use Rattle.definition.specs.Fallible.{Err, Fallible, Ans, ok, fatal}
use Rattle.definition.specs.Token.{Tok, next_token, tail, ◌is◌, number, dashed}
use Rattle.definition.specs.Act.{Node, Items, Expression, Unary, Type', Operators, Listed, Parameters, Arguments, StructFields, ArrayValues, StructValues, Level, BitOr, BitXor, BitAnd, Shift, AddSub, Mul, plain, group, Act, done, next, loop, St, advance, push, ◌>>=◌, ◌>>?◌}
use Rattle.definition.specs.Parser as P
use Rattle.definition.specs.Format as F
use Rattle.definition.specs.Format.{rows, find}
use Rattle.definition.proofs.Tests.{clash}
use Rattle.definition.proofs.Later.{Later, later_left}
use Rattle.definition.proofs.Ind.{wp_mono, follow}
use Rattle.definition.proofs.Grows.{there, tail_le}
use Rattle.definition.proofs.Tokens.{Placed, Good}
use Rattle.definition.proofs.Leaves.{Leaves, none_left, also, made, leaf, one_more, nothing, with_text, with_byte, with_base, with_count, with_eight, bare, at}
use Rattle.definition.proofs.LeavesAnswers.{Known, known_tail, good_of, Item, Whole, Onward, Listing, If, kind_in, G, L, R, M, awp, reads, expects, identifier, calls, uses}

-- ---- expressions

group_leaves : (s : St) → reads F.expression P.parse_group s
unfolding P.parse_group ◌>>=◌
group_leaves s = λ d. (
  λ x t l p d'. let b = after_group x t p in (
    λ j. record { leaves = p.leaves; place = p.place; less = b },
    λ _. (
      λ _ _. record { leaves = p.leaves; place = p.place; less = b },
      λ _ _. record { leaves = p.leaves; place = p.place; less = b },
    ),
  ),
  λ es t l p d'. (λ j. tt, λ _. (λ _ _. tt, λ _ _. tt)),
)
  where
    after_group : (x : Fallible Node) (t : St) → Whole F.expression (advance (λ _. group) s) x t
        → length (tail t.tokens) < length s.tokens
    after_group x t p = omega (arith, p.less, tail_le t.tokens, tail_le s.tokens)

atom_leaves : (s : St) → Known s.tokens → reads F.expression P.parse_atom s
unfolding P.parse_atom find rows
atom_leaves s d = (
  λ i _. let h = good_of K.Integer tt s.tokens d i in
      record {
        leaves = leaf _ refl refl refl (at h.placed
            (with_base (rw i at h.formed.base) (with_text h.formed.utf8)));
        place = h.placed;
        less = there K.Integer tt s.tokens i;
      },
  λ _. (
    λ i _. let h = good_of K.Identifier tt s.tokens d i in
        record {
          leaves = leaf _ refl refl refl (at h.placed (with_text h.formed.utf8));
          place = h.placed;
          less = there K.Identifier tt s.tokens i;
        },
    λ _. (
      λ i _. let h = good_of K.String tt s.tokens d i in
          record {
            leaves = leaf _ refl refl refl (at h.placed (with_text h.formed.utf8));
            place = h.placed;
            less = there K.String tt s.tokens i;
          },
      λ _. (
        λ i _. let h = good_of K.KwTrue tt s.tokens d i in
            record {
              leaves = leaf _ refl refl refl (at h.placed (with_byte {n = 1} (omega arith) (omega arith) nothing));
              place = h.placed;
              less = there K.KwTrue tt s.tokens i;
            },
        λ _. (
          λ i _. let h = good_of K.KwFalse tt s.tokens d i in
              record {
                leaves = leaf _ refl refl refl (at h.placed (with_byte {n = 0} (omega arith) (omega arith) nothing));
                place = h.placed;
                less = there K.KwFalse tt s.tokens i;
              },
          λ _.
              (λ i. group_leaves s, λ _ _. (λ _ _. tt, λ _ _. tt)),
        ),
      ),
    ),
  ),
)

pub suffixes_leaves : (e : Fallible Node) (s : St) → Known s.tokens → awp (P.suffixes_turn e) (If (Onward e)) s
unfolding P.suffixes_turn find rows
suffixes_leaves e s d = (
  λ i _ _. let h = good_of K.Dot tt s.tokens d i in (
    λ _. tt,
    λ _. (
      λ j. let h₂ = good_of K.Identifier tt (tail s.tokens) (known_tail s.tokens d) j in (
        λ x u l p. record {
          leaves = λ f. p.leaves (made _ refl refl (at h.placed (with_text h₂.formed.utf8)) f);
          place = λ _. p.place h.placed;
        },
        λ es u l p. tt,
      ),
      λ _ _. record { leaves = λ f. f; place = λ p. p },
    ),
  ),
  λ _. (
    λ i _. let h = good_of K.DotStar tt s.tokens d i in (
      λ x u l p. record {
        leaves = λ f. p.leaves (made _ refl refl (at h.placed nothing) f);
        place = λ _. p.place h.placed;
      },
      λ es u l p. tt,
    ),
    λ _. (
      λ i _. let h = good_of K.LBracket tt s.tokens d i in
          calls Expression _ _ _ (λ x t p. expects plain K.RBracket tt _ _ _ (λ _ _. (
            λ y u l q. record {
              leaves = λ f. q.leaves (made _ refl refl (at h.placed nothing) (also f p.leaves));
              place = λ _. q.place h.placed;
            },
            λ es u l q. tt,
          ))),
      λ _.
          record { leaves = λ f. f; place = λ p. p },
    ),
  ),
)

goes_on : (s t u : St) (e x : Fallible Node) → Whole F.expression s e t → Later t u → Onward e x u
    → Whole F.expression s x u
goes_on s t u e x p l q =
    record { leaves = q.leaves p.leaves; place = q.place p.place; less = omega (arith, p.less, later_left l) }

field_access_leaves : (s : St) → Known s.tokens → reads F.expression P.parse_field_access_or_index s
unfolding P.parse_field_access_or_index
field_access_leaves s d =
    uses (Whole F.expression s) _ _ _ _ (atom_leaves s d) (λ e t l p. (
      λ x u l₂ q. goes_on s t u e x p l₂ q,
      λ es u l₂ q. tt,
    ))

sizeof_leaves : (s : St) → Known s.tokens → reads F.expression P.parse_sizeof s
unfolding P.parse_sizeof find rows
sizeof_leaves s d = (
  λ i _. let h = good_of K.KwSizeof tt s.tokens d i in
      let b = there K.KwSizeof tt s.tokens i in
      expects plain K.LParen tt _ _ _ (λ _ b₂. calls Type' _ _ _
      (λ ty t p. expects plain K.RParen tt _ _ _ (λ _ b₃. record {
        leaves = made _ refl refl (at h.placed nothing) p.leaves;
        place = h.placed;
        less = omega (arith, p.less, b, b₂, b₃);
      }))),
  λ _.
      field_access_leaves s d,
)

-- ---- lists

-- a list or a body, after the token that opens it
pub record Opened (k : ℕ) (s : St) (a : Items) (s' : St) : Type 0 where
  pub leaves : Leaves a.recs (replicate a.count k)
  pub count : a.count + length s'.tokens ≤ length (tail s.tokens)

pub list_leaves : (k : Listed) (s : St) → awp (P.parse_list k) (Opened (kind_in k) s) s
unfolding P.parse_list ◌>>=◌
list_leaves k s = λ d. (
  λ i a t l p. record { leaves = p.leaves none_left; count = omega (arith, p.count) },
  λ _. (
    λ _ _ a t l p. record { leaves = p.leaves none_left; count = omega (arith, p.count) },
    λ _ _ a t l p. record { leaves = p.leaves none_left; count = omega (arith, p.count) },
  ),
)

pub record Typed (s : St) (x : Fallible P.Typed) (s' : St) : Type 0 where
  pub leaves : Leaves x.item.type (F.type ∷ [])
  pub name : utf8 x.item.name ≡ true
  pub less : length s'.tokens < length s.tokens

typed_leaves : (name : List ℕ) (es : List Err) (s t : St) → utf8 name ≡ true → length t.tokens ≤ length s.tokens
    → awp (P.typed name es) (If (Typed s)) t
unfolding P.typed
typed_leaves name es s t u b =
    expects plain K.Colon tt _ _ _ (λ _ b₂. calls Type' _ _ _ (λ ty v p. record {
      leaves = p.leaves;
      name = u;
      less = omega (arith, p.less);
    }))

pub typed_identifier_leaves : (s : St) → awp P.parse_typed_identifier (If (Typed s)) s
unfolding P.parse_typed_identifier ascii utf8
typed_identifier_leaves s d = (
  λ i. typed_leaves (next_token s.tokens).text [] s (advance (λ _. plain) s)
      (good_of K.Identifier tt s.tokens d i).formed.utf8 (tail_le s.tokens),
  λ _. (λ _ _. tt, λ _ _. typed_leaves (ascii "<?>") _ s (push _ (advance (λ _. plain) s)) refl (tail_le s.tokens)),
)

named_type_leaves : (s : St) → awp P.parse_named_type (If (Item F.named_type s)) s
unfolding P.parse_named_type find rows
named_type_leaves s =
    uses (Typed s) P.parse_typed_identifier _ _ _ (typed_identifier_leaves s) (λ x t l p. record {
      leaves = made _ refl refl (bare (with_text p.name)) p.leaves;
      less = p.less;
    })

struct_field_leaves : (s : St) → awp P.parse_compound_struct_field (If (Item F.compound_field s)) s
unfolding P.parse_compound_struct_field find rows
struct_field_leaves s =
    identifier _ _ _ (λ h b. expects plain K.Equals tt _ _ _ (λ _ b₂. calls Expression _ _ _ (λ e t p. record {
      leaves = made _ refl refl (at h.placed (with_text h.formed.utf8)) p.leaves;
      less = omega (arith, p.less);
    })))

item_leaves : (k : Listed) (s : St) → awp (P.item k) (If (Item (kind_in k) s)) s
item_leaves Parameters s = named_type_leaves s
item_leaves Arguments s = (λ x t l p. record { leaves = p.leaves; less = p.less }, λ es t l p. tt)
item_leaves StructFields s = named_type_leaves s
item_leaves ArrayValues s = (λ x t l p. record { leaves = p.leaves; less = p.less }, λ es t l p. tt)
item_leaves StructValues s = struct_field_leaves s

after_item_leaves : (k : Listed) (i : Items) (s : St) → awp (P.after_item k i) (Listing (kind_in k) i s) s
unfolding P.after_item
after_item_leaves k i s = (
  λ e d a t l p. record { leaves = p.leaves; count = omega (arith, p.count, tail_le s.tokens) },
  λ _. (
    λ e a t l p. p,
    λ _. (
      λ e a t l p. p,
      λ _ d m a t l p. record { leaves = p.leaves; count = omega (arith, p.count, tail_le s.tokens) },
    ),
  ),
)

pub list_turn_leaves : (k : Listed) (i : Items) (s : St) → awp (P.list_turn k i) (Listing (kind_in k) i s) s
unfolding P.list_turn
list_turn_leaves k i s = (
  λ e m. record { leaves = λ f. f; count = omega arith },
  λ _. (
    λ c d. record { leaves = λ f. f; count = omega (arith, tail_le s.tokens) },
    λ c. follow G L R M _ _ (If (Item (kind_in k) s)) _ _ (item_leaves k s) go,
  ),
)
  where
    go : (a : Ans Node) (t : St) → Later s t → If (Item (kind_in k) s) a t
        → awp (P.after_item k (P.integrate i a)) (Listing (kind_in k) i s) t
    go (ok x) t l p =
        wp_mono G L R M (Listing (kind_in k) (P.integrate i (ok x)) t) (Listing (kind_in k) i s)
        (P.after_item k (P.integrate i (ok x))) t
        (λ a u q. record {
          leaves = λ f. q.leaves (one_more i.count (kind_in k) f p.leaves);
          count = omega (arith, q.count, p.less);
        }) (after_item_leaves k (P.integrate i (ok x)) t)
    go (fatal es) t l p =
        wp_mono G L R M (Listing (kind_in k) (P.integrate i (fatal es)) t) (Listing (kind_in k) i s)
        (P.after_item k (P.integrate i (fatal es))) t
        (λ a u q. record {
          leaves = q.leaves;
          count = omega (arith, q.count, later_left l);
        }) (after_item_leaves k (P.integrate i (fatal es)) t)

call_leaves : (s : St) → Known s.tokens → reads F.expression P.parse_call s
unfolding P.parse_call find rows
call_leaves s d = uses (Whole F.expression s) _ _ _ _ (sizeof_leaves s d) (λ e t l p. (
  λ i. follow G L R M (P.parse_list Arguments) _ (Opened F.expression t) _ _ (list_leaves Arguments t)
      (λ a u l₂ q. record {
        leaves = made _ refl refl (at p.place (with_count (omega (arith, q.count, tail_le t.tokens, p.less, d.1))
            nothing)) (also p.leaves q.leaves);
        place = p.place;
        less = omega (arith, p.less, later_left l₂);
      }),
  λ _. p,
))

-- ---- prefixes and operators

prefix_leaves : (tag : ℕ)
    → ((rs : List Rec) (p : Place) → Placed 1 p → Leaves rs (F.expression ∷ []) → Leaves (P.node rs tag p [] []).recs
    (F.expression ∷ [])) → (s : St)
    → reads F.expression (P.prefix tag) s
unfolding P.prefix
prefix_leaves tag w s d =
    calls Unary _ _ _ (λ x t p. record {
      leaves = w _ _ p.place p.leaves;
      place = p.place;
      less = omega (arith, p.less, tail_le s.tokens);
    })

pub unary_leaves : (s : St) → Known s.tokens → reads F.expression P.unary_rule s
unfolding P.unary_rule find rows
unary_leaves s d = (
  λ _. prefix_leaves Tag.PointerTake (λ rs p h f. made _ refl refl (at h nothing) f) s,
  λ _. (
    λ _. prefix_leaves Tag.PointerDereference (λ rs p h f. made _ refl refl (at h nothing) f) s,
    λ _. (
      λ _. prefix_leaves Tag.BitwiseNot (λ rs p h f. made _ refl refl (at h nothing) f) s,
      λ _. (λ _. prefix_leaves Tag.BooleanNot (λ rs p h f. made _ refl refl (at h nothing) f) s, λ _. call_leaves s d),
    ),
  ),
)

cast_leaves : (s : St) → reads F.expression P.parse_cast s
unfolding P.parse_cast ◌>>=◌
cast_leaves s = (λ e t l p. (λ x u l₂ q. goes_on s t u e x p l₂ q, λ es u l₂ q. tt), λ es t l p. tt)

pub casts_leaves : (e : Fallible Node) (s : St) → awp (P.casts_turn e) (If (Onward e)) s
unfolding P.casts_turn find rows ◌>>=◌
casts_leaves e s = (
  λ i d. let h = good_of K.KwAs tt s.tokens d i in (
    λ ty t l p. (
      λ x u l₂ q. record {
        leaves = λ f. q.leaves (made _ refl refl (at h.placed nothing) (also f p.leaves));
        place = λ _. q.place h.placed;
      },
      λ es u l₂ q. tt,
    ),
    λ es t l p. tt,
  ),
  λ _. record { leaves = λ f. f; place = λ p. p },
)

level_leaves : (l : Level) (m : Act (Ans Node)) (s : St) → reads F.expression m s
    → awp (m >>? λ e. loop (Operators l e) done) (If (Whole F.expression s)) s
level_leaves l m s w =
    uses (Whole F.expression s) m _ _ _ w (λ e t k p. (λ x u l₂ q. goes_on s t u e x p l₂ q, λ es u l₂ q. tt))

mul_leaves : (s : St) → reads F.expression P.parse_mul s
unfolding P.parse_mul
mul_leaves s = level_leaves Mul _ s (cast_leaves s)

add_sub_leaves : (s : St) → reads F.expression P.parse_add_sub s
unfolding P.parse_add_sub
add_sub_leaves s = level_leaves AddSub _ s (mul_leaves s)

bit_shift_leaves : (s : St) → reads F.expression P.parse_bit_shift s
unfolding P.parse_bit_shift
bit_shift_leaves s = level_leaves Shift _ s (add_sub_leaves s)

bitwise_and_leaves : (s : St) → reads F.expression P.parse_bitwise_and s
unfolding P.parse_bitwise_and
bitwise_and_leaves s = level_leaves BitAnd _ s (bit_shift_leaves s)

bitwise_xor_leaves : (s : St) → reads F.expression P.parse_bitwise_xor s
unfolding P.parse_bitwise_xor
bitwise_xor_leaves s = level_leaves BitXor _ s (bitwise_and_leaves s)

bitwise_or_leaves : (s : St) → reads F.expression P.parse_bitwise_or s
unfolding P.parse_bitwise_or
bitwise_or_leaves s = level_leaves BitOr _ s (bitwise_xor_leaves s)

cascade_leaves : (l : Level) (s : St) → reads F.expression (P.cascade l) s
cascade_leaves BitOr s = bitwise_xor_leaves s
cascade_leaves BitXor s = bitwise_and_leaves s
cascade_leaves BitAnd s = bit_shift_leaves s
cascade_leaves Shift s = add_sub_leaves s
cascade_leaves AddSub s = mul_leaves s
cascade_leaves Mul s = cast_leaves s

-- operators with numbers up to n, whose kinds are not 0
abbrev UpTo : ℕ → List P.Op → Type 0
UpTo n [] = Unit {0}
UpTo n (o ∷ os) = T (ltb 0 o.kind) × (o.op ≤ n) × UpTo n os

find_leaves : {A : Type 0} (n : ℕ) (os : List P.Op) (y : ℕ → Act A) (m : Act A) (Q : A → St → Type 0) (s : St)
    → UpTo n os → ((o : ℕ) → o ≤ n → (Known s.tokens → Good (next_token s.tokens)) → awp (y o) Q s)
    → awp m Q s → awp (P.find (next_token s.tokens) os y m) Q s
find_leaves n [] y m Q s b h e = e
find_leaves n (o ∷ os) y m Q s b h e =
    (λ i. h o.op b.1 (λ d. good_of o.kind b.0 s.tokens d i), λ _. find_leaves n os y m Q s b.2 h e)

mapping_bound : (l : Level) → UpTo 7 (P.mapping l)
mapping_bound BitOr = (tt, omega arith, tt)
mapping_bound BitXor = (tt, omega arith, tt)
mapping_bound BitAnd = (tt, omega arith, tt)
mapping_bound Shift = (tt, omega arith, (tt, omega arith, tt))
mapping_bound AddSub = (tt, omega arith, (tt, omega arith, tt))
mapping_bound Mul = (tt, omega arith, tt)

pub operators_leaves : (l : Level) (e : Fallible Node) (s : St) → awp (P.operators_turn l e) (If (Onward e)) s
unfolding P.operators_turn find rows
operators_leaves l e s =
    find_leaves 7 (P.mapping l) (λ o. next λ op. P.cascade l >>? λ r. loop
    (Operators l (P.binary Tag.ArithmeticBinOp (byte o ∷ []) op.place e r)) done)
    (done (ok e)) (If (Onward e)) s (mapping_bound l)
    (λ o b g d. let h = g d in
    uses (Whole F.expression (advance (λ _. plain) s)) _ _ _ _ (cascade_leaves l (advance (λ _. plain) s)) (λ r t k p. (
      λ x u l₂ q. record {
        leaves = λ f. q.leaves (made _ refl refl (at h.placed (with_byte {n = o} (omega arith) b nothing))
            (also f p.leaves));
        place = λ _. q.place h.placed;
      },
      λ es u l₂ q. tt,
    )))
    (record { leaves = λ f. f; place = λ p. p })

comparison_leaves : (s : St) → reads F.expression P.parse_comparison s
unfolding P.parse_comparison find rows
comparison_leaves s = uses (Whole F.expression s) _ _ _ _ (bitwise_or_leaves s) (λ e t l p.
    find_leaves 4 P.comparisons (λ o. next λ op. P.parse_bitwise_or >>? λ r. done
    (ok (P.binary Tag.ComparisonBinOp (byte o ∷ []) op.place e r))) (done (ok e)) (If (Whole F.expression s)) t
    (tt, omega arith, (tt, omega arith, (tt, omega arith, (tt, omega arith, (tt, omega arith, tt)))))
    (λ o b g d. let h = g d in
    uses (Whole F.expression (advance (λ _. plain) t)) _ _ _ _ (bitwise_or_leaves (advance (λ _. plain) t))
    (λ r u k q. record {
      leaves = made _ refl refl (at h.placed (with_byte {n = o} (omega arith) b nothing))
          (also p.leaves q.leaves);
      place = h.placed;
      less = omega (arith, p.less, later_left k, tail_le t.tokens);
    })) p)

pub expression_leaves : (s : St) → reads F.expression P.expression_rule s
unfolding P.expression_rule find rows
expression_leaves s = uses (Whole F.expression s) _ _ _ _ (comparison_leaves s) (λ e t l p. (
  λ i d. let h = good_of K.DoubleAmpersand tt t.tokens d i in
      uses (Whole F.expression (advance (λ _. plain) t)) _ _ _ _ (comparison_leaves (advance (λ _. plain) t))
      (λ r u k q. record {
        leaves = made _ refl refl (at h.placed nothing) (also p.leaves q.leaves);
        place = h.placed;
        less = omega (arith, p.less, later_left k, tail_le t.tokens);
      }),
  λ _. p,
))

-- ---- types

or_false : (a b : Bool) → a || not b ≡ false → b ≡ true
or_false true b e = clash e
or_false false b e = not-false b e

array_type_leaves : (s : St) → next_token s.tokens is K.LBracket ≡ true → Placed 1 (next_token s.tokens).place
    → awp (P.parse_array_type (next_token s.tokens).place) (If (Whole F.type s)) (advance (λ _. plain) s)
unfolding P.parse_array_type find rows
array_type_leaves s i h = λ d. (
  λ _ _. tt,
  λ e. (
    λ _ _. tt,
    λ n. expects plain K.RBracket tt _ _ _ (λ _ b. calls Type' _ _ _ (λ ty t p. record {
      leaves = made _ refl refl (at h (with_eight (below n) nothing)) p.leaves;
      place = h;
      less = omega (arith, p.less, there K.LBracket tt s.tokens i, tail_le (tail s.tokens));
    })),
  ),
)
  where
    t₁ : Tok
    t₁ = next_token (tail s.tokens)

    below : dashed t₁.text || not (ltb (number t₁.base 0 t₁.text) (2 ^ 64)) ≡ false
        → number t₁.base 0 t₁.text < 2 ^ 64
    below n =
        ltb-true (number t₁.base 0 t₁.text) (2 ^ 64)
        (or_false (dashed t₁.text) (ltb (number t₁.base 0 t₁.text) (2 ^ 64)) n)

pub type_leaves : (s : St) → Known s.tokens → reads F.type P.type_rule s
unfolding P.type_rule find rows
type_leaves s d _ = (
  λ i. let h = good_of K.Identifier tt s.tokens d i in
      record {
        leaves = leaf _ refl refl refl (at h.placed (with_text h.formed.utf8));
        place = h.placed;
        less = there K.Identifier tt s.tokens i;
      },
  λ _. (
    λ i. let h = good_of K.Star tt s.tokens d i in
        calls Type' _ _ _ (λ ty t p. record {
          leaves = made _ refl refl (at h.placed nothing) p.leaves;
          place = h.placed;
          less = omega (arith, p.less, there K.Star tt s.tokens i);
        }),
    λ _. (
      λ i. array_type_leaves s i (good_of K.LBracket tt s.tokens d i).placed,
      λ _. (
        λ i. let h = good_of K.KwStruct tt s.tokens d i in
            let b = there K.KwStruct tt s.tokens i in
            follow G L R M (P.parse_list StructFields) _ (Opened F.named_type (advance (λ _. plain) s)) _ _
            (list_leaves StructFields (advance (λ _. plain) s)) (λ a t l q. record {
              leaves = made _ refl refl (at h.placed
                  (with_count (omega (arith, q.count, b, tail_le (tail s.tokens), d.1)) nothing)) q.leaves;
              place = h.placed;
              less = omega (arith, q.count, b, tail_le (tail s.tokens));
            }),
        λ _.
            (λ _ _. tt, λ _ _. tt),
      ),
    ),
  ),
)
