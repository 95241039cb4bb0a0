-- The records of a declaration, a statement and an item leave one node, and those of a module one node for each item,
-- whatever errors are made. Assumes nothing.
use mathlib.Core.Path.{◌≡◌, refl, subst}
use mathlib.Core.Bool.{true, false}
use mathlib.Core.List.{List, [], ◌∷◌}
use Prim.Native.Nat.{ℕ, ◌+◌, ◌≤◌, ◌<◌}
use native.Mathlib.Omega.{arith}
use lib.ListN.{length, replicate}
use Rattle.definition.specs.Tag as Tag
use Rattle.definition.specs.Kind as K
use Rattle.definition.specs.Source.{Place, utf8}
use Rattle.definition.specs.Node.{Rec, u16, field, nums_bytes, rec_bytes}
use Rattle.definition.specs.Fallible.{Fallible, Ans, ok, fatal}
use Rattle.definition.specs.Token.{Tok, next_token, tail, ◌is◌}
use Rattle.definition.specs.Act.{Node, Items, Goal, Statement, Expression, Unary, Type', Loop, Module, Body, ListOf, Operators, Casts, Suffixes, Modifiers, Parameters, ArrayValues, StructValues, Words, plain, Act, St, begin, gives, advance, ◌>>=◌}
use Rattle.definition.specs.Parser as P
use Rattle.definition.specs.Losses.{losses, parse_tokens}
use Rattle.definition.specs.Format as F
use Rattle.definition.specs.Format.{rows, find, module_rec}
use Rattle.definition.proofs.Later.{Later, later_left, After}
use Rattle.definition.proofs.Ind.{wp_mono, follow}
use Rattle.definition.proofs.Grows.{there, tail_le}
use Rattle.definition.proofs.Tokens.{Placed, Good}
use Rattle.definition.proofs.Throughout.{module_known}
use Rattle.definition.proofs.Losses.{tokens_after}
use Rattle.definition.proofs.Leaves.{Leaves, Rooted, none_left, also, made, leaf, one_more, all_three, nothing, with_text, with_byte, with_count, bare, at}
use Rattle.definition.proofs.LeavesAnswers.{Known, known_tail, known_later, good, good_of, Item, Whole, Listing, If, G, L, R, M, awp, reads, expects, identifier, calls, uses}
use Rattle.definition.proofs.LeavesExpressions.{suffixes_leaves, Opened, list_leaves, Typed, typed_identifier_leaves, list_turn_leaves, unary_leaves, casts_leaves, operators_leaves, expression_leaves, type_leaves}

-- ---- declarations

compound_leaves : (s : St) → Known s.tokens → awp P.parse_compound (If (Item F.compound s)) s
unfolding P.parse_compound find rows
compound_leaves s d = expects plain K.Hash tt _ _ _ (λ h b. (
  λ _ _. tt,
  λ _. (
    λ j. let h₂ = good_of K.LBracket tt t.tokens e j in
        follow G L R M (P.parse_list ArrayValues) _ (Opened F.expression t) _ _ (list_leaves ArrayValues t)
        (λ a u l q. record {
          leaves = made _ refl refl (at h₂.placed (with_count (omega (arith, q.count, tail_le t.tokens, e.1))
              nothing)) q.leaves;
          less = omega (arith, q.count, tail_le t.tokens);
        }),
    λ _. (
      λ j. let h₂ = good_of K.LBrace tt t.tokens e j in
          follow G L R M (P.parse_list StructValues) _ (Opened F.compound_field t) _ _ (list_leaves StructValues t)
          (λ a u l q. record {
            leaves = made _ refl refl (at h₂.placed
                (with_count (omega (arith, q.count, tail_le t.tokens, e.1)) nothing)) q.leaves;
            less = omega (arith, q.count, tail_le t.tokens);
          }),
      λ _ _. tt,
    ),
  ),
))
  where
    t : St
    t = advance (λ _. plain) s

    e : Known t.tokens
    e = known_tail s.tokens d

-- a declaration: its type, and its initial value
record Declared (s : St) (x : Fallible P.Typed) (s' : St) : Type 0 where
  leaves : Leaves x.item.type (F.type ∷ F.initial_value ∷ [])
  name : utf8 x.item.name ≡ true
  less : length s'.tokens < length s.tokens

var_like_leaves : (s : St) → Known s.tokens → awp P.parse_var_like_declaration (If (Declared s)) s
unfolding P.parse_var_like_declaration find rows
var_like_leaves s d = uses (Typed s) P.parse_typed_identifier _ _ _ (typed_identifier_leaves s) (λ x t l p. (
  λ i _. calls Expression _ _ _ (λ e u q. record {
    leaves = also p.leaves (made _ refl refl (bare nothing) q.leaves);
    name = p.name;
    less = omega (arith, p.less, q.less, tail_le t.tokens);
  }),
  λ _. (
    λ i _. uses (Item F.compound (advance (λ _. plain) t)) P.parse_compound _ _ _
        (compound_leaves (advance (λ _. plain) t) (known_tail t.tokens (known_later s t l d)))
        (λ c u l₂ q. record {
          leaves = also p.leaves (made _ refl refl (bare nothing) q.leaves);
          name = p.name;
          less = omega (arith, p.less, q.less, tail_le t.tokens);
        }),
    λ _.
        record { leaves = also p.leaves (leaf _ refl refl refl (bare nothing)); name = p.name; less = p.less },
  ),
))

declaration_leaves : (tag k : ℕ)
    → ((rs : List Rec) (p : Place) (x : List ℕ) → Placed 1 p → utf8 x ≡ true
    → Leaves rs (F.type ∷ F.initial_value ∷ []) → Leaves (P.node rs tag p [] x).recs (k ∷ []))
    → (p : Place) → Placed 1 p → (s : St) → Known s.tokens → reads k (P.declaration tag p) s
unfolding P.declaration
declaration_leaves tag k w p h s d =
    uses (Declared s) P.parse_var_like_declaration _ _ _ (var_like_leaves s d)
    (λ x t l q. expects plain K.Semicolon tt _ _ _ (λ _ b. record {
      leaves = w _ _ _ h q.name q.leaves;
      place = h;
      less = omega (arith, q.less);
    }))

-- ---- statements

body_leaves : (s : St) → awp P.parse_body (Opened F.statement s) s
unfolding P.parse_body ◌>>=◌
body_leaves s d = (
  λ i a t l p. record { leaves = p.leaves none_left; count = omega (arith, p.count) },
  λ _. (
    λ _ _. record { leaves = none_left; count = omega arith },
    λ _ _. record { leaves = none_left; count = omega arith },
  ),
)

body_turn_leaves : (i : Items) (s : St) → awp (P.body_turn i) (Listing F.statement i s) s
unfolding P.body_turn
body_turn_leaves i s = (
  λ e d. record { leaves = λ f. f; count = omega (arith, tail_le s.tokens) },
  λ _. (
    λ _ _. record { leaves = λ f. f; count = omega arith },
    λ _. (
      λ x t l p a u l₂ q. record {
        leaves = λ f. q.leaves (one_more i.count F.statement f p.leaves);
        count = omega (arith, q.count, p.less);
      },
      λ es t l p a u l₂ q. record { leaves = q.leaves; count = omega (arith, q.count, later_left l) },
    ),
  ),
)

-- what holds after the first token holds for the whole
more : (k : ℕ) (s : St) (m : Act (Ans Node)) → awp m (If (Whole k (advance (λ _. plain) s))) (advance (λ _. plain) s)
    → awp m (If (Whole k s)) (advance (λ _. plain) s)
more k s m w = wp_mono G L R M (If (Whole k (advance (λ _. plain) s))) (If (Whole k s)) m (advance (λ _. plain) s) go w
  where
    go : (a : Ans Node) (t : St) → If (Whole k (advance (λ _. plain) s)) a t → If (Whole k s) a t
    go (ok x) t p = record { leaves = p.leaves; place = p.place; less = omega (arith, p.less, tail_le s.tokens) }
    go (fatal es) t p = tt

return_leaves : (p : Place) → Placed 1 p → (s : St) → reads F.statement (P.parse_return p) s
unfolding P.parse_return find rows
return_leaves p h s = (
  λ j d. record {
    leaves = leaf _ refl refl refl (at h (with_byte {n = 0} (omega arith) (omega arith) nothing));
    place = h;
    less = there K.Semicolon tt s.tokens j;
  },
  λ _.
      calls Expression _ _ _ (λ e t q. expects plain K.Semicolon tt _ _ _ (λ _ b. record {
        leaves = made _ refl refl (at h (with_byte {n = 1} (omega arith) (omega arith) nothing)) q.leaves;
        place = h;
        less = omega (arith, q.less);
      })),
)

if_leaves : (p : Place) → Placed 1 p → (s : St) → reads F.statement (P.parse_if p) s
unfolding P.parse_if find rows
if_leaves p h s = calls Expression _ _ _ (λ c t q. calls Statement _ _ _ (λ a u r. (
  λ j d. calls Statement _ _ _ (λ b v z. record {
    leaves = made _ refl refl (at h (with_byte {n = 3} (omega arith) (omega arith) nothing))
        (also (also q.leaves r.leaves) z.leaves);
    place = h;
    less = omega (arith, q.less, r.less, z.less, tail_le u.tokens);
  }),
  λ _.
      record {
        leaves = made _ refl refl (at h (with_byte {n = 2} (omega arith) (omega arith) nothing))
            (also q.leaves r.leaves);
        place = h;
        less = omega (arith, q.less, r.less);
      },
)))

after_expression_leaves : (p : Place) → Placed 1 p → (e : Node) (s t : St) → Leaves e.recs (F.expression ∷ [])
    → length t.tokens < length s.tokens → Known t.tokens
    → awp (P.after_expression p e) (If (Whole F.statement s)) t
unfolding P.after_expression find rows
after_expression_leaves p h e s t f b d = (
  λ i _. calls Expression _ _ _ (λ v u q. expects plain K.Semicolon tt _ _ _ (λ _ b₂. record {
    leaves = made _ refl refl (at h nothing) (also f q.leaves);
    place = h;
    less = omega (arith, q.less, tail_le t.tokens);
  })),
  λ _. (
    λ i _. uses (Item F.compound (advance (λ _. plain) t)) P.parse_compound _ _ _
        (compound_leaves (advance (λ _. plain) t) (known_tail t.tokens d))
        (λ v u l q. expects plain K.Semicolon tt _ _ _ (λ _ b₂. record {
          leaves = made _ refl refl (at h nothing) (also f q.leaves);
          place = h;
          less = omega (arith, q.less, tail_le t.tokens);
        })),
    λ _.
        expects plain K.Semicolon tt _ _ _ (λ _ b₂. record {
          leaves = made _ refl refl (at h nothing) f;
          place = h;
          less = omega arith;
        }),
  ),
)

expression_statement_leaves : (p : Place) → Placed 1 p → (s : St) → Known s.tokens
    → reads F.statement (P.expression_statement p) s
unfolding P.expression_statement find rows ◌>>=◌
expression_statement_leaves p h s d = (
  λ e t l q. (
    λ _. after_expression_leaves p h e.item s t q.leaves q.less (known_later s t l d),
    λ _. record {
      leaves = made _ refl refl (at h nothing) q.leaves;
      place = h;
      less = q.less;
    },
  ),
  λ es t l q. tt,
)

statement_leaves : (s : St) → Known s.tokens → reads F.statement P.statement_rule s
unfolding P.statement_rule find rows
statement_leaves s d = (
  λ i _. more F.statement s (P.parse_return (next_token s.tokens).place)
      (return_leaves (next_token s.tokens).place (good_of K.KwReturn tt s.tokens d i).placed (advance (λ _. plain) s)),
  λ _. (
    λ i _. more F.statement s (P.declaration Tag.VariableDeclaration (next_token s.tokens).place)
        (declaration_leaves Tag.VariableDeclaration F.statement
        (λ rs p x h u f. made _ refl refl (at h (with_text u)) f)
        (next_token s.tokens).place (good_of K.KwVar tt s.tokens d i).placed (advance (λ _. plain) s)
        (known_tail s.tokens d)),
    λ _. (
      λ i. let h = good_of K.LBrace tt s.tokens d i in
          let b = there K.LBrace tt s.tokens i in
          follow G L R M P.parse_body _ (Opened F.statement s) _ _ (body_leaves s)
          (λ a t l q. record {
            leaves = made _ refl refl (at h.placed (with_count (omega (arith, q.count, d.1)) nothing)) q.leaves;
            place = h.placed;
            less = omega (arith, q.count);
          }),
      λ _. (
        λ i _. let h = good_of K.KwLoop tt s.tokens d i in
            calls Statement _ _ _ (λ b t p. record {
              leaves = made _ refl refl (at h.placed nothing) p.leaves;
              place = h.placed;
              less = omega (arith, p.less, tail_le s.tokens);
            }),
        λ _. (
          λ i _. let h = good_of K.KwWhile tt s.tokens d i in
              calls Expression _ _ _ (λ c t p. calls Statement _ _ _ (λ b u q. record {
                leaves = made _ refl refl (at h.placed nothing) (also p.leaves q.leaves);
                place = h.placed;
                less = omega (arith, p.less, q.less, tail_le s.tokens);
              })),
          λ _. (
            λ i _. let h = good_of K.KwBreak tt s.tokens d i in
                expects plain K.Semicolon tt _ _ _ (λ _ b. record {
                  leaves = leaf _ refl refl refl (at h.placed nothing);
                  place = h.placed;
                  less = omega (arith, tail_le s.tokens);
                }),
            λ _. (
              λ i _. more F.statement s (P.parse_if (next_token s.tokens).place)
                  (if_leaves (next_token s.tokens).place (good_of K.KwIf tt s.tokens d i).placed
                  (advance (λ _. plain) s)),
              λ _. (
                λ i _. let h = good_of K.InlineAssemblyFragment tt s.tokens d i in
                    record {
                      leaves = leaf _ refl refl refl (at h.placed (with_text h.formed.utf8));
                      place = h.placed;
                      less = there K.InlineAssemblyFragment tt s.tokens i;
                    },
                λ _. (
                  λ _ _. tt,
                  λ e. expression_statement_leaves (next_token s.tokens).place (good s.tokens d e).placed s d,
                ),
              ),
            ),
          ),
        ),
      ),
    ),
  ),
)

-- ---- items

function_body_leaves : (p : Place) → Placed 1 p → (x : ℕ) (name : Tok) → utf8 name.text ≡ true
    → (ps : Items) (r : Fallible Node) (s t : St) → Leaves ps.recs (replicate ps.count F.named_type)
    → Leaves r.item.recs (F.type ∷ []) → ps.count ≤ 2048
    → length t.tokens < length s.tokens → length s.tokens ≤ 2048
    → awp (P.function_body p x name ps r) (If (Whole F.item s)) t
unfolding P.function_body find rows
function_body_leaves p h x name n ps r s t fp fr c b d = (
  λ e. expects plain K.Semicolon tt _ _ _ (λ _ b₂. record {
    leaves = made _ refl refl (at h (with_byte {n = 1} (omega arith) (omega arith) (with_count c (with_text n))))
        (also fp fr);
    place = h;
    less = omega arith;
  }),
  λ e.
      follow G L R M P.parse_body _ (Opened F.statement t) _ _ (body_leaves t) (λ z u l q. record {
        leaves = made _ refl refl (at h (with_byte {n = 0} (omega arith) (omega arith) (with_count c (with_text n))))
            (all_three fp fr (made _ refl refl (at h
            (with_count {n = z.count} (omega (arith, q.count, tail_le t.tokens)) nothing)) q.leaves));
        place = h;
        less = omega (arith, q.count, tail_le t.tokens);
      }),
)

function_leaves : (p : Place) → Placed 1 p → (x : ℕ) (s : St) → Known s.tokens
    → reads F.item (P.function p x) s
unfolding P.function find rows
function_leaves p h x s d =
    expects plain K.KwFn tt _ _ _ (λ _ b. identifier _ _ _
    (λ n b₂. follow G L R M (P.parse_list Parameters) _ (Opened F.named_type u) _ _ (list_leaves Parameters u)
    (λ ps v l q. (
      λ k _. calls Type' _ _ _ (λ ty w r. function_body_leaves p h x (next_token (tail s.tokens)) n.formed.utf8 ps ty s w
          q.leaves r.leaves (omega (arith, q.count, tail_le u.tokens, d.1))
          (omega (arith, q.count, tail_le u.tokens, r.less, tail_le v.tokens)) d.1),
      λ _.
          function_body_leaves p h x (next_token (tail s.tokens)) n.formed.utf8 ps void s v q.leaves
          (leaf _ refl refl refl (at h nothing)) (omega (arith, q.count, tail_le u.tokens, d.1))
          (omega (arith, q.count, tail_le u.tokens)) d.1,
    ))))
  where
    u : St
    u = advance (λ _. plain) (advance (λ _. plain) s)

    void : Fallible Node
    void = record { item = P.node [] Tag.Void p [] []; errors = [] }

function_definition_leaves : (s : St) → Known s.tokens → Placed 1 (next_token s.tokens).place
    → reads F.item P.parse_function_definition s
unfolding P.parse_function_definition
function_definition_leaves s d h = (
  λ i _. more F.item s (P.function (next_token s.tokens).place 1)
      (function_leaves (next_token s.tokens).place h 1 (advance (λ _. plain) s) (known_tail s.tokens d)),
  λ _. function_leaves (next_token s.tokens).place h 0 s d,
)

type_alias_leaves : (s : St) → Known s.tokens → Placed 1 (next_token s.tokens).place
    → reads F.item P.parse_type_alias s
unfolding P.parse_type_alias P.alias_rule find rows
type_alias_leaves s d h w t l m = expects plain K.KwType tt _ _ _ (λ _ b d₂. (
  λ _. tt,
  λ e. (
    λ _ _. tt,
    λ _. expects plain K.Equals tt _ _ _ (λ _ b₂. calls Type' _ _ _
        (λ ty u p. expects plain K.Semicolon tt _ _ _ (λ _ b₃. record {
          leaves = made _ refl refl (at h (with_byte {n = w.distinct + w.internal} (omega arith)
              (omega (arith, m (omega arith) (omega arith))) (with_text (good (tail t.tokens) d₂ e).formed.utf8)))
              p.leaves;
          place = h;
          less = omega (arith, p.less, later_left l, b, tail_le (tail t.tokens));
        }))),
  ),
))

use_leaves : (s : St) → Known s.tokens → reads F.item P.parse_use s
unfolding P.parse_use P.path_rule find rows
use_leaves s d = expects plain K.KwUse tt _ _ _ (λ h b d₂. (
  λ _. tt,
  λ e. (
    λ _ _. tt,
    λ _. expects plain K.Semicolon tt _ _ _ (λ _ b₃. record {
      leaves = leaf _ refl refl refl (at h.placed (with_text (good (tail s.tokens) d₂ e).formed.utf8));
      place = h.placed;
      less = omega (arith, tail_le (tail s.tokens));
    }),
  ),
))

top_level_item_leaves : (s : St) → Known s.tokens → next_token s.tokens is K.End ≡ false
    → reads F.item P.parse_top_level_item s
unfolding P.parse_top_level_item P.parse_top_level_var_declaration find rows
top_level_item_leaves s d z = (
  λ _. function_definition_leaves s d h.placed,
  λ _. (
    λ _. type_alias_leaves s d h.placed,
    λ _. (
      λ _. use_leaves s d,
      λ _. (
        λ _. expects plain K.KwVar tt _ _ _ (λ t b. more F.item s
            (P.declaration Tag.TopLevelVariable (next_token s.tokens).place)
            (declaration_leaves Tag.TopLevelVariable F.item (λ rs p x h u f. made _ refl refl (at h (with_text u)) f)
            (next_token s.tokens).place h.placed (advance (λ _. plain) s) (known_tail s.tokens d))),
        λ _. (
          λ i _. record {
            leaves = leaf _ refl refl refl (at h.placed (with_text h.formed.utf8));
            place = h.placed;
            less = there K.InlineAssemblyFragment tt s.tokens i;
          },
          λ _ _ _. tt,
        ),
      ),
    ),
  ),
)
  where
    h : Good (next_token s.tokens)
    h = good s.tokens d z

module_turn_leaves : (i : Items) (s : St) → Known s.tokens → awp (P.module_turn i) (Listing F.item i s) s
unfolding P.module_turn
module_turn_leaves i s d = (
  λ e. record { leaves = λ f. f; count = omega arith },
  λ z. follow G L R M P.parse_top_level_item _ (If (Whole F.item s)) _ _ (top_level_item_leaves s d z) go,
)
  where
    go : (a : Ans Node) (t : St) → Later s t → If (Whole F.item s) a t → (b : Items) (u : St) → Later t u
        → Listing F.item (P.integrate i a) t b u → Listing F.item i s b u
    go (ok x) t l p b u l₂ q =
        record {
          leaves = λ f. q.leaves (one_more i.count F.item f p.leaves);
          count = omega (arith, q.count, p.less);
        }
    go (fatal es) t l p b u l₂ q = record { leaves = q.leaves; count = omega (arith, q.count, later_left l) }

modifiers_leaves : (w : Words) (s : St) → awp (P.modifiers_turn w) (L (Modifiers w) s) s
unfolding P.modifiers_turn
modifiers_leaves w s =
    (λ i d a t l p x y. p (omega arith) y, λ _. (λ i d a t l p x y. p x (omega arith), λ _ x y. (x, y)))

rules : (g : Goal) (s : St) → Known s.tokens → awp (P.rule g) (G g s) s
rules Statement s d = statement_leaves s d
rules Expression s d = expression_leaves s
rules Unary s d = unary_leaves s d
rules Type' s d = type_leaves s d

turns : (l : Loop) (s : St) → Known s.tokens → awp (P.turn l) (L l s) s
turns (Module i) s d = module_turn_leaves i s d
turns (Body i) s d = body_turn_leaves i s
turns (ListOf k i) s d = list_turn_leaves k i s
turns (Operators l e) s d = operators_leaves l e s
turns (Casts e) s d = casts_leaves e s
turns (Suffixes e) s d = suffixes_leaves e s d
turns (Modifiers w) s d = modifiers_leaves w s

-- the records of a whole reading leave the items that the record of the module counts
pub module_leaves : (ts : List Tok) → Known ts → (i : Items) (s : St) → parse_tokens ts ≡ gives i s
    → Rooted i.recs (module_rec i.count) × (i.count ≤ 2048)
unfolding find rows
module_leaves ts d i s e =
    let start : St = begin (losses ts) ts in
    let q : Listing F.item (P.no_items []) start i s =
    subst (After (Listing F.item (P.no_items []) start)) e
    (tokens_after (Listing F.item (P.no_items []) start) ts
    (λ _. module_known G L Known known_tail known_later rules turns (losses ts) ts d)) in
    let n : i.count ≤ 2048 = omega (arith, q.count, d.1) in
    let h = bare (with_count n nothing) in
    (record { row = _; found = refl; root = refl; holds = h; leaves = q.leaves none_left }, n)

-- the bytes of the module's record are its field in a file
pub module_written : (n : ℕ) → rec_bytes (module_rec n) ≡ field Tag.Module (u16 n)
unfolding rec_bytes nums_bytes
module_written n = refl
