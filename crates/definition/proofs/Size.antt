-- Two facts about every call and loop. The records of a tree take at most 16 bytes for each token, and the bytes of
-- the texts. The reported errors are among those made, none more often than it was made: hence the sums over any
-- weight `f` of errors. Assumes nothing.
use mathlib.Core.Path.{◌≡◌, refl}
use mathlib.Core.Option.{Option, none, some}
use mathlib.Core.List.{List, [], ◌∷◌, ◌++◌}
use Prim.Native.Nat.{ℕ, ◌+◌, ◌*◌, ◌-◌, ◌≤◌, ◌<◌}
use native.Mathlib.Omega.{arith}
use lib.ListN.{length}
use Rattle.definition.specs.Ascii.{ascii}
use Rattle.definition.specs.Source.{Place}
use Rattle.definition.specs.Node.{Num, byte, two, eight, Rec}
use Rattle.definition.specs.Fallible.{Err, Fallible, Ans, ok, fatal}
use Rattle.definition.specs.Token.{Tok, next_token, tail}
use Rattle.definition.specs.Cost.{cost}
unfoldable pub use Rattle.definition.specs.Cost.{spend as budget}
use Rattle.definition.specs.Act.{Node, Items, Goal, Statement, Expression, Unary, Type', Loop, Module, Body, ListOf, Operators, Casts, Suffixes, Modifiers, Listed, Parameters, Arguments, StructFields, ArrayValues, StructValues, Level, Left, Words, Act, St, push, next, done, ◌>>=◌, ◌>>?◌}
use Rattle.definition.specs.Parser as P
use Rattle.definition.specs.Parser.{rule, turn, statement_rule, expression_rule, unary_rule, type_rule, list_turn, body_turn, module_turn, operators_turn, casts_turn, suffixes_turn, modifiers_turn, Typed, parse, parse_module}
use Rattle.definition.specs.Losses.{losses, parse_tokens}
use Rattle.definition.proofs.Tests.{is_kind, not_end}
use Rattle.definition.proofs.Later.{Later, next_state, After, weaken}
use Rattle.definition.proofs.Ind.{EachAns, mapping_positive, comparisons_positive, wp, wp_mono, follow, try, via, wp_find, wp_bitwise_or, wp_cascade, parse_ind, module_ind}
use Rattle.definition.proofs.Losses.{tokens_after}

abbrev pub place_size : Option Place → ℕ
place_size none = 0
place_size (some p) = 4

abbrev pub nums_size : List Num → ℕ
nums_size [] = 0
nums_size (byte n ∷ ns) = 1 + nums_size ns
nums_size (two n ∷ ns) = 2 + nums_size ns
nums_size (eight n ∷ ns) = 8 + nums_size ns

-- for tags that no record of the tree has, more than all tokens of a script account for
abbrev pub excess : ℕ → ℕ
excess tag = 65536 * (tag - 0x54)

-- the bytes of the records, and the excess of their tags
abbrev pub weight : List Rec → ℕ
weight [] = 0
weight (r ∷ rs) = (3 + place_size r.place + nums_size r.numbers + length r.text + excess r.tag) + weight rs

weight_append : (xs ys : List Rec) → weight (xs ++ ys) ≡ weight xs + weight ys
weight_append [] ys = omega arith
weight_append (x ∷ xs) ys = omega (arith, weight_append xs ys)

abbrev R : St → Type 0
R s = cost (next_token s.tokens) + budget (tail s.tokens) ≡ budget s.tokens

r_ok : (ts : List Tok) → cost (next_token ts) + budget (tail ts) ≡ budget ts
unfolding budget
r_ok [] = refl
r_ok (t ∷ ts) = refl

abbrev M : Err → St → Type 0
M e s = Unit {0}

module _ (f : Err → ℕ) where
  abbrev pub tally : List Err → ℕ
  tally [] = 0
  tally (e ∷ es) = f e + tally es

  pub tally_append : (xs ys : List Err) → tally (xs ++ ys) ≡ tally xs + tally ys
  tally_append [] ys = omega arith
  tally_append (x ∷ xs) ys = omega (arith, tally_append xs ys)

  ruleset sums = (weight_append, tally_append)

  -- the tokens read account for k bytes more
  abbrev Post : ℕ → St → Ans Node → St → Type 0
  Post k s (ok x) s' =
      (weight x.item.recs + k + budget s'.tokens ≤ budget s.tokens)
      × (tally x.errors + tally s.full ≤ tally s'.full)
  Post k s (fatal es) s' = (budget s'.tokens ≤ budget s.tokens) × (tally es + tally s.full ≤ tally s'.full)

  -- at most k bytes more than the tokens read account for
  abbrev Over : ℕ → St → Ans Node → St → Type 0
  Over k s (ok x) s' =
      (weight x.item.recs + budget s'.tokens ≤ k + budget s.tokens)
      × (tally x.errors + tally s.full ≤ tally s'.full)
  Over k s (fatal es) s' = (budget s'.tokens ≤ budget s.tokens) × (tally es + tally s.full ≤ tally s'.full)

  -- a function after its parameters and return type: at most k bytes more
  abbrev Built : ℕ → Items → Fallible Node → St → Ans Node → St → Type 0
  Built k ps r s (ok x) s' =
      (weight x.item.recs + budget s'.tokens ≤ k + weight ps.recs + weight r.item.recs + budget
      s.tokens)
      × (tally x.errors + tally s.full ≤ tally r.errors + tally ps.errors + tally s'.full)
  Built k ps r s (fatal es) s' = (budget s'.tokens ≤ budget s.tokens) × (tally es + tally s.full ≤ tally s'.full)

  abbrev PostTyped : St → Ans Typed → St → Type 0
  PostTyped s (ok x) s' =
      (weight x.item.type + length x.item.name + 16 + budget s'.tokens ≤ budget s.tokens)
      × (tally x.errors + tally s.full ≤ tally s'.full)
  PostTyped s (fatal es) s' = (budget s'.tokens ≤ budget s.tokens) × (tally es + tally s.full ≤ tally s'.full)

  abbrev PostTyped' : St → Ans Typed → St → Type 0
  PostTyped' s (ok x) s' =
      (weight x.item.type + length x.item.name + 13 + budget s'.tokens ≤ budget s.tokens)
      × (tally x.errors + tally s.full ≤ tally s'.full)
  PostTyped' s (fatal es) s' = (budget s'.tokens ≤ budget s.tokens) × (tally es + tally s.full ≤ tally s'.full)

  -- a typed identifier after its name
  abbrev PostNamed : List ℕ → List Err → St → Ans Typed → St → Type 0
  PostNamed name es s (ok x) s' =
      (weight x.item.type + 16 + budget s'.tokens ≤ budget s.tokens)
      × (tally x.errors + tally s.full ≤ tally es + tally s'.full)
      × (length x.item.name ≡ length name)
  PostNamed name es s (fatal es') s' = (budget s'.tokens ≤ budget s.tokens) × (tally es' + tally s.full ≤ tally s'.full)

  abbrev PostItems : Items → St → Items → St → Type 0
  PostItems i s a s' =
      (weight a.recs + budget s'.tokens ≤ weight i.recs + budget s.tokens)
      × (tally a.errors + tally s.full ≤ tally i.errors + tally s'.full)

  -- a list or a body, with the token that opens it
  abbrev PostOpened : St → Items → St → Type 0
  PostOpened s a s' =
      (weight a.recs + cost (next_token s.tokens) + budget s'.tokens ≤ budget s.tokens)
      × (tally a.errors + tally s.full ≤ tally s'.full)

  abbrev spare : Goal → ℕ
  spare Statement = 0
  spare Expression = 8
  spare Unary = 8
  spare Type' = 0

  abbrev G : Goal → St → Ans Node → St → Type 0
  G g s a s' = Post (spare g) s a s'

  abbrev From : Fallible Node → St → Ans Node → St → Type 0
  From e s (ok x) s' =
      (weight x.item.recs + budget s'.tokens ≤ weight e.item.recs + budget s.tokens)
      × (tally x.errors + tally s.full ≤ tally e.errors + tally s'.full)
  From e s (fatal es) s' = (budget s'.tokens ≤ budget s.tokens) × (tally es + tally s.full ≤ tally s'.full)

  abbrev L : (l : Loop) → St → Left l → St → Type 0
  L (Module i) s a s' = PostItems i s a s'
  L (Body i) s a s' = PostItems i s a s'
  L (ListOf k i) s a s' = PostItems i s a s'
  L (Operators l e) s a s' = From e s a s'
  L (Casts e) s a s' = From e s a s'
  L (Suffixes e) s a s' = From e s a s'
  L (Modifiers w) s a s' = (budget s'.tokens ≤ budget s.tokens) × (tally s.full ≤ tally s'.full)

  abbrev wp' : {A : Type 0} → Act A → (A → St → Type 0) → St → Type 0
  wp' m Q s = wp G L R M m Q s

  typed_size : (name : List ℕ) (es : List Err) (s : St) → wp' (P.typed name es) (λ a s'. PostNamed name es s a s') s
  unfolding P.typed ◌>>=◌
  typed_size name es s = simp sums (omega (arith, is_kind))

  typed_identifier_size : (s : St) → wp' P.parse_typed_identifier (PostTyped s) s
  unfolding P.parse_typed_identifier ascii
  typed_identifier_size s = λ r. (
    λ i. named (next_token s.tokens).text [] (next_state s) (omega (arith, is_kind)) (omega arith),
    λ n. (
      λ i m. simp sums (omega (arith, is_kind)),
      λ e m. named (ascii "<?>") _ (push _ (next_state s))
          (omega (arith, is_kind, not_end)) (simp sums (omega arith)),
    ),
  )
    where
      named : (name : List ℕ) (es : List Err) (t : St) → length name + 0 + budget t.tokens ≤ budget s.tokens
          → tally es + tally s.full ≤ tally t.full → wp' (P.typed name es) (PostTyped s) t
      named name es t b c =
          via G L R M (P.typed name es) (PostNamed name es t) (PostTyped s) t (typed_size name es t)
          (omega arith) (omega arith)

  prefix_size : (tag : ℕ) (s : St) → tag ≤ 0x54 → 0 < (next_token s.tokens).kind → wp' (P.prefix tag) (Post 8 s) s
  unfolding P.prefix ◌>>=◌
  prefix_size tag s h k = simp sums (omega arith)

  group_size : (s : St) → 0 < (next_token s.tokens).kind → wp' P.parse_group (Post 8 s) s
  unfolding P.parse_group ◌>>=◌
  group_size s k = simp sums (omega (arith, is_kind))

  atom_size : (s : St) → wp' P.parse_atom (Post 8 s) s
  unfolding P.parse_atom ◌>>=◌
  atom_size s = (
    λ i r. omega (arith, is_kind),
    λ _. (
      λ i r. omega (arith, is_kind),
      λ _. (
        λ i r. omega (arith, is_kind),
        λ _. (
          λ i r. omega (arith, is_kind),
          λ _. (
            λ i r. omega (arith, is_kind),
            λ _.
                (λ i. group_size s (omega (arith, is_kind)), λ _ r. simp sums (omega (arith, is_kind))),
          ),
        ),
      ),
    ),
  )

  list_size : (k : Listed) (s : St) → wp' (P.parse_list k) (PostOpened s) s
  unfolding P.parse_list ◌>>=◌
  list_size k s = simp sums (omega (arith, is_kind))

  named_type_size : (s : St) → wp' P.parse_named_type (Post 0 s) s
  unfolding P.parse_named_type
  named_type_size s =
      try G L R M _ _ (PostTyped s) _ _ (typed_identifier_size s) (simp sums (omega arith)) (omega arith)

  struct_field_size : (s : St) → wp' P.parse_compound_struct_field (Post 0 s) s
  unfolding P.parse_compound_struct_field ◌>>=◌
  struct_field_size s = simp sums (omega (arith, is_kind))

  after_item_size : (k : Listed) (i : Items) (s : St) → wp' (P.after_item k i) (PostItems i s) s
  unfolding P.after_item
  after_item_size k i s =
      let t : Tok = next_token s.tokens in
      let es : List Err = P.error 15 t.place 0 t.kind ∷ [] in
      omega (arith, is_kind, tally_append i.errors es, tally_append s.full es)

  array_type_size : (p : Place) (s : St) → wp' (P.parse_array_type p) (Post 0 s) s
  unfolding P.parse_array_type ◌>>=◌
  array_type_size p s = simp sums (omega (arith, is_kind))

  type_size : (s : St) → wp' type_rule (Post 0 s) s
  unfolding type_rule ◌>>=◌
  type_size s r = (
    λ i. omega (arith, is_kind),
    λ _. (
      λ i. simp sums (omega (arith, is_kind)),
      λ _. (
        λ i. array (omega (arith, is_kind)),
        λ _. (
          λ i. struct (omega (arith, is_kind)),
          λ _. (λ i m. simp sums (omega arith), λ _ m. simp sums (omega arith)),
        ),
      ),
    ),
  )
    where
      t : St
      t = next_state s

      array : 16 + budget t.tokens ≤ budget s.tokens → wp' (P.parse_array_type (next_token s.tokens).place) (Post 0 s) t
      array b =
          let p : Place = (next_token s.tokens).place in
          via G L R M (P.parse_array_type p) (Post 0 t) (Post 0 s) t (array_type_size p t) (omega arith) (omega arith)

      made : Items → Act (Ans Node)
      made i = P.good (P.node i.recs 0x14 (next_token s.tokens).place (two i.count ∷ []) []) []

      struct : 16 + budget t.tokens ≤ budget s.tokens → wp' (P.parse_list StructFields >>= made) (Post 0 s) t
      struct b =
          follow G L R M (P.parse_list StructFields) made (PostOpened t) (Post 0 s) t (list_size StructFields t)
          (simp sums (omega arith))

  suffixes_size : (e : Fallible Node) (s : St) → wp' (suffixes_turn e) (From e s) s
  unfolding suffixes_turn ◌>>=◌
  suffixes_size e s = (
    λ i r r'. (λ _. tt, λ _. simp sums (omega (arith, is_kind))),
    λ _. (
      λ i r. simp sums (omega (arith, is_kind)),
      λ _. (λ i r. simp sums (omega (arith, is_kind)), λ _. omega arith),
    ),
  )

  field_access_size : (s : St) → wp' P.parse_field_access_or_index (Post 8 s) s
  unfolding P.parse_field_access_or_index
  field_access_size s = try G L R M _ _ (Post 8 s) _ _ (atom_size s) (λ e s' p. omega arith) (omega arith)

  sizeof_size : (s : St) → wp' P.parse_sizeof (Post 8 s) s
  unfolding P.parse_sizeof ◌>>=◌
  sizeof_size s = (λ i r. simp sums (omega (arith, is_kind)), λ _. field_access_size s)

  call_size : (s : St) → wp' P.parse_call (Post 8 s) s
  unfolding P.parse_call
  call_size s =
      try G L R M _ _ (Post 8 s) _ _ (sizeof_size s)
      (λ e s' p. (
        λ i. follow G L R M _ _ (PostOpened s') _ _ (list_size Arguments s')
            (λ js s'' l q. simp sums (omega (arith, is_kind))),
        λ _. omega arith,
      ))
      (omega arith)

  unary_size : (s : St) → wp' unary_rule (Post 8 s) s
  unfolding unary_rule
  unary_size s = (
    λ i. prefix_size 0x27 s (omega arith) (omega (arith, is_kind)),
    λ _. (
      λ i. prefix_size 0x28 s (omega arith) (omega (arith, is_kind)),
      λ _. (
        λ i. prefix_size 0x2A s (omega arith) (omega (arith, is_kind)),
        λ _. (λ i. prefix_size 0x2B s (omega arith) (omega (arith, is_kind)), λ _. call_size s),
      ),
    ),
  )

  cast_size : (s : St) → wp' P.parse_cast (Post 8 s) s
  unfolding P.parse_cast ◌>>=◌
  cast_size s = omega arith

  casts_size : (e : Fallible Node) (s : St) → wp' (casts_turn e) (From e s) s
  unfolding casts_turn ◌>>=◌
  casts_size e s = simp sums (omega (arith, is_kind))

  -- the loop of a level
  level_size : (s : St) (l : Level) (x : Fallible Node) (s' : St) → Post 8 s (ok x) s'
      → EachAns (λ a. (s'' : St) → Later s' s'' → From x s' a s'' → Post 8 s a s'')
  level_size s l x s' p = omega arith

  bitwise_or_size : (s : St) → wp' P.parse_bitwise_or (Post 8 s) s
  bitwise_or_size s = wp_bitwise_or G L R M (Post 8 s) s (level_size s) (cast_size s)

  cascade_size : (l : Level) (s : St) → wp' (P.cascade l) (Post 8 s) s
  cascade_size l s = wp_cascade G L R M (Post 8 s) s (level_size s) (cast_size s) l

  operators_size : (l : Level) (e : Fallible Node) (s : St) → wp' (operators_turn l e) (From e s) s
  unfolding operators_turn
  operators_size l e s =
      wp_find G L R M (P.mapping l) _ _ _ s (next_token s.tokens) (mapping_positive l)
      (λ k o r. try G L R M (P.cascade l) _ (Post 8 (next_state s)) _ _ (cascade_size l (next_state s))
      (simp sums (omega arith)) (omega arith))
      (omega arith)

  comparison_size : (s : St) → wp' P.parse_comparison (Post 8 s) s
  unfolding P.parse_comparison
  comparison_size s =
      try G L R M _ _ (Post 8 s) _ _ (bitwise_or_size s)
      (λ e s' p. wp_find G L R M P.comparisons
      (λ o. next λ op. P.parse_bitwise_or >>? λ r. done (ok (P.binary 0x2E (byte o ∷ []) op.place e r)))
      (done (ok e)) (Post 8 s) s' (next_token s'.tokens) comparisons_positive
      (λ k o r. try G L R M P.parse_bitwise_or _ (Post 8 (next_state s')) _ _ (bitwise_or_size (next_state s'))
      (simp sums (omega arith)) (omega arith))
      (omega arith))
      (omega arith)

  expression_size : (s : St) → wp' expression_rule (Post 8 s) s
  unfolding expression_rule
  expression_size s =
      try G L R M _ _ (Post 8 s) _ _ (comparison_size s)
      (λ e s' p. (
        λ i r. try G L R M P.parse_comparison _ (Post 8 (next_state s')) _ _ (comparison_size (next_state s'))
            (simp sums (omega (arith, is_kind))) (omega arith),
        λ _. omega arith,
      ))
      (omega arith)

  item_size : (k : Listed) (s : St) → wp' (P.item k) (Post 0 s) s
  item_size Parameters s = named_type_size s
  item_size Arguments s = omega arith
  item_size StructFields s = named_type_size s
  item_size ArrayValues s = omega arith
  item_size StructValues s = struct_field_size s

  list_turn_size : (k : Listed) (i : Items) (s : St) → wp' (list_turn k i) (PostItems i s) s
  unfolding list_turn
  list_turn_size k i s = (
    λ e m. simp sums (omega arith),
    λ _. (λ c r. omega arith, λ _. follow G L R M _ _ (Post 0 s) _ _ (item_size k s) go),
  )
    where
      on : (j : Items) (s' : St) → ((a : Items) (s'' : St) → PostItems j s' a s'' → PostItems i s a s'')
          → wp' (P.after_item k j) (PostItems i s) s'
      on j s' h = wp_mono G L R M (PostItems j s') (PostItems i s) (P.after_item k j) s' h (after_item_size k j s')

      go : (a : Ans Node) (s' : St) → Later s s' → Post 0 s a s'
          → wp' (P.after_item k (P.integrate i a)) (PostItems i s) s'
      go (ok x) s' l p = on (P.integrate i (ok x)) s' (simp sums (omega arith))
      go (fatal es) s' l p = on (P.integrate i (fatal es)) s' (simp sums (omega arith))

  compound_size : (s : St) → wp' P.parse_compound (Post 3 s) s
  unfolding P.parse_compound ◌>>=◌
  compound_size s r = (
    λ i. (
      λ e m. simp sums (omega arith),
      λ _. (
        λ b. follow G L R M (P.parse_list ArrayValues) _ (PostOpened t) _ _ (list_size ArrayValues t)
            (λ js s'' l q. simp sums (omega (arith, is_kind))),
        λ _. (
          λ b. follow G L R M (P.parse_list StructValues) _ (PostOpened t) _ _ (list_size StructValues t)
              (λ js s'' l q. simp sums (omega (arith, is_kind))),
          λ _ m. simp sums (omega arith),
        ),
      ),
    ),
    λ _. simp sums (omega arith),
  )
    where
      t : St
      t = next_state s

  var_like_size : (s : St) → wp' P.parse_var_like_declaration (PostTyped' s) s
  unfolding P.parse_var_like_declaration
  var_like_size s =
      try G L R M _ _ (PostTyped s) _ _ (typed_identifier_size s)
      (λ x s' p. (
        λ i r. unfold ◌>>=◌ in simp sums (omega (arith, is_kind)),
        λ _. (
          λ i r. try G L R M P.parse_compound _ (Post 3 (next_state s')) _ _ (compound_size (next_state s'))
              (simp sums (omega (arith, is_kind))) (omega (arith, is_kind)),
          λ _. simp sums (omega arith),
        ),
      ))
      (omega arith)

  declaration_size : (tag : ℕ) (p : Place) (s : St) → tag ≤ 0x54 → wp' (P.declaration tag p) (Post 0 s) s
  unfolding P.declaration ◌>>=◌
  declaration_size tag p s h =
      try G L R M P.parse_var_like_declaration _ (PostTyped' s) _ _ (var_like_size s)
      (simp sums (omega (arith, is_kind))) (omega arith)

  body_size : (s : St) → wp' P.parse_body (PostOpened s) s
  unfolding P.parse_body ◌>>=◌
  body_size s = simp sums (omega (arith, is_kind))

  body_turn_size : (i : Items) (s : St) → wp' (body_turn i) (PostItems i s) s
  unfolding body_turn
  body_turn_size i s = simp sums (omega (arith, is_kind))

  return_size : (p : Place) (s : St) → wp' (P.parse_return p) (Over 8 s) s
  unfolding P.parse_return ◌>>=◌
  return_size p s = simp sums (omega (arith, is_kind))

  if_size : (p : Place) (s : St) → wp' (P.parse_if p) (Over 8 s) s
  unfolding P.parse_if ◌>>=◌
  if_size p s = simp sums (omega (arith, is_kind))

  after_expression_size : (p : Place) (e : Node) (s : St) → wp' (P.after_expression p e) (Over (7 + weight e.recs) s) s
  unfolding P.after_expression ◌>>=◌
  after_expression_size p e s = (
    λ i r. simp sums (omega (arith, is_kind)),
    λ _. (
      λ i r. try G L R M P.parse_compound _ (Post 3 (next_state s)) _ _ (compound_size (next_state s))
          (simp sums (omega (arith, is_kind))) (omega arith),
      λ _ r. simp sums (omega (arith, is_kind)),
    ),
  )

  expression_statement_size : (p : Place) (s : St) → wp' (P.expression_statement p) (Post 0 s) s
  unfolding P.expression_statement ◌>>=◌
  expression_statement_size p s = (
    λ e s' l q. (
      λ z. via G L R M (P.after_expression p e.item) (Over (7 + weight e.item.recs) s') (Post 0 s) s'
          (after_expression_size p e.item s') (omega arith) (omega arith),
      λ z. simp sums (omega arith),
    ),
    λ es s' l q. omega arith,
  )

  statement_size : (s : St) → wp' statement_rule (Post 0 s) s
  unfolding statement_rule ◌>>=◌
  statement_size s = (
    λ i r. via G L R M (P.parse_return _) (Over 8 t) (Post 0 s) t (return_size _ t)
        (omega (arith, is_kind)) (omega arith),
    λ _. (
      λ i r. via G L R M (P.declaration 0x42 _) (Post 0 t) (Post 0 s) t (declaration_size 0x42 _ t (omega arith))
          (omega arith) (omega arith),
      λ _. (
        λ i. follow G L R M P.parse_body _ (PostOpened s) _ _ (body_size s) (simp sums (omega (arith, is_kind))),
        λ _. (
          λ i r. simp sums (omega (arith, is_kind)),
          λ _. (
            λ i r. simp sums (omega (arith, is_kind)),
            λ _. (
              λ i r. simp sums (omega (arith, is_kind)),
              λ _. (
                λ i r. via G L R M (P.parse_if _) (Over 8 t) (Post 0 s) t (if_size _ t)
                    (omega (arith, is_kind)) (omega arith),
                λ _. (
                  λ i r. omega (arith, is_kind),
                  λ _.
                      (λ i m. simp sums (omega arith), λ _. expression_statement_size _ s),
                ),
              ),
            ),
          ),
        ),
      ),
    ),
  )
    where
      t : St
      t = next_state s

  function_body_size : (p : Place) (x : ℕ) (name : Tok) (ps : Items) (r : Fallible Node) (s : St)
      → wp' (P.function_body p x name ps r) (Built (19 + length name.text) ps r s) s
  unfolding P.function_body ◌>>=◌
  function_body_size p x name ps r s = (
    λ e q. simp sums (omega (arith, is_kind)),
    λ e. follow G L R M P.parse_body _ (PostOpened s) _ _ (body_size s) (simp sums (omega arith)),
  )

  function_size : (p : Place) (x : ℕ) (s : St) → wp' (P.function p x) (Post 0 s) s
  unfolding P.function ◌>>=◌
  function_size p x s r = (
    λ k r₂. (
      λ n. follow G L R M (P.parse_list Parameters) _ (PostOpened u) _ _ (list_size Parameters u) (λ ps v l q. (
        λ a r₃. (λ ty w l z. built ps ty w (Post 0 s) (omega (arith, is_kind)) (omega arith), λ es w l z. omega (arith, is_kind)),
        λ _. built ps _ v (Post 0 s) (omega (arith, is_kind)) (omega arith),
      )),
      λ _. (λ e m. simp sums (omega arith), λ _ m. simp sums (omega arith)),
    ),
    λ _. (λ e m. simp sums (omega arith), λ _ m. simp sums (omega arith)),
  )
    where
      t : St
      t = next_state s

      u : St
      u = next_state t

      name : Tok
      name = next_token t.tokens

      IsBuilt : Items → Fallible Node → St → Ans Node → St → Type 0
      IsBuilt ps ty w = Built (19 + length name.text) ps ty w

      built : (ps : Items) (ty : Fallible Node) (w : St) (Q : Ans Node → St → Type 0)
          → ((y : Fallible Node) (s' : St) → IsBuilt ps ty w (ok y) s' → Q (ok y) s')
          → ((es : List Err) (s' : St) → IsBuilt ps ty w (fatal es) s' → Q (fatal es) s')
          → wp' (P.function_body p x name ps ty) Q w
      built ps ty w Q h e =
          via G L R M (P.function_body p x name ps ty) (IsBuilt ps ty w) Q w (function_body_size p x name ps ty w) h e

  function_definition_size : (s : St) → wp' P.parse_function_definition (Post 0 s) s
  unfolding P.parse_function_definition
  function_definition_size s = (
    λ i r. via G L R M (P.function _ 1) (Post 0 (next_state s)) (Post 0 s) _ (function_size _ 1 (next_state s))
        (omega arith) (omega arith),
    λ _. function_size _ 0 s,
  )

  modifiers_size : (w : Words) (s : St) → wp' (modifiers_turn w) (L (Modifiers w) s) s
  unfolding modifiers_turn
  modifiers_size w s = omega arith

  type_alias_size : (s : St) → wp' P.parse_type_alias (Post 0 s) s
  unfolding P.parse_type_alias P.alias_rule ◌>>=◌
  type_alias_size s w s' l p r = (
    λ i r₂. (λ _. tt, λ _. (λ e m. simp sums (omega arith), λ e. simp sums (omega (arith, is_kind)))),
    λ _. simp sums (omega arith),
  )

  use_size : (s : St) → wp' P.parse_use (Post 0 s) s
  unfolding P.parse_use P.path_rule ◌>>=◌
  use_size s = simp sums (omega (arith, is_kind))

  top_level_var_size : (s : St) → wp' P.parse_top_level_var_declaration (Post 0 s) s
  unfolding P.parse_top_level_var_declaration ◌>>=◌
  top_level_var_size s r = (
    λ i. via G L R M (P.declaration 0x53 _) (Post 0 (next_state s)) (Post 0 s) _
        (declaration_size 0x53 _ (next_state s) (omega arith)) (omega arith) (omega arith),
    λ _. (λ e m. simp sums (omega arith), λ _ m. simp sums (omega arith)),
  )

  top_level_item_size : (s : St) → wp' P.parse_top_level_item (Post 0 s) s
  unfolding P.parse_top_level_item
  top_level_item_size s = (
    λ _. function_definition_size s,
    λ _. (
      λ _. type_alias_size s,
      λ _. (
        λ _. use_size s,
        λ _. (λ _. top_level_var_size s, λ _. (λ i r. omega (arith, is_kind), λ _ r m. simp sums (omega arith))),
      ),
    ),
  )

  module_turn_size : (i : Items) (s : St) → wp' (module_turn i) (PostItems i s) s
  unfolding module_turn
  module_turn_size i s =
      (λ _. omega arith, λ _. follow G L R M P.parse_top_level_item _ (Post 0 s) _ _ (top_level_item_size s) go)
    where
      go : (a : Ans Node) (s' : St) → Later s s' → Post 0 s a s' → (b : Items) (s'' : St) → Later s' s''
          → PostItems (P.integrate i a) s' b s'' → PostItems i s b s''
      go (ok x) s' l p = simp sums (omega arith)
      go (fatal es) s' l p = simp sums (omega arith)

  -- each rule and each turn keeps to the bounds
  pub rules : (g : Goal) (s : St) → wp' (rule g) (G g s) s
  rules Statement s = statement_size s
  rules Expression s = expression_size s
  rules Unary s = unary_size s
  rules Type' s = type_size s

  pub turns : (l : Loop) (s : St) → wp' (turn l) (L l s) s
  turns (Module i) s = module_turn_size i s
  turns (Body i) s = body_turn_size i s
  turns (ListOf k i) s = list_turn_size k i s
  turns (Operators l e) s = operators_size l e s
  turns (Casts e) s = casts_size e s
  turns (Suffixes e) s = suffixes_size e s
  turns (Modifiers w) s = modifiers_size w s

  -- for a call
  pub goal_size : (n : ℕ) (g : Goal) (s : St) → After (λ a s'. Later s s' × G g s a s') (parse n g s)
  goal_size n g s = parse_ind G L R M (λ s. r_ok s.tokens) (λ e s. tt) rules turns n g s

  -- for a whole reading: the bytes of the records are within the budget, and the reported errors among those made, beside
  -- those that were there before
  pub module_size : (full : List Err) (ts : List Tok)
      → After (λ i s'. (weight i.recs ≤ budget ts) × (tally full + tally i.errors ≤ tally s'.full)) (parse_module full ts)
  module_size full ts =
      weaken (parse_module full ts) (λ i s' p. omega arith)
      (module_ind G L R M (λ s. r_ok s.tokens) (λ e s. tt) rules turns full ts)

  -- beside the losses
  pub tokens_size : (ts : List Tok)
      → After (λ i s'. (weight i.recs ≤ budget ts) × (tally (losses ts) + tally i.errors ≤ tally s'.full)) (parse_tokens ts)
  tokens_size ts = tokens_after _ ts (λ _. module_size (losses ts) ts)
