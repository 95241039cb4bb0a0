-- What the errors of the full list name: nothing, a kind expected, or a token of the script, at its place.
-- Assumes nothing.
use mathlib.Core.Path.{◌≡◌, refl, sym, ap, ◌∙◌, subst}
use mathlib.Core.Bool.{Bool, true, false}
use mathlib.Core.List.{List, [], ◌∷◌}
use Prim.Native.Nat.{ℕ, zero, suc, ◌≤◌}
use native.Mathlib.Omega.{arith}
use lib.Dec.{ltb}
use lib.ListN.{length, drop}
use Rattle.definition.specs.Kind as K
use Rattle.definition.specs.Choice.{pick}
use Rattle.definition.specs.ParseError as E
use Rattle.definition.specs.Source.{Place, nowhere}
use Rattle.definition.specs.Fallible.{Err, Fallible, Ans, ok, fatal}
use Rattle.definition.specs.Token.{Tok, next_token, tail, ◌is◌}
use Rattle.definition.specs.Act.{Node, Items, Goal, Statement, Expression, Unary, Type', Listed, Parameters, Arguments, StructFields, ArrayValues, StructValues}
use Rattle.definition.specs.Act.{Level, BitOr, BitXor, BitAnd, Shift, AddSub, Mul, Loop, Module, Body, ListOf, Operators, Casts, Suffixes, Modifiers, Left}
use Rattle.definition.specs.Act.{Role, Act, done, peek, consume, make, when◌then◌else◌, call, loop, panic, ◌>>=◌, or_return, ◌>>?◌, St, begin, Res, gives, advance, push, run}
use Rattle.definition.specs.Parser as P
use Rattle.definition.specs.Parser.{error, rule, turn, loops, parse, parse_module}
use Rattle.definition.specs.Losses.{losses, parse_tokens}
use Rattle.definition.proofs.Tests.{clash, All, all_append, is_in, ◌∈◌, here, there}
use Rattle.definition.proofs.Later as Later
use Rattle.definition.proofs.Ind.{join, limit}
use Rattle.definition.proofs.Losses.{losses_all, tokens_after}

-- the errors that name nothing, and those that name any token got and nothing else
abbrev pub naming_none : List ℕ
naming_none =
    E.Identifier ∷ E.EndOfFile ∷ E.StatementAtEnd ∷ E.ExpressionAtEnd ∷ E.ArraySize ∷ E.ArraySizePositive ∷ E.TypeAtEnd
    ∷ E.BodyAtEnd ∷ E.ListAtEnd ∷ E.NameAfterType ∷ E.PathAfterUse ∷ E.CompoundAtEnd
    ∷ E.CharacterLost ∷ E.AssemblyNotClosed ∷ []

abbrev pub naming_got : List ℕ
naming_got = E.Expression ∷ E.Type' ∷ E.InList ∷ []

-- the kinds that `expect` is called with
abbrev pub expected_kinds : List ℕ
expected_kinds =
    K.KwFn ∷ K.KwVar ∷ K.KwType ∷ K.KwUse ∷ K.Equals ∷ K.Hash ∷ K.LBrace ∷ K.LParen ∷ K.RParen ∷ K.LBracket ∷ K.RBracket
    ∷ K.Colon ∷ K.Semicolon ∷ []

-- An error of a reading of the tokens us. At the top level inline assembly is no error; before a compound at least two
-- tokens are read, `<-` and `#`
pub data Right (us : List Tok) : Err → Type 0 where
  alone : (n : ℕ) (p : Place) → is_in n naming_none ≡ true → Right us (error n p K.End K.End)
  expecting : (k : ℕ) → is_in k expected_kinds ≡ true → Right us (error E.ExpectedAtEnd nowhere k K.End)
  both : (k : ℕ) (t : Tok) → is_in k expected_kinds ≡ true → t ∈ us → Right us (error E.Expected t.place k t.kind)
  getting : (n : ℕ) (t : Tok) → is_in n naming_got ≡ true → t ∈ us → Right us (error n t.place K.End t.kind)
  top_level : (t : Tok) → t is K.InlineAssemblyFragment ≡ false → t ∈ us
      → Right us (error E.TopLevel t.place K.End t.kind)
  compound : (t : Tok) → t ∈ drop 2 us → Right us (error E.Compound t.place K.End t.kind)

tail_drop : (n : ℕ) (us : List Tok) → tail (drop n us) ≡ drop (suc n) us
tail_drop zero [] = refl
tail_drop zero (u ∷ us) = refl
tail_drop (suc n) [] = refl
tail_drop (suc n) (u ∷ us) = tail_drop n us

next_in : (m n : ℕ) (us : List Tok) → m ≤ n → next_token (drop n us) is K.End ≡ false
    → next_token (drop n us) ∈ drop m us
next_in zero zero [] h e = clash e
next_in zero zero (u ∷ us) h e = here
next_in zero (suc n) [] h e = clash e
next_in zero (suc n) (u ∷ us) h e = there (next_in zero n us (omega arith) e)
next_in (suc m) zero us h e = absurd (omega arith)
next_in (suc m) (suc n) [] h e = clash e
next_in (suc m) (suc n) (u ∷ us) h e = next_in m n us (omega arith) e

module _ (us : List Tok) where
  -- the tokens left are those of us after the first m, or after more of them
  record After (m : ℕ) (ts : List Tok) : Type 0 where
    count : ℕ
    least : m ≤ count
    tokens : ts ≡ drop count us

  abbrev Inside : List Tok → Type 0
  Inside ts = After 0 ts

  inside : {m : ℕ} {ts : List Tok} → After m ts → Inside ts
  inside i = record { count = i.count; least = omega arith; tokens = i.tokens }

  after_tail : {m : ℕ} {ts : List Tok} → After m ts → After (suc m) (tail ts)
  after_tail i = record {
    count = suc i.count;
    least = omega (arith, i.least);
    tokens = ap tail i.tokens ∙ tail_drop i.count us;
  }

  inside_tail : (ts : List Tok) → Inside ts → Inside (tail ts)
  inside_tail ts i = inside (after_tail i)

  -- a token that is read, unless it is the end, is among us
  abbrev Known : Tok → Type 0
  Known t = t is K.End ≡ false → t ∈ us

  known_after : {m : ℕ} {ts : List Tok} → After m ts → next_token ts is K.End ≡ false → next_token ts ∈ drop m us
  known_after {m} {ts} i =
      subst (λ (xs : List Tok). next_token xs is K.End ≡ false → next_token xs ∈ drop m us) (sym i.tokens)
      (next_in m i.count us i.least)

  known_next : (ts : List Tok) → Inside ts → Known (next_token ts)
  known_next ts i = known_after i

  -- each error that an act makes is right, if the tokens left are among us
  abbrev Makes : {A : Type 0} → Act A → List Tok → Type 0
  Makes (done a) ts = Unit {0}
  Makes (peek k) ts = Makes (k (next_token ts)) ts
  Makes (consume r k) ts = Makes (k (next_token ts)) (tail ts)
  Makes (make e m) ts = Right us e × Makes m ts
  Makes (when◌then◌else◌ b m n) ts = (b ≡ true → Makes m ts) × (b ≡ false → Makes n ts)
  Makes (call g k) ts = (a : Ans Node) (ts' : List Tok) → Inside ts' → Makes (k a) ts'
  Makes (loop l k) ts = (a : Left l) (ts' : List Tok) → Inside ts' → Makes (k a) ts'
  Makes panic ts = Unit {0}

  record Safe {A : Type 0} (m : Act A) : Type 0 where
    makes : (ts : List Tok) → Inside ts → Makes m ts

  -- ---- acts

  makes_bind : {A B : Type 0} (m : Act A) (f : A → Act B) (ts : List Tok) → Inside ts → Makes m ts
      → ((a : A) → Safe (f a)) → Makes (m >>= f) ts
  unfolding ◌>>=◌
  makes_bind (done a) f ts i h s = (s a).makes ts i
  makes_bind (peek k) f ts i h s = makes_bind (k (next_token ts)) f ts i h s
  makes_bind (consume r k) f ts i h s = makes_bind (k (next_token ts)) f (tail ts) (inside_tail ts i) h s
  makes_bind (make e m) f ts i h s = (h.0, makes_bind m f ts i h.1 s)
  makes_bind (when◌then◌else◌ b m n) f ts i h s =
      (λ d. makes_bind m f ts i (h.0 d) s, λ d. makes_bind n f ts i (h.1 d) s)
  makes_bind (call g k) f ts i h s = λ a ts' i'. makes_bind (k a) f ts' i' (h a ts' i') s
  makes_bind (loop l k) f ts i h s = λ a ts' i'. makes_bind (k a) f ts' i' (h a ts' i') s
  makes_bind panic f ts i h s = tt

  safe_bind : {A B : Type 0} (m : Act A) (f : A → Act B) → Safe m → ((a : A) → Safe (f a)) → Safe (m >>= f)
  safe_bind m f h s = record { makes = λ ts i. makes_bind m f ts i (h.makes ts i) s }

  safe_done : {A : Type 0} (a : A) → Safe (done a)
  safe_done a = record { makes = λ ts i. tt }

  safe_panic : {A : Type 0} → Safe {A = A} panic
  safe_panic = record { makes = λ ts i. tt }

  safe_peek : {A : Type 0} (k : Tok → Act A) → ((t : Tok) → Known t → Safe (k t)) → Safe (peek k)
  safe_peek k h = record { makes = λ ts i. (h (next_token ts) (known_next ts i)).makes ts i }

  safe_consume : {A : Type 0} (r : Tok → Role) (k : Tok → Act A) → ((t : Tok) → Known t → Safe (k t))
      → Safe (consume r k)
  safe_consume r k h =
      record { makes = λ ts i. (h (next_token ts) (known_next ts i)).makes (tail ts) (inside_tail ts i) }

  safe_make : {A : Type 0} (e : Err) (m : Act A) → Right us e → Safe m → Safe (make e m)
  safe_make e m r h = record { makes = λ ts i. (r, h.makes ts i) }

  safe_if : {A : Type 0} (b : Bool) (m n : Act A) → (b ≡ true → Safe m) → (b ≡ false → Safe n)
      → Safe (when◌then◌else◌ b m n)
  safe_if b m n h g = record { makes = λ ts i. (λ d. (h d).makes ts i, λ d. (g d).makes ts i) }

  safe_call : {A : Type 0} (g : Goal) (k : Ans Node → Act A) → ((a : Ans Node) → Safe (k a)) → Safe (call g k)
  safe_call g k h = record { makes = λ ts i a ts' i'. (h a).makes ts' i' }

  safe_loop : {A : Type 0} (l : Loop) (k : Left l → Act A) → ((a : Left l) → Safe (k a)) → Safe (loop l k)
  safe_loop l k h = record { makes = λ ts i a ts' i'. (h a).makes ts' i' }

  safe_return : {A B : Type 0} (f : Fallible A → Act (Ans B)) → ((x : Fallible A) → Safe (f x)) → (a : Ans A)
      → Safe (or_return f a)
  safe_return f h (ok x) = h x
  safe_return f h (fatal es) = safe_done (fatal es)

  safe_try : {A B : Type 0} (m : Act (Ans A)) (f : Fallible A → Act (Ans B)) → Safe m → ((x : Fallible A) → Safe (f x))
      → Safe (m >>? f)
  safe_try m f h s = safe_bind m (or_return f) h (λ a. safe_return f s a)

  ruleset acts = (
    safe_done,
    safe_panic,
    safe_peek,
    safe_consume,
    safe_make,
    safe_if,
    safe_call,
    safe_loop,
    safe_try,
    safe_bind,
    alone,
    expecting,
    getting,
    both,
  )

  safe_expect : (r : Role) (k : ℕ) → is_in k expected_kinds ≡ true → Safe (P.expect_as r k)
  safe_expect r k h = search acts depth 20

  safe_identifier : Safe P.expect_identifier
  safe_identifier = search acts depth 20

  -- ---- the functions of the parser

  ruleset leaves = (acts, safe_expect, safe_identifier)

  safe_typed : (name : List ℕ) (es : List Err) → Safe (P.typed name es)
  unfolding P.typed
  safe_typed name es = search leaves depth 20

  safe_typed_identifier : Safe P.parse_typed_identifier
  unfolding P.parse_typed_identifier
  safe_typed_identifier = search (leaves, safe_typed) depth 20

  safe_named_type : Safe P.parse_named_type
  unfolding P.parse_named_type
  safe_named_type = search (leaves, safe_typed_identifier) depth 20

  safe_struct_field : Safe P.parse_compound_struct_field
  unfolding P.parse_compound_struct_field
  safe_struct_field = search leaves depth 20

  safe_item : (k : Listed) → Safe (P.item k)
  safe_item Parameters = safe_named_type
  safe_item Arguments = search leaves depth 20
  safe_item StructFields = safe_named_type
  safe_item ArrayValues = search leaves depth 20
  safe_item StructValues = safe_struct_field

  opener_expected : (k : Listed) → is_in (P.opener k) expected_kinds ≡ true
  opener_expected Parameters = refl
  opener_expected Arguments = refl
  opener_expected StructFields = refl
  opener_expected ArrayValues = refl
  opener_expected StructValues = refl

  safe_list : (k : Listed) → Safe (P.parse_list k)
  unfolding P.parse_list
  safe_list k = search (leaves, opener_expected) depth 20

  safe_after_item : (k : Listed) (i : Items) → Safe (P.after_item k i)
  unfolding P.after_item
  safe_after_item k i = record {
    makes = λ ts n. (
      λ _ _ _ _. tt,
      λ _. (
        λ _ _ _ _. tt,
        λ _. (λ _ _ _ _. tt, λ e. (getting E.InList (next_token ts) refl (known_next ts n e), λ _ _ _. tt)),
      ),
    );
  }

  safe_array_type : (p : Place) → Safe (P.parse_array_type p)
  unfolding P.parse_array_type
  safe_array_type p = search leaves depth 20

  safe_type : Safe P.type_rule
  unfolding P.type_rule
  safe_type = search (leaves, safe_list, safe_array_type) depth 30

  safe_group : Safe P.parse_group
  unfolding P.parse_group
  safe_group = search leaves depth 20

  safe_atom : Safe P.parse_atom
  unfolding P.parse_atom
  safe_atom = search (leaves, safe_group) depth 30

  safe_field_access : Safe P.parse_field_access_or_index
  unfolding P.parse_field_access_or_index
  safe_field_access = search (leaves, safe_atom) depth 20

  safe_sizeof : Safe P.parse_sizeof
  unfolding P.parse_sizeof
  safe_sizeof = search (leaves, safe_field_access) depth 20

  safe_parse_call : Safe P.parse_call
  unfolding P.parse_call
  safe_parse_call = search (leaves, safe_sizeof, safe_list) depth 20

  safe_prefix : (tag : ℕ) → Safe (P.prefix tag)
  unfolding P.prefix
  safe_prefix tag = search leaves depth 20

  safe_unary : Safe P.unary_rule
  unfolding P.unary_rule
  safe_unary = search (leaves, safe_prefix, safe_parse_call) depth 20

  safe_cast : Safe P.parse_cast
  unfolding P.parse_cast
  safe_cast = search leaves depth 20

  safe_mul : Safe P.parse_mul
  unfolding P.parse_mul
  safe_mul = search (leaves, safe_cast) depth 20

  safe_add_sub : Safe P.parse_add_sub
  unfolding P.parse_add_sub
  safe_add_sub = search (leaves, safe_mul) depth 20

  safe_bit_shift : Safe P.parse_bit_shift
  unfolding P.parse_bit_shift
  safe_bit_shift = search (leaves, safe_add_sub) depth 20

  safe_bitwise_and : Safe P.parse_bitwise_and
  unfolding P.parse_bitwise_and
  safe_bitwise_and = search (leaves, safe_bit_shift) depth 20

  safe_bitwise_xor : Safe P.parse_bitwise_xor
  unfolding P.parse_bitwise_xor
  safe_bitwise_xor = search (leaves, safe_bitwise_and) depth 20

  safe_bitwise_or : Safe P.parse_bitwise_or
  unfolding P.parse_bitwise_or
  safe_bitwise_or = search (leaves, safe_bitwise_xor) depth 20

  safe_cascade : (l : Level) → Safe (P.cascade l)
  safe_cascade BitOr = safe_bitwise_xor
  safe_cascade BitXor = safe_bitwise_and
  safe_cascade BitAnd = safe_bit_shift
  safe_cascade Shift = safe_add_sub
  safe_cascade AddSub = safe_mul
  safe_cascade Mul = safe_cast

  safe_find : {A : Type 0} (t : Tok) (os : List P.Op) (y : ℕ → Act A) (n : Act A) → ((o : ℕ) → Safe (y o)) → Safe n
      → Safe (P.find t os y n)
  safe_find t [] y n h s = s
  safe_find t (o ∷ os) y n h s =
      safe_if (t is o.kind) (y o.op) (P.find t os y n) (λ _. h o.op) (λ _. safe_find t os y n h s)

  safe_comparison : Safe P.parse_comparison
  unfolding P.parse_comparison
  safe_comparison = search (leaves, safe_bitwise_or) depth 40

  safe_expression : Safe P.expression_rule
  unfolding P.expression_rule
  safe_expression = search (leaves, safe_comparison) depth 20

  -- after `<-`
  makes_compound : (ts : List Tok) → After 1 ts → Makes P.parse_compound ts
  unfolding P.parse_compound ◌>>=◌
  makes_compound ts i = (
    λ _. (
      λ _. (alone E.CompoundAtEnd nowhere refl, tt),
      λ e. (
        λ _. values ArrayValues _,
        λ _. (λ _. values StructValues _, λ _. (compound _ (known_after (after_tail i) e), tt)),
      ),
    ),
    λ _. (λ _. (expecting K.Hash refl, tt), λ e. (both K.Hash _ refl (known_after (inside i) e), tt)),
  )
    where
      left : Inside (tail ts)
      left = inside (after_tail i)

      values : (k : Listed) (f : Items → Ans Node) → Makes (P.parse_list k >>= λ i. done (f i)) (tail ts)
      values k f =
          makes_bind (P.parse_list k) _ (tail ts) left ((safe_list k).makes (tail ts) left) (λ a. safe_done (f a))

  safe_compound : {A : Type 0} (r : Tok → Role) (f : Fallible Node → Act (Ans A)) → ((x : Fallible Node) → Safe (f x))
      → Safe (consume r (λ _. P.parse_compound >>? f))
  safe_compound r f h = record {
    makes = λ ts i. makes_bind P.parse_compound (or_return f) (tail ts) (inside_tail ts i)
        (makes_compound (tail ts) (after_tail i)) (λ a. safe_return f h a);
  }

  safe_var_like : Safe P.parse_var_like_declaration
  unfolding P.parse_var_like_declaration
  safe_var_like = search (leaves, safe_typed_identifier, safe_compound) depth 20

  safe_declaration : (tag : ℕ) (p : Place) → Safe (P.declaration tag p)
  unfolding P.declaration
  safe_declaration tag p = search (leaves, safe_var_like) depth 20

  safe_statements : (a : Ans Tok) → Safe (P.statements a)
  safe_statements (ok x) = search leaves depth 20
  safe_statements (fatal es) = search leaves depth 20

  safe_body : Safe P.parse_body
  unfolding P.parse_body
  safe_body = search (leaves, safe_statements) depth 20

  safe_return_statement : (p : Place) → Safe (P.parse_return p)
  unfolding P.parse_return
  safe_return_statement p = search leaves depth 20

  safe_if_statement : (p : Place) → Safe (P.parse_if p)
  unfolding P.parse_if
  safe_if_statement p = search leaves depth 20

  safe_after_expression : (p : Place) (e : Node) → Safe (P.after_expression p e)
  unfolding P.after_expression
  safe_after_expression p e = search (leaves, safe_compound) depth 20

  safe_expression_statement : (p : Place) → Safe (P.expression_statement p)
  unfolding P.expression_statement
  safe_expression_statement p = search (leaves, safe_after_expression) depth 20

  safe_statement : Safe P.statement_rule
  unfolding P.statement_rule
  safe_statement =
      search (leaves, safe_return_statement, safe_declaration, safe_body, safe_if_statement, safe_expression_statement)
      depth 50

  safe_function_body : (p : Place) (external : ℕ) (name : Tok) (ps : Items) (r : Fallible Node)
      → Safe (P.function_body p external name ps r)
  unfolding P.function_body
  safe_function_body p external name ps r = search (leaves, safe_body) depth 20

  safe_function : (p : Place) (external : ℕ) → Safe (P.function p external)
  unfolding P.function
  safe_function p external = search (leaves, safe_list, safe_function_body) depth 30

  safe_function_definition : Safe P.parse_function_definition
  unfolding P.parse_function_definition
  safe_function_definition = search (leaves, safe_function) depth 20

  safe_alias_rule : (words : ℕ) (p : Place) → Safe (P.alias_rule words p)
  unfolding P.alias_rule
  safe_alias_rule words p = search leaves depth 30

  safe_alias : Safe P.parse_type_alias
  unfolding P.parse_type_alias
  safe_alias = search (leaves, safe_alias_rule) depth 20

  safe_path_rule : (p : Place) → Safe (P.path_rule p)
  unfolding P.path_rule
  safe_path_rule p = search leaves depth 30

  safe_use : Safe P.parse_use
  unfolding P.parse_use
  safe_use = search (leaves, safe_path_rule) depth 20

  safe_top_level_var : Safe P.parse_top_level_var_declaration
  unfolding P.parse_top_level_var_declaration
  safe_top_level_var = search (leaves, safe_declaration) depth 20

  -- where there is a token
  makes_top_level_item : (ts : List Tok) → Inside ts → next_token ts is K.End ≡ false → Makes P.parse_top_level_item ts
  unfolding P.parse_top_level_item
  makes_top_level_item ts i e = (
    λ _. safe_function_definition.makes ts i,
    λ _. (
      λ _. safe_alias.makes ts i,
      λ _. (
        λ _. safe_use.makes ts i,
        λ _. (
          λ _. safe_top_level_var.makes ts i,
          λ _. (λ _. tt, λ a. (top_level (next_token ts) a (known_next ts i e), tt)),
        ),
      ),
    ),
  )

  safe_rule : (g : Goal) → Safe (rule g)
  safe_rule Statement = safe_statement
  safe_rule Expression = safe_expression
  safe_rule Unary = safe_unary
  safe_rule Type' = safe_type

  safe_turn : (l : Loop) → Safe (turn l)
  unfolding P.module_turn P.body_turn P.list_turn P.operators_turn P.casts_turn P.suffixes_turn P.modifiers_turn
  safe_turn (Module x) = record {
    makes = λ ts i. (
      λ _. tt,
      λ e. makes_bind P.parse_top_level_item _ ts i (makes_top_level_item ts i e) (λ a. search leaves depth 20),
    );
  }
  safe_turn (Body x) = search leaves depth 20
  safe_turn (ListOf k x) = search (leaves, safe_item, safe_after_item) depth 20
  safe_turn (Operators l e) =
      safe_peek _ λ t n. safe_find t (P.mapping l) _ _ (λ o. search (leaves, safe_cascade) depth 20) (safe_done _)
  safe_turn (Casts e) = search leaves depth 20
  safe_turn (Suffixes e) = search leaves depth 30
  safe_turn (Modifiers w) = search leaves depth 20

  -- ---- the reading

  record Kept (s : St) : Type 0 where
    tokens : Inside s.tokens
    full : All (Right us) s.full

  -- of an answer that is not a refusal
  abbrev KeptAfter : {A : Type 0} → Res A → Type 0
  KeptAfter r = Later.After (λ _ s. Kept s) r

  advanced : (r : Tok → Role) (s : St) → Kept s → Kept (advance r s)
  advanced r s h = record { tokens = inside_tail s.tokens h.tokens; full = h.full }

  pushed : (e : Err) (s : St) → Right us e → Kept s → Kept (push e s)
  pushed e s r h = record { tokens = h.tokens; full = all_append (Right us) s.full (e ∷ []) h.full (r, tt) }

  module _ (c : Goal → St → Res (Ans Node)) (o : (l : Loop) → St → Res (Left l))
      (c_kept : (g : Goal) (s : St) → Kept s → KeptAfter (c g s))
      (o_kept : (l : Loop) (s : St) → Kept s → KeptAfter (o l s)) where
    run_kept : {A : Type 0} (m : Act A) (s : St) → Makes m s.tokens → Kept s → KeptAfter (run c o m s)
    unfolding run
    run_kept (done a) s h k = k
    run_kept (peek f) s h k = run_kept (f (next_token s.tokens)) s h k
    run_kept (consume r f) s h k = run_kept (f (next_token s.tokens)) (advance r s) h (advanced r s k)
    run_kept (make e m) s h k =
        limit (λ a s'. Kept s') (ltb (length s.full) 255) (run c o m (push e s))
        (λ _. run_kept m (push e s) h.1 (pushed e s h.0 k))
    run_kept (when◌then◌else◌ true m n) s h k = run_kept m s (h.0 refl) k
    run_kept (when◌then◌else◌ false m n) s h k = run_kept n s (h.1 refl) k
    run_kept (call g f) s h k =
        join (λ a s'. Kept s') (λ a s'. Kept s') (c g s) (λ a s'. run c o (f a) s') (c_kept g s k)
        (λ a s' k'. run_kept (f a) s' (h a s'.tokens k'.tokens) k')
    run_kept (loop l f) s h k =
        join (λ a s'. Kept s') (λ a s'. Kept s') (o l s) (λ a s'. run c o (f a) s') (o_kept l s k)
        (λ a s' k'. run_kept (f a) s' (h a s'.tokens k'.tokens) k')
    run_kept panic s h k = tt

  loops_kept : (c : Goal → St → Res (Ans Node)) → ((g : Goal) (s : St) → Kept s → KeptAfter (c g s))
      → (n : ℕ) (l : Loop) (s : St) → Kept s → KeptAfter (loops c n l s)
  unfolding loops
  loops_kept c c_kept zero l s k = tt
  loops_kept c c_kept (suc n) l s k =
      run_kept c (λ m t. loops c n m t) c_kept (λ m t. loops_kept c c_kept n m t) (turn l) s
      ((safe_turn l).makes s.tokens k.tokens) k

  parse_kept : (n : ℕ) (g : Goal) (s : St) → Kept s → KeptAfter (parse n g s)
  unfolding parse
  parse_kept zero g s k = tt
  parse_kept (suc n) g s k =
      run_kept (λ h t. parse n h t) (λ l t. loops (λ h u. parse n h u) (suc (suc (length t.tokens))) l t)
      (λ h t. parse_kept n h t)
      (λ l t. loops_kept (λ h u. parse n h u) (λ h u. parse_kept n h u) (suc (suc (length t.tokens))) l t) (rule g) s
      ((safe_rule g).makes s.tokens k.tokens) k

-- a loss names nothing
losses_right : (us ts : List Tok) → All (Right us) (losses ts)
losses_right us ts = losses_all (Right us) ts (λ t _. alone _ t.place (named (t is K.Minus)))
  where
    named : (b : Bool) → is_in (pick b E.CharacterLost E.AssemblyNotClosed) naming_none ≡ true
    named true = refl
    named false = refl

module_kept : (ts : List Tok) → KeptAfter ts (parse_module (losses ts) ts)
unfolding parse_module
module_kept ts =
    loops_kept ts (λ g s. parse 96 g s) (λ g s. parse_kept ts 96 g s) (suc (suc (length ts))) (Module (P.no_items []))
    (begin (losses ts) ts)
    (record { tokens = record { count = 0; least = omega arith; tokens = refl }; full = losses_right ts ts })

-- each entry of the full list is right
pub full_right : (ts : List Tok) (i : Items) (s : St) → parse_tokens ts ≡ gives i s → All (Right ts) s.full
full_right ts i s e = (subst (KeptAfter ts) e (tokens_after (λ _ s'. Kept ts s') ts (λ _. module_kept ts))).full
