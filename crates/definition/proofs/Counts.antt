-- A tree has at most two records more than there are tokens, and no list, body or module has more items than tokens.
-- A token accounts for one record, and the last token for one more: `fn f` has the records 11, 40 and 50.
-- Assumes nothing.
use mathlib.Core.Path.{◌≡◌, subst}
use mathlib.Core.Bool.{false}
use mathlib.Core.List.{List, [], ◌∷◌}
use Prim.Native.Nat.{ℕ, suc, ◌+◌, ◌*◌, ◌≤◌, ◌<◌, min}
use native.Mathlib.Omega.{arith}
use lib.ListN.{length, length-append}
use Rattle.definition.specs.Ascii.{ascii}
use Rattle.definition.specs.Source.{Place}
use Rattle.definition.specs.Node.{byte, two}
use Rattle.definition.specs.Fallible.{Err, Fallible, Ans, ok, fatal}
use Rattle.definition.specs.Token.{Tok, next_token, tail}
use Rattle.definition.specs.Act.{Node, Items, Goal, Statement, Expression, Unary, Type', Loop, Module, Body, ListOf, Operators, Casts, Suffixes, Modifiers, Listed, Parameters, Arguments, StructFields, ArrayValues, StructValues, Level, Left, Words, Act, St, gives, push, next, done, ◌>>=◌, ◌>>?◌}
use Rattle.definition.specs.Parser as P
use Rattle.definition.specs.Parser.{rule, turn, statement_rule, expression_rule, unary_rule, type_rule, list_turn, body_turn, module_turn, operators_turn, casts_turn, suffixes_turn, modifiers_turn, Typed, parse_module}
use Rattle.definition.specs.Losses.{losses, parse_tokens}
use Rattle.definition.proofs.Tests.{clash, is_kind, not_end}
use Rattle.definition.proofs.Later.{Later, next_state, later_left, After, weaken}
use Rattle.definition.proofs.Ind.{EachAns, mapping_positive, comparisons_positive, wp, wp_mono, follow, try, via, wp_find, wp_bitwise_or, wp_cascade, module_ind}
use Rattle.definition.proofs.Losses.{tokens_after}

-- 1 if a token is left, else 0
pub one : List Tok → ℕ
one [] = 0
one (t ∷ ts) = 1

-- how many records the tokens left account for
pub pay : List Tok → ℕ
pay ts = length ts + one ts

abbrev budget : St → ℕ
budget s = pay s.tokens

-- reading a token uses up its share, and it is there if its kind is not 0
abbrev Paid : List Tok → Type 0
Paid ts = (one ts + pay (tail ts) ≤ pay ts) × (min (next_token ts).kind 1 ≤ one ts) × (length (tail ts) ≤ length ts)

paid : (ts : List Tok) → Paid ts
unfolding pay one
paid [] = omega arith
paid (t ∷ []) = omega arith
paid (t ∷ (u ∷ ts)) = omega arith

-- the last token accounts for two records
last_pays : (ts : List Tok) → 2 * one ts + pay (tail ts) ≤ pay ts + one (tail ts)
unfolding pay one
last_pays [] = omega arith
last_pays (t ∷ []) = omega arith
last_pays (t ∷ (u ∷ ts)) = omega arith

-- a smaller share means fewer tokens
fewer : (ts us : List Tok) → pay us < pay ts → length us < length ts
unfolding pay one
fewer [] [] h = omega arith
fewer [] (u ∷ us) h = omega arith
fewer (t ∷ ts) [] h = omega arith
fewer (t ∷ ts) (u ∷ us) h = omega arith

abbrev R : St → Type 0
R s = Paid s.tokens

abbrev M : Err → St → Type 0
M e s = Unit {0}

-- the tokens read account for the records of an answer, of which there is at least one
abbrev Post : St → Ans Node → St → Type 0
Post s (ok x) s' = (length x.item.recs + budget s' ≤ budget s) × (1 ≤ length x.item.recs)
Post s (fatal es) s' = budget s' ≤ budget s

-- and for one more for each reported error: it accounts for the record of an expression statement that ends early
abbrev Spared : St → Ans Node → St → Type 0
Spared s (ok x) s' =
    (length x.item.recs + length x.errors + budget s' ≤ budget s) × (1 ≤ length x.item.recs)
Spared s (fatal es) s' = budget s' ≤ budget s

-- at most k records more than the tokens read account for
abbrev Over : ℕ → St → Ans Node → St → Type 0
Over k s (ok x) s' = (length x.item.recs + budget s' ≤ k + budget s) × (1 ≤ length x.item.recs)
Over k s (fatal es) s' = budget s' ≤ budget s

-- the tokens read account for k records more
abbrev PostTyped : ℕ → St → Ans Typed → St → Type 0
PostTyped k s (ok x) s' = length x.item.type + k + budget s' ≤ budget s
PostTyped k s (fatal es) s' = budget s' ≤ budget s

abbrev PostItems : Items → St → Items → St → Type 0
PostItems i s a s' =
    (length a.recs + budget s' ≤ length i.recs + budget s)
    × (a.count + length s'.tokens ≤ i.count + length s.tokens)

-- a list or a body, with the token that opens it
abbrev PostOpened : St → Items → St → Type 0
PostOpened s a s' =
    (length a.recs + one s.tokens + budget s' ≤ budget s) × (a.count + length s'.tokens ≤ length s.tokens)

abbrev G : Goal → St → Ans Node → St → Type 0
G Statement s a s' = Post s a s'
G Expression s a s' = Spared s a s'
G Unary s a s' = Spared s a s'
G Type' s a s' = Spared s a s'

abbrev From : Fallible Node → St → Ans Node → St → Type 0
From e s (ok x) s' =
    (length x.item.recs + length x.errors + budget s' ≤ length e.item.recs + length e.errors + budget s)
    × (length e.item.recs ≤ length x.item.recs)
From e s (fatal es) s' = budget s' ≤ budget s

abbrev L : (l : Loop) → St → Left l → St → Type 0
L (Module i) s a s' = PostItems i s a s'
L (Body i) s a s' = PostItems i s a s'
L (ListOf k i) s a s' = PostItems i s a s'
L (Operators l e) s a s' = From e s a s'
L (Casts e) s a s' = From e s a s'
L (Suffixes e) s a s' = From e s a s'
L (Modifiers w) s a s' = budget s' ≤ budget s

abbrev wp' : {A : Type 0} → Act A → (A → St → Type 0) → St → Type 0
wp' m Q s = wp G L R M m Q s

-- ---- types

typed_count : (name : List ℕ) (es : List Err) (s : St) → wp' (P.typed name es) (PostTyped 1 s) s
unfolding P.typed ◌>>=◌
typed_count name es s = omega (arith, is_kind)

typed_identifier_count : (s : St) → wp' P.parse_typed_identifier (PostTyped 2 s) s
unfolding P.parse_typed_identifier ascii
typed_identifier_count s = λ r. (
  λ i. named (next_token s.tokens).text [] (next_state s) (omega (arith, is_kind)),
  λ n. (λ i m. omega arith, λ e m. named (ascii "<?>") _ (push _ (next_state s)) (omega (arith, not_end))),
)
  where
    named : (name : List ℕ) (es : List Err) (t : St) → 1 + budget t ≤ budget s → wp' (P.typed name es) (PostTyped 2 s) t
    named name es t b =
        via G L R M (P.typed name es) (PostTyped 1 t) (PostTyped 2 s) t (typed_count name es t)
        (omega arith) (omega arith)

list_count : (k : Listed) (s : St) → wp' (P.parse_list k) (PostOpened s) s
unfolding P.parse_list ◌>>=◌
list_count k s = omega arith

named_type_count : (s : St) → wp' P.parse_named_type (Post s) s
unfolding P.parse_named_type
named_type_count s =
    try G L R M _ _ (PostTyped 2 s) _ _ (typed_identifier_count s) (simp length-append (omega arith)) (omega arith)

struct_field_count : (s : St) → wp' P.parse_compound_struct_field (Post s) s
unfolding P.parse_compound_struct_field ◌>>=◌
struct_field_count s = simp length-append (omega (arith, is_kind))

after_item_count : (k : Listed) (i : Items) (s : St) → wp' (P.after_item k i) (PostItems i s) s
unfolding P.after_item
after_item_count k i s = omega (arith, is_kind)

array_type_count : (p : Place) (s : St) → wp' (P.parse_array_type p) (Spared s) s
unfolding P.parse_array_type ◌>>=◌
array_type_count p s = simp length-append (omega (arith, is_kind))

type_count : (s : St) → wp' type_rule (Spared s) s
unfolding type_rule ◌>>=◌
type_count s r = (
  λ i. omega (arith, is_kind),
  λ _. (
    λ i. simp length-append (omega (arith, is_kind)),
    λ _. (
      λ i. array (omega (arith, is_kind)),
      λ _. (
        λ i. struct (omega (arith, is_kind)),
        λ _. (λ i m. omega arith, λ _ m. omega arith),
      ),
    ),
  ),
)
  where
    t : St
    t = next_state s

    array : 1 + budget t ≤ budget s → wp' (P.parse_array_type (next_token s.tokens).place) (Spared s) t
    array b =
        let p : Place = (next_token s.tokens).place in
        via G L R M (P.parse_array_type p) (Spared t) (Spared s) t (array_type_count p t) (omega arith) (omega arith)

    made : Items → Act (Ans Node)
    made i = P.good (P.node i.recs 0x14 (next_token s.tokens).place (two i.count ∷ []) []) []

    struct : 1 + budget t ≤ budget s → wp' (P.parse_list StructFields >>= made) (Spared s) t
    struct b =
        follow G L R M (P.parse_list StructFields) made (PostOpened t) (Spared s) t (list_count StructFields t)
        (simp length-append (omega arith))

-- ---- expressions

prefix_count : (tag : ℕ) (s : St) → 0 < (next_token s.tokens).kind → wp' (P.prefix tag) (Spared s) s
unfolding P.prefix ◌>>=◌
prefix_count tag s k = simp length-append (omega arith)

group_count : (s : St) → 0 < (next_token s.tokens).kind → wp' P.parse_group (Spared s) s
unfolding P.parse_group ◌>>=◌
group_count s k = simp length-append (omega arith)

atom_count : (s : St) → wp' P.parse_atom (Spared s) s
unfolding P.parse_atom ◌>>=◌
atom_count s = (
  λ i r. omega (arith, is_kind),
  λ _. (
    λ i r. omega (arith, is_kind),
    λ _. (
      λ i r. omega (arith, is_kind),
      λ _. (
        λ i r. omega (arith, is_kind),
        λ _. (
          λ i r. omega (arith, is_kind),
          λ _.
              (λ i. group_count s (omega (arith, is_kind)), λ _ r. omega arith),
        ),
      ),
    ),
  ),
)

suffixes_count : (e : Fallible Node) (s : St) → wp' (suffixes_turn e) (From e s) s
unfolding suffixes_turn ◌>>=◌
suffixes_count e s = (
  λ i r r'. (λ _. tt, λ _. simp length-append (omega (arith, is_kind))),
  λ _. (
    λ i r. simp length-append (omega (arith, is_kind)),
    λ _. (λ i r. simp length-append (omega (arith, is_kind)), λ _. omega arith),
  ),
)

field_access_count : (s : St) → wp' P.parse_field_access_or_index (Spared s) s
unfolding P.parse_field_access_or_index
field_access_count s = try G L R M _ _ (Spared s) _ _ (atom_count s) (λ e s' p. omega arith) (omega arith)

sizeof_count : (s : St) → wp' P.parse_sizeof (Spared s) s
unfolding P.parse_sizeof ◌>>=◌
sizeof_count s = (λ i r. simp length-append (omega (arith, is_kind)), λ _. field_access_count s)

call_count : (s : St) → wp' P.parse_call (Spared s) s
unfolding P.parse_call
call_count s =
    try G L R M _ _ (Spared s) _ _ (sizeof_count s)
    (λ e s' p. (
      λ i. follow G L R M _ _ (PostOpened s') _ _ (list_count Arguments s')
          (λ js s'' l q. simp length-append (omega (arith, is_kind, paid s'.tokens))),
      λ _. omega arith,
    ))
    (omega arith)

unary_count : (s : St) → wp' unary_rule (Spared s) s
unfolding unary_rule
unary_count s = (
  λ i. prefix_count 0x27 s (omega (arith, is_kind)),
  λ _. (
    λ i. prefix_count 0x28 s (omega (arith, is_kind)),
    λ _. (
      λ i. prefix_count 0x2A s (omega (arith, is_kind)),
      λ _. (λ i. prefix_count 0x2B s (omega (arith, is_kind)), λ _. call_count s),
    ),
  ),
)

cast_count : (s : St) → wp' P.parse_cast (Spared s) s
unfolding P.parse_cast ◌>>=◌
cast_count s = omega arith

casts_count : (e : Fallible Node) (s : St) → wp' (casts_turn e) (From e s) s
unfolding casts_turn ◌>>=◌
casts_count e s = simp length-append (omega (arith, is_kind))

-- the loop of a level
level_count : (s : St) (l : Level) (x : Fallible Node) (s' : St) → Spared s (ok x) s'
    → EachAns (λ a. (s'' : St) → Later s' s'' → From x s' a s'' → Spared s a s'')
level_count s l x s' p = omega arith

bitwise_or_count : (s : St) → wp' P.parse_bitwise_or (Spared s) s
bitwise_or_count s = wp_bitwise_or G L R M (Spared s) s (level_count s) (cast_count s)

cascade_count : (l : Level) (s : St) → wp' (P.cascade l) (Spared s) s
cascade_count l s = wp_cascade G L R M (Spared s) s (level_count s) (cast_count s) l

operators_count : (l : Level) (e : Fallible Node) (s : St) → wp' (operators_turn l e) (From e s) s
unfolding operators_turn
operators_count l e s =
    wp_find G L R M (P.mapping l) _ _ _ s (next_token s.tokens) (mapping_positive l)
    (λ k o r. try G L R M (P.cascade l) _ (Spared (next_state s)) _ _ (cascade_count l (next_state s))
    (simp length-append (omega arith)) (omega arith))
    (omega arith)

comparison_count : (s : St) → wp' P.parse_comparison (Spared s) s
unfolding P.parse_comparison
comparison_count s =
    try G L R M _ _ (Spared s) _ _ (bitwise_or_count s)
    (λ e s' p. wp_find G L R M P.comparisons
    (λ o. next λ op. P.parse_bitwise_or >>? λ r. done (ok (P.binary 0x2E (byte o ∷ []) op.place e r)))
    (done (ok e)) (Spared s) s' (next_token s'.tokens) comparisons_positive
    (λ k o r. try G L R M P.parse_bitwise_or _ (Spared (next_state s')) _ _ (bitwise_or_count (next_state s'))
    (simp length-append (omega arith)) (omega arith))
    (omega arith))
    (omega arith)

expression_count : (s : St) → wp' expression_rule (Spared s) s
unfolding expression_rule
expression_count s =
    try G L R M _ _ (Spared s) _ _ (comparison_count s)
    (λ e s' p. (
      λ i r. try G L R M P.parse_comparison _ (Spared (next_state s')) _ _ (comparison_count (next_state s'))
          (simp length-append (omega (arith, is_kind))) (omega arith),
      λ _. omega arith,
    ))
    (omega arith)

-- ---- lists, compounds, declarations

item_count : (k : Listed) (s : St) → wp' (P.item k) (Post s) s
item_count Parameters s = named_type_count s
item_count Arguments s = omega arith
item_count StructFields s = named_type_count s
item_count ArrayValues s = omega arith
item_count StructValues s = struct_field_count s

list_turn_count : (k : Listed) (i : Items) (s : St) → wp' (list_turn k i) (PostItems i s) s
unfolding list_turn
list_turn_count k i s =
    (λ e m. omega arith, λ _. (λ c r. omega arith, λ _. follow G L R M _ _ (Post s) _ _ (item_count k s) go))
  where
    on : (j : Items) (s' : St) → ((a : Items) (s'' : St) → PostItems j s' a s'' → PostItems i s a s'')
        → wp' (P.after_item k j) (PostItems i s) s'
    on j s' h = wp_mono G L R M (PostItems j s') (PostItems i s) (P.after_item k j) s' h (after_item_count k j s')

    go : (a : Ans Node) (s' : St) → Later s s' → Post s a s' → wp' (P.after_item k (P.integrate i a)) (PostItems i s) s'
    go (ok x) s' l p =
        on (P.integrate i (ok x)) s' (simp length-append (omega (arith, fewer s.tokens s'.tokens (omega arith))))
    go (fatal es) s' l p = on (P.integrate i (fatal es)) s' (omega (arith, later_left l))

compound_count : (s : St) → wp' P.parse_compound (Post s) s
unfolding P.parse_compound ◌>>=◌
compound_count s r = (
  λ i. (
    λ e m. omega arith,
    λ _. (
      λ b. follow G L R M (P.parse_list ArrayValues) _ (PostOpened t) _ _ (list_count ArrayValues t)
          (λ js s'' l q. simp length-append (omega (arith, is_kind))),
      λ _. (
        λ b. follow G L R M (P.parse_list StructValues) _ (PostOpened t) _ _ (list_count StructValues t)
            (λ js s'' l q. simp length-append (omega (arith, is_kind))),
        λ _ m. omega arith,
      ),
    ),
  ),
  λ _. omega arith,
)
  where
    t : St
    t = next_state s

var_like_count : (s : St) → wp' P.parse_var_like_declaration (PostTyped 1 s) s
unfolding P.parse_var_like_declaration
var_like_count s =
    try G L R M _ _ (PostTyped 2 s) _ _ (typed_identifier_count s)
    (λ x s' p. (
      λ i r. unfold ◌>>=◌ in simp length-append (omega (arith, is_kind)),
      λ _. (
        λ i r. try G L R M P.parse_compound _ (Post (next_state s')) _ _ (compound_count (next_state s'))
            (simp length-append (omega (arith, is_kind))) (omega (arith, is_kind)),
        λ _. simp length-append (omega arith),
      ),
    ))
    (omega arith)

declaration_count : (tag : ℕ) (p : Place) (s : St) → wp' (P.declaration tag p) (Post s) s
unfolding P.declaration ◌>>=◌
declaration_count tag p s =
    try G L R M P.parse_var_like_declaration _ (PostTyped 1 s) _ _ (var_like_count s)
    (simp length-append (omega (arith, is_kind))) (omega arith)

-- ---- statements

body_count : (s : St) → wp' P.parse_body (PostOpened s) s
unfolding P.parse_body ◌>>=◌
body_count s = omega arith

body_turn_count : (i : Items) (s : St) → wp' (body_turn i) (PostItems i s) s
unfolding body_turn
body_turn_count i s = (
  λ e r. omega arith,
  λ _. (
    λ e m. omega arith,
    λ _. (
      λ x s' l p b s'' l₂. simp length-append (omega (arith, fewer s.tokens s'.tokens (omega arith))),
      λ es s' l p b s'' l₂. omega (arith, later_left l),
    ),
  ),
)

return_count : (p : Place) (s : St) → wp' (P.parse_return p) (Over 1 s) s
unfolding P.parse_return ◌>>=◌
return_count p s = simp length-append (omega (arith, is_kind))

if_count : (p : Place) (s : St) → wp' (P.parse_if p) (Over 1 s) s
unfolding P.parse_if ◌>>=◌
if_count p s = simp length-append (omega (arith, is_kind))

after_expression_count : (p : Place) (e : Node) (s : St) → wp' (P.after_expression p e) (Over (length e.recs) s) s
unfolding P.after_expression ◌>>=◌
after_expression_count p e s = (
  λ i r. simp length-append (omega (arith, is_kind)),
  λ _. (
    λ i r. try G L R M P.parse_compound _ (Post (next_state s)) _ _ (compound_count (next_state s))
        (simp length-append (omega (arith, is_kind))) (omega arith),
    λ _ r. simp length-append (omega (arith, is_kind)),
  ),
)

some_error : (es : List Err) → P.is_empty es ≡ false → 1 ≤ length es
some_error [] e = clash (cc)
some_error (x ∷ es) e = omega arith

expression_statement_count : (p : Place) (s : St) → wp' (P.expression_statement p) (Post s) s
unfolding P.expression_statement ◌>>=◌
expression_statement_count p s = (
  λ e s' l q. (
    λ z. via G L R M (P.after_expression p e.item) (Over (length e.item.recs) s') (Post s) s'
        (after_expression_count p e.item s') (omega arith) (omega arith),
    λ z. simp length-append (omega (arith, some_error e.errors z)),
  ),
  λ es s' l q. omega arith,
)

statement_count : (s : St) → wp' statement_rule (Post s) s
unfolding statement_rule ◌>>=◌
statement_count s = (
  λ i r. via G L R M (P.parse_return _) (Over 1 t) (Post s) t (return_count _ t) (omega (arith, is_kind)) (omega arith),
  λ _. (
    λ i r. via G L R M (P.declaration 0x42 _) (Post t) (Post s) t (declaration_count 0x42 _ t)
        (omega arith) (omega arith),
    λ _. (
      λ i. follow G L R M P.parse_body _ (PostOpened s) _ _ (body_count s)
          (simp length-append (omega (arith, is_kind, paid s.tokens))),
      λ _. (
        λ i r. simp length-append (omega (arith, is_kind)),
        λ _. (
          λ i r. simp length-append (omega (arith, is_kind)),
          λ _. (
            λ i r. omega (arith, is_kind),
            λ _. (
              λ i r. via G L R M (P.parse_if _) (Over 1 t) (Post s) t (if_count _ t)
                  (omega (arith, is_kind)) (omega arith),
              λ _. (
                λ i r. omega (arith, is_kind),
                λ _.
                    (λ i m. omega arith, λ _. expression_statement_count _ s),
              ),
            ),
          ),
        ),
      ),
    ),
  ),
)
  where
    t : St
    t = next_state s

-- ---- the items of a module

-- a function after its parameters and return type: at most two records more, its own and that of its body
abbrev Built : Items → Fallible Node → St → Ans Node → St → Type 0
Built ps r s (ok x) s' =
    (length x.item.recs + budget s' ≤ 2 + length ps.recs + length r.item.recs + budget s)
    × (1 ≤ length x.item.recs)
Built ps r s (fatal es) s' = budget s' ≤ budget s

function_body_count : (p : Place) (x : ℕ) (name : Tok) (ps : Items) (r : Fallible Node) (s : St)
    → wp' (P.function_body p x name ps r) (Built ps r s) s
unfolding P.function_body ◌>>=◌
function_body_count p x name ps r s = (
  λ e q. simp length-append (omega (arith, is_kind)),
  λ e. follow G L R M P.parse_body _ (PostOpened s) _ _ (body_count s) (simp length-append (omega arith)),
)

-- `fn`, the name and the opening parenthesis account for the function, its body and the void type; if the name is the
-- last token, it accounts for two
function_count : (p : Place) (x : ℕ) (s : St) → wp' (P.function p x) (Post s) s
unfolding P.function ◌>>=◌
function_count p x s r = (
  λ k r₂. (
    λ n. follow G L R M (P.parse_list Parameters) _ (PostOpened u) _ _ (list_count Parameters u) (λ ps v l q. (
      λ a r₃. (λ ty w l z. built ps ty w (omega (arith, is_kind)) (omega arith), λ es w l z. omega arith),
      λ _. let h : 3 + length ps.recs + budget v ≤ budget s = omega (arith, is_kind, last_pays t.tokens) in
          built ps _ v (omega arith) (omega arith),
    )),
    λ _. (λ e m. omega arith, λ _ m. omega arith),
  ),
  λ _. (λ e m. omega arith, λ _ m. omega arith),
)
  where
    t : St
    t = next_state s

    u : St
    u = next_state t

    name : Tok
    name = next_token t.tokens

    built : (ps : Items) (ty : Fallible Node) (w : St)
        → ((y : Fallible Node) (s' : St) → Built ps ty w (ok y) s' → Post s (ok y) s')
        → ((es : List Err) (s' : St) → Built ps ty w (fatal es) s' → Post s (fatal es) s')
        → wp' (P.function_body p x name ps ty) (Post s) w
    built ps ty w h e =
        via G L R M (P.function_body p x name ps ty) (Built ps ty w) (Post s) w
        (function_body_count p x name ps ty w) h e

function_definition_count : (s : St) → wp' P.parse_function_definition (Post s) s
unfolding P.parse_function_definition
function_definition_count s = (
  λ i r. via G L R M (P.function _ 1) (Post (next_state s)) (Post s) _ (function_count _ 1 (next_state s))
      (omega arith) (omega arith),
  λ _. function_count _ 0 s,
)

modifiers_count : (w : Words) (s : St) → wp' (modifiers_turn w) (L (Modifiers w) s) s
unfolding modifiers_turn
modifiers_count w s = omega arith

type_alias_count : (s : St) → wp' P.parse_type_alias (Post s) s
unfolding P.parse_type_alias P.alias_rule ◌>>=◌
type_alias_count s w s' l p r =
    (λ i r₂. (λ _. tt, λ _. (λ e m. omega arith, λ e. simp length-append (omega (arith, is_kind)))), λ _. omega arith)

use_count : (s : St) → wp' P.parse_use (Post s) s
unfolding P.parse_use P.path_rule ◌>>=◌
use_count s = omega (arith, is_kind)

top_level_var_count : (s : St) → wp' P.parse_top_level_var_declaration (Post s) s
unfolding P.parse_top_level_var_declaration ◌>>=◌
top_level_var_count s r = (
  λ i. via G L R M (P.declaration 0x53 _) (Post (next_state s)) (Post s) _ (declaration_count 0x53 _ (next_state s))
      (omega arith) (omega arith),
  λ _. (λ e m. omega arith, λ _ m. omega arith),
)

top_level_item_count : (s : St) → wp' P.parse_top_level_item (Post s) s
unfolding P.parse_top_level_item
top_level_item_count s = (
  λ _. function_definition_count s,
  λ _. (
    λ _. type_alias_count s,
    λ _. (
      λ _. use_count s,
      λ _. (λ _. top_level_var_count s, λ _. (λ i r. omega (arith, is_kind), λ _ r m. omega arith)),
    ),
  ),
)

module_turn_count : (i : Items) (s : St) → wp' (module_turn i) (PostItems i s) s
unfolding module_turn
module_turn_count i s =
    (λ _. omega arith, λ _. follow G L R M P.parse_top_level_item _ (Post s) _ _ (top_level_item_count s) go)
  where
    go : (a : Ans Node) (s' : St) → Later s s' → Post s a s' → (b : Items) (s'' : St) → Later s' s''
        → PostItems (P.integrate i a) s' b s'' → PostItems i s b s''
    go (ok x) s' l p b s'' l₂ = simp length-append (omega (arith, fewer s.tokens s'.tokens (omega arith)))
    go (fatal es) s' l p b s'' l₂ = omega (arith, later_left l)

rules : (g : Goal) (s : St) → wp' (rule g) (G g s) s
rules Statement s = statement_count s
rules Expression s = expression_count s
rules Unary s = unary_count s
rules Type' s = type_count s

turns : (l : Loop) (s : St) → wp' (turn l) (L l s) s
turns (Module i) s = module_turn_count i s
turns (Body i) s = body_turn_count i s
turns (ListOf k i) s = list_turn_count k i s
turns (Operators l e) s = operators_count l e s
turns (Casts e) s = casts_count e s
turns (Suffixes e) s = suffixes_count e s
turns (Modifiers w) s = modifiers_count w s

-- ---- the whole reading

pay_bound : (ts : List Tok) → pay ts ≤ 1 + length ts
unfolding pay one
pay_bound [] = omega arith
pay_bound (t ∷ ts) = omega arith

-- the records without that of the module, and the items
abbrev Few : List Tok → Items → St → Type 0
Few ts i s = (length i.recs ≤ 1 + length ts) × (i.count ≤ length ts)

module_count : (full : List Err) (ts : List Tok) → After (Few ts) (parse_module full ts)
module_count full ts =
    weaken (parse_module full ts) (λ i s p. omega (arith, pay_bound ts))
    (module_ind G L R M (λ s. paid s.tokens) (λ e s. tt) rules turns full ts)

module _ (ts : List Tok) (i : Items) (s : St) (g : parse_tokens ts ≡ gives i s) where
  few : Few ts i s
  few = subst (After (Few ts)) g (tokens_after (Few ts) ts (λ _. module_count (losses ts) ts))

  -- with the record of the module, at most two records more than tokens
  pub few_records : suc (length i.recs) ≤ 2 + length ts
  few_records = omega (arith, few.0)

  -- never more items than tokens
  pub few_items : i.count ≤ length ts
  few_items = few.1
