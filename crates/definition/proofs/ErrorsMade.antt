-- Every error of the full list fits its field: its number is at most 21, that of an error of the parser at most 19, its
-- kinds are 0 to 54, and its place is one of the script, or 0:0. Assumes nothing.
use mathlib.Core.Path.{◌≡◌, refl, sym, ap, ◌∙◌, subst}
use mathlib.Core.Bool.{Bool, true, false}
use mathlib.Core.List.{List, [], ◌∷◌, ◌++◌, append-nil, append_assoc}
use Prim.Native.Nat.{ℕ, ◌*◌, ◌≤◌}
use native.Mathlib.Omega.{arith}
use Rattle.definition.specs.Tag as T
use Rattle.definition.specs.Kind as K
use Rattle.definition.specs.Choice.{pick}
use Rattle.definition.specs.Source.{Place}
use Rattle.definition.specs.Node.{byte}
use Rattle.definition.specs.Fallible.{Err, Fallible, Ans, ok, fatal}
use Rattle.definition.specs.Token.{Tok, ◌is◌, next_token}
use Rattle.definition.specs.Act.{Node, Items, Goal, Statement, Expression, Unary, Type', Loop, Module, Body, ListOf, Operators, Casts, Suffixes, Modifiers}
use Rattle.definition.specs.Act.{Listed, Parameters, Arguments, StructFields, ArrayValues, StructValues, Level, BitOr, BitXor, BitAnd, Shift, AddSub, Mul, Words, Left}
use Rattle.definition.specs.Act.{Act, done, peek, consume, make, when◌then◌else◌, call, loop, panic, next, St, gives, advance, push, ◌>>=◌, ◌>>?◌, or_return}
use Rattle.definition.specs.Parser as P
use Rattle.definition.specs.ParseError as E
use Rattle.definition.specs.Losses.{loss, losses, parse_tokens}
use Rattle.definition.proofs.Tests.{All, all_append, all_map, all_in}
use Rattle.definition.proofs.Later.{Later, After}
use Rattle.definition.proofs.Ind.{wp, EachAns, Each, each, to_each}
use Rattle.definition.proofs.Losses.{losses_all, tokens_after}
use Rattle.definition.proofs.Throughout.{module_known}
use Rattle.definition.proofs.Tokens.{Good}
use Rattle.definition.proofs.LeavesAnswers.{Known, known_tail, known_later}

-- a place of the script, or 0:0
pub record Somewhere (p : Place) : Type 0 where
  pub line : p.line ≤ 16384
  pub column : p.column ≤ 16384
  pub line_too : p.line ≤ 16384 * p.column
  pub column_too : p.column ≤ 16384 * p.line

-- an error that its record can hold, with a number up to `top`
pub record FineTo (top : ℕ) (e : Err) : Type 0 where
  pub low : 1 ≤ e.number
  pub high : e.number ≤ top
  pub place : Somewhere e.place
  pub expected : e.expected ≤ 54
  pub got : e.got ≤ 54

-- one that the parser makes
abbrev pub Fine : Err → Type 0
Fine e = FineTo 19 e

-- of a token, or the end
record Fair (t : Tok) : Type 0 where
  place : Somewhere t.place
  kind : t.kind ≤ 54

-- every error that an act makes is fine
abbrev Makes : {A : Type 0} → Act A → Type 0
Makes (done a) = Unit {0}
Makes (peek k) = (t : Tok) → Fair t → Makes (k t)
Makes (consume r k) = (t : Tok) → Fair t → Makes (k t)
Makes (make e m) = Fine e × Makes m
Makes (when◌then◌else◌ b m n) = Makes m × Makes n
Makes (call g k) = EachAns (λ a. Makes (k a))
Makes (loop l k) = Each l (λ a. Makes (k a))
Makes panic = Unit {0}

binds : {A B : Type 0} (m : Act A) (f : A → Act B) → Makes m → ((a : A) → Makes (f a)) → Makes (m >>= f)
unfolding ◌>>=◌
binds (done a) f p q = q a
binds (peek k) f p q = λ t h. binds (k t) f (p t h) q
binds (consume r k) f p q = λ t h. binds (k t) f (p t h) q
binds (make e m) f p q = (p.0, binds m f p.1 q)
binds (when◌then◌else◌ b m n) f p q = (binds m f p.0 q, binds n f p.1 q)
binds (call g k) f p q = (λ x. binds (k (ok x)) f (p.0 x) q, λ es. binds (k (fatal es)) f (p.1 es) q)
binds (loop l k) f p q =
    to_each l (λ a. Makes (k a >>= f)) (λ a. binds (k a) f (each l (λ a. Makes (k a)) p a) q)
binds panic f p q = tt

tries : {A B : Type 0} (m : Act (Ans A)) (f : Fallible A → Act (Ans B)) → Makes m
    → ((x : Fallible A) → Makes (f x)) → Makes (m >>? f)
tries {A} {B} m f p q = binds m (or_return f) p go
  where
    go : (a : Ans A) → Makes (or_return f a)
    go (ok x) = q x
    go (fatal es) = tt

-- ---- the rules

typed : (name : List ℕ) (es : List Err) → Makes (P.typed name es)
unfolding P.typed ◌>>=◌
typed name es = omega arith

typed_identifier : Makes P.parse_typed_identifier
unfolding P.parse_typed_identifier
typed_identifier = λ t h. (typed _ _, (omega arith, (omega arith, typed _ _)))

named_type : Makes P.parse_named_type
unfolding P.parse_named_type
named_type = tries P.parse_typed_identifier _ typed_identifier (λ x. tt)

struct_field : Makes P.parse_compound_struct_field
unfolding P.parse_compound_struct_field ◌>>=◌
struct_field = omega arith

list : (k : Listed) → Makes (P.parse_list k)
unfolding P.parse_list ◌>>=◌
list Parameters = omega arith
list Arguments = omega arith
list StructFields = omega arith
list ArrayValues = omega arith
list StructValues = omega arith

after_item : (k : Listed) (i : Items) → Makes (P.after_item k i)
unfolding P.after_item
after_item k i = omega arith

item : (k : Listed) → Makes (P.item k)
item Parameters = named_type
item Arguments = (λ x. tt, λ es. tt)
item StructFields = named_type
item ArrayValues = (λ x. tt, λ es. tt)
item StructValues = struct_field

list_turn : (k : Listed) (i : Items) → Makes (P.list_turn k i)
unfolding P.list_turn
list_turn k i =
    λ t h. (omega arith, (λ _ _. tt, binds (P.item k) _ (item k) (λ a. after_item k (P.integrate i a))))

array_type : (p : Place) → Somewhere p → Makes (P.parse_array_type p)
unfolding P.parse_array_type ◌>>=◌
array_type p h = omega arith

type_rule : Makes P.type_rule
unfolding P.type_rule ◌>>=◌
type_rule =
    λ t h. (
      tt,
      (
        (λ x. tt, λ es. tt),
        (
          array_type t.place h.place,
          (binds (P.parse_list StructFields) _ (list StructFields) (λ i. tt), (omega arith, omega arith)),
        ),
      ),
    )

group : Makes P.parse_group
unfolding P.parse_group ◌>>=◌
group = omega arith

atom : Makes P.parse_atom
unfolding P.parse_atom
atom = λ t h. (omega arith, (omega arith, (omega arith, (omega arith, (omega arith, (group, omega arith))))))

suffixes_turn : (e : Fallible Node) → Makes (P.suffixes_turn e)
unfolding P.suffixes_turn ◌>>=◌
suffixes_turn e = λ t h. (omega arith, (omega arith, (omega arith, tt)))

sizeof : Makes P.parse_sizeof
unfolding P.parse_sizeof P.parse_field_access_or_index
sizeof = λ t h. (unfold ◌>>=◌ in omega arith, tries P.parse_atom _ atom (λ e. (λ x. tt, λ es. tt)))

calling : Makes P.parse_call
unfolding P.parse_call
calling = tries P.parse_sizeof _ sizeof (λ e t h. (binds (P.parse_list Arguments) _ (list Arguments) (λ i. tt), tt))

unary_rule : Makes P.unary_rule
unfolding P.unary_rule P.prefix ◌>>=◌
unary_rule = λ t h. (omega arith, (omega arith, (omega arith, (omega arith, calling))))

cast : Makes P.parse_cast
unfolding P.parse_cast ◌>>=◌
cast = omega arith

casts_turn : (e : Fallible Node) → Makes (P.casts_turn e)
unfolding P.casts_turn ◌>>=◌
casts_turn e = omega arith

level : (l : Level) (m : Act (Ans Node)) → Makes m → Makes (m >>? λ e. loop (Operators l e) done)
level l m p = tries m _ p (λ e. (λ x. tt, λ es. tt))

mul : Makes P.parse_mul
unfolding P.parse_mul
mul = level Mul P.parse_cast cast

add_sub : Makes P.parse_add_sub
unfolding P.parse_add_sub
add_sub = level AddSub P.parse_mul mul

bit_shift : Makes P.parse_bit_shift
unfolding P.parse_bit_shift
bit_shift = level Shift P.parse_add_sub add_sub

bitwise_and : Makes P.parse_bitwise_and
unfolding P.parse_bitwise_and
bitwise_and = level BitAnd P.parse_bit_shift bit_shift

bitwise_xor : Makes P.parse_bitwise_xor
unfolding P.parse_bitwise_xor
bitwise_xor = level BitXor P.parse_bitwise_and bitwise_and

bitwise_or : Makes P.parse_bitwise_or
unfolding P.parse_bitwise_or
bitwise_or = level BitOr P.parse_bitwise_xor bitwise_xor

cascade : (l : Level) → Makes (P.cascade l)
cascade BitOr = bitwise_xor
cascade BitXor = bitwise_and
cascade BitAnd = bit_shift
cascade Shift = add_sub
cascade AddSub = mul
cascade Mul = cast

found : {A : Type 0} (t : Tok) (os : List P.Op) (y : ℕ → Act A) (m : Act A) → ((o : ℕ) → Makes (y o)) → Makes m
    → Makes (P.find t os y m)
found t [] y m p q = q
found t (o ∷ os) y m p q = (p o.op, found t os y m p q)

operators_turn : (l : Level) (e : Fallible Node) → Makes (P.operators_turn l e)
unfolding P.operators_turn
operators_turn l e =
    λ t h. found t (P.mapping l)
    (λ o. next λ op. P.cascade l >>? λ r.
    loop (Operators l (P.binary T.ArithmeticBinOp (byte o ∷ []) op.place e r)) done)
    (done (ok e)) (λ o t' h'. tries (P.cascade l) _ (cascade l) (λ r. (λ x. tt, λ es. tt))) tt

comparison : Makes P.parse_comparison
unfolding P.parse_comparison
comparison =
    tries P.parse_bitwise_or _ bitwise_or (λ e t h. found t P.comparisons
    (λ o. next λ op. P.parse_bitwise_or >>? λ r. done (ok (P.binary T.ComparisonBinOp (byte o ∷ []) op.place e r)))
    (done (ok e)) (λ o t' h'. tries P.parse_bitwise_or _ bitwise_or (λ r. tt)) tt)

expression_rule : Makes P.expression_rule
unfolding P.expression_rule
expression_rule =
    tries P.parse_comparison _ comparison
    (λ e t h. (λ t' h'. tries P.parse_comparison _ comparison (λ r. tt), tt))

compound : Makes P.parse_compound
unfolding P.parse_compound
compound =
    tries (P.expect K.Hash) _ (omega arith) (λ _ t h. (
      omega arith,
      (
        binds (P.parse_list ArrayValues) _ (list ArrayValues) (λ i. tt),
        (binds (P.parse_list StructValues) _ (list StructValues) (λ i. tt), omega arith),
      ),
    ))

var_like : Makes P.parse_var_like_declaration
unfolding P.parse_var_like_declaration
var_like =
    tries P.parse_typed_identifier _ typed_identifier (λ x t h. (
      λ t' h'. unfold ◌>>=◌ in omega arith,
      (λ t' h'. tries P.parse_compound _ compound (λ c. tt), tt),
    ))

declaration : (tag : ℕ) (p : Place) → Makes (P.declaration tag p)
unfolding P.declaration
declaration tag p = tries P.parse_var_like_declaration _ var_like (λ x. unfold ◌>>=◌ in omega arith)

body : Makes P.parse_body
unfolding P.parse_body ◌>>=◌
body = omega arith

body_turn : (i : Items) → Makes (P.body_turn i)
unfolding P.body_turn
body_turn i = omega arith

returning : (p : Place) → Makes (P.parse_return p)
unfolding P.parse_return ◌>>=◌
returning p = omega arith

branch : (p : Place) → Makes (P.parse_if p)
unfolding P.parse_if ◌>>=◌
branch p = omega arith

after_expression : (p : Place) (e : Node) → Makes (P.after_expression p e)
unfolding P.after_expression
after_expression p e =
    λ t h. (
      unfold ◌>>=◌ in omega arith,
      (λ t' h'. tries P.parse_compound _ compound (λ v. unfold ◌>>=◌ in omega arith), unfold ◌>>=◌ in omega arith),
    )

expression_statement : (p : Place) → Makes (P.expression_statement p)
unfolding P.expression_statement ◌>>=◌
expression_statement p = (λ e. (after_expression p e.item, tt), λ es. tt)

statement_rule : Makes P.statement_rule
unfolding P.statement_rule
statement_rule =
    λ t h. (
      λ _ _. returning t.place,
      (
        λ _ _. declaration T.VariableDeclaration t.place,
        (
          binds P.parse_body _ body (λ i. tt),
          (
            unfold ◌>>=◌ in omega arith,
            (
              unfold ◌>>=◌ in omega arith,
              (
                unfold ◌>>=◌ in omega arith,
                (λ _ _. branch t.place, (omega arith, (omega arith, expression_statement t.place))),
              ),
            ),
          ),
        ),
      ),
    )

function_body : (p : Place) (x : ℕ) (name : Tok) (ps : Items) (r : Fallible Node)
    → Makes (P.function_body p x name ps r)
unfolding P.function_body
function_body p x name ps r = (unfold ◌>>=◌ in omega arith, binds P.parse_body _ body (λ b. tt))

function : (p : Place) (x : ℕ) → Makes (P.function p x)
unfolding P.function
function p x =
    tries (P.expect K.KwFn) _ (omega arith) (λ _. tries P.expect_identifier _ (omega arith)
    (λ n. binds (P.parse_list Parameters) _ (list Parameters) (λ ps t h. (
      λ t' h'. tries P.parse_type _ (λ x. tt, λ es. tt) (λ r. function_body p x n.item ps r),
      function_body p x n.item ps _,
    ))))

modifiers_turn : (w : Words) → Makes (P.modifiers_turn w)
unfolding P.modifiers_turn
modifiers_turn w = omega arith

alias_rule : (words : ℕ) (p : Place) → Makes (P.alias_rule words p)
unfolding P.alias_rule
alias_rule words p = λ n h. (tt, (omega arith, unfold ◌>>=◌ in omega arith))

type_alias : Makes P.parse_type_alias
unfolding P.parse_type_alias
type_alias =
    λ t h w. tries (P.expect K.KwType) _ (omega arith) (λ _. alias_rule _ _)

path_rule : (p : Place) → Makes (P.path_rule p)
unfolding P.path_rule
path_rule p = λ n h. (tt, (omega arith, unfold ◌>>=◌ in omega arith))

use_item : Makes P.parse_use
unfolding P.parse_use
use_item = λ t h. tries (P.expect K.KwUse) _ (omega arith) (λ _. path_rule t.place)

top_level_item : Makes P.parse_top_level_item
unfolding P.parse_top_level_item P.parse_function_definition P.parse_top_level_var_declaration
top_level_item =
    λ t h. (
      λ t' h'. (λ _ _. function t'.place 1, function t'.place 0),
      (
        type_alias,
        (
          use_item,
          (
            λ t' h'. tries (P.expect K.KwVar) _ (omega arith) (λ _. declaration T.TopLevelVariable t'.place),
            (omega arith, omega arith),
          ),
        ),
      ),
    )

module_turn : (i : Items) → Makes (P.module_turn i)
unfolding P.module_turn
module_turn i = λ t h. (tt, binds P.parse_top_level_item _ top_level_item (λ a i. tt))

rules : (g : Goal) → Makes (P.rule g)
rules Statement = statement_rule
rules Expression = expression_rule
rules Unary = unary_rule
rules Type' = type_rule

turns : (l : Loop) → Makes (P.turn l)
turns (Module i) = module_turn i
turns (Body i) = body_turn i
turns (ListOf k i) = list_turn k i
turns (Operators l e) = operators_turn l e
turns (Casts e) = casts_turn e
turns (Suffixes e) = suffixes_turn e
turns (Modifiers w) = modifiers_turn w

-- ---- the full list

-- what was made between two full lists is fine
pub record Kept (es fs : List Err) : Type 0 where
  pub made : List Err
  pub full : fs ≡ es ++ made
  pub fine : All Fine made

kept_none : (es : List Err) → Kept es es
kept_none es = record { made = []; full = sym (append-nil es); fine = tt }

kept_on : {es fs gs : List Err} → Kept es fs → Kept fs gs → Kept es gs
kept_on {es} k l =
    record {
      made = k.made ++ l.made;
      full = l.full ∙ ap (λ (xs : List Err). xs ++ l.made) k.full ∙ append_assoc es k.made l.made;
      fine = all_append Fine k.made l.made k.fine l.fine;
    }

kept_pushed : (es : List Err) (e : Err) → Fine e → Kept es (es ++ (e ∷ []))
kept_pushed es e f = record { made = e ∷ []; full = refl; fine = (f, tt) }

abbrev G : Goal → St → Ans Node → St → Type 0
G g s a s' = Kept s.full s'.full

abbrev L : (l : Loop) → St → Left l → St → Type 0
L l s a s' = Kept s.full s'.full

abbrev R : St → Type 0
R s = Known s.tokens

abbrev M : Err → St → Type 0
M e s = Unit {0}

fair : (ts : List Tok) → Known ts → Fair (next_token ts)
fair [] h = omega arith
fair (t ∷ ts) h = omega (arith, h.0.0.formed.high, h.0.0.placed)

full : {A : Type 0} (m : Act A) (s₀ s : St) → Makes m → Known s.tokens → Kept s₀.full s.full
    → wp G L R M m (λ a s'. Kept s₀.full s'.full) s
full (done a) s₀ s p i h = h
full (peek k) s₀ s p i h =
    full (k (next_token s.tokens)) s₀ s (p (next_token s.tokens) (fair s.tokens i)) i h
full (consume r k) s₀ s p i h =
    λ _. full (k (next_token s.tokens)) s₀ (advance r s) (p (next_token s.tokens) (fair s.tokens i))
    (known_tail s.tokens i) h
full (make e m) s₀ s p i h = λ _. full m s₀ (push e s) p.1 i (kept_on h (kept_pushed s.full e p.0))
full (when◌then◌else◌ b m n) s₀ s p i h = (λ _. full m s₀ s p.0 i h, λ _. full n s₀ s p.1 i h)
full (call g k) s₀ s p i h = (
  λ x s' l q. full (k (ok x)) s₀ s' (p.0 x) (known_later s s' l i) (kept_on h q),
  λ es s' l q. full (k (fatal es)) s₀ s' (p.1 es) (known_later s s' l i) (kept_on h q),
)
full (loop g k) s₀ s p i h =
    to_each g (λ a. (s' : St) → Later s s' → L g s a s' → wp G L R M (k a) (λ a s'. Kept s₀.full s'.full) s')
    (λ a s' l q. full (k a) s₀ s' (each g (λ a. Makes (k a)) p a) (known_later s s' l i) (kept_on h q))
full panic s₀ s p i h = tt

-- the full list of a reading has its losses, then fine errors
pub errors_fine : (ts : List Tok) → Known ts → (i : Items) (s : St) → parse_tokens ts ≡ gives i s → Kept (losses ts) s.full
errors_fine ts d i s e = subst (After Q) e (tokens_after Q ts (λ _. fine))
  where
    Q : Items → St → Type 0
    Q i s' = Kept (losses ts) s'.full

    fine : After Q (P.parse_module (losses ts) ts)
    fine =
        module_known G L Known known_tail known_later (λ g s j. full (P.rule g) s s (rules g) j (kept_none s.full))
        (λ l s j. full (P.turn l) s s (turns l) j (kept_none s.full)) (losses ts) ts d

loss_fine : (t : Tok) → Good t → FineTo 21 (loss t)
loss_fine t g = go (t is K.Minus)
  where
    go : (b : Bool) → FineTo 21 (P.error (pick b E.CharacterLost E.AssemblyNotClosed) t.place 0 0)
    go true = omega (arith, g.placed)
    go false = omega (arith, g.placed)

-- all of it fits its row
pub full_fine : (ts : List Tok) → Known ts → (i : Items) (s : St) → parse_tokens ts ≡ gives i s → All (FineTo 21) s.full
full_fine ts d i s e =
    let k : Kept (losses ts) s.full = errors_fine ts d i s e in
    let l : All (FineTo 21) (losses ts) = losses_all (FineTo 21) ts (λ t m. loss_fine t (all_in Good t ts d.0 m)) in
    subst (All (FineTo 21)) (sym k.full) (all_append (FineTo 21) (losses ts) k.made l (all_map Fine (FineTo 21) wider k.made k.fine))
  where
    wider : (e : Err) → Fine e → FineTo 21 e
    wider e f = record { low = f.low; high = omega (arith, f.high); place = f.place; expected = f.expected; got = f.got }
