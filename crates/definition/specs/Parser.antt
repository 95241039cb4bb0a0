-- The parser (docs/FORMAT.md, The parser), one definition for each function of `parser.rs`. Assumes nothing.
use Rattle.std.specs.Prelude.{Bool, true, false, ◌||◌, not, List, [], ◌∷◌, ◌++◌, ℕ, zero, suc, ◌+◌, ◌^◌, leb, ltb, length}
use Rattle.std.proofs.Math.Option.{none, some}
use Rattle.definition.specs.Ascii.{ascii}
use Rattle.definition.specs.Tag as T
use Rattle.definition.specs.ParseError as E
use Rattle.definition.specs.Kind as K
use Rattle.definition.specs.Source.{Place, nowhere}
use Rattle.definition.specs.Node.{Rec, Num, byte, two, eight}
use Rattle.definition.specs.Fallible.{Err, Fallible, Ans, ok, fatal}
use Rattle.definition.specs.Choice.{pick}
use Rattle.definition.specs.Token.{Tok, ◌is◌, number, dashed}
use Rattle.definition.specs.Act.{Node, Items, Goal, Statement, Expression, Unary, Type', Listed, Parameters, Arguments, StructFields, ArrayValues, StructValues}
use Rattle.definition.specs.Act.{Level, BitOr, BitXor, BitAnd, Shift, AddSub, Mul, Words, Role, plain, group, final, size, St, begin, Res, refused, run}
use Rattle.definition.specs.Act.{Loop, Module, Body, ListOf, Operators, Casts, Suffixes, Modifiers, Left}
use Rattle.definition.specs.Act.{Act, done, peek, consume, make, when◌then◌else◌, call, loop, panic, next, next_as, ◌>>=◌, ◌>>?◌}

-- ---- answers

abbrev pub good : {A : Type 0} → A → List Err → Act (Ans A)
good a es = done (ok (record { item = a; errors = es }))

-- makes an error, and answers with it as fatal
abbrev pub raise : {A : Type 0} → Err → Act (Ans A)
raise e = make e (done (fatal (e ∷ [])))

abbrev pub error : ℕ → Place → ℕ → ℕ → Err
error n p e g = record { number = n; place = p; expected = e; got = g }

abbrev pub errors_of : {A : Type 0} → Ans A → List Err
errors_of (ok x) = x.errors
errors_of (fatal es) = es

-- a node whose record comes after its children's, at the place p
abbrev pub node : List Rec → ℕ → Place → List Num → List ℕ → Node
node rs tag p ns text = record { place = p; recs = rs ++ (record { tag = tag; place = some p; numbers = ns; text = text } ∷ []) }

-- a node whose record has no place
abbrev pub bare : List Rec → ℕ → List ℕ → Node
bare rs tag text = record { place = nowhere; recs = rs ++ (record { tag = tag; place = none; numbers = []; text = text } ∷ []) }

abbrev pub no_items : List Err → Items
no_items es = record { count = 0; recs = []; errors = es }

-- `integrate_if_ok`: adds an item, unless the answer is fatal; adds its errors in both cases
abbrev pub integrate : Items → Ans Node → Items
integrate i (ok x) = record { count = suc i.count; recs = i.recs ++ x.item.recs; errors = i.errors ++ x.errors }
integrate i (fatal es) = record { count = i.count; recs = i.recs; errors = i.errors ++ es }

abbrev pub with_error : Items → Err → Items
with_error i e = record { count = i.count; recs = i.recs; errors = i.errors ++ (e ∷ []) }

-- ---- expect, expect_identifier; the calls

abbrev pub expect_as : Role → ℕ → Act (Ans Tok)
expect_as r k =
    next_as r λ t.
    when t is k then good t [] else
    when t is K.End then raise (error E.ExpectedAtEnd nowhere k 0) else
    raise (error E.Expected t.place k t.kind)

abbrev pub expect : ℕ → Act (Ans Tok)
expect k = expect_as plain k

abbrev pub expect_identifier : Act (Ans Tok)
expect_identifier =
    next λ t.
    when t is K.Identifier then good t [] else
    when t is K.End then raise (error E.EndOfFile nowhere 0 0) else
    raise (error E.Identifier t.place 0 0)

abbrev pub parse_statement : Act (Ans Node)
parse_statement = call Statement done

abbrev pub parse_expression : Act (Ans Node)
parse_expression = call Expression done

abbrev pub parse_unary : Act (Ans Node)
parse_unary = call Unary done

abbrev pub parse_type : Act (Ans Node)
parse_type = call Type' done

-- ---- parse_typed_identifier

pub record Typed : Type 0 where
  pub name : List ℕ
  pub type : List Rec

unfoldable pub typed : List ℕ → List Err → Act (Ans Typed)
typed name es =
    expect K.Colon >>? λ _.
    parse_type >>? λ ty.
    good (record { name = name; type = ty.item.recs }) (es ++ ty.errors)

unfoldable pub parse_typed_identifier : Act (Ans Typed)
parse_typed_identifier =
    next λ t.
    when t is K.Identifier then typed t.text [] else
    when t is K.End then raise (error E.EndOfFile nowhere 0 0) else
    (let e = error E.Identifier t.place 0 0 in make e (typed (ascii "<?>") (e ∷ [])))

-- ---- parse_bounded_list_of

abbrev pub opener : Listed → ℕ
opener Parameters = K.LParen
opener Arguments = K.LParen
opener StructFields = K.LBrace
opener ArrayValues = K.LBracket
opener StructValues = K.LBrace

abbrev pub closer : Listed → ℕ
closer Parameters = K.RParen
closer Arguments = K.RParen
closer StructFields = K.RBrace
closer ArrayValues = K.RBracket
closer StructValues = K.RBrace

-- a parameter, or a field of a struct type
unfoldable pub parse_named_type : Act (Ans Node)
parse_named_type =
    parse_typed_identifier >>? λ x.
    good (bare x.item.type T.NamedType x.item.name) x.errors

unfoldable pub parse_compound_struct_field : Act (Ans Node)
parse_compound_struct_field =
    expect_identifier >>? λ id.
    expect K.Equals >>? λ _.
    parse_expression >>? λ e.
    good (node e.item.recs T.CompoundField id.item.place [] id.item.text) e.errors

abbrev pub item : Listed → Act (Ans Node)
item Parameters = parse_named_type
item Arguments = parse_expression
item StructFields = parse_named_type
item ArrayValues = parse_expression
item StructValues = parse_compound_struct_field

unfoldable pub parse_list : Listed → Act Items
parse_list k = expect (opener k) >>= λ a. loop (ListOf k (no_items (errors_of a))) done

-- a comma is final where the token after it closes the list
abbrev pub comma_role : Listed → Tok → Role
comma_role k t = pick (t is closer k) final plain

-- what follows an item
unfoldable pub after_item : Listed → Items → Act Items
after_item k i =
    peek λ t.
    when t is K.Comma then (consume (comma_role k) λ _. loop (ListOf k i) done) else
    when t is closer k then loop (ListOf k i) done else
    when t is K.End then loop (ListOf k i) done else
    (next λ t. let e = error E.InList t.place 0 t.kind in make e (loop (ListOf k (with_error i e)) done))

unfoldable pub list_turn : Listed → Items → Act Items
list_turn k i =
    peek λ t.
    when t is K.End then (let e = error E.ListAtEnd nowhere 0 0 in make e (done (with_error i e))) else
    when t is closer k then (next λ _. done i) else
    (item k >>= λ a. after_item k (integrate i a))

-- ---- parse_type

unfoldable pub parse_array_type : Place → Act (Ans Node)
parse_array_type p =
    next_as size λ n.
    when not (n is K.Integer) then raise (error E.ArraySize p 0 0) else
    when dashed n.text || not (ltb (number n.base 0 n.text) (2 ^ 64)) then
    raise (error E.ArraySizePositive p 0 0) else
    (expect K.RBracket >>? λ _.
    parse_type >>? λ ty.
    good (node ty.item.recs T.Array p (eight (number n.base 0 n.text) ∷ []) []) ty.errors)

unfoldable pub type_rule : Act (Ans Node)
type_rule =
    next λ t.
    when t is K.Identifier then good (node [] T.Name t.place [] t.text) [] else
    when t is K.Star then (parse_type >>? λ ty. good (node ty.item.recs T.Pointer t.place [] []) ty.errors) else
    when t is K.LBracket then parse_array_type t.place else
    when t is K.KwStruct then
    (parse_list StructFields >>= λ i. good (node i.recs T.Struct t.place (two i.count ∷ []) []) []) else
    when t is K.End then raise (error E.TypeAtEnd nowhere 0 0) else
    raise (error E.Type' t.place 0 t.kind)

-- ---- expressions

-- a binary operator: its record after those of both operands, at its own place
abbrev pub binary : ℕ → List Num → Place → Fallible Node → Fallible Node → Fallible Node
binary tag ns p l r = record { item = node (l.item.recs ++ r.item.recs) tag p ns []; errors = l.errors ++ r.errors }

-- a node with one operand, whose records come first
abbrev pub wrap : ℕ → Place → List ℕ → Fallible Node → Fallible Node
wrap tag p text e = record { item = node e.item.recs tag p [] text; errors = e.errors }

-- an answer, and the errors of its closing parenthesis
abbrev pub both : Ans Node → Ans Tok → Ans Node
both (ok e) c = ok (record { item = e.item; errors = e.errors ++ errors_of c })
both (fatal es) c = fatal (es ++ errors_of c)

-- the grouping parentheses of parse_atom; without `?`
unfoldable pub parse_group : Act (Ans Node)
parse_group =
    next_as group λ _.
    parse_expression >>= λ e.
    expect_as group K.RParen >>= λ c.
    done (both e c)

unfoldable pub parse_atom : Act (Ans Node)
parse_atom =
    peek λ t.
    when t is K.Integer then (next λ t. good (node [] T.Integer t.place (byte t.base ∷ []) t.text) []) else
    when t is K.Identifier then (next λ t. good (node [] T.Identifier t.place [] t.text) []) else
    when t is K.String then (next λ t. good (node [] T.String t.place [] t.text) []) else
    when t is K.KwTrue then (next λ t. good (node [] T.Boolean t.place (byte 1 ∷ []) []) []) else
    when t is K.KwFalse then (next λ t. good (node [] T.Boolean t.place (byte 0 ∷ []) []) []) else
    when t is K.LParen then parse_group else
    (next λ t.
    when t is K.End then raise (error E.ExpressionAtEnd nowhere 0 0) else
    raise (error E.Expression t.place 0 t.kind))

-- parse_field_access_or_index
unfoldable pub parse_field_access_or_index : Act (Ans Node)
parse_field_access_or_index = parse_atom >>? λ e. loop (Suffixes e) done

unfoldable pub suffixes_turn : Fallible Node → Act (Ans Node)
suffixes_turn e =
    peek λ t.
    when t is K.Dot then
    (next λ op. next λ n.
    when n is K.End then panic else
    when n is K.Identifier then loop (Suffixes (wrap T.FieldAccess op.place n.text e)) done else
    (let x = error E.Identifier n.place 0 0 in make x (good e.item (e.errors ++ (x ∷ []))))) else
    when t is K.DotStar then (next λ op. loop (Suffixes (wrap T.PointerDereference op.place [] e)) done) else
    when t is K.LBracket then
    (next λ op. parse_expression >>? λ i. expect K.RBracket >>? λ _.
    loop (Suffixes (binary T.Index [] op.place e i)) done) else
    done (ok e)

unfoldable pub parse_sizeof : Act (Ans Node)
parse_sizeof =
    peek λ t.
    when t is K.KwSizeof then
    (next λ op. expect K.LParen >>? λ _. parse_type >>? λ ty. expect K.RParen >>? λ _.
    good (node ty.item.recs T.Sizeof op.place [] []) ty.errors) else
    parse_field_access_or_index

-- the errors of the arguments are not reported
unfoldable pub parse_call : Act (Ans Node)
parse_call =
    parse_sizeof >>? λ e.
    peek λ t.
    when t is K.LParen then
    (parse_list Arguments >>= λ i.
    good (node (e.item.recs ++ i.recs) T.Call e.item.place (two i.count ∷ []) []) e.errors) else
    done (ok e)

unfoldable pub prefix : ℕ → Act (Ans Node)
prefix tag = next λ _. parse_unary >>? λ e. done (ok (wrap tag e.item.place [] e))

unfoldable pub unary_rule : Act (Ans Node)
unary_rule =
    peek λ t.
    when t is K.Ampersand then prefix T.PointerTake else
    when t is K.Star then prefix T.PointerDereference else
    when t is K.Tilde then prefix T.BitwiseNot else
    when t is K.Bang then prefix T.BooleanNot else
    parse_call

unfoldable pub parse_cast : Act (Ans Node)
parse_cast = parse_unary >>? λ e. loop (Casts e) done

unfoldable pub casts_turn : Fallible Node → Act (Ans Node)
casts_turn e =
    peek λ t.
    when t is K.KwAs then (next λ op. parse_type >>? λ ty. loop (Casts (binary T.Cast [] op.place e ty)) done) else
    done (ok e)

-- the kind of an operator's token, and its position in the Rust's enum
pub record Op : Type 0 where
  pub kind : ℕ
  pub op : ℕ

abbrev pub on : ℕ → ℕ → Op
on k o = record { kind = k; op = o }

abbrev pub mapping : Level → List Op
mapping BitOr = on K.Bar 5 ∷ []
mapping BitXor = on K.Caret 4 ∷ []
mapping BitAnd = on K.Ampersand 3 ∷ []
mapping Shift = on K.LeftShift 6 ∷ on K.RightShift 7 ∷ []
mapping AddSub = on K.Plus 0 ∷ on K.Minus 1 ∷ []
mapping Mul = on K.Star 2 ∷ []

-- if the token is one of the operators, continues with its number
abbrev pub find : {A : Type 0} → Tok → List Op → (ℕ → Act A) → Act A → Act A
find t [] found other = other
find t (o ∷ os) found other = when t is o.kind then found o.op else find t os found other

unfoldable pub parse_mul : Act (Ans Node)
parse_mul = parse_cast >>? λ e. loop (Operators Mul e) done

unfoldable pub parse_add_sub : Act (Ans Node)
parse_add_sub = parse_mul >>? λ e. loop (Operators AddSub e) done

unfoldable pub parse_bit_shift : Act (Ans Node)
parse_bit_shift = parse_add_sub >>? λ e. loop (Operators Shift e) done

unfoldable pub parse_bitwise_and : Act (Ans Node)
parse_bitwise_and = parse_bit_shift >>? λ e. loop (Operators BitAnd e) done

unfoldable pub parse_bitwise_xor : Act (Ans Node)
parse_bitwise_xor = parse_bitwise_and >>? λ e. loop (Operators BitXor e) done

unfoldable pub parse_bitwise_or : Act (Ans Node)
parse_bitwise_or = parse_bitwise_xor >>? λ e. loop (Operators BitOr e) done

-- an operand of a level
abbrev pub cascade : Level → Act (Ans Node)
cascade BitOr = parse_bitwise_xor
cascade BitXor = parse_bitwise_and
cascade BitAnd = parse_bit_shift
cascade Shift = parse_add_sub
cascade AddSub = parse_mul
cascade Mul = parse_cast

unfoldable pub operators_turn : Level → Fallible Node → Act (Ans Node)
operators_turn l e =
    peek λ t.
    find t (mapping l)
    (λ o. next λ op. cascade l >>? λ r.
    loop (Operators l (binary T.ArithmeticBinOp (byte o ∷ []) op.place e r)) done)
    (done (ok e))

abbrev pub comparisons : List Op
comparisons = on K.DoubleEquals 0 ∷ on K.LAngle 3 ∷ on K.LAngleEquals 4 ∷ on K.RAngle 1 ∷ on K.RAngleEquals 2 ∷ []

unfoldable pub parse_comparison : Act (Ans Node)
parse_comparison =
    parse_bitwise_or >>? λ e.
    peek λ t.
    find t comparisons
    (λ o. next λ op. parse_bitwise_or >>? λ r. done (ok (binary T.ComparisonBinOp (byte o ∷ []) op.place e r)))
    (done (ok e))

unfoldable pub expression_rule : Act (Ans Node)
expression_rule =
    parse_comparison >>? λ e.
    peek λ t.
    when t is K.DoubleAmpersand then
    (next λ op. parse_comparison >>? λ r. done (ok (binary T.BooleanAnd [] op.place e r))) else
    done (ok e)

-- ---- parse_compound, parse_var_like_declaration

unfoldable pub parse_compound : Act (Ans Node)
parse_compound =
    expect K.Hash >>? λ _.
    peek λ t.
    when t is K.End then raise (error E.CompoundAtEnd nowhere 0 0) else
    when t is K.LBracket then
    (parse_list ArrayValues >>= λ i.
    good (node i.recs T.CompoundArray t.place (two i.count ∷ []) []) i.errors) else
    when t is K.LBrace then
    (parse_list StructValues >>= λ i.
    good (node i.recs T.CompoundStruct t.place (two i.count ∷ []) []) i.errors) else
    raise (error E.Compound t.place 0 t.kind)

abbrev pub declared : Fallible Typed → Node → List Err → Act (Ans Typed)
declared x v es = good (record { name = x.item.name; type = x.item.type ++ v.recs }) (x.errors ++ es)

-- the name, and the records of the type and the initial value
unfoldable pub parse_var_like_declaration : Act (Ans Typed)
parse_var_like_declaration =
    parse_typed_identifier >>? λ x.
    peek λ t.
    when t is K.Equals then
    (next λ _. parse_expression >>? λ e. declared x (bare e.item.recs T.AssignedValue []) e.errors) else
    when t is K.LArrow then
    (next λ _. parse_compound >>? λ c. declared x (bare c.item.recs T.CompoundValue []) c.errors) else
    declared x (bare [] T.NoValue []) []

-- a declaration: its record after those of its type and its value
unfoldable pub declaration : ℕ → Place → Act (Ans Node)
declaration tag p =
    parse_var_like_declaration >>? λ x.
    expect K.Semicolon >>? λ _.
    good (node x.item.type tag p [] x.item.name) x.errors

-- ---- parse_body, parse_statement

-- the statements after the opening brace, if that was there
abbrev pub statements : Ans Tok → Act Items
statements (ok x) = loop (Body (no_items [])) done
statements (fatal es) = done (no_items es)

unfoldable pub parse_body : Act Items
parse_body = expect K.LBrace >>= λ a. statements a

unfoldable pub body_turn : Items → Act Items
body_turn i =
    peek λ t.
    when t is K.RBrace then (next λ _. done i) else
    when t is K.End then (let e = error E.BodyAtEnd nowhere 0 0 in make e (done (with_error i e))) else
    call Statement λ a. loop (Body (integrate i a)) done

unfoldable pub parse_return : Place → Act (Ans Node)
parse_return p =
    peek λ t.
    when t is K.Semicolon then (next λ _. good (node [] T.Return p (byte 0 ∷ []) []) []) else
    (parse_expression >>? λ e. expect K.Semicolon >>? λ _.
    good (node e.item.recs T.Return p (byte 1 ∷ []) []) e.errors)

unfoldable pub parse_if : Place → Act (Ans Node)
parse_if p =
    parse_expression >>? λ c.
    parse_statement >>? λ a.
    peek λ t.
    when t is K.KwElse then
    (next λ _. parse_statement >>? λ b.
    good (node (c.item.recs ++ a.item.recs ++ b.item.recs) T.If p (byte 3 ∷ []) [])
    (c.errors ++ a.errors ++ b.errors)) else
    good (node (c.item.recs ++ a.item.recs) T.If p (byte 2 ∷ []) []) (c.errors ++ a.errors)

-- what follows an expression without errors: an assignment, a compound assignment, or the end of the statement
unfoldable pub after_expression : Place → Node → Act (Ans Node)
after_expression p e =
    peek λ t.
    when t is K.Equals then
    (next λ _. parse_expression >>? λ v. expect K.Semicolon >>? λ _.
    good (node (e.recs ++ v.item.recs) T.Assignment p [] []) v.errors) else
    when t is K.LArrow then
    (next λ _. parse_compound >>? λ v. expect K.Semicolon >>? λ _.
    good (node (e.recs ++ v.item.recs) T.CompoundAssignment p [] []) v.errors) else
    (expect K.Semicolon >>? λ _. good (node e.recs T.Expression p [] []) [])

abbrev pub is_empty : List Err → Bool
is_empty [] = true
is_empty (e ∷ es) = false

-- an expression with errors ends the statement
unfoldable pub expression_statement : Place → Act (Ans Node)
expression_statement p =
    parse_expression >>? λ e.
    when is_empty e.errors then after_expression p e.item else
    done (ok (wrap T.Expression p [] e))

unfoldable pub statement_rule : Act (Ans Node)
statement_rule =
    peek λ t.
    when t is K.KwReturn then (next λ _. parse_return t.place) else
    when t is K.KwVar then (next λ _. declaration T.VariableDeclaration t.place) else
    when t is K.LBrace then
    (parse_body >>= λ i. good (node i.recs T.Block t.place (two i.count ∷ []) []) i.errors) else
    when t is K.KwLoop then (next λ _. parse_statement >>? λ b. done (ok (wrap T.Loop t.place [] b))) else
    when t is K.KwWhile then
    (next λ _. parse_expression >>? λ c. parse_statement >>? λ b. done (ok (binary T.While [] t.place c b))) else
    when t is K.KwBreak then (next λ _. expect K.Semicolon >>? λ _. good (node [] T.Break t.place [] []) []) else
    when t is K.KwIf then (next λ _. parse_if t.place) else
    when t is K.InlineAssemblyFragment then (next λ _. good (node [] T.InlineAssembly t.place [] t.text) []) else
    when t is K.End then raise (error E.StatementAtEnd nowhere 0 0) else
    expression_statement t.place

-- ---- the items of a module

-- errors are reported in this order: body, return type, parameters
unfoldable pub function_body : Place → ℕ → Tok → Items → Fallible Node → Act (Ans Node)
function_body p external name ps r =
    when leb 1 external then
    (expect K.Semicolon >>? λ _.
    good (node (ps.recs ++ r.item.recs) T.FunctionDefinition p (byte 1 ∷ two ps.count ∷ []) name.text)
    (r.errors ++ ps.errors)) else
    (parse_body >>= λ b.
    good
    (node (ps.recs ++ r.item.recs ++ (node b.recs T.Block p (two b.count ∷ []) []).recs) T.FunctionDefinition p
    (byte 0 ∷ two ps.count ∷ []) name.text)
    (b.errors ++ r.errors ++ ps.errors))

unfoldable pub function : Place → ℕ → Act (Ans Node)
function p external =
    expect K.KwFn >>? λ _.
    expect_identifier >>? λ name.
    parse_list Parameters >>= λ ps.
    peek λ t.
    when t is K.RArrow then (next λ _. parse_type >>? λ r. function_body p external name.item ps r) else
    function_body p external name.item ps (record { item = node [] T.Void p [] []; errors = [] })

unfoldable pub parse_function_definition : Act (Ans Node)
parse_function_definition =
    peek λ t.
    when t is K.KwExtern then (next λ _. function t.place 1) else
    function t.place 0

unfoldable pub modifiers_turn : Words → Act Words
modifiers_turn w =
    peek λ t.
    when t is K.KwDistinct then (next λ _. loop (Modifiers (record { distinct = 1; internal = w.internal })) done) else
    when t is K.KwInternal then (next λ _. loop (Modifiers (record { distinct = w.distinct; internal = 2 })) done) else
    done w

-- an alias after `type`
unfoldable pub alias_rule : ℕ → Place → Act (Ans Node)
alias_rule words p =
    next λ n.
    when n is K.End then panic else
    when not (n is K.Identifier) then raise (error E.NameAfterType n.place 0 0) else
    (expect K.Equals >>? λ _.
    parse_type >>? λ ty.
    expect K.Semicolon >>? λ _.
    good (node ty.item.recs T.TypeAlias p (byte words ∷ []) n.text) ty.errors)

unfoldable pub parse_type_alias : Act (Ans Node)
parse_type_alias =
    peek λ t.
    loop (Modifiers (record { distinct = 0; internal = 0 })) λ w.
    expect K.KwType >>? λ _.
    alias_rule (w.distinct + w.internal) t.place

-- a path after `use`
unfoldable pub path_rule : Place → Act (Ans Node)
path_rule p =
    next λ n.
    when n is K.End then panic else
    when not (n is K.String) then raise (error E.PathAfterUse n.place 0 0) else
    (expect K.Semicolon >>? λ _.
    good (node [] T.Use p [] n.text) [])

unfoldable pub parse_use : Act (Ans Node)
parse_use = peek λ t. expect K.KwUse >>? λ _. path_rule t.place

unfoldable pub parse_top_level_var_declaration : Act (Ans Node)
parse_top_level_var_declaration = peek λ t. expect K.KwVar >>? λ _. declaration T.TopLevelVariable t.place

unfoldable pub parse_top_level_item : Act (Ans Node)
parse_top_level_item =
    peek λ t.
    when t is K.KwFn || t is K.KwExtern then parse_function_definition else
    when t is K.KwType || t is K.KwDistinct || t is K.KwInternal then parse_type_alias else
    when t is K.KwUse then parse_use else
    when t is K.KwVar then parse_top_level_var_declaration else
    when t is K.InlineAssemblyFragment then (next λ t. good (node [] T.TopLevelAssembly t.place [] t.text) []) else
    (next λ t. raise (error E.TopLevel t.place 0 t.kind))

unfoldable pub module_turn : Items → Act Items
module_turn i =
    peek λ t.
    when t is K.End then done i else
    (parse_top_level_item >>= λ a. loop (Module (integrate i a)) done)

-- ---- the whole parser

-- the definition of each counted function, without the count
abbrev pub rule : Goal → Act (Ans Node)
rule Statement = statement_rule
rule Expression = expression_rule
rule Unary = unary_rule
rule Type' = type_rule

-- one turn of each loop
abbrev pub turn : (l : Loop) → Act (Left l)
turn (Module i) = module_turn i
turn (Body i) = body_turn i
turn (ListOf k i) = list_turn k i
turn (Operators l e) = operators_turn l e
turn (Casts e) = casts_turn e
turn (Suffixes e) = suffixes_turn e
turn (Modifiers w) = modifiers_turn w

-- A loop of at most n turns. Each turn reads a token, so one turn for each token left and two more are enough: no
-- script reaches `refused 0`
unfoldable pub loops : (Goal → St → Res (Ans Node)) → ℕ → (l : Loop) → St → Res (Left l)
loops c zero l s = refused 0
loops c (suc n) l s = run c (λ m t. loops c n m t) (turn l) s

-- a counted function, where at most n counted calls may be open
unfoldable pub parse : ℕ → Goal → St → Res (Ans Node)
parse zero g s = refused 10
parse (suc n) g s = run (λ h t. parse n h t) (λ l t. loops (λ h u. parse n h u) (suc (suc (length t.tokens))) l t) (rule g) s

-- the whole parser from a full list on, where at most n counted calls may be open
unfoldable pub parse_module_within : ℕ → List Err → List Tok → Res Items
unfolding run ◌>>=◌ number ascii typed parse_typed_identifier parse_named_type parse_compound_struct_field
    parse_list after_item list_turn parse_array_type type_rule parse_group parse_atom parse_field_access_or_index
    suffixes_turn parse_sizeof parse_call prefix unary_rule parse_cast casts_turn parse_mul parse_add_sub
    parse_bit_shift parse_bitwise_and parse_bitwise_xor parse_bitwise_or operators_turn parse_comparison
    expression_rule parse_compound parse_var_like_declaration declaration parse_body body_turn parse_return
    parse_if after_expression expression_statement statement_rule function_body function parse_function_definition
    modifiers_turn alias_rule parse_type_alias path_rule parse_use parse_top_level_var_declaration
    parse_top_level_item module_turn loops parse
parse_module_within n full ts = loops (λ g s. parse n g s) (suc (suc (length ts))) (Module (no_items [])) (begin full ts)

unfoldable pub parse_module : List Err → List Tok → Res Items
unfolding parse_module_within
parse_module full ts = parse_module_within 96 full ts
