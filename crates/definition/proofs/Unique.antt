-- In a reading without errors, the records of the tree show the stripped tokens that were read, and so determine
-- them. Assumes nothing.
use mathlib.Core.Path.{◌≡◌, refl, sym, ap, ◌∙◌, subst}
use mathlib.Core.Bool.{Bool}
use mathlib.Core.Option.{some}
use mathlib.Core.List.{List, [], ◌∷◌, ◌++◌, append-nil, append_assoc}
use Prim.Native.Nat.{ℕ, ◌<◌}
use native.Mathlib.Omega.{arith}
use borrow.Author.Tests.{not-false}
use lib.Dec.{leb}
use lib.ListN.{length}
use Rattle.definition.specs.Choice.{pick}
use Rattle.definition.specs.Kind as K
use Rattle.definition.specs.Source.{Place}
use Rattle.definition.specs.Node.{byte, two, Rec}
use Rattle.definition.specs.Fallible.{Fallible, Ans, ok, fatal}
use Rattle.definition.specs.Token.{Tok, next_token, tail}
use Rattle.definition.specs.Act.{Node, Items, Goal, Statement, Expression, Unary, Type', Loop, Module, Body, ListOf, Operators, Casts, Suffixes, Modifiers, Parameters, Words, plain, St, begin, gives, ◌>>=◌, ◌>>?◌}
use Rattle.definition.specs.Parser as P
use Rattle.definition.specs.Losses.{losses, parse_tokens}
use Rattle.definition.proofs.Ind.{follow}
use Rattle.definition.proofs.Strip.{Norm, symbol, named, strip}
use Rattle.definition.proofs.Later.{Later, After, next_state}
use Rattle.definition.proofs.Unparse.{Entry, entry, Gathered, gathered, gather, unparse, unparse_append, step, sym1, comma, on_list, returning}
use Rattle.definition.proofs.Shown.{Distinct, distinct_tail, distinct_later, Grew, grew_refl, ◌▸◌, grew_as, took_modifier, took_symbol, took_name, Shows, after0, after1, ShowsItems, items_none, items_join}
use Rattle.definition.proofs.Clean.{Clean, clean_module}
use Rattle.definition.proofs.Losses.{tokens_after}
use Rattle.definition.proofs.ShownAnswers.{Sequel, G, L, cwp, expects, identifier, calls, joined, R, M}
use Rattle.definition.proofs.ShownExpressions.{suffixes_shown, ListShown, list_shown, list_turn_shown, after_items, unary_shown, casts_shown, operators_shown, expression_shown, type_shown}
use Rattle.definition.proofs.ShownStatements.{declaration_shown, items_as, BodyShown, body_shown, body_turn_shown, statement_shown}

-- ---- the items of a module

abbrev before : ℕ → List Norm
before x = pick (leb 1 x) (sym1 K.KwExtern) []

-- the tokens of a return type, after its arrow
arrow : (ts : List Norm) → 0 < length ts → sym1 K.RArrow ++ ts ≡ returning ts
arrow [] h = absurd (omega arith)
arrow (t ∷ ts) h = refl

module _ (s t : St) (p : Place) (name : Tok) (ps : Items) (r : Fallible Node) (us rs : List Norm) (q : Place)
    (hp : ShowsItems comma ps us) (hr : Shows r.item.recs q rs) (ep : ps.errors ≡ []) (er : r.errors ≡ []) where
  -- the parts of a function, before its record: parameters, return type, and a body if there is one
  parts : (st : List Entry) → unparse (ps.recs ++ r.item.recs) st ≡ entry q rs ∷ unparse ps.recs st
  parts st = unparse_append ps.recs r.item.recs st ∙ hr.on (unparse ps.recs st)

  external_shown : Grew s (sym1 K.KwExtern ++ sym1 K.KwFn ++ (named K.Identifier name.text ∷ [])
      ++ (sym1 K.LParen ++ us ++ sym1 K.RParen) ++ returning rs) t
      → cwp (P.expect K.Semicolon >>? λ _. P.good
      (P.node (ps.recs ++ r.item.recs) 0x50 p (byte 1 ∷ two ps.count ∷ []) name.text)
      (r.errors ++ ps.errors)) (G Statement s) t
  unfolding step
  external_shown g = expects plain K.Semicolon _ _ _ (λ j d. record {
    toks =
        symbol K.KwExtern ∷ symbol K.KwFn ∷ named K.Identifier name.text ∷ symbol K.LParen
        ∷ (us ++ sym1 K.RParen ++ (returning rs ++ sym1 K.Semicolon));
    grew =
        grew_as (g ▸ took_symbol K.Semicolon tt t j) (ap {B = List Norm}
        (λ l. symbol K.KwExtern ∷ symbol K.KwFn ∷ named K.Identifier name.text ∷ symbol K.LParen ∷ l)
        (append_assoc (us ++ sym1 K.RParen) (returning rs) (sym1 K.Semicolon)));
    shows = record {
      on =
          λ st. unparse_append (ps.recs ++ r.item.recs) (made ∷ []) st ∙ after0 made
          (unparse (ps.recs ++ r.item.recs) st) ∙ ap (λ (l : List Entry). step made l) (parts st)
          ∙ ap {B = List Entry}
          (λ g. entry p (symbol K.KwExtern ∷ symbol K.KwFn ∷ named K.Identifier name.text ∷ symbol K.LParen
          ∷ (g.toks ++ sym1 K.RParen ++ (returning rs ++ sym1 K.Semicolon))) ∷ g.rest) (hp.on st);
    };
    none = joined er ep;
    extra = tt;
  })
    where
      made : Rec
      made = record { tag = 0x50; place = some p; numbers = byte 1 ∷ two ps.count ∷ []; text = name.text }

  with_body_shown : Grew s (sym1 K.KwFn ++ (named K.Identifier name.text ∷ []) ++ (sym1 K.LParen ++ us ++ sym1 K.RParen)
      ++ returning rs) t
      → cwp (P.parse_body >>= λ b. P.good
      (P.node (ps.recs ++ r.item.recs ++ (P.node b.recs 0x40 p (two b.count ∷ []) []).recs) 0x50 p
      (byte 0 ∷ two ps.count ∷ []) name.text) (b.errors ++ r.errors ++ ps.errors)) (G Statement s) t
  unfolding step
  with_body_shown g = follow G L R M _ _ (BodyShown t) _ _ (body_shown t) (λ b u l z. record {
    toks =
        symbol K.KwFn ∷ named K.Identifier name.text ∷ symbol K.LParen
        ∷ (us ++ sym1 K.RParen ++ (returning rs ++ (sym1 K.LBrace ++ z.toks ++ sym1 K.RBrace)));
    grew =
        grew_as (g ▸ z.grew)
        (ap {B = List Norm} (λ l. symbol K.KwFn ∷ named K.Identifier name.text ∷ symbol K.LParen ∷ l)
        (append_assoc (us ++ sym1 K.RParen) (returning rs) (sym1 K.LBrace ++ z.toks ++ sym1 K.RBrace)));
    shows = record {
      on = λ st. unparse_append (ps.recs ++ r.item.recs ++ (P.node b.recs 0x40 p (two b.count ∷ []) []).recs) (made ∷ []) st
          ∙ after0 made (unparse (ps.recs ++ r.item.recs ++ (P.node b.recs 0x40 p (two b.count ∷ []) []).recs) st)
          ∙ ap (λ (l : List Entry). step made l)
          (unparse_append (ps.recs ++ r.item.recs) (P.node b.recs 0x40 p (two b.count ∷ []) []).recs st ∙ ap (λ (l : List Entry). unparse (P.node b.recs 0x40 p (two b.count ∷ []) []).recs l) (parts st)
          ∙ after_items z.shows _ (on_list p (λ ts. sym1 K.LBrace ++ ts ++ sym1 K.RBrace)) (λ st. refl)
          (entry q rs ∷ unparse ps.recs st))
          ∙ ap {B = List Entry} (λ g. entry p (symbol K.KwFn ∷ named K.Identifier name.text ∷ symbol K.LParen
          ∷ (g.toks ++ sym1 K.RParen ++ (returning rs ++ (sym1 K.LBrace ++ z.toks ++ sym1 K.RBrace))))
          ∷ g.rest) (hp.on st);
    };
    none = joined (joined z.none er) ep;
    extra = tt;
  })
    where
      made : Rec
      made = record { tag = 0x50; place = some p; numbers = byte 0 ∷ two ps.count ∷ []; text = name.text }

  function_body_shown : (x : ℕ)
      → Grew s (before x ++ sym1 K.KwFn ++ (named K.Identifier name.text ∷ [])
      ++ (sym1 K.LParen ++ us ++ sym1 K.RParen) ++ returning rs) t
      → cwp (P.function_body p x name ps r) (G Statement s) t
  unfolding P.function_body
  function_body_shown x g = (
    λ e. external_shown (grew_as g
        (ap (λ (b : Bool). pick b (sym1 K.KwExtern) [] ++ sym1 K.KwFn ++ (named K.Identifier name.text ∷ [])
        ++ (sym1 K.LParen ++ us ++ sym1 K.RParen) ++ returning rs) e)),
    λ e. with_body_shown (grew_as g
        (ap (λ (b : Bool). pick b (sym1 K.KwExtern) [] ++ sym1 K.KwFn ++ (named K.Identifier name.text ∷ [])
        ++ (sym1 K.LParen ++ us ++ sym1 K.RParen) ++ returning rs) e)),
  )

function_shown : (s t : St) (p : Place) (x : ℕ) → Grew s (before x) t → cwp (P.function p x) (G Statement s) t
unfolding P.function step
function_shown s t p x g =
    expects plain K.KwFn _ _ _
    (λ i d. identifier _ _ _ (λ j d₂. follow G L R M _ _ (ListShown Parameters (next_state (next_state t))) _ _ (list_shown Parameters (next_state (next_state t))) (λ ps u l q. (
      λ k d₃. calls Type' _ _ _
          (λ ty v l₂ r. function_body_shown s v p (next_token (tail t.tokens)) ps ty q.toks r.toks ty.item.place q.shows r.shows q.none r.none x
          (grew_as (g ▸ took_symbol K.KwFn tt t i ▸ took_name K.Identifier tt (next_state t) j ▸ q.grew
          ▸ (took_symbol K.RArrow tt u k ▸ r.grew))
          (ap (λ (l : List Norm). before x ++ sym1 K.KwFn ++ (named K.Identifier (next_token (tail t.tokens)).text ∷ [])
          ++ (sym1 K.LParen ++ q.toks ++ sym1 K.RParen) ++ l) (arrow r.toks r.extra)))),
      λ _.
          function_body_shown s u p (next_token (tail t.tokens)) ps
          (record { item = P.node [] 0x11 p [] []; errors = [] }) q.toks [] p q.shows
          (record { on = λ st. after0 _ st }) q.none refl x
          (grew_as (g ▸ took_symbol K.KwFn tt t i ▸ took_name K.Identifier tt (next_state t) j ▸ q.grew) (sym (append-nil _))),
    ))))

function_definition_shown : (s : St) → cwp P.parse_function_definition (G Statement s) s
unfolding P.parse_function_definition
function_definition_shown s = (
  λ i d. function_shown s (next_state s) (next_token s.tokens).place 1 (took_symbol K.KwExtern tt s i),
  λ _.
      function_shown s s (next_token s.tokens).place 0 (grew_refl s),
)

modifiers_shown : (w : Words) (s : St) → cwp (P.modifiers_turn w) (L (Modifiers w) s) s
unfolding P.modifiers_turn
modifiers_shown w s =
    (λ i d a t l p. took_modifier K.KwDistinct tt s i ▸ p, λ _. (λ i d a t l p. took_modifier K.KwInternal tt s i ▸ p, λ _. grew_refl s))

type_alias_shown : (s : St) → cwp P.parse_type_alias (G Statement s) s
unfolding P.parse_type_alias P.alias_rule step
type_alias_shown s w t l g = expects plain K.KwType _ _ _ (λ i d d₂. (
  λ _. tt,
  λ _. (
    λ _ m. absurd m,
    λ e. expects plain K.Equals _ _ _ (λ j d₃. calls Type' _ _ _ (λ ty u l₂ p. expects plain K.Semicolon _ _ _ (λ k d₄. record {
      toks = sym1 K.KwType ++ (named K.Identifier _ ∷ []) ++ sym1 K.Equals ++ p.toks ++ sym1 K.Semicolon;
      grew =
          g ▸ took_symbol K.KwType tt t i ▸ took_name K.Identifier tt (next_state t) (not-false _ e)
          ▸ took_symbol K.Equals tt _ j ▸ p.grew ▸ took_symbol K.Semicolon tt u k;
      shows = record { on = λ st. after1 p.shows _ st };
      none = p.none;
      extra = tt;
    }))),
  ),
))

use_shown : (s : St) → cwp P.parse_use (G Statement s) s
unfolding P.parse_use P.path_rule step
use_shown s = expects plain K.KwUse _ _ _ (λ i d d₂. (
  λ _. tt,
  λ _. (
    λ _ m. absurd m,
    λ e. expects plain K.Semicolon _ _ _ (λ k d₄. record {
      toks = sym1 K.KwUse ++ (named K.String _ ∷ []) ++ sym1 K.Semicolon;
      grew = took_symbol K.KwUse tt s i ▸ took_name K.String tt (next_state s) (not-false _ e) ▸ took_symbol K.Semicolon tt _ k;
      shows = record { on = λ st. after0 _ st };
      none = refl;
      extra = tt;
    }),
  ),
))

top_level_var_shown : (s : St) → cwp P.parse_top_level_var_declaration (G Statement s) s
unfolding P.parse_top_level_var_declaration step
top_level_var_shown s = expects plain K.KwVar _ _ _ (λ i d. declaration_shown 0x53 s i (λ p a b tx xs ys st. refl))

top_level_item_shown : (s : St) → cwp P.parse_top_level_item (G Statement s) s
unfolding P.parse_top_level_item step
top_level_item_shown s = (
  λ _. function_definition_shown s,
  λ _. (
    λ _. type_alias_shown s,
    λ _. (
      λ _. use_shown s,
      λ _. (
        λ _. top_level_var_shown s,
        λ _. (
          λ i d. record {
            toks = named K.InlineAssemblyFragment _ ∷ [];
            grew = took_name K.InlineAssemblyFragment tt s i;
            shows = record { on = λ st. after0 _ st };
            none = refl;
            extra = tt;
          },
          λ _ d m. absurd m,
        ),
      ),
    ),
  ),
)

module_turn_shown : (i : Items) (s : St) → cwp (P.module_turn i) (Sequel [] i s) s
unfolding P.module_turn
module_turn_shown i s = (
  λ e.
      record { toks = []; grew = grew_refl s; shows = λ ts h. items_as h (sym (append-nil ts)); none = λ h. h },
  λ _. follow G L R M _ _ (G Statement s) _ _ (top_level_item_shown s) go,
)
  where
    go : (a : Ans Node) (t : St) → Later s t → G Statement s a t → (b : Items) (u : St) → Later t u
        → Sequel [] (P.integrate i a) t b u → Sequel [] i s b u
    go (ok x) t l p b u l₂ q = record {
      toks = p.toks ++ q.toks;
      grew = grew_as (p.grew ▸ q.grew) (sym (append_assoc p.toks q.toks []));
      shows = λ ts h. items_as (q.shows (ts ++ p.toks) (items_join i x h p.shows)) (append_assoc ts p.toks q.toks);
      none = λ h. q.none (joined h p.none);
    }
    go (fatal es) t l p b u l₂ q = absurd p

rules : (g : Goal) (s : St) → cwp (P.rule g) (G g s) s
rules Statement s = statement_shown s
rules Expression s = expression_shown s
rules Unary s = unary_shown s
rules Type' s = type_shown s

turns : (l : Loop) (s : St) → cwp (P.turn l) (L l s) s
turns (Module i) s = module_turn_shown i s
turns (Body i) s = body_turn_shown i s
turns (ListOf k i) s = list_turn_shown k i s
turns (Operators l e) s = operators_shown l e s
turns (Casts e) s = casts_shown e s
turns (Suffixes e) s = suffixes_shown e s
turns (Modifiers w) s = modifiers_shown w s

-- ---- the theorem

-- the tree of a reading without errors shows all tokens read
clean_shows : (ts : List Tok) → Distinct ts → (i : Items) (s : St) → parse_tokens ts ≡ gives i s → s.full ≡ []
    → gather [] i.count (unparse i.recs []) ≡ gathered (strip s.read) []
unfolding strip
clean_shows ts d i s e f =
    go (subst (After Shows) e (tokens_after Shows ts (λ _. shows)))
  where
    start : St
    start = begin (losses ts) ts

    Shows : Items → St → Type 0
    Shows i s' = Later start s' × (Clean start s' → Sequel [] (P.no_items []) start i s')

    shows : After Shows (P.parse_module (losses ts) ts)
    shows =
        clean_module G L Distinct distinct_tail (λ s s' l h. distinct_later s s' l h) (λ g s i. rules g s)
        (λ l s i. turns l s) (losses ts) ts d

    go : Shows i s → gather [] i.count (unparse i.recs []) ≡ gathered (strip s.read) []
    go h =
        let q : Sequel [] (P.no_items []) start i s = h.1 (omega (arith, ap length f)) in
        (q.shows [] (items_none [] [])).on [] ∙ ap (λ (l : List Norm). gathered l [])
        (sym (append-nil q.toks) ∙ sym q.grew.by)

-- two readings without errors and with equal trees have the same stripped tokens
pub unique : (ts us : List Tok) → Distinct ts → Distinct us → (i j : Items) (s t : St) → parse_tokens ts ≡ gives i s
    → parse_tokens us ≡ gives j t → s.full ≡ [] → t.full ≡ []
    → i.recs ≡ j.recs → i.count ≡ j.count → strip s.read ≡ strip t.read
unique ts us d d' i j s t e e' f f' r c =
    ap (λ (g : Gathered). g.toks)
    (sym (clean_shows ts d i s e f) ∙ ap (λ (l : List Rec). gather [] i.count (unparse l [])) r
    ∙ ap (λ (n : ℕ). gather [] n (unparse j.recs [])) c ∙ clean_shows us d' j t e' f')
