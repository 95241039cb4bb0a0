-- In a reading without errors, the records of a declaration, a body and a statement show the stripped tokens that
-- were read. Assumes nothing.
use mathlib.Core.Path.{◌≡◌, refl, sym, ap, ◌∙◌, subst}
use mathlib.Core.Bool.{true}
use mathlib.Core.Option.{some}
use mathlib.Core.List.{List, [], ◌∷◌, ◌++◌, append-nil, append_assoc}
use Prim.Native.Nat.{ℕ}
use Rattle.definition.specs.Kind as K
use Rattle.definition.specs.Source.{Place, nowhere}
use Rattle.definition.specs.Node.{Rec}
use Rattle.definition.specs.Fallible.{Err, Fallible, Ans}
use Rattle.definition.specs.Token.{next_token, ◌is◌}
use Rattle.definition.specs.Act.{Node, Items, Statement, Expression, ArrayValues, StructValues, plain, St, ◌>>=◌}
use Rattle.definition.specs.Parser as P
use Rattle.definition.proofs.Ind.{Sure, follow, try_sure}
use Rattle.definition.proofs.Strip.{Norm, named}
use Rattle.definition.proofs.Tests.{never_both}
use Rattle.definition.proofs.Unparse.{Entry, entry, unparse, unparse_append, step, sym1, on_list}
use Rattle.definition.proofs.Shown.{Grew, grew_refl, ◌▸◌, grew_as, took_symbol, took_name, Shows, after0, after1, shows2, after2, after3, ShowsItems, items_none, items_join}
use Rattle.definition.proofs.Later.{next_state}
use Rattle.definition.proofs.ShownAnswers.{Sequel, G, cwp, expects, calls, joined, L, R, M}
use Rattle.definition.proofs.ShownExpressions.{ListShown, list_shown, ItemShown, ItemOf, TypedShown, typed_identifier_shown, after_items}

-- ---- initial values and declarations

compound_shown : (s : St) → cwp P.parse_compound (ItemOf s) s
unfolding P.parse_compound step
compound_shown s = expects plain K.Hash _ _ _ (λ i d. (
  λ _ m. absurd m,
  λ _. (
    λ j. follow G L R M _ _ (ListShown ArrayValues t) _ _ (list_shown ArrayValues t) (λ a u l q. record {
      toks = sym1 K.Hash ++ (sym1 K.LBracket ++ q.toks ++ sym1 K.RBracket);
      at = _;
      grew = took_symbol K.Hash tt s i ▸ q.grew;
      shows =
          record {
            on = λ st. after_items q.shows _
                (on_list (next_token t.tokens).place (λ ts. sym1 K.Hash ++ sym1 K.LBracket ++ ts ++ sym1 K.RBracket))
                (λ st. refl) st;
          };
      none = q.none;
    }),
    λ _. (
      λ j. follow G L R M _ _ (ListShown StructValues t) _ _ (list_shown StructValues t) (λ a u l q. record {
        toks = sym1 K.Hash ++ (sym1 K.LBrace ++ q.toks ++ sym1 K.RBrace);
        at = _;
        grew = took_symbol K.Hash tt s i ▸ q.grew;
        shows =
            record {
              on = λ st. after_items q.shows _
                  (on_list (next_token t.tokens).place (λ ts. sym1 K.Hash ++ sym1 K.LBrace ++ ts ++ sym1 K.RBrace))
                  (λ st. refl) st;
            };
        none = q.none;
      }),
      λ _ m. absurd m,
    ),
  ),
))
  where
    t : St
    t = next_state s

-- the name, type and value of a declaration
record DeclaredShown (s : St) (x : Fallible P.Typed) (s' : St) : Type 0 where
  at₁ : Place
  at₂ : Place
  type : List Norm
  value : List Norm
  grew : Grew s ((named K.Identifier x.item.name ∷ []) ++ sym1 K.Colon ++ type ++ value) s'
  shows : (st : List Entry) → unparse x.item.type st ≡ entry at₂ value ∷ entry at₁ type ∷ st
  none : x.errors ≡ []

abbrev DeclaredOf : St → Ans P.Typed → St → Type 0
DeclaredOf s a s' = Sure (DeclaredShown s) a s'

var_like_shown : (s : St) → cwp P.parse_var_like_declaration (DeclaredOf s) s
unfolding P.parse_var_like_declaration step
var_like_shown s = try_sure G L R M (TypedShown s) P.parse_typed_identifier _ _ _ (typed_identifier_shown s) (λ x t l p. (
  λ i d. calls Expression _ _ _
      (λ e u l₂ q. value x t u p (P.bare e.item.recs 0x34 []) e.errors nowhere (sym1 K.Equals ++ q.toks)
      (took_symbol K.Equals tt t i ▸ q.grew) (record { on = λ st. after1 q.shows _ st }) q.none),
  λ _. (
    λ i d. try_sure G L R M (ItemShown (next_state t)) P.parse_compound _ _ _ (compound_shown (next_state t))
        (λ c u l₂ q. value x t u p (P.bare c.item.recs 0x35 []) c.errors nowhere (sym1 K.LArrow ++ q.toks)
        (took_symbol K.LArrow tt t i ▸ q.grew) (record { on = λ st. after1 q.shows _ st }) q.none),
    λ _.
        value x t t p (P.bare [] 0x33 []) [] nowhere [] (grew_refl t) (record { on = λ st. after0 _ st }) refl,
  ),
))
  where
    value : (x : Fallible P.Typed) (t u : St) (p : TypedShown s x t) (v : Node) (es : List Err) (q : Place)
        (vs : List Norm)
        → Grew t vs u → Shows v.recs q vs → es ≡ [] → cwp (P.declared x v es) (DeclaredOf s) u
    value x t u p v es q vs g h e =
        record {
          at₁ = p.at;
          at₂ = q;
          type = p.type;
          value = vs;
          grew = p.grew ▸ g;
          shows = λ st. shows2 p.shows h st;
          none = joined p.none e;
        }

pub declaration_shown : (tag : ℕ) (s : St) → next_token s.tokens is K.KwVar ≡ true
    → ((p a b : Place) (tx : List ℕ) (xs ys : List Norm) (st : List Entry)
    → step (record { tag = tag; place = some p; numbers = []; text = tx }) (entry b ys ∷ entry a xs ∷ st)
    ≡ entry p (sym1 K.KwVar ++ (named K.Identifier tx ∷ []) ++ sym1 K.Colon ++ xs ++ ys ++ sym1 K.Semicolon) ∷ st)
    → cwp (P.declaration tag (next_token s.tokens).place) (G Statement s) (next_state s)
unfolding P.declaration
declaration_shown tag s i f =
    try_sure G L R M (DeclaredShown (next_state s)) P.parse_var_like_declaration _ _ _
    (var_like_shown (next_state s)) (λ x t l p. expects plain K.Semicolon _ _ _ (λ j d. record {
      toks = sym1 K.KwVar ++ ((named K.Identifier x.item.name ∷ []) ++ sym1 K.Colon ++ p.type ++ p.value) ++ sym1 K.Semicolon;
      grew = took_symbol K.KwVar tt s i ▸ p.grew ▸ took_symbol K.Semicolon tt t j;
      shows =
          record {
            on = λ st. unparse_append x.item.type (made x ∷ []) st ∙ after0 (made x)
                (unparse x.item.type st) ∙ ap (λ (l : List Entry). step (made x) l) (p.shows st) ∙ f
                (next_token s.tokens).place p.at₁ p.at₂ x.item.name p.type p.value st;
          };
      none = p.none;
      extra = tt;
    }))
  where
    made : Fallible P.Typed → Rec
    made x = record { tag = tag; place = some (next_token s.tokens).place; numbers = []; text = x.item.name }

-- ---- bodies and statements

pub items_as : {sep : List Norm} {i : Items} {ts us : List Norm} → ShowsItems sep i ts → ts ≡ us → ShowsItems sep i us
items_as {sep} {i} h e = subst (λ (l : List Norm). ShowsItems sep i l) e h

pub record BodyShown (s : St) (a : Items) (s' : St) : Type 0 where
  pub toks : List Norm
  pub grew : Grew s (sym1 K.LBrace ++ toks ++ sym1 K.RBrace) s'
  pub shows : ShowsItems [] a toks
  pub none : a.errors ≡ []

pub body_shown : (s : St) → cwp P.parse_body (BodyShown s) s
unfolding P.parse_body ◌>>=◌
body_shown s d = (
  λ i a t l p. record {
    toks = p.toks;
    grew = took_symbol K.LBrace tt s i ▸ p.grew;
    shows = p.shows [] (items_none [] []);
    none = p.none refl;
  },
  λ _. (λ _ m. absurd m, λ _ m. absurd m),
)

pub body_turn_shown : (i : Items) (s : St) → cwp (P.body_turn i) (Sequel (sym1 K.RBrace) i s) s
unfolding P.body_turn
body_turn_shown i s = (
  λ e d. record { toks = []; grew = took_symbol K.RBrace tt s e; shows = λ ts h. items_as h (sym (append-nil ts)); none = λ h. h },
  λ _. (
    λ _ m. absurd m,
    λ _. (
      λ x t l p a u l₂ q. record {
        toks = p.toks ++ q.toks;
        grew = grew_as (p.grew ▸ q.grew) (sym (append_assoc p.toks q.toks (sym1 K.RBrace)));
        shows = λ ts h. items_as (q.shows (ts ++ p.toks) (items_join i x h p.shows)) (append_assoc ts p.toks q.toks);
        none = λ h. q.none (joined h p.none);
      },
      λ es t l p. absurd p,
    ),
  ),
)

return_shown : (s : St) → next_token s.tokens is K.KwReturn ≡ true → cwp (P.parse_return (next_token s.tokens).place) (G Statement s) (next_state s)
unfolding P.parse_return step
return_shown s i = (
  λ j d. record {
    toks = sym1 K.KwReturn ++ sym1 K.Semicolon;
    grew = took_symbol K.KwReturn tt s i ▸ took_symbol K.Semicolon tt (next_state s) j;
    shows = record { on = λ st. after0 _ st };
    none = refl;
    extra = tt;
  },
  λ _.
      calls Expression _ _ _ (λ e t l p. expects plain K.Semicolon _ _ _ (λ j d. record {
        toks = sym1 K.KwReturn ++ p.toks ++ sym1 K.Semicolon;
        grew = took_symbol K.KwReturn tt s i ▸ p.grew ▸ took_symbol K.Semicolon tt t j;
        shows = record { on = λ st. after1 p.shows _ st };
        none = p.none;
        extra = tt;
      })),
)

if_shown : (s : St) → next_token s.tokens is K.KwIf ≡ true → cwp (P.parse_if (next_token s.tokens).place) (G Statement s) (next_state s)
unfolding P.parse_if step
if_shown s i = calls Expression _ _ _ (λ c t l p. calls Statement _ _ _ (λ a u l₂ q. (
  λ j d. calls Statement _ _ _ (λ b v l₃ r. record {
    toks = sym1 K.KwIf ++ p.toks ++ q.toks ++ sym1 K.KwElse ++ r.toks;
    grew = took_symbol K.KwIf tt s i ▸ p.grew ▸ q.grew ▸ took_symbol K.KwElse tt u j ▸ r.grew;
    shows = record { on = λ st. after3 p.shows q.shows r.shows _ st };
    none = joined (joined p.none q.none) r.none;
    extra = tt;
  }),
  λ _.
      record {
        toks = sym1 K.KwIf ++ p.toks ++ q.toks;
        grew = took_symbol K.KwIf tt s i ▸ p.grew ▸ q.grew;
        shows = record { on = λ st. after2 p.shows q.shows _ st };
        none = joined p.none q.none;
        extra = tt;
      },
)))

-- after an expression that shows ts
after_expression_shown : (s t : St) (p : Place) (e : Node) (ts : List Norm) → Grew s ts t → Shows e.recs e.place ts
    → cwp (P.after_expression p e) (G Statement s) t
unfolding P.after_expression step
after_expression_shown s t p e ts g h = (
  λ i d. calls Expression _ _ _ (λ v u l q. expects plain K.Semicolon _ _ _ (λ j d₂. record {
    toks = ts ++ sym1 K.Equals ++ q.toks ++ sym1 K.Semicolon;
    grew = g ▸ took_symbol K.Equals tt t i ▸ q.grew ▸ took_symbol K.Semicolon tt u j;
    shows = record { on = λ st. after2 h q.shows _ st };
    none = q.none;
    extra = tt;
  })),
  λ _. (
    λ i d. try_sure G L R M (ItemShown (next_state t)) P.parse_compound _ _ _ (compound_shown (next_state t))
        (λ v u l q. expects plain K.Semicolon _ _ _ (λ j d₂. record {
          toks = ts ++ sym1 K.LArrow ++ q.toks ++ sym1 K.Semicolon;
          grew = g ▸ took_symbol K.LArrow tt t i ▸ q.grew ▸ took_symbol K.Semicolon tt u j;
          shows = record { on = λ st. after2 h q.shows _ st };
          none = q.none;
          extra = tt;
        })),
    λ _.
        expects plain K.Semicolon _ _ _ (λ j d. record {
          toks = ts ++ sym1 K.Semicolon;
          grew = g ▸ took_symbol K.Semicolon tt t j;
          shows = record { on = λ st. after1 h _ st };
          none = refl;
          extra = tt;
        }),
  ),
)

empty : (es : List Err) → es ≡ [] → P.is_empty es ≡ true
empty es e = ap P.is_empty e

expression_statement_shown : (s : St) (p : Place) → cwp (P.expression_statement p) (G Statement s) s
unfolding P.expression_statement
expression_statement_shown s p =
    calls Expression _ _ _
    (λ e t l q. (
      λ _. after_expression_shown s t p e.item q.toks q.grew q.shows,
      λ z. never_both
          (empty e.errors q.none) z,
    ))

pub statement_shown : (s : St) → cwp P.statement_rule (G Statement s) s
unfolding P.statement_rule step
statement_shown s = (
  λ i d. return_shown s i,
  λ _. (
    λ i d. declaration_shown 0x42 s i (λ p a b tx xs ys st. refl),
    λ _. (
      λ i. follow G L R M _ _ (BodyShown s) _ _ (body_shown s) (λ a t l q. record {
        toks = sym1 K.LBrace ++ q.toks ++ sym1 K.RBrace;
        grew = q.grew;
        shows =
            record {
              on = λ st. after_items q.shows _
                  (on_list (next_token s.tokens).place (λ ts. sym1 K.LBrace ++ ts ++ sym1 K.RBrace)) (λ st. refl) st;
            };
        none = q.none;
        extra = tt;
      }),
      λ _. (
        λ i d. calls Statement _ _ _ (λ b t l p. record {
          toks = sym1 K.KwLoop ++ p.toks;
          grew = took_symbol K.KwLoop tt s i ▸ p.grew;
          shows = record { on = λ st. after1 p.shows _ st };
          none = p.none;
          extra = tt;
        }),
        λ _. (
          λ i d. calls Expression _ _ _ (λ c t l p. calls Statement _ _ _ (λ b u l₂ q. record {
            toks = sym1 K.KwWhile ++ p.toks ++ q.toks;
            grew = took_symbol K.KwWhile tt s i ▸ p.grew ▸ q.grew;
            shows = record { on = λ st. after2 p.shows q.shows _ st };
            none = joined p.none q.none;
            extra = tt;
          })),
          λ _. (
            λ i d. expects plain K.Semicolon _ _ _ (λ j d₂. record {
              toks = sym1 K.KwBreak ++ sym1 K.Semicolon;
              grew = took_symbol K.KwBreak tt s i ▸ took_symbol K.Semicolon tt (next_state s) j;
              shows = record { on = λ st. after0 _ st };
              none = refl;
              extra = tt;
            }),
            λ _. (
              λ i d. if_shown s i,
              λ _. (
                λ i d. record {
                  toks = named K.InlineAssemblyFragment _ ∷ [];
                  grew = took_name K.InlineAssemblyFragment tt s i;
                  shows = record { on = λ st. after0 _ st };
                  none = refl;
                  extra = tt;
                },
                λ _.
                    (λ _ m. absurd m, λ _. expression_statement_shown s (next_token s.tokens).place),
              ),
            ),
          ),
        ),
      ),
    ),
  ),
)
