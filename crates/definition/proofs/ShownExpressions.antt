-- In a reading without errors, the records of a list, an expression and a type show the stripped tokens that were
-- read. Assumes nothing.
use mathlib.Core.Path.{◌≡◌, refl, sym, ap, ◌∙◌, subst}
use mathlib.Core.Bool.{Bool, true, false}
use mathlib.Core.Option.{some}
use mathlib.Core.List.{List, [], ◌∷◌, ◌++◌, append-nil, append_assoc}
use Prim.Native.Nat.{ℕ, zero, suc}
use native.Mathlib.Omega.{arith}
use borrow.Author.Tests.{not-false}
use lib.Dec.{T}
use Rattle.definition.specs.Choice.{pick}
use Rattle.definition.specs.Kind as K
use Rattle.definition.specs.Source.{Place, nowhere}
use Rattle.definition.specs.Node.{byte, Rec}
use Rattle.definition.specs.Fallible.{Fallible, Ans, ok, fatal}
use Rattle.definition.specs.Token.{Tok, next_token, tail, ◌is◌}
use Rattle.definition.specs.Act.{Node, Items, Expression, Unary, Type', Operators, Listed, Parameters, Arguments, StructFields, ArrayValues, StructValues, Level, BitOr, BitXor, BitAnd, Shift, AddSub, Mul, plain, group, final, size, Act, done, next, loop, St, advance, ◌>>=◌, ◌>>?◌}
use Rattle.definition.specs.Parser as P
use Rattle.definition.proofs.Strip.{Norm, named, integer, sized, norm}
use Rattle.definition.proofs.Tests.{never_both, is_kind}
use Rattle.definition.proofs.Later.{Later, next_state}
use Rattle.definition.proofs.Ind.{wp_mono, Sure, follow, try_sure}
use Rattle.definition.proofs.Unparse.{Entry, entry, Gathered, gathered, gather, unparse, unparse_append, step, sym1, comma, extend, on_call, on_list, arithmetic, comparison}
use Rattle.definition.proofs.Shown.{fresh_tail, fresh_later, fresh_head, differs, same_self, Grew, grew_refl, ◌▸◌, grew_as, took, symbol_norm, took_size, is_symbol, took_symbol, took_name, took_integer, Shows, shows_as, after0, after1, after2, ShowsItems, items_none, items_more}
use Rattle.definition.proofs.ShownAnswers.{lead, start, Rest, ListSequel, G, TailOf, L, R, M, cwp, expects, identifier, calls, uses, joined, goes_on}

-- ---- parse_atom and its suffixes

group_shown : (s : St) → next_token s.tokens is K.LParen ≡ true → cwp P.parse_group (G Expression s) s
unfolding P.parse_group ◌>>=◌
group_shown s i = λ d. (
  λ x t l p d'. (
    λ j. record {
      toks = p.toks;
      grew = grew_as (took (λ _. group) K.LParen tt s i ▸ p.grew ▸ took (λ _. group) K.RParen tt t j)
          (append-nil p.toks);
      shows = p.shows;
      none = joined p.none refl;
      extra = fresh_tail p.extra;
    },
    λ _. (λ _ m. absurd m, λ _ m. absurd m),
  ),
  λ es t l p. absurd p,
)

atom_shown : (s : St) → cwp P.parse_atom (G Expression s) s
unfolding P.parse_atom step
atom_shown s = (
  λ i d. record {
    toks = integer _ _ ∷ [];
    grew = took_integer s i;
    shows = record { on = λ st. after0 _ st };
    none = refl;
    extra = fresh_head s.tokens d;
  },
  λ _. (
    λ i d. record {
      toks = named K.Identifier _ ∷ [];
      grew = took_name K.Identifier tt s i;
      shows = record { on = λ st. after0 _ st };
      none = refl;
      extra = fresh_head s.tokens d;
    },
    λ _. (
      λ i d. record {
        toks = named K.String _ ∷ [];
        grew = took_name K.String tt s i;
        shows = record { on = λ st. after0 _ st };
        none = refl;
        extra = fresh_head s.tokens d;
      },
      λ _. (
        λ i d. record {
          toks = sym1 K.KwTrue;
          grew = took_symbol K.KwTrue tt s i;
          shows = record { on = λ st. after0 _ st };
          none = refl;
          extra = fresh_head s.tokens d;
        },
        λ _. (
          λ i d. record {
            toks = sym1 K.KwFalse;
            grew = took_symbol K.KwFalse tt s i;
            shows = record { on = λ st. after0 _ st };
            none = refl;
            extra = fresh_head s.tokens d;
          },
          λ _.
              (λ i. group_shown s i, λ _ d. (λ _ m. absurd m, λ _ m. absurd m)),
        ),
      ),
    ),
  ),
)

pub suffixes_shown : (e : Fallible Node) (s : St) → cwp (P.suffixes_turn e) (TailOf e s) s
unfolding P.suffixes_turn step
suffixes_shown e s = (
  λ i d d₂. (
    λ _. tt,
    λ _. (
      λ j. (
        λ x u l p. record {
          toks = sym1 K.Dot ++ (named K.Identifier _ ∷ []) ++ p.toks;
          grew = took_symbol K.Dot tt s i ▸ took_name K.Identifier tt (next_state s) j ▸ p.grew;
          shows =
              λ ts f h. shows_as
              (p.shows (ts ++ sym1 K.Dot ++ (named K.Identifier _ ∷ [])) (fresh_tail (fresh_head s.tokens d))
              (record { on = λ st. after1 h _ st })) (simp append_assoc);
          fresh = λ f. p.fresh (fresh_tail (fresh_head s.tokens d));
          none = p.none;
        },
        λ es u l p. absurd p,
      ),
      λ _ m. absurd m,
    ),
  ),
  λ _. (
    λ i d. (
      λ x u l p. record {
        toks = sym1 K.DotStar ++ p.toks;
        grew = took_symbol K.DotStar tt s i ▸ p.grew;
        shows =
            λ ts f h. shows_as (p.shows (ts ++ sym1 K.DotStar) (fresh_head s.tokens d) (record {
              on = λ st. after1 h _ st ∙ ap
                  (λ (b : Bool). entry (next_token s.tokens).place (pick b (sym1 K.Star ++ ts) (ts ++ sym1 K.DotStar))
                  ∷ st) (differs e.item.place s.tokens K.DotStar tt i f);
            })) (simp append_assoc);
        fresh = λ f. p.fresh (fresh_head s.tokens d);
        none = p.none;
      },
      λ es u l p. absurd p,
    ),
    λ _. (
      λ i d. calls Expression _ _ _ (λ x t l p. expects plain K.RBracket _ _ _ (λ j d₂. (
        λ y u l₂ q. record {
          toks = sym1 K.LBracket ++ p.toks ++ sym1 K.RBracket ++ q.toks;
          grew = took_symbol K.LBracket tt s i ▸ p.grew ▸ took_symbol K.RBracket tt t j ▸ q.grew;
          shows =
              λ ts f h. shows_as (q.shows (ts ++ sym1 K.LBracket ++ p.toks ++ sym1 K.RBracket)
              (fresh_tail (fresh_later l (fresh_head s.tokens d)))
              (record { on = λ st. after2 h p.shows _ st })) (simp append_assoc);
          fresh = λ f. q.fresh (fresh_tail (fresh_later l (fresh_head s.tokens d)));
          none = λ h. q.none (joined h p.none);
        },
        λ es u l₂ q. absurd q,
      ))),
      λ _.
          record { toks = []; grew = grew_refl s; shows = λ ts f h. shows_as h (sym (append-nil ts)); fresh = λ f. f; none = λ h. h },
    ),
  ),
)

field_access_shown : (s : St) → cwp P.parse_field_access_or_index (G Expression s) s
unfolding P.parse_field_access_or_index
field_access_shown s = uses Expression _ _ _ _ (atom_shown s) (λ e t l p. (λ x u l₂ q. goes_on s t u e x p q, λ es u l₂ q. absurd q))

sizeof_shown : (s : St) → cwp P.parse_sizeof (G Expression s) s
unfolding P.parse_sizeof step
sizeof_shown s = (
  λ i d. expects plain K.LParen _ _ _ (λ j d₂. calls Type' _ _ _ (λ ty t l p. expects plain K.RParen _ _ _ (λ k d₃. record {
    toks = sym1 K.KwSizeof ++ sym1 K.LParen ++ p.toks ++ sym1 K.RParen;
    grew = took_symbol K.KwSizeof tt s i ▸ took_symbol K.LParen tt (next_state s) j ▸ p.grew ▸ took_symbol K.RParen tt t k;
    shows = record { on = λ st. after1 p.shows _ st };
    none = p.none;
    extra = fresh_tail (fresh_later l (fresh_tail (fresh_head s.tokens d)));
  }))),
  λ _. field_access_shown s,
)

-- ---- lists

opener_symbol : (k : Listed) → T (is_symbol (P.opener k))
opener_symbol Parameters = tt
opener_symbol Arguments = tt
opener_symbol StructFields = tt
opener_symbol ArrayValues = tt
opener_symbol StructValues = tt

closer_symbol : (k : Listed) → T (is_symbol (P.closer k))
closer_symbol Parameters = tt
closer_symbol Arguments = tt
closer_symbol StructFields = tt
closer_symbol ArrayValues = tt
closer_symbol StructValues = tt

-- a whole list, with its opener and closer
pub record ListShown (k : Listed) (s : St) (a : Items) (s' : St) : Type 0 where
  pub toks : List Norm
  pub grew : Grew s (sym1 (P.opener k) ++ toks ++ sym1 (P.closer k)) s'
  pub shows : ShowsItems comma a toks
  pub none : a.errors ≡ []

pick_same : (b : Bool) (ts : List Norm) → pick b ts ts ≡ ts
pick_same true ts = refl
pick_same false ts = refl

pub list_shown : (k : Listed) (s : St) → cwp (P.parse_list k) (ListShown k s) s
unfolding P.parse_list ◌>>=◌
list_shown k s = λ d. (λ i a t l p. found i a t p (p.shows [] (items_none comma [])), λ _. (λ _ m. absurd m, λ _ m. absurd m))
  where
    found : next_token s.tokens is P.opener k ≡ true → (a : Items) (t : St)
        → (p : ListSequel k (P.no_items []) (next_state s) a t)
        → Rest k a (start k (P.no_items []) [] (next_token (tail s.tokens)) ++ p.toks) → ListShown k s a t
    found i a t p r =
        record {
          toks = r.all;
          grew = grew_as (took_symbol (P.opener k) (opener_symbol k) s i ▸ p.grew)
              (ap (λ (l : List Norm). sym1 (P.opener k) ++ l)
              (ap (λ (l : List Norm). l ++ p.toks) (sym (pick_same (next_token (tail s.tokens) is P.closer k) []))
              ∙ r.whole));
          shows = r.shows;
          none = p.none refl;
        }

-- an item, at any place
pub record ItemShown (s : St) (x : Fallible Node) (s' : St) : Type 0 where
  pub toks : List Norm
  pub at : Place
  pub grew : Grew s toks s'
  pub shows : Shows x.item.recs at toks
  pub none : x.errors ≡ []

abbrev pub ItemOf : St → Ans Node → St → Type 0
ItemOf s a s' = Sure (ItemShown s) a s'

-- after an item: a comma may follow that is not read yet
record AfterItem (k : Listed) (i : Items) (s : St) (a : Items) (s' : St) : Type 0 where
  toks : List Norm
  grew : Grew s toks s'
  shows : (ts : List Norm) → ShowsItems comma i ts → Rest k a (ts ++ toks)
  none : i.errors ≡ [] → a.errors ≡ []

rest_as : {k : Listed} {a : Items} {xs ys : List Norm} → Rest k a xs → xs ≡ ys → Rest k a ys
rest_as {k} {a} r e = subst (λ (l : List Norm). Rest k a l) e r

comma_due : (b : Bool) (t : Tok) (ts us : List Norm) (c n : ℕ) → c ≡ suc n → norm plain t ≡ comma
    → pick b ts (lead c ts) ++ us ≡ ts ++ (norm (pick b final plain) t ++ us)
comma_due true t ts us c n e h = refl
comma_due false t ts us c n e h = rw (e, h) (append_assoc ts comma us)

after_item_shown : (k : Listed) (i : Items) (n : ℕ) → i.count ≡ suc n → (s : St) → cwp (P.after_item k i) (AfterItem k i s) s
unfolding P.after_item
after_item_shown k i n c s = (
  λ e d a t l p. record {
    toks = norm (P.comma_role k (next_token (tail s.tokens))) (next_token s.tokens) ++ p.toks;
    grew = took (P.comma_role k) K.Comma tt s e ▸ p.grew;
    shows =
        λ ts h. rest_as (p.shows ts h)
        (comma_due (next_token (tail s.tokens) is P.closer k) (next_token s.tokens) ts p.toks i.count n c
        (symbol_norm K.Comma tt (next_token s.tokens) (is_kind (next_token s.tokens) K.Comma e)));
    none = p.none;
  },
  λ _. (
    λ e a t l p. record {
      toks = p.toks;
      grew = p.grew;
      shows = λ ts h. rest_as (p.shows ts h) (ap (λ (b : Bool). pick b ts (lead i.count ts) ++ p.toks) e);
      none = p.none;
    },
    λ _.
        (λ e a t l p. never_both e p.there, λ _ d m. absurd m),
  ),
)

-- ---- parse_type and typed identifiers

pub record TypedShown (s : St) (x : Fallible P.Typed) (s' : St) : Type 0 where
  pub at : Place
  pub type : List Norm
  pub grew : Grew s ((named K.Identifier x.item.name ∷ []) ++ sym1 K.Colon ++ type) s'
  pub shows : Shows x.item.type at type
  pub none : x.errors ≡ []

abbrev pub TypedOf : St → Ans P.Typed → St → Type 0
TypedOf s a s' = Sure (TypedShown s) a s'

pub typed_identifier_shown : (s : St) → cwp P.parse_typed_identifier (TypedOf s) s
unfolding P.parse_typed_identifier P.typed
typed_identifier_shown s d = (
  λ i. expects plain K.Colon _ _ _ (λ j d₂. calls Type' _ _ _ (λ ty t l p. record {
    at = ty.item.place;
    type = p.toks;
    grew = took_name K.Identifier tt s i ▸ took_symbol K.Colon tt (next_state s) j ▸ p.grew;
    shows = p.shows;
    none = p.none;
  })),
  λ _. (λ _ m. absurd m, λ _ m. absurd m),
)

named_type_shown : (s : St) → cwp P.parse_named_type (ItemOf s) s
unfolding P.parse_named_type step
named_type_shown s =
    try_sure G L R M (TypedShown s) P.parse_typed_identifier _ _ _ (typed_identifier_shown s)
    (λ x s' l p. record {
      toks = (named K.Identifier x.item.name ∷ []) ++ sym1 K.Colon ++ p.type;
      at = nowhere;
      grew = p.grew;
      shows = record { on = λ st. after1 p.shows _ st };
      none = p.none;
    })

struct_field_shown : (s : St) → cwp P.parse_compound_struct_field (ItemOf s) s
unfolding P.parse_compound_struct_field step
struct_field_shown s = identifier _ _ _ (λ i d. expects plain K.Equals _ _ _ (λ j d₂. calls Expression _ _ _ (λ e t l p. record {
  toks = (named K.Identifier _ ∷ []) ++ sym1 K.Equals ++ p.toks;
  at = _;
  grew = took_name K.Identifier tt s i ▸ took_symbol K.Equals tt (next_state s) j ▸ p.grew;
  shows = record { on = λ st. after1 p.shows _ st };
  none = p.none;
})))

item_shown : (k : Listed) (s : St) → cwp (P.item k) (ItemOf s) s
item_shown Parameters s = named_type_shown s
item_shown Arguments s = (
  λ x t l p. record { toks = p.toks; at = x.item.place; grew = p.grew; shows = p.shows; none = p.none },
  λ es t l p. absurd p,
)
item_shown StructFields s = named_type_shown s
item_shown ArrayValues s = (
  λ x t l p. record { toks = p.toks; at = x.item.place; grew = p.grew; shows = p.shows; none = p.none },
  λ es t l p. absurd p,
)
item_shown StructValues s = struct_field_shown s

-- the tokens before the item, then those of the item
due_item : (n : ℕ) (ts us : List Norm) → extend comma n ts us ≡ lead n ts ++ us
due_item zero ts us = refl
due_item (suc n) ts us = refl

pub list_turn_shown : (k : Listed) (i : Items) (s : St) → cwp (P.list_turn k i) (ListSequel k i s) s
unfolding P.list_turn
list_turn_shown k i s = (
  λ e m. absurd m,
  λ here.
      (λ c d. closes here c, λ c. follow G L R M _ _ (ItemOf s) _ _ (item_shown k s) (go here c)),
)
  where
    closes : next_token s.tokens is K.End ≡ false → next_token s.tokens is P.closer k ≡ true → ListSequel k i s i (next_state s)
    closes here c =
        record {
          toks = sym1 (P.closer k);
          grew = took_symbol (P.closer k) (closer_symbol k) s c;
          there = here;
          shows = λ ts h. record {
            all = ts;
            shows = h;
            whole = ap (λ (b : Bool). pick b ts (lead i.count ts) ++ sym1 (P.closer k)) c;
          };
          none = λ h. h;
        }

    go : next_token s.tokens is K.End ≡ false → next_token s.tokens is P.closer k ≡ false → (a : Ans Node) (t : St)
        → Later s t → ItemOf s a t → cwp (P.after_item k (P.integrate i a)) (ListSequel k i s) t
    go here c (ok x) t l p =
        wp_mono G L R M (AfterItem k (P.integrate i (ok x)) t) (ListSequel k i s)
        (P.after_item k (P.integrate i (ok x))) t (λ a u q. record {
          toks = p.toks ++ q.toks;
          grew = p.grew ▸ q.grew;
          there = here;
          shows = λ ts h. rest_as (q.shows (extend comma i.count ts p.toks) (items_more comma i x h p.shows))
              (ap (λ (z : List Norm). z ++ q.toks) (due_item i.count ts p.toks)
              ∙ append_assoc (lead i.count ts) p.toks q.toks
              ∙ ap (λ (b : Bool). pick b ts (lead i.count ts) ++ (p.toks ++ q.toks)) (sym c));
          none = λ h. q.none (joined h p.none);
        }) (after_item_shown k (P.integrate i (ok x)) i.count refl t)
    go here c (fatal es) t l p = absurd p

-- a record after items, and after one part and items
pub after_items : {sep : List Norm} {i : Items} {ts : List Norm} → ShowsItems sep i ts → (r : Rec) (f : Gathered → List Entry)
    → ((st : List Entry) → step r st ≡ f (gather sep i.count st)) → (st : List Entry)
    → unparse (i.recs ++ (r ∷ [])) st ≡ f (gathered ts st)
after_items {sep} {i} h r f e st =
    unparse_append i.recs (r ∷ []) st ∙ after0 r (unparse i.recs st) ∙ e (unparse i.recs st)
    ∙ ap f (h.on st)

after_part_items : {sep : List Norm} {i : Items} {xs : List Rec} {p : Place} {us ts : List Norm} → Shows xs p us
    → ShowsItems sep i ts → (r : Rec) (f : Gathered → List Entry)
    → ((st : List Entry) → step r st ≡ f (gather sep i.count st)) → (st : List Entry)
    → unparse (xs ++ i.recs ++ (r ∷ [])) st ≡ f (gathered ts (entry p us ∷ st))
after_part_items {sep} {i} {xs} {p} {us} k h r f e st =
    unparse_append (xs ++ i.recs) (r ∷ []) st ∙ after0 r (unparse (xs ++ i.recs) st) ∙ e (unparse (xs ++ i.recs) st)
    ∙ ap (λ (l : List Entry). f (gather sep i.count l))
    (unparse_append xs i.recs st ∙ ap (λ (l : List Entry). unparse i.recs l) (k.on st))
    ∙ ap f (h.on (entry p us ∷ st))

call_shown : (s : St) → cwp P.parse_call (G Expression s) s
unfolding P.parse_call step
call_shown s = uses Expression _ _ _ _ (sizeof_shown s) (λ e t l p. (
  λ i. follow G L R M _ _ (ListShown Arguments t) _ _ (list_shown Arguments t) (λ a u l₂ q. record {
    toks = p.toks ++ (sym1 K.LParen ++ q.toks ++ sym1 K.RParen);
    grew = p.grew ▸ q.grew;
    shows =
        shows_as (record {
          on = λ st. after_part_items p.shows q.shows _ (on_call e.item.place) (λ st. refl) st;
        }) (append_assoc (p.toks ++ sym1 K.LParen) q.toks (sym1 K.RParen)
        ∙ append_assoc p.toks (sym1 K.LParen) (q.toks ++ sym1 K.RParen));
    none = p.none;
    extra = fresh_later l₂ p.extra;
  }),
  λ _. p,
))

-- ---- prefixes

prefix_shown : (tag k : ℕ) → T (is_symbol k)
    → ((p : Place) (ts : List Norm) (st : List Entry)
    → step (record { tag = tag; place = some p; numbers = []; text = [] }) (entry p ts ∷ st)
    ≡ entry p (sym1 k ++ ts) ∷ st)
    → (s : St) → next_token s.tokens is k ≡ true → cwp (P.prefix tag) (G Expression s) s
unfolding P.prefix
prefix_shown tag k z f s i d =
    calls Unary _ _ _ (λ x t l p. record {
      toks = sym1 k ++ p.toks;
      grew = took_symbol k z s i ▸ p.grew;
      shows = record { on = λ st. after1 p.shows _ st ∙ f x.item.place p.toks st };
      none = p.none;
      extra = p.extra;
    })

unary_expression : (s : St) → cwp P.unary_rule (G Expression s) s
unfolding P.unary_rule step
unary_expression s = (
  λ i. prefix_shown 0x27 K.Ampersand tt (λ p ts st. refl) s i,
  λ _. (
    λ i. prefix_shown 0x28 K.Star tt
        (λ p ts st. ap (λ (b : Bool). entry p (pick b (sym1 K.Star ++ ts) (ts ++ sym1 K.DotStar)) ∷ st) (same_self p))
        s i,
    λ _. (
      λ i. prefix_shown 0x2A K.Tilde tt (λ p ts st. refl) s i,
      λ _.
          (λ i. prefix_shown 0x2B K.Bang tt (λ p ts st. refl) s i, λ _. call_shown s),
    ),
  ),
)

pub unary_shown : (s : St) → cwp P.unary_rule (G Unary s) s
unary_shown s = wp_mono G L R M (G Expression s) (G Unary s) P.unary_rule s go (unary_expression s)
  where
    go : (a : Ans Node) (t : St) → G Expression s a t → G Unary s a t
    go (ok x) t p = record { toks = p.toks; grew = p.grew; shows = p.shows; none = p.none; extra = p.extra }
    go (fatal es) t p = p

-- ---- operators

cast_shown : (s : St) → cwp P.parse_cast (G Expression s) s
unfolding P.parse_cast
cast_shown s =
    calls Unary _ _ _ (λ e t l p. (
      λ x u l₂ q. goes_on s t u e x
          (record { toks = p.toks; grew = p.grew; shows = p.shows; none = p.none; extra = p.extra }) q,
      λ es u l₂ q. absurd q,
    ))

pub casts_shown : (e : Fallible Node) (s : St) → cwp (P.casts_turn e) (TailOf e s) s
unfolding P.casts_turn step
casts_shown e s = (
  λ i d. calls Type' _ _ _ (λ ty t l p. (
    λ x u l₂ q. record {
      toks = sym1 K.KwAs ++ p.toks ++ q.toks;
      grew = took_symbol K.KwAs tt s i ▸ p.grew ▸ q.grew;
      shows =
          λ ts f h. shows_as (q.shows (ts ++ sym1 K.KwAs ++ p.toks) (fresh_later l (fresh_head s.tokens d))
          (record { on = λ st. after2 h p.shows _ st })) (simp append_assoc);
      fresh = λ f. q.fresh (fresh_later l (fresh_head s.tokens d));
      none = λ h. q.none (joined h p.none);
    },
    λ es u l₂ q. absurd q,
  )),
  λ _. record { toks = []; grew = grew_refl s; shows = λ ts f h. shows_as h (sym (append-nil ts)); fresh = λ f. f; none = λ h. h },
)

-- the loop of one more level
level_shown : (l : Level) (m : Act (Ans Node)) (s : St) → cwp m (G Expression s) s
    → cwp (m >>? λ e. loop (Operators l e) done) (G Expression s) s
level_shown l m s w = uses Expression m _ _ _ w (λ e t k p. (λ x u l₂ q. goes_on s t u e x p q, λ es u l₂ q. absurd q))

mul_shown : (s : St) → cwp P.parse_mul (G Expression s) s
unfolding P.parse_mul
mul_shown s = level_shown Mul _ s (cast_shown s)

add_sub_shown : (s : St) → cwp P.parse_add_sub (G Expression s) s
unfolding P.parse_add_sub
add_sub_shown s = level_shown AddSub _ s (mul_shown s)

bit_shift_shown : (s : St) → cwp P.parse_bit_shift (G Expression s) s
unfolding P.parse_bit_shift
bit_shift_shown s = level_shown Shift _ s (add_sub_shown s)

bitwise_and_shown : (s : St) → cwp P.parse_bitwise_and (G Expression s) s
unfolding P.parse_bitwise_and
bitwise_and_shown s = level_shown BitAnd _ s (bit_shift_shown s)

bitwise_xor_shown : (s : St) → cwp P.parse_bitwise_xor (G Expression s) s
unfolding P.parse_bitwise_xor
bitwise_xor_shown s = level_shown BitXor _ s (bitwise_and_shown s)

bitwise_or_shown : (s : St) → cwp P.parse_bitwise_or (G Expression s) s
unfolding P.parse_bitwise_or
bitwise_or_shown s = level_shown BitOr _ s (bitwise_xor_shown s)

cascade_shown : (l : Level) (s : St) → cwp (P.cascade l) (G Expression s) s
cascade_shown BitOr s = bitwise_xor_shown s
cascade_shown BitXor s = bitwise_and_shown s
cascade_shown BitAnd s = bit_shift_shown s
cascade_shown Shift s = add_sub_shown s
cascade_shown AddSub s = mul_shown s
cascade_shown Mul s = cast_shown s

-- the operators of a list are in the table at their numbers
abbrev Tabled : (ℕ → ℕ) → List P.Op → Type 0
Tabled f [] = Unit {0}
Tabled f (o ∷ os) = (f o.op ≡ o.kind) × T (is_symbol o.kind) × Tabled f os

find_shown : {A : Type 0} (f : ℕ → ℕ) (os : List P.Op) (y : ℕ → Act A) (n : Act A) (Q : A → St → Type 0) (s : St)
    → Tabled f os → ((o : ℕ) → Grew s (sym1 (f o)) (next_state s) → cwp (y o) Q s) → cwp n Q s
    → cwp (P.find (next_token s.tokens) os y n) Q s
find_shown f [] y n Q s p h e = e
find_shown f (o ∷ os) y n Q s p h e = (
  λ i. h o.op (grew_as (took_symbol o.kind p.1 s i) (ap sym1 (sym p.0))),
  λ _. find_shown f os y n
      Q s p.2 h e,
)

mapping_tabled : (l : Level) → Tabled arithmetic (P.mapping l)
mapping_tabled BitOr = (refl, tt, tt)
mapping_tabled BitXor = (refl, tt, tt)
mapping_tabled BitAnd = (refl, tt, tt)
mapping_tabled Shift = (refl, tt, (refl, tt, tt))
mapping_tabled AddSub = (refl, tt, (refl, tt, tt))
mapping_tabled Mul = (refl, tt, tt)

pub operators_shown : (l : Level) (e : Fallible Node) (s : St) → cwp (P.operators_turn l e) (TailOf e s) s
unfolding P.operators_turn step
operators_shown l e s =
    find_shown arithmetic (P.mapping l)
    (λ o. next λ op. P.cascade l >>? λ r. loop (Operators l (P.binary 0x2D (byte o ∷ []) op.place e r)) done)
    (done (ok e)) (TailOf e s) s (mapping_tabled l)
    (λ o g d. uses Expression _ _ _ _ (cascade_shown l (next_state s)) (λ r t k p. (
      λ x u l₂ q. record {
        toks = sym1 (arithmetic o) ++ p.toks ++ q.toks;
        grew = g ▸ p.grew ▸ q.grew;
        shows =
            λ ts f h. shows_as
            (q.shows (ts ++ sym1 (arithmetic o) ++ p.toks) (fresh_later k (fresh_head s.tokens d))
            (record { on = λ st. after2 h p.shows _ st })) (simp append_assoc);
        fresh = λ f. q.fresh (fresh_later k (fresh_head s.tokens d));
        none = λ h. q.none (joined h p.none);
      },
      λ es u l₂ q. absurd q,
    )))
    (record { toks = []; grew = grew_refl s; shows = λ ts f h. shows_as h (sym (append-nil ts)); fresh = λ f. f; none = λ h. h })

comparison_shown : (s : St) → cwp P.parse_comparison (G Expression s) s
unfolding P.parse_comparison step
comparison_shown s =
    uses Expression _ _ _ _ (bitwise_or_shown s) (λ e t l p.
    find_shown comparison P.comparisons
    (λ o. next λ op. P.parse_bitwise_or >>? λ r. done (ok (P.binary 0x2E (byte o ∷ []) op.place e r)))
    (done (ok e)) (G Expression s) t (refl, tt, (refl, tt, (refl, tt, (refl, tt, (refl, tt, tt)))))
    (λ o g d. uses Expression _ _ _ _ (bitwise_or_shown (next_state t)) (λ r u k q. record {
      toks = p.toks ++ sym1 (comparison o) ++ q.toks;
      grew = p.grew ▸ g ▸ q.grew;
      shows = record { on = λ st. after2 p.shows q.shows _ st };
      none = joined p.none q.none;
      extra = fresh_later k (fresh_head t.tokens d);
    }))
    p)

pub expression_shown : (s : St) → cwp P.expression_rule (G Expression s) s
unfolding P.expression_rule step
expression_shown s =
    uses Expression _ _ _ _ (comparison_shown s) (λ e t l p. (
      λ i d. uses Expression _ _ _ _ (comparison_shown (next_state t)) (λ r u k q. record {
        toks = p.toks ++ sym1 K.DoubleAmpersand ++ q.toks;
        grew = p.grew ▸ took_symbol K.DoubleAmpersand tt t i ▸ q.grew;
        shows = record { on = λ st. after2 p.shows q.shows _ st };
        none = joined p.none q.none;
        extra = fresh_later k (fresh_head t.tokens d);
      }),
      λ _. p,
    ))

-- ---- types

array_type_shown : (s : St) → next_token s.tokens is K.LBracket ≡ true
    → cwp (P.parse_array_type (next_token s.tokens).place) (G Type' s) (next_state s)
unfolding P.parse_array_type step
array_type_shown s i = λ d. (
  λ _ m. absurd m,
  λ e. (
    λ _ m. absurd m,
    λ _. expects plain K.RBracket _ _ _ (λ j d₂. calls Type' _ _ _ (λ ty t l p. record {
      toks = sym1 K.LBracket ++ (sized K.Integer _ ∷ []) ++ sym1 K.RBracket ++ p.toks;
      grew =
          took_symbol K.LBracket tt s i ▸ took_size (next_state s) (not-false _ e) ▸ took_symbol K.RBracket tt
          (advance (λ _. size) (next_state s)) j ▸ p.grew;
      shows = record { on = λ st. after1 p.shows _ st };
      none = p.none;
      extra = omega arith;
    })),
  ),
)

pub type_shown : (s : St) → cwp P.type_rule (G Type' s) s
unfolding P.type_rule step
type_shown s d = (
  λ i. record {
    toks = named K.Identifier _ ∷ [];
    grew = took_name K.Identifier tt s i;
    shows = record { on = λ st. after0 _ st };
    none = refl;
    extra = omega arith;
  },
  λ _. (
    λ i. calls Type' _ _ _ (λ ty t l p. record {
      toks = sym1 K.Star ++ p.toks;
      grew = took_symbol K.Star tt s i ▸ p.grew;
      shows = record { on = λ st. after1 p.shows _ st };
      none = p.none;
      extra = omega arith;
    }),
    λ _. (
      λ i. array_type_shown s i,
      λ _. (
        λ i. follow G L R M _ _ (ListShown StructFields (next_state s)) _ _ (list_shown StructFields (next_state s)) (λ a t l q. record {
          toks = sym1 K.KwStruct ++ (sym1 K.LBrace ++ q.toks ++ sym1 K.RBrace);
          grew = took_symbol K.KwStruct tt s i ▸ q.grew;
          shows =
              record {
                on = λ st. after_items q.shows _
                    (on_list (next_token s.tokens).place (λ ts. sym1 K.KwStruct ++ sym1 K.LBrace ++ ts ++ sym1 K.RBrace))
                    (λ st. refl) st;
              };
          none = refl;
          extra = omega arith;
        }),
        λ _.
            (λ _ m. absurd m, λ _ m. absurd m),
      ),
    ),
  ),
)
