-- The items of a module, and the module: one law for each return of the functions. Assumes nothing.
use mathlib.Core.Path.{◌≡◌, refl, sym, ap, ◌∙◌}
use mathlib.Core.List.{List, []}
use mathlib.Core.Bool.{◌||◌}
use lib.Dec.{eqb}
use Prim.Native.Nat.{ℕ, ◌≤◌}
use native.Mathlib.Omega.{arith}
use Rattle.definition.specs.Numbers.{kind_number}
use Rattle.definition.specs.Node.{recs_bytes}
use Rattle.definition.specs.Fallible.{Ans}
use Rattle.definition.specs.Token.{next_token}
use Rattle.definition.specs.Act.{Act, Node, Items, St, when◌then◌else◌, next, Module, plain, Consumed, Res, gives, after, run, ◌>>=◌}
use Rattle.definition.specs.Parser as P
use Rattle.definition.specs.Go.{go}
use Rattle.definition.proofs.Flat.{go_bind, go_loop}
use Rattle.definition.specs.declared.tag.Tag.{Tag}
use Rattle.fallible.specs.declared.parser.State.{State}
use Rattle.fallible.specs.Answer.{nowhere, Done, Answer}
use Rattle.fallible.specs.Lists.{err_of, error_at, errs}
use Rattle.fallible.specs.Answers.{raised, Raised}
use Rattle.node.specs.declared.Numbers.TheVariants.{None}
use Rattle.steps.specs.declared.tokens.Token.{Token}
use Rattle.steps.specs.Tokens.{rest, Seen}
use Rattle.steps.specs.Shows.{st_of, Asked, Reads, node, NodeWritten}
use Rattle.steps.proofs.Records.{yes, no, fore, adv}
use Rattle.steps.proofs.Moves.{stays}
use Rattle.steps.proofs.Answers.{say, raise_same}
use Rattle.leaves.specs.Leaves.{there, Counted}
use Rattle.leaves.proofs.Errors.{raise_reads}
use Rattle.leaves.proofs.Atoms.{leaf_reads, Ended, Alive}
use Rattle.expression_laws.specs.Post.{as_answer, LoopOn}
use Rattle.expression_laws.proofs.Loops.{loop_refused, loop_next}
use Rattle.items.specs.Rules.{items_on}
use Rattle.items.specs.Items.{ReadsModule}
use Rattle.fallible.specs.declared.error.Error.{Error}
use Rattle.node.specs.Put.{placed}

-- ---- `top_level_item`

-- the item that a token of the kind k begins
abbrev pub item_of : ℕ → Act (Ans Node)
item_of k =
    when◌then◌else◌ (eqb k 4 || eqb k 19) P.parse_function_definition
    (when◌then◌else◌ (eqb k 15 || eqb k 20 || eqb k 21) P.parse_type_alias
    (when◌then◌else◌ (eqb k 18) P.parse_use
    (when◌then◌else◌ (eqb k 5) P.parse_top_level_var_declaration
    (when◌then◌else◌ (eqb k 54) (next λ t. P.good (P.node [] 0x54 t.place [] t.text) [])
    (next λ t. P.raise (P.error 1 t.place 0 t.kind))))))

item_step : (d : ℕ) (S : St) {k : ℕ} → (next_token S.tokens).kind ≡ k → go d P.parse_top_level_item S ≡ go d (item_of k) S
unfolding go run P.parse_top_level_item
item_step d S h = ap (λ (k : ℕ). go d (item_of k) S) h

module _ {w x : List ℕ} {n d : ℕ} {o : List ℕ} {r f : List Error} {s : State} {t : Token} (u : Seen w x n s.at t) where
  -- the item that a kind begins is what the act m reads
  pub item_reads : {k : ℕ} {m : Act (Ans Node)} {o1 : List ℕ} {r1 f1 : List Error} {y : Answer} → kind_number t.kind ≡ k
      → ((S : St) → go d (item_of k) S ≡ go d m S) → Reads node w x n d m o r f s o1 r1 f1 y
      → Reads node w x n d P.parse_top_level_item o r f s o1 r1 f1 y
  item_reads h e B =
      record { moved = B.moved; on = B.on; is = λ rd. say (item_step d _ (u.kind x ∙ h) ∙ e _) (B.is rd) }

  pub item_assembly : {o1 : List ℕ} {y : Answer} → Asked w n o r f s → kind_number t.kind ≡ 54
      → NodeWritten o (there s t) (placed t.place Tag.TopLevelAssembly None t.text.now) o1 y
      → Reads node w x n d P.parse_top_level_item o r f s o1 r f y
  unfolding go run
  item_assembly q h F =
      leaf_reads q.asks u [] (next_token (rest w x n s.at)).text F (omega arith) (rw (u.place, u.text)) d
      (λ rd. item_step d _ (u.kind x ∙ h))

  pub item_other : {e : Error} {r1 f1 : List Error} {y : Answer} → Asked w n o r f s
      → (kind_number t.kind ≡ 4 → ⊥) → (kind_number t.kind ≡ 19 → ⊥)
      → (kind_number t.kind ≡ 15 → ⊥) → (kind_number t.kind ≡ 20 → ⊥) → (kind_number t.kind ≡ 21 → ⊥)
      → (kind_number t.kind ≡ 18 → ⊥) → (kind_number t.kind ≡ 5 → ⊥) → (kind_number t.kind ≡ 54 → ⊥)
      → err_of e ≡ error_at 1 t.place 0 (kind_number t.kind)
      → Raised (raised n (fore s t)) r f (fore s t) e r1 f1 y
      → Reads node w x n d P.parse_top_level_item o r f s o r1 f1 y
  unfolding go run P.parse_top_level_item
  item_other q m4 m19 m15 m20 m21 m18 m5 m54 i g =
      raise_reads q.asks u plain g d
      (λ rd. rw
      (run, no u m4, no u m19, no u m15, no u m20, no u m21, no u m18, no u m5, no u m54)
      (raise_same d (rw (u.place, u.kind) (sym i)) (adv s u (λ _. plain) f rd _)))

-- ---- the loop of `module`

module _ {w x : List ℕ} {n d count : ℕ} {o : List ℕ} {r f : List Error} {s : State} {t : Token}
    (q : Asked w n o r f s × (count ≤ s.at)) (v : Seen w x n s.at t) where
  pub module_end : kind_number t.kind ≡ 0 → LoopOn items_on w x n d count o r f s o r f (record { status = Done; state = s; place = nowhere; count = count })
  unfolding go run P.module_turn
  module_end z = record {
    moved = stays q.0.asks;
    never = λ y. cc;
    is = λ rd T E l et ee ec.
        let step : go d (items_on l) (st_of w x n f rd s) ≡ gives l (st_of w x n f rd s) = go_loop d (Module l)
        (st_of w x n f rd s) ∙ rw (run, yes v z) in
        record {
          told = record {
            item = l;
            errors = l.errors;
            read = rd;
            is = go_bind d (items_on l) as_answer _
                ∙ ap (λ (z : Res Items). after z (λ i S. go d (as_answer i) S)) step;
            tree = et;
            reported = ee;
            holds = ec;
          };
        };
  }

  module _ {o1 : List ℕ} {r1 f1 : List Error} {b : Answer} (m0 : kind_number t.kind ≡ 0 → ⊥) (u : Reads node w x n d P.parse_top_level_item o r f s o1 r1 f1 b) where
    -- a turn that parses an item
    item_turn : (rd : List Consumed) (l : Items)
        → go d (items_on l) (st_of w x n f rd s)
        ≡ go d (P.parse_top_level_item >>= λ a. items_on (P.integrate l a)) (st_of w x n f rd s)
    unfolding go run P.module_turn ◌>>=◌
    item_turn rd l = go_loop d (Module l) (st_of w x n f rd s) ∙ rw (run, no v m0)

    pub module_refused : Ended b → LoopOn items_on w x n d count o r f s o1 r1 f1 b
    module_refused h = loop_refused items_on items_on P.parse_top_level_item item_turn u h

    pub module_next : {k : ℕ} {o3 : List ℕ} {r3 f3 : List Error} {y : Answer} → Alive b → Counted b.status count k
        → LoopOn items_on w x n d k o1 r1 f1 b.state o3 r3 f3 y → LoopOn items_on w x n d count o r f s o3 r3 f3 y
    module_next h c l = loop_next items_on P.parse_top_level_item item_turn u h c l

-- ---- `module`

pub module_reads : {w x : List ℕ} {n d : ℕ} {o : List ℕ} {r f : List Error} {k : ℕ} {o1 : List ℕ} {r1 f1 : List Error} {a : Answer}
    → LoopOn items_on w x n d 0 o r f (record { at = 0; pos = 0; reported = 0; full = k }) o1 r1 f1 a
    → ReadsModule w x n d (errs f k) o1 r1 f1 a
unfolding errs recs_bytes
module_reads L =
    record {
      room = omega arith;
      reported = omega arith;
      few = L.moved.few;
      never = L.never;
      is = L.is [] [] [] (P.no_items []) refl refl refl;
    }
