-- The laws of a turn, by the class of its character. Assumes nothing.
use mathlib.Core.Path.{◌≡◌, refl, sym, ap, ◌∙◌, subst}
use Rattle.std.specs.Prelude as P
use Rattle.std.specs.Prelude.{Result}
use Rattle.definition.specs.declared.kind.Kind.{Kind}
use Rattle.definition.specs.Numbers.{kind_number}
use Rattle.definition.specs.declared.refusal.Refusal.{Refusal}
use mathlib.Core.Bool.{true, false}
use mathlib.Core.List.{List, [], ◌∷◌}
use Prim.Native.Nat.{ℕ, ◌<◌, ◌≤◌}
use native.Mathlib.Omega.{arith}
use lib.ListN.{length, get_or}
use Rattle.definition.specs.Source.{Ch, code}
use Rattle.definition.specs.Records.{has_text}
use Rattle.definition.specs.Tokenizer.{Turn, goes, refused, Pair, Symbol, Digit}
use Rattle.definition.specs.Tokenizer as Z
use Rattle.definition.proofs.Codes.{coded_digit}
use Rattle.definition.proofs.Formed.{Classed, classed, pair_plain, symbol_plain, plain_textless}
use Rattle.definition.proofs.Formed as Formed
use Rattle.source.specs.declared.Cursor.{Cursor}
use Rattle.definition.specs.Classes.{is_foreign, is_digit}
use Rattle.source.specs.Place.{Stands, Stepped, rest, char, placed}
use Rattle.source.proofs.Laws.{rest_head, coded_here}
use Rattle.classes.proofs.Choices.{foreign_begins}
use Rattle.classes.specs.declared.character.Class.{Class}
use Rattle.classes.specs.Begins.{class_of}
use Rattle.scan.specs.Scan.{Passed}
use Rattle.slices.proofs.Writing.{wrote_none}
use Rattle.token_records.specs.declared.State.{State}
use Rattle.token_records.specs.Push.{ErrorsPushed, TokenPushed}
use Rattle.turns.specs.Turn.{at_cursor, token_record, Ready, bounded, Turned}
use Rattle.tokenizer.specs.Run.{Taken, turn_of}
use Rattle.turns.proofs.Turned.{passed_none, on_text, end_nothing, end_errors, end_plain}

turn_class : (c : Ch) (cs : List Ch) → Z.turn c cs ≡ Z.turn_by (Z.class (code c) (Z.look cs)) c cs
unfolding Z.turn
turn_class c cs = refl

-- the turn at a character of the class x
pub turn_begins : (c : Ch) (cs : List Ch) {x : Z.Class} → x ≡ Z.class (code c) (Z.look cs) → Z.turn c cs ≡ Z.turn_by x c cs
turn_begins c cs e = turn_class c cs ∙ ap (λ (y : Z.Class). Z.turn_by y c cs) (sym e)

-- a foreign character is refused
pub taken_foreign : {most : ℕ} {s T E X : List ℕ} {st : State} {T' E' X' : List ℕ} → Stands s st.cursor → st.cursor.at < length s
    → is_foreign (code (char s st.cursor)) ≡ true
    → Taken most (turn_of (rest s st.cursor)) s st T E X (P.Err Refusal.ForeignCharacter) T' E' X'
taken_foreign {most} {s} {st = st} z i h =
    let e : turn_of (rest s st.cursor) ≡ refused 4 =
    ap turn_of (rest_head z i) ∙ turn_begins (char s st.cursor) _ (foreign_begins _ _ h) in
    record { is = record { is = ap (bounded most st.errors st.tokens) e; refusal = omega arith } }

-- a digit is its byte
digit_class : (n d : ℕ) → Z.Digit ≡ Z.class n d → is_digit n ≡ true
digit_class n d e = go (subst (Classed n d) (sym e) (classed n d))
  where
    go : Classed n d Z.Digit → is_digit n ≡ true
    go (Formed.is_digit h) = h

pub digit_byte : {s : List ℕ} {c : Cursor} (d : ℕ) {n : ℕ} {k : Class} → Stands s c → c.at < length s → n ≡ code (char s c)
    → class_of k ≡ Z.class n d → k ≡ Class.Digit → n ≡ get_or s c.at 0
digit_byte d {n} z h m e f =
    m ∙ coded_digit (coded_here z h) (rw m at (digit_class n d (sym (ap class_of f) ∙ e)))

-- the character with the number n is consumed, the byte after it is d, and their class is x
module _ {s : List ℕ} (st : State) {c : Cursor} {n d : ℕ} {k : Class} (x : Class) (told : k ≡ x)
    (z : Stepped s st.cursor c) (m : n ≡ code (char s st.cursor)) (h : d ≡ Z.look (rest s c))
    (e : class_of k ≡ Z.class n d) {most : ℕ} {T X : List ℕ} (a : Ready most s T X st st.cursor) where
  abbrev begun : Turn
  begun = Z.turn_by (class_of x) (char s st.cursor) (rest s c)

  class_here : class_of x ≡ Z.class (code (char s st.cursor)) (Z.look (rest s c))
  class_here = sym (ap class_of told) ∙ e ∙ ap (Z.class n) h ∙ ap (λ (i : ℕ). Z.class i (Z.look (rest s c))) m

  of_turn : turn_of (rest s st.cursor) ≡ begun
  of_turn = ap turn_of z.chars ∙ turn_begins (char s st.cursor) (rest s c) class_here

  -- a turn of the class is the turn at the cursor
  pub taken : {E : List ℕ} {r : Result State Refusal} {T' E' X' : List ℕ} → Turned most begun s st c T E X r T' E' X'
      → Taken most (turn_of (rest s st.cursor)) s st T E X r T' E' X'
  taken {r = P.Ok r} t = let g = t.is in record {
    is = record {
      went = record {
        es = g.es;
        ts = g.ts;
        is = of_turn ∙ g.is;
        stands = g.stands;
        forward = omega (arith, g.forward, z.wide);
        shorter = omega (arith, g.shorter, ap length z.chars);
        toks = g.toks;
        errs = g.errs;
        text = g.text;
        tokens = g.tokens;
        errors = g.errors;
        room = g.room;
        few = g.few;
      };
      strict = omega (arith, g.forward, z.wide);
      less = omega (arith, g.shorter, ap length z.chars);
    };
  }
  taken {r = P.Err x} t =
      record { is = record { is = ap (bounded most st.errors st.tokens) of_turn ∙ t.is.is; refusal = t.is.refusal } }

  room : st.text ≤ c.at
  room = omega (arith, a.asks.room, z.wide)

  -- the turn pushes nothing, a token without text, or the error 4
  pub taken_nothing : {E : List ℕ} {cs : List Ch} {q : Cursor} → Passed s c cs q
      → begun ≡ Z.nothing cs → Taken most (turn_of (rest s st.cursor)) s st T E X (P.Ok (at_cursor st q)) T E X
  taken_nothing p g = taken (end_nothing a.few (on_text a.few p wrote_none (omega (arith, room, p.forward))) g)

  taken_plain : {E : List ℕ} {cs : List Ch} {q : Cursor} {y : ℕ} {r : Result State Refusal} {T' : List ℕ} → Passed s c cs q
      → begun ≡ Z.token cs y (placed st.cursor) → has_text y ≡ false
      → TokenPushed most T (at_cursor st q) (token_record st.cursor y 0 0 0 false) T' r
      → Taken most (turn_of (rest s st.cursor)) s st T E X r T' E X
  taken_plain p f g w = taken (end_plain a.few room p f g w)

  pub taken_error : {E E' : List ℕ} {r : Result State Refusal} → begun ≡ goes (rest s c) (Z.token_error 4 (placed st.cursor) ∷ []) []
      → ErrorsPushed E (at_cursor st c) (Z.token_error 4 (placed st.cursor) ∷ []) E' r
      → Taken most (turn_of (rest s st.cursor)) s st T E X r T E' X
  taken_error f g = taken (end_errors {es = []} a.few (on_text a.few (passed_none z.stands) wrote_none room) f g)

-- a symbol of two characters, and of one
module _ {s : List ℕ} (st : State) {c : Cursor} {n d : ℕ} {k : Class} (y : Kind) (z : Stepped s st.cursor c)
    (m : n ≡ code (char s st.cursor)) (h : d ≡ Z.look (rest s c)) (e : class_of k ≡ Z.class n d)
    {most : ℕ} {T X E T' : List ℕ} {r : Result State Refusal} (a : Ready most s T X st st.cursor) where
  pub taken_pair : {q : Cursor} → k ≡ Class.Pair y → kind_number y ≡ Z.pair n d → Passed s c (Z.drop_one (rest s c)) q
      → TokenPushed most T (at_cursor st q) (token_record st.cursor (kind_number y) 0 0 0 false) T' r
      → Taken most (turn_of (rest s st.cursor)) s st T E X r T' E X
  taken_pair told f p w =
      let g : kind_number y ≡ Z.pair (code (char s st.cursor)) (Z.look (rest s c)) = rw (sym m, sym h) f in
      taken_plain st (Class.Pair y) told z m h e a p
      (ap (λ (i : ℕ). Z.token (Z.drop_one (rest s c)) i (placed st.cursor)) (sym g))
      (rw f (plain_textless _ (pair_plain n d))) w

  pub taken_symbol : k ≡ Class.Symbol y → kind_number y ≡ Z.symbol n
      → TokenPushed most T (at_cursor st c) (token_record st.cursor (kind_number y) 0 0 0 false) T' r
      → Taken most (turn_of (rest s st.cursor)) s st T E X r T' E X
  taken_symbol told f w =
      let g : kind_number y ≡ Z.symbol (code (char s st.cursor)) = rw (sym m) f in
      taken_plain st (Class.Symbol y) told z m h e a (passed_none z.stands)
      (ap (λ (i : ℕ). Z.token (rest s c) i (placed st.cursor)) (sym g))
      (rw f (plain_textless _ (symbol_plain n))) w
