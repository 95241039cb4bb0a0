-- What the scanning functions ensure, in the terms of the definition. Assumes nothing.
use Rattle.std.specs.Prelude.{◌≡◌, Bool, true, false, Result, MatchResult, ◌<◌, List, [], ◌∷◌, ℕ, ◌≤◌, length, get_or}
use Rattle.definition.specs.Source.{Ch, code}
use Rattle.definition.specs.Classes.{is_foreign, is_white, is_word}
use Rattle.definition.specs.Tokenizer.{Span, ahead, Run, ends, foreign, run_ahead}
use Rattle.definition.specs.declared.refusal.Refusal.{Refusal}
use Rattle.definition.specs.Tokenizer as Z
use Rattle.classes.specs.Bits.{one_byte}
use Rattle.slices.specs.Written.{Wrote}
use Rattle.source.specs.Place.{Stands, rest}
use Rattle.source.specs.declared.Cursor.{Cursor}
use Rattle.scan.specs.declared.Scan.{Scan}
use Rattle.scan.specs.declared.Body.{Body}

pub record Passes (s : List ℕ) (c : Cursor) : Type 0 where
  pub stands : Stands s c
  pub small : length s ≤ 16384

-- the cursor `r` is at the characters cs, and not before `c`
pub record Passed (s : List ℕ) (c : Cursor) (cs : List Ch) (r : Cursor) : Type 0 where
  pub stands : Stands s r
  pub is : rest s r ≡ cs
  pub forward : c.at ≤ r.at
  pub shorter : length (rest s r) ≤ length (rest s c)

-- `r` is the offset of the first newline from `at` on, or of the end
pub record LineEnd (s : List ℕ) (at r : ℕ) : Type 0 where
  pub from : at ≤ r
  pub inside : r ≤ length s
  pub earlier : (i : ℕ) → at ≤ i → i < r → get_or s i 0 ≡ 10 → ⊥
  pub there : (r ≡ length s → ⊥) → get_or s r 0 ≡ 10

-- a scan that writes requires: no more bytes were written than read
pub record Asks (s : List ℕ) (c : Cursor) (x : List ℕ) (n : ℕ) : Type 0 where
  pub stands : Stands s c
  pub small : length s ≤ 16384
  pub room : n ≤ c.at
  pub wide : 16384 ≤ length x

pub record Spanned (s : List ℕ) (c : Cursor) (x : List ℕ) (n : ℕ) (d : Span) (x' : List ℕ) (r : Scan) : Type 0 where
  pub passed : Passed s c d.rest r.cursor
  pub wrote : Wrote x n d.text x' r.n
  pub room : r.n ≤ r.cursor.at

-- it ended after what closes it, or at the end of the script
abbrev pub EndsAs : (s : List ℕ) (c : Cursor) (x : List ℕ) (n : ℕ) → Bool → Span → List ℕ → Result Scan Scan → Type 0
EndsAs s c x n b d x' r = MatchResult r (λ e. (b ≡ true) × Spanned s c x n d x' e) (λ e. (b ≡ false) × Spanned s c x n d x' e)

-- the answers of a test for bytes are those of `holds`
abbrev pub Tells : (ℕ → Bool → Type 0) → (ℕ → Bool) → Type 0
Tells answers holds = (b : ℕ) → (r : Bool) → b < 256 → answers b r → r ≡ holds b

-- the first bytes of the characters for which a test holds, up to another character
unfoldable pub span_while : (ℕ → Bool) → List Ch → Span
span_while holds [] = record { text = []; rest = [] }
span_while holds (c ∷ cs) = elim (holds c.byte) [ true ↦ ahead (c.byte ∷ []) (span_while holds cs) | false ↦ record { text = []; rest = c ∷ cs } ]

-- the characters of a word that have one byte, up to another character
abbrev pub word_bytes : List Ch → Span
word_bytes cs = span_while (one_byte is_word) cs

-- some white space, and the characters left after it
pub data Blanks : List Ch → List Ch → Type 0 where
  none : {cs : List Ch} → Blanks cs cs
  one : {c : Ch} {cs ds : List Ch} → is_white (code c) ≡ true → Blanks cs ds → Blanks (c ∷ cs) ds

-- between two cursors is white space
pub record Skipped (s : List ℕ) (c r : Cursor) : Type 0 where
  pub blanks : Blanks (rest s c) (rest s r)
  pub passed : Passed s c (rest s r) r

-- all that has one byte: no newline is left
pub record Skips (s : List ℕ) (c r : Cursor) : Type 0 where
  pub skipped : Skipped s c r
  pub no_newline : get_or s r.at 0 ≡ 10 → ⊥

-- ---- scans that the definition refuses at a foreign character; the run is the definition's

-- the run of a scan that stops before these characters
unfoldable pub stop_at : List Ch → Run
stop_at [] = ends (record { text = []; rest = [] })
stop_at (c ∷ cs) = elim (is_foreign (code c)) [ true ↦ foreign | false ↦ ends (record { text = []; rest = c ∷ cs }) ]

-- white space up to the cursor r
pub record SkippedAs (s : List ℕ) (c : Cursor) (run : Run) (r : Cursor) : Type 0 where
  pub is : run ≡ stop_at (rest s r)
  pub passed : Passed s c (rest s r) r

-- what was written up to there
pub record Stopped (s : List ℕ) (c : Cursor) (x : List ℕ) (n : ℕ) (run : Run) (x' : List ℕ) (r : Scan) : Type 0 where
  pub text : List ℕ
  pub is : run ≡ run_ahead text (stop_at (rest s r.cursor))
  pub spanned : Spanned s c x n (record { text = text; rest = rest s r.cursor }) x' r

-- the whole of it was written, and no foreign character is there
pub record Ended (s : List ℕ) (c : Cursor) (x : List ℕ) (n : ℕ) (run : Run) (x' : List ℕ) (r : Scan) : Type 0 where
  pub text : List ℕ
  pub is : run ≡ ends (record { text = text; rest = rest s r.cursor })
  pub spanned : Spanned s c x n (record { text = text; rest = rest s r.cursor }) x' r

-- no foreign character is there, or one that is refused
abbrev pub Known : {A : Type 0} → List Ch → Result A Refusal → Type 0
Known cs r =
    MatchResult r (λ u. stop_at cs ≡ ends (record { text = []; rest = cs }))
    (λ x. (stop_at cs ≡ foreign) × (x ≡ Refusal.ForeignCharacter))

-- what was scanned of a string
abbrev pub span_of : Z.Quoted → Span
span_of q = record { text = q.text; rest = q.rest }

pub record QuotedAs (s : List ℕ) (c : Cursor) (x : List ℕ) (n : ℕ) (q : Z.Quoted) (x' : List ℕ) (r : Body) : Type 0 where
  pub end : EndsAs s c x n q.closed (span_of q) x' r.end
  pub unknown : r.unknown ≡ q.unknown
  pub few : MatchResult r.end (λ e. r.unknown ≤ e.cursor.at) (λ e. r.unknown ≤ e.cursor.at)
  pub small : r.unknown ≤ 16384
