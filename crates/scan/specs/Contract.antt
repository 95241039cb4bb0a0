-- The records of Scan, stated over the parameters of the functions: first what is specific to a function, then its
-- parameters in order. Assumes nothing.
use Rattle.std.specs.Prelude.{Bool, Result, List, ◌∷◌, ℕ}
use Rattle.definition.specs.Slices.{Slice, MutSlice, Lent, MutLent, at_entry, old, new}
use Rattle.definition.specs.Source.{Ch}
use Rattle.definition.specs.Tokenizer.{Span, Run, Quoted}
use Rattle.definition.specs.declared.refusal.Refusal.{Refusal}
use Rattle.slices.specs.Written.{Wrote}
use Rattle.source.specs.Place.{rest, char}
use Rattle.source.specs.declared.Cursor.{Cursor}
use Rattle.scan.specs.declared.Scan.{Scan}
use Rattle.scan.specs.declared.Body.{Body}
use Rattle.scan.specs.Scan as S

-- ---- required

abbrev pub Passes : Slice → Cursor → Type 0
Passes s c = S.Passes s.now c

abbrev pub Asks : Slice → Cursor → MutSlice → ℕ → Type 0
Asks s c text n = S.Asks s.now c text.now n

-- ---- ensured

-- f is the function of the definition, on the characters from c on
abbrev pub Passed : (List Ch → List Ch) → Lent → Cursor → Cursor → Type 0
Passed f s c r = S.Passed (at_entry s) c (f (rest (at_entry s) c)) r

abbrev pub Skips : Lent → Cursor → Cursor → Type 0
Skips s c r = S.Skips (at_entry s) c r

-- f is refused at a foreign character
abbrev pub SkippedAs : (List Ch → Run) → Lent → Cursor → Cursor → Type 0
SkippedAs f s c r = S.SkippedAs (at_entry s) c (f (rest (at_entry s) c)) r

abbrev pub Known : {A : Type 0} → Lent → Cursor → Result A Refusal → Type 0
Known s c r = S.Known (rest (at_entry s) c) r

-- the character at c is written
abbrev pub CharPut : Lent → Cursor → MutLent → ℕ → ℕ → Type 0
CharPut s c text n r = Wrote (old text) n ((char (at_entry s) c).byte ∷ (char (at_entry s) c).more) (new text) r

abbrev pub Spanned : (List Ch → Span) → Lent → Cursor → MutLent → ℕ → Scan → Type 0
Spanned f s c text n r = S.Spanned (at_entry s) c (old text) n (f (rest (at_entry s) c)) (new text) r

-- g says whether the scan was closed
abbrev pub EndsAs : (List Ch → Bool) → (List Ch → Span) → Lent → Cursor → MutLent → ℕ → Result Scan Scan → Type 0
EndsAs g f s c text n r = S.EndsAs (at_entry s) c (old text) n (g (rest (at_entry s) c)) (f (rest (at_entry s) c)) (new text) r

abbrev pub Stopped : (List Ch → Run) → Lent → Cursor → MutLent → ℕ → Scan → Type 0
Stopped f s c text n r = S.Stopped (at_entry s) c (old text) n (f (rest (at_entry s) c)) (new text) r

abbrev pub QuotedAs : (List Ch → Quoted) → Lent → Cursor → MutLent → ℕ → Body → Type 0
QuotedAs f s c text n r = S.QuotedAs (at_entry s) c (old text) n (f (rest (at_entry s) c)) (new text) r
