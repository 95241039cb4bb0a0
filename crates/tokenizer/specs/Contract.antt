-- The records of Run, stated over the parameters of the functions. Assumes nothing.
use Rattle.std.specs.Prelude.{◌≡◌, Result, ℕ, ◌*◌, ◌<◌, ◌≤◌, length, get_or}
use Rattle.definition.specs.Slices.{Slice, MutSlice, Lent, MutLent, at_entry, old, new}
use Rattle.definition.specs.declared.refusal.Refusal.{Refusal}
use Rattle.source.specs.Place.{Stands, rest, origin}
use Rattle.token_records.specs.declared.State.{State}
use Rattle.turns.specs.Turn.{Ready}
use Rattle.tokenizer.specs.Run as R

-- what a turn requires: at the cursor is a character, and no newline
abbrev pub TurnAsks : ℕ → Slice → State → MutSlice → MutSlice → MutSlice → Type 0
TurnAsks most s st tokens errors text =
    Ready most s.now tokens.now text.now st st.cursor × (st.cursor.at < length s.now)
    × (get_or s.now st.cursor.at 0 ≡ 10 → ⊥) × (1024 ≤ length errors.now)

abbrev pub Taken : ℕ → Lent → State → MutLent → MutLent → MutLent → Result State Refusal → Type 0
Taken most s st tokens errors text r =
    R.Taken most (R.turn_of (rest (at_entry s) st.cursor)) (at_entry s) st
    (old tokens) (old errors) (old text) r (new tokens) (new errors) (new text)

-- what the loop requires, at the start of the script
abbrev pub RunAsks : ℕ → Slice → MutSlice → MutSlice → MutSlice → Type 0
RunAsks most s tokens errors text =
    Stands s.now origin × (length s.now ≤ 16384)
    × (8 * most ≤ length tokens.now) × (1024 ≤ length errors.now) × (16384 ≤ length text.now)

abbrev pub Ran : ℕ → Lent → MutLent → MutLent → MutLent → Result State Refusal → Type 0
Ran most s tokens errors text r =
    R.Ran most (rest (at_entry s) origin) (new tokens) (new errors) (new text) r
