-- What a turn requires and ensures: the records of Turn, stated over its parameters, with slices as they are now, or
-- at entry and at exit. First the turn of the definition, then the parameters in order. Assumes nothing.
use Rattle.std.specs.Prelude.{Bool, List, ◌∷◌, ℕ, ◌-◌, ◌<◌, length, Result}
use Rattle.definition.specs.Slices.{MutSlice, MutLent, old, new}
use Rattle.definition.specs.Source.{Place, Ch}
use Rattle.definition.specs.Tokenizer as Z
use Rattle.definition.specs.declared.refusal.Refusal.{Refusal}
use Rattle.scan.specs.declared.Scan.{Scan}
use Rattle.scan.specs.Scan.{Asks}
use Rattle.source.specs.Place.{Stepped, placed, rest, char}
use Rattle.token_records.specs.declared.State.{State}
use Rattle.token_records.specs.Contract.{TokenPushed}
use Rattle.turns.specs.Turn as T
use Rattle.turns.specs.declared.Turn.{Turn}

abbrev pub Ready : Turn → MutSlice → MutSlice → Type 0
Ready t tokens text = T.Ready t.most t.s.now tokens.now text.now t.st t.c

-- the first character of the turn has been consumed, and there is room for its bytes
abbrev pub Begun : Turn → MutSlice → Type 0
Begun t text = Asks t.s.now t.st.cursor text.now t.st.text × (t.st.cursor.at < length t.s.now) × Stepped t.s.now t.st.cursor t.c

-- its bytes
abbrev pub first : Turn → List ℕ
first t = let c = char t.s.now t.st.cursor in c.byte ∷ c.more

-- a token without text is pushed, at the end of the turn; whether it lost something
abbrev pub Plain : ℕ → Bool → Turn → MutLent → Result State Refusal → Type 0
Plain k lost t tokens r = TokenPushed (T.token_record t.st.cursor k 0 0 0 lost) t.most tokens (T.at_cursor t.st t.c) r

-- a token is pushed whose text was written up to the end of a scan
abbrev pub WithText : ℕ → ℕ → Bool → Turn → Scan → MutLent → Result State Refusal → Type 0
WithText k base lost t end tokens r =
    TokenPushed (T.token_record t.st.cursor k t.st.text (end.n - t.st.text) base lost) t.most tokens (T.at_text t.st end.cursor end.n) r

-- the turn f, given the place of the token and the characters from c on
abbrev pub Turned : (Place → List Ch → Z.Turn) → Turn → MutLent → MutLent → MutLent → Result State Refusal → Type 0
Turned f t tokens errors text r =
    T.Turned t.most (f (placed t.st.cursor) (rest t.s.now t.c)) t.s.now t.st t.c
    (old tokens) (old errors) (old text) r (new tokens) (new errors) (new text)

-- a turn that pushes no errors, for any contents of the error slice
abbrev pub TurnedClean : (Place → List Ch → Z.Turn) → Turn → MutLent → MutLent → Result State Refusal → Type 0
TurnedClean f t tokens text r =
    (E : List ℕ) → T.Turned t.most (f (placed t.st.cursor) (rest t.s.now t.c)) t.s.now t.st t.c
    (old tokens) E (old text) r (new tokens) E (new text)
