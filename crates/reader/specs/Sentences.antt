-- The sentence at a position of a list, and what the functions of sentence.rt require and ensure. Assumes nothing.
use Rattle.std.specs.Prelude.{◌≡◌, List, [], ℕ, ◌≤◌, length, Option, Some, None, Result, MatchResult}
use Rattle.std.specs.Borrow.{MutBor}
use Rattle.std.proofs.Math.Option as maybe
use Rattle.std.proofs.Math.ListN.{get_elem?}
use Rattle.definition.specs.Slices.{Slice, MutSlice, Lent, at_entry}
use Rattle.definition.specs.Source.{Ch}
use Rattle.definition.specs.Fallible.{Err}
use Rattle.definition.specs.Token.{Tok}
use Rattle.definition.specs.Operations as O
use Rattle.definition.specs.Sentence as S
use Rattle.definition.specs.Numbers.{refusal_number}
use Rattle.definition.specs.declared.refusal.Refusal.{Refusal}
use Rattle.fallible.specs.declared.parser.Parser.{Parser}
use Rattle.steps.specs.Tokens.{rest}
use Rattle.tokenizer.specs.Contract.{RunAsks}
use Rattle.reader.specs.declared.found.ErrorList.{ErrorList}
use Rattle.reader.specs.declared.found.Found.{Found}
use Rattle.parser.specs.Losses.{begun}
use Rattle.reader.specs.Found.{found_of, reported_in, full_in}

-- ---- sentences

-- of an error of the parser, at a position of a list
abbrev pub listed : List Tok → List Err → ℕ → List ℕ
listed ts es i =
    elim (get_elem? es i) [ maybe.none ↦ [] | maybe.some e ↦ S.parser_sentence (S.parser_meaning ts e) ]

-- of a token error
abbrev pub token_said : List Ch → List Err → ℕ → List ℕ
token_said cs es i =
    elim (get_elem? es i) [ maybe.none ↦ [] | maybe.some e ↦ S.token_sentence (S.token_meaning cs e) ]

abbrev pub said_in : S.Found → Option ErrorList → ℕ → List ℕ
said_in f None i = []
said_in f (Some ErrorList.Token) i = token_said f.chars f.token_errors i
said_in f (Some ErrorList.Reported) i = listed f.toks f.reported i
said_in f (Some ErrorList.Full) i = listed f.toks f.full i

-- the operation after its tests
abbrev pub sentence_of : S.Examined → Option ErrorList → ℕ → List ℕ → O.Written
sentence_of (S.found f) l i o = S.said o (said_in f l i)
sentence_of (S.refused n) l i o = O.kept n o

-- ---- over what was found

abbrev pub tokens_in : Found → List Tok
tokens_in x = rest x.tokens.records.now x.tokens.text.now x.tokens.count 0

abbrev pub found_in : Found → S.Found
found_in x = found_of x.script.now (tokens_in x) x.errors.now (reported_in x.parser.now) (full_in x.parser.now)

-- ---- over the parameters of the functions

abbrev pub ExamineAsks : Slice → MutSlice → MutSlice → MutSlice → MutSlice → MutBor Parser → Type 0
ExamineAsks script tokens errors text file parser =
    RunAsks 2048 script tokens errors text × (65536 ≤ length file.now) ×
    (parser.now.state ≡ begun 0)

abbrev pub FoundIn : Lent → Result Found Refusal → Type 0
FoundIn script r =
    MatchResult r (λ f. f.script.now ≡ at_entry script) (λ m. S.examine (at_entry script) ≡ S.refused (refusal_number m))
