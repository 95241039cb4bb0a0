use Rattle.parser.proofs.Readings.{read_short, read_bad, read_good, read_none, good, bounded, records_part, records_length}
use mathlib.Core.Path.{sym, ◌∙◌}
use native.Mathlib.Omega.{arith}
use Rattle.parser.proofs.read.Goals as goal

pub returns-then-file-lt-FILE_BYTES : goal.returns-then-file-lt-FILE_BYTES
returns-then-file-lt-FILE_BYTES c = read_short _ _ _ _ _ _ c.if-file-lt-FILE_BYTES.true

pub returns-then-not-valid_records : goal.returns-then-not-valid_records
returns-then-not-valid_records c =
    read_bad _ _ _ _ _ _ (omega (arith, c.if-file-lt-FILE_BYTES.false))
    (sym c.valid_records.ensures ∙ c.if-not-valid_records.true)

pub returns-then-count-eq0 : goal.returns-then-count-eq0
returns-then-count-eq0 c =
    read_none _ _ _ _ _ _ (omega (arith, c.if-file-lt-FILE_BYTES.false))
    (sym c.valid_records.ensures ∙ c.if-not-valid_records.false) c.if-count-eq0.true

pub invariant_of-tokens-clause-held : goal.invariant_of-tokens-clause-held
invariant_of-tokens-clause-held c = (good _ _ _ _ _ c.args.file.now (sym c.valid_records.ensures ∙ c.if-not-valid_records.false)).held

pub invariant_of-tokens-clause-parts : goal.invariant_of-tokens-clause-parts
invariant_of-tokens-clause-parts c = (good _ _ _ _ _ c.args.file.now (sym c.valid_records.ensures ∙ c.if-not-valid_records.false)).parts

pub slice_bounds-read_tokens-end : goal.slice_bounds-read_tokens-end
slice_bounds-read_tokens-end c =
    let g = good _ _ _ _ _ c.args.file.now (sym c.valid_records.ensures ∙ c.if-not-valid_records.false) in
    sym (records_length _ _ c.as_chunks.ensures.front g.words)

pub read_tokens-requires : goal.read_tokens-requires
read_tokens-requires c =
    let v = sym c.valid_records.ensures ∙ c.if-not-valid_records.false in (
      omega (arith, c.if-file-lt-FILE_BYTES.false),
      (
        omega (arith, c.if-count-eq0.false),
        bounded _ _ _ _ _ c.args.file.now v
            (records_length _ _ c.as_chunks.ensures.front (good _ _ _ _ _ c.args.file.now v).words),
      ),
    )

pub returns : goal.returns
returns c =
    let v = sym c.valid_records.ensures ∙ c.if-not-valid_records.false in
    let g = good _ _ _ _ _ c.args.file.now v in
    read_good _ _ _ _ _ _ (omega (arith, c.if-file-lt-FILE_BYTES.false)) v _ _
    (rw (records_part _ _ c.as_chunks.ensures.front g.words) at c.read_tokens.ensures)
