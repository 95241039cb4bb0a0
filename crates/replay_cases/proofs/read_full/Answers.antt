use Rattle.std.proofs.Common.{◌≡◌, ℕ, ◌+◌, ◌≤◌, List, ◌++◌, rules, length, take, drop, ap, sym, ◌∙◌, subst, le_refl, drop_at, length-take-le}
use Rattle.std.proofs.lemmas.Slice.{take-put_mid_below}
use Rattle.std.specs.Io.KnownBytes.{Consumes}
use Rattle.std.proofs.KnownBytes.{Consumes-trans}
use borrow.Rule.Slice.PartMut.{put_mid, post_of}
use lib.Seq.{take-add, take-append-le}
use Rattle.replay_cases.proofs.read_full.Goals as goal

-- what stands before a part stays, and the part begins with what a read put there
put_more : (a k n : ℕ) (xs ys : List ℕ) → a ≤ length xs → n ≤ length ys → take a xs ++ take n ys ≡ take (a + n) (put_mid a k xs ys)
put_more a k n xs ys within fits =
    let after = ys ++ post_of a k xs in
    sym (take-add a n (take a xs ++ after)
    ∙ ap (λ l. l ++ take n (drop a (take a xs ++ after))) (take-put_mid_below a k xs ys a (le_refl a) within)
    ∙ ap (λ l. take a xs ++ take n l) (drop_at (take a xs) after a (length-take-le a xs within))
    ∙ ap (λ l. take a xs ++ l) (take-append-le n ys (post_of a k xs) fits))

pub loop-done-preserved : goal.loop-done-preserved
loop-done-preserved g c =
    let invariant = c.loop-done.invariant in (
      search rules,
      subst (Consumes _ _)
          (put_more _ _ c.in-Ok.n c.loop-done.space c.read.new.buf invariant.0 (search rules))
          (Consumes-trans _ _ _ _ _ invariant.1 c.in-Ok.ensures.bytes.0),
    )
