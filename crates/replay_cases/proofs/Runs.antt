-- Elements that equal those of a run, which all equal one value.
use Rattle.std.proofs.Common.{◌≡◌, ℕ, Bool, true, false, ◌&&◌, List, [], ◌∷◌, ◌↔◌, rules, take, drop, subst, sym, refl}
use Rattle.std.specs.List.{All}
use Rattle.std.specs.Cmp.{IsPartialEquivalence}
use Rattle.std.specs.Cmp.Lexicographic.{pointwise}
use Rattle.std.proofs.lemmas.List.Elements.{All-nil, All-cons, All-head, All-tail, All-append, All-drop}
use lib.ListN.{take-append-drop}

both : (a b : Bool) → (a && b) ≡ true → (a ≡ true) × (b ≡ true)
both true b h = (refl, h)
both false b h = search (h, rules)

module _ {X : Type 0} (E : X → X → Bool) (v : X) where
  abbrev pub Is : X → Type 0
  Is x = E x v ≡ true

  -- all elements equal the value just where those of the rest do, if those of the first part do
  pub after_part : (n : ℕ) (xs : List X) {part rest : List X} → part ≡ take n xs → rest ≡ drop n xs → All Is part → All Is xs ↔ All Is rest
  after_part n xs p q all = (
    λ h. subst (All Is) (sym q) (All-drop Is n xs h),
    λ h. subst (All Is) (take-append-drop n xs)
        (All-append Is (take n xs) (drop n xs) (subst (All Is) p all) (subst (All Is) q h)),
  )

  as_run : IsPartialEquivalence E → (xs run : List X) → pointwise E xs run ≡ true → All Is run → All Is xs
  as_run laws [] run h all = All-nil Is
  as_run laws (x ∷ xs) [] h all = search (h, rules)
  as_run laws (x ∷ xs) (r ∷ rs) h all =
      let hs = both (E x r) (pointwise E xs rs) h in
      All-cons Is x xs (laws.trans x r v hs.0 (All-head Is r rs all)) (as_run laws xs rs hs.1 (All-tail Is r rs all))

  -- the same where the first part equals a run
  pub after_run : IsPartialEquivalence E → (n : ℕ) (xs run : List X) {rest : List X} → pointwise E (take n xs) run ≡ true → rest ≡ drop n xs
      → All Is run → All Is xs ↔ All Is rest
  after_run laws n xs run h q all = after_part n xs refl q (as_run laws (take n xs) run h all)
