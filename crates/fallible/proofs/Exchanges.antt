-- The laws of `exchange`. Assumes nothing.
use mathlib.Core.Path.{◌≡◌, sym, ap, ◌∙◌}
use mathlib.Core.List.{List, ◌++◌, map, map-append, append_assoc, append_cancel_left}
use Prim.Native.Nat.{ℕ, ◌+◌, ◌-◌, ◌≤◌}
use native.Mathlib.Omega.{arith}
use lib.ListN.{length-append, length, take, drop, length-drop, take-append-drop}
use borrow.Rule.Slice.PartMut.{put_mid, post_of, same_len_mid}
use borrow.Rule.Slice.PartMut.{put_mid, post_of, same_len_mid}
use lib.Seq.{take_at, take_at, take-add, take-take, drop-drop, drop_at, length-take-le}
use Rattle.definition.specs.Fallible.{Err}
use Rattle.fallible.specs.Lists.{err_of, errs}
use Rattle.fallible.specs.Orders.{Exchanged}
use Rattle.fallible.specs.declared.error.Error.{Error}

-- ---- exchange

-- entries of a part of a part
pub part_is : (l : List Error) (j n k : ℕ) → j + n ≡ k → k ≤ length l → take n (drop j l) ≡ drop j (take k l)
part_is l j n k e h =
    sym (ap (λ (x : ℕ). drop j (take x l)) (sym e) ∙ ap (λ (x : List Error). drop j x) (take-add j n l)
    ∙ drop_at (take j l) (take n (drop j l)) j (length-take-le j l (omega arith)))

-- the two parts of what stands from j to m are exchanged
pub exchanged : (r y : List Error) {j k m : ℕ} → j ≤ k → k ≤ m → m ≤ length r
    → y ≡ drop (k - j) (take (m - j) (drop j r)) ++ take (k - j) (take (m - j) (drop j r)) → length y ≡ m - j
    → Exchanged r j k m (put_mid j (m - j) r y)
exchanged r y {j} {k} {m} jk km mr e l =
    let mid : take (m - j) (drop j r) ≡ drop j (take m r) = part_is r j (m - j) m (omega arith) mr in
    let back : drop (k - j) (take (m - j) (drop j r)) ≡ drop k (take m r) =
    ap (λ (x : List Error). drop (k - j) x) mid ∙ drop-drop (k - j) j (take m r) ∙ ap (λ (n : ℕ). drop n (take m r)) (omega arith) in
    let front : take (k - j) (take (m - j) (drop j r)) ≡ drop j (take k r) =
    take-take (k - j) (m - j) (drop j r) (omega arith) ∙ part_is r j (k - j) k (omega arith) (omega arith) in
    let before : length (take j r ++ y) ≡ m = simp length-append (omega (arith, length-take-le j r (omega arith))) in
    record {
      same = same_len_mid j (m - j) r y (l ∙ sym (length-take-le (m - j) (drop j r) (simp length-drop (omega arith))));
      is = ap (λ (x : List Error). take m x) (sym (append_assoc (take j r) y (post_of j (m - j) r)))
          ∙ take_at (take j r ++ y) (post_of j (m - j) r) m before ∙ rw (e, back, front);
    }

-- the errors from n on are those after the first n
errs_after : (r : List Error) (n m : ℕ) (E fs : List Err) → n ≤ m → errs r n ≡ E → errs r m ≡ E ++ fs → map (λ e. err_of e) (drop n (take m r)) ≡ fs
unfolding errs
errs_after r n m E fs h p q =
    append_cancel_left E (map (λ e. err_of e) (drop n (take m r))) fs
    (ap (λ (x : List Err). x ++ map (λ e. err_of e) (drop n (take m r))) (sym p ∙ ap (λ (x : List Error). map (λ e. err_of e) x) (sym (take-take n m r h)))
    ∙ sym (map-append (λ e. err_of e) (take n (take m r)) (drop n (take m r)))
    ∙ ap (λ (x : List Error). map (λ e. err_of e) x) (take-append-drop n (take m r)) ∙ q)

-- after the exchange, the errors fs, which were reported last, come before the errors es
pub exchange_errs : {r r' : List Error} {j k m : ℕ} → Exchanged r j k m r' → j ≤ k → k ≤ m → (E es fs : List Err)
    → errs r j ≡ E → errs r k ≡ E ++ es → errs r m ≡ (E ++ es) ++ fs → errs r' m ≡ E ++ (fs ++ es)
unfolding errs
exchange_errs {r} {r'} {j} {k} {m} x jk km E es fs p q s =
    ap (λ (z : List Error). map (λ e. err_of e) z) x.is
    ∙ map-append (λ e. err_of e) (take j r) (drop k (take m r) ++ drop j (take k r))
    ∙ ap (λ (z : List Err). map (λ e. err_of e) (take j r) ++ z) (map-append (λ e. err_of e) (drop k (take m r)) (drop j (take k r)))
    ∙ rw (p, errs_after r k m (E ++ es) fs km q s, errs_after r j k E es jk p q)
