-- What an answer says of the number in the definition, which is 0 if there is none. Assumes nothing.
use mathlib.Core.Path.{◌≡◌, ap, refl}
use mathlib.Core.Bool.{true}
use Prim.Native.Nat.{ℕ, zero, suc}
use native.Mathlib.Omega.{arith}
use borrow.Author.Tests.{lt-ltb}
use lib.Dec.{ltb}
use Rattle.std.specs.Prelude.{Option, Some, None, option_map}
use Rattle.definition.specs.Numbers.{kind_number}
use Rattle.definition.specs.declared.kind.Kind.{Kind}
use Rattle.classes.specs.Found.{nonzero}

-- ---- a kind, as its number

pub kind_is : (n : ℕ) {o : Option Kind} {k : Kind} → option_map kind_number o ≡ nonzero n → o ≡ Some k → kind_number k ≡ n
kind_is zero e h = cc (ap (option_map kind_number) h)
kind_is (suc n) e h = cc (ap (option_map kind_number) h)

pub kind_there : (n : ℕ) {o : Option Kind} {k : Kind} → option_map kind_number o ≡ nonzero n → o ≡ Some k → ltb 0 n ≡ true
kind_there zero e h = cc (ap (option_map kind_number) h)
kind_there (suc n) e h = lt-ltb 0 (suc n) (omega arith)

pub no_kind : (n : ℕ) {o : Option Kind} → option_map kind_number o ≡ nonzero n → o ≡ None → n ≡ 0
no_kind zero e h = refl
no_kind (suc n) e h = cc (ap (option_map kind_number) h)

-- ---- a byte

pub no_byte : (n : ℕ) {o : Option ℕ} → o ≡ nonzero n → o ≡ None → n ≡ 0
no_byte zero e h = refl
no_byte (suc n) e h = cc
