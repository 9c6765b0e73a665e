-- What the machine computes of signed numbers: it reads bits by `to_z` and writes them by `of_z`, and both are undone where the number fits.
use Prim.Native.Nat.{ℕ, ◌<◌}
use mathlib.Core.Path.{◌≡◌, sym, ap, ap₂, subst, ◌∙◌}
use mathlib.Core.Bool.{Bool}
use native.Mathlib.Omega.{arith}
use lib.IntN.{ℤ, pos, ◌-ℤ◌}
use lib.Signed.{mag, lt_z}
use mir.Syntax.{w32}
use mir.Val.{SFits, to_z, of_z}
use mir.ValLaws.{to_z-of_z, to_z_pos}
use Rattle.tightest.proofs.Signed.{minus_range}

-- a difference of two naturals
module _ (b c : ℕ) (small : b < 2147483648) (fits : c < 2147483648) where
  plain : to_z w32 b -ℤ to_z w32 c ≡ pos b -ℤ pos c
  plain = ap₂ (λ (x y : ℤ). x -ℤ y) (to_z_pos w32 b small) (to_z_pos w32 c fits)

  pub minus_fits : SFits w32 (to_z w32 b -ℤ to_z w32 c)
  minus_fits = subst (SFits w32) (sym plain) (record { sfits = minus_range b c 2147483648 small (omega arith) })

  pub minus_is : to_z w32 (of_z w32 (to_z w32 b -ℤ to_z w32 c)) ≡ pos b -ℤ pos c
  minus_is = to_z-of_z w32 (to_z w32 b -ℤ to_z w32 c) minus_fits ∙ plain

-- a number that a call gives back
pub result_is : (x z : ℤ) → mag x < 2147483648 → x ≡ z → to_z w32 (of_z w32 x) ≡ z
result_is x z f e = to_z-of_z w32 x (record { sfits = f }) ∙ e

module _ (x y : ℤ) (fx : SFits w32 x) (fy : SFits w32 y) where
  pub test_is : (t : Bool) → lt_z (to_z w32 (of_z w32 x)) (to_z w32 (of_z w32 y)) ≡ t → lt_z x y ≡ t
  test_is t e = sym (ap₂ lt_z (to_z-of_z w32 x fx) (to_z-of_z w32 y fy)) ∙ e

  pub same_is : of_z w32 x ≡ of_z w32 y → x ≡ y
  same_is e = sym (to_z-of_z w32 x fx) ∙ ap (to_z w32) e ∙ to_z-of_z w32 y fy
