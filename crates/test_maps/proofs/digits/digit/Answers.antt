-- `digits::digit` meets its contract: what is left is the number without its lowest digits.
use Rattle.std.proofs.Common.{◌≡◌, ℕ, ◌+◌, ◌/◌, ◌^◌, sym, ap, ◌∙◌, add-one}
use native.Mathlib.Nat.{pow-suc, div-div-eq-div-mul}
use Rattle.test_maps.proofs.digits.digit.Goals as goal

-- one digit more is left out
next : (code base left i : ℕ) → left ≡ code / base ^ i → left / base ≡ code / base ^ (i + 1)
next code base left i e =
    ap (λ (x : ℕ). x / base) e ∙ div-div-eq-div-mul code (base ^ i) base ∙ ap (λ (x : ℕ). code / x) (sym (pow-suc base i)) ∙ rw add-one

pub loop-preserved : goal.loop-preserved
loop-preserved c = next c.args.code c.args.base c.loop.left c.loop.counter c.loop.invariant
