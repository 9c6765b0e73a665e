-- Serving a rank by shifts, case by case.
use Prim.Native.Nat.{ℕ, ◌-◌, ◌*◌, ◌%◌, ◌^◌}
use mathlib.Core.Path.{◌≡◌, refl, sym, ◌∙◌}
use mathlib.Core.List.{List}
use borrow.Author.Tests.{eq-eqb, ne_eqb}
use lib.ListN.{get_or, set}
use lib.Seq.{get_or-set_same}
use Rattle.queue.specs.Mask.Laws.{shifted}
use Rattle.laws_edf.specs.Orders.{job_at}
use Rattle.queue.specs.Serving.{CanServe, served_bits, Serves}

-- serving a rank, with and without its last unit
module _ (k bits : ℕ) (ranks left : List ℕ) (c : CanServe k bits ranks left) where
  pub serves_last : get_or (set left (job_at ranks k) (get_or left (job_at ranks k) 0 - 1)) (job_at ranks k) 0 ≡ 0 →
      Serves k bits ranks left (job_at ranks k) (bits - 1 * 2 ^ k % 2 ^ 64) (set left (job_at ranks k) (get_or left (job_at ranks k) 0 - 1))
  unfolding served_bits
  serves_last z =
      let u = eq-eqb (get_or left (job_at ranks k) 0 - 1) 0 (sym (get_or-set_same left (job_at ranks k) _ 0 c.job) ∙ z) in
      record { byte_is = refl; bits_are = rw (u, shifted k c.rank, served_bits); left_is = refl }

  pub serves_more : (get_or (set left (job_at ranks k) (get_or left (job_at ranks k) 0 - 1)) (job_at ranks k) 0 ≡ 0 → ⊥) →
      Serves k bits ranks left (job_at ranks k) bits (set left (job_at ranks k) (get_or left (job_at ranks k) 0 - 1))
  unfolding served_bits
  serves_more z =
      let u = ne_eqb (get_or left (job_at ranks k) 0 - 1) 0 (λ e. z (get_or-set_same left (job_at ranks k) _ 0 c.job ∙ e)) in
      record { byte_is = refl; bits_are = rw (u, served_bits); left_is = refl }
