-- `look` meets its contract: what expires leaves the mask, then what is released joins it.
use native.Mathlib.Omega.{arith}
use Rattle.queue.proofs.Looking.{look_arrivable, look_done}
use Rattle.queue.proofs.look.Goals as goal

pub arrive-coming-requires : goal.arrive-coming-requires
arrive-coming-requires c = look_arrivable c.requires c.expire-gone.ensures _ c.drop_below-kept.ensures

pub returns : goal.returns
returns c =
    look_done c.expire-gone.ensures _ _ _ _ _ c.arrive-coming.ensures c.release_at-release.ensures c.deadline_at-deadline.ensures
    (omega (arith, c.min.ensures)) (omega (arith, c.min.ensures)) (λ l m. omega (arith, c.min.ensures))
