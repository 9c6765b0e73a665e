-- With both orders at hand, the release of each rank can be read.
use Rattle.std.specs.Prelude.{ℕ, ◌<◌, List, length}
use Rattle.std.proofs.Common.{arith}
use Rattle.laws_edf.specs.Orders.{Orders}
use Rattle.queue.specs.Runs.{Reached}

pub reads :
    {releases deadlines ranks arrivals : List ℕ} → Orders releases deadlines ranks arrivals → (i : ℕ) → i < length releases →
    Reached releases ranks arrivals i
reads o i l =
    let k = o.by_release.known i l in
    record { listed = omega (arith, o.by_release.long); rank = omega (arith, o.by_deadline.long); job = o.by_deadline.known _ k }
