-- Which ranks a slot may serve.
use Rattle.std.specs.Prelude.{ℕ, Bool, List, length, get_or}
use Rattle.laws_edf.specs.Run.{Spans, State, servable}
use Rattle.laws_edf.specs.Orders.{job_at}
pub mod Chosen

-- when each job may run, from the lists that are lent
abbrev pub spans_of : List ℕ → List ℕ → Spans
spans_of releases deadlines = record { n = length releases; r = λ j. get_or releases j 0; d = λ j. get_or deadlines j 0 }

-- slot t may serve the job of rank k
abbrev pub serves_rank : Spans → List ℕ → ℕ → State → ℕ → Bool
serves_rank F ranks t L k = servable F t L (job_at ranks k)
