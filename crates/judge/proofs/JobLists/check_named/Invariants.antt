-- `JobLists::check_named` meets its contract: a turn is a clause of `rare_from`.
use Rattle.std.proofs.Common.{◌≡◌, ◌-◌, ℕ, length, get_or}
use Rattle.judge.specs.Faults.{rare_from}
use Rattle.judge.proofs.JobLists.check_named.Given as goal

abbrev pub invariant-loop-j : goal.invariant-loop-j
invariant-loop-j l =
    let left = λ (n j : ℕ). rare_from n j (λ i. get_or l.named i 0) l.self.volumes.now in
    left (length l.self.volumes.now) 0 ≡ left (length l.self.volumes.now - l.j) l.j
