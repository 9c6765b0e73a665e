-- 01, "Job list bytes": the one spelling of a list, its header and then its entries.
use Rattle.std.specs.Prelude.{ℕ, List, [], ◌∷◌, ◌++◌}
use Rattle.sched.specs.Jobs.{Jobs}
use Rattle.list_parts.specs.Header.{header}
use Rattle.list_parts.specs.Layout.{entry_bytes}

-- the entries of the jobs, in list order
unfoldable pub entries_bytes : ℕ → List ℕ → List ℕ → List ℕ → List ℕ
entries_bytes h [] ds ps = []
entries_bytes h (r ∷ rs) [] ps = []
entries_bytes h (r ∷ rs) (d ∷ ds) [] = []
entries_bytes h (r ∷ rs) (d ∷ ds) (p ∷ ps) = entry_bytes h r d p ++ entries_bytes h rs ds ps

-- the spelling of a list
unfoldable pub spelling : Jobs → List ℕ
spelling J = header J ++ entries_bytes J.horizon J.releases J.deadlines J.volumes
