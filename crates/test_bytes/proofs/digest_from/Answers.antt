-- `test_bytes::digest_from` meets its contract: the fold takes one byte a step, as the definition does.
use Rattle.std.proofs.Common.{rules, ◌≡◌, ℕ, ◌+◌, ◌*◌, ◌%◌, List, [], ◌∷◌, refl, ◌∙◌}
use Rattle.std.specs.List.{fold}
use Rattle.test_bytes.specs.Bytes.{digest_from}
use Rattle.test_bytes.proofs.digest_from.Goals as goal

abbrev mixed : ℕ → ℕ → ℕ
mixed sum byte = (sum % 1000003 * 257 + byte % 1000003 + 1) % 1000003

digest-folded : (sum : ℕ) (bytes : List ℕ) → fold mixed sum bytes ≡ digest_from sum bytes
unfolding digest_from
digest-folded sum [] = refl
digest-folded sum (byte ∷ bytes) = digest-folded (mixed sum byte) bytes

pub returns : goal.returns
returns c =
    let folded : c.fold.result ≡ fold mixed c.args.sum c.args.out.now = search rules in
    folded ∙ digest-folded c.args.sum c.args.out.now
