-- `step3_extend::grow_by_rank` meets its contract: the books by job, by rank.
use Rattle.std.proofs.Common.{refl, rules}
use Rattle.step3_extend.proofs.Gathering.{gathered}
use Rattle.step3_extend.proofs.Growing.{extended_along}
use Rattle.step3_extend.proofs.grow_by_rank.Goals as goal

pub grow-requires : goal.grow-requires
grow-requires c =
    let pre = c.requires in (
      pre.0,
      gathered refl c.ranked-releases.ensures c.ranked-deadlines.ensures c.ranked.ensures c.ranked-2.ensures c.reaches-reach.ensures pre.1,
    )

pub returns : goal.returns
returns c =
    λ J b.
    let grown = c.grow.ensures.extended J
    (gathered refl c.ranked-releases.ensures c.ranked-deadlines.ensures c.ranked.ensures c.ranked-2.ensures c.reaches-reach.ensures b) in
    extended_along grown (search rules)
