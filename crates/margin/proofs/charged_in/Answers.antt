-- The two sides are those of the rules, and their product with the charge is small. Assumes nothing.
use mir.Facts.{Fits-below}
use Rattle.laws.specs.Logic.{◌≡◌, ◌∙◌}
use Rattle.laws.specs.Numbers.{◌+◌, max}
use Rattle.margin.proofs.Charging.{charged_here_lem, charged_here_small}
use Rattle.margin.proofs.charged_in.Goals as goal

pub overflow_mul-result : goal.overflow_mul-result
overflow_mul-result c =
    let lots : c.max-lots.result ≡ max (c.args.h.long + c.resting-bids.result) (c.args.h.short + c.resting-offers.result) = c.max-lots.ensures ∙ rw (c.from-long.ensures, c.from-short.ensures) in
    Fits-below {n = 200_000_000_000_000} tt (charged_here_small _ _ _ _ _ c.requires _ _ _ _ c.charge.ensures
    c.resting-bids.ensures c.resting-offers.ensures lots)

pub returns : goal.returns
returns c =
    let lots : c.max-lots.result ≡ max (c.args.h.long + c.resting-bids.result) (c.args.h.short + c.resting-offers.result) = c.max-lots.ensures ∙ rw (c.from-long.ensures, c.from-short.ensures) in
    charged_here_lem _ _ _ _ _ c.requires _ _ _ _ c.charge.ensures c.resting-bids.ensures c.resting-offers.ensures lots
