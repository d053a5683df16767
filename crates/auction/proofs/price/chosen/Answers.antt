-- The search in the buys' prices, then in the sells'. Assumes nothing.
use Rattle.auction.proofs.Levels.{level_own, searched}
use Rattle.auction.proofs.price.chosen.Goals as goal

pub best_among-buy-requires : goal.best_among-buy-requires
best_among-buy-requires c = (c.requires, level_own _ _ _ c.level_at-first.ensures)

pub best_among-requires : goal.best_among-requires
best_among-requires c = (c.requires, level_own _ _ _ c.best_among-buy.ensures)

pub returns : goal.returns
returns c = searched _ _ _ c.first_price.ensures c.level_at-first.ensures c.best_among-buy.ensures c.best_among.ensures
