-- The first places are 0.
use Rattle.std.proofs.Common.{rules, ◌≡◌, replicate}
use Rattle.settlement.proofs.Places.{zeros_first}
use Rattle.settlement.proofs.reopen.no_orders.Goals as goal

pub returns : goal.returns
returns c = let zeros : c.fill.new.self ≡ replicate c.args.contracts 0 = search rules in zeros_first _ _ _ zeros
