-- `settling::code` meets its contract, each return by its law. Assumes nothing.
use Rattle.std.proofs.Common.{sym, ◌∙◌}
use Rattle.engine.proofs.Formed.{formed}
use Rattle.exchange.proofs.Responses.{settle_open, settle_many, settle_none}
use Rattle.exchange.proofs.settling.code.Goals as goal

pub all_closed-requires : goal.all_closed-requires
all_closed-requires c = (formed c.args.market.now.formed).contracts_high

pub returns-then-not-all_closed : goal.returns-then-not-all_closed
returns-then-not-all_closed c = sym (settle_open c.args.market.now.formed (sym c.all_closed.ensures ∙ c.if-not-all_closed.true))

pub returns-then-market-ge-MAX_SETTLEMENTS : goal.returns-then-market-ge-MAX_SETTLEMENTS
returns-then-market-ge-MAX_SETTLEMENTS c = sym (settle_many c.args.market.now.formed (sym c.all_closed.ensures ∙ c.if-not-all_closed.false) c.if-market-ge-MAX_SETTLEMENTS.true)

pub returns : goal.returns
returns c = sym (settle_none c.args.market.now.formed (sym c.all_closed.ensures ∙ c.if-not-all_closed.false) c.if-market-ge-MAX_SETTLEMENTS.false)
