-- What a market lends, as the rules see it. Assumes nothing.
use Rattle.rules.specs.Memory.{Memory, memory}
use Rattle.engine.specs.declared.market.Market.{Market}

abbrev pub memory_of : Market → Memory
memory_of m = memory m.state.now m.buys.now m.sells.now m.trades.now
