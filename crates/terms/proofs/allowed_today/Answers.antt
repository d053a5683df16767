-- Terms within their ranges have a tick. Assumes nothing.
use Rattle.theory.proofs.Terms.{terms}
use Rattle.terms.proofs.allowed_today.Goals as goal

pub on_tick-requires : goal.on_tick-requires
on_tick-requires c = (terms c.args.c c.requires).tick_low
