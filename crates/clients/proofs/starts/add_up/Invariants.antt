-- The contracts before c add up.
use Rattle.std.proofs.Common.{true, ◌≡◌}
use Rattle.laws.specs.Choice.{all}
use Rattle.clients.proofs.StartLots.{adds_up}
use Rattle.clients.proofs.starts.add_up.Given as goal

abbrev pub invariant-loop-c : goal.invariant-loop-c
invariant-loop-c l = all (adds_up l.starts l.clients l.holdings) l.c ≡ true
