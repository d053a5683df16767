-- The words of the clients before k are added up.
use Rattle.std.proofs.Common.{◌+◌, ◌*◌, get_or}
use Rattle.clients.proofs.StartLots.{Adding}
use Rattle.clients.proofs.starts.sum.Given as goal

abbrev pub invariant-loop-k : goal.invariant-loop-k
invariant-loop-k l = Adding (λ k. get_or l.starts (8 * k + l.first) 0) l.clients l.k l.lots
