use Rattle.std.proofs.Common.{take}
use Rattle.audit.proofs.MarkedOrders.{Met}
use Rattle.audit.proofs.quotes.queue_quoted.Given as goal

-- the orders before place i may stand, and `seen` tells the accounts that have a marked one
abbrev pub invariant-loop-i : goal.invariant-loop-i
invariant-loop-i l = Met (take l.state.accountcount l.state.accounts) l.queue l.i l.seen
