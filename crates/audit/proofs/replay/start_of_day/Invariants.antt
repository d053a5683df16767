use Rattle.std.proofs.Common.{◌≡◌, ◌++◌, drop, map, take}
use Rattle.rules.specs.Holdings.{start_account}
use Rattle.audit.proofs.replay.start_of_day.Given as goal

abbrev pub invariant-loop-a : goal.invariant-loop-a
invariant-loop-a l = l.a-items ≡ map start_account (take l.a-index l.fn.accounts) ++ drop l.a-index l.fn.accounts
