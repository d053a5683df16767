use Rattle.laws.specs.Logic.{sym, ◌∙◌}
use Rattle.laws.specs.Numbers.{arith}
use Rattle.theory.proofs.Codecs.{order_at_lem}
use Rattle.book.proofs.ReadOrders.{within}
use Rattle.book.proofs.orders.Queue.order.Goals as goal

pub order_at-requires : goal.order_at-requires
order_at-requires c = omega (arith, within _ _ _ c.self.view_is c.requires)

pub returns : goal.returns
returns c = c.order_at.ensures ∙ sym (order_at_lem _ _ _ _ (within _ _ _ c.self.view_is c.requires)) ∙ rw c.self.view_is
