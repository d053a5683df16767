use Rattle.laws.specs.Logic.{sym, ap, ◌∙◌}
use Rattle.laws.specs.Numbers.{arith, get_or}
use Rattle.rules.specs.Exchange.{no_order}
use Rattle.rules.specs.Memory.{word_of}
use Rattle.theory.proofs.Codecs.{order_at_lem}
use Rattle.book.proofs.ReadOrders.{within}
use Rattle.book.proofs.orders.Queue.word.Goals as goal

pub word_at-requires : goal.word_at-requires
word_at-requires c = (omega (arith, within _ _ _ c.self.view_is c.requires.0), c.requires.1)

pub returns : goal.returns
returns c =
    c.word_at.ensures ∙ ap (word_of c.args.word) (sym (order_at_lem _ _ _ _ (within _ _ _ c.self.view_is c.requires.0)))
    ∙ ap (λ (os : _). word_of c.args.word (get_or os c.args.i no_order)) c.self.view_is
