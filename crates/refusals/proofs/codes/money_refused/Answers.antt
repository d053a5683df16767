-- What `codes::money_refused` leaves: the account can be charged with the order's lots, and what is charged is the rules'. Assumes nothing.
use Rattle.std.proofs.Common.{◌∙◌, arith}
use Rattle.rules.specs.Bounds.{balance_most}
use Rattle.laws.proofs.Signed.{back}
use Rattle.refusals.proofs.Affording.{close_free, can_hold, can_charge, balance_fits, money_is}
use Rattle.refusals.proofs.Inserting.{place_fits}
use Rattle.refusals.proofs.codes.money_refused.Goals as goal

pub returns-then-o : goal.returns-then-o
returns-then-o c = close_free c.args.market.now.formed c.args.o c.requires.0 c.if-o.true

pub book_leg-held-requires : goal.book_leg-held-requires
book_leg-held-requires c = (
  place_fits c.args.market.now.formed c.args.o c.requires.0 c.place_of-c.ensures,
  c.requires.1,
  can_hold c.args.market.now.formed c.args.o c.requires.0 c.requires.1 c.place_of-c.ensures c.place_of-a.ensures c.requires.2,
)

pub charged-charged-requires : goal.charged-charged-requires
charged-charged-requires c =
    can_charge c.args.market.now.formed c.args.o c.requires.0 c.requires.1 c.place_of-c.ensures c.place_of-a.ensures c.requires.2 c.book_leg-held.ensures

pub returns : goal.returns
returns c =
    money_is c.args.market.now.formed c.args.o c.requires.0 c.requires.1 c.place_of-c.ensures c.place_of-a.ensures
    c.requires.2 c.book_leg-held.ensures c.charged-charged.ensures c.if-o.false
    (c.too_little.ensures ∙ rw (back balance_most (omega arith) (balance_fits c.args.market.now.formed c.args.o c.requires.0 c.requires.1
    c.place_of-c.ensures c.place_of-a.ensures c.requires.2)))
