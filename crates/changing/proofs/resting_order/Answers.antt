-- Each return by its law in Finding.antt. Assumes nothing.
use Rattle.std.proofs.Common.{None, Some}
use Rattle.rules.specs.Memory.{queue_in}
use Rattle.book.specs.Places.{FoundIs}
use Rattle.changing.proofs.Finding.{among_buys, among_sells, nowhere}
use Rattle.changing.proofs.resting_order.Goals as goal

pub returns-in-Some : goal.returns-in-Some
returns-in-Some c =
    let here : FoundIs c.args.number (queue_in c.args.buys.now c.args.listed.place c.args.listed.bought) (Some c.in-Some.bid) = rw c.new.ensures at c.in-Some.ensures in
    among_buys _ _ _ here

pub returns : goal.returns
returns c =
    let none : FoundIs c.args.number (queue_in c.args.buys.now c.args.listed.place c.args.listed.bought) None = rw c.new.ensures at c.in_default.ensures in
    let here : FoundIs c.args.number (queue_in c.args.sells.now c.args.listed.place c.args.listed.sold) (Some c.in-Some-find.offer) = rw c.new-2.ensures at c.in-Some-find.ensures in
    among_sells _ _ _ none here

pub returns-in_default-find : goal.returns-in_default-find
returns-in_default-find c =
    let bids : FoundIs c.args.number (queue_in c.args.buys.now c.args.listed.place c.args.listed.bought) None = rw c.new.ensures at c.in_default.ensures in
    let offers : FoundIs c.args.number (queue_in c.args.sells.now c.args.listed.place c.args.listed.sold) None = rw c.new-2.ensures at c.in_default-find.ensures in
    nowhere _ _ _ bids offers
