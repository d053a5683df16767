-- `step::step` meets its contract: the update written, an arm each, or what is left carried out. Assumes nothing.
use Rattle.std.proofs.Common.{refl, rules, ◌∙◌}
use Rattle.commands.specs.Accounts.{account_number}
use Rattle.exchange.proofs.Decided.{place_fits, nothing_responded, balance_responded, listing_answered}
use Rattle.exchange.proofs.Decided.{listing_joined, pending_answered, pending_joined, joined_responded}
use Rattle.exchange.proofs.step.step.Goals as goal
use Rattle.exchange.proofs.step.step.Goals.{in-Nothing, in-Balance, in-Listing, in-Left}

pub bounds-next-a : goal.bounds-next-a
bounds-next-a c = place_fits c.requires (account_number c.args.command) c.account_place-a.ensures

pub returns-in-Err : goal.returns-in-Err
returns-in-Err c = nothing_responded c.in-Err.ensures refl (rw c.number.ensures at c.refused.ensures) c.plain.ensures

pub returns : goal.returns
returns c =
    elim c.match-decision.branch [
      | in-Nothing w ↦
          rw (w.buys-is, w.sells-is, w.trades-is)
          (nothing_responded c.in-Ok.ensures w.in-Nothing.is (rw (w.answer-is, w.next-is)) c.plain-2.ensures)
      | in-Balance w ↦
          rw (w.buys-is, w.sells-is, w.trades-is)
          (balance_responded c.in-Ok.ensures w.in-Balance.is (search rules) (rw (w.answer-is, w.next-is)) c.plain-2.ensures)
      | in-Listing w ↦
          joined_responded (listing_joined c.in-Ok.ensures w.in-Listing.is refl refl w.buys-is w.sells-is w.trades-is)
          (w.answer-is ∙ listing_answered c.in-Ok.ensures w.in-Listing.is) (rw (w.next-is, w.write_listed.ensures)) c.plain-2.ensures
      | in-Left w ↦
          joined_responded (pending_joined c.in-Ok.ensures w.in-Left.is w.carry_out-t.ensures refl refl w.buys-is w.sells-is w.trades-is)
          (w.answer-is ∙ pending_answered c.in-Ok.ensures w.in-Left.is w.carry_out-t.ensures) (rw (w.next-is, w.write_listed-in-Left.ensures)) c.plain-2.ensures
    ]
