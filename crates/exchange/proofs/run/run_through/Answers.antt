-- `run::run_through` meets its contract: what the first k commands leave is the rules' run of them, an arm of the update a turn. Assumes nothing.
use Rattle.std.proofs.Common.{ap, length, refl, rules, ◌∙◌}
use Rattle.rules.specs.Command.{command_of}
use Rattle.commands.specs.Accounts.{account_number}
use Rattle.exchange.proofs.Decided.{place_fits, held_at_lem, nothing_left, balance_left, listing_joined, pending_joined, whole_ready, whole_responded}
use Rattle.exchange.proofs.Runs.{running_none, running_formed, running_on}
use Rattle.exchange.proofs.run.run_through.Goals as goal
use Rattle.exchange.proofs.run.run_through.Goals.{in-Nothing, in-Balance, in-Listing, in-Left, in-Whole}

pub loop-k-init : goal.loop-k-init
loop-k-init c = running_none _ c.requires

pub bounds-current-a : goal.bounds-current-a
bounds-current-a c = place_fits (running_formed c.loop-k.invariant) (account_number c.command_of-command.result) c.account_place-a.ensures

pub decide-requires : goal.decide-requires
decide-requires c = (running_formed c.loop-k.invariant, held_at_lem c.loop-k.current c.command_of-command.result c.account_place-a.ensures)

pub loop-k-preserved-in_default : goal.loop-k-preserved-in_default
loop-k-preserved-in_default c =
    running_on c.loop-k.invariant (c.command_of-command.ensures ∙ ap command_of c.record_at-record.ensures)
    (nothing_left c.in_default.ensures refl) c.decide.auto.buys c.decide.auto.sells refl

pub carry_whole-r-requires : goal.carry_whole-r-requires
carry_whole-r-requires c = whole_ready c.in-Ok.ensures c.in-Whole.is (running_formed c.loop-k.invariant)

pub loop-k-preserved : goal.loop-k-preserved
loop-k-preserved c =
    elim c.match-decision.branch [
      | in-Nothing w ↦
          rw (w.current-is, w.buys-is, w.sells-is, w.trades-is)
          (running_on c.loop-k.invariant (c.command_of-command.ensures ∙ ap command_of c.record_at-record.ensures)
          (nothing_left c.in-Ok.ensures w.in-Nothing.is) c.decide.auto.buys c.decide.auto.sells refl)
      | in-Balance w ↦
          rw (w.current-is, w.buys-is, w.sells-is, w.trades-is)
          (running_on c.loop-k.invariant (c.command_of-command.ensures ∙ ap command_of c.record_at-record.ensures)
          (balance_left c.in-Ok.ensures w.in-Balance.is (search rules)) c.decide.auto.buys c.decide.auto.sells refl)
      | in-Listing w ↦
          rw (w.current-is ∙ w.write_listed.ensures)
          (running_on c.loop-k.invariant (c.command_of-command.ensures ∙ ap command_of c.record_at-record.ensures)
          (listing_joined c.in-Ok.ensures w.in-Listing.is refl refl w.buys-is w.sells-is w.trades-is).left
          (ap length w.buys-is ∙ c.decide.auto.buys) (ap length w.sells-is ∙ c.decide.auto.sells) (ap length w.trades-is))
      | in-Left w ↦
          rw (w.current-is ∙ w.write_listed-in-Left.ensures)
          (running_on c.loop-k.invariant (c.command_of-command.ensures ∙ ap command_of c.record_at-record.ensures)
          (pending_joined c.in-Ok.ensures w.in-Left.is w.carry_out-t.ensures refl refl w.buys-is w.sells-is w.trades-is).left
          (ap length w.buys-is ∙ w.carry_out-t.auto.buys ∙ c.decide.auto.buys) (ap length w.sells-is ∙ w.carry_out-t.auto.sells ∙ c.decide.auto.sells)
          (ap length w.trades-is ∙ w.carry_out-t.auto.trades))
      | in-Whole w ↦
          rw (w.current-is, w.buys-is, w.sells-is, w.trades-is)
          (running_on c.loop-k.invariant (c.command_of-command.ensures ∙ ap command_of c.record_at-record.ensures)
          (whole_responded c.in-Ok.ensures w.in-Whole.is w.carry_whole-r.ensures).memory
          (w.carry_whole-r.auto.buys ∙ c.decide.auto.buys) (w.carry_whole-r.auto.sells ∙ c.decide.auto.sells) w.carry_whole-r.auto.trades)
    ]
