-- "The sum of client closing and holding profit together equals the account's day profit": for every statement that is not refused.
-- Assumes nothing.
use Rattle.laws.specs.Logic.{Bool, true, false, not, true≢false, ◌∷◌, ◌≡◌, refl}
use Rattle.laws.specs.Numbers.{ℕ, arith, ltb-false, ltb}
use Rattle.laws.specs.Choice.{either_false}
use Rattle.rules.specs.Answers.{◌when◌}
use Rattle.rules.specs.Exchange.{Exchange, place_of}
use Rattle.rules.specs.Memory.{Memory, exchange_of, well_formed_memory}
use Rattle.theory.proofs.InUse.{contracts_in_use}
use Rattle.theory.proofs.Refusals.{Failed, failed}
use Rattle.accounting.proofs.Facts.{facts}
use Rattle.invariants.proofs.MemoryRoom.{memory_ok}
use Rattle.clients.specs.Clients.{Clients, max_clients}
use Rattle.clients.proofs.AddUp.{Granted, clients_add_up}
use Rattle.statements.specs.Statement.{AddsUp, broker_refusals, statement_code}

-- for every statement that is not refused
module _ (m : Memory) (account : ℕ) (b : Clients) (room : ℕ) (e : statement_code m account b room ≡ 0) where
  abbrev day : Exchange
  day = exchange_of m

  tests : Failed ((21 when not (well_formed_memory m)) ∷ broker_refusals day account b room)
  unfolding statement_code broker_refusals
  tests = failed ((21 when not (well_formed_memory m)) ∷ broker_refusals day account b room) (omega arith) e

  yes : (t : Bool) → not t ≡ false → t ≡ true
  yes true h = refl
  yes false h = absurd (true≢false h)

  pub granted_formed : well_formed_memory m ≡ true
  granted_formed = yes _ tests.0

  pub granted : Granted day (place_of account) b
  unfolding broker_refusals
  granted =
      let q = either_false (ltb max_clients b.count) _ tests.1.1.0 in
      record {
        few = ltb-false max_clients b.count q.0;
        adds = yes _ q.1;
        posted = yes _ tests.1.1.1.0;
        covered = yes _ tests.1.1.1.1.0;
      }

  pub statement_adds_up : AddsUp day (place_of account) b
  statement_adds_up =
      let k = memory_ok m granted_formed in
      clients_add_up day (facts day k.contents).replay (rw (contracts_in_use m) k.counts.contracts_high) (place_of account) b granted
