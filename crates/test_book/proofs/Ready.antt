-- What the examples test before an order is entered is all that `enter` asks for. Assumes nothing.
use mathlib.Core.Bool.{true}
use mathlib.Core.List.{List}
use mathlib.Core.Path.{◌≡◌, ap, ◌∙◌}
use Prim.Native.Nat.{ℕ, zero, suc, ◌+◌, ◌<◌, ◌≤◌}
use native.Mathlib.Omega.{arith}
use lib.IntN.{pos}
use lib.ListN.{length, get_or, replicate}
use Rattle.rules.specs.Bounds.{max_resting}
use Rattle.book.specs.EarlyStop.{count_trades}
use Rattle.rules.specs.Exchange.{no_holding, no_account, account_at, holding_at}
use Rattle.rules.specs.Matching.{rest_lots, rested_lots, enter, sweep}
use Rattle.rules.specs.Memory.{queue_in, queue_stride}
use Rattle.rules.specs.declared.Account.{Account}
use Rattle.rules.specs.declared.Order.{Order}
use Rattle.rules.specs.declared.PairingMethod.TheVariants.{Middle}
use Rattle.rules.specs.declared.Taker.{Taker}
use Rattle.rules.specs.declared.Trade.{Trade}
use Rattle.theory.proofs.Codecs.{length_queue}
use Rattle.book.proofs.EarlyStop.{trades_counted}
use Rattle.theory.proofs.Queue.{length_rest_in}
use Rattle.holdings.specs.Bounds.{HoldingWithin}
use Rattle.matching.specs.Entry.{EntryReady}
use Rattle.test_book.specs.Known.{AccountsKnown, no_holdings}

-- at most one order rests
rest_most : (t : Taker) (price lots : ℕ) (queue : List Order) → length (rest_lots t price lots queue) ≤ length queue + 1
unfolding rest_lots
rest_most t price zero queue = omega arith
rest_most t price (suc n) queue = rw length_rest_in (omega arith)

-- whatever place of a list of copies is read
get_d_copies : {A : Type 0} (P : A → Type 0) (n : ℕ) (v d : A) → P v → P d → (i : ℕ) → P (get_or (replicate n v) i d)
get_d_copies P zero v d hv hd i = hd
get_d_copies P (suc n) v d hv hd zero = hv
get_d_copies P (suc n) v d hv hd (suc i) = get_d_copies P n v d hv hd i

none_held : (b a c : ℕ) → HoldingWithin b (holding_at no_holdings a c)
unfolding no_holdings account_at holding_at
none_held b =
    get_d_copies (λ (x : Account). (c : ℕ) → HoldingWithin b (get_or x.holdings c no_holding)) 32
    (record { balance = pos 0; maker = 0; holdings = replicate 4 no_holding }) no_account
    (get_d_copies (HoldingWithin b) 4 no_holding no_holding nothing nothing) (λ c. nothing)
  where
    nothing : HoldingWithin b no_holding
    nothing = record { long = omega arith; short = omega arith }

-- all that `enter` asks for, of an order whose trades have room
pub ready : {t : Taker} {lots price last : ℕ} {held : List Account} {own : List ℕ} {owncount : ℕ} {opposite : List ℕ} {count : ℕ} {area : List ℕ} {before : ℕ}
    → t.contract ≡ 0 → t.method ≡ Middle → t.account ≡ 0 → lots ≤ 1000 → owncount < max_resting → count ≤ max_resting
    → length own ≡ queue_stride → length opposite ≡ queue_stride → length area ≡ 90
    → {queue : List Order} → queue ≡ queue_in opposite 0 count → AccountsKnown queue → before + count_trades t lots queue ≤ 10 → held ≡ no_holdings
    → EntryReady t lots price true last held own owncount opposite count area before
unfolding enter
ready {t} {lots} {price} {last} {own = own} {owncount = owncount} {opposite = opposite} {count = count} {before = before} contract method account size few fewer room opposite_room trade_room {queue} eq known recorded none =
    let trades : List Trade = (sweep t lots last (queue_in opposite t.contract count)).trades in
    let same : queue ≡ queue_in opposite t.contract count = eq ∙ rw contract in
    let made : before + length trades ≤ 10 = omega (arith, trades_counted t lots last (queue_in opposite t.contract count), ap (count_trades t lots) same) in
    record {
      sweeps =
          record {
            contract = omega arith;
            method = rw method tt;
            size = size;
            queue = omega arith;
            room = omega arith;
            parties =
                record {
                  used = 32;
                  few = omega arith;
                  taker = omega arith;
                  resting = λ i h. rw (← same) (known.each i (rw (same, length_queue) h));
                  holdings = record { each = λ a h. rw none (none_held 1_000_000 a t.contract) };
                };
          };
      rests =
          omega (
            arith,
            length_queue own t.contract owncount,
            rest_most t price (rested_lots true lots trades) (queue_in own t.contract owncount),
          );
    }
