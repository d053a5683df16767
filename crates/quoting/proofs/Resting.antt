-- The way of a quote on which nothing trades: an order of it, then both. Assumes nothing.
use mathlib.Core.Bool.{true, false}
use mathlib.Core.List.{List}
use mathlib.Core.Path.{◌≡◌, refl, sym, ap, ◌∙◌}
use Prim.Native.Nat.{ℕ, ◌+◌, ◌*◌, ◌<◌}
use native.Mathlib.Omega.{arith}
use lib.ListN.{get_or}
use lib.Seq.{set-set}
use Rattle.rules.specs.Answers.{day_limit_order, first_of, order_refusals}
use Rattle.rules.specs.Bounds.{max_contracts, max_lots}
use Rattle.rules.specs.Codes.{code_number}
use Rattle.rules.specs.Exchange.{no_account, place_of}
use Rattle.rules.specs.Memory.{WellFormedState, exchange_of, memory}
use Rattle.rules.specs.Step.{answer_of}
use Rattle.rules.specs.declared.Account.{Account}
use Rattle.rules.specs.declared.Answer.{Answer}
use Rattle.rules.specs.declared.NewOrder.{NewOrder}
use Rattle.rules.specs.declared.State.{State}
use Rattle.rules.specs.declared.codes.Code.{Code}
use Rattle.theory.proofs.Codes.{not_accepted}
use Rattle.engine.specs.Decision.{DecisionIs, with_listed}
use Rattle.engine.specs.Outcome.{OutcomeIs, refused_with}
use Rattle.engine.specs.declared.updates.Arrival.{Arrival}
use Rattle.engine.specs.declared.updates.Decision.{Decision}
use Rattle.engine.specs.declared.updates.Listed.{Listed}
use Rattle.engine.specs.declared.updates.Quoted.{Quoted}
use Rattle.engine.specs.declared.updates.Update.TheVariants.{Listing}
use Rattle.engine.proofs.Formed.{formed}
use Rattle.insertion.specs.Entry.{ArriveIs, arrival_of}
use Rattle.insertion.proofs.Arriving.{listing_entered}
use Rattle.insertion.proofs.Entering.{order_entered}
use Rattle.quoting.specs.Placing.{GoneIs, PutBack, Quotable, BothRefused, BothRest, Rests, asked, early_refusals, marked_in}
use Rattle.quoting.specs.declared.Rested.{Rested}
use Rattle.quoting.proofs.Marking.{marked_enterable, marked_entered}
use Rattle.quoting.proofs.Placing.{bought_formed, buy_refused, here, quote_accepted, sell_quotable, sell_refused, sums_fit, undo_buys₁, undo_buys₂, undo_sells₁, undo_sells₂}

-- ---- an order

module _ {s : State} {buys sells trades : List ℕ} (w : WellFormedState s buys sells trades) (o : NewOrder) (g : Quotable s buys sells trades o)
    (ec : 0 ≡ first_of (order_refusals (exchange_of (memory s buys sells trades)) o)) {a : Arrival} (ea : a ≡ arrival_of s buys sells o s.next 1 (s.next + 1))
    {d : Decision} {buys' sells' : List ℕ} (k : ArriveIs a buys sells d buys' sells') where
  pub order_rests : {after : Listed} → d.update ≡ Listing after → Rests s buys sells trades o (record { listed = after; answer = d.answer }) buys' sells'
  order_rests {after} u =
      let arrived = listing_entered k u s.accounts trades in
      let entered = order_entered w o _ _ _ (marked_enterable w o g ec refl) ea buys' sells' arrived in
      record {
        place = ap (λ (v : Listed). v.place) arrived.listed ∙ rw ea refl;
        code = ap (λ (v : Answer). v.code) entered.answer;
        outcome = marked_entered w o g ec refl entered;
      }

-- ---- both

-- a contract written over as it stood
written_over : (s : State) (l after : Listed) → l.place ≡ after.place → with_listed (with_listed s l) after ≡ with_listed s after
written_over s l after e =
    rw (e, set-set s.contracts after.place l.terms after.terms, set-set s.buycounts after.place l.bought after.bought, set-set s.sellcounts after.place l.sold after.sold) refl

module _ {s : State} {buys sells trades : List ℕ} (w : WellFormedState s buys sells trades) (q : Quoted)
    (none : first_of (early_refusals (exchange_of (memory s buys sells trades)) q.account q.contract q.buy q.sell) ≡ 0)
    {gone : State} {buys₁ sells₁ : List ℕ} (eg : GoneIs s buys sells trades q.account q.contract gone buys₁ sells₁)
    {bid : NewOrder} (eb : bid ≡ day_limit_order q.account q.contract false false q.lots q.buy)
    {buys₂ sells₂ : List ℕ} where
  -- the buy is refused
  pub first_refused : (code : Code) → OutcomeIs (marked_in (memory gone buys₁ sells₁ trades) bid) (refused_with gone (code_number code)) buys₂ sells₂ trades
      → BothRefused s buys sells trades q (code_number code) buys₂ sells₂
  first_refused code i =
      let placed = buy_refused w q.account q.contract q.lots q.buy q.sell none eg.lies eb i (not_accepted code) refl in
      record {
        outcome = placed.refused (not_accepted code);
        back = record { of_buys = placed.buys_back (not_accepted code); of_sells = placed.sells_back (not_accepted code) };
      }

  -- it would trade
  pub first_left : (buys₂ ≡ buys₁) × (sells₂ ≡ sells₁) → PutBack buys sells q buys₂ sells₂
  first_left same =
      record {
        of_buys = rw same.0 (undo_buys₁ w q.account q.contract q.lots q.buy q.sell none eg.lies);
        of_sells = rw same.1 (undo_sells₁ w q.account q.contract q.lots q.buy q.sell none eg.lies);
      }

  -- it rests, and the sell comes
  module _ {r₁ : Rested} (k₁ : Rests gone buys₁ sells₁ trades bid r₁ buys₂ sells₂) where
    on_contract : r₁.listed.place ≡ place_of q.contract
    on_contract = k₁.place ∙ ap (λ (o : NewOrder). place_of o.contract) eb

    pub contract_fits : r₁.listed.place < max_contracts
    contract_fits = rw on_contract (omega (arith, here w q.account q.contract q.lots q.buy q.sell none, (formed w).contracts_high))

    module _ {after : State} (ea : after ≡ with_listed gone r₁.listed) where
      i₁ : OutcomeIs (marked_in (memory gone buys₁ sells₁ trades) bid) (record { answer = r₁.answer; state = after }) buys₂ sells₂ trades
      i₁ = rw ea k₁.outcome

      pub after_formed : WellFormedState after buys₂ sells₂ trades
      after_formed = bought_formed w q.account q.contract q.lots q.buy q.sell none eg.lies eb i₁ k₁.code

      pub after_held : {who : Account} → get_or s.accounts (place_of q.account) no_account ≡ who → get_or after.accounts (place_of q.account) no_account ≡ who
      after_held h = rw (ea, eg.accounts) h

      module _ {offer : NewOrder} (eo : offer ≡ day_limit_order q.account q.contract true false q.lots q.sell) where
        pub after_quotable : Quotable after buys₂ sells₂ trades offer
        after_quotable = sell_quotable w q.account q.contract q.lots q.buy q.sell none eg.lies eb i₁ k₁.code eo

        module _ {buys₃ sells₃ : List ℕ} where
          pub second_refused : (code : Code) → OutcomeIs (marked_in (memory after buys₂ sells₂ trades) offer) (refused_with after (code_number code)) buys₃ sells₃ trades
              → BothRefused s buys sells trades q (code_number code) buys₃ sells₃
          second_refused code i =
              let placed = sell_refused w q.account q.contract q.lots q.buy q.sell none eg.lies eb i₁ k₁.code eo i (not_accepted code) refl in
              record {
                outcome = placed.refused (not_accepted code);
                back = record { of_buys = placed.buys_back (not_accepted code); of_sells = placed.sells_back (not_accepted code) };
              }

          pub second_left : (buys₃ ≡ buys₂) × (sells₃ ≡ sells₂) → PutBack buys sells q buys₃ sells₃
          second_left same =
              record {
                of_buys = rw same.0 (undo_buys₂ w q.account q.contract q.lots q.buy q.sell none eg.lies eb i₁ k₁.code);
                of_sells = rw same.1 (undo_sells₂ w q.account q.contract q.lots q.buy q.sell none eg.lies eb i₁ k₁.code);
              }

          module _ {r₂ : Rested} (k₂ : Rests after buys₂ sells₂ trades offer r₂ buys₃ sells₃) where
            on_contract₂ : r₂.listed.place ≡ place_of q.contract
            on_contract₂ = k₂.place ∙ ap (λ (o : NewOrder). place_of o.contract) eo

            pub both_fit : (r₁.answer.traded + r₂.answer.traded < 2 * max_lots + 1) × (r₁.answer.lots + r₂.answer.lots < 2 * max_lots + 1)
            both_fit =
                let f = sums_fit w q.account q.contract q.lots q.buy q.sell none eg.lies eb i₁ k₁.code eo k₂.outcome k₂.code in
                (omega (arith, f.0), omega (arith, f.1))

            left_state : with_listed after r₂.listed ≡ with_listed s r₂.listed
            left_state =
                ap (λ (v : State). with_listed v r₂.listed) ea
                ∙ written_over gone r₁.listed r₂.listed (on_contract ∙ sym on_contract₂)
                ∙ eg.rest r₂.listed on_contract₂

            pub both_rest : BothRest s buys sells trades q
                (record { listed = r₂.listed; answer = answer_of 0 s.next (r₁.answer.traded + r₂.answer.traded) (r₁.answer.lots + r₂.answer.lots) }) buys₃ sells₃
            both_rest =
                let placed = quote_accepted w q.account q.contract q.lots q.buy q.sell none eg.lies eb i₁ k₁.code eo k₂.outcome k₂.code refl in
                record { place = on_contract₂; outcome = rw left_state at (placed.accepted refl) }

-- ---- the quote

pub quote_rests : {s : State} {buys sells trades : List ℕ} {q : Quoted} {r : Rested} {buys₁ sells₁ : List ℕ} → BothRest s buys sells trades q r buys₁ sells₁
    → r.listed.place < max_contracts → DecisionIs (memory s buys sells trades) (asked q) (record { answer = r.answer; update = Listing r.listed }) buys₁ sells₁ trades
quote_rests k fits = record { told = (fits, k.outcome) }
