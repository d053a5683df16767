-- A change of a resting order is one of four: zero lots, the place lost, equal, the place kept. What is done when the place is lost
-- is one listing replaced, with trades. Assumes nothing.
use lib.Seq.{set-set}
use Rattle.laws.specs.Logic.{Bool, true, false, true≢false, List, [], ◌≡◌, refl, sym, ap, ◌∙◌}
use Rattle.laws.specs.Numbers.{ℕ, ◌+◌, ◌<◌, ◌≤◌, arith, eqb-true, eq-eqb, ne_eqb, le-ltb, eqb}
use Rattle.laws.specs.Choice.{pick, by_test}
use Rattle.rules.specs.Answers.{listing_of}
use Rattle.rules.specs.Change.{Asked, arriving, asked, change_trades, changed, gone, is_sell, listing_lessened, loses_place, old_order, place_kept, place_lost, reentered, unchanged}
use Rattle.rules.specs.Exchange.{Exchange, Listing, listing_named, place_of}
use Rattle.rules.specs.Kinds.{code_of, kind_of, last_of, step}
use Rattle.rules.specs.Matching.{Entered}
use Rattle.rules.specs.Step.{Effect, cancelled, exchange_after, has_number, listing_after, listing_without, with_listing, with_trades}
use Rattle.rules.specs.declared.Command.TheVariants.{Change}
use Rattle.rules.specs.declared.Trade.{Trade}
use Rattle.theory.proofs.Stages.{decided}

module _ (x : Exchange) (k : Asked) where
  zero_keeps_none : eqb k.lots 0 ≡ true → loses_place x k ≡ false
  unfolding loses_place
  zero_keeps_none e = rw e

  -- "more lots or another price lose it"
  pub lost_changed : loses_place x k ≡ true → changed x k ≡ place_lost x k
  unfolding changed
  lost_changed h = by_test (eqb k.lots 0) (λ e. absurd (true≢false (sym h ∙ zero_keeps_none e))) (λ e. rw (e, h))

  -- which of the four it is, with the trades that it makes
  pub changed_either : (P : List Trade → Effect → Type 0) → (k.lots ≡ 0 → P [] (cancelled x (place_of k.contract) k.number))
      → (loses_place x k ≡ true → P (reentered x k).trades (place_lost x k))
      → (loses_place x k ≡ false → k.lots ≡ (old_order x k).lots → P [] (unchanged x k))
      → (eqb k.lots 0 ≡ false → loses_place x k ≡ false → eqb k.lots (old_order x k).lots ≡ false → P [] (place_kept x k))
      → P (change_trades x k) (changed x k)
  unfolding changed change_trades
  changed_either P zeroed lost equal kept = zeros (eqb k.lots 0) refl
    where
      left : Bool → Bool → Bool → Effect
      left z l e = pick z (cancelled x (place_of k.contract) k.number) (pick l (place_lost x k) (pick e (unchanged x k) (place_kept x k)))

      equals : eqb k.lots 0 ≡ false → loses_place x k ≡ false → (e : Bool) → eqb k.lots (old_order x k).lots ≡ e → P [] (left false false e)
      equals z l true e = equal l (eqb-true k.lots (old_order x k).lots e)
      equals z l false e = kept z l e

      loses : eqb k.lots 0 ≡ false → (l : Bool) → loses_place x k ≡ l → P (pick l (reentered x k).trades []) (left false l (eqb k.lots (old_order x k).lots))
      loses z true l = lost l
      loses z false l = equals z l (eqb k.lots (old_order x k).lots) refl

      zeros : (z : Bool) → eqb k.lots 0 ≡ z → P (pick (loses_place x k) (reentered x k).trades []) (left z (loses_place x k) (eqb k.lots (old_order x k).lots))
      zeros true z = rw (zero_keeps_none z) (zeroed (eqb-true k.lots 0 z))
      zeros false z = loses z (loses_place x k) refl

-- a listing replaced twice is replaced once
pub replaced_twice : (x : Exchange) (c : ℕ) (l m : Listing) (ts : List Trade) (next nextstamp : ℕ)
    → with_trades (with_listing x c l) c m ts next nextstamp ≡ with_trades x c m ts next nextstamp
replaced_twice x c l m ts next nextstamp =
    ap (λ (ls : List Listing). record {
      listings = ls;
      accounts = (with_trades x c m ts next nextstamp).accounts;
      trades = (with_trades x c m ts next nextstamp).trades;
      next = next;
      nextstamp = nextstamp;
      settlements = x.settlements;
    }) (set-set x.listings c l m)

-- the order gone, then entered: one listing replaced, with its trades
pub lost_once : (x : Exchange) (k : Asked) (e : Entered) (next : ℕ) → exchange_after (gone x k) (arriving x k) e next
    ≡ with_trades x (place_of k.contract) (listing_after (listing_named (gone x k) k.contract) (is_sell x k) e) e.trades next (x.nextstamp + 1)
unfolding exchange_after listing_of gone arriving
lost_once x k e next =
    replaced_twice x (place_of k.contract) (listing_without (has_number k.number) (listing_named x k.contract))
    (listing_after (listing_named (with_listing x (place_of k.contract) (listing_without (has_number k.number) (listing_named x k.contract))) k.contract) (is_sell x k) e)
    e.trades next (x.nextstamp + 1)

-- ---- equal and fewer lots at the same price

module _ (x : Exchange) (k : Asked) (some : 1 ≤ k.lots) (same : k.price ≡ (old_order x k).price) where
  none_zero : eqb k.lots 0 ≡ false
  none_zero = ne_eqb k.lots 0 (λ (e : k.lots ≡ 0). omega arith)

  place_kept_lem : k.lots ≤ (old_order x k).lots → loses_place x k ≡ false
  unfolding loses_place
  place_kept_lem h = rw (none_zero, le-ltb (old_order x k).lots k.lots h, eq-eqb k.price (old_order x k).price same) refl

  -- "Equal lots and price change nothing."
  pub equal_unchanged : k.lots ≡ (old_order x k).lots → changed x k ≡ unchanged x k
  unfolding changed
  equal_unchanged e = rw (none_zero, place_kept_lem (omega arith), eq-eqb k.lots (old_order x k).lots e) refl

  -- "fewer lots keep the place in the queue"
  pub fewer_kept : k.lots < (old_order x k).lots → changed x k ≡ place_kept x k
  unfolding changed
  fewer_kept h =
      rw (none_zero, place_kept_lem (omega arith), ne_eqb k.lots (old_order x k).lots (λ (e : k.lots ≡ (old_order x k).lots). omega arith)) refl

module _ (x : Exchange) (account contract number lots price : ℕ) where
  abbrev its : Asked
  its = asked account contract number lots price

  module _ (some : 1 ≤ lots) (same : price ≡ (old_order x its).price) where
    -- AN EQUAL CHANGE ALTERS NOTHING
    pub equal_step : lots ≡ (old_order x its).lots → step x (Change account contract number lots price) ≡ x
    unfolding step kind_of unchanged
    equal_step e =
        decided (λ d. last_of x d.stages ≡ x) x (Change account contract number lots price)
        (λ a. ap (λ (f : Effect). last_of x f.stages) (equal_unchanged x its some same e)) (λ r. refl)

    -- FEWER LOTS AT THE SAME PRICE ALTER THAT ORDER'S LOTS, DROP ITS MARK, AND DO NOTHING ELSE (`less_at` has the places of its queue)
    pub fewer_step : lots < (old_order x its).lots → code_of x (Change account contract number lots price) ≡ 0 →
        step x (Change account contract number lots price) ≡ with_listing x (place_of contract) (listing_lessened its (listing_named x its.contract))
    unfolding step kind_of place_kept
    fewer_step h a =
        decided (λ d. last_of x d.stages ≡ with_listing x (place_of contract) (listing_lessened its (listing_named x its.contract))) x (Change account contract number lots price)
        (λ q. ap (λ (f : Effect). last_of x f.stages) (fewer_kept x its some same h)) (λ r. absurd (r a))
