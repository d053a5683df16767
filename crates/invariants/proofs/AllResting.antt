-- What holds of every resting order of a state, by contract and side, holds after a command if it holds of the orders that come to rest, and
-- does not go by lots. Assumes nothing.
use Rattle.laws.specs.Logic.{Bool, true, false, not, List, [], ◌∷◌, ◌≡◌, refl}
use Rattle.laws.specs.Numbers.{ℕ, zero, suc, get_or, set}
use Rattle.laws.specs.Choice.{pick, all_of}
use Rattle.rules.specs.Answers.{listing_of, taker_of}
use Rattle.rules.specs.Auction.{Matched, match_at, match_of}
use Rattle.rules.specs.Change.{Asked, listing_lessened, place_kept, unmarked}
use Rattle.rules.specs.Exchange.{Exchange, Listing, listing_at, listing_named, no_listing, opposite, own, place_of}
use Rattle.rules.specs.Kinds.{last_of}
use Rattle.rules.specs.Matching.{enter, remainder, rest_lots, rest_whole, with_lots}
use Rattle.rules.specs.Step.{entered_of, exchange_after, exchange_matched, limit_of, listing_after, listing_matched, listing_without, with_listing}
use Rattle.rules.specs.declared.{NewOrder.NewOrder, Order.Order}
use Rattle.theory.proofs.AuctionOutcome.{auction_either}
use Rattle.theory.proofs.AuctionSteps.{entered_either, match_either}
use Rattle.theory.proofs.AuctionTaken.{KeptWithFewer, less_kept}
use Rattle.theory.proofs.AuctionTurns.{match_ind}
use Rattle.theory.proofs.Lessened.{same_all}
use Rattle.theory.proofs.Rest.{rest_all}
use Rattle.invariants.proofs.InsertQueues.{other_own, rested_all}
use Rattle.invariants.proofs.Removal.{without_all}

-- one listing replaced
set_all : (P : ℕ → Listing → Type 0) (ls : List Listing) (d : ℕ) (m : Listing) → ((c : ℕ) → P c (get_or ls c no_listing)) → P d m → (c : ℕ) → P c (get_or (set ls d m) c no_listing)
set_all P [] d m h p c = h c
set_all P (l ∷ ls) zero m h p zero = p
set_all P (l ∷ ls) zero m h p (suc c) = h (suc c)
set_all P (l ∷ ls) (suc d) m h p zero = h zero
set_all P (l ∷ ls) (suc d) m h p (suc c) = set_all (λ i n. P (suc i) n) ls d m (λ i. h (suc i)) p c

matched_both : (c price : ℕ) (p q : Order → Bool) → KeptWithFewer p → KeptWithFewer q → (buys sells : List Order) → all_of p buys ≡ true → all_of q sells ≡ true →
    (all_of p (match_at c price buys sells).buys ≡ true) × (all_of q (match_at c price buys sells).sells ≡ true)
matched_both c price p q k l =
    match_ind c price (λ bs ss m. all_of p bs ≡ true → all_of q ss ≡ true → (all_of p m.buys ≡ true) × (all_of q m.sells ≡ true))
    (λ bs ss a g h. (g, h))
    (λ b bs s ss m f r ih g h. ih (less_kept _ b bs p k g) (less_kept _ s ss q l h))

-- every resting order passes a test, which may go by its contract and its side
abbrev pub AllResting : (ℕ → Bool → Order → Bool) → Exchange → Type 0
AllResting test y = (c : ℕ) (sell : Bool) → all_of (test c sell) (own sell (listing_at y c)) ≡ true

module _ (test : ℕ → Bool → Order → Bool) (fewer : (c : ℕ) (sell : Bool) → KeptWithFewer (test c sell)) where
  relisted_resting : (y z : Exchange) (d : ℕ) (m : Listing) → z.listings ≡ set y.listings d m → AllResting test y →
      ((sell : Bool) → all_of (test d sell) (own sell m) ≡ true) → AllResting test z
  unfolding listing_at
  relisted_resting y z d m e h p c sell =
      rw e (set_all (λ (i : ℕ) (l : Listing). (side : Bool) → all_of (test i side) (own side l) ≡ true) y.listings d m h p c sell)

  -- ---- orders taken out

  pub without_resting : (y : Exchange) → AllResting test y → (d : ℕ) (gone : Order → Bool) → AllResting test (with_listing y d (listing_without gone (listing_at y d)))
  without_resting y h d gone =
      relisted_resting y (with_listing y d (listing_without gone (listing_at y d))) d (listing_without gone (listing_at y d)) refl h by_side
    where
      by_side : (sell : Bool) → all_of (test d sell) (own sell (listing_without gone (listing_at y d))) ≡ true
      by_side true = without_all gone (test d true) (listing_at y d).sells (h d true)
      by_side false = without_all gone (test d false) (listing_at y d).buys (h d false)

  -- ---- an order entered, which passes the test where it comes to rest

  module _ (y : Exchange) (h : AllResting test y) (number quote : ℕ) (o : NewOrder)
      (passes : (price lots : ℕ) → test (place_of o.contract) o.sell (remainder (taker_of y number quote o) price lots) ≡ true) where
    abbrev place : ℕ
    place = place_of o.contract

    mine_rest : (lots price : ℕ) → all_of (test place o.sell) (rest_lots (taker_of y number quote o) price lots (own o.sell (listing_of y o))) ≡ true
    unfolding listing_of
    mine_rest lots price = rested_all (taker_of y number quote o) price (test place o.sell) lots (own o.sell (listing_of y o)) (λ some. passes price lots) (h place o.sell)

    others_rest : all_of (test place (not o.sell)) (opposite o.sell (listing_of y o)) ≡ true
    unfolding listing_of
    others_rest = rw (← other_own o.sell (listing_at y place)) (h place (not o.sell))

    queues_rest : (mine others : List Order) → all_of (test place o.sell) mine ≡ true → all_of (test place (not o.sell)) others ≡ true →
        (sell : Bool) → all_of (test place sell) (pick sell (pick o.sell mine others) (pick o.sell others mine)) ≡ true
    queues_rest mine others p q = by_side o.sell p q
      where
        by_side : (s : Bool) → all_of (test place s) mine ≡ true → all_of (test place (not s)) others ≡ true →
            (sell : Bool) → all_of (test place sell) (pick sell (pick s mine others) (pick s others mine)) ≡ true
        by_side true p q true = p
        by_side true p q false = q
        by_side false p q true = q
        by_side false p q false = p

    pub entered_resting : (next : ℕ) → AllResting test (exchange_after y o (entered_of y number quote o) next)
    unfolding exchange_after listing_after rest_whole enter
    entered_resting next =
        relisted_resting y (exchange_after y o (entered_of y number quote o) next) place (listing_after (listing_of y o) o.sell (entered_of y number quote o)) refl h
        (entered_either y number quote o
        (λ e. (sell : Bool) → all_of (test place sell) (own sell (listing_after (listing_of y o) o.sell e)) ≡ true)
        (λ a. queues_rest _ _ (mine_rest o.lots (limit_of o.condition)) others_rest)
        (λ a. queues_rest _ _ (mine_rest _ (limit_of o.condition))
        (rest_all (test place (not o.sell)) (fewer place (not o.sell)) (taker_of y number quote o) o.lots (listing_of y o).contract.last (opposite o.sell (listing_of y o)) others_rest)))

  -- ---- the match of an auction

  pub matched_resting : (x : Exchange) → AllResting test x → (d phase : ℕ) → AllResting test (exchange_matched x d phase (match_of x d))
  unfolding exchange_matched listing_matched
  matched_resting x h d phase =
      relisted_resting x (exchange_matched x d phase (match_of x d)) d (listing_matched (listing_at x d) phase (match_of x d)) refl h (by_side both_sides)
    where
      Both : Matched → Type 0
      Both m = (all_of (test d false) m.buys ≡ true) × (all_of (test d true) m.sells ≡ true)

      both_sides : Both (match_of x d)
      both_sides =
          match_either x d Both
          (λ a. auction_either d (listing_at x d).contract.last (listing_at x d).buys (listing_at x d).sells Both (λ z. (h d false, h d true))
          (λ z. matched_both d _ (test d false) (test d true) (fewer d false) (fewer d true) (listing_at x d).buys (listing_at x d).sells (h d false) (h d true)))
          (λ a. (h d false, h d true))

      by_side : Both (match_of x d) → (sell : Bool) → all_of (test d sell) (own sell (listing_matched (listing_at x d) phase (match_of x d))) ≡ true
      by_side b true = b.1
      by_side b false = b.0

  -- ---- an order with fewer lots in its place

  pub lessened_resting : (x : Exchange) → AllResting test x → (k : Asked) → ((sell : Bool) (o : Order) → test (place_of k.contract) sell (unmarked (with_lots o k.lots)) ≡ test (place_of k.contract) sell o) →
      AllResting test (last_of x (place_kept x k).stages)
  unfolding place_kept
  lessened_resting x h k same =
      relisted_resting x (last_of x (place_kept x k).stages) (place_of k.contract) _ refl h by_side
    where
      by_side : (sell : Bool) → all_of (test (place_of k.contract) sell) (own sell (listing_lessened k (listing_named x k.contract))) ≡ true
      by_side true = rw (same_all k.number k.lots (test (place_of k.contract) true) (same true) (listing_named x k.contract).sells) (h (place_of k.contract) true)
      by_side false = rw (same_all k.number k.lots (test (place_of k.contract) false) (same false) (listing_named x k.contract).buys) (h (place_of k.contract) false)
