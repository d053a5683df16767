-- What an account's trades sold for, cost, bought and sold (Condition3.antt), against its legs, against lists in two parts, and
-- summed over the accounts: what one account gains another loses. Assumes nothing.
use lib.IntN.{ℤ, pos, ◌+ℤ◌, ◌-ℤ◌}
use Rattle.laws.specs.Logic.{Bool, true, false, ◌&&◌, List, [], ◌∷◌, ◌++◌, append_assoc, ◌≡◌, refl, sym, ap, ap₂, ◌∙◌}
use Rattle.laws.specs.Numbers.{ℕ, zero, suc, ◌+◌, ◌*◌, ◌<◌, arith, eqb}
use Rattle.laws.specs.Choice.{pick}
use Rattle.laws.specs.Ring.{split, d_eq, ring}
use Rattle.laws.specs.Sums.{sum_of, sum_to, sum_of_append, sum_to_ext, sum_to_add, sum_to_zero, sum_to_at}
use Rattle.rules.specs.Condition3.{sales, costs, bought, sold, net_holding}
use Rattle.rules.specs.Settlement.{Leg, leg, buy_leg, sell_leg, only, legs}
use Rattle.rules.specs.declared.Trade.{Trade}
use Rattle.accounting.specs.DayLegs.{flow, net}
use Rattle.accounting.specs.Money.{proceeds, AllKnown}
use Rattle.accounting.proofs.DayProfit.{flow_append, net_append}

-- ---- legs

-- a trade's two legs, as account a in contract c sees them
abbrev pub bought_by : ℕ → ℕ → Trade → List Leg
bought_by a c t = only (eqb t.contract c && eqb t.buyer a) (buy_leg t)

abbrev pub sold_by : ℕ → ℕ → Trade → List Leg
sold_by a c t = only (eqb t.contract c && eqb t.seller a) (sell_leg t)

pub legs_append : (a c : ℕ) (ts us : List Trade) → legs a c (ts ++ us) ≡ legs a c ts ++ legs a c us
unfolding legs
legs_append a c [] us = refl
legs_append a c (t ∷ ts) us = rw (legs_append a c ts us) (simp append_assoc)

-- what adds up over legs adds up over the legs of trades
legs_cons : (F : List Leg → ℤ) → ((ls ms : List Leg) → F (ls ++ ms) ≡ F ls +ℤ F ms) → (a c : ℕ) (t : Trade) (ts : List Trade) →
    F (legs a c (t ∷ ts)) ≡ F (bought_by a c t) +ℤ (F (sold_by a c t) +ℤ F (legs a c ts))
unfolding legs
legs_cons F add a c t ts = add _ _ ∙ ap (λ (z : ℤ). F (bought_by a c t) +ℤ z) (add _ _)

-- sales less costs of the trade in front, whether it bought, sold or did both, and of the others
flow_one : (buys sells close close' : Bool) (p n S C : ℕ) →
    flow (only buys (leg false close p n)) +ℤ (flow (only sells (leg true close' p n)) +ℤ (pos S -ℤ pos C))
    ≡ pos (pick sells (p * n) 0 + S) -ℤ pos (pick buys (p * n) 0 + C)
unfolding only flow
flow_one true true close close' p n S C = simp ring (d_eq _ _ _ _ (omega arith))
flow_one true false close close' p n S C = simp ring (d_eq _ _ _ _ (omega arith))
flow_one false true close close' p n S C = simp ring (d_eq _ _ _ _ (omega arith))
flow_one false false close close' p n S C = simp ring (d_eq _ _ _ _ (omega arith))

net_one : (buys sells close close' : Bool) (p n B S : ℕ) →
    net (only buys (leg false close p n)) +ℤ (net (only sells (leg true close' p n)) +ℤ (pos B -ℤ pos S))
    ≡ pos (pick buys n 0 + B) -ℤ pos (pick sells n 0 + S)
unfolding only net
net_one true true close close' p n B S = simp ring (d_eq _ _ _ _ (omega arith))
net_one true false close close' p n B S = simp ring (d_eq _ _ _ _ (omega arith))
net_one false true close close' p n B S = simp ring (d_eq _ _ _ _ (omega arith))
net_one false false close close' p n B S = simp ring (d_eq _ _ _ _ (omega arith))

pub flow_legs : (a c : ℕ) (ts : List Trade) → flow (legs a c ts) ≡ proceeds a c ts
unfolding legs flow proceeds sales costs sum_of
flow_legs a c [] = refl
flow_legs a c (t ∷ ts) =
    legs_cons flow flow_append a c t ts ∙ ap (λ (z : ℤ). flow (bought_by a c t) +ℤ (flow (sold_by a c t) +ℤ z)) (flow_legs a c ts)
    ∙ flow_one (eqb t.contract c && eqb t.buyer a) (eqb t.contract c && eqb t.seller a) _ _ t.price t.lots (sales a c ts) (costs a c ts)

pub net_legs : (a c : ℕ) (ts : List Trade) → net (legs a c ts) ≡ net_holding a c ts
unfolding net legs net_holding bought sold sum_of
net_legs a c [] = refl
net_legs a c (t ∷ ts) =
    legs_cons net net_append a c t ts ∙ ap (λ (z : ℤ). net (bought_by a c t) +ℤ (net (sold_by a c t) +ℤ z)) (net_legs a c ts)
    ∙ net_one (eqb t.contract c && eqb t.buyer a) (eqb t.contract c && eqb t.seller a) _ _ t.price t.lots (bought a c ts) (sold a c ts)

-- ---- lists in two parts

pub proceeds_append : (a c : ℕ) (ts us : List Trade) → proceeds a c (ts ++ us) ≡ proceeds a c ts +ℤ proceeds a c us
unfolding proceeds sales costs
proceeds_append a c ts us =
    rw (
      sum_of_append (λ t. pick (eqb t.contract c && eqb t.seller a) (t.price * t.lots) 0) ts us,
      sum_of_append (λ t. pick (eqb t.contract c && eqb t.buyer a) (t.price * t.lots) 0) ts us,
    )
    (simp ring (d_eq _ _ _ _ (omega arith)))

pub net_holding_append : (a c : ℕ) (ts us : List Trade) → net_holding a c (ts ++ us) ≡ net_holding a c ts +ℤ net_holding a c us
unfolding net_holding bought sold
net_holding_append a c ts us =
    rw (
      sum_of_append (λ t. pick (eqb t.contract c && eqb t.buyer a) t.lots 0) ts us,
      sum_of_append (λ t. pick (eqb t.contract c && eqb t.seller a) t.lots 0) ts us,
    )
    (simp ring (d_eq _ _ _ _ (omega arith)))

pub proceeds_nil : (a c : ℕ) → proceeds a c [] ≡ pos 0
unfolding proceeds sales costs sum_of
proceeds_nil a c = refl

pub net_holding_nil : (a c : ℕ) → net_holding a c [] ≡ pos 0
unfolding net_holding bought sold sum_of
net_holding_nil a c = refl

-- ---- over the accounts

module _ (accounts c : ℕ) (who f : Trade → ℕ) where
  -- a measure of the trades that an account takes part in as `who` says
  part : ℕ → List Trade → ℕ
  part a ts = sum_of (λ t. pick (eqb t.contract c && eqb (who t) a) (f t) 0) ts

  whole : List Trade → ℕ
  whole ts = sum_of (λ t. pick (eqb t.contract c) (f t) 0) ts

  unfoldable Among : List Trade → Type 0
  Among [] = Unit {0}
  Among (t ∷ ts) = (who t < accounts) × Among ts

  at_one : (here whose : Bool) (n : ℕ) → pos (pick (here && whose) n 0) ≡ pick whose (pos (pick here n 0)) (pos 0)
  at_one true true n = refl
  at_one true false n = refl
  at_one false true n = refl
  at_one false false n = refl

  -- each trade is counted for one account
  all_parts : (ts : List Trade) → Among ts → sum_to accounts (λ a. pos (part a ts)) ≡ pos (whole ts)
  unfolding part whole sum_of Among
  all_parts [] k = sum_to_zero accounts
  all_parts (t ∷ ts) k =
      sum_to_add accounts (λ a. pos (pick (eqb t.contract c && eqb (who t) a) (f t) 0)) (λ a. pos (part a ts)) ∙ ap₂ (λ (u v : ℤ). u +ℤ v)
      (sum_to_ext accounts _ _ (λ a l. at_one (eqb t.contract c) (eqb (who t) a) (f t))
      ∙ sum_to_at accounts (who t) (pos (pick (eqb t.contract c) (f t) 0)) k.0)
      (all_parts ts k.1)

pub sum_to_sub : (n : ℕ) (f g : ℕ → ℤ) → sum_to n (λ i. f i -ℤ g i) ≡ sum_to n f -ℤ sum_to n g
unfolding sum_to
sum_to_sub zero f g = refl
sum_to_sub (suc n) f g =
    rw (sum_to_sub n f g)
    (rw (split (sum_to n f), split (sum_to n g), split (f n), split (g n)) (simp ring (d_eq _ _ _ _ (omega arith))))

buyers_known : (accounts c : ℕ) (f : Trade → ℕ) (ts : List Trade) → AllKnown accounts ts → Among accounts c (λ t. t.buyer) f ts
unfolding AllKnown Among
buyers_known accounts c f [] k = tt
buyers_known accounts c f (t ∷ ts) k = (k.0.0, buyers_known accounts c f ts k.1)

sellers_known : (accounts c : ℕ) (f : Trade → ℕ) (ts : List Trade) → AllKnown accounts ts → Among accounts c (λ t. t.seller) f ts
unfolding AllKnown Among
sellers_known accounts c f [] k = tt
sellers_known accounts c f (t ∷ ts) k = (k.0.1, sellers_known accounts c f ts k.1)

-- what the sellers get the buyers pay, whatever is counted
level : (accounts c : ℕ) (f : Trade → ℕ) (ts : List Trade) → AllKnown accounts ts →
    sum_to accounts (λ a. pos (part accounts c (λ t. t.seller) f a ts)) ≡ sum_to accounts (λ a. pos (part accounts c (λ t. t.buyer) f a ts))
unfolding whole
level accounts c f ts k =
    all_parts accounts c (λ t. t.seller) f ts (sellers_known accounts c f ts k)
    ∙ sym (all_parts accounts c (λ t. t.buyer) f ts (buyers_known accounts c f ts k))

pub zero_proceeds : (accounts c : ℕ) (ts : List Trade) → AllKnown accounts ts → sum_to accounts (λ a. proceeds a c ts) ≡ pos 0
unfolding proceeds sales costs part
zero_proceeds accounts c ts k =
    sum_to_sub accounts (λ a. pos (sales a c ts)) (λ a. pos (costs a c ts))
    ∙ ap (λ (z : ℤ). z -ℤ sum_to accounts (λ a. pos (costs a c ts))) (level accounts c (λ t. t.price * t.lots) ts k)
    ∙ rw (split (sum_to accounts (λ a. pos (costs a c ts)))) (simp ring (d_eq _ _ _ _ (omega arith)))

pub zero_net : (accounts c : ℕ) (ts : List Trade) → AllKnown accounts ts → sum_to accounts (λ a. net_holding a c ts) ≡ pos 0
unfolding net_holding bought sold part
zero_net accounts c ts k =
    sum_to_sub accounts (λ a. pos (bought a c ts)) (λ a. pos (sold a c ts))
    ∙ ap (λ (z : ℤ). sum_to accounts (λ a. pos (bought a c ts)) -ℤ z) (level accounts c (λ t. t.lots) ts k)
    ∙ rw (split (sum_to accounts (λ a. pos (bought a c ts)))) (simp ring (d_eq _ _ _ _ (omega arith)))
