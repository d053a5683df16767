-- A change of a resting order keeps the shape of the state and makes its trades, and no other move of money. Assumes nothing.
use mathlib.Core.Path.{◌≡◌, refl}
use Prim.Native.Nat.{◌+◌}
use Rattle.laws.specs.Lists.{kept_at}
use Rattle.rules.specs.Change.{Asked, arriving, change_trades, changed, gone, place_kept, place_lost, reentered, unchanged}
use Rattle.rules.specs.Exchange.{Exchange, Listing, listing_at, listing_named, no_listing, place_of}
use Rattle.rules.specs.Kinds.{makes, last_of}
use Rattle.rules.specs.Step.{cancelled, exchange_after, has_number, listing_after, listing_without, removed}
use Rattle.theory.proofs.Changes.{changed_either, lost_once}
use Rattle.theory.proofs.Stages.{Each}
use Rattle.accounting.proofs.StepMoves.{Makes, nothing_moves, same_listing, traded_moves}
use Rattle.accounting.proofs.StepShape.{SameShape, entered_shape, listing_replaced, shape_trans}

module _ (x : Exchange) (k : Asked) where
  pub changed_shape : Each (SameShape x) (changed x k).stages
  unfolding cancelled removed place_lost unchanged place_kept gone
  changed_shape =
      changed_either x k (λ ts e. Each (SameShape x) e.stages)
      (λ e. (listing_replaced x (place_of k.contract) _, tt))
      (λ e. (
        listing_replaced x (place_of k.contract) _,
        (shape_trans (listing_replaced x (place_of k.contract) _) (entered_shape (gone x k) (arriving x k) (reentered x k) x.next), tt),
      ))
      (λ e f. tt)
      (λ e f g. (listing_replaced x (place_of k.contract) _, tt))

  -- what is told of a contract is told of it still when the order is gone
  gone_listing : {A : Type 0} (f : Listing → A) →
      f (listing_without (has_number k.number) (listing_named x k.contract)) ≡ f (listing_named x k.contract) → f (listing_named (gone x k) k.contract) ≡ f (listing_named x k.contract)
  unfolding gone listing_at
  gone_listing f e = kept_at f x.listings (place_of k.contract) _ no_listing e (place_of k.contract)

  lost_moves : Makes x (makes (reentered x k).trades) (exchange_after (gone x k) (arriving x k) (reentered x k) x.next)
  unfolding listing_after
  lost_moves =
      rw (lost_once x k (reentered x k) x.next)
      (traded_moves x (place_of k.contract) _ (reentered x k).trades x.next (x.nextstamp + 1)
      (gone_listing (λ l. l.contract.reference) refl) (gone_listing (λ l. l.contract.multiplier) refl))

  pub changed_moves : Makes x (makes (change_trades x k)) (last_of x (changed x k).stages)
  unfolding cancelled removed place_lost unchanged place_kept
  changed_moves =
      changed_either x k (λ ts e. Makes x (makes ts) (last_of x e.stages))
      (λ e. same_listing x (place_of k.contract) _ refl refl)
      (λ e. lost_moves)
      (λ e f. nothing_moves x)
      (λ e f g. same_listing x (place_of k.contract) _ refl refl)
