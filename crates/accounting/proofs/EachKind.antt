-- WHAT EACH KIND OWES OF SHAPE AND MONEY: its stages keep the shape of the state, and the last of them has made its move. Assumes
-- nothing.
use Rattle.laws.specs.Logic.{true, ◌≡◌, refl}
use Rattle.laws.specs.Numbers.{◌+◌, eqb}
use Rattle.laws.specs.Choice.{pick, by_test}
use Rattle.rules.specs.Change.{asked}
use Rattle.rules.specs.Exchange.{Exchange, place_of}
use Rattle.rules.specs.Kinds.{nothing, kind_of, code_of, decide, last_of, step}
use Rattle.rules.specs.Quote.{offered}
use Rattle.rules.specs.Step.{deposited, withdrawn, entered_of, inserted, removed, cancelled, pulled, phase_changed, settled_all}
use Rattle.rules.specs.WellFormed.{replays}
use Rattle.rules.specs.declared.Command.{Command}
use Rattle.rules.specs.declared.Command.TheVariants.{Malformed, Deposit, Withdraw, Insert, Cancel, Pull, Phase, Settle, Quote, Change}
use Rattle.theory.proofs.Stages.{decided, Each, each_last}
use Rattle.accounting.specs.Shape.{Shaped}
use Rattle.accounting.proofs.ChangeMoves.{changed_shape, changed_moves}
use Rattle.accounting.proofs.QuoteMoves.{quoted_shape, quoted_moves}
use Rattle.accounting.proofs.StepMoves.{Makes, nothing_moves, same_listing, paid_in_moves, paid_out_moves, entered_moves, matched_moves, settled_moves}
use Rattle.accounting.proofs.StepShape.{SameShape, same_shape, listing_replaced, paid_shape, entered_shape, matched_shape, settled_shape}

module _ (x : Exchange) where
  pub kind_shape : (command : Command) → Each (SameShape x) (kind_of x command).effect.stages
  unfolding kind_of deposited withdrawn inserted cancelled pulled removed phase_changed settled_all
  kind_shape Malformed = tt
  kind_shape (Deposit account amount) = (paid_shape x (place_of account) _, tt)
  kind_shape (Withdraw account amount) = (paid_shape x (place_of account) _, tt)
  kind_shape (Insert o) = (entered_shape x o (entered_of x x.next 0 o) (x.next + 1), tt)
  kind_shape (Cancel account contract operator number) = (listing_replaced x (place_of contract) _, tt)
  kind_shape (Pull account contract operator) = (listing_replaced x (place_of contract) _, tt)
  kind_shape (Phase contract phase) = (matched_shape x (place_of contract) phase, tt)
  kind_shape Settle = (settled_shape x, tt)
  kind_shape (Quote account contract lots buy sell) = quoted_shape x (offered account contract lots buy sell)
  kind_shape (Change account contract number lots price) = changed_shape x (asked account contract number lots price)

  kind_moves : replays x ≡ true → Shaped x → (command : Command) → Makes x (kind_of x command).moves (last_of x (kind_of x command).effect.stages)
  unfolding kind_of deposited withdrawn inserted cancelled pulled removed phase_changed settled_all
  kind_moves r h Malformed = nothing_moves x
  kind_moves r h (Deposit account amount) = paid_in_moves x (place_of account) amount
  kind_moves r h (Withdraw account amount) = paid_out_moves x (place_of account) amount
  kind_moves r h (Insert o) = entered_moves x o (entered_of x x.next 0 o) (x.next + 1)
  kind_moves r h (Cancel account contract operator number) = same_listing x (place_of contract) _ refl refl
  kind_moves r h (Pull account contract operator) = same_listing x (place_of contract) _ refl refl
  kind_moves r h (Phase contract phase) = matched_moves x (place_of contract) phase
  kind_moves r h Settle = settled_moves x r h
  kind_moves r h (Quote account contract lots buy sell) = quoted_moves x (offered account contract lots buy sell)
  kind_moves r h (Change account contract number lots price) = changed_moves x (asked account contract number lots price)

  -- ---- a step, accepted or refused

  pub step_shape : (command : Command) → SameShape x (step x command)
  unfolding step
  step_shape command =
      decided (λ d. SameShape x (last_of x d.stages)) x command
      (λ e. each_last (SameShape x) x (kind_of x command).effect.stages (same_shape x) (kind_shape command))
      (λ e. same_shape x)

  pub step_moves : replays x ≡ true → Shaped x → (command : Command) →
      Makes x (pick (eqb (code_of x command) 0) (kind_of x command).moves nothing) (step x command)
  unfolding step decide
  step_moves r h command = by_test (eqb (code_of x command) 0) (λ e. rw e (kind_moves r h command)) (λ e. rw e (nothing_moves x))
