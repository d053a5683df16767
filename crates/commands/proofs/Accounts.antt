-- The place of the account that a command names, as the code finds it. Assumes nothing.
use Rattle.laws.specs.Logic.{◌≢◌, ◌≡◌, sym, ap, ◌∙◌}
use Rattle.laws.specs.Numbers.{ℕ, ◌-◌, ◌<◌, ◌≤◌, ne_eqb, lt-ltb, le-ltb}
use Rattle.rules.specs.declared.Command.{Command}
use Rattle.commands.specs.Accounts.{account_number, place_among}

-- a command that is told to be of a kind
pub number_as : {command told : Command} → command ≡ told → account_number told ≡ account_number command
number_as e = ap account_number (sym e)

module _ {number named : ℕ} (is : number ≡ named) (accounts : ℕ) where
  pub first_of_none : number ≡ 0 → 0 ≡ place_among named accounts
  first_of_none e = rw (← is, e)

  module _ (some : number ≢ 0) {wide : ℕ} (same : wide ≡ number) where
    pub first_of_more : accounts < wide → 0 ≡ place_among named accounts
    first_of_more h = rw (← is, ne_eqb number 0 some, ← same, lt-ltb accounts wide h)

    pub place_named : wide ≤ accounts → {place : ℕ} → place ≡ number - 1 → place ≡ place_among named accounts
    place_named h e = e ∙ rw (← is, ne_eqb number 0 some, ← same, le-ltb accounts wide h)
