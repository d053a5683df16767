-- A day file opened: broken, and sound. Assumes nothing.
use Rattle.laws.specs.Logic.{true, false, List, ◌≡◌}
use Rattle.laws.specs.Numbers.{ℕ}
use Rattle.rules.specs.DayFile.{command_place, commands_in, sound}
use Rattle.rules.specs.declared.State.{State}
use Rattle.dayfile.specs.Opening.{opening_state}
use Rattle.dayfile.specs.Opened.{no_state, opened_from}

module _ (file : List ℕ) {state : State} where
  pub opened_broken : sound file ≡ false → state ≡ no_state → record { code = 20; first = 0; commands = 0; state = state } ≡ opened_from file
  unfolding opened_from
  opened_broken w e = rw (w, e)

  pub opened_sound : sound file ≡ true → {first commands : ℕ} → first ≡ command_place file 0 → commands ≡ commands_in file → state ≡ opening_state file
      → record { code = 0; first = first; commands = commands; state = state } ≡ opened_from file
  unfolding opened_from
  opened_sound w e f g = rw (w, e, f, g)
