-- The choice by code, once, and what holds of the state that a command leaves from what holds of its stages. Assumes nothing.
use Rattle.laws.specs.Logic.{List, [], ◌∷◌, ◌≡◌}
use Rattle.laws.specs.Numbers.{eqb-true, eqb-false, eqb}
use Rattle.laws.specs.Choice.{by_test}
use Rattle.rules.specs.Exchange.{Exchange}
use Rattle.rules.specs.Kinds.{Decision, refused, done, kind_of, code_of, decide, last_of}
use Rattle.rules.specs.declared.Command.{Command}

-- a command is accepted and done, or refused
pub decided : (P : Decision → Type 0) (x : Exchange) (command : Command) → (code_of x command ≡ 0 → P (done (kind_of x command).effect)) →
    ((code_of x command ≡ 0 → ⊥) → P (refused (code_of x command))) →
    P (decide x command)
unfolding decide
decided P x command accepts refuses =
    by_test (eqb (code_of x command) 0) (λ e. rw e (accepts (eqb-true (code_of x command) 0 e)))
    (λ e. rw e (refuses (eqb-false (code_of x command) 0 e)))

-- ---- stages

abbrev pub Each : (Exchange → Type 0) → List Exchange → Type 0
Each P [] = Unit {0}
Each P (y ∷ ys) = P y × Each P ys

pub each_last : (P : Exchange → Type 0) (x : Exchange) (ys : List Exchange) → P x → Each P ys → P (last_of x ys)
each_last P x [] p ps = p
each_last P x (y ∷ ys) p ps = each_last P y ys ps.0 ps.1
