-- A command by its number and by the tag of the declared enum, the order that an insert's bytes hold, what a command names and where it
-- works: laws by clauses on the kinds, so that no other proof needs them. Assumes nothing.
use denote.Enum.Declared.{tag_of}
use lib.Dec.{T}
use lib.IntN.{ℤ}
use mir.Val.{has_key}
use types.Run.{OneOf, miss}
use Rattle.laws.specs.Logic.{Bool, true, false, not, true≢false, false≢true, List, [], ◌∷◌, ◌++◌, ◌≡◌, refl, sym, ap, subst, ◌∙◌}
use Rattle.laws.specs.Numbers.{ℕ, ◌+◌, arith, ne_eqb, eqb}
use Rattle.laws.specs.Choice.{ap_pick, pick, pick_same}
use Rattle.rules.specs.Answers.{Refusal, absent_refusals, cancel_refusals, deposit_refusals, first_of, insert_refusals, phase_refusals, pull_refusals, withdraw_refusals}
use Rattle.rules.specs.Change.{asked, change_refusals}
use Rattle.rules.specs.Command.{Field, unused, holds, account_field, cancel_of, change_of, command_of, contract_field, deposit_of, insert_of, is_payment, is_settle, kind_number, new_order, phase_of, pull_of, quote_of, settle_of, withdraw_of}
use Rattle.rules.specs.Exchange.{Exchange, absent, place_of}
use Rattle.rules.specs.Kinds.{code_of, kind_of, last_of}
use Rattle.rules.specs.Quote.{offered, quote_refusals}
use Rattle.rules.specs.Step.{cancelled, deposited, inserted, paid, phase_changed, pulled, removed, withdrawn}
use Rattle.rules.specs.Touches.{is_blank}
use Rattle.rules.specs.declared.{Command.Command, NewOrder.NewOrder, Trade.Trade}
use Rattle.rules.specs.declared.Command.TheVariants.{Malformed, Deposit, Withdraw, Insert, Cancel, Pull, Phase, Settle, Quote, Change}
use Rattle.rules.specs.declared.Record.{Record}
use Rattle.rules.specs.contracts.Command.{the_type}
use Rattle.theory.proofs.InContract.{InContract, changed_in, entered_in_lem, matched_in, quoted_in, relisted_in}
use Rattle.theory.proofs.Refusals.{both_zero, failed}

tag_is : (d : Command) → tag_of the_type d ≡ kind_number d
tag_is Malformed = refl
tag_is (Deposit account amount) = refl
tag_is (Withdraw account amount) = refl
tag_is (Insert o) = refl
tag_is (Cancel account contract operator number) = refl
tag_is (Pull account contract operator) = refl
tag_is (Phase contract phase) = refl
tag_is Settle = refl
tag_is (Quote account contract lots buy sell) = refl
tag_is (Change account contract number lots price) = refl

-- the tags of all kinds but one: what is known of a command where a `match` or a `let .. else` has that one apart
abbrev but : ℕ → List ℕ → List ℕ
but n [] = []
but n (k ∷ ks) = pick (eqb k n) (but n ks) (k ∷ but n ks)

abbrev pub all_but : ℕ → List ℕ
all_but kind = but kind (0 ∷ 1 ∷ 2 ∷ 3 ∷ 4 ∷ 5 ∷ 6 ∷ 7 ∷ 8 ∷ 9 ∷ [])

pub other_kind : (n : ℕ) → T (not (has_key (all_but n) n)) → (d : Command) → OneOf (all_but n) (tag_of the_type d) → eqb (kind_number d) n ≡ false
other_kind n h d o = ne_eqb (kind_number d) n (λ (e : kind_number d ≡ n). miss (all_but n) n h (subst (OneOf (all_but n)) (tag_is d ∙ e) o))

pub settle_is : (d : Command) → is_settle d ≡ true → d ≡ Settle
settle_is Malformed e = absurd (false≢true e)
settle_is (Deposit account amount) e = absurd (false≢true e)
settle_is (Withdraw account amount) e = absurd (false≢true e)
settle_is (Insert o) e = absurd (false≢true e)
settle_is (Cancel account contract operator number) e = absurd (false≢true e)
settle_is (Pull account contract operator) e = absurd (false≢true e)
settle_is (Phase contract phase) e = absurd (false≢true e)
settle_is Settle e = refl
settle_is (Quote account contract lots buy sell) e = absurd (false≢true e)
settle_is (Change account contract number lots price) e = absurd (false≢true e)

-- an insert's order is the one that its bytes hold
abbrev order_in : NewOrder → Command → NewOrder
order_in o Malformed = o
order_in o (Deposit account amount) = o
order_in o (Withdraw account amount) = o
order_in o (Insert p) = p
order_in o (Cancel account contract operator number) = o
order_in o (Pull account contract operator) = o
order_in o (Phase contract phase) = o
order_in o Settle = o
order_in o (Quote account contract lots buy sell) = o
order_in o (Change account contract number lots price) = o

either_order : (o : NewOrder) (test : Bool) (d e : Command) → order_in o (pick test d e) ≡ pick test (order_in o d) (order_in o e)
either_order o test d e = ap_pick (order_in o) test d e

pub inserts_its_order : (r : Record) {o : NewOrder} → command_of r ≡ Insert o → o ≡ new_order r
unfolding command_of deposit_of withdraw_of insert_of cancel_of pull_of phase_of settle_of quote_of change_of
inserts_its_order r e = ap (order_in (new_order r)) (sym e) ∙ simp (either_order, pick_same)

-- ---- what a command names

-- a list of refusals that begins with those of absent numbers
both_there : (x : Exchange) (account contract : ℕ) (rs : List Refusal) → first_of (absent_refusals x account contract ++ rs) ≡ 0 →
    (absent account x.accounts ≡ false) × (absent contract x.listings ≡ false)
both_there x account contract rs e = let f = (both_zero (absent_refusals x account contract) rs (omega arith) e).0 in (f.0, f.1.0)

-- of an accepted command neither field is blank
pub accepted_named : (x : Exchange) (command : Command) → code_of x command ≡ 0 →
    (is_blank (account_field command) x.accounts ≡ false) × (is_blank (contract_field command) x.listings ≡ false)
unfolding code_of kind_of deposit_refusals withdraw_refusals insert_refusals cancel_refusals pull_refusals phase_refusals quote_refusals change_refusals
accepted_named x Malformed e = (refl, refl)
accepted_named x (Deposit account amount) e = ((failed (kind_of x (Deposit account amount)).refusals (omega arith) e).0, refl)
accepted_named x (Withdraw account amount) e = ((failed (kind_of x (Withdraw account amount)).refusals (omega arith) e).0, refl)
accepted_named x (Insert o) e = both_there x o.account o.contract _ e
accepted_named x (Cancel account contract operator number) e = both_there x account contract _ e
accepted_named x (Pull account contract operator) e = both_there x account contract _ e
accepted_named x (Phase contract phase) e = (refl, (failed (kind_of x (Phase contract phase)).refusals (omega arith) e).1.0)
accepted_named x Settle e = (refl, refl)
accepted_named x (Quote account contract lots buy sell) e = both_there x account contract _ e
accepted_named x (Change account contract number lots price) e = both_there x account contract _ e

-- ---- where a command works: in the contract that it names, or on the balance of the account that it names

-- in the contract of a field, with the trades that it makes there; where there is none, nothing changes
abbrev pub Works : Field → Exchange → Exchange → Type 0
Works unused x y = y ≡ x
Works (holds number) x y = (ts : List Trade) × InContract (place_of number) ts x y

-- a command that is no payment and no settlement
pub kind_works : (x : Exchange) (command : Command) → is_payment command ≡ false → is_settle command ≡ false →
    Works (contract_field command) x (last_of x (kind_of x command).effect.stages)
unfolding kind_of inserted cancelled pulled removed phase_changed
kind_works x Malformed p n = refl
kind_works x (Deposit account amount) p n = absurd (true≢false p)
kind_works x (Withdraw account amount) p n = absurd (true≢false p)
kind_works x (Insert o) p n = (_, entered_in_lem x o x.next 0 (x.next + 1))
kind_works x (Cancel account contract operator number) p n = ([], relisted_in (place_of contract) x _)
kind_works x (Pull account contract operator) p n = ([], relisted_in (place_of contract) x _)
kind_works x (Phase contract phase) p n = (_, matched_in x (place_of contract) phase)
kind_works x Settle p n = absurd (true≢false n)
kind_works x (Quote account contract lots buy sell) p n = (_, quoted_in x (offered account contract lots buy sell))
kind_works x (Change account contract number lots price) p n = (_, changed_in x (asked account contract number lots price))

-- the account of a field
abbrev pub Pays : Field → Exchange → Exchange → Type 0
Pays unused x y = y ≡ x
Pays (holds number) x y = (balance : ℤ) × (y ≡ paid x (place_of number) balance)

-- a payment
pub kind_pays : (x : Exchange) (command : Command) → is_payment command ≡ true → Pays (account_field command) x (last_of x (kind_of x command).effect.stages)
unfolding kind_of deposited withdrawn
kind_pays x Malformed p = absurd (false≢true p)
kind_pays x (Deposit account amount) p = (_, refl)
kind_pays x (Withdraw account amount) p = (_, refl)
kind_pays x (Insert o) p = absurd (false≢true p)
kind_pays x (Cancel account contract operator number) p = absurd (false≢true p)
kind_pays x (Pull account contract operator) p = absurd (false≢true p)
kind_pays x (Phase contract phase) p = absurd (false≢true p)
kind_pays x Settle p = absurd (false≢true p)
kind_pays x (Quote account contract lots buy sell) p = absurd (false≢true p)
kind_pays x (Change account contract number lots price) p = absurd (false≢true p)
