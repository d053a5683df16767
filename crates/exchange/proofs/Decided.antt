-- From what is decided of a command to the response: the update written, or what is left carried out. Assumes nothing.
use mathlib.Core.Bool.{Bool, true, false}
use mathlib.Core.List.{List}
use mathlib.Core.Path.{◌≡◌, refl, subst, subst⁻¹, sym}
use Prim.Native.Nat.{ℕ, ◌<◌}
use native.Mathlib.Omega.{arith}
use lib.IntN.{ℤ}
use lib.ListN.{get_or}
use mir.Facts.{to_z-of_z}
use mir.Syntax.{w64}
use mir.Val.{SFits, of_z, to_z}
use Rattle.laws.specs.Choice.{pick}
use Rattle.rules.specs.Bounds.{max_accounts, max_contracts}
use Rattle.rules.specs.Command.{is_settle}
use Rattle.rules.specs.Exchange.{is_absent, no_account, place_of}
use Rattle.rules.specs.Memory.{Memory, WellFormedState, memory, step_in, well_formed_memory}
use Rattle.rules.specs.declared.Answer.{Answer}
use Rattle.rules.specs.declared.Command.{Command}
use Rattle.rules.specs.declared.Command.TheVariants.{Malformed}
use Rattle.rules.specs.declared.State.{State}
use Rattle.commands.specs.Accounts.{account_number, place_among}
use Rattle.engine.specs.Decision.{CarriedIs, CarriedOut, HeldBy, UpdateIs, command_left, refused_by, with_listed, DecisionIs, left_for, Carriable, PendingDone, PendingReady}
use Rattle.engine.specs.Outcome.{OutcomeIs, with_accounts_in, with_balance_at}
use Rattle.engine.specs.declared.answers.Outcome.{Outcome}
use Rattle.engine.specs.declared.updates.Carried.{Carried}
use Rattle.engine.specs.declared.updates.Decision.{Decision}
use Rattle.engine.specs.declared.updates.Listed.{Listed}
use Rattle.engine.specs.declared.updates.Pending.{Pending}
use Rattle.engine.specs.declared.updates.Remaining.{Remaining}
use Rattle.engine.specs.declared.updates.Update.{Update}
use Rattle.engine.specs.declared.updates.Update.TheVariants.{Nothing, Balance, Listing, Left, Whole}
use Rattle.engine.proofs.Decisions.{refusal_decided}
use Rattle.engine.proofs.Formed.{formed}
use Rattle.engine.proofs.Outcomes.{refusal}
use Rattle.engine.proofs.Tests.{place_below}
use Rattle.exchange.specs.Decided.{DecidedIs, SettleLeft}
use Rattle.exchange.specs.Response.{ResponseIs, no_report, with_report}
use Rattle.exchange.specs.declared.settling.Response.{Response}
use Rattle.exchange.proofs.Responses.{malformed_code, plain_response}
use Rattle.rules.specs.declared.Account.{Account}

-- ---- the account that a command names

-- it is one of 32, whatever is named
pub place_fits : {s : State} {buys sells trades : List ℕ} → WellFormedState s buys sells trades → (number : ℕ) {place : ℕ} → place ≡ place_among number s.accountcount → place < max_accounts
place_fits {s} w number e = rw e (by_absence (is_absent number s.accountcount) refl)
  where
    by_absence : (t : Bool) → is_absent number s.accountcount ≡ t → pick t 0 (place_of number) < max_accounts
    by_absence true a = omega arith
    by_absence false a = omega (arith, (place_below number s.accountcount a).1, (formed w).accounts_high)

pub held_at_lem : (s : State) (command : Command) {place : ℕ} → place ≡ place_among (account_number command) s.accountcount → HeldBy s (account_number command) (get_or s.accounts place no_account)
held_at_lem s command e = rw e

-- a command that is told to be of a kind
pub held_as : (s : State) {who : Account} {command told : Command} → command ≡ told → HeldBy s (account_number command) who → HeldBy s (account_number told) who
held_as s {who} e h = subst (λ (c : Command). HeldBy s (account_number c) who) e h

-- ---- what is decided

settle_left : (command : Command) (u : Update) → is_settle command ≡ false → SettleLeft command u
settle_left command Nothing h = h
settle_left command (Balance a balance) h = h
settle_left command (Listing l) h = h
settle_left command (Left p) h = h
settle_left command (Whole p) h = tt

pub decided_as : {m : Memory} {command told : Command} {d : Decision} {buys sells trades : List ℕ} → command ≡ told → is_settle told ≡ false → DecisionIs m told d buys sells trades
    → DecidedIs m command d buys sells trades
decided_as {m} {told = told} {d = d} {buys = buys} {sells = sells} {trades = trades} e n k =
    subst⁻¹ (λ (c : Command). DecidedIs m c d buys sells trades) e (record { decision = k; settles = settle_left told d.update n })

pub malformed_decided : {s : State} {buys sells trades : List ℕ} {command : Command} {d : Decision} → command ≡ Malformed → d ≡ refused_by 1
    → DecidedIs (memory s buys sells trades) command d buys sells trades
malformed_decided {s} {buys} {sells} {trades} e f =
    rw (e, f) (record { decision = refusal_decided (refusal s buys sells trades Malformed 1 (omega arith) (malformed_code (memory s buys sells trades)) refl) refl; settles = refl })

pub whole_decided : {s : State} {buys sells trades : List ℕ} {command : Command} {d : Decision} (p : Remaining) → command ≡ command_left p → d ≡ left_for (Whole p)
    → DecidedIs (memory s buys sells trades) command d buys sells trades
whole_decided {s} {buys} {sells} {trades} {command} p e f =
    subst⁻¹ (λ (v : Decision). DecidedIs (memory s buys sells trades) command v buys sells trades) f
    (record { decision = record { told = record { same = sym e; untouched = refl } }; settles = tt })

-- ---- a contract that is left to be written, by what was decided or by what was carried out

pub record Joined (s : State) (buys sells trades : List ℕ) (command : Command) (next : State) (listed : Listed) (buys'' sells'' trades'' : List ℕ) : Type 0 where
  pub place : listed.place < max_contracts
  pub left : memory (with_listed next listed) buys'' sells'' trades'' ≡ (step_in (memory s buys sells trades) command).memory
  pub plain : is_settle command ≡ false

pub joined_responded : {s : State} {buys sells trades : List ℕ} {command : Command} {next : State} {listed : Listed} {buys'' sells'' trades'' : List ℕ}
    → Joined s buys sells trades command next listed buys'' sells'' trades'' → {answer : Answer} → answer ≡ (step_in (memory s buys sells trades) command).answer
    → {o : Outcome} {r : Response} → o ≡ record { answer = answer; state = with_listed next listed } → r ≡ with_report o no_report
    → ResponseIs (memory s buys sells trades) command r buys'' sells'' trades''
joined_responded {s} {buys} {sells} {trades} {command} {buys'' = buys''} {sells'' = sells''} {trades'' = trades''} j ea {o} {r} f =
    plain_response _ command o r buys'' sells'' trades'' j.plain
    (subst⁻¹ (λ (v : Outcome). OutcomeIs (step_in (memory s buys sells trades) command) v buys'' sells'' trades'') f (record { answer = ea; memory = j.left }))

-- ---- the update written, or what is left carried out

module _ {s : State} {buys sells trades : List ℕ} {command : Command} {d : Decision} {buys' sells' trades' : List ℕ}
    (k : DecidedIs (memory s buys sells trades) command d buys' sells' trades') where
  told : {u : Update} → d.update ≡ u → UpdateIs (memory s buys sells trades) command d.answer u buys' sells' trades'
  told e = subst (λ (u : Update). UpdateIs (memory s buys sells trades) command d.answer u buys' sells' trades') e k.decision.told

  plain : {u : Update} → d.update ≡ u → SettleLeft command u
  plain e = subst (SettleLeft command) e k.settles

  pub nothing_left : d.update ≡ Nothing → memory s buys' sells' trades' ≡ (step_in (memory s buys sells trades) command).memory
  nothing_left e = (told e).memory

  pub nothing_responded : {o : Outcome} {r : Response} → d.update ≡ Nothing → o ≡ record { answer = d.answer; state = s } → r ≡ with_report o no_report
      → ResponseIs (memory s buys sells trades) command r buys' sells' trades'
  nothing_responded {o} {r} e f = plain_response _ command o r buys' sells' trades' (plain e) (subst⁻¹ (λ (v : Outcome). OutcomeIs (step_in (memory s buys sells trades) command) v buys' sells' trades') f (told e))

  module _ {a : ℕ} {balance : ℤ} (e : d.update ≡ Balance a balance) where
    pub balance_place : a < max_accounts
    balance_place = (told e).0

    -- as an i64 it is stored as it is
    module _ (fits : SFits w64 balance) where
      pub balance_left : memory (with_balance_at s a (to_z w64 (of_z w64 balance))) buys' sells' trades' ≡ (step_in (memory s buys sells trades) command).memory
      balance_left =
          subst⁻¹ (λ (z : ℤ). memory (with_balance_at s a z) buys' sells' trades' ≡ (step_in (memory s buys sells trades) command).memory) (to_z-of_z {w = w64} fits) (told e).1.memory

      pub balance_responded : {o : Outcome} {r : Response} → o ≡ record { answer = d.answer; state = with_balance_at s a (to_z w64 (of_z w64 balance)) } → r ≡ with_report o no_report
          → ResponseIs (memory s buys sells trades) command r buys' sells' trades'
      balance_responded {o} {r} f =
          plain_response _ command o r buys' sells' trades' (plain e)
          (subst⁻¹ (λ (v : Outcome). OutcomeIs (step_in (memory s buys sells trades) command) v buys' sells' trades') f
          (subst⁻¹ (λ (z : ℤ). OutcomeIs (step_in (memory s buys sells trades) command) (record { answer = d.answer; state = with_balance_at s a z }) buys' sells' trades') (to_z-of_z {w = w64} fits) (told e).1))

  module _ {l : Listed} (e : d.update ≡ Listing l) where
    pub listing_answered : d.answer ≡ (step_in (memory s buys sells trades) command).answer
    listing_answered = (told e).1.answer

    pub listing_joined : {next : State} {listed : Listed} {buys'' sells'' trades'' : List ℕ} → next ≡ s → listed ≡ l → buys'' ≡ buys' → sells'' ≡ sells' → trades'' ≡ trades'
        → Joined s buys sells trades command next listed buys'' sells'' trades''
    listing_joined en el eb es et = rw (en, el, eb, es, et) (record { place = (told e).0; left = (told e).1.memory; plain = plain e })

  module _ {p : Pending} (e : d.update ≡ Left p) where
    pub pending_ready : Carriable s p buys' sells' trades'
    pending_ready = (told e).ready

    module _ {t : Carried} {buys'' sells'' trades'' : List ℕ} (done : CarriedIs s p buys' sells' trades' t buys'' sells'' trades'') where
      carried : CarriedOut (memory s buys sells trades) command t buys'' sells'' trades''
      carried = (told e).gives t buys'' sells'' trades'' done

      pub pending_answered : t.answer ≡ (step_in (memory s buys sells trades) command).answer
      pending_answered = carried.outcome.answer

      pub pending_joined : {next : State} {listed : Listed} {buys₃ sells₃ trades₃ : List ℕ} → next ≡ with_accounts_in s t.accounts → listed ≡ t.listed → buys₃ ≡ buys'' → sells₃ ≡ sells'' → trades₃ ≡ trades''
          → Joined s buys sells trades command next listed buys₃ sells₃ trades₃
      pending_joined en el eb es et = rw (en, el, eb, es, et) (record { place = carried.place; left = carried.outcome.memory; plain = plain e })

  module _ {p : Remaining} (e : d.update ≡ Whole p) where
    pub whole_ready : WellFormedState s buys sells trades → WellFormedState s buys' sells' trades'
    whole_ready w = record { declared = w.declared; formed = subst⁻¹ (λ (v : Memory). well_formed_memory v ≡ true) (told e).untouched w.formed }

    pub whole_responded : {r : Response} {buys'' sells'' trades'' : List ℕ} → ResponseIs (memory s buys' sells' trades') (command_left p) r buys'' sells'' trades''
        → ResponseIs (memory s buys sells trades) command r buys'' sells'' trades''
    whole_responded {r} {buys''} {sells''} {trades''} h =
        subst (λ (c : Command). ResponseIs (memory s buys sells trades) c r buys'' sells'' trades'') (told e).same
        (subst (λ (v : Memory). ResponseIs v (command_left p) r buys'' sells'' trades'') (told e).untouched h)

-- ---- what is left, of a kind

pub pending_as : (s : State) (buys sells trades : List ℕ) {pending p : Pending} → pending ≡ p → Carriable s pending buys sells trades → PendingReady s p buys sells trades
pending_as s buys sells trades e h = subst (λ (v : Pending). PendingReady s v buys sells trades) e h.told

pub done_as : (s : State) (buys sells trades : List ℕ) {pending p : Pending} → pending ≡ p → {r : Carried} (buys' sells' trades' : List ℕ) → PendingDone s p buys sells trades r buys' sells' trades'
    → CarriedIs s pending buys sells trades r buys' sells' trades'
done_as s buys sells trades e {r} buys' sells' trades' h = subst⁻¹ (λ (v : Pending). CarriedIs s v buys sells trades r buys' sells' trades') e (record { told = h })

pub plain_left : (m : Memory) {remaining p : Remaining} (o : Outcome) {r : Response} {buys sells trades : List ℕ} → remaining ≡ p → is_settle (command_left p) ≡ false
    → OutcomeIs (step_in m (command_left p)) o buys sells trades → r ≡ with_report o no_report → ResponseIs m (command_left remaining) r buys sells trades
plain_left m {p = p} o {r} {buys} {sells} {trades} e n k f =
    subst⁻¹ (λ (v : Remaining). ResponseIs m (command_left v) r buys sells trades) e (plain_response m (command_left p) o r buys sells trades n k f)

pub settled_left : (m : Memory) {remaining p : Remaining} {r : Response} {buys sells trades : List ℕ} → remaining ≡ p → ResponseIs m (command_left p) r buys sells trades
    → ResponseIs m (command_left remaining) r buys sells trades
settled_left m {r = r} {buys = buys} {sells = sells} {trades = trades} e k = subst⁻¹ (λ (v : Remaining). ResponseIs m (command_left v) r buys sells trades) e k
